-- A job that by itself is no reason to refuse a task.
use Rattle.std.specs.Prelude.{Bool, not, is_some, ◌&&◌, ◌||◌}
use Rattle.tf_model.specs.ClassTable.{is_shop}
use Rattle.tf_model.specs.JobFields.{JobFields}
use Rattle.tf_model.specs.Prepare.{has_wrong_times, has_zero_time, lacking}
use Rattle.tf_model.specs.declared.class.Class.{Class}

-- its times are of the class's kind, no field is wanting, and it takes time
abbrev pub is_complete : Class → JobFields → Bool
is_complete class job =
    not (has_wrong_times class job)
    && (not (is_some (lacking class job)) && (is_shop class || not (has_zero_time job)))
