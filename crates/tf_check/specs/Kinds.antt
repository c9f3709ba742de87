-- Which kind of certificate bounds the tasks of which class: each kind asks of the class what its
-- bound rests on.
use Rattle.std.specs.Prelude.{Bool, not, ◌&&◌}
use Rattle.tf_model.specs.declared.class.Class.{Class}
use Rattle.tf_model.specs.ClassTable.{is_single, is_parallel, is_shop, is_flow, may_break, is_released, is_span, is_due, is_sum}

-- the load of all machines
abbrev pub takes_load : Class → Bool
takes_load c = is_span c && is_parallel c

-- the time of one job
abbrev pub takes_one_job : Class → Bool
takes_one_job c = is_span c && not (is_flow c)

-- pairs of jobs
abbrev pub takes_pairs : Class → Bool
takes_pairs c = is_sum c && is_single c

-- the last job of a set
abbrev pub takes_last_of : Class → Bool
takes_last_of c = not (is_sum c) && (is_single c && not (is_released c))

-- a window
abbrev pub takes_window : Class → Bool
takes_window c = is_due c && (is_single c && is_released c)

-- a split of the jobs
abbrev pub takes_split : Class → Bool
takes_split c = is_span c && is_flow c

-- the load of one machine
abbrev pub takes_machine : Class → Bool
takes_machine c = is_span c && (is_shop c && not (is_flow c))

-- jobs by rank
abbrev pub takes_ranks : Class → Bool
takes_ranks c = is_sum c && (is_parallel c && not (may_break c))
