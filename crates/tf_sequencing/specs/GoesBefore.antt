-- The order of a rule, with numbers, as a test.
use Rattle.std.specs.Prelude.{Bool, nat_lt, not, ◌&&◌, ◌||◌}
use Rattle.tf_sequencing.specs.declared.rule.Rule.{Rule}
use Rattle.tf_sequencing.specs.declared.ruled_job.RuledJob.{RuledJob}
use Rattle.tf_sequencing.specs.Rules.{comes_before}

-- by the rule, ties by the smaller number
abbrev pub goes_before : Rule → RuledJob → RuledJob → Bool
goes_before rule x y =
    comes_before rule x y || (not (comes_before rule y x) && nat_lt x.job y.job)
