-- Jobs in the order of a rule (Pinedo, chapters 2 and 3).
use Rattle.std.specs.Prelude.{◌≡◌, ◌*◌, ◌≤◌, Bool, false, nat_lt, int_lt, List}
use Rattle.std.specs.List.{AllPairs}
use Rattle.tf_sequencing.specs.declared.rule.Rule.{Rule}
use Rattle.tf_sequencing.specs.declared.rule.Rule.TheVariants.{Edd, Spt, Lpt, Wspt, Erd}
use Rattle.tf_sequencing.specs.declared.ruled_job.RuledJob.{RuledJob}

-- the rule has job x before job y
abbrev pub comes_before : Rule → RuledJob → RuledJob → Bool
comes_before Edd x y = int_lt x.due y.due
comes_before Spt x y = nat_lt x.time y.time
comes_before Lpt x y = nat_lt y.time x.time
comes_before Wspt x y = nat_lt (y.weight * x.time) (x.weight * y.time)
comes_before Erd x y = nat_lt x.release y.release

-- the jobs rise by the rule, and by number where it makes no difference
pub record IsByRule (rule : Rule) (xs : List RuledJob) : Type 0 where
  pub rises : AllPairs (λ x y. comes_before rule y x ≡ false) xs
  pub ties : AllPairs (λ x y. comes_before rule x y ≡ false → x.job ≤ y.job) xs
