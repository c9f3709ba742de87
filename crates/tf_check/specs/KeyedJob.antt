-- Jobs with keys.
use Rattle.std.specs.Ordering.{nat_cmp, int_cmp, ordering_then}
use Rattle.std.specs.declared.cmp.Ordering.{Ordering}
use Rattle.tf_check.specs.declared.keyed_job.KeyedJob.{KeyedJob}

-- the greater has the greater key, or the same key and the greater number
abbrev pub key_cmp : KeyedJob → KeyedJob → Ordering
key_cmp a b = ordering_then (int_cmp a.key b.key) (nat_cmp a.job b.job)
