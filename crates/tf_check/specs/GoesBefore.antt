-- The order by ratio, as a test.
use Rattle.std.specs.Prelude.{Bool, nat_lt, ◌&&◌, ◌*◌, ◌==◌, ◌||◌}
use Rattle.tf_check.specs.declared.weighted_job.WeightedJob.{WeightedJob}

-- greater weight for its time first, ties by the smaller number
abbrev pub goes_before : WeightedJob → WeightedJob → Bool
goes_before x y =
    nat_lt (y.weight * x.time) (x.weight * y.time)
    || ((y.weight * x.time == x.weight * y.time) && nat_lt x.job y.job)
