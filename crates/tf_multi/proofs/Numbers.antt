-- Lists of numbers, and numbers that are cast.
use Rattle.std.proofs.Common.{pos, ◌≤◌, ◌≡◌, ◌≢◌, ℕ, cond, eqb, List, arith}
use Rattle.std.specs.List.{AllPairs}
use Rattle.std.specs.List.Sorted.{IsPermutation}
use Rattle.std.proofs.lemmas.Int.{to_z_pos}
use Rattle.std.proofs.lemmas.List.Sorted.{sum_by-IsPermutation}
use mir.Syntax.{w64}
use mir.Val.{to_z}
use Rattle.tf_model.specs.Limit.{limit}
use Rattle.tf_model.specs.SchedulingTask.{SchedulingTask, all_jobs}
use Rattle.tf_model.proofs.Loads.{IsDistinct-all_jobs}
pub use Rattle.tf_model.proofs.Ranges.{range_push}
use Rattle.tf_model.proofs.Work.{IsDistinct, distinct_apart}

-- ---- all jobs, in any order

module _ (task : SchedulingTask) (order : List ℕ) (whole : IsPermutation (all_jobs task) order)
  where
    pub distinct_in_order : IsDistinct order
    distinct_in_order c = omega (
      arith,
      sum_by-IsPermutation (λ j. cond (eqb c j) 1 0) (all_jobs task) order whole,
      IsDistinct-all_jobs task c,
    )

    pub apart_in_order : AllPairs (λ i j. i ≢ j) order
    apart_in_order = distinct_apart order distinct_in_order

-- ---- casts

-- a value within the limit stays itself when it is cast
pub cast_value : (v : ℕ) → v ≤ limit → to_z w64 v ≡ pos v
cast_value v within = to_z_pos w64 v (omega arith)
