-- Lawler's rule: the answer that is built from the back.
use Rattle.std.specs.Prelude.{◌≡◌, ℕ, List, [], take, reverse}
use Rattle.tf_model.specs.SchedulingTask.{SchedulingTask}
use Rattle.tf_schedule.specs.declared.piece.Piece.{Piece}
use Rattle.tf_schedule.specs.SemiActive.{laid}
use Rattle.tf_schedule.specs.Sequence.{in_sequence}
use Rattle.tf_check.specs.Claim.{Claim, ByLastOf}
use Rattle.tf_single.specs.declared.backward.Step.{Step}
use Rattle.tf_single.specs.Backward.{AreChosen, IsDearest, rest_of}

-- all jobs were taken one after another, each the choice for last among those that were left; the
-- pieces are those jobs from the last to the first, and the certificate the jobs that were left at
-- the first of the dearest steps
pub record IsFromTheBack (k : SchedulingTask) (pieces : List Piece) (claim : Claim) : Type 0 where
  pub taken : List ℕ
  pub chosen : AreChosen k taken
  pub all : rest_of k taken ≡ []
  pub are : pieces ≡ laid (in_sequence k (reverse taken))
  pub dearest : Step
  pub first : IsDearest k taken dearest
  pub certificate : claim ≡ ByLastOf (rest_of k (take dearest.place taken))
