-- When a solver's answer is accepted: it costs no more than its certificate's bound.
use Rattle.std.proofs.Common.{◌≡◌, ℤ, ◌≤ℤ◌, List, Ok, arith}
use Rattle.std.proofs.lemmas.Int.{ints}
use Rattle.tf_model.specs.Cost.{cost}
use Rattle.tf_model.specs.SchedulingTask.{SchedulingTask}
use Rattle.tf_model.specs.Sound.{IsSound}
use Rattle.tf_model.specs.Timetable.{Timetable}
use Rattle.tf_schedule.specs.declared.piece.Piece.{Piece}
use Rattle.tf_check.specs.Accepted.{IsAccepted}
use Rattle.tf_check.specs.Bound.{bound_by}
use Rattle.tf_check.specs.Claim.{Claim}
use Rattle.tf_check.specs.Laws.{bound_law}
use Rattle.tf_check.specs.Verdict.{DrawsFitting}
use Rattle.tf_check.proofs.Verdicts.{accepted_from}

-- the pieces draw rows that fit the task and cost at most v, and v is the certificate's bound
pub record IsSolution (k : SchedulingTask) (ps : List Piece) (v : ℤ) (claim : Claim) : Type 0 where
  pub rows : Timetable
  pub fitting : DrawsFitting k ps rows
  pub most : cost k rows ≤ℤ v
  pub bounded : bound_by claim k ≡ Ok v

-- by the law of the bounds the rows cost no less, so v is their cost
pub solution_accepted : (k : SchedulingTask) (ps : List Piece) (v : ℤ) (claim : Claim) → IsSound k
    → IsSolution k ps v claim
    → IsAccepted k (record { pieces = ps; value = v; certificate = claim })
solution_accepted k ps v claim sound solution =
    let least : v ≤ℤ cost k solution.rows =
    bound_law claim k solution.rows v sound solution.bounded solution.fitting.fits in
    accepted_from k (record { pieces = ps; value = v; certificate = claim }) v
    (record {
      rows = solution.rows;
      fitting = solution.fitting;
      value = omega (arith, ints, solution.most);
    }) solution.bounded (omega (arith, ints))
