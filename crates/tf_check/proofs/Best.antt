-- An answer that is accepted is best.
use Rattle.std.proofs.Common.{subst, arith}
use Rattle.std.proofs.lemmas.Int.{ints}
use Rattle.tf_model.specs.Cost.{IsBest}
use Rattle.tf_model.specs.SchedulingTask.{SchedulingTask}
use Rattle.tf_model.specs.Sound.{IsSound}
use Rattle.tf_schedule.specs.Drawing.{drawing}
use Rattle.tf_schedule.proofs.Permuted.{drawing_only}
use Rattle.tf_check.specs.Claim.{AnswerData}
use Rattle.tf_check.specs.Accepted.{IsAccepted, IsBestAnswer}
use Rattle.tf_check.specs.Laws.{bound_law}

pub accepted-best : (k : SchedulingTask) (a : AnswerData) → IsSound k → IsAccepted k a
    → IsBestAnswer k a
accepted-best k a sound accepted = record {
  rows = accepted.rows;
  pieces = accepted.pieces;
  draws = accepted.draws;
  best = record {
    fits = accepted.fits;
    value = accepted.value;
    least = λ other fits. omega (
      arith,
      ints,
      accepted.enough,
      bound_law a.certificate k other accepted.bound sound accepted.bounded fits,
    );
  };
}

-- and so is what its pieces draw
pub accepted-best_drawing : (k : SchedulingTask) (a : AnswerData) → IsSound k → IsAccepted k a
    → IsBest k (drawing k.machines a.pieces) a.value
accepted-best_drawing k a sound accepted =
    let answer = accepted-best k a sound accepted in
    subst (λ rows. IsBest k rows a.value)
    (drawing_only k.machines a.pieces answer.rows answer.draws)
    answer.best
