use Rattle.std.proofs.Common.{ℤ, List, Result, Ok, Err}
use Rattle.std.specs.List.Sorted.{IsPermutation}
use Rattle.tf_model.specs.SchedulingTask.{SchedulingTask}
use Rattle.tf_schedule.specs.declared.fit.Misfit.{Misfit}
use Rattle.tf_schedule.specs.declared.piece.Piece.{Piece}
use Rattle.tf_schedule.specs.Drawing.{drawing}
use Rattle.tf_schedule.specs.Judged.{HasFit}
use Rattle.tf_schedule.specs.Schedule.{IsSchedule}
use Rattle.tf_check.specs.Judgement.{IsJudged, fit_from}
use Rattle.tf_check.proofs.Verdicts.{draws_fitting}
use Rattle.tf_check.proofs.judgement.judge_answer.Goals as goal

-- from the schedule to the pieces that it sorts
judged : (k : SchedulingTask) (ps qs : List Piece) (fit : Result ℤ Misfit) → IsPermutation ps qs
    → IsSchedule qs → HasFit k qs fit → IsJudged k ps (fit_from fit)
judged k ps qs (Ok value) kept schedule h = (
  drawing k.machines qs,
  draws_fitting k ps qs
      (record { kept = kept; schedule = schedule; draws = h.draws; fits = h.fits }),
  h.costs,
)
judged k ps qs (Err misfit) kept schedule h = (qs, kept, schedule, h.0, h.1)

pub returns-clause-fit : goal.returns-clause-fit
returns-clause-fit g c =
    rw c.fit_from.ensures
    (judged c.args.task.now c.args.pieces.items c.in-Ok.schedule c.in_ok-fit.field-0.fit
    c.in-Ok.ensures.kept c.in-Ok.ensures.schedule
    c.in_ok-fit.ensures.fit)
