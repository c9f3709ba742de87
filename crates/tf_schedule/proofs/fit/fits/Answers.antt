use Rattle.std.proofs.Common.{subst}
use Rattle.tf_model.specs.Feasible.{Fits}
use Rattle.tf_schedule.specs.Drawing.{drawing}
use Rattle.tf_schedule.specs.Judged.{HasFit}
use Rattle.tf_schedule.proofs.Permuted.{drawing_only}
use Rattle.tf_schedule.proofs.Excludes.{no_misfit}
use Rattle.tf_schedule.proofs.fit.fits.Goals as goal

pub returns-clause-judged : goal.returns-clause-judged
returns-clause-judged g c =
    let h = subst (HasFit c.args.task.now c.args.schedule.now) c.in_ok-_cost.was
    c.in_ok-fit.ensures.fit in (h.draws, h.fits)

-- pieces that draw a timetable that fits have no misfit
pub returns-in_err-_cost-clause-fitting : goal.returns-in_err-_cost-clause-fitting
returns-in_err-_cost-clause-fitting g c rows draws fits =
    let k = c.args.task.now in
    let ps = c.args.schedule.now in
    let h = subst (HasFit k ps) c.in_err-_cost.was c.in_ok-fit.ensures.fit in
    let drawn : Fits k (drawing k.machines ps) =
    subst (Fits k) (drawing_only k.machines ps rows draws) fits in
    absurd (h.1 (no_misfit k ps c.judge.ensures.schedule draws.numbered draws.on_machines drawn _ h.0))
