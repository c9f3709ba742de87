use Rattle.std.proofs.Common.{refl, sym}
use Rattle.std.proofs.lemmas.Result.{err_from_is_err_and}
use Rattle.tf_read.specs.CostField.{step_at}
use Rattle.tf_read.proofs.Each.{fault_of, each_next, each_faults, each_done}
use Rattle.tf_read.proofs.cost_field.steps_at.Goals as goal

pub returns-in_err-step : goal.returns-in_err-step
returns-in_err-step g c = let p =
    err_from_is_err_and c.from_residual-in_err-step.result c.from_residual-in_err-step.ensures.1 in
    rw (p.1, p.2)
    (each_faults (λ k. step_at c.args.line) _ _ _ _ _ _ _ _ c.loop-part.invariant
    c.in-Some.ensures.parts refl (fault_of _ _ (sym c.in_err-step.ensures)))

pub loop-part-preserved : goal.loop-part-preserved
loop-part-preserved g c =
    each_next (λ k. step_at c.args.line) _ _ _ _ _ _ _ _ _ _ c.in_ok-push.ensures.items
    c.in_ok-push.ensures.len refl c.in-Some.ensures.parts (sym c.in_ok-step.ensures)
    c.loop-part.invariant

pub returns : goal.returns
returns g c =
    each_done (λ k. step_at c.args.line) _ _ _ _ c.loop-part.invariant c.in_default.ensures.parts
