use Rattle.std.proofs.Common.{refl, sym, ap, ◌∙◌}
use Rattle.std.specs.List.{list_all}
use Rattle.tf_read.specs.CostField.{is_step, step_at}
use Rattle.tf_read.proofs.Each.{each_next, each_done}
use Rattle.tf_read.proofs.UsualSteps.{form_next, nothing_left}
use Rattle.tf_read.proofs.cost_field.usual_steps.Goals as goal

pub loop-rest-preserved : goal.loop-rest-preserved
loop-rest-preserved g c =
    let push = c.in_ok-push.ensures in
    let step = c.in-Some.ensures.step in
    record {
      form = sym (form_next c.loop-rest.rest.now step.part c.in-Some.after.now step.is step.form)
          ∙ c.loop-rest.invariant.form;
      read = λ line.
          each_next (λ k. step_at line) _ _ _ _ _ _ _ _ _ _ push.items push.len refl step.is
          (step.read line) (c.loop-rest.invariant.read line);
    }

pub returns : goal.returns
returns g c =
    let over = nothing_left _ (sym c.is_empty.ensures ∙ c.loop-rest-test.false) in
    record {
      form = sym c.loop-rest.invariant.form ∙ ap (list_all is_step) over;
      read = λ line. each_done (λ k. step_at line) _ _ _ _ (c.loop-rest.invariant.read line) over;
    }
