use Rattle.std.proofs.Common.{◌∙◌, map, sym, subst}
use Rattle.tf_model.specs.JobRows.{HasRows}
use Rattle.tf_model.specs.Prepare.{data_of}
use Rattle.tf_model.specs.StepFaults.{IsStepCost}
use Rattle.tf_model.specs.Summed.{HasSummed}
use Rattle.tf_model.proofs.TaskBuilder.{complete_more, costs_more, costs_stay, data_more, ok_holds, ok_made, sound_more}
use Rattle.tf_model.proofs.task_builder.TaskBuilder.push.Goals as goal

pub returns-in_ok-ok-2 : goal.returns-in_ok-ok-2
returns-in_ok-ok-2 g c = λ problem argument count before had.
    let class = c.args.self.now.class in
    let more = data_more class before c.args.job _ c.row_of-row.ensures in
    let pushed =
    ok_holds c.push.result c.in_ok-ok.field-0 (sym c.in_ok-ok.was ∙ c.ok.ensures.value)
    (c.push.ensures (map (data_of class) before) had.rows) in
    let cost =
    ok_made c.push-then-is_costed.result c.in_ok-ok-2.field-0 c.push-then-is_costed.new.self.items
    _ _ (sym c.in_ok-ok-2.was ∙ c.ok-then-is_costed.ensures.value)
    c.push-then-is_costed.ensures.items in
    record {
      class_is = had.class_is;
      machines_are = had.machines_are;
      complete = complete_more class before c.args.job c.is_complete.result had.complete
          c.if-not-is_complete.false c.is_complete.ensures;
      rows = subst (HasRows class c.push.new.self) more pushed;
      summed = subst (HasSummed c.with-self.result) more (c.with-self.ensures.summed _ had.summed);
      costs = costs_more class before c.args.job c.args.self.now.costs.items _ _
          (sym c.is_costed.ensures ∙ c.if-is_costed.true) had.costs cost c.cost_of.ensures.value;
      sound = sound_more c.args.self.now.costs.items _ c.cost_of.result had.sound
          (subst IsStepCost (sym c.cost_of.ensures.value) c.cost_of.ensures.sound) cost;
    }

pub returns-else-is_costed : goal.returns-else-is_costed
returns-else-is_costed g c = λ problem argument count before had.
    let class = c.args.self.now.class in
    let more = data_more class before c.args.job _ c.row_of-row.ensures in
    let pushed =
    ok_holds c.push.result c.in_ok-ok.field-0 (sym c.in_ok-ok.was ∙ c.ok.ensures.value)
    (c.push.ensures (map (data_of class) before) had.rows) in
    record {
      class_is = had.class_is;
      machines_are = had.machines_are;
      complete = complete_more class before c.args.job c.is_complete.result had.complete
          c.if-not-is_complete.false c.is_complete.ensures;
      rows = subst (HasRows class c.push.new.self) more pushed;
      summed = subst (HasSummed c.with-self.result) more (c.with-self.ensures.summed _ had.summed);
      costs = costs_stay class before c.args.job c.args.self.now.costs.items
          (sym c.is_costed.ensures ∙ c.if-is_costed.false) had.costs;
      sound = had.sound;
    }
