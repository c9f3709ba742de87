use Rattle.std.proofs.Common.{rules, sym, ap, ◌∙◌, arith, SFits, w64}
use Rattle.std.proofs.lemmas.Int.{to_z-of_z}
use Rattle.tf_model.specs.SchedulingTask.{JobData}
use Rattle.tf_schedule.proofs.Limited.{of_class}
use Rattle.tf_orders.proofs.Posed.{release_is, weight_is, work_is}
use Rattle.tf_orders.proofs.ordered.TaskOrdered.seen.Goals as goal

pub job-row-requires : goal.job-row-requires
job-row-requires g c = of_class c.args.self.now c.args.job c.requires

pub time-requires : goal.time-requires
time-requires g c = of_class c.args.self.now c.args.job c.requires

pub due_of-requires : goal.due_of-requires
due_of-requires g c = of_class c.args.self.now c.args.job c.requires

pub returns-clause-seen : goal.returns-clause-seen
returns-clause-seen g c =
    let k = c.args.self.now in
    let j = c.args.job in
    let job = of_class k j c.requires in
    let sound = c.due_of.ensures.sound in
    let fits : SFits w64 c.due_of.result = search rules in
    record {
      time = omega (arith, c.max.ensures, c.time.ensures.value, work_is k sound j job);
      weight = ap (λ (row : JobData). row.weight) (c.row.view_is ∙ c.job-row.ensures.value)
          ∙ sym (weight_is k sound j job);
      release = ap (λ (row : JobData). row.release) (c.row.view_is ∙ c.job-row.ensures.value)
          ∙ sym (release_is k sound j job);
      due = to_z-of_z w64 c.due_of.result fits ∙ c.due_of.ensures.due;
    }
