use Rattle.std.proofs.lemmas.Result.{err_from_is_err_and}
use Rattle.tf_bound.specs.Refused.{IsTaskFault}
use Rattle.tf_bound.specs.Sized.{IsSized, task_of}
use Rattle.tf_bound.proofs.Refused.{not_sized, same_task}
use Rattle.tf_bound.proofs.task.ProblemTask.new.Goals as goal

pub invariant_of-result : goal.invariant_of-result
invariant_of-result g c =
    same_task IsSized c.args.problem c.args.machines c.deref.result.now c.args.jobs.items
    c.deref-2.result.now c.args.arcs.items c.deref.ensures.value c.deref-2.ensures.value
    c.in_ok-judge_parts.ensures

pub returns-clause-sized : goal.returns-clause-sized
returns-clause-sized g c = invariant_of-result g c

pub returns-in_err-judge_parts-clause-fault : goal.returns-in_err-judge_parts-clause-fault
returns-in_err-judge_parts-clause-fault g c =
    let fault = c.in_err-judge_parts.field-0.0 in
    let p = err_from_is_err_and c.from_residual.result c.from_residual.ensures.1 in
    rw (p.1, p.2)
    (same_task (λ k. IsTaskFault k fault) c.args.problem c.args.machines c.deref.result.now
    c.args.jobs.items c.deref-2.result.now c.args.arcs.items c.deref.ensures.value
    c.deref-2.ensures.value c.in_err-judge_parts.ensures)

pub returns-in_err-judge_parts-clause-refused : goal.returns-in_err-judge_parts-clause-refused
returns-in_err-judge_parts-clause-refused g c =
    let k = task_of c.args.problem c.args.machines c.args.jobs.items c.args.arcs.items in
    let p = err_from_is_err_and c.from_residual.result c.from_residual.ensures.1 in
    let told = returns-in_err-judge_parts-clause-fault g c in
    rw p.1 (λ sized. not_sized k sized p.0 (rw p.1 at told))
