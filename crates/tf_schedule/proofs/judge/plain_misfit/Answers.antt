use Rattle.tf_schedule.proofs.Judging.{out_of_order, kept_in_order, no_prec, is_prec}
use Rattle.tf_schedule.proofs.judge.plain_misfit.Goals as goal

pub returns-in-Some : goal.returns-in-Some
returns-in-Some g c = c.in-Some.ensures.misfit

pub returns-then-not-problem : goal.returns-then-not-problem
returns-then-not-problem g c = λ ps t.
    let k = g.T.Asks.posed c.args.task.now in
    kept_in_order k c.job_misfit.ensures.limited ps t.schedule t.known t.once c.args.jobs.now
    c.args.operations.now t.of_jobs t.machines t.of_operations (c.in_default.ensures.misfit ps t)
    (λ asked. absurd
    (no_prec c.problem.result k.problem c.if-not-problem.true c.problem.ensures asked))

pub returns-in-Some-first_out_of_order : goal.returns-in-Some-first_out_of_order
returns-in-Some-first_out_of_order g c = λ ps t.
    let k = g.T.Asks.posed c.args.task.now in
    out_of_order k c.job_misfit.ensures.limited ps t.schedule t.known t.once c.args.jobs.now
    c.args.operations.now t.of_jobs t.machines t.of_operations (c.in_default.ensures.misfit ps t) _ _
    (is_prec c.problem.result k.problem c.if-not-problem.false c.problem.ensures)
    (rw c.arcs.ensures at c.in-Some-first_out_of_order.ensures)

pub returns-in-None : goal.returns-in-None
returns-in-None g c = λ ps t.
    kept_in_order (g.T.Asks.posed c.args.task.now) c.job_misfit.ensures.limited ps t.schedule t.known
    t.once c.args.jobs.now c.args.operations.now t.of_jobs t.machines t.of_operations
    (c.in_default.ensures.misfit ps t) (λ _. rw c.arcs.ensures at c.in-None.ensures)
