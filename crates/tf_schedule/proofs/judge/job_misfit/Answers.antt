use Rattle.tf_schedule.proofs.Judging.{wrong_amount, broken, too_early, all_released, released_plain}
use Rattle.tf_schedule.proofs.judge.job_misfit.Goals as goal

pub returns-then-are_plain-clause-misfit : goal.returns-then-are_plain-clause-misfit
returns-then-are_plain-clause-misfit g c = λ ps t.
    released_plain (g.T.Asks.posed c.args.task.now) c.are_plain.ensures.limited ps t.schedule t.known
    t.once c.args.jobs.now c.args.operations.now t.of_jobs t.machines t.of_operations
    (c.are_plain.ensures.met c.if-are_plain.true)

pub returns-in-Some-clause-misfit : goal.returns-in-Some-clause-misfit
returns-in-Some-clause-misfit g c = λ ps t.
    wrong_amount (g.T.Asks.posed c.args.task.now) c.are_plain.ensures.limited ps t.schedule t.known
    t.once c.args.jobs.now c.args.operations.now t.of_jobs t.machines t.of_operations _
    c.in-Some.ensures.first

pub returns-in-Some-first_unmet-clause-misfit : goal.returns-in-Some-first_unmet-clause-misfit
returns-in-Some-first_unmet-clause-misfit g c = λ ps t.
    broken (g.T.Asks.posed c.args.task.now) c.are_plain.ensures.limited ps t.schedule t.known t.once
    c.args.jobs.now c.args.operations.now t.of_jobs t.machines t.of_operations
    c.in_default.ensures.first _ c.in-Some-first_unmet.ensures.first

pub returns-in-Some-first_unmet-2-clause-misfit : goal.returns-in-Some-first_unmet-2-clause-misfit
returns-in-Some-first_unmet-2-clause-misfit g c = λ ps t.
    too_early (g.T.Asks.posed c.args.task.now) c.are_plain.ensures.limited ps t.schedule t.known t.once
    c.args.jobs.now c.args.operations.now t.of_jobs t.machines t.of_operations
    c.in_default.ensures.first c.in_default-first_unmet.ensures.first _
    c.in-Some-first_unmet-2.ensures.first

pub returns-in-None-clause-misfit : goal.returns-in-None-clause-misfit
returns-in-None-clause-misfit g c = λ ps t.
    all_released (g.T.Asks.posed c.args.task.now) c.are_plain.ensures.limited ps t.schedule t.known
    t.once c.args.jobs.now c.args.operations.now t.of_jobs t.machines t.of_operations
    c.in_default.ensures.first c.in_default-first_unmet.ensures.first c.in-None.ensures.first
