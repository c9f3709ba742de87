use Rattle.tf_schedule.proofs.Judging.{off_route, no_one_order, waits, fits_problem}
use Rattle.tf_schedule.proofs.judge.problem_misfit.Goals as goal

pub returns-in-Some : goal.returns-in-Some
returns-in-Some g c =
    off_route (g.T.Asks.posed c.args.task.now) c.first_unmet.ensures.limited c.args.pieces.now c.requires.tabled.schedule
    c.requires.tabled.known c.requires.tabled.once c.args.jobs.now c.args.operations.now
    c.requires.tabled.of_jobs c.requires.tabled.machines c.requires.tabled.of_operations c.requires.kept _
    c.in-Some.ensures.first

pub returns-then-not-branch : goal.returns-then-not-branch
returns-then-not-branch g c =
    let told = c.in_ok-passes_in_order.ensures.fails c.if-not-branch.true in
    no_one_order (g.T.Asks.posed c.args.task.now) c.first_unmet.ensures.limited c.args.pieces.now c.requires.tabled.schedule
    c.requires.tabled.known c.requires.tabled.once c.args.jobs.now c.args.operations.now
    c.requires.tabled.of_jobs c.requires.tabled.machines c.requires.tabled.of_operations c.requires.kept
    c.in_default.ensures.first told.0 told.1

pub returns-in-Some-first_unmet : goal.returns-in-Some-first_unmet
returns-in-Some-first_unmet g c =
    waits (g.T.Asks.posed c.args.task.now) c.first_unmet.ensures.limited c.args.pieces.now c.requires.tabled.schedule
    c.requires.tabled.known c.requires.tabled.once c.args.jobs.now c.args.operations.now
    c.requires.tabled.of_jobs c.requires.tabled.machines c.requires.tabled.of_operations c.requires.kept
    c.in_default.ensures.first (c.in_ok-passes_in_order.ensures.holds c.if-not-branch.false) _
    c.in-Some-first_unmet.ensures.first

pub returns-in-None : goal.returns-in-None
returns-in-None g c =
    fits_problem (g.T.Asks.posed c.args.task.now) c.first_unmet.ensures.limited c.args.pieces.now c.requires.tabled.schedule
    c.requires.tabled.known c.requires.tabled.once c.args.jobs.now c.args.operations.now
    c.requires.tabled.of_jobs c.requires.tabled.machines c.requires.tabled.of_operations c.requires.kept
    c.in_default.ensures.first (c.in_ok-passes_in_order.ensures.holds c.if-not-branch.false)
    c.in-None.ensures.first
