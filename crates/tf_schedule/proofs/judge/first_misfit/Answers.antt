use Rattle.std.proofs.Common.{rules}
use Rattle.tf_schedule.proofs.Permuted.{draws_drawing}
use Rattle.tf_schedule.proofs.Judging.{twice_stored, tabled, judged}
use Rattle.tf_schedule.proofs.judge.first_misfit.Goals as goal

pub first_in_two_places-requires-clause-apart : goal.first_in_two_places-requires-clause-apart
first_in_two_places-requires-clause-apart g c =
    c.requires.apart (λ i d h. (c.in_default.ensures i d h).0)

pub returns-in-Some-2 : goal.returns-in-Some-2
returns-in-Some-2 g c =
    twice_stored (g.T.Asks.posed c.args.task.now) c.args.pieces.now c.requires.schedule c.in_default.ensures _ _
    (rw c.in-Some-2.is at c.in_ok-piece.ensures) (search rules)

pub returns-in-Some-plain_misfit : goal.returns-in-Some-plain_misfit
returns-in-Some-plain_misfit g c = c.in-Some-plain_misfit.ensures c.args.pieces.now
    (tabled (g.T.Asks.posed c.args.task.now) c.args.pieces.now c.args.jobs.now c.in_ok-operations.operations
    c.requires.schedule c.in_default.ensures (rw c.in_default-2.is at c.in_ok-piece.ensures)
    c.requires.jobs c.requires.machines c.in_ok-operations.ensures)

pub problem_misfit-requires-clause-tabled : goal.problem_misfit-requires-clause-tabled
problem_misfit-requires-clause-tabled g c =
    tabled (g.T.Asks.posed c.args.task.now) c.args.pieces.now c.args.jobs.now c.in_ok-operations.operations
    c.requires.schedule c.in_default.ensures (rw c.in_default-2.is at c.in_ok-piece.ensures)
    c.requires.jobs c.requires.machines c.in_ok-operations.ensures

pub problem_misfit-requires-clause-kept : goal.problem_misfit-requires-clause-kept
problem_misfit-requires-clause-kept g c = c.in_default-plain_misfit.ensures c.args.pieces.now
    (tabled (g.T.Asks.posed c.args.task.now) c.args.pieces.now c.args.jobs.now c.in_ok-operations.operations
    c.requires.schedule c.in_default.ensures (rw c.in_default-2.is at c.in_ok-piece.ensures)
    c.requires.jobs c.requires.machines c.in_ok-operations.ensures)

pub returns : goal.returns
returns g c =
    judged (g.T.Asks.posed c.args.task.now) c.args.pieces.now c.in_default.ensures
    (draws_drawing (g.T.Asks.posed c.args.task.now).machines c.args.pieces.now c.requires.schedule.none_twice
    (λ i d h. (c.in_default.ensures i d h).0.0) (λ i d h. (c.in_default.ensures i d h).1))
    c.problem_misfit.result c.problem_misfit.ensures
