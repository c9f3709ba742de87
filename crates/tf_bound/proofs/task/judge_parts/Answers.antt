use Rattle.std.proofs.Common.{refl}
use Rattle.std.proofs.lemmas.Bool.{false≢true}
use Rattle.std.proofs.lemmas.Result.{err_from_is_err_and}
use Rattle.tf_bound.specs.Sized.{task_of}
use Rattle.tf_bound.proofs.Refused.{jobs_fault, too_late, not_in, sized_task}
use Rattle.tf_bound.proofs.task.judge_parts.Goals as goal

pub returns-then-not-is_within : goal.returns-then-not-is_within
returns-then-not-is_within g c =
    let k = task_of c.args.problem.now c.args.machines c.args.jobs.now c.args.arcs.now in
    too_late k (c.in_ok-judge_counts.ensures k refl refl refl) c.in_ok-all.all
    c.in_ok-all.ensures.value c.in_ok-all.ensures.small c.in_ok-all.ensures.sized (λ within. false≢true (c.if-not-is_within.ensures.1 within))

pub returns-then-not-are_in : goal.returns-then-not-are_in
returns-then-not-are_in g c =
    let k = task_of c.args.problem.now c.args.machines c.args.jobs.now c.args.arcs.now in
    not_in k (c.in_ok-judge_counts.ensures k refl refl refl) c.in_ok-all.all
    c.in_ok-all.ensures.value c.in_ok-all.ensures.small c.in_ok-all.ensures.sized (c.if-not-is_within.ensures.0 refl)
    (λ arcs. false≢true (c.if-not-are_in.ensures.1 arcs))

pub returns : goal.returns
returns g c =
    let k = task_of c.args.problem.now c.args.machines c.args.jobs.now c.args.arcs.now in
    sized_task k (c.in_ok-judge_counts.ensures k refl refl refl) c.in_ok-all.all
    c.in_ok-all.ensures.value c.in_ok-all.ensures.small c.in_ok-all.ensures.sized (c.if-not-is_within.ensures.0 refl) (c.if-not-are_in.ensures.0 refl)

pub returns-in_err-judge_counts : goal.returns-in_err-judge_counts
returns-in_err-judge_counts g c =
    let k = task_of c.args.problem.now c.args.machines c.args.jobs.now c.args.arcs.now in
    let p = err_from_is_err_and c.from_residual.result c.from_residual.ensures.1 in
    rw (p.1, p.2) (c.in_err-judge_counts.ensures k refl refl refl)

pub returns-in_err-all : goal.returns-in_err-all
returns-in_err-all g c =
    let k = task_of c.args.problem.now c.args.machines c.args.jobs.now c.args.arcs.now in
    let p = err_from_is_err_and c.from_residual-in_err-all.result c.from_residual-in_err-all.ensures.1
    in
    rw (p.1, p.2)
    (jobs_fault k (c.in_ok-judge_counts.ensures k refl refl refl) c.in_err-all.field-0.0
    c.in_err-all.ensures.fault)
