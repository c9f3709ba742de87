use Rattle.std.proofs.Common.{◌≡◌, ℕ, ◌+◌, ◌<◌, ◌≤◌, ◌++◌, List, [], ◌∷◌, length, get_or, take, sym, ap, ◌∙◌, arith}
use Rattle.std.specs.List.{sum_by}
use Rattle.std.proofs.lemmas.List.{take_all, take_more}
use Rattle.std.proofs.lemmas.List.Sums.{sum_by_more_le}
use Rattle.tf_model.specs.Limit.{limit}
use Rattle.tf_model.specs.SchedulingTask.{SchedulingTask, time_of}
use Rattle.tf_schedule.specs.SemiActive.{laid}
use Rattle.tf_schedule.specs.Sequence.{in_sequence}
use Rattle.tf_schedule.proofs.InSequence.{now_next}
use Rattle.tf_schedule.proofs.sequence.in_sequence.Goals as goal

-- the next job is over within the limit
in_time : (k : SchedulingTask) (jobs : List ℕ) (i j now time : ℕ) → i < length jobs
    → j ≡ get_or jobs i j → now ≡ sum_by (time_of k) (take i jobs) → time ≡ time_of k j
    → sum_by (time_of k) jobs ≤ limit → now + time ≤ limit
in_time k jobs i j now time lt is work is_time total =
    omega (arith, sum_by_more_le (time_of k) jobs i j lt, work, is_time, ap (time_of k) is, total)

pub push_stretch-requires : goal.push_stretch-requires
push_stretch-requires g c =
    in_time c.args.task.now c.args.jobs.now c.loop-job.job-index c.job-item.result _ _
    c.loop-job-test.true c.job-item.is c.loop-job.invariant.work c.time.ensures.value
    c.requires.total

pub returns : goal.returns
returns g c =
    c.loop-job.invariant.pieces
    ∙ ap (λ js. laid (in_sequence c.args.task.now js))
    (take_all c.loop-job.job-index c.args.jobs.now c.loop-job-test.false)

pub loop-job-preserved : goal.loop-job-preserved
loop-job-preserved g c =
    let jobs : List ℕ = c.args.jobs.now in
    let i : ℕ = c.loop-job.job-index in
    let j : ℕ = c.job-item.result in
    let more : take (i + 1) jobs ≡ take i jobs ++ j ∷ [] =
    take_more jobs i j c.loop-job-test.true ∙ ap (λ x. take i jobs ++ x ∷ []) (sym c.job-item.is) in
    rw (more, c.in_ok-now.ensures.end, c.time.ensures.value)
    (now_next c.args.task.now (take i jobs) j _ _ _ c.loop-job.invariant
    (rw c.time.ensures.value at c.in_ok-now.ensures.pieces))
