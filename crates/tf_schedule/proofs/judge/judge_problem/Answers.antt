use Rattle.tf_schedule.proofs.judge.judge_problem.Goals as goal

pub first_misfit-requires-clause-apart : goal.first_misfit-requires-clause-apart
first_misfit-requires-clause-apart g c = rw c.len.ensures.value at c.in_ok-jobs.ensures.once
