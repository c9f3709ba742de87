use Rattle.tf_check.proofs.JobLists.{jobs_in_task, times_within}
use Rattle.tf_check.specs.Laws.{last_of_says}
use Rattle.tf_evaluate.proofs.arithmetic.least_cost.Goals as goal

pub work_of-requires-clause-known : goal.work_of-requires-clause-known
work_of-requires-clause-known g c =
    jobs_in_task c.args.task.now c.args.jobs.now
    (last_of_says c.args.task.now c.args.jobs.now c.args.bound c.requires.given).1

pub work_of-requires-clause-work : goal.work_of-requires-clause-work
work_of-requires-clause-work g c =
    times_within c.args.task.now c.requires.sound c.args.jobs.now
    (last_of_says c.args.task.now c.args.jobs.now c.args.bound c.requires.given).1
