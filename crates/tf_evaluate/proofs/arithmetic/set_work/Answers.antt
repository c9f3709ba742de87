use Rattle.tf_check.proofs.JobLists.{jobs_in_task, times_within}
use Rattle.tf_evaluate.proofs.Given.{last_of_list}
use Rattle.tf_evaluate.proofs.arithmetic.set_work.Goals as goal

pub work_of-work-requires-clause-known : goal.work_of-work-requires-clause-known
work_of-work-requires-clause-known g c =
    jobs_in_task c.args.task.now c.args.jobs.now
    (last_of_list c.args.task.now c.args.jobs.now c.requires.given)

pub work_of-work-requires-clause-work : goal.work_of-work-requires-clause-work
work_of-work-requires-clause-work g c =
    times_within c.args.task.now c.requires.sound c.args.jobs.now
    (last_of_list c.args.task.now c.args.jobs.now c.requires.given)
