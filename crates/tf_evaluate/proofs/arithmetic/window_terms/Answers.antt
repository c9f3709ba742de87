use Rattle.tf_check.proofs.JobLists.{jobs_in_task, times_within}
use Rattle.tf_evaluate.proofs.Given.{window_list}
use Rattle.tf_evaluate.proofs.arithmetic.window_terms.Goals as goal

pub least_release-requires-clause-known : goal.least_release-requires-clause-known
least_release-requires-clause-known g c =
    jobs_in_task c.args.task.now c.args.jobs.now
    (window_list c.args.task.now c.args.jobs.now c.requires.given)

pub work_of-requires-clause-known : goal.work_of-requires-clause-known
work_of-requires-clause-known g c =
    jobs_in_task c.args.task.now c.args.jobs.now
    (window_list c.args.task.now c.args.jobs.now c.requires.given)

pub work_of-requires-clause-work : goal.work_of-requires-clause-work
work_of-requires-clause-work g c =
    times_within c.args.task.now c.requires.sound c.args.jobs.now
    (window_list c.args.task.now c.args.jobs.now c.requires.given)

pub greatest_due-requires-clause-known : goal.greatest_due-requires-clause-known
greatest_due-requires-clause-known g c =
    jobs_in_task c.args.task.now c.args.jobs.now
    (window_list c.args.task.now c.args.jobs.now c.requires.given)
