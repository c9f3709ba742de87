use Rattle.tf_model.specs.TaskBuilder.{HasJudged}
use Rattle.tf_search.proofs.machine_search.task_on.Given as goal

abbrev pub invariant-loop-job : goal.invariant-loop-job
invariant-loop-job g l = HasJudged l.builder
