use Rattle.std.proofs.Common.{◌≡◌, ◌+◌, ◌≤◌, drop}
use Rattle.tf_model.specs.Limit.{limit}
use Rattle.tf_model.proofs.RankSums.{ranked}
use Rattle.tf_posed.specs.ProblemData.{problem_time}
use Rattle.tf_problem.specs.Ranks.{rank_value}
use Rattle.tf_bound.proofs.ranks.ranked_times.Given as goal

-- the jobs that are to come count behind those so far
abbrev pub invariant-loop-place : goal.invariant-loop-place
invariant-loop-place g l = record {
  value : l.total + ranked l.task.machines (problem_time l.task) l.place (drop l.place l.jobs)
      ≡ rank_value l.task l.jobs;
  small : l.total ≤ limit;
}
