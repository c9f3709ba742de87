use Rattle.tf_problem.proofs.laws.relaxation_law.Goals as goal
use Rattle.tf_problem.proofs.Dropped.{window_task-relaxes, load_task-relaxes, rank_task-relaxes, unit_task-relaxes, weighed_task-relaxes}
use Rattle.tf_problem.proofs.TwoMachines.{pair_task-relaxes}

pub returns : goal.returns
returns c k sound = record {
  by_window = window_task-relaxes k sound;
  by_load = load_task-relaxes k sound;
  by_ranks = rank_task-relaxes k sound;
  by_pairs = unit_task-relaxes k sound;
  by_weighted_pairs = weighed_task-relaxes k sound;
  by_two_machines = pair_task-relaxes k sound;
}
