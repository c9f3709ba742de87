-- Which kind of certificate bounds the tasks of which problem.
use Rattle.std.specs.Prelude.{Bool, true, false, not, ◌&&◌, ◌||◌, if◌then◌else◌}
use Rattle.tf_model.specs.declared.problem.Problem.{Problem}
use Rattle.tf_model.specs.declared.problem.Goal.{Goal}
use Rattle.tf_model.specs.declared.problem.Goal.TheVariants as goals
use Rattle.tf_model.specs.ClassTable.{is_single_env, is_flow_env, is_shop_env}
use Rattle.tf_problem.specs.ProblemBounds.{is_alike, is_by_machine, is_completion_goal, is_max_goal, is_sum_goal, is_tardy_goal}

-- the makespan or the maximum lateness, on one machine or in a shop
abbrev pub takes_machine : Problem → Bool
takes_machine p = is_by_machine p.env && is_max_goal p.goal

-- the makespan or the maximum lateness, on one machine or on identical ones
abbrev pub takes_windows : Problem → Bool
takes_windows p = is_alike p.env && is_max_goal p.goal

-- the same, where no job is preempted
abbrev pub takes_crowds : Problem → Bool
takes_crowds p = takes_windows p && not p.prmp

-- the makespan or the maximum lateness
abbrev pub takes_one_job : Problem → Bool
takes_one_job p = (is_alike p.env || is_shop_env p.env) && is_max_goal p.goal

-- a sum of completions or of tardiness
abbrev pub takes_multipliers : Problem → Bool
takes_multipliers p = (is_alike p.env || is_shop_env p.env) && is_tardy_goal p.goal

-- a sum over the jobs, on one machine or on identical ones; of completion times, where jobs may be
-- preempted
abbrev pub takes_prices : Problem → Bool
takes_prices p =
    is_alike p.env && (if p.prmp then is_completion_goal p.goal else is_sum_goal p.goal)

-- a sum over the jobs of a shop, where none is preempted
abbrev pub takes_machine_prices : Problem → Bool
takes_machine_prices p = is_shop_env p.env && (not p.prmp && is_sum_goal p.goal)

-- a sum over the jobs
abbrev pub takes_alone : Problem → Bool
takes_alone p = is_sum_goal p.goal

abbrev pub is_late_jobs : Goal → Bool
is_late_jobs goals.SumU = true
is_late_jobs _ = false

abbrev pub is_late_weight : Goal → Bool
is_late_weight goals.SumWU = true
is_late_weight _ = false

abbrev pub is_completions : Goal → Bool
is_completions goals.SumC = true
is_completions _ = false

-- the number of late jobs, on one machine or on identical ones
abbrev pub takes_kept : Problem → Bool
takes_kept p = is_alike p.env && is_late_jobs p.goal

-- the weighted number of late jobs, on one machine or on identical ones
abbrev pub takes_kept_weight : Problem → Bool
takes_kept_weight p = is_alike p.env && is_late_weight p.goal

-- the sum of completion times on one machine
abbrev pub takes_shortest : Problem → Bool
takes_shortest p = is_single_env p.env && is_completions p.goal

-- the makespan or the maximum lateness, in a flow shop whose machines all have the jobs in one order
abbrev pub takes_split : Problem → Bool
takes_split p = is_flow_env p.env && (p.prmu && is_max_goal p.goal)

-- the sum of completion times, on one machine or on identical ones
abbrev pub takes_ranks : Problem → Bool
takes_ranks p = is_alike p.env && is_completions p.goal

-- the makespan or the maximum lateness in a flow shop whose jobs wait nowhere
abbrev pub takes_potentials : Problem → Bool
takes_potentials p = is_flow_env p.env && p.nwt && is_max_goal p.goal
