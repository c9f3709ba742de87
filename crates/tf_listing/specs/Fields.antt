-- The problems that an instance has the fields for.
use Rattle.std.specs.Prelude.{ℤ, pos, Bool, true, not, ◌&&◌, ◌||◌, Option, None, Some, length, nat_le, int_lt}
use Rattle.std.specs.List.{list_all}
use Rattle.std.specs.Option.{is_some}
use Rattle.tf_model.specs.ClassTable.{is_shop_env, is_dearest, objective_by, may_be_two}
use Rattle.tf_model.specs.InstanceData.{InstanceData}
use Rattle.tf_model.specs.JobFields.{JobFields}
use Rattle.tf_model.specs.Limit.{most_costed_jobs}
use Rattle.tf_model.specs.declared.job.Times.{Times}
use Rattle.tf_model.specs.declared.job.Times.TheVariants.{One, Two}
use Rattle.tf_model.specs.declared.problem.Goal.{Goal}
use Rattle.tf_model.specs.declared.problem.Problem.{Problem}
use Rattle.tf_posed.specs.ProblemData.{is_job_shop, needs_time}
use Rattle.tf_prepare.specs.Preparing.{uses_weight, uses_due}
use Rattle.tf_listing.specs.declared.listing.Listed.{Listed}
use Rattle.tf_listing.specs.declared.listing.Listed.TheVariants.{Solved, Bounded}

-- the objective that uses cost functions
abbrev pub uses_cost : Goal → Bool
uses_cost goal = is_dearest (objective_by goal)

-- the job has as many times as the problem has machines for it; the only one is positive. A job shop
-- wants a route, which these times are not
abbrev pub has_times : Problem → Times → Bool
has_times p (One time) = not (is_shop_env p.env) && int_lt (pos 0) time
has_times p (Two first second) = is_shop_env p.env && not (is_job_shop p.env)

-- the job has each field that the problem uses
abbrev pub has_job_fields : Problem → JobFields → Bool
has_job_fields p job =
    has_times p job.times && (is_some job.weight || not (uses_weight p.goal))
    && (is_some job.due || not (uses_due p.goal)) && (is_some job.release || not p.release)
    && (is_some job.cost || not (uses_cost p.goal))

-- the instance has what the problem uses, and no more jobs than it allows
abbrev pub has_fields : Problem → InstanceData → Bool
has_fields p i =
    (not (uses_cost p.goal) || nat_le (length i.jobs) most_costed_jobs)
    && (not (is_shop_env p.env) || may_be_two i.machines) && list_all (has_job_fields p) i.jobs

-- a job with these times takes time on some machine
abbrev pub takes_time : Times → Bool
takes_time (One time) = int_lt (pos 0) time
takes_time (Two first second) = int_lt (pos 0) first || int_lt (pos 0) second

-- of a problem that is bounded each job takes time too, where the problem needs time
abbrev pub is_listed_for : Listed → Problem → InstanceData → Bool
is_listed_for Solved p i = has_fields p i
is_listed_for Bounded p i =
    has_fields p i && (not (needs_time p) || list_all (λ job. takes_time job.times) i.jobs)

-- where there is no instance, each problem is listed
abbrev pub is_listed : Listed → Problem → Option InstanceData → Bool
is_listed listed p None = true
is_listed listed p (Some i) = is_listed_for listed p i
