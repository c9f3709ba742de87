-- An instance, and what is refused as one.
use Rattle.std.specs.Prelude.{◌≡◌, ℕ, ℤ, pos, ◌+◌, Bool, false, ◌||◌, ◌==◌, nat_lt, List, length, position, Option, Some, None, unsigned_abs, int_lt}
use Rattle.std.specs.Bool.{then_some}
use Rattle.std.specs.Option.{option_map, option_or}
use Rattle.tf_model.specs.Limit.{limit, most_jobs, most_machines, most_arcs}
use Rattle.tf_model.specs.JobFields.{JobFields}
use Rattle.tf_model.specs.declared.job.Times.{Times}
use Rattle.tf_model.specs.declared.job.Times.TheVariants.{One, Two}
use Rattle.tf_model.specs.declared.instance.InstanceFault.{InstanceFault}
use Rattle.tf_model.specs.declared.instance.InstanceFault.TheVariants.{NoJobs, TooManyJobs, TooManyMachines, TooManyArcs, NegativeNumber, OutOfRange, BadArc}

-- the jobs, numbered from 1; the arcs between them; the number of machines, where one is given
pub record InstanceData : Type 0 where
  pub jobs : List JobFields
  pub arcs : List (ℕ × ℕ)
  pub machines : Option ℕ

-- one of a job's times passes
abbrev pub any_time : (ℤ → Bool) → Times → Bool
any_time test (One a) = test a
any_time test (Two a b) = test a || test b

-- the number is there and passes
abbrev pub any_given : (ℤ → Bool) → Option ℤ → Bool
any_given test None = false
any_given test (Some z) = test z

abbrev pub is_negative : ℤ → Bool
is_negative z = int_lt z (pos 0)

abbrev pub is_beyond : ℤ → Bool
is_beyond z = nat_lt limit (unsigned_abs z)

-- a time, the weight or the release date is negative
abbrev pub has_negative : JobFields → Bool
has_negative job =
    any_time is_negative job.times || any_given is_negative job.weight
    || any_given is_negative job.release

-- a number of the job is beyond the limit
abbrev pub has_beyond : JobFields → Bool
has_beyond job =
    any_time is_beyond job.times || any_given is_beyond job.weight || any_given is_beyond job.due
    || any_given is_beyond job.release

-- the job is not there: it is not one of 1 to `jobs`
abbrev pub is_no_job : ℕ → ℕ → Bool
is_no_job jobs j = nat_lt j 1 || nat_lt jobs j

-- the arc names a job that is not there
abbrev pub is_bad_arc : ℕ → ℕ × ℕ → Bool
is_bad_arc jobs arc = is_no_job jobs arc.0 || is_no_job jobs arc.1

-- the first that passes, counted from 1
abbrev pub first_with : {X : Type 0} → (X → Bool) → List X → Option ℕ
first_with test xs = option_map (λ k. k + 1) (position test xs)

abbrev pub count_fault : Option ℕ → Option InstanceFault
count_fault None = None
count_fault (Some m) = then_some (nat_lt m 1 || nat_lt most_machines m) TooManyMachines

-- too few or too many
abbrev pub counts_fault : ℕ → Option ℕ → ℕ → Option InstanceFault
counts_fault jobs machines arcs =
    option_or (then_some (jobs == 0) NoJobs)
    (option_or (then_some (nat_lt most_jobs jobs) TooManyJobs)
    (option_or (count_fault machines)
    (then_some (nat_lt most_arcs arcs) TooManyArcs)))

-- the first reason why this is no instance, each line over all jobs before the next
abbrev pub instance_fault : InstanceData → Option InstanceFault
instance_fault i =
    option_or (counts_fault (length i.jobs) i.machines (length i.arcs))
    (option_or (option_map NegativeNumber (first_with has_negative i.jobs))
    (option_or (option_map OutOfRange (first_with has_beyond i.jobs))
    (option_map BadArc (first_with (is_bad_arc (length i.jobs)) i.arcs))))

-- there is none
abbrev pub IsInstance : InstanceData → Type 0
IsInstance i = instance_fault i ≡ None
