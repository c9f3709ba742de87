-- The arithmetic of a certificate, step by step, with the numbers of the task put in.
use Rattle.std.specs.Prelude.{ℕ, ◌+◌, ◌*◌, ◌-◌, ℤ, pos, ◌-ℤ◌, unsigned_abs, List, [], ◌∷◌, ◌++◌, map, length, min, not, if◌then◌else◌, Option, Some}
use Rattle.std.specs.List.{sum_by, filter, enumerate_from}
use Rattle.std.specs.Int.{div_ceil}
use Rattle.tf_model.specs.SchedulingTask.{SchedulingTask, all_jobs, job_data, time_of, time_on}
use Rattle.tf_model.specs.ClassTable.{is_shop}
use Rattle.tf_model.specs.Bounds.{pair_sum, stands_in}
use Rattle.tf_model.specs.Cost.{price}
use Rattle.tf_check.specs.Claim.{Claim, ByPairs, ByLastOf, ByWindow, BySplit, ByLoad, ByMachine, ByOneJob, ByRanks}
use Rattle.tf_check.specs.Bound.{greatest, least, least_number, free_jobs}
use Rattle.tf_evaluate.specs.declared.step.Terms.{Terms}
use Rattle.tf_evaluate.specs.declared.step.Terms.TheVariants.{Load, JobTime, ShopTimes, MachineWork, Smith, SetWork, LeastCost, Window, Split, GreatestFactor, Ranks}
use Rattle.tf_evaluate.specs.declared.step.Step.{Step}

-- what the terms of a step come to
abbrev pub value_of : Terms → ℤ
value_of (Load work machines) = pos (div_ceil work machines)
value_of (JobTime job time) = pos time
value_of (ShopTimes job first second) = pos (first + second)
value_of (MachineWork machine work) = pos work
value_of (Smith own waiting) = pos (own + waiting)
value_of (SetWork work) = pos work
value_of (LeastCost completion cost) = cost
value_of (Window release work due) = pos (release + work) -ℤ due
value_of (Split side others delta) = pos (side + others + delta)
value_of (GreatestFactor jobs machines) = pos (div_ceil jobs machines)
value_of (Ranks work waiting) = pos (work + waiting)

abbrev pub step_of : Terms → Step
step_of terms = record { terms = terms; result = value_of terms }

-- ---- the sums that no bound has a name for

-- each job's own time, by weight
abbrev pub own_times : SchedulingTask → ℕ
own_times k = sum_by (λ j. (job_data k j).weight * time_of k j) (all_jobs k)

-- of each pair the cheaper wait, by weight
abbrev pub pair_waiting : SchedulingTask → ℕ
pair_waiting k =
    pair_sum (λ i j. min ((job_data k i).weight * time_of k j) ((job_data k j).weight * time_of k i))
    (all_jobs k)

-- the times on machine 2 of the jobs that are not of the side
abbrev pub others_work : SchedulingTask → List ℕ → ℕ
others_work k side =
    sum_by (λ j. time_on k j 1) (filter (λ j. not (stands_in side j)) (all_jobs k))

-- each time as often as it counts beyond the once of its own job
abbrev pub ranked_waiting : SchedulingTask → List ℕ → ℕ
ranked_waiting k jobs =
    sum_by (λ ranked. (div_ceil ranked.0 k.machines - 1) * time_of k ranked.1)
    (enumerate_from 1 jobs)

-- ---- the steps

-- what has to be known before the last step
abbrev pub first_terms : SchedulingTask → Claim → List Terms
first_terms k (ByLastOf jobs) = SetWork (sum_by (time_of k) jobs) ∷ []
first_terms k (ByRanks jobs) = GreatestFactor (length jobs) k.machines ∷ []
first_terms k _ = []

-- the last step, which gives the bound
abbrev pub last_terms : SchedulingTask → Claim → Terms
last_terms k ByPairs = Smith (own_times k) (pair_waiting k)
last_terms k (ByLastOf jobs) =
    LeastCost (sum_by (time_of k) jobs)
    (least (λ j. price k j (sum_by (time_of k) jobs)) (free_jobs k jobs))
last_terms k (ByWindow jobs) =
    Window (least_number (λ j. (job_data k j).release) jobs) (sum_by (time_of k) jobs)
    (greatest (λ j. (job_data k j).due) jobs)
last_terms k (BySplit side delta first) =
    Split (sum_by (λ j. time_on k j 0) side) (others_work k side) (unsigned_abs delta)
last_terms k ByLoad = Load (sum_by (time_of k) (all_jobs k)) k.machines
last_terms k (ByMachine machine) =
    MachineWork machine (sum_by (λ j. time_on k j (machine - 1)) (all_jobs k))
last_terms k (ByOneJob j) =
    if is_shop k.class then ShopTimes j (time_on k j 0) (time_on k j 1) else JobTime j (time_of k j)
last_terms k (ByRanks jobs) = Ranks (sum_by (time_of k) jobs) (ranked_waiting k jobs)

-- the steps to the bound of a certificate without a fault
abbrev pub arithmetic : SchedulingTask → Claim → List Step
arithmetic k claim = map step_of (first_terms k claim ++ last_terms k claim ∷ [])

-- the result of the last step, or before there is one
abbrev pub last_result : Option ℤ → List Step → Option ℤ
last_result before [] = before
last_result before (step ∷ steps) = last_result (Some step.result) steps
