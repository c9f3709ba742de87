-- The bound of each kind of certificate on a task, or its first fault. Each line of a bound is one
-- fault, in order.
use Rattle.std.specs.Prelude.{◌≡◌, ◌⊎◌, ℕ, ◌+◌, ℤ, pos, List, [], ◌∷◌, ◌++◌, map, Bool, true, false, not, ◌&&◌, ◌==◌, nat_lt, nat_le, ◌||◌, ◌-ℤ◌, int_le, unsigned_abs, ◌-◌, if◌then◌else◌, length, min, Option, Some, None, Result, Ok, Err}
use Rattle.std.specs.List.{fold, sum_by, filter, list_any, list_all, find}
use Rattle.std.specs.Int.{int_min}
use Rattle.std.specs.Option.{option_map}
use Rattle.tf_model.specs.Outcome.{unless}
use Rattle.tf_model.specs.SchedulingTask.{SchedulingTask, all_jobs, job_data, time_of, time_on}
use Rattle.tf_model.specs.Cost.{price}
pub use Rattle.tf_model.specs.Cost.{greatest}
use Rattle.tf_model.specs.Bounds.{load_value, pairs_value, ranks_value, split_value, stands_in}
use Rattle.tf_check.specs.Claim.{Claim, ByPairs, ByLastOf, ByWindow, BySplit, ByLoad, ByMachine, ByOneJob, ByRanks}
use Rattle.tf_check.specs.Kinds.{takes_load, takes_one_job, takes_pairs, takes_last_of, takes_window, takes_split, takes_machine, takes_ranks}
use Rattle.tf_check.specs.declared.fault.BoundFault.{BoundFault}
use Rattle.tf_check.specs.declared.fault.BoundFault.TheVariants.{OtherKind, BadMachine, BadJob, Repeated, EmptySet, Condition, BadDelta, OutOfMemory}

-- what `bound` answers: the bound or fault r, or want of memory
abbrev pub IsBoundOrNoMemory : Result ℤ BoundFault → Result ℤ BoundFault → Type 0
IsBoundOrNoMemory result r = (result ≡ r) ⊎ (result ≡ Err OutOfMemory)

-- ---- the faults

-- the kind is not for the class
abbrev pub other_kind : Bool → Option BoundFault
other_kind for_class = if for_class then None else Some OtherKind

abbrev pub is_job : SchedulingTask → ℕ → Bool
is_job k j = nat_lt 0 j && nat_le j (length k.jobs)

abbrev pub job_fault : SchedulingTask → ℕ → Option BoundFault
job_fault k j = if is_job k j then None else Some (BadJob j)

-- the first number, from left to right, that is no job or stood before; `seen` are those before
abbrev pub list_fault : SchedulingTask → List ℕ → List ℕ → Option BoundFault
list_fault k seen [] = None
list_fault k seen (j ∷ jobs) =
    if not (is_job k j) then Some (BadJob j)
    else (if stands_in seen j then Some (Repeated j) else list_fault k (seen ++ j ∷ []) jobs)

abbrev pub empty_fault : List ℕ → Option BoundFault
empty_fault [] = Some EmptySet
empty_fault (j ∷ jobs) = None

-- ---- loads, one job, and pairs

-- the time of all jobs, shared out among the machines
abbrev pub load_bound : SchedulingTask → Result ℤ BoundFault
load_bound k = unless (other_kind (takes_load k.class)) (Ok (pos (load_value k)))

-- the time of the job
abbrev pub one_job_bound : SchedulingTask → ℕ → Result ℤ BoundFault
one_job_bound k j =
    unless (other_kind (takes_one_job k.class))
    (unless (job_fault k j) (Ok (pos (time_of k j))))

abbrev pub machine_fault : ℕ → Option BoundFault
machine_fault machine =
    if nat_lt 0 machine && nat_le machine 2 then None else Some (BadMachine machine)

-- the time of all jobs on the machine, which is 1 or 2
abbrev pub machine_bound : SchedulingTask → ℕ → Result ℤ BoundFault
machine_bound k machine =
    unless (other_kind (takes_machine k.class))
    (unless (machine_fault machine)
    (Ok (pos (sum_by (λ j. time_on k j (machine - 1)) (all_jobs k)))))

-- each job's own time, and of each pair the cheaper wait, by weight
abbrev pub pairs_bound : SchedulingTask → Result ℤ BoundFault
pairs_bound k = unless (other_kind (takes_pairs k.class)) (Ok (pos (pairs_value k)))

-- ---- the last job of a set

-- no arc leads from the job to one of the list
abbrev pub is_free : SchedulingTask → List ℕ → ℕ → Bool
is_free k jobs j = list_all (λ arc. not ((arc.0 == j) && stands_in jobs arc.1)) k.arcs

-- the jobs of the list that have no successor in it
abbrev pub free_jobs : SchedulingTask → List ℕ → List ℕ
free_jobs k jobs = filter (is_free k jobs) jobs

abbrev pub smallest : List ℕ → ℕ
smallest [] = 0
smallest (j ∷ jobs) = fold min j (j ∷ jobs)

-- every job of the list has a successor in it, of which the smallest is named
abbrev pub no_free_fault : List ℕ → List ℕ → Option BoundFault
no_free_fault [] jobs = Some (Condition (smallest jobs))
no_free_fault (j ∷ free) jobs = None

-- the least of f over the list
abbrev pub least : (ℕ → ℤ) → List ℕ → ℤ
least f [] = pos 0
least f (j ∷ jobs) = fold int_min (f j) (map f (j ∷ jobs))

-- the least price, over the jobs that may be last, of completing with all the work of the list
abbrev pub last_of_bound : SchedulingTask → List ℕ → Result ℤ BoundFault
last_of_bound k jobs =
    unless (other_kind (takes_last_of k.class))
    (unless (list_fault k [] jobs)
    (unless (empty_fault jobs)
    (unless (no_free_fault (free_jobs k jobs) jobs)
    (Ok (least (λ j. price k j (sum_by (time_of k) jobs)) (free_jobs k jobs))))))

-- ---- a window

abbrev pub least_number : (ℕ → ℕ) → List ℕ → ℕ
least_number f [] = 0
least_number f (j ∷ jobs) = fold min (f j) (map f (j ∷ jobs))

-- the least release date and all the work, less the greatest due date
abbrev pub window_span : SchedulingTask → List ℕ → ℤ
window_span k jobs =
    pos (least_number (λ j. (job_data k j).release) jobs + sum_by (time_of k) jobs)
    -ℤ greatest (λ j. (job_data k j).due) jobs

abbrev pub window_bound : SchedulingTask → List ℕ → Result ℤ BoundFault
window_bound k jobs =
    unless (other_kind (takes_window k.class))
    (unless (list_fault k [] jobs)
    (unless (empty_fault jobs) (Ok (window_span k jobs))))

-- ---- jobs by rank

-- the first job that is longer than the one before it, which has the time t
abbrev pub longer_fault : SchedulingTask → ℕ → List ℕ → Option BoundFault
longer_fault k t [] = None
longer_fault k t (j ∷ jobs) =
    if nat_lt t (time_of k j) then Some (Condition j) else longer_fault k (time_of k j) jobs

abbrev pub ranks_fault : SchedulingTask → List ℕ → Option BoundFault
ranks_fault k [] = None
ranks_fault k (j ∷ jobs) = longer_fault k (time_of k j) jobs

-- the k-th time counts k / machines times, rounded up
abbrev pub ranks_bound : SchedulingTask → List ℕ → Result ℤ BoundFault
ranks_bound k jobs =
    unless (other_kind (takes_ranks k.class))
    (unless (list_fault k [] jobs)
    (unless (empty_fault jobs)
    (unless (ranks_fault k jobs) (Ok (pos (ranks_value k jobs))))))

-- ---- a split of a flow shop's jobs

-- the time of j on the machine, counted from 0, is at least delta
abbrev pub reaches : SchedulingTask → ℤ → ℕ → ℕ → Bool
reaches k delta i j = int_le delta (pos (time_on k j i))

-- whether j keeps the condition of its side
abbrev pub keeps_side : SchedulingTask → List ℕ → ℤ → Bool → ℕ → Bool
keeps_side k side delta true j =
    if stands_in side j then nat_le (time_on k j 0) (time_on k j 1)
    else (reaches k delta 0 j || nat_le (time_on k j 1) (time_on k j 0))
keeps_side k side delta false j =
    if stands_in side j then reaches k delta 1 j || nat_le (time_on k j 0) (time_on k j 1)
    else nat_le (time_on k j 1) (time_on k j 0)

-- the smallest job that does not
abbrev pub side_fault : SchedulingTask → List ℕ → ℤ → Bool → Option BoundFault
side_fault k side delta first =
    option_map Condition (find (λ j. not (keeps_side k side delta first j)) (all_jobs k))

-- whether j, of the side that has to reach delta, does
abbrev pub reaches_delta : SchedulingTask → List ℕ → ℤ → Bool → ℕ → Bool
reaches_delta k side delta true j = not (stands_in side j) && reaches k delta 0 j
reaches_delta k side delta false j = stands_in side j && reaches k delta 1 j

abbrev pub delta_fault : SchedulingTask → List ℕ → ℤ → Bool → Option BoundFault
delta_fault k side delta first =
    if int_le (pos 0) delta
    && list_any (reaches_delta k side delta first) (all_jobs k) then None else Some BadDelta

-- the side on machine 1, the others on machine 2, and delta
abbrev pub split_bound : SchedulingTask → List ℕ → ℤ → Bool → Result ℤ BoundFault
split_bound k side delta first =
    unless (other_kind (takes_split k.class))
    (unless (list_fault k [] side)
    (unless (side_fault k side delta first)
    (unless (delta_fault k side delta first) (Ok (pos (split_value k side (unsigned_abs delta)))))))

-- ---- any kind

abbrev pub bound_by : Claim → SchedulingTask → Result ℤ BoundFault
bound_by ByPairs k = pairs_bound k
bound_by (ByLastOf jobs) k = last_of_bound k jobs
bound_by (ByWindow jobs) k = window_bound k jobs
bound_by (BySplit side delta first) k = split_bound k side delta first
bound_by ByLoad k = load_bound k
bound_by (ByMachine machine) k = machine_bound k machine
bound_by (ByOneJob j) k = one_job_bound k j
bound_by (ByRanks jobs) k = ranks_bound k jobs

-- the bound of this kind is computed without memory
abbrev pub takes_no_memory : Claim → Bool
takes_no_memory ByPairs = false
takes_no_memory (ByLastOf jobs) = false
takes_no_memory (ByWindow jobs) = false
takes_no_memory (BySplit side delta first) = false
takes_no_memory ByLoad = true
takes_no_memory (ByMachine machine) = true
takes_no_memory (ByOneJob j) = true
takes_no_memory (ByRanks jobs) = false
