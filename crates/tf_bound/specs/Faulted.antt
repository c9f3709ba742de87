-- The first fault of a certificate of each kind on a task. Each line of a fault is one condition, in
-- order.
use Rattle.std.specs.Prelude.{◌≡◌, ◌⊎◌, ℕ, ◌+◌, ◌-◌, ◌*◌, ◌^◌, map, max, ℤ, pos, negsuc, ◌+ℤ◌, ◌-ℤ◌, ◌*ℤ◌, int_lt, Bool, not, ◌&&◌, ◌||◌, ◌==◌, nat_lt, nat_le, List, [], ◌∷◌, ◌++◌, length, sum, Option, Some, None, Result, MatchResult, if◌then◌else◌}
use Rattle.std.specs.List.{find, list_any, range_with_len, sum_by}
use Rattle.std.specs.Option.{option_map, option_or}
use Rattle.tf_model.specs.Bounds.{pairs_value, stands_in}
use Rattle.tf_model.specs.ClassTable.{is_parallel_env}
use Rattle.tf_model.specs.Limit.{limit}
use Rattle.tf_check.specs.Bound.{least_number}
use Rattle.tf_posed.specs.ProblemData.{ProblemData, problem_job, problem_jobs, problem_due, problem_release, problem_time, problem_time_on, problem_weight}
use Rattle.tf_posed.specs.ProblemCost.{penalty}
use Rattle.tf_problem.specs.ProblemBounds.{head, int_sum, numerator, problem_work, tail, arcs_from, arcs_to, arcs_gain, moved, owed_dues}
use Rattle.tf_problem.specs.Relaxed.{weighed_task}
use Rattle.tf_problem.specs.Kept.{due_time}
use Rattle.tf_problem.specs.Shortest.{shortest_value}
use Rattle.tf_problem.specs.Ranks.{rank_value}
use Rattle.tf_problem.specs.Split.{keeps_side, reaches_delta}
use Rattle.tf_problem.specs.Parts.{part_of}
use Rattle.tf_bound.specs.Kinds.{takes_machine, takes_windows, takes_crowds, takes_one_job, takes_multipliers, takes_prices, takes_alone, takes_kept, takes_kept_weight, takes_shortest, takes_ranks, takes_machine_prices, takes_potentials, takes_split}
use Rattle.tf_problem.specs.MachinePrices.{end_from}
use Rattle.tf_problem.specs.Potentials.{potential_of_end, potential_after, potential_before, start_delay}
use Rattle.tf_bound.specs.declared.fault.BoundFault.{BoundFault}
use Rattle.tf_bound.specs.declared.fault.BoundFault.TheVariants.{OtherKind, NoDenominator, BadMachine, BadJob, Repeated, TooFew, Numerators, Condition, MachineOrder, BadDelta, HasRoom, TooLarge, OutOfMemory}
use Rattle.tf_bound.specs.declared.certificate.BoundCertificate.{BoundCertificate}
use Rattle.tf_bound.specs.declared.certificate.BoundCertificate.TheVariants as kinds

-- what is answered is this fault, or that an allocation failed
abbrev pub IsFaultOrNoMemory : Option BoundFault → BoundFault → Type 0
IsFaultOrNoMemory wanted fault = (fault ≡ OutOfMemory) ⊎ (wanted ≡ Some fault)

-- A value where there is no fault. Otherwise the fault, or that an allocation failed.
abbrev pub NamesFault : {X : Type 0} → Option BoundFault → Result X BoundFault → Type 0
NamesFault wanted result = MatchResult result (λ _. wanted ≡ None) (IsFaultOrNoMemory wanted)

-- ---- the conditions

-- the kind bounds no task of the problem
abbrev pub other_kind : Bool → Option BoundFault
other_kind takes = if takes then None else Some OtherKind

-- the task does not have the machine, counted from 0
abbrev pub no_machine : ProblemData → ℕ → Option BoundFault
no_machine k a = if nat_lt a k.machines then None else Some (BadMachine a)

abbrev pub is_job : ProblemData → ℕ → Bool
is_job k j = nat_lt 0 j && nat_le j (length k.jobs)

abbrev pub no_job : ProblemData → ℕ → Option BoundFault
no_job k j = if is_job k j then None else Some (BadJob j)

-- the first number, from left to right, that is no job or stood before; `seen` are those before
abbrev pub list_fault : ProblemData → List ℕ → List ℕ → Option BoundFault
list_fault k seen [] = None
list_fault k seen (j ∷ jobs) =
    if not (is_job k j) then Some (BadJob j)
    else (if stands_in seen j then Some (Repeated j) else list_fault k (seen ++ j ∷ []) jobs)

-- the list has no more jobs than n
abbrev pub too_few : ℕ → List ℕ → Option BoundFault
too_few n jobs = if nat_lt n (length jobs) then None else Some TooFew

-- ---- the kinds by lists of jobs

abbrev pub machine_fault : ProblemData → ℕ → List ℕ → Option BoundFault
machine_fault k a jobs =
    option_or (other_kind (takes_machine k.problem))
    (option_or (no_machine k a)
    (option_or (list_fault k [] jobs)
    (too_few 0 jobs)))

abbrev pub window_fault : ProblemData → List ℕ → Option BoundFault
window_fault k jobs =
    option_or (other_kind (takes_windows k.problem))
    (option_or (list_fault k [] jobs)
    (too_few 0 jobs))

abbrev pub crowd_fault : ProblemData → ℕ → List ℕ → Option BoundFault
crowd_fault k h jobs =
    option_or (other_kind (takes_crowds k.problem))
    (option_or (list_fault k [] jobs)
    (too_few (h * k.machines) jobs))

abbrev pub one_job_fault : ProblemData → ℕ → Option BoundFault
one_job_fault k j =
    option_or (other_kind (takes_one_job k.problem))
    (no_job k j)

-- ---- multipliers

abbrev pub no_denominator : ℕ → Option BoundFault
no_denominator q = if q == 0 then Some NoDenominator else None

-- there are not as many numerators as jobs
abbrev pub numerators_fault : ProblemData → List ℕ → Option BoundFault
numerators_fault k v = if length v == length k.jobs then None else Some Numerators

-- there are some of arcs, and not as many as arcs
abbrev pub arcs_fault : ProblemData → List ℕ → Option BoundFault
arcs_fault k l =
    if (length l == 0) || (length l == length k.arcs) then None else Some Numerators

-- the numerator is more than q times the weight
abbrev pub is_beyond : ProblemData → ℕ → List ℕ → ℕ → Bool
is_beyond k q v j = nat_lt (q * problem_weight k j) (numerator v j)

-- the smallest job that the test names
abbrev pub first_job : ProblemData → (ℕ → Bool) → Option BoundFault
first_job k test = option_map Condition (find test (problem_jobs k))

-- what is wrong with the certificate by itself, or with a numerator of a job
abbrev pub numbers_fault : ProblemData → ℕ → ℕ → List ℕ → List ℕ → Option BoundFault
numbers_fault k a q v l =
    option_or (other_kind (takes_multipliers k.problem))
    (option_or (no_denominator q)
    (option_or (no_machine k a)
    (option_or (numerators_fault k v)
    (option_or (arcs_fault k l)
    (first_job k (is_beyond k q v))))))

-- the arcs to the job take more than it has and those from it give
abbrev pub is_overdrawn : ProblemData → List ℕ → List ℕ → ℕ → Bool
is_overdrawn k v l j = nat_lt (numerator v j + arcs_from k l j) (arcs_to k l j)

-- the machine whose times are looked at: on identical machines each job has the first alone
abbrev pub timed_machine : ProblemData → ℕ → ℕ
timed_machine k a = if is_parallel_env k.problem.env then 0 else a

-- the job has no time on the machine
abbrev pub is_idle : ProblemData → ℕ → ℕ → Bool
is_idle k a j = problem_time_on k j a == 0

abbrev pub too_large : Bool → Option BoundFault
too_large wide = if wide then Some TooLarge else None

-- the number needs more than 128 bits, of which one is its sign
abbrev pub is_wide : ℤ → Bool
is_wide (pos n) = nat_le (2 ^ 127) n
is_wide (negsuc n) = nat_le (2 ^ 127) n

-- a job's multiplier with what the arcs move needs more than 64 bits
abbrev pub are_moved_wide : ProblemData → List ℕ → List ℕ → Bool
are_moved_wide k v l = list_any (nat_le (2 ^ 64)) (map (moved k v l) (problem_jobs k))

-- on identical machines all is counted 2 m times, and the weighted completions on one that is as fast
-- as all twice
abbrev pub all_counted : ProblemData → ℕ
all_counted k = if is_parallel_env k.problem.env then 2 * k.machines else 1

abbrev pub pairs_counted : ProblemData → ℕ
pairs_counted k = if is_parallel_env k.problem.env then 2 else 1

-- on identical machines the least release date, elsewhere the least head
abbrev pub first_start : ProblemData → ℕ → ℕ
first_start k a =
    if is_parallel_env k.problem.env then least_number (problem_release k) (problem_jobs k)
    else least_number (head k a) (problem_jobs k)

-- what is added to the completion of a job, if the machine starts at `first`
abbrev pub wait_from : ProblemData → ℕ → ℕ → ℕ → ℕ
wait_from k a first j =
    if is_parallel_env k.problem.env then (k.machines - 1) * problem_time k j + 2 * k.machines * first
    else first + tail k a j

-- the waits of all jobs, each as often as its weight
abbrev pub waits_from : ProblemData → ℕ → ℕ → (ℕ → ℕ) → ℕ
waits_from k a first u = sum_by (λ j. u j * wait_from k a first j) (problem_jobs k)

-- what the weighted completions come to at least, from their sum on one machine, the waits and what
-- the arcs gain
abbrev pub come_to : ProblemData → ℕ → ℕ → ℕ → ℕ
come_to k pairs waits gain = pairs_counted k * pairs + waits + all_counted k * gain

abbrev pub least_by : ProblemData → ℕ → (ℕ → ℕ) → List ℕ → ℕ
least_by k a u l =
    come_to k (pairs_value (weighed_task k (timed_machine k a) u))
    (waits_from k a (first_start k a) u) (arcs_gain k l)

-- the due date of a job, as often as its numerator says, and those of the jobs up to one
abbrev pub owed_due : ProblemData → List ℕ → ℕ → ℤ
owed_due k v j = pos (numerator v j) *ℤ problem_due k j

abbrev pub owed_to : ProblemData → List ℕ → ℕ → ℤ
owed_to k v j = int_sum (owed_due k v) (range_with_len 1 j)

-- the due date of a job is too wide, or that of all jobs up to one
abbrev pub are_owed_wide : ProblemData → List ℕ → Bool
are_owed_wide k v = list_any (λ j. is_wide (owed_due k v j) || is_wide (owed_to k v j)) (problem_jobs k)

-- the weighted completions are too wide, the due dates as often as all is counted, or what remains
abbrev pub is_rest_wide : ℕ → ℕ → ℤ → Bool
is_rest_wide least times owed =
    is_wide (pos least) || (is_wide (pos times *ℤ owed) || is_wide (pos least -ℤ (pos times *ℤ owed)))

-- a number of the bound is too wide
abbrev pub are_multipliers_wide : ProblemData → ℕ → List ℕ → List ℕ → Bool
are_multipliers_wide k a v l =
    are_moved_wide k v l
    || (are_owed_wide k v || is_rest_wide (least_by k a (moved k v l) l) (all_counted k) (owed_dues k v))

abbrev pub multipliers_fault : ProblemData → ℕ → ℕ → List ℕ → List ℕ → Option BoundFault
multipliers_fault k a q v l =
    option_or (numbers_fault k a q v l)
    (option_or (first_job k (is_overdrawn k v l))
    (option_or (first_job k (is_idle k (timed_machine k a)))
    (too_large (are_multipliers_wide k a v l))))

-- ---- prices

-- the last start that the prices tell apart from later ones
abbrev pub last_start : ProblemData → List ℕ → ℕ → ℕ
last_start k prices j = max (problem_release k j) (length prices)

-- From its last start a job completes beyond the limit, or costs more, or its weight times q needs
-- more than 64 bits.
abbrev pub is_dear : ProblemData → ℕ → List ℕ → ℕ → Bool
is_dear k q prices j =
    nat_lt limit (last_start k prices j + problem_time k j)
    || (nat_le (2 ^ 64) (q * problem_weight k j)
    || nat_lt limit (q * penalty k.problem.goal k j (last_start k prices j + problem_time k j)))

-- all prices are beyond the limit, or a job is
abbrev pub are_prices_large : ProblemData → ℕ → List ℕ → Bool
are_prices_large k q prices =
    nat_lt limit (sum prices) || list_any (is_dear k q prices) (problem_jobs k)

abbrev pub prices_fault : ProblemData → ℕ → List ℕ → Option BoundFault
prices_fault k q prices =
    option_or (other_kind (takes_prices k.problem))
    (option_or (no_denominator q)
    (too_large (are_prices_large k q prices)))

-- ---- prices on one machine of a shop

-- the last start on the machine that the prices tell apart from later ones
abbrev pub last_from : ProblemData → ℕ → List ℕ → ℕ → ℕ
last_from k a prices j = max (head k a j) (length prices)

-- From its last start a job completes beyond the limit, or costs more, or its weight times q needs
-- more than 64 bits.
abbrev pub is_dear_from : ProblemData → ℕ → ℕ → List ℕ → ℕ → Bool
is_dear_from k a q prices j =
    nat_lt limit (last_from k a prices j + problem_time_on k j a + tail k a j)
    || (nat_le (2 ^ 64) (q * problem_weight k j)
    || nat_lt limit (q * penalty k.problem.goal k j (end_from k a j (last_from k a prices j))))

-- all prices are beyond the limit, or a job is
abbrev pub are_machine_prices_large : ProblemData → ℕ → ℕ → List ℕ → Bool
are_machine_prices_large k a q prices =
    nat_lt limit (sum prices) || list_any (is_dear_from k a q prices) (problem_jobs k)

abbrev pub machine_prices_fault : ProblemData → ℕ → ℕ → List ℕ → Option BoundFault
machine_prices_fault k a q prices =
    option_or (other_kind (takes_machine_prices k.problem))
    (option_or (no_denominator q)
    (option_or (no_machine k a)
    (too_large (are_machine_prices_large k a q prices))))

-- ---- each job alone

abbrev pub alone_fault : ProblemData → Option BoundFault
alone_fault k = other_kind (takes_alone k.problem)

-- ---- lists in an order

-- the first job of which f is less than that of the job before it, which is t
abbrev pub falls_fault : (ℕ → ℕ) → ℕ → List ℕ → Option BoundFault
falls_fault f t [] = None
falls_fault f t (j ∷ jobs) = if nat_lt (f j) t then Some (Condition j) else falls_fault f (f j) jobs

-- the first job of which f is more than that of the job before it, which is t
abbrev pub rises_fault : (ℕ → ℕ) → ℕ → List ℕ → Option BoundFault
rises_fault f t [] = None
rises_fault f t (j ∷ jobs) = if nat_lt t (f j) then Some (Condition j) else rises_fault f (f j) jobs

-- jobs by due date
abbrev pub kept_fault : ProblemData → List ℕ → Option BoundFault
kept_fault k jobs =
    option_or (other_kind (takes_kept k.problem))
    (option_or (list_fault k [] jobs)
    (option_or (too_few 0 jobs)
    (falls_fault (due_time k) 0 jobs)))

-- the most time of jobs together for which a table is made, and the most entries of one for each job
abbrev pub most_table_time : ℕ
most_table_time = 10000000

abbrev pub most_entries : ℕ
most_entries = 1000000000

-- the jobs weigh more than the limit, or their time is too much for the table
abbrev pub is_table_large : ProblemData → List ℕ → Bool
is_table_large k jobs =
    nat_lt limit (sum_by (problem_weight k) jobs)
    || nat_lt most_table_time (sum_by (problem_time k) jobs)
    || nat_lt most_entries (length jobs * sum_by (problem_time k) jobs)

-- jobs by due date, of which the least weight is lost
abbrev pub kept_weight_fault : ProblemData → List ℕ → Option BoundFault
kept_weight_fault k jobs =
    option_or (other_kind (takes_kept_weight k.problem))
    (option_or (list_fault k [] jobs)
    (option_or (too_few 0 jobs)
    (option_or (falls_fault (due_time k) 0 jobs)
    (too_large (is_table_large k jobs)))))

-- jobs by due date, of which the fewest or the least weight is lost
abbrev pub late_fault : ProblemData → List ℕ → Option BoundFault
late_fault k jobs = if takes_kept_weight k.problem then kept_weight_fault k jobs else kept_fault k jobs

-- jobs by release date
abbrev pub shortest_fault : ProblemData → List ℕ → Option BoundFault
shortest_fault k jobs =
    option_or (other_kind (takes_shortest k.problem))
    (option_or (list_fault k [] jobs)
    (option_or (too_few 0 jobs)
    (option_or (falls_fault (problem_release k) 0 jobs)
    (too_large (nat_lt limit (shortest_value k jobs))))))

-- jobs by falling time
abbrev pub ranks_fault : ProblemData → List ℕ → Option BoundFault
ranks_fault k jobs =
    option_or (other_kind (takes_ranks k.problem))
    (option_or (list_fault k [] jobs)
    (option_or (too_few 0 jobs)
    (option_or (rises_fault (problem_time k) limit jobs)
    (too_large (nat_lt limit (rank_value k jobs))))))

-- ---- work in an interval

-- the machines have room for the parts of the jobs
abbrev pub has_room : ProblemData → ℕ → ℕ → ℤ → List ℕ → Option BoundFault
has_room k from until late jobs =
    if nat_lt (k.machines * (until - from)) (sum_by (part_of k from until late) jobs) then None
    else Some HasRoom

abbrev pub parts_fault : ProblemData → ℕ → ℕ → ℤ → List ℕ → Option BoundFault
parts_fault k from until late jobs =
    option_or (other_kind (takes_windows k.problem))
    (option_or (list_fault k [] jobs)
    (has_room k from until late jobs))

-- ---- potentials

-- there are not one number and two for each job
abbrev pub pairs_fault : ProblemData → List ℤ → Option BoundFault
pairs_fault k p = if length p == 2 * length k.jobs + 1 then None else Some Numerators

-- the job has no time on some machine
abbrev pub is_partial : ProblemData → ℕ → Bool
is_partial k j = list_any (λ t. t == 0) (problem_job k j).times

-- the delays of all pairs of jobs take too many steps
abbrev pub are_many_steps : ProblemData → Bool
are_many_steps k = nat_lt 1000000000 (length k.jobs * length k.jobs * k.machines)

-- the first number of a job and the second of another are together more than the delay
abbrev pub is_at_odds : ProblemData → List ℤ → ℕ → ℕ → Bool
is_at_odds k p i j =
    not (i == j) && int_lt (pos (start_delay k i j)) (potential_after p i +ℤ potential_before p j)

-- the second number of a job is more than its release date
abbrev pub begins_late : ProblemData → List ℤ → ℕ → Bool
begins_late k p j = int_lt (pos (problem_release k j)) (potential_before p j)

-- the first number of a job and that for the end are more than its time less its due date
abbrev pub ends_late : ProblemData → List ℤ → ℕ → Bool
ends_late k p j =
    int_lt (pos (problem_work k j) -ℤ problem_due k j) (potential_after p j +ℤ potential_of_end p)

-- or the first number of a job and the second of another are more than their delay
abbrev pub is_excessive : ProblemData → List ℤ → ℕ → Bool
is_excessive k p j =
    (begins_late k p j || ends_late k p j) || list_any (is_at_odds k p j) (problem_jobs k)

abbrev pub potentials_fault : ProblemData → List ℤ → Option BoundFault
potentials_fault k p =
    option_or (other_kind (takes_potentials k.problem))
    (option_or (pairs_fault k p)
    (option_or (first_job k (is_partial k))
    (option_or (too_large (are_many_steps k))
    (first_job k (is_excessive k p)))))

-- ---- two machines
-- the first does not come before the second
abbrev pub machine_order : ℕ → ℕ → Option BoundFault
machine_order a b = if nat_lt a b then None else Some MachineOrder

-- no job reaches delta
abbrev pub delta_fault : ProblemData → ℕ → ℕ → (ℕ → Bool) → ℕ → Bool → Option BoundFault
delta_fault k a b side delta first =
    if list_any (reaches_delta k a b side delta first) (problem_jobs k) then None else Some BadDelta

-- a job breaks the condition of its side, or none reaches delta
abbrev pub sides_fault : ProblemData → ℕ → ℕ → (ℕ → Bool) → ℕ → Bool → Option BoundFault
sides_fault k a b side delta first =
    option_or (first_job k (λ j. not (keeps_side k a b side delta first j)))
    (delta_fault k a b side delta first)

abbrev pub split_fault : ProblemData → ℕ → ℕ → List ℕ → ℕ → Bool → Option BoundFault
split_fault k a b side delta first =
    option_or (other_kind (takes_split k.problem))
    (option_or (no_machine k b)
    (option_or (machine_order a b)
    (option_or (list_fault k [] side)
    (sides_fault k a b (stands_in side) delta first))))

-- ---- any kind

abbrev pub certificate_fault : {A : Type 0} → ProblemData → BoundCertificate A → Option BoundFault
certificate_fault k (kinds.Machine machine jobs) = machine_fault k machine jobs.items
certificate_fault k (kinds.Window jobs) = window_fault k jobs.items
certificate_fault k (kinds.Crowd h jobs) = crowd_fault k h jobs.items
certificate_fault k (kinds.OneJob job) = one_job_fault k job
certificate_fault k (kinds.Multipliers machine q numerators arcs) =
    multipliers_fault k machine q numerators.items arcs.items
certificate_fault k (kinds.Prices q rows) = prices_fault k q rows.items
certificate_fault k (kinds.MachinePrices machine q rows) =
    machine_prices_fault k machine q rows.items
certificate_fault k kinds.Alone = alone_fault k
certificate_fault k (kinds.Kept jobs) = late_fault k jobs.items
certificate_fault k (kinds.Shortest jobs) = shortest_fault k jobs.items
certificate_fault k (kinds.Ranks jobs) = ranks_fault k jobs.items
certificate_fault k (kinds.Split first second delta by_first side) =
    split_fault k first second side.items delta by_first
certificate_fault k (kinds.Parts from until late jobs) = parts_fault k from until late jobs.items
certificate_fault k (kinds.Potentials numbers) = potentials_fault k numbers.items
