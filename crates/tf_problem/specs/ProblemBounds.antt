-- The numbers that bound the task of a problem from below.
use Rattle.std.specs.Prelude.{Bool, true, false, ◌||◌, ◌==◌, ℕ, ◌-◌, ◌+◌, ℤ, pos, negsuc, ◌+ℤ◌, ◌-ℤ◌, ◌*ℤ◌, ◌*◌, ◌≤◌, sum, take, drop, min, max, map, length, List, [], ◌∷◌, slice_index, if◌then◌else◌}
use Rattle.std.specs.Int.{div_ceil}
use Rattle.std.specs.List.{fold, range_with_len, sum_by}
use Rattle.tf_model.specs.declared.problem.Goal.{Goal}
use Rattle.tf_model.specs.declared.problem.Goal.TheVariants as goals
use Rattle.tf_model.specs.declared.problem.Env.{Env}
use Rattle.tf_model.specs.ClassTable.{is_single_env, is_parallel_env, is_shop_env}
use Rattle.tf_model.specs.Cost.{greatest}
use Rattle.tf_model.specs.Bounds.{pairs_value}
use Rattle.tf_check.specs.Bound.{least_number, least}
use Rattle.tf_posed.specs.ProblemData.{ProblemData, IsProblemJob, problem_jobs, problem_time, problem_time_on, time_over, problem_release, problem_due, problem_weight, route_of}
use Rattle.tf_problem.specs.Relaxed.{weighed_task}
use Rattle.tf_posed.specs.ProblemCost.{penalty}

-- ---- kinds of problems

-- the objectives that are the maximum completion time or lateness
abbrev pub is_max_goal : Goal → Bool
is_max_goal goals.Cmax = true
is_max_goal goals.Lmax = true
is_max_goal _ = false

-- the sums of completion times or of tardiness
abbrev pub is_tardy_goal : Goal → Bool
is_tardy_goal goals.SumC = true
is_tardy_goal goals.SumWC = true
is_tardy_goal goals.SumT = true
is_tardy_goal goals.SumWT = true
is_tardy_goal _ = false

-- the sums of completion times
abbrev pub is_completion_goal : Goal → Bool
is_completion_goal goals.SumC = true
is_completion_goal goals.SumWC = true
is_completion_goal _ = false

-- the objectives that are sums over the jobs
abbrev pub is_sum_goal : Goal → Bool
is_sum_goal goals.Cmax = false
is_sum_goal goals.Lmax = false
is_sum_goal goals.Hmax = false
is_sum_goal _ = true

-- one machine, or a shop: a job has a processing time for each machine
abbrev pub is_by_machine : Env → Bool
is_by_machine e = is_single_env e || is_shop_env e

-- one machine, or identical machines in parallel: a job has one processing time
abbrev pub is_alike : Env → Bool
is_alike e = is_single_env e || is_parallel_env e

-- ---- where each job has one time, and one job anywhere

-- of some jobs, the least release date and their time, shared out among the machines, less the
-- greatest due date
abbrev pub window_value : ProblemData → List ℕ → ℤ
window_value k jobs =
    pos (least_number (problem_release k) jobs + div_ceil (sum_by (problem_time k) jobs) k.machines)
    -ℤ greatest (problem_due k) jobs

-- of some jobs, the least release date and h + 1 times the least time, less the greatest due date
abbrev pub crowd_value : ProblemData → ℕ → List ℕ → ℤ
crowd_value k h jobs =
    pos (least_number (problem_release k) jobs + (h + 1) * least_number (problem_time k) jobs)
    -ℤ greatest (problem_due k) jobs

-- the time of a job, in a shop on all machines together
abbrev pub problem_work : ProblemData → ℕ → ℕ
problem_work k j =
    if is_shop_env k.problem.env then time_over k j 0 k.machines else problem_time k j

-- the release date of a job and its time, less its due date
abbrev pub one_job_value : ProblemData → ℕ → ℤ
one_job_value k j = pos (problem_release k j + problem_work k j) -ℤ problem_due k j

-- ---- one machine, or one of a shop

-- the machines of a route before a machine
abbrev pub before : ℕ → List ℕ → List ℕ
before a [] = []
before a (b ∷ route) = if b == a then [] else b ∷ before a route

-- the machines of a route behind a machine
abbrev pub behind : ℕ → List ℕ → List ℕ
behind a [] = []
behind a (b ∷ route) = if b == a then route else behind a route

-- The head of a job on a machine: no row before has the job there. It is the job's release date and
-- its time on the machines of its route before this one.
abbrev pub head : ProblemData → ℕ → ℕ → ℕ
head k a j = problem_release k j + sum_by (problem_time_on k j) (before a (route_of k j))

-- The tail of a job behind a machine: so much later at least it completes. It is its time on the
-- machines of its route behind this one.
abbrev pub tail : ProblemData → ℕ → ℕ → ℕ
tail k a j = sum_by (problem_time_on k j) (behind a (route_of k j))

-- of some jobs, the least head on a machine, their time on it, and the least of what each then still
-- has to go, less its due date
abbrev pub machine_value : ProblemData → ℕ → List ℕ → ℤ
machine_value k a jobs =
    pos (least_number (head k a) jobs + sum_by (λ j. problem_time_on k j a) jobs)
    +ℤ least (λ j. pos (tail k a j) -ℤ problem_due k j) jobs

-- the least head on machine a and the least tail behind machine b, of all jobs
abbrev pub pair_margin : ProblemData → ℕ → ℕ → ℕ
pair_margin k a b = least_number (head k a) (problem_jobs k) + least_number (tail k b) (problem_jobs k)

-- ---- multipliers

-- the sum of f along the list
abbrev pub int_sum : (ℕ → ℤ) → List ℕ → ℤ
int_sum f [] = pos 0
int_sum f (j ∷ jobs) = f j +ℤ int_sum f jobs

-- a number divided by q and rounded up, 0 where it is negative
abbrev pub share_up : ℤ → ℕ → ℤ
share_up (pos n) q = pos (div_ceil n q)
share_up (negsuc n) q = pos 0

-- the multiplier of a job, by its numerators in the order of the jobs
abbrev pub numerator : List ℕ → ℕ → ℕ
numerator v j = slice_index v (j - 1)

-- the arcs that are asked for: none where the problem has no precedence constraints
abbrev pub problem_arcs : ProblemData → List (ℕ × ℕ)
problem_arcs k = if k.problem.prec then k.arcs else []

-- the sum of f over the arcs, each times its multiplier; a multiplier past the end of the list is 0
abbrev pub over_arcs : (ℕ × ℕ → ℕ) → List (ℕ × ℕ) → List ℕ → ℕ
over_arcs f [] l = 0
over_arcs f (arc ∷ arcs) [] = 0
over_arcs f (arc ∷ arcs) (n ∷ l) = n * f arc + over_arcs f arcs l

-- the multipliers of the arcs from a job, and of those to it
abbrev pub arcs_from : ProblemData → List ℕ → ℕ → ℕ
arcs_from k l j = over_arcs (λ arc. if arc.0 == j then 1 else 0) (problem_arcs k) l

abbrev pub arcs_to : ProblemData → List ℕ → ℕ → ℕ
arcs_to k l j = over_arcs (λ arc. if arc.1 == j then 1 else 0) (problem_arcs k) l

-- for each arc its multiplier times the time of its second job, in a shop on all machines
abbrev pub arcs_gain : ProblemData → List ℕ → ℕ
arcs_gain k l = over_arcs (λ arc. problem_work k arc.1) (problem_arcs k) l

-- the multiplier of a job, after each arc has moved its own from its second job to its first
abbrev pub moved : ProblemData → List ℕ → List ℕ → ℕ → ℕ
moved k v l j = numerator v j + arcs_from k l j - arcs_to k l j

-- the multiplier of each job is at most its weight, and no arcs take more from a job than it has
pub record AreMultipliers (k : ProblemData) (v l : List ℕ) (q : ℕ) : Type 0 where
  pub within : (j : ℕ) → IsProblemJob k j → numerator v j ≤ q * problem_weight k j
  pub enough : (j : ℕ) → IsProblemJob k j → arcs_to k l j ≤ numerator v j + arcs_from k l j

-- the due dates, each as often as the job's own multiplier
abbrev pub owed_dues : ProblemData → List ℕ → ℤ
owed_dues k v = int_sum (λ j. pos (numerator v j) *ℤ problem_due k j) (problem_jobs k)

-- The least sum of completions on machine a, weighted by the moved multipliers; as often what each job
-- waits for the machine and has to go behind it; what the arcs gain; less the due dates; all over the
-- denominator q.
abbrev pub arc_multiplier_value : ProblemData → ℕ → List ℕ → List ℕ → ℕ → ℤ
arc_multiplier_value k a v l q =
    share_up (pos (pairs_value (weighed_task k a (moved k v l))
    + sum_by (λ j. moved k v l j * (least_number (head k a) (problem_jobs k) + tail k a j)) (problem_jobs k)
    + arcs_gain k l)
    -ℤ owed_dues k v) q

-- Identical machines, with or without preemption: the same with one machine that is as fast as all of
-- them, (m - 1) / (2 m) of each job's time (Eastman, Even and Isaacs 1964) and the least release date;
-- all times 2 m, over 2 m q.
abbrev pub shared_multiplier_value : ProblemData → List ℕ → List ℕ → ℕ → ℤ
shared_multiplier_value k v l q =
    share_up (pos (2 * pairs_value (weighed_task k 0 (moved k v l))
    + (k.machines - 1) * sum_by (λ j. moved k v l j * problem_time k j) (problem_jobs k)
    + 2 * k.machines
    * (least_number (problem_release k) (problem_jobs k) * sum_by (moved k v l) (problem_jobs k)
    + arcs_gain k l))
    -ℤ (pos (2 * k.machines) *ℤ owed_dues k v))
    (2 * k.machines * q)

-- in every environment: on identical machines by all of them together, elsewhere by machine a
abbrev pub any_multiplier_value : ProblemData → ℕ → List ℕ → List ℕ → ℕ → ℤ
any_multiplier_value k a v l q =
    if is_parallel_env k.problem.env then shared_multiplier_value k v l q
    else arc_multiplier_value k a v l q

-- ---- prices

-- the prices of n rows from row s on; a row past the end of the list has price 0
abbrev pub price_of_rows : List ℕ → ℕ → ℕ → ℕ
price_of_rows prices s n = sum (take n (drop s prices))

-- what job j costs if it starts in row s and is not preempted: q times what it adds to the
-- objective, and the prices of its rows
abbrev pub start_price : ProblemData → ℕ → List ℕ → ℕ → ℕ → ℕ
start_price k q prices j s =
    q * penalty k.problem.goal k j (s + problem_time k j) + price_of_rows prices s (problem_time k j)

-- the greatest release date, 0 where the problem has none
abbrev pub last_release : ProblemData → ℕ
last_release k = fold max 0 (map (problem_release k) (problem_jobs k))

-- The greatest release date and the time of all jobs, in a shop on all machines. A timetable that is
-- over later has an idle row, and costs no less without it.
abbrev pub horizon : ProblemData → ℕ
horizon k = last_release k + sum_by (problem_work k) (problem_jobs k)

-- the number for each job is at most its price, whenever it starts after its release date and
-- completes by the horizon
abbrev pub AreCheapest : ProblemData → ℕ → List ℕ → List ℕ → Type 0
AreCheapest k q prices cheapest = (j : ℕ) → IsProblemJob k j → (s : ℕ)
    → problem_release k j ≤ s → s + problem_time k j ≤ horizon k
    → numerator cheapest j ≤ start_price k q prices j s

-- the last start of a job that matters: after it there is no price, or no time
abbrev pub last_within : ProblemData → List ℕ → ℕ → ℕ
last_within k prices j =
    min (max (problem_release k j) (length prices)) (horizon k - problem_time k j)

-- what the jobs cost at least, less all prices on each machine, over q
abbrev pub prices_value : ProblemData → ℕ → List ℕ → List ℕ → ℤ
prices_value k q prices cheapest =
    share_up (pos (sum_by (numerator cheapest) (problem_jobs k)) -ℤ pos (k.machines * sum prices)) q

-- ---- prices of single rows

-- what one row costs job j, times its processing time: q times its weight for each row before, and
-- the price of the row
abbrev pub row_price : ProblemData → ℕ → List ℕ → ℕ → ℕ → ℕ
row_price k q prices j t = q * problem_weight k j * t + problem_time k j * slice_index prices t

-- The least of them from the release date on. A row after the first one without a price costs more.
abbrev pub cheapest_row : ProblemData → ℕ → List ℕ → ℕ → ℕ
cheapest_row k q prices j =
    least_number (row_price k q prices j)
    (range_with_len (problem_release k j) (length prices - problem_release k j + 1))

-- Twice what job j costs, if it may be preempted and each of its rows is a cheapest one. Their mean
-- is at least half of the processing time before the completion.
abbrev pub rows_cost : ProblemData → ℕ → List ℕ → ℕ → ℕ
rows_cost k q prices j =
    q * problem_weight k j * (problem_time k j + 1) + 2 * cheapest_row k q prices j

-- what the jobs cost at least, less all prices on each machine, over q (Goemans, Queyranne, Schulz,
-- Skutella and Wang 2002)
abbrev pub rows_value : ProblemData → ℕ → List ℕ → ℤ
rows_value k q prices =
    share_up
    (pos (sum_by (rows_cost k q prices) (problem_jobs k)) -ℤ pos (2 * k.machines * sum prices)) (2 * q)

-- ---- each job by itself

-- what each job adds to a sum if it starts at its release date and waits nowhere
abbrev pub alone_cost : ProblemData → ℕ
alone_cost k =
    sum_by (λ j. penalty k.problem.goal k j (problem_release k j + problem_work k j)) (problem_jobs k)
