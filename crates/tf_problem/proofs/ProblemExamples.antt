-- Worked examples: what the definitions give on small tasks, and bounds that are reached.
use Rattle.std.proofs.Common.{◌≡◌, ◌≢◌, Bool, true, false, ℕ, zero, suc, ◌+◌, ◌*◌, ◌≤◌, ◌<◌, ◌==◌, cond, List, [], ◌∷◌, length, slice_index_or, refl, sym, ap, ◌∙◌, subst, ⊎_elim, arith, ℤ, pos, Some, Ok, sum_by, ◌⊎◌, inl, inr, negsuc, ◌-ℤ◌, ◌≤ℤ◌, Contains, IsTrue}
use Rattle.std.proofs.lemmas.Bool.{false≢true, true≢false, cases_lt, cases_eq}
use Rattle.std.proofs.lemmas.List.Kept.{AllPairs-cons}
use Rattle.std.proofs.lemmas.List.Sorted.{Contains-permutation}
use Rattle.std.proofs.lemmas.Int.{ints}
use Rattle.std.proofs.lemmas.List.Elements.{All-cons, All-nil}
use Rattle.tf_model.specs.declared.problem.Env.TheVariants.{Single, Parallel, Flow, OpenShop, JobShop}
use Rattle.tf_model.specs.declared.problem.Goal.TheVariants as goals
use Rattle.tf_model.specs.ClassTable.{plain_problem}
use Rattle.tf_model.specs.Timetable.{Timetable}
use Rattle.tf_model.specs.SchedulingTask.{job_data, time_of, all_jobs}
use Rattle.tf_model.specs.Whole.{IsWithin}
use Rattle.tf_model.specs.Sound.{IsSound}
use Rattle.tf_check.specs.Claim.{BySplit}
use Rattle.tf_check.specs.Bound.{bound_by}
use Rattle.tf_posed.specs.ProblemData.{ProblemData, ProblemJobData, IsProblemSound, IsRoute, IsProblemJob, needs_time, problem_job, problem_jobs, problem_time, problem_weight, problem_release, problem_due, time_over}
use Rattle.tf_posed.specs.FitsProblem.{FitsProblem, GoesFirst, IsInOneOrder}
use Rattle.tf_posed.specs.ProblemCost.{problem_cost, tardiness, unit_penalty, IsLowerBound, IsProblemBest}
use Rattle.tf_problem.specs.Relaxed.{pair_task}
use Rattle.tf_problem.specs.ProblemBounds.{pair_margin, machine_value, window_value, any_multiplier_value, numerator, one_job_value, problem_work, AreCheapest, start_price}
use Rattle.tf_problem.proofs.Least.{Contains-problem_jobs}
use Rattle.tf_problem.proofs.FitsTest.{fits-passed}
use Rattle.tf_posed.proofs.Conditions.{All-problem_jobs}
use Rattle.tf_problem.proofs.Relaxing.{bound-of_relaxation}
use Rattle.tf_problem.proofs.Windows.{window-bound, one_job-bound}
use Rattle.tf_problem.proofs.Crowds.{crowd-bound}
use Rattle.tf_model.proofs.Loads.{once}
use Rattle.tf_problem.proofs.TwoMachines.{pair_task-relaxes}
use Rattle.tf_problem.proofs.OneMachine.{machine-bound}
use Rattle.tf_problem.proofs.Pushed.{pushed-sound}
use Rattle.tf_problem.proofs.PushedBounds.{pushed-bound}
use Rattle.tf_problem.proofs.Alone.{alone-bound}
use Rattle.tf_problem.specs.Pushed.{pushed, release_in, due_in}
use Rattle.tf_problem.proofs.AnyMultipliers.{any_multipliers-bound}
use Rattle.tf_problem.proofs.Prices.{prices-bound, cheapest-up_to_last}

-- a number from 1 to 3
each_three : (P : ℕ → Type 0) → P 1 → P 2 → P 3 → (j : ℕ) → (1 ≤ j) × (j ≤ 3) → P j
each_three P p q r zero h = absurd (omega arith)
each_three P p q r (suc zero) h = p
each_three P p q r (suc (suc zero)) h = q
each_three P p q r (suc (suc (suc zero))) h = r
each_three P p q r (suc (suc (suc (suc j)))) h = absurd (omega arith)

at_most_one : (t : Bool) → cond t 1 0 ≤ 1
at_most_one true = omega arith
at_most_one false = omega arith

-- ---- `1||sumwT`: OR-Library's weighted tardiness

abbrev weighed : ℕ → ℕ → ℤ → ProblemJobData
weighed p w d = record { times = p ∷ []; route = []; weight = w; release = 0; due = d }

abbrev tardy : ProblemData
tardy = record {
  problem = plain_problem Single goals.SumWT;
  machines = 1;
  jobs = weighed 2 1 (pos 3) ∷ weighed 1 2 (pos 5) ∷ weighed 3 2 (pos 3) ∷ [];
  arcs = [];
}

tardy_sound : IsProblemSound tardy
tardy_sound = record {
  covered = refl;
  some_job = omega arith;
  some_machine = omega arith;
  single = λ _. refl;
  one_time = λ _. each_three (λ j. (length (problem_job tardy j).times ≡ 1) × (1 ≤ problem_time tardy j))
      (refl, omega arith) (refl, omega arith) (refl, omega arith);
  shop_times = λ e. absurd (false≢true e);
  routes = λ e. absurd (false≢true e);
  arcs_in = All-nil (λ arc. IsProblemJob tardy arc.0 × IsProblemJob tardy arc.1);
}

-- job 3, then job 2, then job 1, which is 3 late
abbrev tardy_rows : Timetable
tardy_rows = (3 ∷ []) ∷ (3 ∷ []) ∷ (3 ∷ []) ∷ (2 ∷ []) ∷ (1 ∷ []) ∷ (1 ∷ []) ∷ []

tardy_fits : FitsProblem tardy tardy_rows
tardy_fits =
    fits-passed tardy tardy_rows
    (record {
      width = refl;
      jobs_only = refl;
      once = refl;
      amount = refl;
      released = refl;
      whole = refl;
      one_place = refl;
      route = refl;
      order = refl;
      arcs = refl;
      may_wait = refl;
    })

tardy_cost : problem_cost tardy tardy_rows ≡ pos 3
tardy_cost = refl

-- the multipliers 2/2, 1/2 and 3/2: (25 - 20) / 2, rounded up
tardy_value : any_multiplier_value tardy 0 (2 ∷ 1 ∷ 3 ∷ []) [] 2 ≡ pos 3
tardy_value = refl

tardy_bound : IsLowerBound tardy (pos 3)
tardy_bound =
    any_multipliers-bound tardy tardy_sound refl 0 (omega arith) (2 ∷ 1 ∷ 3 ∷ []) [] 2 (omega arith)
    (record {
      within = each_three (λ j. numerator (2 ∷ 1 ∷ 3 ∷ []) j ≤ 2 * problem_weight tardy j)
          (omega arith) (omega arith) (omega arith);
      enough = λ j h. omega arith;
    })

-- so the bound is reached
tardy_best : IsProblemBest tardy tardy_rows (pos 3)
tardy_best = record { fits = tardy_fits; value = tardy_cost; least = tardy_bound }

-- multipliers of 0 bound by 0
tardy_none : any_multiplier_value tardy 0 (0 ∷ 0 ∷ 0 ∷ []) [] 1 ≡ pos 0
tardy_none = refl

-- a sum that is negative bounds by 0: the due dates are far
tardy_negative : any_multiplier_value tardy 0 (1 ∷ 0 ∷ 0 ∷ []) [] 1 ≡ pos 0
tardy_negative = refl

-- ---- `F3|prmu|Cmax`: OR-Library's flow shop, three machines, and a time 0

abbrev passing : List ℕ → ProblemJobData
passing times = record { times = times; route = []; weight = 1; release = 0; due = pos 0 }

abbrev flow : ProblemData
flow = record {
  problem = record (plain_problem Flow goals.Cmax) { count = Some 3; prmu = true };
  machines = 3;
  jobs = passing (0 ∷ 1 ∷ 1 ∷ []) ∷ passing (2 ∷ 2 ∷ 1 ∷ []) ∷ passing (3 ∷ 3 ∷ 1 ∷ []) ∷ [];
  arcs = [];
}

flow_sound : IsProblemSound flow
flow_sound = record {
  covered = refl;
  some_job = omega arith;
  some_machine = omega arith;
  single = λ e. absurd (false≢true e);
  one_time = λ e. absurd (true≢false e);
  shop_times = λ _. each_three (λ j. (length (problem_job flow j).times ≡ 3)
      × (IsTrue (needs_time flow.problem) → 1 ≤ time_over flow j 0 3))
      (refl, λ _. omega arith) (refl, λ _. omega arith) (refl, λ _. omega arith);
  routes = λ e. absurd (false≢true e);
  arcs_in = All-nil (λ arc. IsProblemJob flow arc.0 × IsProblemJob flow arc.1);
}

abbrev flow_rows : Timetable
flow_rows =
    (2 ∷ 1 ∷ 0 ∷ []) ∷ (2 ∷ 0 ∷ 1 ∷ []) ∷ (3 ∷ 2 ∷ 0 ∷ []) ∷ (3 ∷ 2 ∷ 0 ∷ []) ∷ (3 ∷ 0 ∷ 2 ∷ [])
    ∷ (0 ∷ 3 ∷ 0 ∷ []) ∷ (0 ∷ 3 ∷ 0 ∷ []) ∷ (0 ∷ 3 ∷ 0 ∷ []) ∷ (0 ∷ 0 ∷ 3 ∷ []) ∷ []

flow_fits : FitsProblem flow flow_rows
flow_fits =
    fits-passed flow flow_rows
    (record {
      width = refl;
      jobs_only = refl;
      once = refl;
      amount = refl;
      released = refl;
      whole = refl;
      one_place = refl;
      route = refl;
      order = refl;
      arcs = refl;
      may_wait = refl;
    })

flow_cost : problem_cost flow flow_rows ≡ pos 9
flow_cost = refl

-- machine 2 with jobs 2 and 3: 2 before it, 5 on it, 1 after it
flow_machine : machine_value flow 1 (2 ∷ 3 ∷ []) ≡ pos 8
flow_machine = refl

-- machines 1 and 2 with job 1 on the first side and delta 3, and behind them 1
flow_pair : (bound_by (BySplit (1 ∷ []) (pos 3) true) (pair_task flow 0 1) ≡ Ok (pos 8))
    × (pair_margin flow 0 1 ≡ 1)
flow_pair = (refl, refl)

flow_pair_sound : IsSound (pair_task flow 0 1)
flow_pair_sound = record {
  some_job = omega arith;
  few_jobs = omega arith;
  few_arcs = omega arith;
  some_machine = omega arith;
  few_machines = omega arith;
  single = λ e. absurd (false≢true e);
  shop = λ _. refl;
  worked = λ e. absurd (true≢false e);
  one_time = λ e. absurd (true≢false e);
  unit_weights = λ _. each_three (λ j. (job_data (pair_task flow 0 1) j).weight ≡ 1) refl refl refl;
  unreleased = λ _. each_three (λ j. (job_data (pair_task flow 0 1) j).release ≡ 0) refl refl refl;
  unordered = λ _. refl;
  uncosted = λ _. refl;
  costed = λ e. absurd (false≢true e);
  arcs_in = λ i d h. absurd (omega arith);
  dues = each_three (λ j. IsWithin (job_data (pair_task flow 0 1) j).due)
      (omega (arith, ints), omega (arith, ints)) (omega (arith, ints), omega (arith, ints))
      (omega (arith, ints), omega (arith, ints));
  total = omega arith;
  horizon = each_three
      (λ j. (job_data (pair_task flow 0 1) j).release
      + sum_by (time_of (pair_task flow 0 1)) (all_jobs (pair_task flow 0 1))
      ≤ 4000000000000000000) (omega arith) (omega arith) (omega arith);
  weighted_total = λ e. absurd (false≢true e);
  rising = λ j c e h le. omega (arith, ints);
}

flow_bound : IsLowerBound flow (pos 9)
flow_bound =
    bound-of_relaxation flow (pair_task flow 0 1) (pos 1)
    (pair_task-relaxes flow flow_sound refl refl 0 1 (omega arith) (omega arith)) flow_pair_sound
    (BySplit (1 ∷ []) (pos 3) true) (pos 8) refl

flow_best : IsProblemBest flow flow_rows (pos 9)
flow_best = record { fits = flow_fits; value = flow_cost; least = flow_bound }

-- ---- `F2||sumC`: a job of no time is over from the first

abbrev resting : ProblemData
resting = record {
  problem = plain_problem Flow goals.SumC;
  machines = 2;
  jobs = passing (0 ∷ 0 ∷ []) ∷ passing (2 ∷ 1 ∷ []) ∷ passing (1 ∷ 0 ∷ []) ∷ [];
  arcs = [];
}

resting_sound : IsProblemSound resting
resting_sound = record {
  covered = refl;
  some_job = omega arith;
  some_machine = omega arith;
  single = λ e. absurd (false≢true e);
  one_time = λ e. absurd (true≢false e);
  shop_times = λ _. each_three (λ j. (length (problem_job resting j).times ≡ 2)
      × (IsTrue (needs_time resting.problem) → 1 ≤ time_over resting j 0 2))
      (refl, λ e. absurd (false≢true e)) (refl, λ e. absurd (false≢true e))
      (refl, λ e. absurd (false≢true e));
  routes = λ e. absurd (false≢true e);
  arcs_in = All-nil (λ arc. IsProblemJob resting arc.0 × IsProblemJob resting arc.1);
}

abbrev resting_rows : Timetable
resting_rows = (3 ∷ 0 ∷ []) ∷ (2 ∷ 0 ∷ []) ∷ (2 ∷ 0 ∷ []) ∷ (0 ∷ 2 ∷ []) ∷ []

resting_fits : FitsProblem resting resting_rows
resting_fits =
    fits-passed resting resting_rows
    (record {
      width = refl;
      jobs_only = refl;
      once = refl;
      amount = refl;
      released = refl;
      whole = refl;
      one_place = refl;
      route = refl;
      order = refl;
      arcs = refl;
      may_wait = refl;
    })

resting_cost : problem_cost resting resting_rows ≡ pos 5
resting_cost = refl

-- ---- `1|rj|Lmax`

abbrev windowed : ℕ → ℕ → ℕ → ProblemJobData
windowed r p d = record { times = p ∷ []; route = []; weight = 1; release = r; due = pos d }

abbrev released : ProblemData
released = record {
  problem = record (plain_problem Single goals.Lmax) { release = true };
  machines = 1;
  jobs = windowed 0 4 10 ∷ windowed 1 2 4 ∷ windowed 8 1 8 ∷ [];
  arcs = [];
}

released_sound : IsProblemSound released
released_sound = record {
  covered = refl;
  some_job = omega arith;
  some_machine = omega arith;
  single = λ _. refl;
  one_time = λ _. each_three
      (λ j. (length (problem_job released j).times ≡ 1) × (1 ≤ problem_time released j))
      (refl, omega arith) (refl, omega arith) (refl, omega arith);
  shop_times = λ e. absurd (false≢true e);
  routes = λ e. absurd (false≢true e);
  arcs_in = All-nil (λ arc. IsProblemJob released arc.0 × IsProblemJob released arc.1);
}

-- a row is empty while the machine waits
abbrev released_rows : Timetable
released_rows =
    (0 ∷ []) ∷ (2 ∷ []) ∷ (2 ∷ []) ∷ (1 ∷ []) ∷ (1 ∷ []) ∷ (1 ∷ []) ∷ (1 ∷ []) ∷ (0 ∷ []) ∷ (3 ∷ [])
    ∷ []

released_fits : FitsProblem released released_rows
released_fits =
    fits-passed released released_rows
    (record {
      width = refl;
      jobs_only = refl;
      once = refl;
      amount = refl;
      released = refl;
      whole = refl;
      one_place = refl;
      route = refl;
      order = refl;
      arcs = refl;
      may_wait = refl;
    })

released_cost : problem_cost released released_rows ≡ pos 1
released_cost = refl

-- the third job alone
released_bound : IsLowerBound released (pos 1)
released_bound =
    window-bound released released_sound refl refl (3 ∷ [])
    (λ c. omega (arith, at_most_one (c == 3)))
    (All-cons (IsProblemJob released) 3 [] (omega arith, omega arith) (All-nil (IsProblemJob released)))
    (omega arith)

released_best : IsProblemBest released released_rows (pos 1)
released_best = record { fits = released_fits; value = released_cost; least = released_bound }

-- ---- `J2||Cmax`: a job shop

abbrev routed : List ℕ → List ℕ → ProblemJobData
routed times route = record { times = times; route = route; weight = 1; release = 0; due = pos 0 }

-- job 2 visits machine 2 first
abbrev shop : ProblemData
shop = record {
  problem = record (plain_problem JobShop goals.Cmax) { count = Some 2 };
  machines = 2;
  jobs = routed (2 ∷ 1 ∷ []) (0 ∷ 1 ∷ []) ∷ routed (1 ∷ 2 ∷ []) (1 ∷ 0 ∷ [])
      ∷ routed (1 ∷ 1 ∷ []) (0 ∷ 1 ∷ []) ∷ [];
  arcs = [];
}

shop_route : (j a b : ℕ) → a ≢ b → a < 2 → b < 2 → IsRoute shop j (a ∷ b ∷ [])
shop_route j a b ne p q = record {
  of_machines = All-cons (λ i. i < 2) a (b ∷ []) p (All-cons (λ i. i < 2) b [] q (All-nil (λ i. i < 2)));
  no_twice = AllPairs-cons (λ i j. i ≢ j) a (b ∷ [])
      (All-cons (λ i. a ≢ i) b [] ne (All-nil (λ i. a ≢ i)))
      (AllPairs-cons (λ i j. i ≢ j) b [] (All-nil (λ i. b ≢ i))
      (λ i j d lt h. absurd (omega arith)));
  has_all = λ c lt _.
      ⊎_elim (λ first. (0, omega arith, sym first))
      (λ other. (1, omega arith, omega (arith, other)))
      (cases_eq c a);
}

shop_sound : IsProblemSound shop
shop_sound = record {
  covered = refl;
  some_job = omega arith;
  some_machine = omega arith;
  single = λ e. absurd (false≢true e);
  one_time = λ e. absurd (true≢false e);
  shop_times = λ _. each_three (λ j. (length (problem_job shop j).times ≡ 2)
      × (IsTrue (needs_time shop.problem) → 1 ≤ time_over shop j 0 2))
      (refl, λ _. omega arith) (refl, λ _. omega arith) (refl, λ _. omega arith);
  routes = λ _. each_three (λ j. IsRoute shop j (problem_job shop j).route)
      (shop_route 1 0 1 (λ e. omega (arith, e)) (omega arith) (omega arith))
      (shop_route 2 1 0 (λ e. omega (arith, e)) (omega arith) (omega arith))
      (shop_route 3 0 1 (λ e. omega (arith, e)) (omega arith) (omega arith));
  arcs_in = All-nil (λ arc. IsProblemJob shop arc.0 × IsProblemJob shop arc.1);
}

abbrev shop_rows : Timetable
shop_rows = (1 ∷ 2 ∷ []) ∷ (1 ∷ 2 ∷ []) ∷ (3 ∷ 1 ∷ []) ∷ (2 ∷ 3 ∷ []) ∷ []

shop_fits : FitsProblem shop shop_rows
shop_fits =
    fits-passed shop shop_rows
    (record {
      width = refl;
      jobs_only = refl;
      once = refl;
      amount = refl;
      released = refl;
      whole = refl;
      one_place = refl;
      route = refl;
      order = refl;
      arcs = refl;
      may_wait = refl;
    })

shop_cost : problem_cost shop shop_rows ≡ pos 4
shop_cost = refl

-- jobs 1 and 3 on machine 2: 1 before it, 2 on it; and all on machine 1
shop_machines : (machine_value shop 1 (1 ∷ 3 ∷ []) ≡ pos 3) × (machine_value shop 0 (1 ∷ 2 ∷ 3 ∷ []) ≡ pos 4)
shop_machines = (refl, refl)

shop_best : IsProblemBest shop shop_rows (pos 4)
shop_best = record {
  fits = shop_fits;
  value = shop_cost;
  least = machine-bound shop shop_sound refl refl 0 (omega arith) (problem_jobs shop) (once 1 3)
      (All-problem_jobs shop (IsProblemJob shop) (λ j h. h)) (omega arith);
}

-- ---- `P2||Cmax`: bounds that are not reached, and one that is

abbrev fours : ProblemData
fours = record {
  problem = record (plain_problem Parallel goals.Cmax) { count = Some 2 };
  machines = 2;
  jobs = weighed 4 1 (pos 0) ∷ weighed 4 1 (pos 0) ∷ weighed 4 1 (pos 0) ∷ [];
  arcs = [];
}

abbrev fours_rows : Timetable
fours_rows =
    (1 ∷ 3 ∷ []) ∷ (1 ∷ 3 ∷ []) ∷ (1 ∷ 3 ∷ []) ∷ (1 ∷ 3 ∷ []) ∷ (2 ∷ 0 ∷ []) ∷ (2 ∷ 0 ∷ [])
    ∷ (2 ∷ 0 ∷ []) ∷ (2 ∷ 0 ∷ []) ∷ []

fours_fits : FitsProblem fours fours_rows
fours_fits =
    fits-passed fours fours_rows
    (record {
      width = refl;
      jobs_only = refl;
      once = refl;
      amount = refl;
      released = refl;
      whole = refl;
      one_place = refl;
      route = refl;
      order = refl;
      arcs = refl;
      may_wait = refl;
    })

fours_cost : (problem_cost fours fours_rows ≡ pos 8) × (window_value fours (1 ∷ 2 ∷ 3 ∷ []) ≡ pos 6)
    × (one_job_value fours 1 ≡ pos 4)
fours_cost = (refl, refl, refl)

fours_sound : IsProblemSound fours
fours_sound = record {
  covered = refl;
  some_job = omega arith;
  some_machine = omega arith;
  single = λ e. absurd (false≢true e);
  one_time = λ _. each_three (λ j. (length (problem_job fours j).times ≡ 1) × (1 ≤ problem_time fours j))
      (refl, omega arith) (refl, omega arith) (refl, omega arith);
  shop_times = λ e. absurd (false≢true e);
  routes = λ e. absurd (false≢true e);
  arcs_in = All-nil (λ arc. IsProblemJob fours arc.0 × IsProblemJob fours arc.1);
}

-- three jobs on two machines: one of them has two, without preemption
fours_best : IsProblemBest fours fours_rows (pos 8)
fours_best = record {
  fits = fours_fits;
  value = refl;
  least = crowd-bound fours fours_sound refl refl refl (problem_jobs fours) (once 1 3)
      (All-problem_jobs fours (IsProblemJob fours) (λ j h. h)) 1 (omega arith);
}

-- ---- `1||sumU`: the number of late jobs, by a price

abbrev late : ProblemData
late = record {
  problem = plain_problem Single goals.SumU;
  machines = 1;
  jobs = weighed 2 1 (pos 2) ∷ weighed 2 1 (pos 2) ∷ weighed 2 1 (pos 2) ∷ [];
  arcs = [];
}

late_sound : IsProblemSound late
late_sound = record {
  covered = refl;
  some_job = omega arith;
  some_machine = omega arith;
  single = λ _. refl;
  one_time = λ _. each_three (λ j. (length (problem_job late j).times ≡ 1) × (1 ≤ problem_time late j))
      (refl, omega arith) (refl, omega arith) (refl, omega arith);
  shop_times = λ e. absurd (false≢true e);
  routes = λ e. absurd (false≢true e);
  arcs_in = All-nil (λ arc. IsProblemJob late arc.0 × IsProblemJob late arc.1);
}

abbrev late_rows : Timetable
late_rows = (1 ∷ []) ∷ (1 ∷ []) ∷ (2 ∷ []) ∷ (2 ∷ []) ∷ (3 ∷ []) ∷ (3 ∷ []) ∷ []

late_fits : FitsProblem late late_rows
late_fits =
    fits-passed late late_rows
    (record {
      width = refl;
      jobs_only = refl;
      once = refl;
      amount = refl;
      released = refl;
      whole = refl;
      one_place = refl;
      route = refl;
      order = refl;
      arcs = refl;
      may_wait = refl;
    })

-- a price of 1 for row 0: each job costs 1, in time by the price, or late
late_cheapest : AreCheapest late 1 (1 ∷ []) (1 ∷ 1 ∷ 1 ∷ [])
late_cheapest =
    cheapest-up_to_last late 1 (1 ∷ []) (1 ∷ 1 ∷ 1 ∷ [])
    (λ j h s low high.
    let le : s ≤ 1 = omega (arith, high) in
    each_three (λ j. numerator (1 ∷ 1 ∷ 1 ∷ []) j ≤ start_price late 1 (1 ∷ []) j s)
    (two_starts (λ s. 1 ≤ start_price late 1 (1 ∷ []) 1 s) (omega arith) (omega arith) s le)
    (two_starts (λ s. 1 ≤ start_price late 1 (1 ∷ []) 2 s) (omega arith) (omega arith) s le)
    (two_starts (λ s. 1 ≤ start_price late 1 (1 ∷ []) 3 s) (omega arith) (omega arith) s le) j h)
  where
    two_starts : (P : ℕ → Type 0) → P 0 → P 1 → (s : ℕ) → s ≤ 1 → P s
    two_starts P p q zero h = p
    two_starts P p q (suc zero) h = q
    two_starts P p q (suc (suc s)) h = absurd (omega arith)

late_bound : IsLowerBound late (pos 2)
late_bound =
    prices-bound late late_sound refl refl refl 1 (omega arith) (1 ∷ []) (1 ∷ 1 ∷ 1 ∷ []) late_cheapest

late_best : IsProblemBest late late_rows (pos 2)
late_best = record { fits = late_fits; value = refl; least = late_bound }

-- ---- `P2|prec|Cmax`: a bound by the longest path

-- job 1 before job 2 before job 3
abbrev chain : ProblemData
chain = record {
  problem = record (plain_problem Parallel goals.Cmax) { count = Some 2; prec = true };
  machines = 2;
  jobs = weighed 2 1 (pos 0) ∷ weighed 3 1 (pos 0) ∷ weighed 1 1 (pos 0) ∷ [];
  arcs = (1, 2) ∷ (2, 3) ∷ [];
}

chain_sound : IsProblemSound chain
chain_sound = record {
  covered = refl;
  some_job = omega arith;
  some_machine = omega arith;
  single = λ e. absurd (false≢true e);
  one_time = λ _. each_three (λ j. (length (problem_job chain j).times ≡ 1) × (1 ≤ problem_time chain j))
      (refl, omega arith) (refl, omega arith) (refl, omega arith);
  shop_times = λ e. absurd (false≢true e);
  routes = λ e. absurd (false≢true e);
  arcs_in = All-cons (λ arc. IsProblemJob chain arc.0 × IsProblemJob chain arc.1) (1, 2) ((2, 3) ∷ [])
      ((omega arith, omega arith), (omega arith, omega arith))
      (All-cons (λ arc. IsProblemJob chain arc.0 × IsProblemJob chain arc.1) (2, 3) []
      ((omega arith, omega arith), (omega arith, omega arith))
      (All-nil (λ arc. IsProblemJob chain arc.0 × IsProblemJob chain arc.1)));
}

abbrev chain_rows : Timetable
chain_rows =
    (1 ∷ 0 ∷ []) ∷ (1 ∷ 0 ∷ []) ∷ (0 ∷ 2 ∷ []) ∷ (0 ∷ 2 ∷ []) ∷ (0 ∷ 2 ∷ []) ∷ (3 ∷ 0 ∷ []) ∷ []

chain_fits : FitsProblem chain chain_rows
chain_fits =
    fits-passed chain chain_rows
    (record {
      width = refl;
      jobs_only = refl;
      once = refl;
      amount = refl;
      released = refl;
      whole = refl;
      one_place = refl;
      route = refl;
      order = refl;
      arcs = refl;
      may_wait = refl;
    })

-- before job 2 are 2, and behind it 1
abbrev chain_releases : List ℕ
chain_releases = 0 ∷ 2 ∷ 5 ∷ []

abbrev chain_dues : List ℤ
chain_dues = negsuc 3 ∷ negsuc 0 ∷ pos 0 ∷ []

chain_value : one_job_value (pushed chain chain_releases chain_dues) 2 ≡ pos 6
chain_value = refl

chain_bound : IsLowerBound chain (pos 6)
chain_bound =
    pushed-bound chain chain_sound refl chain_releases
    (each_three (λ j. (release_in chain_releases j ≤ problem_release chain j)
    ⊎ ((i : ℕ) × Contains chain.arcs (i, j)
    × (release_in chain_releases j ≤ release_in chain_releases i + problem_work chain i)))
    (inl (omega arith)) (inr (1, (0, omega arith, refl), omega arith))
    (inr (2, (1, omega arith, refl), omega arith)))
    chain_dues
    (each_three (λ i. (problem_due chain i ≤ℤ due_in chain_dues i)
    ⊎ ((j : ℕ) × Contains chain.arcs (i, j)
    × ((due_in chain_dues j -ℤ pos (problem_work chain j)) ≤ℤ due_in chain_dues i)))
    (inr (2, (0, omega arith, refl), omega (arith, ints)))
    (inr (3, (1, omega arith, refl), omega (arith, ints))) (inl (omega (arith, ints))))
    (pos 6)
    (one_job-bound (pushed chain chain_releases chain_dues)
    (pushed-sound chain chain_releases chain_dues refl chain_sound) refl refl 2
    (omega arith, omega arith))

chain_best : IsProblemBest chain chain_rows (pos 6)
chain_best = record { fits = chain_fits; value = refl; least = chain_bound }

-- the same with the sum of completions: 2, 5 and 6, each job alone from these release dates on
abbrev summed : ProblemData
summed = record chain {
  problem = record (plain_problem Parallel goals.SumC) { count = Some 2; prec = true };
}

summed_sound : IsProblemSound summed
summed_sound = record {
  covered = refl;
  some_job = omega arith;
  some_machine = omega arith;
  single = λ e. absurd (false≢true e);
  one_time = chain_sound.one_time;
  shop_times = λ e. absurd (false≢true e);
  routes = λ e. absurd (false≢true e);
  arcs_in = chain_sound.arcs_in;
}

abbrev own_dues : List ℤ
own_dues = pos 0 ∷ pos 0 ∷ pos 0 ∷ []

summed_bound : IsLowerBound summed (pos 13)
summed_bound =
    pushed-bound summed summed_sound refl chain_releases
    (each_three (λ j. (release_in chain_releases j ≤ problem_release summed j)
    ⊎ ((i : ℕ) × Contains summed.arcs (i, j)
    × (release_in chain_releases j ≤ release_in chain_releases i + problem_work summed i)))
    (inl (omega arith)) (inr (1, (0, omega arith, refl), omega arith))
    (inr (2, (1, omega arith, refl), omega arith)))
    own_dues
    (each_three (λ j. due_in own_dues j ≡ (problem_job summed j).due) refl refl refl)
    (pos 13)
    (alone-bound (pushed summed chain_releases own_dues)
    (pushed-sound summed chain_releases own_dues refl summed_sound) refl)

-- ---- penalties

-- the edge of a due date: in time at it, late behind it; and a due date below 0
edges : (tardiness late 1 2 ≡ 0) × (unit_penalty late 1 2 ≡ 0) × (tardiness late 1 3 ≡ 1)
    × (unit_penalty late 1 3 ≡ 1)
edges = (refl, refl, refl, refl)

-- ---- `prmu`: one order of all jobs, and not only of each two

abbrev around : ProblemData
around = record {
  problem = record (plain_problem OpenShop goals.Cmax) { count = Some 3; prmu = true };
  machines = 3;
  jobs = passing (1 ∷ 0 ∷ 1 ∷ []) ∷ passing (1 ∷ 1 ∷ 0 ∷ []) ∷ passing (0 ∷ 1 ∷ 1 ∷ []) ∷ [];
  arcs = [];
}

-- job 1 before job 2 on machine 1, job 2 before job 3 on machine 2, job 3 before job 1 on machine 3
abbrev around_rows : Timetable
around_rows = (1 ∷ 2 ∷ 3 ∷ []) ∷ (2 ∷ 3 ∷ 1 ∷ []) ∷ []

in_range : (xs : List ℕ) (n d : ℕ) → n < length xs
    → slice_index_or xs n 0 ≡ slice_index_or xs n d
in_range [] n d h = absurd (omega arith)
in_range (x ∷ xs) zero d h = refl
in_range (x ∷ xs) (suc n) d h = in_range xs n d (omega arith)

around_has_no_order : IsInOneOrder around around_rows → ⊥
around_has_no_order (order, all, pairs) =
    let one = at 1 (omega arith, omega arith) in
    let two = at 2 (omega arith, omega arith) in
    let three = at 3 (omega arith, omega arith) in
    let second : one.0 ≤ two.0 = not_first 2 1 two one (λ goes. goes 0 1 0 refl refl) in
    let third : two.0 ≤ three.0 = not_first 3 2 three two (λ goes. goes 1 1 0 refl refl) in
    let first : three.0 ≤ one.0 = not_first 1 3 one three (λ goes. goes 2 1 0 refl refl) in
    omega (
      arith,
      second,
      third,
      first,
      one.2,
      ap (λ n. slice_index_or order n 0) (same one.0 two.0 three.0 second third first),
      two.2,
    )
  where
    at : (j : ℕ) → IsProblemJob around j → (n : ℕ) × (n < length order) × (slice_index_or order n 0 ≡ j)
    at j h =
        let there = Contains-permutation (problem_jobs around) order j all (Contains-problem_jobs around j h) in
        (there.0, there.1, in_range order there.0 j there.1 ∙ there.2)

    not_first : (i j : ℕ) → (p : (n : ℕ) × (n < length order) × (slice_index_or order n 0 ≡ i))
        → (q : (n : ℕ) × (n < length order) × (slice_index_or order n 0 ≡ j))
        → (GoesFirst around_rows i j → 1 < 0) → q.0 ≤ p.0
    not_first i j p q goes =
        ⊎_elim
        (λ before.
        let first : GoesFirst around_rows i j =
        subst (λ x. GoesFirst around_rows x j) p.2
        (subst (λ y. GoesFirst around_rows (slice_index_or order p.0 0) y) q.2
        (pairs p.0 q.0 0 before q.1)) in
        absurd (omega (arith, goes first)))
        (λ after. after)
        (cases_lt p.0 q.0)

    same : (a b c : ℕ) → a ≤ b → b ≤ c → c ≤ a → a ≡ b
    same a b c p q r = omega arith
