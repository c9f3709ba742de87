-- Worked examples: bounds that are reached, by tables that are filled in by hand.
use Rattle.std.proofs.Common.{◌≡◌, true, ℕ, zero, suc, ◌≤◌, [], ◌∷◌, length, refl, arith, ℤ, pos, negsuc, Some}
use Rattle.std.proofs.lemmas.Bool.{false≢true}
use Rattle.std.proofs.lemmas.List.Elements.{All-cons, All-nil}
use Rattle.std.proofs.lemmas.List.Kept.{AllPairs-cons}
use Rattle.tf_model.specs.declared.problem.Env.TheVariants.{Single, Parallel}
use Rattle.tf_model.specs.declared.problem.Goal.TheVariants as goals
use Rattle.tf_model.specs.ClassTable.{plain_problem}
use Rattle.std.specs.List.{AllPairs}
use Rattle.tf_model.specs.Timetable.{Timetable}
use Rattle.tf_model.proofs.Loads.{once}
use Rattle.tf_posed.specs.ProblemData.{ProblemData, ProblemJobData, IsProblemSound, IsProblemJob, problem_job, problem_time}
use Rattle.tf_posed.specs.ProblemCost.{IsProblemBest}
use Rattle.tf_posed.proofs.Conditions.{All-problem_jobs}
use Rattle.tf_problem.proofs.FitsTest.{fits-passed}
use Rattle.tf_problem.specs.Kept.{kept, kept_value, kept_weight}
use Rattle.tf_problem.specs.Ranks.{rank_value, IsFalling}
use Rattle.tf_problem.specs.Shortest.{shortest_value}
use Rattle.tf_problem.proofs.Kept.{kept-bound}
use Rattle.tf_problem.proofs.Ranks.{rank-bound}
use Rattle.tf_problem.proofs.Shortest.{shortest-bound}

abbrev job : ℕ → ℕ → ℤ → ProblemJobData
job p r d = record { times = p ∷ []; route = []; weight = 1; release = r; due = d }

-- a number from 1 to 4
each_four : (P : ℕ → Type 0) → P 1 → P 2 → P 3 → P 4 → (j : ℕ) → (1 ≤ j) × (j ≤ 4) → P j
each_four P p q r s zero h = absurd (omega arith)
each_four P p q r s (suc zero) h = p
each_four P p q r s (suc (suc zero)) h = q
each_four P p q r s (suc (suc (suc zero))) h = r
each_four P p q r s (suc (suc (suc (suc zero)))) h = s
each_four P p q r s (suc (suc (suc (suc (suc j))))) h = absurd (omega arith)

-- ---- `1||sumU`

abbrev late : ProblemData
late = record {
  problem = plain_problem Single goals.SumU;
  machines = 1;
  jobs = job 2 0 (pos 3) ∷ job 3 0 (pos 4) ∷ job 2 0 (pos 5) ∷ job 1 0 (pos 5) ∷ [];
  arcs = [];
}

late_sound : IsProblemSound late
late_sound = record {
  covered = refl;
  some_job = omega arith;
  some_machine = omega arith;
  single = λ _. refl;
  one_time = λ _. each_four (λ j. (length (problem_job late j).times ≡ 1) × (1 ≤ problem_time late j))
      (refl, omega arith) (refl, omega arith) (refl, omega arith) (refl, omega arith);
  shop_times = λ e. absurd (false≢true e);
  routes = λ e. absurd (false≢true e);
  arcs_in = All-nil (λ arc. IsProblemJob late arc.0 × IsProblemJob late arc.1);
}

-- job 2 is crossed out: 2 is kept up to 3; 2 and 3 are more than 4; 2 and 2, and then 1, have room up to 5
late_kept : kept late (1 ∷ 2 ∷ 3 ∷ 4 ∷ []) ≡ 1 ∷ 2 ∷ 2 ∷ []
late_kept = refl

late_value : kept_value late (1 ∷ 2 ∷ 3 ∷ 4 ∷ []) ≡ 1
late_value = refl

abbrev late_rows : Timetable
late_rows = (1 ∷ []) ∷ (1 ∷ []) ∷ (3 ∷ []) ∷ (3 ∷ []) ∷ (4 ∷ []) ∷ (2 ∷ []) ∷ (2 ∷ []) ∷ (2 ∷ []) ∷ []

late_best : IsProblemBest late late_rows (pos 1)
late_best = record {
  fits = fits-passed late late_rows
      (record {
        width = refl;
        jobs_only = refl;
        once = refl;
        amount = refl;
        released = refl;
        whole = refl;
        one_place = refl;
        route = refl;
        order = refl;
        arcs = refl;
        may_wait = refl;
      });
  value = refl;
  least = kept-bound late late_sound refl refl (1 ∷ 2 ∷ 3 ∷ 4 ∷ []) (once 1 4)
      (All-problem_jobs late (IsProblemJob late) (λ j h. h))
      (omega arith, (omega arith, (omega arith, (omega arith, tt))));
}

-- a job due before 0 is late whatever is done
abbrev hopeless : ProblemData
hopeless = record late { jobs = job 2 0 (negsuc 0) ∷ job 3 0 (pos 3) ∷ [] }

hopeless_kept : kept hopeless (1 ∷ 2 ∷ []) ≡ 3 ∷ []
hopeless_kept = refl

hopeless_value : kept_value hopeless (1 ∷ 2 ∷ []) ≡ 1
hopeless_value = refl

-- ---- `1||sumwU`

abbrev weighed : ℕ → ProblemData
weighed w = record {
  problem = plain_problem Single goals.SumWU;
  machines = 1;
  jobs = record (job 2 0 (pos 3)) { weight = 2 } ∷ record (job 3 0 (pos 4)) { weight = w }
      ∷ record (job 2 0 (pos 5)) { weight = 2 } ∷ record (job 1 0 (pos 5)) { weight = 2 } ∷ [];
  arcs = [];
}

-- jobs 1, 3 and 4 have room together, and job 2 with one of them
weighed_value : kept_weight (weighed 3) (1 ∷ 2 ∷ 3 ∷ 4 ∷ []) ≡ 3
weighed_value = refl

heavier_value : kept_weight (weighed 5) (1 ∷ 2 ∷ 3 ∷ 4 ∷ []) ≡ 4
heavier_value = refl

-- ---- `P2|prmp|sumC`

abbrev broken : ProblemData
broken = record {
  problem = record (plain_problem Parallel goals.SumC) { count = Some 2; prmp = true };
  machines = 2;
  jobs = job 3 0 (pos 0) ∷ job 2 0 (pos 0) ∷ job 2 0 (pos 0) ∷ job 1 0 (pos 0) ∷ [];
  arcs = [];
}

broken_sound : IsProblemSound broken
broken_sound = record {
  covered = refl;
  some_job = omega arith;
  some_machine = omega arith;
  single = λ e. absurd (false≢true e);
  one_time = λ _. each_four (λ j. (length (problem_job broken j).times ≡ 1) × (1 ≤ problem_time broken j))
      (refl, omega arith) (refl, omega arith) (refl, omega arith) (refl, omega arith);
  shop_times = λ e. absurd (false≢true e);
  routes = λ e. absurd (false≢true e);
  arcs_in = All-nil (λ arc. IsProblemJob broken arc.0 × IsProblemJob broken arc.1);
}

-- 3 and 2 count once, 2 and 1 twice
broken_value : rank_value broken (1 ∷ 2 ∷ 3 ∷ 4 ∷ []) ≡ 11
broken_value = refl

-- job 1 is broken off and moves to the other machine: the completions are 5, 3, 2 and 1
abbrev broken_rows : Timetable
broken_rows = (4 ∷ 3 ∷ []) ∷ (2 ∷ 3 ∷ []) ∷ (2 ∷ 1 ∷ []) ∷ (1 ∷ 0 ∷ []) ∷ (1 ∷ 0 ∷ []) ∷ []

broken_falls : IsFalling broken (1 ∷ 2 ∷ 3 ∷ 4 ∷ [])
broken_falls =
    let p : ℕ → ℕ = problem_time broken in
    let R : ℕ → ℕ → Type 0 = λ i j. p j ≤ p i in
    let none : (x : ℕ) → AllPairs R (x ∷ []) = λ x i j d lt h. absurd (omega arith) in
    AllPairs-cons R 1 (2 ∷ 3 ∷ 4 ∷ [])
    (All-cons (R 1) 2 (3 ∷ 4 ∷ []) (omega arith)
    (All-cons (R 1) 3 (4 ∷ []) (omega arith) (All-cons (R 1) 4 [] (omega arith) (All-nil (R 1)))))
    (AllPairs-cons R 2 (3 ∷ 4 ∷ [])
    (All-cons (R 2) 3 (4 ∷ []) (omega arith) (All-cons (R 2) 4 [] (omega arith) (All-nil (R 2))))
    (AllPairs-cons R 3 (4 ∷ []) (All-cons (R 3) 4 [] (omega arith) (All-nil (R 3))) (none 4)))

broken_best : IsProblemBest broken broken_rows (pos 11)
broken_best = record {
  fits = fits-passed broken broken_rows
      (record {
        width = refl;
        jobs_only = refl;
        once = refl;
        amount = refl;
        released = refl;
        whole = refl;
        one_place = refl;
        route = refl;
        order = refl;
        arcs = refl;
        may_wait = refl;
      });
  value = refl;
  least = rank-bound broken broken_sound refl refl (1 ∷ 2 ∷ 3 ∷ 4 ∷ []) (once 1 4)
      (All-problem_jobs broken (IsProblemJob broken) (λ j h. h)) broken_falls;
}

-- ---- `1|rj,prmp|sumC`

abbrev short : ProblemData
short = record {
  problem = record (plain_problem Single goals.SumC) { release = true; prmp = true };
  machines = 1;
  jobs = job 4 0 (pos 0) ∷ job 2 1 (pos 0) ∷ job 1 2 (pos 0) ∷ job 1 9 (pos 0) ∷ [];
  arcs = [];
}

short_sound : IsProblemSound short
short_sound = record {
  covered = refl;
  some_job = omega arith;
  some_machine = omega arith;
  single = λ _. refl;
  one_time = λ _. each_four (λ j. (length (problem_job short j).times ≡ 1) × (1 ≤ problem_time short j))
      (refl, omega arith) (refl, omega arith) (refl, omega arith) (refl, omega arith);
  shop_times = λ e. absurd (false≢true e);
  routes = λ e. absurd (false≢true e);
  arcs_in = All-nil (λ arc. IsProblemJob short arc.0 × IsProblemJob short arc.1);
}

-- job 1 up to 1, job 2 up to 3, job 3 up to 4, job 1 up to 7; job 4 from 9 to 10
short_value : shortest_value short (1 ∷ 2 ∷ 3 ∷ 4 ∷ []) ≡ 24
short_value = refl

abbrev short_rows : Timetable
short_rows = (1 ∷ []) ∷ (2 ∷ []) ∷ (2 ∷ []) ∷ (3 ∷ []) ∷ (1 ∷ []) ∷ (1 ∷ []) ∷ (1 ∷ []) ∷ (0 ∷ [])
    ∷ (0 ∷ []) ∷ (4 ∷ []) ∷ []

short_best : IsProblemBest short short_rows (pos 24)
short_best = record {
  fits = fits-passed short short_rows
      (record {
        width = refl;
        jobs_only = refl;
        once = refl;
        amount = refl;
        released = refl;
        whole = refl;
        one_place = refl;
        route = refl;
        order = refl;
        arcs = refl;
        may_wait = refl;
      });
  value = refl;
  least = shortest-bound short short_sound refl refl (1 ∷ 2 ∷ 3 ∷ 4 ∷ []) (once 1 4)
      (All-problem_jobs short (IsProblemJob short) (λ j h. h))
      (omega arith, (omega arith, (omega arith, (omega arith, tt))));
}
