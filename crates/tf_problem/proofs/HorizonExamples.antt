-- Worked examples: idle rows left out, and prices that are enough within the horizon alone.
use Rattle.std.proofs.Common.{◌≡◌, ℕ, zero, suc, ◌+◌, ◌≤◌, [], ◌∷◌, length, refl, arith, ℤ, pos}
use Rattle.std.proofs.lemmas.Bool.{false≢true}
use Rattle.std.proofs.lemmas.List.Elements.{All-nil}
use Rattle.tf_model.specs.declared.problem.Env.TheVariants.{Single}
use Rattle.tf_model.specs.declared.problem.Goal.TheVariants as goals
use Rattle.tf_model.specs.ClassTable.{plain_problem}
use Rattle.tf_model.specs.Timetable.{Timetable}
use Rattle.tf_posed.specs.ProblemData.{ProblemData, ProblemJobData, IsProblemSound, IsProblemJob, problem_job, problem_time}
use Rattle.tf_posed.specs.FitsProblem.{FitsProblem}
use Rattle.tf_posed.specs.ProblemCost.{IsLowerBound, IsProblemBest}
use Rattle.tf_problem.specs.ProblemBounds.{numerator, start_price, horizon, prices_value}
use Rattle.tf_problem.proofs.FitsTest.{fits-passed}
use Rattle.tf_problem.proofs.Thinned.{thinned}
use Rattle.tf_problem.proofs.Prices.{prices-bound}

each_three : (P : ℕ → Type 0) → P 1 → P 2 → P 3 → (j : ℕ) → (1 ≤ j) × (j ≤ 3) → P j
each_three P p q r zero h = absurd (omega arith)
each_three P p q r (suc zero) h = p
each_three P p q r (suc (suc zero)) h = q
each_three P p q r (suc (suc (suc zero))) h = r
each_three P p q r (suc (suc (suc (suc j)))) h = absurd (omega arith)

-- a number from 0 to 3
to_three : (P : ℕ → Type 0) → P 0 → P 1 → P 2 → P 3 → (s : ℕ) → s ≤ 3 → P s
to_three P a b c d zero h = a
to_three P a b c d (suc zero) h = b
to_three P a b c d (suc (suc zero)) h = c
to_three P a b c d (suc (suc (suc zero))) h = d
to_three P a b c d (suc (suc (suc (suc s)))) h = absurd (omega arith)

abbrev weighed : ℕ → ℕ → ℤ → ProblemJobData
weighed p w d = record { times = p ∷ []; route = []; weight = w; release = 0; due = d }

-- ---- `1||sumwT`

abbrev late : ProblemData
late = record {
  problem = plain_problem Single goals.SumWT;
  machines = 1;
  jobs = weighed 2 1 (pos 2) ∷ weighed 2 2 (pos 4) ∷ weighed 1 3 (pos 2) ∷ [];
  arcs = [];
}

late_sound : IsProblemSound late
late_sound = record {
  covered = refl;
  some_job = omega arith;
  some_machine = omega arith;
  single = λ _. refl;
  one_time = λ _. each_three (λ j. (length (problem_job late j).times ≡ 1) × (1 ≤ problem_time late j))
      (refl, omega arith) (refl, omega arith) (refl, omega arith);
  shop_times = λ e. absurd (false≢true e);
  routes = λ e. absurd (false≢true e);
  arcs_in = All-nil (λ arc. IsProblemJob late arc.0 × IsProblemJob late arc.1);
}

-- the work of all jobs: no job is released late
late_horizon : horizon late ≡ 5
late_horizon = refl

-- job 3, then job 2, then job 1, which is 3 late
abbrev late_rows : Timetable
late_rows = (3 ∷ []) ∷ (2 ∷ []) ∷ (2 ∷ []) ∷ (1 ∷ []) ∷ (1 ∷ []) ∷ []

-- idle rows are left out
late_thinned : thinned 0 ((3 ∷ []) ∷ (0 ∷ []) ∷ (2 ∷ []) ∷ (2 ∷ []) ∷ (0 ∷ []) ∷ (1 ∷ []) ∷ (1 ∷ []) ∷ (0 ∷ []) ∷ [])
    ≡ late_rows
late_thinned = refl

-- but not those before the last release date, here 2
late_thinned_from : thinned 2 ((3 ∷ []) ∷ (0 ∷ []) ∷ (2 ∷ []) ∷ (0 ∷ []) ∷ (2 ∷ []) ∷ [])
    ≡ (3 ∷ []) ∷ (0 ∷ []) ∷ (2 ∷ []) ∷ (2 ∷ []) ∷ []
late_thinned_from = refl

late_fits : FitsProblem late late_rows
late_fits =
    fits-passed late late_rows
    (record {
      width = refl;
      jobs_only = refl;
      once = refl;
      amount = refl;
      released = refl;
      whole = refl;
      one_place = refl;
      route = refl;
      order = refl;
      arcs = refl;
      may_wait = refl;
    })

-- Prices 4 4 3 4 1, 16 together. Job 1 starts at 0 for 8, at 1 for 1 + 7, at 2 for 2 + 7 or at 3 for
-- 3 + 5; job 2 at 0 for 8, at 1 or 2 for 7, or at 3 for 2 + 5; job 3 at 0 for 4, and never for less.
-- So 8 + 7 + 4 - 16.
late_value : prices_value late 1 (4 ∷ 4 ∷ 3 ∷ 4 ∷ 1 ∷ []) (8 ∷ 7 ∷ 4 ∷ []) ≡ pos 3
late_value = refl

late_bound : IsLowerBound late (pos 3)
late_bound =
    prices-bound late late_sound refl refl refl 1 (omega arith) (4 ∷ 4 ∷ 3 ∷ 4 ∷ 1 ∷ [])
    (8 ∷ 7 ∷ 4 ∷ [])
    (each_three
    (λ j. (s : ℕ) → 0 ≤ s → s + problem_time late j ≤ 5
    → numerator (8 ∷ 7 ∷ 4 ∷ []) j ≤ start_price late 1 (4 ∷ 4 ∷ 3 ∷ 4 ∷ 1 ∷ []) j s)
    (λ s from over.
    to_three (λ s. 8 ≤ start_price late 1 (4 ∷ 4 ∷ 3 ∷ 4 ∷ 1 ∷ []) 1 s) (omega arith) (omega arith)
    (omega arith) (omega arith) s (omega arith))
    (λ s from over.
    to_three (λ s. 7 ≤ start_price late 1 (4 ∷ 4 ∷ 3 ∷ 4 ∷ 1 ∷ []) 2 s) (omega arith) (omega arith)
    (omega arith) (omega arith) s (omega arith))
    (λ s from over.
    to_four (λ s. 4 ≤ start_price late 1 (4 ∷ 4 ∷ 3 ∷ 4 ∷ 1 ∷ []) 3 s) (omega arith) (omega arith)
    (omega arith) (omega arith) (omega arith) s (omega arith)))
  where
    to_four : (P : ℕ → Type 0) → P 0 → P 1 → P 2 → P 3 → P 4 → (s : ℕ) → s ≤ 4 → P s
    to_four P a b c d e zero h = a
    to_four P a b c d e (suc s) h = to_three (λ t. P (suc t)) b c d e s (omega (arith, h))

late_best : IsProblemBest late late_rows (pos 3)
late_best = record { fits = late_fits; value = refl; least = late_bound }
