-- Worked examples: parts by hand, and bounds that are reached.
use Rattle.std.proofs.Common.{◌≡◌, true, ℕ, zero, suc, ◌≤◌, [], ◌∷◌, length, refl, arith, sum_by, ℤ, pos, negsuc}
use Rattle.std.proofs.lemmas.Bool.{false≢true}
use Rattle.std.proofs.lemmas.List.Elements.{All-cons, All-nil}
use Rattle.tf_model.specs.declared.problem.Env.TheVariants.{Single, Parallel}
use Rattle.tf_model.specs.declared.problem.Goal.TheVariants as goals
use Rattle.tf_model.specs.ClassTable.{plain_problem}
use Rattle.tf_model.specs.Timetable.{Timetable}
use Rattle.tf_model.proofs.Loads.{once}
use Rattle.tf_posed.specs.ProblemData.{ProblemData, ProblemJobData, IsProblemSound, IsProblemJob, problem_job, problem_jobs, problem_time}
use Rattle.tf_posed.specs.FitsProblem.{FitsProblem}
use Rattle.tf_posed.specs.ProblemCost.{problem_cost, IsLowerBound, IsProblemBest}
use Rattle.tf_problem.specs.ProblemBounds.{window_value, one_job_value}
use Rattle.tf_problem.specs.Parts.{part_within, part_of}
use Rattle.tf_problem.proofs.FitsTest.{fits-passed}
use Rattle.tf_posed.proofs.Conditions.{All-problem_jobs}
use Rattle.tf_problem.proofs.Parts.{parts-bound}

-- a number from 1 to 3
each_three : (P : ℕ → Type 0) → P 1 → P 2 → P 3 → (j : ℕ) → (1 ≤ j) × (j ≤ 3) → P j
each_three P p q r zero h = absurd (omega arith)
each_three P p q r (suc zero) h = p
each_three P p q r (suc (suc zero)) h = q
each_three P p q r (suc (suc (suc zero))) h = r
each_three P p q r (suc (suc (suc (suc j)))) h = absurd (omega arith)

-- and from 1 to 2
each_two : (P : ℕ → Type 0) → P 1 → P 2 → (j : ℕ) → (1 ≤ j) × (j ≤ 2) → P j
each_two P p q zero h = absurd (omega arith)
each_two P p q (suc zero) h = p
each_two P p q (suc (suc zero)) h = q
each_two P p q (suc (suc (suc j))) h = absurd (omega arith)

abbrev timed : ℕ → ℕ → ℤ → ProblemJobData
timed r p d = record { times = p ∷ []; route = []; weight = 1; release = r; due = d }

-- ---- `P2|prmp|Lmax`: three jobs of 4 time steps, due at 4, 4 and 5

abbrev crowded : ProblemData
crowded = record {
  problem = record (plain_problem Parallel goals.Lmax) { prmp = true };
  machines = 2;
  jobs = timed 0 4 (pos 4) ∷ timed 0 4 (pos 4) ∷ timed 0 4 (pos 5) ∷ [];
  arcs = [];
}

crowded_sound : IsProblemSound crowded
crowded_sound = record {
  covered = refl;
  some_job = omega arith;
  some_machine = omega arith;
  single = λ e. absurd (false≢true e);
  one_time = λ _. each_three (λ j. (length (problem_job crowded j).times ≡ 1) × (1 ≤ problem_time crowded j))
      (refl, omega arith) (refl, omega arith) (refl, omega arith);
  shop_times = λ e. absurd (false≢true e);
  routes = λ e. absurd (false≢true e);
  arcs_in = All-nil (λ arc. IsProblemJob crowded arc.0 × IsProblemJob crowded arc.1);
}

-- job 2 begins on machine 2 and ends on machine 1
abbrev crowded_rows : Timetable
crowded_rows =
    (1 ∷ 2 ∷ []) ∷ (1 ∷ 2 ∷ []) ∷ (1 ∷ 3 ∷ []) ∷ (1 ∷ 3 ∷ []) ∷ (2 ∷ 3 ∷ []) ∷ (2 ∷ 3 ∷ []) ∷ []

crowded_fits : FitsProblem crowded crowded_rows
crowded_fits =
    fits-passed crowded crowded_rows
    (record {
      width = refl;
      jobs_only = refl;
      once = refl;
      amount = refl;
      released = refl;
      whole = refl;
      one_place = refl;
      route = refl;
      order = refl;
      arcs = refl;
      may_wait = refl;
    })

crowded_cost : problem_cost crowded crowded_rows ≡ pos 2
crowded_cost = refl

-- were no job late by 2, they would be over by 5, 5 and 6: from 0 to 5 there is room for 10
crowded_parts : (part_of crowded 0 5 (pos 2) 1 ≡ 4) × (part_of crowded 0 5 (pos 2) 2 ≡ 4)
    × (part_of crowded 0 5 (pos 2) 3 ≡ 3)
crowded_parts = (refl, refl, refl)

crowded_bound : IsLowerBound crowded (pos 2)
crowded_bound =
    parts-bound crowded crowded_sound refl refl (problem_jobs crowded) (once 1 3)
    (All-problem_jobs crowded (IsProblemJob crowded) (λ j h. h)) 0 5 (pos 2) (omega arith)

-- so the bound is reached
crowded_best : IsProblemBest crowded crowded_rows (pos 2)
crowded_best = record { fits = crowded_fits; value = crowded_cost; least = crowded_bound }

-- the existing kinds bound by 1 and 0
crowded_others : (window_value crowded (1 ∷ 2 ∷ 3 ∷ []) ≡ pos 1)
    × (window_value crowded (1 ∷ 2 ∷ []) ≡ pos 0) × (one_job_value crowded 1 ≡ pos 0)
crowded_others = (refl, refl, refl)

-- to be late by 2 is no contradiction: the parts are 4, 4 and 2
crowded_no_more : sum_by (part_of crowded 0 5 (pos 3)) (problem_jobs crowded) ≡ 8
crowded_no_more = refl

-- ---- `P2|rj,prmp|Cmax`: one job of 4 from 0, two of 3 from 2

abbrev joined : ProblemData
joined = record {
  problem = record (plain_problem Parallel goals.Cmax) { release = true; prmp = true };
  machines = 2;
  jobs = timed 2 3 (pos 0) ∷ timed 2 3 (pos 0) ∷ timed 0 4 (pos 0) ∷ [];
  arcs = [];
}

joined_sound : IsProblemSound joined
joined_sound = record {
  covered = refl;
  some_job = omega arith;
  some_machine = omega arith;
  single = λ e. absurd (false≢true e);
  one_time = λ _. each_three (λ j. (length (problem_job joined j).times ≡ 1) × (1 ≤ problem_time joined j))
      (refl, omega arith) (refl, omega arith) (refl, omega arith);
  shop_times = λ e. absurd (false≢true e);
  routes = λ e. absurd (false≢true e);
  arcs_in = All-nil (λ arc. IsProblemJob joined arc.0 × IsProblemJob joined arc.1);
}

abbrev joined_rows : Timetable
joined_rows =
    (3 ∷ 0 ∷ []) ∷ (3 ∷ 0 ∷ []) ∷ (1 ∷ 3 ∷ []) ∷ (1 ∷ 2 ∷ []) ∷ (1 ∷ 2 ∷ []) ∷ (3 ∷ 2 ∷ []) ∷ []

joined_fits : FitsProblem joined joined_rows
joined_fits =
    fits-passed joined joined_rows
    (record {
      width = refl;
      jobs_only = refl;
      once = refl;
      amount = refl;
      released = refl;
      whole = refl;
      one_place = refl;
      route = refl;
      order = refl;
      arcs = refl;
      may_wait = refl;
    })

-- job 3 can do 2 before time 2, and has 2 left; together 8, where from 2 to 5 there is room for 6
joined_parts : (part_of joined 2 5 (pos 6) 1 ≡ 3) × (part_of joined 2 5 (pos 6) 2 ≡ 3)
    × (part_of joined 2 5 (pos 6) 3 ≡ 2)
joined_parts = (refl, refl, refl)

joined_best : IsProblemBest joined joined_rows (pos 6)
joined_best = record {
  fits = joined_fits;
  value = refl;
  least = parts-bound joined joined_sound refl refl (problem_jobs joined) (once 1 3)
      (All-problem_jobs joined (IsProblemJob joined) (λ j h. h)) 2 5 (pos 6) (omega arith);
}

joined_others : (window_value joined (1 ∷ 2 ∷ 3 ∷ []) ≡ pos 5)
    × (window_value joined (1 ∷ 2 ∷ []) ≡ pos 5) × (one_job_value joined 1 ≡ pos 5)
joined_others = (refl, refl, refl)

-- ---- `1||Lmax`: a lateness that is negative

abbrev ahead : ProblemData
ahead = record {
  problem = plain_problem Single goals.Lmax;
  machines = 1;
  jobs = timed 0 2 (pos 7) ∷ timed 0 2 (pos 6) ∷ [];
  arcs = [];
}

ahead_sound : IsProblemSound ahead
ahead_sound = record {
  covered = refl;
  some_job = omega arith;
  some_machine = omega arith;
  single = λ _. refl;
  one_time = λ _. each_two (λ j. (length (problem_job ahead j).times ≡ 1) × (1 ≤ problem_time ahead j))
      (refl, omega arith) (refl, omega arith);
  shop_times = λ e. absurd (false≢true e);
  routes = λ e. absurd (false≢true e);
  arcs_in = All-nil (λ arc. IsProblemJob ahead arc.0 × IsProblemJob ahead arc.1);
}

-- over by 3 and by 2: from 0 to 3 there is room for 3, and they have 4
ahead_bound : IsLowerBound ahead (negsuc 2)
ahead_bound =
    parts-bound ahead ahead_sound refl refl (problem_jobs ahead) (once 1 2)
    (All-problem_jobs ahead (IsProblemJob ahead) (λ j h. h)) 0 3 (negsuc 2) (omega arith)

abbrev ahead_rows : Timetable
ahead_rows = (2 ∷ []) ∷ (2 ∷ []) ∷ (1 ∷ []) ∷ (1 ∷ []) ∷ []

ahead_fits : FitsProblem ahead ahead_rows
ahead_fits =
    fits-passed ahead ahead_rows
    (record {
      width = refl;
      jobs_only = refl;
      once = refl;
      amount = refl;
      released = refl;
      whole = refl;
      one_place = refl;
      route = refl;
      order = refl;
      arcs = refl;
      may_wait = refl;
    })

ahead_best : IsProblemBest ahead ahead_rows (negsuc 2)
ahead_best = record { fits = ahead_fits; value = refl; least = ahead_bound }

-- parts that fill the room exactly are not too much: for -2 they have 4, where there is room for 4
ahead_even : sum_by (part_of ahead 0 4 (negsuc 1)) (problem_jobs ahead) ≡ 4
ahead_even = refl

-- no interval at all: what one job has to do before time 1 and can't, whatever it does from then on
ahead_alone : IsLowerBound ahead (negsuc 4)
ahead_alone =
    parts-bound ahead ahead_sound refl refl (1 ∷ []) (once 1 1)
    (All-cons (IsProblemJob ahead) 1 [] (omega arith, omega arith) (All-nil (IsProblemJob ahead)))
    0 0 (negsuc 4) (omega arith)

-- ---- `1|rj|Lmax`: jobs that are not preempted

abbrev whole : ProblemData
whole = record {
  problem = record (plain_problem Single goals.Lmax) { release = true };
  machines = 1;
  jobs = timed 1 3 (pos 5) ∷ timed 0 2 (pos 6) ∷ [];
  arcs = [];
}

whole_sound : IsProblemSound whole
whole_sound = record {
  covered = refl;
  some_job = omega arith;
  some_machine = omega arith;
  single = λ _. refl;
  one_time = λ _. each_two (λ j. (length (problem_job whole j).times ≡ 1) × (1 ≤ problem_time whole j))
      (refl, omega arith) (refl, omega arith);
  shop_times = λ e. absurd (false≢true e);
  routes = λ e. absurd (false≢true e);
  arcs_in = All-nil (λ arc. IsProblemJob whole arc.0 × IsProblemJob whole arc.1);
}

-- over by 4 and by 5: from 1 to 4 job 1 has 3; job 2 has 1 of its 2, which it would not have if it could
-- be broken off at 1 and go on at 4
whole_parts : (part_of whole 1 4 (pos 0) 1 ≡ 3) × (part_of whole 1 4 (pos 0) 2 ≡ 1)
    × (part_within whole 1 4 (pos 0) 2 ≡ 0)
whole_parts = (refl, refl, refl)

abbrev whole_rows : Timetable
whole_rows = (0 ∷ []) ∷ (1 ∷ []) ∷ (1 ∷ []) ∷ (1 ∷ []) ∷ (2 ∷ []) ∷ (2 ∷ []) ∷ []

whole_best : IsProblemBest whole whole_rows (pos 0)
whole_best = record {
  fits = fits-passed whole whole_rows
      (record {
        width = refl;
        jobs_only = refl;
        once = refl;
        amount = refl;
        released = refl;
        whole = refl;
        one_place = refl;
        route = refl;
        order = refl;
        arcs = refl;
        may_wait = refl;
      });
  value = refl;
  least = parts-bound whole whole_sound refl refl (problem_jobs whole) (once 1 2)
      (All-problem_jobs whole (IsProblemJob whole) (λ j h. h)) 1 4 (pos 0) (omega arith);
}
