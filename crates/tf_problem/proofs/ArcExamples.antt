-- Worked examples of multipliers of arcs.
use Rattle.std.proofs.Common.{◌≡◌, true, ℕ, zero, suc, ◌+◌, ◌*◌, ◌≤◌, List, [], ◌∷◌, length, refl, arith, ℤ, pos, Some}
use Rattle.std.proofs.lemmas.Bool.{false≢true}
use Rattle.std.proofs.lemmas.List.Elements.{All-cons, All-nil}
use Rattle.tf_model.specs.declared.problem.Env.TheVariants.{Single, Parallel}
use Rattle.tf_model.specs.declared.problem.Goal.TheVariants as goals
use Rattle.tf_model.specs.ClassTable.{plain_problem}
use Rattle.tf_model.specs.Timetable.{Timetable}
use Rattle.tf_posed.specs.ProblemData.{ProblemData, ProblemJobData, IsProblemSound, IsProblemJob, problem_job, problem_time, problem_weight}
use Rattle.tf_posed.specs.FitsProblem.{FitsProblem}
use Rattle.tf_posed.specs.ProblemCost.{IsLowerBound, IsProblemBest}
use Rattle.tf_problem.specs.ProblemBounds.{numerator, arcs_from, arcs_to, AreMultipliers, any_multiplier_value}
use Rattle.tf_problem.proofs.FitsTest.{fits-passed}
use Rattle.tf_problem.proofs.AnyMultipliers.{any_multipliers-bound}

abbrev job : List ℕ → ℕ → ℕ → ℤ → ProblemJobData
job times w r d = record { times = times; route = []; weight = w; release = r; due = d }

-- a number from 1 to 2
each_two : (P : ℕ → Type 0) → P 1 → P 2 → (j : ℕ) → (1 ≤ j) × (j ≤ 2) → P j
each_two P p1 p2 zero h = absurd (omega arith)
each_two P p1 p2 (suc zero) h = p1
each_two P p1 p2 (suc (suc zero)) h = p2
each_two P p1 p2 (suc (suc (suc j))) h = absurd (omega arith)

-- a number from 1 to 4
each_four : (P : ℕ → Type 0) → P 1 → P 2 → P 3 → P 4 → (j : ℕ) → (1 ≤ j) × (j ≤ 4) → P j
each_four P p1 p2 p3 p4 zero h = absurd (omega arith)
each_four P p1 p2 p3 p4 (suc zero) h = p1
each_four P p1 p2 p3 p4 (suc (suc zero)) h = p2
each_four P p1 p2 p3 p4 (suc (suc (suc zero))) h = p3
each_four P p1 p2 p3 p4 (suc (suc (suc (suc zero)))) h = p4
each_four P p1 p2 p3 p4 (suc (suc (suc (suc (suc j))))) h = absurd (omega arith)

-- a number from 1 to 7
each_seven : (P : ℕ → Type 0) → P 1 → P 2 → P 3 → P 4 → P 5 → P 6 → P 7 → (j : ℕ)
    → (1 ≤ j) × (j ≤ 7) → P j
each_seven P p1 p2 p3 p4 p5 p6 p7 zero h = absurd (omega arith)
each_seven P p1 p2 p3 p4 p5 p6 p7 (suc zero) h = p1
each_seven P p1 p2 p3 p4 p5 p6 p7 (suc (suc zero)) h = p2
each_seven P p1 p2 p3 p4 p5 p6 p7 (suc (suc (suc zero))) h = p3
each_seven P p1 p2 p3 p4 p5 p6 p7 (suc (suc (suc (suc zero)))) h = p4
each_seven P p1 p2 p3 p4 p5 p6 p7 (suc (suc (suc (suc (suc zero))))) h = p5
each_seven P p1 p2 p3 p4 p5 p6 p7 (suc (suc (suc (suc (suc (suc zero)))))) h = p6
each_seven P p1 p2 p3 p4 p5 p6 p7 (suc (suc (suc (suc (suc (suc (suc zero))))))) h = p7
each_seven P p1 p2 p3 p4 p5 p6 p7 (suc (suc (suc (suc (suc (suc (suc (suc j)))))))) h = absurd (omega arith)

-- ---- `1|prec|sumwC`: two jobs and one arc

abbrev pair : ProblemData
pair = record {
  problem = record (plain_problem Single goals.SumWC) { prec = true };
  machines = 1;
  jobs = job (2 ∷ []) 1 0 (pos 0) ∷ job (1 ∷ []) 3 0 (pos 0) ∷ [];
  arcs = (1, 2) ∷ [];
}

pair_sound : IsProblemSound pair
pair_sound = record {
  covered = refl;
  some_job = omega arith;
  some_machine = omega arith;
  single = λ _. refl;
  one_time = λ _. each_two (λ j. (length (problem_job pair j).times ≡ 1) × (1 ≤ problem_time pair j))
      (refl, omega arith) (refl, omega arith);
  shop_times = λ e. absurd (false≢true e);
  routes = λ e. absurd (false≢true e);
  arcs_in = All-cons (λ arc. IsProblemJob pair arc.0 × IsProblemJob pair arc.1) (1, 2) ([])
      ((omega arith, omega arith), (omega arith, omega arith))
      (All-nil (λ arc. IsProblemJob pair arc.0 × IsProblemJob pair arc.1));
}

-- job 2 would be first
abbrev pair_rows : Timetable
pair_rows =
    (1 ∷ []) ∷ (1 ∷ []) ∷ (2 ∷ []) ∷ []

pair_fits : FitsProblem pair pair_rows
pair_fits =
    fits-passed pair pair_rows
    (record {
      width = refl;
      jobs_only = refl;
      once = refl;
      amount = refl;
      released = refl;
      whole = refl;
      one_place = refl;
      route = refl;
      order = refl;
      arcs = refl;
      may_wait = refl;
    })

abbrev pair_v : List ℕ
pair_v = 1 ∷ 3 ∷ []

abbrev pair_l : List ℕ
pair_l = 2 ∷ []

pair_multipliers : AreMultipliers pair pair_v pair_l 1
pair_multipliers = record {
  within = each_two (λ j. numerator pair_v j ≤ 1 * problem_weight pair j)
      (omega arith) (omega arith);
  enough = each_two (λ j. arcs_to pair pair_l j ≤ numerator pair_v j + arcs_from pair pair_l j)
      (omega arith) (omega arith);
}

-- the weights 3 and 1: 3 * 2 + 1 * 3, and 2 * 1 that the arc gains
pair_value : any_multiplier_value pair 0 pair_v pair_l 1 ≡ pos 11
pair_value = refl

pair_bound : IsLowerBound pair (pos 11)
pair_bound =
    any_multipliers-bound pair pair_sound refl 0 (omega arith) pair_v pair_l 1 (omega arith)
    pair_multipliers

pair_best : IsProblemBest pair pair_rows (pos 11)
pair_best = record { fits = pair_fits; value = refl; least = pair_bound }

-- without the arc's multiplier job 2 comes first: 3 * 1 + 1 * 3
pair_without : any_multiplier_value pair 0 pair_v [] 1 ≡ pos 6
pair_without = refl

-- fractions: 5/3 make the ratios equal
pair_thirds : any_multiplier_value pair 0 (3 ∷ 9 ∷ []) (5 ∷ []) 3 ≡ pos 11
pair_thirds = refl

-- more than job 2 has is no multiplier
pair_too_much : AreMultipliers pair pair_v (4 ∷ []) 1 → ⊥
pair_too_much are = absurd (omega (arith, are.enough 2 (omega arith, omega arith)))

-- where the problem has no precedence constraints, arcs count for nothing
abbrev free_pair : ProblemData
free_pair = record pair { problem = plain_problem Single goals.SumWC }

free_pair_value : any_multiplier_value free_pair 0 pair_v pair_l 1 ≡ pos 6
free_pair_value = refl

-- ---- `1|prec|sumwC`: Pinedo's seven jobs in two chains

abbrev pinedo : ProblemData
pinedo = record {
  problem = record (plain_problem Single goals.SumWC) { prec = true };
  machines = 1;
  jobs = job (3 ∷ []) 6 0 (pos 0) ∷ job (6 ∷ []) 18 0 (pos 0) ∷ job (6 ∷ []) 12 0 (pos 0)
      ∷ job (5 ∷ []) 8 0 (pos 0) ∷ job (4 ∷ []) 8 0 (pos 0) ∷ job (8 ∷ []) 17 0 (pos 0)
      ∷ job (10 ∷ []) 18 0 (pos 0) ∷ [];
  arcs = (1, 2) ∷ (2, 3) ∷ (3, 4) ∷ (5, 6) ∷ (6, 7) ∷ [];
}

pinedo_sound : IsProblemSound pinedo
pinedo_sound = record {
  covered = refl;
  some_job = omega arith;
  some_machine = omega arith;
  single = λ _. refl;
  one_time = λ _. each_seven (λ j. (length (problem_job pinedo j).times ≡ 1) × (1 ≤ problem_time pinedo j))
      (refl, omega arith) (refl, omega arith) (refl, omega arith) (refl, omega arith) (refl, omega arith) (refl, omega arith) (refl, omega arith);
  shop_times = λ e. absurd (false≢true e);
  routes = λ e. absurd (false≢true e);
  arcs_in = All-cons (λ arc. IsProblemJob pinedo arc.0 × IsProblemJob pinedo arc.1) (1, 2) ((2, 3) ∷ (3, 4) ∷ (5, 6) ∷ (6, 7) ∷ [])
      ((omega arith, omega arith), (omega arith, omega arith))
      (All-cons (λ arc. IsProblemJob pinedo arc.0 × IsProblemJob pinedo arc.1) (2, 3) ((3, 4)
      ∷ (5, 6) ∷ (6, 7) ∷ [])
      ((omega arith, omega arith), (omega arith, omega arith))
      (All-cons (λ arc. IsProblemJob pinedo arc.0 × IsProblemJob pinedo arc.1) (3, 4) ((5, 6)
      ∷ (6, 7) ∷ [])
      ((omega arith, omega arith), (omega arith, omega arith))
      (All-cons (λ arc. IsProblemJob pinedo arc.0 × IsProblemJob pinedo arc.1) (5, 6) ((6, 7) ∷ [])
      ((omega arith, omega arith), (omega arith, omega arith))
      (All-cons (λ arc. IsProblemJob pinedo arc.0 × IsProblemJob pinedo arc.1) (6, 7) ([])
      ((omega arith, omega arith), (omega arith, omega arith))
      (All-nil (λ arc. IsProblemJob pinedo arc.0 × IsProblemJob pinedo arc.1))))));
}

-- the jobs 1 2 5 6 3 7 4
abbrev pinedo_rows : Timetable
pinedo_rows =
    (1 ∷ []) ∷ (1 ∷ []) ∷ (1 ∷ []) ∷ (2 ∷ []) ∷ (2 ∷ []) ∷ (2 ∷ []) ∷ (2 ∷ []) ∷ (2 ∷ []) ∷ (2
    ∷ []) ∷ (5 ∷ []) ∷ (5 ∷ []) ∷ (5 ∷ []) ∷ (5 ∷ []) ∷ (6 ∷ []) ∷ (6 ∷ []) ∷ (6 ∷ []) ∷ (6
    ∷ []) ∷ (6 ∷ []) ∷ (6 ∷ []) ∷ (6 ∷ []) ∷ (6 ∷ []) ∷ (3 ∷ []) ∷ (3 ∷ []) ∷ (3 ∷ []) ∷ (3
    ∷ []) ∷ (3 ∷ []) ∷ (3 ∷ []) ∷ (7 ∷ []) ∷ (7 ∷ []) ∷ (7 ∷ []) ∷ (7 ∷ []) ∷ (7 ∷ []) ∷ (7
    ∷ []) ∷ (7 ∷ []) ∷ (7 ∷ []) ∷ (7 ∷ []) ∷ (7 ∷ []) ∷ (4 ∷ []) ∷ (4 ∷ []) ∷ (4 ∷ []) ∷ (4
    ∷ []) ∷ (4 ∷ []) ∷ []

pinedo_fits : FitsProblem pinedo pinedo_rows
pinedo_fits =
    fits-passed pinedo pinedo_rows
    (record {
      width = refl;
      jobs_only = refl;
      once = refl;
      amount = refl;
      released = refl;
      whole = refl;
      one_place = refl;
      route = refl;
      order = refl;
      arcs = refl;
      may_wait = refl;
    })

abbrev pinedo_v : List ℕ
pinedo_v = 18 ∷ 54 ∷ 36 ∷ 24 ∷ 24 ∷ 51 ∷ 54 ∷ []

abbrev pinedo_l : List ℕ
pinedo_l = 6 ∷ 0 ∷ 0 ∷ 1 ∷ 0 ∷ []

pinedo_multipliers : AreMultipliers pinedo pinedo_v pinedo_l 3
pinedo_multipliers = record {
  within = each_seven (λ j. numerator pinedo_v j ≤ 3 * problem_weight pinedo j)
      (omega arith) (omega arith) (omega arith) (omega arith) (omega arith) (omega arith) (omega arith);
  enough = each_seven (λ j. arcs_to pinedo pinedo_l j ≤ numerator pinedo_v j + arcs_from pinedo pinedo_l j)
      (omega arith) (omega arith) (omega arith) (omega arith) (omega arith) (omega arith) (omega arith);
}

-- 2 from job 2 to job 1 and 1/3 from job 6 to job 5: (5857 + 44) / 3
pinedo_value : any_multiplier_value pinedo 0 pinedo_v pinedo_l 3 ≡ pos 1967
pinedo_value = refl

pinedo_bound : IsLowerBound pinedo (pos 1967)
pinedo_bound =
    any_multipliers-bound pinedo pinedo_sound refl 0 (omega arith) pinedo_v pinedo_l 3 (omega arith)
    pinedo_multipliers

pinedo_best : IsProblemBest pinedo pinedo_rows (pos 1967)
pinedo_best = record { fits = pinedo_fits; value = refl; least = pinedo_bound }

-- without the arcs: Smith's order of all seven
pinedo_without : any_multiplier_value pinedo 0 pinedo_v [] 3 ≡ pos 1942
pinedo_without = refl

-- ---- `P2|prec,prmp|sumwC`: identical machines and arcs

abbrev pairs : ProblemData
pairs = record {
  problem = record (plain_problem Parallel goals.SumWC) { count = Some 2; prmp = true; prec = true };
  machines = 2;
  jobs = job (1 ∷ []) 1 0 (pos 0) ∷ job (1 ∷ []) 1 0 (pos 0) ∷ job (1 ∷ []) 2 0 (pos 0)
      ∷ job (1 ∷ []) 2 0 (pos 0) ∷ [];
  arcs = (1, 3) ∷ (2, 4) ∷ [];
}

pairs_sound : IsProblemSound pairs
pairs_sound = record {
  covered = refl;
  some_job = omega arith;
  some_machine = omega arith;
  single = λ e. absurd (false≢true e);
  one_time = λ _. each_four (λ j. (length (problem_job pairs j).times ≡ 1) × (1 ≤ problem_time pairs j))
      (refl, omega arith) (refl, omega arith) (refl, omega arith) (refl, omega arith);
  shop_times = λ e. absurd (false≢true e);
  routes = λ e. absurd (false≢true e);
  arcs_in = All-cons (λ arc. IsProblemJob pairs arc.0 × IsProblemJob pairs arc.1) (1, 3) ((2, 4) ∷ [])
      ((omega arith, omega arith), (omega arith, omega arith))
      (All-cons (λ arc. IsProblemJob pairs arc.0 × IsProblemJob pairs arc.1) (2, 4) ([])
      ((omega arith, omega arith), (omega arith, omega arith))
      (All-nil (λ arc. IsProblemJob pairs arc.0 × IsProblemJob pairs arc.1)));
}

abbrev pairs_rows : Timetable
pairs_rows =
    (1 ∷ 2 ∷ []) ∷ (3 ∷ 4 ∷ []) ∷ []

pairs_fits : FitsProblem pairs pairs_rows
pairs_fits =
    fits-passed pairs pairs_rows
    (record {
      width = refl;
      jobs_only = refl;
      once = refl;
      amount = refl;
      released = refl;
      whole = refl;
      one_place = refl;
      route = refl;
      order = refl;
      arcs = refl;
      may_wait = refl;
    })

abbrev pairs_v : List ℕ
pairs_v = 1 ∷ 1 ∷ 2 ∷ 2 ∷ []

abbrev pairs_l : List ℕ
pairs_l = 1 ∷ 1 ∷ []

pairs_multipliers : AreMultipliers pairs pairs_v pairs_l 1
pairs_multipliers = record {
  within = each_four (λ j. numerator pairs_v j ≤ 1 * problem_weight pairs j)
      (omega arith) (omega arith) (omega arith) (omega arith);
  enough = each_four (λ j. arcs_to pairs pairs_l j ≤ numerator pairs_v j + arcs_from pairs pairs_l j)
      (omega arith) (omega arith) (omega arith) (omega arith);
}

-- (2 * 13 + 6) / 4, and 2 that the arcs gain
pairs_value : any_multiplier_value pairs 0 pairs_v pairs_l 1 ≡ pos 10
pairs_value = refl

pairs_bound : IsLowerBound pairs (pos 10)
pairs_bound =
    any_multipliers-bound pairs pairs_sound refl 0 (omega arith) pairs_v pairs_l 1 (omega arith)
    pairs_multipliers

pairs_best : IsProblemBest pairs pairs_rows (pos 10)
pairs_best = record { fits = pairs_fits; value = refl; least = pairs_bound }

pairs_without : any_multiplier_value pairs 0 pairs_v [] 1 ≡ pos 8
pairs_without = refl
