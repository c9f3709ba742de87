-- What happens to the jobs does not depend on the order of the pieces.
use Rattle.std.proofs.Common.{◌≡◌, ℕ, ◌<◌, ◌≤◌, min, Bool, true, false, cond, eqb, List, [], ◌∷◌, map, subst, ap, ◌∙◌, ℤ, arith, inl, inr, refl, length, zero, suc, ◌+◌, Some, None}
use Rattle.std.specs.List.{range_with_len}
use Rattle.std.specs.List.Sorted.{IsPermutation}
use Rattle.std.proofs.lemmas.Bool.{cases_lt}
use Rattle.std.proofs.lemmas.List.Sorted.{All-permutation, IsPermutation-sym}
use Rattle.tf_model.specs.Limit.{limit}
use Rattle.tf_model.specs.Cost.{price}
use Rattle.tf_model.specs.SchedulingTask.{SchedulingTask, IsJob, all_jobs}
use Rattle.tf_schedule.specs.declared.piece.Piece.{Piece}
use Rattle.tf_schedule.specs.Amounts.{greatest_by, least_by, last_stop, start_of}
use Rattle.tf_schedule.specs.Drawing.{stop_of}
use Rattle.tf_schedule.specs.Lanes.{LanesData, HasLanes, start_in, stop_in}
use Rattle.tf_schedule.specs.Schedule.{IsSchedule}
use Rattle.tf_check.specs.Judgement.{HasTable}
use Rattle.tf_schedule.proofs.Busy.{greatest_ge, greatest_reached, least_le, least_reached, stop_within}
use Rattle.tf_schedule.proofs.OnLanes.{start_is, stop_is}
use Rattle.tf_schedule.proofs.Permuted.{map_same}
use Rattle.tf_check.specs.declared.judgement.Fit.{Fit}
use Rattle.tf_check.specs.declared.judgement.Fit.TheVariants.{Fits, NoSchedule, Misfit}
use Rattle.tf_evaluate.specs.declared.evaluation.JobOutcome.{JobOutcome}
use Rattle.tf_evaluate.specs.EvaluationData.{problem_fit}
use Rattle.tf_evaluate.specs.Evaluating.{outcomes_for}
use Rattle.tf_evaluate.specs.Outcomes.{first_start, outcome_by, outcome_on, outcome_in}

-- a job's greatest is reached, and the other list has it too
greatest_at_most : (f : Piece → ℕ) (ps qs : List Piece) (j : ℕ) → IsPermutation ps qs
    → greatest_by f qs j ≤ greatest_by f ps j
greatest_at_most f ps qs j same = elim (cases_lt 0 (greatest_by f qs j)) [
  | inl some ↦
      let (n, q, inside, at, (own, is)) = greatest_reached f qs j some in
      let below : (q.job ≡ j → f q ≤ greatest_by f ps j) =
      subst (λ (p : Piece). p.job ≡ j → f p ≤ greatest_by f ps j) at
      (All-permutation (λ p. p.job ≡ j → f p ≤ greatest_by f ps j) ps qs same
      (λ k d h own. greatest_ge f ps j k d h own) n q inside) in
      omega (arith, is, below own)
  | inr none ↦ omega (arith, none)
]

-- the least of no piece is the limit
least_within : (f : Piece → ℕ) (ps : List Piece) (j : ℕ) → least_by f ps j ≤ limit
least_within f [] j = omega arith
least_within f (p ∷ ps) j = step (eqb p.job j) (least_within f ps j)
  where
    step : (b : Bool) → least_by f ps j ≤ limit
        → cond b (min (f p) (least_by f ps j)) (least_by f ps j) ≤ limit
    step true le = omega (arith, le)
    step false le = le

-- the same of the least
least_at_least : (f : Piece → ℕ) (ps qs : List Piece) (j : ℕ) → IsPermutation ps qs
    → least_by f ps j ≤ least_by f qs j
least_at_least f ps qs j same = elim (cases_lt (least_by f qs j) limit) [
  | inl some ↦
      let (n, q, inside, at, (own, is)) = least_reached f qs j some in
      let above : (q.job ≡ j → least_by f ps j ≤ f q) =
      subst (λ (p : Piece). p.job ≡ j → least_by f ps j ≤ f p) at
      (All-permutation (λ p. p.job ≡ j → least_by f ps j ≤ f p) ps qs same
      (λ k d h own. least_le f ps j k d h own) n q inside) in
      omega (arith, is, above own)
  | inr none ↦ omega (arith, none, least_within f ps j)
]

outcome_same : (counted : ℕ → ℕ → ℤ) (ps qs : List Piece) → IsPermutation ps qs → (j : ℕ)
    → outcome_by counted qs j ≡ outcome_by counted ps j
outcome_same counted ps qs same j =
    let back = IsPermutation-sym ps qs same in
    let stops : last_stop qs j ≡ last_stop ps j = omega (
      arith,
      greatest_at_most stop_of ps qs j same,
      greatest_at_most stop_of qs ps j back,
    ) in
    let starts : least_by start_of qs j ≡ least_by start_of ps j = omega (
      arith,
      least_at_least start_of ps qs j same,
      least_at_least start_of qs ps j back,
    ) in
    ap (with_stop (least_by start_of qs j)) stops ∙ ap (λ s. with_stop s (last_stop ps j)) starts
  where
    with_stop : ℕ → ℕ → JobOutcome
    with_stop start stop = record {
      job = j;
      start = first_start start stop;
      completion = stop;
      price = counted j stop;
    }

-- ---- by the table

map_range : {X : Type 0} (f g : ℕ → X) (a n : ℕ) → ((j : ℕ) → a ≤ j → j < a + n → f j ≡ g j)
    → map f (range_with_len a n) ≡ map g (range_with_len a n)
map_range f g a zero same = refl
map_range {X} f g a (suc n) same =
    ap (λ (x : X). x ∷ map f (range_with_len (a + 1) n)) (same a (omega arith) (omega arith))
    ∙ ap (λ (xs : List X). g a ∷ xs)
    (map_range f g (a + 1) n (λ j low high. same j (omega arith) (omega arith)))

module _ (counted : ℕ → ℕ → ℤ) (n : ℕ) (qs : List Piece) (schedule : IsSchedule qs)
    (l : LanesData) (has : HasLanes n qs l) where
  pub stops_within : (j : ℕ) → 1 ≤ j → j ≤ n → stop_in l j ≤ limit
  stops_within j low high =
      omega (arith, stop_is n qs l has j low high, stop_within qs schedule.sound j)

  in_table : map (outcome_on counted l) (range_with_len 1 n)
      ≡ map (outcome_by counted qs) (range_with_len 1 n)
  in_table = map_range (outcome_on counted l) (outcome_by counted qs) 1 n (λ j low high.
      let at_most : j ≤ n = omega (arith, high) in
      let starts = start_is n qs l has j low at_most in
      let ends = stop_is n qs l has j low at_most in
      ap (with_stop j (start_in l j)) ends ∙ ap (λ s. with_stop j s (last_stop qs j)) starts)
    where
      with_stop : ℕ → ℕ → ℕ → JobOutcome
      with_stop j start stop = record {
        job = j;
        start = first_start start stop;
        completion = stop;
        price = counted j stop;
      }

-- by the table of a schedule, and by the pieces that it sorts
pub sorted_outcomes : (counted : ℕ → ℕ → ℤ) (n : ℕ) (ps qs : List Piece)
    → IsPermutation ps qs → IsSchedule qs → (l : LanesData) → HasLanes n qs l
    → map (outcome_on counted l) (range_with_len 1 n) ≡ map (outcome_by counted ps) (range_with_len 1 n)
sorted_outcomes counted n ps qs kept schedule l has =
    in_table counted n qs schedule l has
    ∙ map_same (outcome_by counted qs) (outcome_by counted ps) (outcome_same counted ps qs kept)
    (range_with_len 1 n)

pub table_stops : (k : SchedulingTask) (ps : List Piece) (fit : Fit) (l : LanesData)
    → HasTable k ps fit (Some l) → (j : ℕ) → IsJob k j → stop_in l j ≤ limit
table_stops k ps (Fits value) l (qs, kept, schedule, l', is, has) =
    λ j job. stops_within (price k) (length k.jobs) qs schedule l
    (subst (HasLanes (length k.jobs) qs) (same l l' is) has) j job.0 job.1
  where
    same : (l l' : LanesData) → Some l ≡ Some l' → l' ≡ l
    same l l' e = cc
table_stops k ps (NoSchedule fault) l is = absurd (cc)
table_stops k ps (Misfit misfit) l (qs, kept, schedule, l', is, has) =
    λ j job. stops_within (price k) (length k.jobs) qs schedule l
    (subst (HasLanes (length k.jobs) qs) (same l l' is) has) j job.0 job.1
  where
    same : (l l' : LanesData) → Some l ≡ Some l' → l' ≡ l
    same l l' e = cc

pub table_outcomes : (k : SchedulingTask) (ps : List Piece) (fit : Fit) (l : LanesData)
    → HasTable k ps fit (Some l)
    → map (outcome_in k l) (all_jobs k) ≡ outcomes_for k ps (Some (problem_fit fit))
table_outcomes k ps (Fits value) l (qs, kept, schedule, l', is, has) =
    sorted_outcomes (price k) (length k.jobs) ps qs kept schedule l
    (subst (HasLanes (length k.jobs) qs) (same l l' is) has)
  where
    same : (l l' : LanesData) → Some l ≡ Some l' → l' ≡ l
    same l l' e = cc
table_outcomes k ps (NoSchedule fault) l is = absurd (cc)
table_outcomes k ps (Misfit misfit) l (qs, kept, schedule, l', is, has) =
    sorted_outcomes (price k) (length k.jobs) ps qs kept schedule l
    (subst (HasLanes (length k.jobs) qs) (same l l' is) has)
  where
    same : (l l' : LanesData) → Some l ≡ Some l' → l' ≡ l
    same l l' e = cc

-- without a table there is no schedule
pub no_outcomes : (k : SchedulingTask) (ps : List Piece) (fit : Fit) → HasTable k ps fit None
    → [] ≡ outcomes_for k ps (Some (problem_fit fit))
no_outcomes k ps (Fits value) (qs, kept, schedule, l, is, has) = absurd (cc)
no_outcomes k ps (NoSchedule fault) is = refl
no_outcomes k ps (Misfit misfit) (qs, kept, schedule, l, is, has) = absurd (cc)
