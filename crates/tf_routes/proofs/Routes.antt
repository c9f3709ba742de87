-- Routes that visit no machine twice, step by step.
use Rattle.std.proofs.Common.{◌≡◌, ℕ, zero, suc, ◌+◌, ◌<◌, ◌≤◌, ℤ, pos, negsuc, Bool, true, false, not, cond, eqb, List, [], ◌∷◌, ◌++◌, get_or, Ok, refl, subst, arith, inl, inr}
use Rattle.std.specs.List.{All, count_by}
use Rattle.std.proofs.lemmas.Bool.{cases_Bool, eqb-true, ltb-false}
use Rattle.std.proofs.lemmas.List.Elements.{All-append}
use Rattle.std.proofs.lemmas.List.Sums.{sum_by_push}
use Rattle.tf_words.specs.Number.{number, limit}
use Rattle.tf_model.specs.InstanceData.{is_beyond}
use Rattle.tf_model.specs.Whole.{as_time}
use Rattle.tf_model.proofs.Outcomes.{bind_ok}
use Rattle.tf_read.specs.Faults.{natural}
use Rattle.tf_read.proofs.Judged.{same_ok, natural_within, value_within}
use Rattle.tf_routes.specs.declared.route.Step.{Step}
use Rattle.tf_routes.specs.Routes.{time_in, visits}
use Rattle.tf_routes.specs.RoutedData.{AreSteps}

-- ---- times

small : (z : ℤ) → is_beyond z ≡ false → as_time z ≤ limit
small (pos n) h = ltb-false limit n h
small (negsuc n) h = omega arith

-- a time that was read is within the limit
pub time_small : (line : ℕ) (word : List ℕ) (t : ℕ) → time_in line word ≡ Ok t → t ≤ limit
time_small line word t h =
    let a = bind_ok (natural line (number word)) (λ z. Ok (as_time z)) t h in
    let e : as_time a.0 ≡ t = same_ok (Ok (as_time a.0)) refl a.2 in
    let w : as_time a.0 ≤ limit =
    small a.0 (value_within word a.0 (natural_within line (number word) a.0 a.1).0) in
    subst (λ (n : ℕ). n ≤ limit) e w

-- ---- lists

pub is_false : (b : Bool) → not b ≡ true → b ≡ false
is_false true h = cc
is_false false h = refl

-- a list of one element
pub one : {X : Type 0} (P : X → Type 0) (x : X) → P x → All P (x ∷ [])
one {X} P x h = λ k d lt. at k d lt
  where
    at : (k : ℕ) (d : X) → k < 1 → P (get_or (x ∷ []) k d)
    at zero d lt = h
    at (suc k) d lt = absurd (omega (arith, lt))

-- ---- steps

abbrev on : ℕ → Step → Bool
on machine step = eqb step.machine machine

abbrev more_on : ℕ → Step → ℕ
more_on machine step = cond (on machine step) 1 0

-- a machine that is not visited has no step
none_on : (machine : ℕ) (steps : List Step) → visits machine steps ≡ false
    → count_by (on machine) steps ≡ 0
none_on machine [] h = refl
none_on machine (step ∷ steps) h = elim (cases_Bool (on machine step)) [
  | inl e ↦ absurd (let t : true ≡ false = rw e at h in let f : ⊥ = cc in f)
  | inr e ↦ rw e (none_on machine steps (rw e at h))
]

count_more : (machine : ℕ) (steps : List Step) (step : Step)
    → count_by (on machine) (steps ++ step ∷ [])
    ≡ count_by (on machine) steps + more_on machine step
count_more machine steps step = sum_by_push (more_on machine) steps step

pub no_step : (machines : ℕ) → AreSteps machines []
no_step machines = record {
  once = λ machine. omega arith;
  within = λ k d lt. absurd (omega (arith, lt));
  short = λ k d lt. absurd (omega (arith, lt));
}

-- a step more, on a machine that was not visited
pub step_more : (machines : ℕ) (steps : List Step) (step : Step) → AreSteps machines steps
    → step.machine < machines → visits step.machine steps ≡ false → step.time ≤ limit
    → AreSteps machines (steps ++ step ∷ [])
step_more machines steps step is within new short = record {
  once = λ machine. elim (cases_Bool (on machine step)) [
    | inl e ↦
        let same : step.machine ≡ machine = eqb-true _ _ e in
        let none : count_by (on machine) steps ≡ 0 =
        none_on machine steps (subst (λ (m : ℕ). visits m steps ≡ false) same new) in
        let more = count_more machine steps step in
        let here : more_on machine step ≡ 1 = rw e refl in
        omega (arith, none, more, here)
    | inr e ↦
        let more = count_more machine steps step in
        let here : more_on machine step ≡ 0 = rw e refl in
        omega (arith, is.once machine, more, here)
  ];
  within = All-append (λ (s : Step). s.machine < machines) steps (step ∷ []) is.within
      (one (λ (s : Step). s.machine < machines) step within);
  short = All-append (λ (s : Step). s.time ≤ limit) steps (step ∷ []) is.short
      (one (λ (s : Step). s.time ≤ limit) step short);
}
