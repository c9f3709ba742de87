-- The machines of a route, marked.
use Rattle.std.proofs.Common.{◌≡◌, ℕ, ◌<◌, Bool, true, false, ◌||◌, eqb, List, [], ◌∷◌, ◌++◌, length, get_or, set, replicate, refl, sym, ap, subst, ◌∙◌, arith, inl, inr}
use Rattle.std.proofs.lemmas.Bool.{cases_Bool, eqb-true, eqb-false}
use Rattle.std.proofs.lemmas.List.{get_or-set_same, get_or-set_other, get_or-replicate, length-set, length-replicate}
use Rattle.std.proofs.lemmas.List.Folds.{list_any-append}
use Rattle.tf_routes.specs.declared.route.Step.{Step}
use Rattle.tf_routes.specs.Routes.{visits}
use Rattle.tf_routes.specs.Marks.{AreMarks}

or_true : (a : Bool) → true ≡ (a || true)
or_true true = refl
or_true false = refl

or_false : (a : Bool) → a ≡ (a || false)
or_false true = refl
or_false false = refl

-- with one step more
visits_more : (m : ℕ) (steps : List Step) (step : Step)
    → visits m (steps ++ step ∷ []) ≡ (visits m steps || (eqb step.machine m || false))
visits_more m steps step =
    list_any-append (λ (s : Step). eqb s.machine m) steps (step ∷ [])

marked_more : (steps : List Step) (step : Step) (marks : List Bool)
    → step.machine < length marks
    → AreMarks steps marks → AreMarks (steps ++ step ∷ []) (set marks step.machine true)
marked_more steps step marks within h = λ m lt. elim (cases_Bool (eqb step.machine m)) [
  | inl e ↦
      let same : step.machine ≡ m = eqb-true _ _ e in
      ap (λ (n : ℕ). get_or (set marks step.machine true) n false) (sym same)
      ∙ get_or-set_same marks step.machine true false within
      ∙ or_true (visits m steps)
      ∙ ap (λ b. visits m steps || (b || false)) (sym e)
      ∙ sym (visits_more m steps step)
  | inr e ↦
      get_or-set_other marks step.machine m true false (λ d. eqb-false _ _ e (sym d))
      ∙ h m (omega (arith, lt, length-set marks step.machine true))
      ∙ or_false (visits m steps)
      ∙ ap (λ b. visits m steps || (b || false)) (sym e)
      ∙ sym (visits_more m steps step)
]

-- none is marked at first
none_marked : (n : ℕ) → AreMarks [] (replicate n false)
none_marked n = λ m lt.
    get_or-replicate n m false false (omega (arith, lt, length-replicate n false))

pub fresh : (n : ℕ) (steps : List Step) (marks : List Bool) → steps ≡ []
    → marks ≡ replicate n false → AreMarks steps marks
fresh n steps marks none is =
    subst (λ ss. AreMarks ss marks) (sym none)
    (subst (λ ms. AreMarks [] ms) (sym is) (none_marked n))

pub fresh_count : (n : ℕ) (marks : List Bool) → marks ≡ replicate n false → length marks ≡ n
fresh_count n marks is = ap length is ∙ length-replicate n false

-- one machine more is marked
pub mark : (steps new : List Step) (step : Step) (marks : List Bool) → new ≡ steps ++ step ∷ []
    → step.machine < length marks
    → AreMarks steps marks → AreMarks new (set marks step.machine true)
mark steps new step marks push within h =
    subst (λ ss. AreMarks ss (set marks step.machine true)) (sym push)
    (marked_more steps step marks within h)
