-- The level of a step cost, found by a search among its steps.
use Rattle.std.proofs.Common.{◌≡◌, ℕ, ℤ, pos, negsuc, zero, suc, ◌<◌, ◌≤ℤ◌, ◌||◌, Bool, true, false, List, [], ◌∷◌, None, Some, cond, int_le, int_lt, length, get_or, refl, ap, subst, ◌∙◌, arith}
use Rattle.std.specs.List.{fold}
use Rattle.std.specs.List.Sorted.{IsPartitionedBy, IsPartitionPoint}
use Rattle.std.proofs.lemmas.Int.{ints}
use Rattle.std.proofs.lemmas.List.{get_or_default}
use Rattle.tf_model.specs.InstanceData.{is_negative, is_beyond}
use Rattle.tf_model.specs.Steps.{Steps, step_value}
use Rattle.tf_model.specs.StepFaults.{step_fault, rise_fault, IsStepCost}
use Rattle.tf_model.specs.CostLaws.{none_of_two, no_base_fault, after}
use Rattle.tf_model.specs.Level.{IsLevel}
use Rattle.tf_model.specs.declared.cost.CostFault.TheVariants.{OutOfRange, TimesNotRising, CostFalls}

-- a step without a fault is later than the one before
step_later : (time value : ℤ) (step : ℤ × ℤ) → step_fault time value step ≡ None
    → int_le step.0 time ≡ false
step_later time value step e =
    by_tests (is_negative step.0 || is_beyond step.0 || is_beyond step.1) (int_le step.0 time) refl e
  where
    by_tests : (a b : Bool) → int_le step.0 time ≡ b
        → cond a (Some OutOfRange)
        (cond b (Some TimesNotRising) (cond (int_lt step.1 value) (Some CostFalls) None)) ≡ None
        → int_le step.0 time ≡ false
    by_tests true b is e = cc
    by_tests false true is e = cc
    by_tests false false is e = is

came_before : (a b c : ℤ) → int_le b a ≡ false → int_le b c ≡ true → int_le a c ≡ true
came_before a b c p q = grind (arith, ints)

-- where a step behind it has come, the one before has come
earlier_came : (time value : ℤ) (steps : List (ℤ × ℤ)) (c : ℤ)
    → rise_fault time value steps ≡ None → (j : ℕ) (d : ℤ × ℤ) → j < length steps
    → int_le (get_or steps j d).0 c ≡ true → int_le time c ≡ true
earlier_came time value [] c e j d h came = absurd (omega (arith, h))
earlier_came time value (step ∷ steps) c e zero d h came =
    let parts = none_of_two (step_fault time value step) (rise_fault step.0 step.1 steps) e in
    came_before time step.0 c (step_later time value step parts.0) came
earlier_came time value (step ∷ steps) c e (suc j) d h came =
    let parts = none_of_two (step_fault time value step) (rise_fault step.0 step.1 steps) e in
    came_before time step.0 c (step_later time value step parts.0)
    (earlier_came step.0 step.1 steps c parts.1 j d (omega (arith, h)) came)

-- the steps that have come stand before those that have not
came_parted : (time value : ℤ) (steps : List (ℤ × ℤ)) (c : ℤ) → rise_fault time value steps ≡ None
    → IsPartitionedBy (λ step. int_le step.0 c) steps
came_parted time value [] c e i j d le h came = absurd (omega (arith, h))
came_parted time value (step ∷ steps) c e zero zero d le h came = came
came_parted time value (step ∷ steps) c e zero (suc j) d le h came =
    let parts = none_of_two (step_fault time value step) (rise_fault step.0 step.1 steps) e in
    earlier_came step.0 step.1 steps c parts.1 j d (omega (arith, h)) came
came_parted time value (step ∷ steps) c e (suc i) zero d le h came = absurd (omega (arith, le))
came_parted time value (step ∷ steps) c e (suc i) (suc j) d le h came =
    let parts = none_of_two (step_fault time value step) (rise_fault step.0 step.1 steps) e in
    came_parted step.0 step.1 steps c parts.1 i j d (omega (arith, le)) (omega (arith, h)) came

-- so it is for the steps of a cost
pub cost_parted : (s : Steps) (c : ℤ) → IsStepCost s
    → IsPartitionedBy (λ step. int_le step.0 c) s.steps
cost_parted s c e =
    came_parted (negsuc 0) s.base s.steps c
    (no_base_fault (is_beyond s.base) (rise_fault (negsuc 0) s.base s.steps) e)

abbrev pub IsPoint : ℤ → List (ℤ × ℤ) → ℕ → Type 0
IsPoint c steps come =
    IsPartitionPoint (λ step. int_le step.0 c ≡ true) (λ step. int_le step.0 c ≡ false) steps come

-- behind the point the tests say the same of the rest
point_behind : (c : ℤ) (step : ℤ × ℤ) (steps : List (ℤ × ℤ)) (come : ℕ)
    → IsPoint c (step ∷ steps) (suc come) → IsPoint c steps come
point_behind c step steps come point = (
  λ k d from to. point.0 (suc k) d (omega arith) (omega (arith, to)),
  λ k d from to. point.1 (suc k) d (omega (arith, from)) (omega (arith, to)),
)

-- where no step has come, the value stays
none_came : (c : ℕ) (v : ℤ) (steps : List (ℤ × ℤ)) → IsPoint (pos c) steps 0
    → fold (after c) v steps ≡ v
none_came c v [] point = refl
none_came c v (step ∷ steps) point =
    ap (λ b. fold (after c) (cond b step.1 v) steps)
    (point.1 0 step (omega arith) (omega arith))
    ∙ none_came c v steps (
      λ k d from to. absurd (omega (arith, to)),
      λ k d from to. point.1 (suc k) d (omega arith) (omega (arith, to)),
    )

-- where some have, it is that of the last of them
last_came : (c : ℕ) (v : ℤ) (steps : List (ℤ × ℤ)) (come : ℕ) (d : ℤ × ℤ)
    → IsPoint (pos c) steps (suc come) → come < length steps
    → fold (after c) v steps ≡ (get_or steps come d).1
last_came c v [] come d point h = absurd (omega (arith, h))
last_came c v (step ∷ steps) zero d point h =
    ap (λ b. fold (after c) (cond b step.1 v) steps)
    (point.0 0 step (omega arith) (omega arith))
    ∙ none_came c step.1 steps (point_behind (pos c) step steps 0 point)
last_came c v (step ∷ steps) (suc come) d point h =
    ap (λ b. fold (after c) (cond b step.1 v) steps)
    (point.0 0 step (omega arith) (omega arith))
    ∙ last_came c step.1 steps come d (point_behind (pos c) step steps (suc come) point)
    (omega (arith, h))

not_yet : (time c e : ℤ) → e ≤ℤ c → int_le time c ≡ false → int_le time e ≡ false
not_yet time c e le h = grind (arith, ints)

has_come : (time e : ℤ) → time ≤ℤ e → int_le time e ≡ true
has_come time e le = grind (arith, ints)

-- where no step has come by a time, none has before
none_before : (steps : List (ℤ × ℤ)) (c e : ℤ) → e ≤ℤ c → IsPoint c steps 0 → IsPoint e steps 0
none_before steps c e le point = (
  λ k d from to. absurd (omega (arith, to)),
  λ k d from to. not_yet (get_or steps k d).0 c e le (point.1 k d from to),
)

-- since the last step that has come, the same steps have come
same_come : (s : Steps) (c e : ℤ) (come : ℕ) (d : ℤ × ℤ) → IsStepCost s → come < length s.steps
    → (get_or s.steps come d).0 ≤ℤ e → e ≤ℤ c → IsPoint c s.steps (suc come)
    → IsPoint e s.steps (suc come)
same_come s c e come d sound within since le point = (
  λ k f from to. cost_parted s e sound k come f (omega (arith, to)) within
      (has_come (get_or s.steps come f).0 e
      (subst (λ (step : ℤ × ℤ). step.0 ≤ℤ e) (get_or_default s.steps come d f within) since)),
  λ k f from to. not_yet (get_or s.steps k f).0 c e le (point.1 k f from to),
)

-- the base is the level where no step has come
pub base_level : (s : Steps) (c : ℤ) → pos 0 ≤ℤ c → IsPoint c s.steps 0
    → IsLevel (step_value s) c (record { value = s.base; since = pos 0 })
base_level s c h point = record {
  reached = h;
  same = λ e from to. none_came e s.base s.steps (none_before s.steps c (pos e) to point);
}

-- and else the last step that has
pub last_level : (s : Steps) (c : ℤ) (come : ℕ) (d : ℤ × ℤ) → IsStepCost s
    → come < length s.steps → IsPoint c s.steps (suc come)
    → IsLevel (step_value s) c
    (record { value = (get_or s.steps come d).1; since = (get_or s.steps come d).0 })
last_level s c come d sound within point = record {
  reached = came_by (get_or s.steps come d).0 c (point.0 come d (omega arith) (omega arith));
  same = λ e from to. last_came e s.base s.steps come d
      (same_come s c (pos e) come d sound within from to point) within;
}
  where
    came_by : (time c : ℤ) → int_le time c ≡ true → time ≤ℤ c
    came_by time c h = grind (arith, ints)
