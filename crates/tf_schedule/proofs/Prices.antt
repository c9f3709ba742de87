-- What jobs cost, by the objective of the class.
use Rattle.std.proofs.Common.{◌≡◌, ℕ, ◌+◌, ◌<◌, ◌≤◌, ◌⊎◌, ℤ, pos, ◌-ℤ◌, ◌≤ℤ◌, Bool, true, false, cond, length, refl, sym, ap, subst, ◌∙◌, arith, inl, inr, IsTrue}
use Rattle.std.specs.Bool.{IsFalse}
use Rattle.std.specs.Int.{int_max}
use Rattle.std.specs.Int.RustNames.{int_lt}
use Rattle.std.proofs.lemmas.Int.{ints, int_max_is}
use Rattle.std.proofs.lemmas.Bool.{cases_lt}
use Rattle.tf_model.proofs.Classes.{late, dearest, total}
use Rattle.tf_model.specs.SchedulingTask.{SchedulingTask, IsJob, job_data, costs_of}
use Rattle.tf_model.specs.ClassTable.{is_costed, is_due, is_sum, is_total}
use Rattle.tf_model.specs.Cost.{Objective, Total, objective_of, price, price_by, cost, cost_by, greatest_price, total_price}
use Rattle.tf_model.specs.Timetable.{Timetable}
use Rattle.tf_model.specs.Steps.{step_value}

pub costed_price : (k : SchedulingTask) (j t : ℕ) → IsTrue (is_costed k.class)
    → step_value (costs_of k j) t ≡ price k j t
costed_price k j t costed = ap (λ o. price_by o k j t) (sym (dearest k.class costed))

pub due_price : (k : SchedulingTask) (j t : ℕ) → IsTrue (is_due k.class)
    → (pos t -ℤ (job_data k j).due) ≡ price k j t
due_price k j t due = ap (λ o. price_by o k j t) (sym (late k.class due))

pub ≤ℤ_trans : (a b c : ℤ) → a ≤ℤ b → b ≤ℤ c → a ≤ℤ c
≤ℤ_trans a b c p q = omega (arith, ints)

-- the greater of two is above both, and is one of them
pub max_above : (v p w : ℤ) → w ≡ int_max v p → (v ≤ℤ w) × (p ≤ℤ w)
max_above v p w e =
    subst (λ (z : ℤ). (v ≤ℤ z) × (p ≤ℤ z)) (sym e)
    (omega (arith, ints, int_max_is v p), omega (arith, ints, int_max_is v p))

pub max_one : (v p w : ℤ) → w ≡ int_max v p → (w ≡ v) ⊎ (w ≡ p)
max_one v p w e = step (int_lt p v) (sym e)
  where
    step : (b : Bool) → cond b v p ≡ w → (w ≡ v) ⊎ (w ≡ p)
    step true f = inl (sym f)
    step false f = inr (sym f)

-- one more job, where job j completes at f j
module _ (k : SchedulingTask) (f : ℕ → ℕ) (n j : ℕ) (v w : ℤ) (inside : n < length k.jobs)
    (is : j ≡ n + 1) (new : w ≡ int_max v (price k j (f j))) where
  pub price_all : ((i : ℕ) → 1 ≤ i → i ≤ n → price k i (f i) ≤ℤ v) → (i : ℕ) → 1 ≤ i → i ≤ n + 1
      → price k i (f i) ≤ℤ w
  price_all all i low high = elim (cases_lt i (n + 1)) [
    | inl less ↦
        ≤ℤ_trans (price k i (f i)) v w (all i low (omega arith))
        (max_above v (price k j (f j)) w new).0
    | inr ge ↦ let same : j ≡ i = omega arith in
        subst (λ h. price k h (f h) ≤ℤ w) same (max_above v (price k j (f j)) w new).1
  ]

  pub price_reached : (i : ℕ) × IsJob k i × (v ≡ price k i (f i))
      → (i : ℕ) × IsJob k i × (w ≡ price k i (f i))
  price_reached (i, job, at) = elim (max_one v (price k j (f j)) w new) [
    | inl old ↦ (i, job, old ∙ at)
    | inr here ↦ (j, (omega arith, omega arith), here)
  ]

-- ---- which of the two a cost is
pub sum_cost : (k : SchedulingTask) (rows : Timetable) → IsTrue (is_sum k.class)
    → cost k rows ≡ pos (total_price k rows)
sum_cost k rows is = ap (λ o. cost_by o k rows) (total k.class is)

pub other_cost : (k : SchedulingTask) (rows : Timetable) → IsFalse (is_sum k.class)
    → cost k rows ≡ greatest_price k rows
other_cost k rows = by (objective_of k.class)
  where
    by : (o : Objective) → IsFalse (is_total o) → cost_by o k rows ≡ greatest_price k rows
    by Total h = absurd (cc)
    by _ h = refl
