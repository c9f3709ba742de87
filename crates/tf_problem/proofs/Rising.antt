-- Costs are regular: no job gets cheaper by completing later.
use Rattle.std.proofs.Common.{◌≡◌, Bool, true, false, ℕ, ◌≤◌, int_lt, cond, refl, arith, ℤ, pos, negsuc, ◌-ℤ◌, ◌≤ℤ◌, mul-le-mul_left}
use Rattle.std.proofs.lemmas.Int.{ints}
use Rattle.tf_model.specs.declared.problem.Goal.{Goal}
use Rattle.tf_model.specs.declared.problem.Goal.TheVariants as goals
use Rattle.tf_model.specs.Whole.{as_time}
use Rattle.tf_posed.specs.ProblemData.{ProblemData, problem_job}
use Rattle.tf_posed.specs.ProblemCost.{penalty}
use Rattle.tf_problem.proofs.Multipliers.{as_time-at-most}

pub late-rises : (c e : ℕ) (d : ℤ) → c ≤ e → as_time (pos c -ℤ d) ≤ as_time (pos e -ℤ d)
late-rises c e d le =
    as_time-at-most (pos c -ℤ d) (as_time (pos e -ℤ d)) (up (pos e -ℤ d) (omega (arith, ints)))
  where
    up : (z : ℤ) → (pos c -ℤ d) ≤ℤ z → (pos c -ℤ d) ≤ℤ pos (as_time z)
    up (pos n) h = h
    up (negsuc n) h = omega (arith, ints, h)

apart : (d x y : ℤ) → int_lt d x ≡ true → int_lt d y ≡ false → x ≤ℤ y → ⊥
apart d x y p q h = grind (arith, ints)

pub unit-rises : (c e : ℕ) (d : ℤ) → c ≤ e
    → ◌≤◌ (cond (int_lt d (pos c)) 1 0) (cond (int_lt d (pos e)) 1 0)
unit-rises c e d le = by (int_lt d (pos c)) (int_lt d (pos e)) refl refl
  where
    by : (a b : Bool) → int_lt d (pos c) ≡ a → int_lt d (pos e) ≡ b → ◌≤◌ (cond a 1 0) (cond b 1 0)
    by false b p q = omega arith
    by true true p q = omega arith
    by true false p q = absurd (apart d (pos c) (pos e) p q (omega (arith, ints)))

-- no job gets cheaper by being late
pub penalty-rises : (g : Goal) (k : ProblemData) (j c e : ℕ) → c ≤ e → penalty g k j c ≤ penalty g k j e
penalty-rises goals.Cmax k j c e le = omega arith
penalty-rises goals.Lmax k j c e le = omega arith
penalty-rises goals.Hmax k j c e le = omega arith
penalty-rises goals.SumC k j c e le = le
penalty-rises goals.SumWC k j c e le = mul-le-mul_left (problem_job k j).weight le
penalty-rises goals.SumT k j c e le = late-rises c e (problem_job k j).due le
penalty-rises goals.SumWT k j c e le =
    mul-le-mul_left (problem_job k j).weight (late-rises c e (problem_job k j).due le)
penalty-rises goals.SumU k j c e le = unit-rises c e (problem_job k j).due le
penalty-rises goals.SumWU k j c e le =
    mul-le-mul_left (problem_job k j).weight (unit-rises c e (problem_job k j).due le)
