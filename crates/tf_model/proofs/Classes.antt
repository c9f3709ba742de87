-- What the facts of a class say of one another.
use Rattle.std.proofs.Common.{◌≡◌, Bool, true, false, not, ◌&&◌, refl, sym, IsTrue}
use Rattle.std.specs.Bool.{IsFalse}
use Rattle.std.proofs.lemmas.Bool.{false≢true, not-false}
use Rattle.tf_model.specs.declared.class.Class.{Class}
use Rattle.tf_model.specs.declared.class.Class.TheVariants.{WeightedSum}
use Rattle.tf_model.specs.declared.problem.Env.{Env}
use Rattle.tf_model.specs.declared.problem.Env.TheVariants.{Single, Parallel, Flow}
use Rattle.tf_model.specs.declared.problem.Goal.{Goal}
use Rattle.tf_model.specs.declared.problem.Goal.TheVariants as goals
use Rattle.tf_model.specs.ClassTable.{notation_of, is_shop_env, is_flow_env, is_single_env, is_shop, is_flow, is_single, is_released, is_ordered, is_due, is_costed, is_sum, is_weighted, is_span, is_parallel_env, is_parallel, Objective, Makespan, Lateness, Dearest, Total, objective_of, objective_by, is_makespan, is_lateness, is_dearest, is_total}

-- the second of two that never hold together
pub second_fails : (a b : Bool) → (a && b) ≡ false → IsTrue a → IsFalse b
second_fails true b e t = e
second_fails false b e t = absurd (false≢true t)

-- ---- by the environment

pub single_is_no_shop : (c : Class) → IsTrue (is_single c) → IsFalse (is_shop c)
single_is_no_shop c = by (notation_of c).env
  where
    by : (e : Env) → IsTrue (is_single_env e) → IsFalse (is_shop_env e)
    by Single h = refl
    by _ h = absurd (false≢true h)

pub shop_not_single : (c : Class) → IsTrue (is_shop c) → IsFalse (is_single c)
shop_not_single c = by (notation_of c).env
  where
    by : (e : Env) → IsTrue (is_shop_env e) → IsFalse (is_single_env e)
    by Single h = absurd (false≢true h)
    by _ h = refl

pub flow_is_shop : (c : Class) → IsTrue (is_flow c) → IsTrue (is_shop c)
flow_is_shop c = by (notation_of c).env
  where
    by : (e : Env) → IsTrue (is_flow_env e) → IsTrue (is_shop_env e)
    by Flow h = refl
    by _ h = absurd (false≢true h)

pub parallel_is_no_shop : (c : Class) → IsTrue (is_parallel c) → IsFalse (is_shop c)
parallel_is_no_shop c = by (notation_of c).env
  where
    by : (e : Env) → IsTrue (is_parallel_env e) → IsFalse (is_shop_env e)
    by Parallel h = refl
    by _ h = absurd (false≢true h)

pub no_flow : (c : Class) → IsFalse (is_shop c) → IsFalse (is_flow c)
no_flow c = by (notation_of c).env
  where
    by : (e : Env) → IsFalse (is_shop_env e) → IsFalse (is_flow_env e)
    by Flow h = absurd (false≢true (sym h))
    by _ h = refl

-- ---- by the objective

pub spanning : (c : Class) → IsTrue (is_span c) → objective_of c ≡ Makespan
spanning c = by (notation_of c).goal
  where
    by : (g : Goal) → IsTrue (is_makespan g) → objective_by g ≡ Makespan
    by goals.Cmax h = refl
    by _ h = absurd (false≢true h)

pub late : (c : Class) → IsTrue (is_due c) → objective_of c ≡ Lateness
late c = by (objective_of c)
  where
    by : (o : Objective) → IsTrue (is_lateness o) → o ≡ Lateness
    by Lateness h = refl
    by _ h = absurd (false≢true h)

pub dearest : (c : Class) → IsTrue (is_costed c) → objective_of c ≡ Dearest
dearest c = by (objective_of c)
  where
    by : (o : Objective) → IsTrue (is_dearest o) → o ≡ Dearest
    by Dearest h = refl
    by _ h = absurd (false≢true h)

pub total : (c : Class) → IsTrue (is_sum c) → objective_of c ≡ Total
total c = by (objective_of c)
  where
    by : (o : Objective) → IsTrue (is_total o) → o ≡ Total
    by Total h = refl
    by _ h = absurd (false≢true h)

-- ---- over the whole table: one row for a class stands for all

shop_or_released : (c : Class) → (is_shop c && is_released c) ≡ false
shop_or_released WeightedSum = refl
shop_or_released _ = refl

shop_or_ordered : (c : Class) → (is_shop c && is_ordered c) ≡ false
shop_or_ordered WeightedSum = refl
shop_or_ordered _ = refl

shop_or_not_span : (c : Class) → (is_shop c && not (is_span c)) ≡ false
shop_or_not_span WeightedSum = refl
shop_or_not_span _ = refl

sum_or_shop : (c : Class) → (is_sum c && is_shop c) ≡ false
sum_or_shop WeightedSum = refl
sum_or_shop _ = refl

parallel_or_weighted : (c : Class) → (is_parallel c && is_weighted c) ≡ false
parallel_or_weighted WeightedSum = refl
parallel_or_weighted _ = refl

sum_or_released : (c : Class) → (is_sum c && is_released c) ≡ false
sum_or_released WeightedSum = refl
sum_or_released _ = refl

sum_or_ordered : (c : Class) → (is_sum c && is_ordered c) ≡ false
sum_or_ordered WeightedSum = refl
sum_or_ordered _ = refl

ordered_or_not_single : (c : Class) → (is_ordered c && not (is_single c)) ≡ false
ordered_or_not_single WeightedSum = refl
ordered_or_not_single _ = refl

pub ordered_single : (c : Class) → IsTrue (is_ordered c) → IsTrue (is_single c)
ordered_single c h =
    not-false (is_single c)
    (second_fails (is_ordered c) (not (is_single c)) (ordered_or_not_single c) h)

pub parallel_unweighted : (c : Class) → IsTrue (is_parallel c) → IsFalse (is_weighted c)
parallel_unweighted c = second_fails (is_parallel c) (is_weighted c) (parallel_or_weighted c)

pub shop_unreleased : (c : Class) → IsTrue (is_shop c) → IsFalse (is_released c)
shop_unreleased c = second_fails (is_shop c) (is_released c) (shop_or_released c)

pub shop_unordered : (c : Class) → IsTrue (is_shop c) → IsFalse (is_ordered c)
shop_unordered c = second_fails (is_shop c) (is_ordered c) (shop_or_ordered c)

pub sum_plain : (c : Class) → IsTrue (is_sum c) → IsFalse (is_shop c)
sum_plain c = second_fails (is_sum c) (is_shop c) (sum_or_shop c)

pub shop_by_makespan : (c : Class) → IsTrue (is_shop c) → objective_of c ≡ Makespan
shop_by_makespan c h =
    spanning c
    (not-false (is_span c) (second_fails (is_shop c) (not (is_span c)) (shop_or_not_span c) h))

pub sum_unreleased : (c : Class) → IsTrue (is_sum c) → IsFalse (is_released c)
sum_unreleased c = second_fails (is_sum c) (is_released c) (sum_or_released c)

pub sum_unordered : (c : Class) → IsTrue (is_sum c) → IsFalse (is_ordered c)
sum_unordered c = second_fails (is_sum c) (is_ordered c) (sum_or_ordered c)
