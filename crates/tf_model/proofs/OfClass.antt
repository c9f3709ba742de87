-- A problem is of one class at most: of the one that is found.
use Rattle.std.proofs.Common.{◌≡◌, ℕ, Bool, true, false, not, ◌&&◌, ◌||◌, Option, None, Some, cond, refl, ap, sym, ◌∙◌, IsTrue, ◌⊎◌, inl, inr, ⊎_elim, subst}
use Rattle.std.specs.Prelude.{◌↔◌}
use Rattle.std.specs.Bool.{IsFalse}
use Rattle.std.proofs.lemmas.Bool.{false≢true, eqb-true}
use Rattle.tf_model.specs.declared.class.Class.{Class}
use Rattle.tf_model.specs.declared.class.Class.TheVariants.{FlowTwo, OpenTwo, PrmpFlowTwo, PrmpOpenTwo}
use Rattle.tf_model.specs.declared.problem.Env.{Env}
use Rattle.tf_model.specs.declared.problem.Env.TheVariants.{Single, Parallel, Flow, OpenShop}
use Rattle.tf_model.specs.declared.problem.Goal.{Goal}
use Rattle.tf_model.specs.declared.problem.Goal.TheVariants as goals
use Rattle.tf_model.specs.declared.problem.Problem.{Problem}
use Rattle.tf_model.specs.ClassTable.{notation_of, plain_problem, is_shop, IsOfClass, single_class, parallel_class, may_be_two, shop_class, class_of}

-- ---- what is found is a class of the problem

abbrev IsFound : Problem → Option Class → Type 0
IsFound p None = Unit {0}
IsFound p (Some c) = IsOfClass p c

-- a problem that has none of the last four conditions
abbrev problem_with : Env → Option ℕ → Goal → Bool → Bool → Bool → Problem
problem_with env count goal release prec prmp = record (plain_problem env goal) {
  count = count;
  release = release;
  prec = prec;
  prmp = prmp;
}

-- outside shops any number of machines may be given
outside_shops : (p : Problem) (c : Class)
    → record p { count = None } ≡ record (notation_of c) { count = None } → IsFalse (is_shop c)
    → IsOfClass p c
outside_shops p c e outside = record {
  notation = e;
  machines = λ yes. absurd (false≢true (sym outside ∙ yes));
}

single_found : (n : Option ℕ) (goal : Goal) (release prec prmp : Bool)
    → IsFound (problem_with Single n goal release prec prmp) (single_class goal release prec prmp)
single_found n goals.SumWC false false false = outside_shops _ _ refl refl
single_found n goals.SumWC false false true = outside_shops _ _ refl refl
single_found n goals.SumC false false false = outside_shops _ _ refl refl
single_found n goals.SumC false false true = outside_shops _ _ refl refl
single_found n goals.Hmax false false false = outside_shops _ _ refl refl
single_found n goals.Hmax false false true = outside_shops _ _ refl refl
single_found n goals.Hmax false true false = outside_shops _ _ refl refl
single_found n goals.Hmax false true true = outside_shops _ _ refl refl
single_found n goals.Lmax false false false = outside_shops _ _ refl refl
single_found n goals.Lmax false false true = outside_shops _ _ refl refl
single_found n goals.Lmax false true false = outside_shops _ _ refl refl
single_found n goals.Lmax false true true = outside_shops _ _ refl refl
single_found n goals.Lmax true false true = outside_shops _ _ refl refl
single_found n _ _ _ _ = tt

parallel_found : (n : Option ℕ) (goal : Goal) (release prec prmp : Bool)
    → IsFound (problem_with Parallel n goal release prec prmp)
    (parallel_class goal release prec prmp)
parallel_found n goals.Cmax false false true = outside_shops _ _ refl refl
parallel_found n goals.SumC false false false = outside_shops _ _ refl refl
parallel_found n _ _ _ _ = tt

two_or_none : (n : Option ℕ) → may_be_two n ≡ true → (n ≡ None) ⊎ (n ≡ Some 2)
two_or_none None e = inl refl
two_or_none (Some m) e = inr (ap Some (eqb-true m 2 e))

shop_found : (env : Env) (plain broken : Class)
    → ((n : Option ℕ) (prmp : Bool) → (n ≡ None) ⊎ (n ≡ Some 2)
    → IsOfClass (problem_with env n goals.Cmax false false prmp) (cond prmp broken plain))
    → (n : Option ℕ) (goal : Goal) (release prec prmp : Bool)
    → IsFound (problem_with env n goal release prec prmp)
    (shop_class (problem_with env n goal release prec prmp) plain broken)
shop_found env plain broken of n goals.Cmax release prec prmp =
    by_tests (may_be_two n) release prec prmp refl
  where
    by_tests : (two release prec prmp : Bool) → may_be_two n ≡ two
        → IsFound (problem_with env n goals.Cmax release prec prmp)
        (cond (two && not (release || prec)) (Some (cond prmp broken plain)) None)
    by_tests true false false true e = of n true (two_or_none n e)
    by_tests true false false false e = of n false (two_or_none n e)
    by_tests _ _ _ _ e = tt
shop_found env plain broken of n _ release prec prmp = tt

flow_of : (n : Option ℕ) (prmp : Bool) → (n ≡ None) ⊎ (n ≡ Some 2)
    → IsOfClass (problem_with Flow n goals.Cmax false false prmp) (cond prmp PrmpFlowTwo FlowTwo)
flow_of n true two = record { notation = refl; machines = λ shop. two }
flow_of n false two = record { notation = refl; machines = λ shop. two }

open_of : (n : Option ℕ) (prmp : Bool) → (n ≡ None) ⊎ (n ≡ Some 2)
    → IsOfClass (problem_with OpenShop n goals.Cmax false false prmp) (cond prmp PrmpOpenTwo OpenTwo)
open_of n true two = record { notation = refl; machines = λ shop. two }
open_of n false two = record { notation = refl; machines = λ shop. two }

found_in : (env : Env) (n : Option ℕ) (goal : Goal) (release prec prmp : Bool)
    → IsFound (problem_with env n goal release prec prmp)
    (class_of (problem_with env n goal release prec prmp))
found_in Single n goal release prec prmp = single_found n goal release prec prmp
found_in Parallel n goal release prec prmp = parallel_found n goal release prec prmp
found_in Flow n goal release prec prmp =
    shop_found Flow FlowTwo PrmpFlowTwo flow_of n goal release prec prmp
found_in OpenShop n goal release prec prmp =
    shop_found OpenShop OpenTwo PrmpOpenTwo open_of n goal release prec prmp
found_in _ n goal release prec prmp = tt

abbrev conditioned : Problem → Bool → Bool → Bool → Bool → Problem
conditioned p prmu nwt block rcrc = record p {
  prmu = prmu;
  nwt = nwt;
  block = block;
  rcrc = rcrc;
}

found : (p : Problem) → IsFound p (class_of p)
found p = by_conditions p.prmu p.nwt p.block p.rcrc
  where
    by_conditions : (prmu nwt block rcrc : Bool)
        → IsFound (conditioned p prmu nwt block rcrc) (class_of (conditioned p prmu nwt block rcrc))
    by_conditions false false false false =
        found_in p.env p.count p.goal p.release p.prec p.prmp
    by_conditions _ _ _ _ = tt

-- ---- a class of the problem is found

abbrev counted : Class → Option ℕ → Problem
counted c n = record (notation_of c) { count = n }

-- in a shop the number of machines is 2 or not said
finds_either : (c : Class) → class_of (counted c None) ≡ Some c
    → class_of (counted c (Some 2)) ≡ Some c → (n : Option ℕ) → (n ≡ None) ⊎ (n ≡ Some 2)
    → class_of (counted c n) ≡ Some c
finds_either c without with n = ⊎_elim (λ none. ap (λ m. class_of (counted c m)) none ∙ without)
    (λ two. ap (λ m. class_of (counted c m)) two ∙ with)

finds : (c : Class) (n : Option ℕ) → (IsTrue (is_shop c) → (n ≡ None) ⊎ (n ≡ Some 2))
    → class_of (counted c n) ≡ Some c
finds FlowTwo n two = finds_either FlowTwo refl refl n (two refl)
finds OpenTwo n two = finds_either OpenTwo refl refl n (two refl)
finds PrmpFlowTwo n two = finds_either PrmpFlowTwo refl refl n (two refl)
finds PrmpOpenTwo n two = finds_either PrmpOpenTwo refl refl n (two refl)
finds _ n two = refl

finds_class : (p : Problem) (c : Class) → IsOfClass p c → class_of p ≡ Some c
finds_class p c of =
    ap (λ q. class_of (record q { count = p.count })) of.notation
    ∙ finds c p.count of.machines

-- ---- both

pub determined : (p : Problem) (o : Option Class) → o ≡ class_of p → (c : Class)
    → (o ≡ Some c) ↔ IsOfClass p c
determined p o is c =
    (λ at. subst (IsFound p) (sym is ∙ at) (found p), λ of. is ∙ finds_class p c of)
