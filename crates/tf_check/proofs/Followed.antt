-- The marks of the jobs that have a successor in a set, arc by arc, and the least price of the
-- others.
use Rattle.std.proofs.Common.{◌≡◌, ℕ, ◌+◌, ◌-◌, ◌≤◌, ◌<◌, ℤ, Bool, true, false, not, ◌&&◌, ◌==◌, cond, int_lt, List, [], ◌∷◌, ◌++◌, length, get_or, take, set, map, filter, fold, None, Some, Result, Ok, sum_by, refl, sym, ap, ◌∙◌, ⊎_elim, append-nil, replicate, take_all, subst, All, arith}
use Rattle.std.specs.List.{list_all}
use Rattle.std.specs.Int.{int_min}
use Rattle.std.proofs.lemmas.Bool.{cases_eq, eq-eqb, ne_eqb}
use Rattle.std.proofs.lemmas.List.{length-set, get_or-set_same, get_or-set_other, length-replicate, get_or-replicate}
use Rattle.std.proofs.lemmas.List.Folds.{list_all_more}
use Rattle.std.proofs.lemmas.List.Elements.{filter_more}
use Rattle.tf_model.specs.SchedulingTask.{SchedulingTask, IsJob, time_of}
use Rattle.tf_model.specs.Sound.{IsSound}
use Rattle.tf_model.specs.Bounds.{stands_in}
use Rattle.tf_model.specs.Cost.{price}
use Rattle.tf_model.specs.Outcome.{unless}
use Rattle.tf_check.specs.Kinds.{takes_last_of}
use Rattle.tf_check.specs.declared.fault.BoundFault.{BoundFault}
use Rattle.tf_check.specs.Bound.{least, last_of_bound, other_kind, list_fault, empty_fault, no_free_fault, free_jobs}
use Rattle.tf_check.proofs.JobLists.{not_empty}
use Rattle.tf_check.specs.Free.{AreFollowed, cheapest, least_with}

-- the arc does not lead from job c to a job of the set
abbrev leads_out : List ℕ → ℕ → ℕ × ℕ → Bool
leads_out jobs c arc = not ((arc.0 == c) && stands_in jobs arc.1)

-- job by job, whether one of the first i arcs leads from it into the set
pub record IsFollowedBy (k : SchedulingTask) (jobs : List ℕ) (arcs : List (ℕ × ℕ)) (i : ℕ)
    (marks : List Bool) : Type 0 where
  pub len : length marks ≡ length k.jobs
  pub marked : (c : ℕ) → IsJob k c
      → get_or marks (c - 1) false
      ≡ not (list_all (λ arc. not ((arc.0 == c) && stands_in jobs arc.1)) (take i arcs))

module _ (k : SchedulingTask) (jobs : List ℕ) (arcs : List (ℕ × ℕ)) (i : ℕ) (marks : List Bool)
    (lt : i < length arcs) (arc : ℕ × ℕ) (at : get_or arcs i arc ≡ arc)
    (so_far : IsFollowedBy k jobs arcs i marks) where
  one_more : (c : ℕ)
      → list_all (leads_out jobs c) (take (i + 1) arcs)
      ≡ (list_all (leads_out jobs c) (take i arcs) && leads_out jobs c arc)
  one_more c = list_all_more (leads_out jobs c) arcs i arc lt
      ∙ ap (λ x. list_all (leads_out jobs c) (take i arcs) && leads_out jobs c x) at

  and_true : (a : Bool) → (a && true) ≡ a
  and_true true = refl
  and_true false = refl

  and_false : (a : Bool) → (a && false) ≡ false
  and_false true = refl
  and_false false = refl

  -- an arc that does not lead into the set
  pub followed_same : stands_in jobs arc.1 ≡ false → IsFollowedBy k jobs arcs (i + 1) marks
  followed_same away = record {
    len = so_far.len;
    marked = λ c job.
        let p : Bool = list_all (leads_out jobs c) (take i arcs) in
        let out : leads_out jobs c arc ≡ true = ap (λ s. not ((arc.0 == c) && s)) away
        ∙ ap not (and_false (arc.0 == c)) in
        so_far.marked c job ∙ ap not (sym (one_more c ∙ ap (λ s. p && s) out ∙ and_true p));
  }

  -- an arc that does
  pub followed_more : stands_in jobs arc.1 ≡ true → IsJob k arc.0
      → IsFollowedBy k jobs arcs (i + 1) (set marks (arc.0 - 1) true)
  followed_more into from = record {
    len = length-set marks (arc.0 - 1) true ∙ so_far.len;
    marked = λ c job.
        let p : Bool = list_all (leads_out jobs c) (take i arcs) in
        let test : leads_out jobs c arc ≡ not (arc.0 == c) = ap (λ s. not ((arc.0 == c) && s)) into
        ∙ ap not (and_true (arc.0 == c)) in
        let next : list_all (leads_out jobs c) (take (i + 1) arcs) ≡ (p && not (arc.0 == c)) =
        one_more c ∙ ap (λ s. p && s) test in
        ⊎_elim
        (λ same.
        let inside : arc.0 - 1 < length marks = omega (arith, so_far.len, from.0, from.1) in
        ap (λ n. get_or (set marks (arc.0 - 1) true) (n - 1) false) same
        ∙ get_or-set_same marks (arc.0 - 1) true false inside
        ∙ sym (ap not (next ∙ ap (λ s. p && not s) (eq-eqb arc.0 c (sym same)) ∙ and_false p)))
        (λ differ.
        get_or-set_other marks (arc.0 - 1) (c - 1) true false
        (λ e. differ (omega (arith, job.0, from.0))) ∙ so_far.marked c job
        ∙ sym (ap not
        (next ∙ ap (λ s. p && not s) (ne_eqb arc.0 c (λ e. differ (sym e))) ∙ and_true p)))
        (cases_eq c arc.0);
  }

-- both jobs of an arc are of the task
pub arc_in_task : (k : SchedulingTask) → IsSound k → (arcs : List (ℕ × ℕ)) → arcs ≡ k.arcs
    → (i : ℕ) (arc : ℕ × ℕ) → i < length arcs → arc ≡ get_or arcs i arc
    → IsJob k arc.0 × IsJob k arc.1
arc_in_task k sound arcs same i arc lt at =
    let both : ℕ × ℕ → Type 0 = λ a. IsJob k a.0 × IsJob k a.1 in
    let all : All both arcs = subst (All both) (sym same) sound.arcs_in in
    subst both (sym at) (all i arc lt)

-- before the first arc
pub followed_none : (k : SchedulingTask) (jobs : List ℕ) (arcs : List (ℕ × ℕ)) (n : ℕ)
    → n ≡ length k.jobs → IsFollowedBy k jobs arcs 0 (replicate n false)
followed_none k jobs arcs n len = record {
  len = length-replicate n false ∙ len;
  marked = λ c job. get_or-replicate n (c - 1) false false (omega (arith, job.0, job.1, len));
}

-- behind the last
pub followed_all : (k : SchedulingTask) (jobs : List ℕ) (arcs : List (ℕ × ℕ)) (i : ℕ)
    (marks : List Bool)
    → arcs ≡ k.arcs → length arcs ≤ i
    → IsFollowedBy k jobs arcs i marks → AreFollowed k marks jobs
followed_all k jobs arcs i marks same over by = record {
  len = by.len;
  marked = λ c job.
      let test : ℕ × ℕ → Bool = λ arc. not ((arc.0 == c) && stands_in jobs arc.1) in
      by.marked c job ∙ ap (λ xs. not (list_all test xs)) (take_all i arcs over ∙ same);
}

-- ---- the cheapest

fold-push : (f : ℕ → ℤ) (a : ℤ) (xs : List ℕ) (x : ℕ)
    → fold int_min a (map f (xs ++ x ∷ [])) ≡ int_min (fold int_min a (map f xs)) (f x)
fold-push f a [] x = refl
fold-push f a (y ∷ ys) x = fold-push f (int_min a (f y)) ys x

same_min : (z : ℤ) → int_min z z ≡ z
same_min z = by_test (int_lt z z)
  where
    by_test : (b : Bool) → cond b z z ≡ z
    by_test true = refl
    by_test false = refl

-- one more job
pub cheapest_push : (f : ℕ → ℤ) (xs : List ℕ) (x : ℕ)
    → cheapest f (xs ++ x ∷ []) ≡ Some (least_with (cheapest f xs) (f x))
cheapest_push f [] x = ap Some (same_min (f x))
cheapest_push f (y ∷ ys) x = ap Some (fold-push f (int_min (f y) (f y)) ys x)

module _ (f : ℕ → ℤ) (test : ℕ → Bool) (xs : List ℕ) (i x : ℕ) (lt : i < length xs)
    (at : get_or xs i x ≡ x) where
  filtered : filter test (take (i + 1) xs) ≡ filter test (take i xs) ++ cond (test x) (x ∷ []) []
  filtered = filter_more test xs i x lt
      ∙ ap (λ y. filter test (take i xs) ++ cond (test y) (y ∷ []) []) at

  -- a job that passes, and one that does not
  pub cheapest_more : test x ≡ true
      → cheapest f (filter test (take (i + 1) xs))
      ≡ Some (least_with (cheapest f (filter test (take i xs))) (f x))
  cheapest_more passes =
      ap (cheapest f) (filtered ∙ ap (λ b. filter test (take i xs) ++ cond b (x ∷ []) []) passes)
      ∙ cheapest_push f (filter test (take i xs)) x

  pub cheapest_skips : test x ≡ false
      → cheapest f (filter test (take (i + 1) xs)) ≡ cheapest f (filter test (take i xs))
  cheapest_skips fails =
      ap (cheapest f)
      (filtered ∙ ap (λ b. filter test (take i xs) ++ cond b (x ∷ []) []) fails
      ∙ append-nil (filter test (take i xs)))

-- ---- the bound

some_least : (f : ℕ → ℤ) (free jobs : List ℕ) (v : ℤ) → cheapest f free ≡ Some v
    → unless (no_free_fault free jobs) (Ok (least f free)) ≡ Ok v
some_least f [] jobs v e = cc
some_least f (j ∷ free) jobs v e = cc

-- where no fault comes first, the least price of a free job is the bound
pub last_of_given : (k : SchedulingTask) (jobs : List ℕ) (end : ℕ) (v : ℤ)
    → takes_last_of k.class ≡ true → list_fault k [] jobs ≡ None → 0 < length jobs
    → end ≡ sum_by (time_of k) jobs → cheapest (λ j. price k j end) (free_jobs k jobs) ≡ Some v
    → last_of_bound k jobs ≡ Ok v
last_of_given k jobs end v class fresh some work found =
    let h : ℕ → ℤ = λ j. price k j (sum_by (time_of k) jobs) in
    let free : List ℕ = free_jobs k jobs in
    let given : Result ℤ BoundFault = Ok (least h free) in
    ap (λ t. unless (other_kind t)
    (unless (list_fault k [] jobs)
    (unless (empty_fault jobs) (unless (no_free_fault free jobs) given)))) class
    ∙ ap (λ o. unless o (unless (empty_fault jobs) (unless (no_free_fault free jobs) given))) fresh
    ∙ ap (λ o. unless o (unless (no_free_fault free jobs) given)) (not_empty jobs some)
    ∙ some_least h free jobs v (subst (λ n. cheapest (λ j. price k j n) free ≡ Some v) work found)
