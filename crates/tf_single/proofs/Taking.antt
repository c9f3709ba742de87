-- Jobs that are taken one after another: the start, a step, the end, and where no job is free.
use Rattle.std.proofs.Common.{◌≡◌, ℕ, suc, ◌+◌, ◌-◌, ◌<◌, ◌≤◌, ◌≤ℤ◌, Bool, true, false, not, ◌&&◌, ◌==◌, cond, List, [], ◌∷◌, ◌++◌, length, refl, sym, ap, ◌∙◌, subst, arith, ◌⊎◌, inl, inr, sum_by, count_by, Contains}
use Rattle.std.proofs.lemmas.Bool.{and_parts, eqb-true, not-true, cases_Bool}
use Rattle.std.proofs.lemmas.List.Elements.{All-contains}
use Rattle.std.proofs.lemmas.List.FromFn.{length-range_with_len}
use Rattle.std.proofs.lemmas.List.Sums.{sum_by-cons}
use Rattle.std.proofs.lemmas.List.Sorted.{Contains-permutation, IsPermutation-sym}
use Rattle.std.specs.List.Sorted.{IsPermutation}
use Rattle.tf_model.specs.SchedulingTask.{SchedulingTask, IsJob, all_jobs, time_of}
use Rattle.tf_model.specs.Sound.{IsSound}
use Rattle.tf_model.specs.Bounds.{stands_in}
use Rattle.tf_model.specs.Cost.{price}
use Rattle.tf_model.specs.Limit.{limit}
use Rattle.tf_single.specs.Backward.{rest_of, price_behind, AreChosen}
use Rattle.tf_single.specs.Open.{IsOpen, AreTaken}
use Rattle.tf_single.specs.Progress.{of_job}
use Rattle.tf_single.proofs.Open.{free_says, left_count, none_free, open_choice, open_taken, chosen_more, work_less}
use Rattle.tf_single.proofs.Rest.{in_rest, rest_jobs, rest_sum, stands_from}

ones : (xs : List ℕ) → sum_by (λ j. 1) xs ≡ length xs
ones [] = refl
ones (x ∷ xs) = omega (arith, sum_by-cons (λ j. 1) x xs, ones xs)

-- those that are left and those that are taken are as many as all
pub left_length : (k : SchedulingTask) (taken : List ℕ) → AreChosen k taken
    → length (rest_of k taken) + length taken ≡ length k.jobs
left_length k taken chosen =
    omega (
      arith,
      rest_sum k (λ j. 1) taken chosen.jobs chosen.distinct,
      ones (rest_of k taken),
      ones taken,
      ones (all_jobs k),
      length-range_with_len 1 (length k.jobs),
    )

-- no job is taken
pub none_chosen : (k : SchedulingTask) → AreChosen k []
none_chosen k = record {
  jobs = λ i d lt. absurd (omega arith);
  distinct = λ c. omega arith;
  choice = λ i lt. absurd (omega arith);
}

pub work_at_start : (k : SchedulingTask)
    → sum_by (time_of k) (all_jobs k) ≡ sum_by (time_of k) (rest_of k [])
work_at_start k =
    omega (arith, rest_sum k (time_of k) [] (none_chosen k).jobs (none_chosen k).distinct)

pub work_within : (k : SchedulingTask) (taken : List ℕ) → AreChosen k taken
    → sum_by (time_of k) (rest_of k taken) ≤ sum_by (time_of k) (all_jobs k)
work_within k taken chosen = omega (arith, rest_sum k (time_of k) taken chosen.jobs chosen.distinct)

-- all are taken
pub none_left : (k : SchedulingTask) (taken : List ℕ) → AreChosen k taken
    → length k.jobs ≤ length taken → rest_of k taken ≡ []
none_left k taken chosen most = empty (rest_of k taken) (omega (arith, left_length k taken chosen))
  where
    empty : (xs : List ℕ) → length xs ≡ 0 → xs ≡ []
    empty [] e = refl
    empty (x ∷ xs) e = absurd (omega arith)

-- some are left
pub some_left : (k : SchedulingTask) (taken : List ℕ) → AreChosen k taken
    → length taken < length k.jobs → (j : ℕ) × IsJob k j × (stands_in taken j ≡ false)
some_left k taken chosen few =
    first (rest_of k taken) refl (omega (arith, left_length k taken chosen))
  where
    first : (xs : List ℕ) → rest_of k taken ≡ xs → 0 < length xs
        → (j : ℕ) × IsJob k j × (stands_in taken j ≡ false)
    first [] e some = absurd (omega arith)
    first (x ∷ xs) e some =
        let at : Contains (rest_of k taken) x =
        subst (λ ys. Contains ys x) (sym e) (0, omega arith, refl) in
        let job : IsJob k x = All-contains (IsJob k) (rest_of k taken) x (rest_jobs k taken) at in (
          x,
          job,
          not-true (stands_in taken x)
              (sym (in_rest k taken x job) ∙ stands_from (rest_of k taken) x at),
        )

-- an element that is counted
counted : {X : Type 0} (p : X → Bool) (xs : List X) → 0 < count_by p xs
    → (x : X) × Contains xs x × (p x ≡ true)
counted p [] some = absurd (omega arith)
counted p (x ∷ xs) some = by_test (cases_Bool (p x)) (counted p xs)
  where
    by_test : (p x ≡ true) ⊎ (p x ≡ false)
        → (0 < count_by p xs → (y : _) × Contains xs y × (p y ≡ true))
        → (y : _) × Contains (x ∷ xs) y × (p y ≡ true)
    by_test (inl e) later = (x, (0, omega arith, refl), e)
    by_test (inr e) later =
        let rest = later
        (omega (
          arith,
          some,
          sum_by-cons (λ y. cond (p y) 1 0) x xs,
          ap {B = ℕ} (λ b. cond b 1 0) e,
        )) in
        (rest.0, (suc rest.1.0, omega (arith, rest.1.1), rest.1.2), rest.2)

module _ (k : SchedulingTask) (sound : IsSound k) (taken counts free : List ℕ)
    (now : IsOpen k taken (λ _. 0) counts free) where
  left_counts : free ≡ [] → (j : ℕ) → IsJob k j → stands_in taken j ≡ false → 0 < of_job counts j
  left_counts none j job left =
      omega (
        arith,
        left_count k sound taken counts free now j job,
        none_free k sound taken counts free now none j job left,
      )

  -- where no job is free, each that is left has an arc to another
  pub stuck : free ≡ [] → (j : ℕ) → IsJob k j → 0 < of_job counts j
      → (x : ℕ) × Contains k.arcs (j, x) × (0 < of_job counts x)
  stuck none j job some =
      let p : ℕ × ℕ → Bool = λ arc. (arc.0 == j) && not (stands_in taken arc.1) in
      let found = counted p k.arcs
      (omega (arith, some, left_count k sound taken counts free now j job)) in
      let arc : ℕ × ℕ = found.0 in
      let parts = and_parts (arc.0 == j) (not (stands_in taken arc.1)) found.2 in
      let at : Contains k.arcs arc = found.1 in
      let known : IsJob k arc.1 =
      subst (λ (a : ℕ × ℕ). IsJob k a.1) at.2 (sound.arcs_in at.0 arc at.1).1 in
      let left : stands_in taken arc.1 ≡ false = not-true (stands_in taken arc.1) parts.1 in (
        arc.1,
        subst (λ i. Contains k.arcs (i, arc.1)) (eqb-true arc.0 j parts.0) at,
        left_counts none arc.1 known left,
      )

  pub stuck_some : free ≡ [] → AreChosen k taken → length taken < length k.jobs
      → (j : ℕ) × IsJob k j × (0 < of_job counts j)
  stuck_some none chosen few =
      let some = some_left k taken chosen few in
      (some.0, some.1, left_counts none some.0 some.1 some.2)

module _ (k : SchedulingTask) (sound : IsSound k) (taken counts free : List ℕ) (work : ℕ)
    (at : AreTaken k taken counts free work) where
  pub taken_within : work ≤ limit
  taken_within = omega (arith, at.left, work_within k taken at.chosen, sound.total)

  -- the cheapest free job is taken
  module _ (j : ℕ) (others : List ℕ) (moved : IsPermutation free (j ∷ others)) where
    here : Contains free j
    here = Contains-permutation (j ∷ others) free j
        (IsPermutation-sym free (j ∷ others) moved) (0, omega arith, refl)

    pub step_job : IsJob k j
    step_job = (free_says k sound taken counts free at.now j here).0

    left : stands_in taken j ≡ false
    left = (free_says k sound taken counts free at.now j here).1

    step_work : sum_by (time_of k) (rest_of k (taken ++ j ∷ [])) + time_of k j ≡ work
    step_work = work_less k taken j at.chosen step_job left ∙ sym at.left

    pub step_time : time_of k j ≤ work
    step_time = omega (arith, step_work)

    pub step_open : (pending : ℕ → ℕ)
        → ((i : ℕ) → pending i ≡ count_by (λ arc. (arc.1 == j) && (arc.0 == i)) k.arcs)
        → IsOpen k (taken ++ j ∷ []) pending counts others
    step_open = open_taken k sound taken counts free at.now j here others moved

    -- what it costs
    pub step_cost : price k j work ≡ price_behind k (rest_of k taken) j
    step_cost = ap (price k j) at.left

    pub step_taken : ((i : ℕ) → Contains free i → price k j work ≤ℤ price k i work)
        → ((i : ℕ) → Contains free i → price k i work ≡ price k j work → i ≤ j)
        → (fewer more : List ℕ) → IsOpen k (taken ++ j ∷ []) (λ _. 0) fewer more
        → AreTaken k (taken ++ j ∷ []) fewer more (work - time_of k j)
    step_taken cheapest ties fewer more now = record {
      chosen = chosen_more k taken j at.chosen step_job left
          (open_choice k sound taken counts free at.now j work here at.left cheapest ties);
      now = now;
      left = omega (arith, step_work);
    }
