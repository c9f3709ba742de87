-- The set of the dearest step bounds the cost by what the step costs.
use Rattle.std.proofs.Common.{◌≡◌, ℕ, ◌<◌, ◌≤◌, ℤ, ◌≤ℤ◌, ◌<ℤ◌, not, ◌&&◌, List, [], ◌∷◌, ◌++◌, length, slice_index, get_or, ◌⊎◌, inl, inr, ⊎_elim, map, take, reverse, Option, None, Some, Ok, refl, sym, ap, ◌∙◌, subst, arith, sum_by, All, Contains, IsTrue, IsFalse}
use Rattle.std.specs.Option.{IfSome}
use Rattle.std.proofs.lemmas.Bool.{and_parts, not-true, false≢true, cases_lt}
use Rattle.std.proofs.lemmas.Int.{ints, fold-int_min_bounds, fold-int_min_reached}
use Rattle.std.proofs.lemmas.List.Elements.{Contains-get_or}
use Rattle.std.proofs.lemmas.List.{get_or-map, length-map, length-append, take-append-le, get_or_append_left}
use Rattle.std.proofs.Math.Seq.{take-append_seam, get_or-append_seam}
use Rattle.std.proofs.lemmas.List.Sorted.{All-permutation, IsPermutation-refl, IsPermutation-reverse, sum_by-IsPermutation}
use Rattle.tf_model.specs.ClassTable.{is_single, is_released, is_sum}
use Rattle.tf_model.specs.Outcome.{unless}
use Rattle.tf_model.specs.Limit.{limit}
use Rattle.tf_model.specs.SchedulingTask.{SchedulingTask, IsJob, all_jobs, time_of}
use Rattle.tf_model.specs.Sound.{IsSound}
use Rattle.tf_model.specs.declared.class.Class.{Class}
use Rattle.tf_schedule.specs.Schedule.{IsSchedule}
use Rattle.tf_schedule.specs.SemiActive.{laid}
use Rattle.tf_check.specs.Accepted.{IsAccepted}
use Rattle.tf_check.specs.Bound.{bound_by, other_kind, list_fault, empty_fault, no_free_fault, free_jobs, is_free, least}
use Rattle.tf_check.specs.Claim.{ByLastOf}
use Rattle.tf_check.specs.Kinds.{takes_last_of}
use Rattle.tf_check.proofs.LaidAccepted.{laid_accepted}
use Rattle.tf_single.specs.Backward.{rest_of, price_behind, step_price, IsLastChoice, IsDearest, AreChosen}
use Rattle.tf_single.specs.declared.backward.Step.{Step}
use Rattle.tf_single.proofs.BackwardTimetable.{RunsBefore, backward, listed, order_sum, chosen_schedule, chosen_fits, chosen_cost}
use Rattle.tf_single.proofs.Rest.{rest_jobs, rest_distinct, in_filter, from_filter}
use Rattle.tf_single.proofs.Window.{list_fault_none}

-- a class that takes the last job of a set has one machine, no release dates, and no sum for its
-- objective
pub record OfLastOf (c : Class) : Type 0 where
  pub single : IsTrue (is_single c)
  pub unreleased : IsFalse (is_released c)
  pub no_sum : IsFalse (is_sum c)

pub last_of_facts : (c : Class) → IsTrue (takes_last_of c) → OfLastOf c
last_of_facts c e =
    let facts = and_parts (not (is_sum c)) (is_single c && not (is_released c)) e in
    let machine = and_parts (is_single c) (not (is_released c)) facts.1 in
    record {
      single = machine.0;
      unreleased = not-true (is_released c) machine.1;
      no_sum =
          not-true (is_sum c) facts.0;
    }

-- ---- the least of a list

both_ways : (a b : ℤ) → a ≤ℤ b → b ≤ℤ a → a ≡ b
both_ways a b le ge = omega (arith, ints)

-- what no member is below is the least, where a member has it
least_is : (f : ℕ → ℤ) (xs : List ℕ) (j : ℕ) → Contains xs j
    → ((i : ℕ) → Contains xs i → f j ≤ℤ f i) → least f xs ≡ f j
least_is f [] j at below = absurd (omega (arith, at.1))
least_is f (x ∷ xs) j at below =
    let r : ℤ = least f (x ∷ xs) in
    let reached = fold-int_min_reached (f x) (map f (x ∷ xs)) r refl in
    let all = (fold-int_min_bounds (f x) (map f (x ∷ xs)) r refl).1 in
    let low : r ≤ℤ f j =
    subst (λ z. r ≤ℤ z) (get_or-map f (x ∷ xs) at.0 j (f j) at.1 ∙ ap f at.2)
    (all at.0 (f j) (omega (arith, at.1, length-map (x ∷ xs) f))) in
    let high : f j ≤ℤ r = ⊎_elim
    (λ first. subst (λ z. f j ≤ℤ z) (sym first) (below x (0, omega arith, refl)))
    (λ member.
    let i : ℕ = member.0 in
    let lt : i < length (x ∷ xs) = omega (arith, member.1, length-map (x ∷ xs) f) in
    subst (λ z. f j ≤ℤ z) (sym (get_or-map f (x ∷ xs) i j r lt) ∙ member.2)
    (below (get_or (x ∷ xs) i j) (Contains-get_or (x ∷ xs) i j lt)))
    reached in
    both_ways r (f j) low high

module _ (k : SchedulingTask) (jobs : List ℕ) (j : ℕ) (class : IsTrue (takes_last_of k.class))
    (choice : IsLastChoice k jobs j) where
  here : Contains (free_jobs k jobs) j
  here = in_filter (is_free k jobs) jobs j choice.here choice.free

  some : (xs : List ℕ) → Contains xs j → empty_fault xs ≡ None
  some [] at = absurd (omega (arith, at.1))
  some (x ∷ xs) at = refl

  some_free : (xs : List ℕ) → Contains xs j → no_free_fault xs jobs ≡ None
  some_free [] at = absurd (omega (arith, at.1))
  some_free (x ∷ xs) at = refl

  -- the bound by the set is what the choice for last costs
  pub last_of_reaches : list_fault k [] jobs ≡ None
      → bound_by (ByLastOf jobs) k ≡ Ok (price_behind k jobs j)
  last_of_reaches fresh =
      let h = price_behind k jobs in
      let value : least h (free_jobs k jobs) ≡ h j =
      least_is h (free_jobs k jobs) j here
      (λ i at. choice.cheapest i (from_filter (is_free k jobs) jobs i at).0
      (from_filter (is_free k jobs) jobs i at).1) in
      ap (λ t. unless (other_kind t)
      (unless (list_fault k [] jobs)
      (unless (empty_fault jobs)
      (unless (no_free_fault (free_jobs k jobs) jobs) (Ok (least h (free_jobs k jobs)))))))
      class
      ∙ ap (λ o. unless o
      (unless (empty_fault jobs)
      (unless (no_free_fault (free_jobs k jobs) jobs) (Ok (least h (free_jobs k jobs)))))) fresh
      ∙ ap (λ o. unless o
      (unless (no_free_fault (free_jobs k jobs) jobs) (Ok (least h (free_jobs k jobs)))))
      (some jobs choice.here)
      ∙ ap (λ o. unless o (Ok (least h (free_jobs k jobs)))) (some_free (free_jobs k jobs) here)
      ∙ ap Ok value

-- the answer with the pieces of an order that was chosen, and the set of the dearest step
pub chosen_accepted : (k : SchedulingTask) (order : List ℕ) (step : Step) → IsSound k
    → IsTrue (takes_last_of k.class) → AreChosen k order → rest_of k order ≡ []
    → IsDearest k order step
    → IsAccepted k
    (record {
      pieces = laid (backward k order);
      value = step.value;
      certificate = ByLastOf (rest_of k (take step.place order));
    })
chosen_accepted k order step sound class chosen all dearest =
    let facts = last_of_facts k.class class in
    let i : ℕ = step.place in
    let jobs : List ℕ = rest_of k (take i order) in
    let fresh : list_fault k [] jobs ≡ None =
    list_fault_none k [] jobs (rest_jobs k (take i order)) (rest_distinct k (take i order))
    (λ c e. absurd (false≢true e)) in
    let bounded : bound_by (ByLastOf jobs) k ≡ Ok step.value =
    last_of_reaches k jobs (slice_index order i) class (chosen.choice i dearest.within) fresh
    ∙ ap Ok (sym dearest.value) in
    laid_accepted (RunsBefore k) k (backward k order) sound
    (listed k order chosen sound facts.single facts.unreleased all)
    (laid (backward k order)) (IsPermutation-refl (laid (backward k order)))
    (chosen_fits k order chosen sound facts.single facts.unreleased all) step.value (ByLastOf jobs)
    bounded
    (chosen_cost k order chosen sound facts.single facts.unreleased all step.value facts.no_sum
    dearest.dearest)

-- ---- the dearest step of those so far

-- the step is the dearest so far, or none was made
abbrev pub HasDearest : SchedulingTask → List ℕ → Option Step → Type 0
HasDearest k taken None = length taken ≤ 0
HasDearest k taken (Some step) = IsDearest k taken step

pub dearest_found : (k : SchedulingTask) (taken : List ℕ) (found : Option Step) (step : Step)
    → HasDearest k taken found → found ≡ Some step → IsDearest k taken step
dearest_found k taken found step has is = subst (HasDearest k taken) is has

module _ (k : SchedulingTask) (taken : List ℕ) (j : ℕ) where
  old_price : (n : ℕ) → n < length taken → step_price k (taken ++ j ∷ []) n ≡ step_price k taken n
  old_price n lt =
      ap (λ xs. price_behind k (rest_of k xs) (slice_index (taken ++ j ∷ []) n))
      (take-append-le n taken (j ∷ []) (omega (arith, lt)))
      ∙ ap (price_behind k (rest_of k (take n taken))) (get_or_append_left taken (j ∷ []) 0 n lt)

  new_price : step_price k (taken ++ j ∷ []) (length taken) ≡ price_behind k (rest_of k taken) j
  new_price =
      ap (λ xs. price_behind k (rest_of k xs) (slice_index (taken ++ j ∷ []) (length taken)))
      (take-append_seam taken (j ∷ []))
      ∙ ap (price_behind k (rest_of k taken)) (get_or-append_seam taken j [] 0)

  module _ (step : Step) (here : step.place ≡ length taken)
      (is : step.value ≡ price_behind k (rest_of k taken) j) where
    step_value : step.value ≡ step_price k (taken ++ j ∷ []) step.place
    step_value = is ∙ sym new_price ∙ ap (step_price k (taken ++ j ∷ [])) (sym here)

    most : (v : ℤ) → ((n : ℕ) → n < length taken → step_price k taken n ≤ℤ v) → step.value ≤ℤ v
        → (n : ℕ) → n < length (taken ++ j ∷ []) → step_price k (taken ++ j ∷ []) n ≤ℤ v
    most v before own n lt = ⊎_elim
        (λ old. subst (λ z. z ≤ℤ v) (sym (old_price n old)) (before n old))
        (λ last.
        let same : step.place ≡ n =
        omega (arith, here, lt, last, length-append taken (j ∷ [])) in
        subst (λ z. z ≤ℤ v) (step_value ∙ ap (step_price k (taken ++ j ∷ [])) same) own)
        (cases_lt n (length taken))

    old_less : (v : ℤ) (n : ℕ) → n < length taken → step_price k taken n <ℤ v
        → step_price k (taken ++ j ∷ []) n <ℤ v
    old_less v n lt less = subst (λ z. z <ℤ v) (sym (old_price n lt)) less

    new_dearest : ((n : ℕ) → n < length taken → step_price k taken n <ℤ step.value)
        → IsDearest k (taken ++ j ∷ []) step
    new_dearest before = record {
      within = omega (arith, here, length-append taken (j ∷ []));
      value = step_value;
      dearest = most step.value (λ n lt. omega (arith, ints, before n lt)) (omega (arith, ints));
      first = λ n lt.
          let old : n < length taken = omega (arith, lt, here) in
          old_less step.value n old (before n old);
    }

    old_dearest : (old : Step) → IsDearest k taken old → step.value ≤ℤ old.value
        → IsDearest k (taken ++ j ∷ []) old
    old_dearest old its le = record {
      within = omega (arith, its.within, length-append taken (j ∷ []));
      value = its.value ∙ sym (old_price old.place its.within);
      dearest = most old.value its.dearest le;
      first = λ n lt. old_less old.value n (omega (arith, lt, its.within)) (its.first n lt);
    }

    -- the dearer of the dearest step so far and the next
    pub dearest_more : (before : Option Step) (result : Step) → HasDearest k taken before
        → (((result ≡ step) × IfSome before (λ other. other.value <ℤ step.value))
        ⊎ ((before ≡ Some result) × (step.value ≤ℤ result.value)))
        → IsDearest k (taken ++ j ∷ []) result
    dearest_more None result none (inl new) =
        subst (IsDearest k (taken ++ j ∷ [])) (sym new.0)
        (new_dearest (λ n lt. absurd (omega (arith, none, lt))))
    dearest_more (Some old) result its (inl new) =
        subst (IsDearest k (taken ++ j ∷ [])) (sym new.0)
        (new_dearest (λ n lt. omega (arith, ints, its.dearest n lt, new.1)))
    dearest_more before result its (inr same) =
        old_dearest result (subst (HasDearest k taken) same.0 its) same.1

-- ---- what is asked of an order of all jobs
module _ (k : SchedulingTask) (order : List ℕ) (sound : IsSound k)
    (class : IsTrue (takes_last_of k.class)) (chosen : AreChosen k order)
    (all : rest_of k order ≡ []) where
  facts : OfLastOf k.class
  facts = last_of_facts k.class class

  whole_work : sum_by (time_of k) order ≡ sum_by (time_of k) (all_jobs k)
  whole_work = order_sum k order chosen sound facts.single facts.unreleased all (time_of k)

  whole_within : sum_by (time_of k) order ≤ limit
  whole_within = omega (arith, whole_work, sound.total)

  pub whole_known : All (IsJob k) (reverse order)
  whole_known = All-permutation (IsJob k) order (reverse order) (IsPermutation-reverse order)
      chosen.jobs

  pub whole_reversed : sum_by (time_of k) (reverse order) ≤ limit
  whole_reversed = omega (
    arith,
    sum_by-IsPermutation (time_of k) order (reverse order) (IsPermutation-reverse order),
    whole_within,
  )

  pub whole_schedule : IsSchedule (laid (backward k order))
  whole_schedule = chosen_schedule k order chosen sound facts.single facts.unreleased all
