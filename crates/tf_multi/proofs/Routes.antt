-- Operations of jobs that visit two machines one after another, between the two operations of
-- another job.
use Rattle.std.proofs.Common.{◌≡◌, ◌≢◌, ℕ, suc, ◌+◌, Bool, true, false, cond, List, [], ◌∷◌, ◌++◌, filter, refl, sym, ap, ◌∙◌, arith, append_assoc}
use Rattle.std.specs.List.{All, AllPairs, sum_by, range_with_len}
use Rattle.std.proofs.lemmas.List.{append-nil}
use Rattle.std.proofs.lemmas.List.Elements.{All-cons, All-nil, All-tail, All-head, All-push, filter-append}
use Rattle.std.proofs.lemmas.List.Kept.{AllPairs-cons}
use Rattle.std.proofs.lemmas.List.Quantifiers.{all_pairs_push}
use Rattle.std.proofs.lemmas.List.Sums.{sum_by-cons, sum_by_push}
use Rattle.tf_schedule.specs.declared.semi_active.Operation.{Operation}
use Rattle.tf_multi.specs.TwoMachines.{operation_of, routed}
use Rattle.tf_multi.specs.OpenShop.{enclosed}
use Rattle.tf_schedule.proofs.Laying.{Keeps}
use Rattle.tf_model.proofs.Ranges.{range_push}
use Rattle.tf_schedule.proofs.Parts.{AllPairs-head, AllPairs-tail}

-- the two are not of one job on one machine
abbrev pub OnceEach : ℕ → ℕ → ℕ → ℕ → Type 0
OnceEach j i k h = j ≡ k → i ≢ h

abbrev Differ : Operation → Operation → Type 0
Differ o u = OnceEach o.job o.machine u.job u.machine

module _ (f : ℕ → ℕ → ℕ) (x y : ℕ) where
  -- what holds of both operations of a job
  abbrev pub OfBoth : (Operation → Type 0) → ℕ → Type 0
  OfBoth P j = P (operation_of f j x) × P (operation_of f j y)

  pub routed-append : (is js : List ℕ)
      → routed f x y (is ++ js) ≡ routed f x y is ++ routed f x y js
  routed-append [] js = refl
  routed-append (j ∷ is) js = ap (λ os. operation_of f j x ∷ operation_of f j y ∷ os)
      (routed-append is js)

  pub All-routed : (P : Operation → Type 0) (js : List ℕ) → All (OfBoth P) js
      → All P (routed f x y js)
  All-routed P [] all = All-nil P
  All-routed P (j ∷ js) all =
      let here = All-head (OfBoth P) j js all in
      All-cons P (operation_of f j x) (operation_of f j y ∷ routed f x y js) here.0
      (All-cons P (operation_of f j y) (routed f x y js) here.1
      (All-routed P js (All-tail (OfBoth P) j js all)))

  pub All-enclosed : (P : Operation → Type 0) (r : ℕ) (js : List ℕ) → All (OfBoth P) (r ∷ js)
      → All P (enclosed f x y r js)
  All-enclosed P r js all =
      let here = All-head (OfBoth P) r js all in
      All-cons P (operation_of f r y) (routed f x y js ++ operation_of f r x ∷ []) here.1
      (All-push P (routed f x y js) (operation_of f r x)
      (All-routed P js (All-tail (OfBoth P) r js all)) here.0)

  differ_routed : x ≢ y → (js : List ℕ) → AllPairs (λ i j. i ≢ j) js
      → AllPairs Differ (routed f x y js)
  differ_routed two [] apart = λ i j d lt within. absurd (omega arith)
  differ_routed two (j ∷ js) apart =
      let other = AllPairs-head (λ a b. a ≢ b) j js apart in
      AllPairs-cons Differ (operation_of f j x) (operation_of f j y ∷ routed f x y js)
      (All-cons (Differ (operation_of f j x)) (operation_of f j y) (routed f x y js) (λ e. two)
      (All-routed (Differ (operation_of f j x)) js
      (λ n d h. (λ e. absurd (other n d h e), λ e. absurd (other n d h e)))))
      (AllPairs-cons Differ (operation_of f j y) (routed f x y js)
      (All-routed (Differ (operation_of f j y)) js
      (λ n d h. (λ e. absurd (other n d h e), λ e. absurd (other n d h e))))
      (differ_routed two js (AllPairs-tail (λ a b. a ≢ b) j js apart)))

  -- no two operations are of one job on one machine
  pub differ_enclosed : x ≢ y → (r : ℕ) (js : List ℕ) → AllPairs (λ i j. i ≢ j) (r ∷ js)
      → AllPairs (Keeps OnceEach) (enclosed f x y r js)
  differ_enclosed two r js apart =
      let other = AllPairs-head (λ a b. a ≢ b) r js apart in
      AllPairs-cons Differ (operation_of f r y) (routed f x y js ++ operation_of f r x ∷ [])
      (All-push (Differ (operation_of f r y)) (routed f x y js) (operation_of f r x)
      (All-routed (Differ (operation_of f r y)) js
      (λ n d h. (λ e. absurd (other n d h e), λ e. absurd (other n d h e))))
      (λ e same. two (sym same)))
      (all_pairs_push Differ (routed f x y js) (operation_of f r x)
      (differ_routed two js (AllPairs-tail (λ a b. a ≢ b) r js apart))
      (All-routed (λ o. Differ o (operation_of f r x)) js
      (λ n d h. (λ e. absurd (other n d h (sym e)), λ e. absurd (other n d h (sym e))))))

  pub sum_routed : (g : Operation → ℕ) (js : List ℕ)
      → sum_by g (routed f x y js) ≡ sum_by (λ j. g (operation_of f j x) + g (operation_of f j y))
      js
  sum_routed g [] = refl
  sum_routed g (j ∷ js) = omega (
    arith,
    sum_by-cons g (operation_of f j x) (operation_of f j y ∷ routed f x y js),
    sum_by-cons g (operation_of f j y) (routed f x y js),
    sum_routed g js,
    sum_by-cons (λ i. g (operation_of f i x) + g (operation_of f i y)) j js,
  )

  -- a sum over the operations is one over the jobs
  pub sum_enclosed : (g : Operation → ℕ) (r : ℕ) (js : List ℕ)
      → sum_by g (enclosed f x y r js)
      ≡ sum_by (λ j. g (operation_of f j x) + g (operation_of f j y)) (r ∷ js)
  sum_enclosed g r js = omega (
    arith,
    sum_by-cons g (operation_of f r y) (routed f x y js ++ operation_of f r x ∷ []),
    sum_by_push g (routed f x y js) (operation_of f r x),
    sum_routed g js,
    sum_by-cons (λ i. g (operation_of f i x) + g (operation_of f i y)) r js,
  )

-- ---- the jobs of a group as they are pushed

module _ (p : ℕ → Bool) (before now : List ℕ) (k job : ℕ)
    (so_far : now ≡ before ++ filter p (range_with_len 1 k)) (is : job ≡ k + 1) where
  more : (b : Bool) → p job ≡ b
      → filter p (range_with_len 1 (k + 1)) ≡ filter p (range_with_len 1 k) ++ cond b (job ∷ []) []
  more b e =
      let next : k + 1 ≡ suc k = omega arith in
      let last : 1 + k ≡ job = omega arith in
      ap (λ n. filter p (range_with_len 1 n)) next
      ∙ ap (filter p) (range_push 1 k ∙ ap (λ m. range_with_len 1 k ++ m ∷ []) last)
      ∙ filter-append p (range_with_len 1 k) (job ∷ [])
      ∙ ap (λ (c : Bool). filter p (range_with_len 1 k) ++ cond c (job ∷ []) []) e

  -- one that is in it
  pub group_more : p job ≡ true
      → now ++ job ∷ [] ≡ before ++ filter p (range_with_len 1 (k + 1))
  group_more e =
      ap (λ js. js ++ job ∷ []) so_far ∙ append_assoc before (filter p (range_with_len 1 k)) (job ∷ [])
      ∙ ap (λ js. before ++ js) (sym (more true e))

  -- and one that is not
  pub group_same : p job ≡ false → now ≡ before ++ filter p (range_with_len 1 (k + 1))
  group_same e =
      so_far
      ∙ ap (λ js. before ++ js)
      (sym (more false e ∙ append-nil (filter p (range_with_len 1 k))))
