-- The split at a place of Johnson's order keeps its conditions, and what it bounds.
use Rattle.std.proofs.Common.{◌≡◌, ℕ, zero, suc, ◌+◌, ◌<◌, ◌≤◌, ◌≢◌, ◌⊎◌, pos, Bool, true, false, not, cond, ◌||◌, ltb, leb, eqb, Ok, List, [], ◌∷◌, length, get_or, take, drop, refl, sym, ap, subst, ◌∙◌, arith, inl, inr, ⊎_elim}
use Rattle.std.specs.List.{All, AllPairs, sum_by}
use Rattle.std.specs.List.Sorted.{IsPermutation}
use Rattle.std.proofs.lemmas.List.{get_or_default}
use Rattle.std.proofs.lemmas.List.Elements.{All-take}
use Rattle.std.proofs.lemmas.List.Sums.{sum_by-cons, sum_by-take-le}
use Rattle.std.proofs.lemmas.List.Sorted.{sum_by-IsPermutation, All-permutation, Contains-permutation, list_any-IsPermutation}
use Rattle.std.proofs.lemmas.Bool.{cases_lt, and_from, le-leb}
use Rattle.std.proofs.lemmas.Bool.Decides.{nat_tests}
use Rattle.tf_model.specs.SchedulingTask.{SchedulingTask, all_jobs, IsJob, time_on}
use Rattle.tf_model.specs.Bounds.{split_value, stands_in}
use Rattle.tf_model.proofs.Work.{IsDistinct}
use Rattle.tf_model.proofs.SplitBound.{Contains-all_jobs}
use Rattle.tf_model.proofs.Costs.{All-all_jobs}
use Rattle.tf_check.specs.Bound.{keeps_side, split_bound}
use Rattle.tf_check.specs.Kinds.{takes_split}
use Rattle.tf_check.proofs.Given.{split_given}
use Rattle.tf_multi.specs.Johnson.{MayPrecede}
use Rattle.tf_multi.specs.TwoMachines.{time_at}
use Rattle.tf_multi.proofs.Numbers.{apart_in_order, distinct_in_order}

-- ---- the side is the front of the order

stands_place : (xs : List ℕ) (s n d : ℕ) → AllPairs (λ i j. i ≢ j) xs → n < length xs
    → stands_in (take s xs) (get_or xs n d) ≡ ltb n s
stands_place [] s n d apart h = absurd (omega arith)
stands_place (x ∷ xs) zero n d apart h = grind (arith, nat_tests)
stands_place (x ∷ xs) (suc s) zero d apart h = here (eqb x x) (grind (arith, nat_tests))
  where
    here : (t : Bool) → t ≡ true → (t || stands_in (take s xs) x) ≡ ltb 0 (suc s)
    here true e = grind (arith, nat_tests)
    here false e = absurd (cc)
stands_place (x ∷ xs) (suc s) (suc n) d apart h =
    let other : x ≢ get_or xs n d = apart zero (suc n) d (omega arith) (omega arith) in
    later (eqb x (get_or xs n d)) (stands_in (take s xs) (get_or xs n d)) (grind (arith, nat_tests))
    (stands_place xs s n d
    (λ i j e lt within. apart (suc i) (suc j) e (omega arith) (omega arith)) (omega arith))
  where
    later : (t r : Bool) → t ≡ false → r ≡ ltb n s → (t || r) ≡ ltb (suc n) (suc s)
    later true r e f = absurd (cc)
    later false r e f = f ∙ grind (arith, nat_tests)

pub sum_cut : (t : ℕ → Bool) (a b : ℕ → ℕ) (xs : List ℕ) (s : ℕ)
    → ((n d : ℕ) → n < length xs → t (get_or xs n d) ≡ ltb n s)
    → sum_by (λ j. cond (t j) (a j) (b j)) xs ≡ sum_by a (take s xs) + sum_by b (drop s xs)
sum_cut t a b [] zero cut = refl
sum_cut t a b [] (suc s) cut = refl
sum_cut t a b (x ∷ xs) zero cut =
    let out : t x ≡ false = cut zero x (omega arith) ∙ grind (arith, nat_tests) in
    let here : cond (t x) (a x) (b x) ≡ b x = ap (λ c. cond c (a x) (b x)) out in
    omega (
      arith,
      sum_by-cons (λ j. cond (t j) (a j) (b j)) x xs,
      sum_by-cons b x xs,
      here,
      sum_cut t a b xs zero (λ n d h. cut (suc n) d (omega arith) ∙ grind (arith, nat_tests)),
    )
sum_cut t a b (x ∷ xs) (suc s) cut =
    let side : t x ≡ true = cut zero x (omega arith) ∙ grind (arith, nat_tests) in
    let here : cond (t x) (a x) (b x) ≡ a x = ap (λ c. cond c (a x) (b x)) side in
    omega (
      arith,
      sum_by-cons (λ j. cond (t j) (a j) (b j)) x xs,
      sum_by-cons a x (take s xs),
      here,
      sum_cut t a b xs s (λ n d h. cut (suc n) d (omega arith) ∙ grind (arith, nat_tests)),
    )

side_step : (t : Bool) (u v : Bool) → (t ≡ true → u ≡ true) → (t ≡ false → v ≡ true)
    → cond t u v ≡ true
side_step true u v at_side at_other = at_side refl
side_step false u v at_side at_other = at_other refl

not_below : (n : ℕ) → ltb n n ≡ false
not_below n = grind (arith, nat_tests)

below_next : (n : ℕ) → ltb n (n + 1) ≡ true
below_next n = grind (arith, nat_tests)

either : (u v : Bool) → (u ≡ true) ⊎ (v ≡ true) → (u || v) ≡ true
either true v h = refl
either false v h = ⊎_elim (λ e. absurd (cc)) (λ e. e) h

module _ (k : SchedulingTask) (order side : List ℕ) (class : takes_split k.class ≡ true)
    (all_there : IsPermutation (all_jobs k) order)
    (in_order : AllPairs (MayPrecede (time_at k)) order) (s : ℕ)
    (is_side : IsPermutation (take s order) side) where
  stands : (n d : ℕ) → n < length order → stands_in side (get_or order n d) ≡ ltb n s
  stands n d h = sym
      (list_any-IsPermutation (λ i. eqb i (get_or order n d)) (take s order) side is_side)
      ∙ stands_place order s n d (apart_in_order k order all_there) h

  jobs_there : All (IsJob k) order
  jobs_there = All-permutation (IsJob k) (all_jobs k) order all_there
      (All-all_jobs k (IsJob k) (λ j is. is))

  side_there : All (IsJob k) side
  side_there = All-permutation (IsJob k) (take s order) side is_side
      (All-take (IsJob k) s order jobs_there)

  side_distinct : IsDistinct side
  side_distinct c = omega (
    arith,
    sum_by-IsPermutation (λ j. cond (eqb c j) 1 0) (take s order) side is_side,
    sum_by-take-le (λ j. cond (eqb c j) 1 0) order s,
    distinct_in_order k order all_there c,
  )

  pub value_is : (d : ℕ) → split_value k side d
      ≡ sum_by (λ j. time_on k j 0) (take s order) + sum_by (λ j. time_on k j 1) (drop s order) + d
  value_is d = omega (
    arith,
    sum_by-IsPermutation (λ j. cond (stands_in side j) (time_on k j 0) (time_on k j 1)) (all_jobs k)
        order all_there,
    sum_cut (stands_in side) (λ j. time_on k j 0) (λ j. time_on k j 1) order s stands,
  )

  -- a test of jobs holds of each if it holds at each place of the order
  at_places : (test : ℕ → Bool) → ((n d : ℕ) → n < length order → test (get_or order n d) ≡ true)
      → (j : ℕ) → IsJob k j → test j ≡ true
  at_places test all j is =
      let at = Contains-permutation (all_jobs k) order j all_there (Contains-all_jobs k j is) in
      ap test (sym at.2) ∙ all at.0 j at.1

  on_side : (n d : ℕ) → n < length order → stands_in side (get_or order n d) ≡ true → n < s
  on_side n d h e = let t : ltb n s ≡ true = sym (stands n d h) ∙ e in grind (arith, nat_tests)

  off_side : (n d : ℕ) → n < length order → stands_in side (get_or order n d) ≡ false → s ≤ n
  off_side n d h e = let t : ltb n s ≡ false = sym (stands n d h) ∙ e in grind (arith, nat_tests)

  -- the job after the side takes no longer on machine 1 than on machine 2
  pub split_first : (x : ℕ) → s < length order → x ≡ get_or order s x
      → time_on k x 0 ≤ time_on k x 1
      → split_bound k side (pos (time_on k x 0)) true
      ≡ Ok (pos (sum_by (λ j. time_on k j 0) (take s order) + sum_by (λ j. time_on k j 1)
      (drop s order) + time_on k x 0))
  split_first x h is short =
      split_given k side (time_on k x 0) true class side_there side_distinct
      (at_places (keeps_side k side (pos (time_on k x 0)) true) (λ n d lt.
      let j = get_or order n d in
      side_step (stands_in side j) (leb (time_on k j 0) (time_on k j 1))
      (leb (time_on k x 0) (time_on k j 0) || leb (time_on k j 1) (time_on k j 0))
      (λ e. let before : n < s = on_side n d lt e in
      let same : get_or order s d ≡ x = get_or_default order s d x h ∙ sym is in
      let pair = in_order n s d before h in
      le-leb (time_on k j 0) (time_on k j 1)
      (pair.rising (subst (λ y. time_on k y 0 ≤ time_on k y 1) (sym same) short)).0)
      (λ e. let after : s ≤ n = off_side n d lt e in
      let same : get_or order s d ≡ x = get_or_default order s d x h ∙ sym is in
      either (leb (time_on k x 0) (time_on k j 0)) (leb (time_on k j 1) (time_on k j 0))
      (⊎_elim
      (λ later. ⊎_elim
      (λ less. inr (le-leb (time_on k j 1) (time_on k j 0) (omega arith)))
      (λ le. let pair = in_order s n d later lt in
      inl (le-leb (time_on k x 0) (time_on k j 0)
      (subst (λ y. time_on k y 0 ≤ time_on k j 0) same (pair.rising le).1)))
      (cases_lt (time_on k j 1) (time_on k j 0)))
      (λ le. let here : s ≡ n = omega arith in
      inl (le-leb (time_on k x 0) (time_on k j 0)
      (subst (λ y. time_on k x 0 ≤ time_on k y 0) (sym same ∙ ap (λ m. get_or order m d) here)
      (omega arith))))
      (cases_lt s n)))))
      x (subst (IsJob k) (sym is) (jobs_there s x h))
      (and_from (not (stands_in side x)) (leb (time_on k x 0) (time_on k x 0))
      (ap not (ap (stands_in side) is ∙ stands s x h ∙ not_below s))
      (le-leb (time_on k x 0) (time_on k x 0) (omega arith)))
      ∙ ap (λ v. Ok (pos v)) (value_is (time_on k x 0))

  -- the last job of the side takes longer on machine 1 than on machine 2
  pub split_second : (last x : ℕ) → s ≡ last + 1 → last < length order → x ≡ get_or order last x
      → time_on k x 1 < time_on k x 0
      → split_bound k side (pos (time_on k x 1)) false
      ≡ Ok (pos (sum_by (λ j. time_on k j 0) (take s order) + sum_by (λ j. time_on k j 1)
      (drop s order) + time_on k x 1))
  split_second last x next h is long =
      split_given k side (time_on k x 1) false class side_there side_distinct
      (at_places (keeps_side k side (pos (time_on k x 1)) false) (λ n d lt.
      let j = get_or order n d in
      let same : get_or order last d ≡ x = get_or_default order last d x h ∙ sym is in
      side_step (stands_in side j)
      (leb (time_on k x 1) (time_on k j 1) || leb (time_on k j 0) (time_on k j 1))
      (leb (time_on k j 1) (time_on k j 0))
      (λ e. let before : n < s = on_side n d lt e in
      either (leb (time_on k x 1) (time_on k j 1)) (leb (time_on k j 0) (time_on k j 1))
      (⊎_elim
      (λ earlier. ⊎_elim
      (λ less. let pair = in_order n last d earlier h in
      inl (le-leb (time_on k x 1) (time_on k j 1)
      (subst (λ y. time_on k y 1 ≤ time_on k j 1) same (pair.falling less).1)))
      (λ le. inr (le-leb (time_on k j 0) (time_on k j 1) le))
      (cases_lt (time_on k j 1) (time_on k j 0)))
      (λ le. let here : last ≡ n = omega arith in
      inl (le-leb (time_on k x 1) (time_on k j 1)
      (subst (λ y. time_on k x 1 ≤ time_on k y 1) (sym same ∙ ap (λ m. get_or order m d) here)
      (omega arith))))
      (cases_lt n last)))
      (λ e. let after : s ≤ n = off_side n d lt e in
      let pair = in_order last n d (omega arith) lt in
      let less : time_on k j 1 < time_on k j 0 =
      (pair.falling (subst (λ y. time_on k y 1 < time_on k y 0) (sym same) long)).0 in
      le-leb (time_on k j 1) (time_on k j 0) (omega arith))))
      x (subst (IsJob k) (sym is) (jobs_there last x h))
      (and_from (stands_in side x) (leb (time_on k x 1) (time_on k x 1))
      (ap (stands_in side) is ∙ stands last x h ∙ ap (λ n. ltb last n) next ∙ below_next last)
      (le-leb (time_on k x 1) (time_on k x 1) (omega arith)))
      ∙ ap (λ v. Ok (pos v)) (value_is (time_on k x 1))
