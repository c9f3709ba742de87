-- The jobs that are left when some are taken.
use Rattle.std.proofs.Common.{◌≡◌, ℕ, zero, suc, ◌+◌, ◌≤◌, Bool, true, false, not, ◌&&◌, ◌||◌, ◌==◌, cond, List, [], ◌∷◌, ◌++◌, length, get_or, filter, take, refl, sym, ap, ◌∙◌, arith, ⊎_elim, ◌⊎◌, inl, inr, sum_by, count_by, All, Contains}
use Rattle.std.proofs.lemmas.Bool.{false≢true, eqb-true, eq-eqb, cases_Bool, or_cases, or_left, or_right}
use Rattle.std.proofs.lemmas.Bool.Decides.{nat_tests}
use Rattle.std.proofs.lemmas.List.Elements.{All-head, All-tail, All-filter}
use Rattle.std.proofs.lemmas.List.Sums.{sum_by-cons, sum_by_push, sum_by-take-le, get_or-le-sum_by}
use Rattle.std.proofs.lemmas.List.Filters.{sum_by-filter_both}
use Rattle.std.proofs.lemmas.Map.Views.{any-filter_same}
use Rattle.tf_model.specs.SchedulingTask.{SchedulingTask, IsJob, all_jobs}
use Rattle.tf_model.specs.Bounds.{stands_in}
use Rattle.tf_model.proofs.Costs.{All-all_jobs}
use Rattle.tf_model.proofs.Loads.{IsDistinct-all_jobs}
use Rattle.tf_model.proofs.SplitBound.{Contains-all_jobs}
use Rattle.tf_model.proofs.Sums.{sum_by-plus, sum_by-same}
use Rattle.tf_model.proofs.Work.{IsDistinct}
use Rattle.tf_schedule.proofs.Counting.{sum_single_in}
use Rattle.tf_single.specs.Backward.{rest_of}
use Rattle.tf_single.proofs.Stretch.{IsDistinct-filter}

-- ---- standing in a list

pub stands_from : (xs : List ℕ) (c : ℕ) → Contains xs c → stands_in xs c ≡ true
stands_from [] c at = absurd (omega (arith, at.1))
stands_from (x ∷ xs) c (zero, lt, at) = or_left (x == c) (stands_in xs c) (eq-eqb x c at)
stands_from (x ∷ xs) c (suc i, lt, at) =
    or_right (x == c) (stands_in xs c) (stands_from xs c (i, omega (arith, lt), at))

pub stands_says : (xs : List ℕ) (c : ℕ) → stands_in xs c ≡ true → Contains xs c
stands_says [] c e = absurd (false≢true e)
stands_says (x ∷ xs) c e =
    ⊎_elim
    (λ here. (0, omega arith, eqb-true x c here))
    (λ later. let rest = stands_says xs c later in (suc rest.0, omega (arith, rest.1), rest.2))
    (or_cases (x == c) (stands_in xs c) e)

stands_filter : (p : ℕ → Bool) (b : Bool) (x : ℕ) → p x ≡ b → (xs : List ℕ)
    → stands_in (filter p xs) x ≡ (b && stands_in xs x)
stands_filter p b x is xs = any-filter_same (λ i. i == x) p b (λ i e. ap p (eqb-true i x e) ∙ is) xs

module _ (k : SchedulingTask) (taken : List ℕ) where
  -- a job is left exactly if it was not taken
  pub in_rest : (x : ℕ) → IsJob k x → stands_in (rest_of k taken) x ≡ not (stands_in taken x)
  in_rest x job =
      stands_filter (λ j. not (stands_in taken j)) (not (stands_in taken x)) x refl (all_jobs k)
      ∙ ap (λ b. not (stands_in taken x) && b)
      (stands_from (all_jobs k) x (Contains-all_jobs k x job))
      ∙ and_true (not (stands_in taken x))
    where
      and_true : (a : Bool) → (a && true) ≡ a
      and_true true = refl
      and_true false = refl

  pub rest_jobs : All (IsJob k) (rest_of k taken)
  rest_jobs = All-filter (λ j. not (stands_in taken j)) (IsJob k) (all_jobs k)
      (All-all_jobs k (IsJob k) (λ j h. h))

  pub rest_distinct : IsDistinct (rest_of k taken)
  rest_distinct =
      IsDistinct-filter (λ j. not (stands_in taken j)) (all_jobs k) (IsDistinct-all_jobs k)

-- ---- sums over those that were taken and those that are left

pub sum_filter : (p : ℕ → Bool) (f : ℕ → ℕ) (xs : List ℕ)
    → sum_by f (filter p xs) ≡ sum_by (λ x. cond (p x) (f x) 0) xs
sum_filter p f [] = refl
sum_filter p f (x ∷ xs) = by_test (p x) refl (sum_filter p f xs)
  where
    by_test : (b : Bool) → p x ≡ b → sum_by f (filter p xs) ≡ sum_by (λ y. cond (p y) (f y) 0) xs
        → sum_by f (cond b (x ∷ filter p xs) (filter p xs))
        ≡ sum_by (λ y. cond (p y) (f y) 0) (x ∷ xs)
    by_test true e rest =
        omega (
          arith,
          sum_by-cons f x (filter p xs),
          sum_by-cons (λ y. cond (p y) (f y) 0) x xs,
          rest,
          ap {B = ℕ} (λ b. cond b (f x) 0) e,
        )
    by_test false e rest =
        omega (
          arith,
          sum_by-cons (λ y. cond (p y) (f y) 0) x xs,
          rest,
          ap {B = ℕ} (λ b. cond b (f x) 0) e,
        )

-- a sum over the jobs of which all but one count 0
pub sum_own : (k : SchedulingTask) (f : ℕ → ℕ) (j : ℕ) → IsJob k j
    → sum_by (λ i. cond (j == i) (f i) 0) (all_jobs k) ≡ f j
sum_own k f j job =
    sum_by-same (λ i. cond (j == i) (f i) 0) (λ i. cond (j == i) (f j) 0) (all_jobs k)
    (λ i. by_test i (cases_Bool (j == i)))
    ∙ sum_single_in j (f j) (length k.jobs) job.0 job.1
  where
    by_test : (i : ℕ) → ((j == i) ≡ true) ⊎ ((j == i) ≡ false)
        → cond (j == i) (f i) 0 ≡ cond (j == i) (f j) 0
    by_test i (inl e) = ap (λ n. cond (j == i) (f n) 0) (sym (eqb-true j i e))
    by_test i (inr e) = ap (λ b. cond b (f i) 0) e ∙ sym (ap (λ b. cond b (f j) 0) e)

pub distinct_tail : (x : ℕ) (xs : List ℕ) → IsDistinct (x ∷ xs) → IsDistinct xs
distinct_tail x xs distinct c = omega (arith, distinct c, sum_by-cons (λ i. cond (c == i) 1 0) x xs)

-- the first of different jobs is not among the others
pub distinct_head : (x : ℕ) (xs : List ℕ) → IsDistinct (x ∷ xs) → stands_in xs x ≡ false
distinct_head x xs distinct = by_test (cases_Bool (stands_in xs x))
  where
    own : ◌≡◌ {A = ℕ} (cond (x == x) 1 0) 1
    own = ap (λ b. cond b 1 0) (eq-eqb x x refl)

    by_test : (stands_in xs x ≡ true) ⊎ (stands_in xs x ≡ false) → stands_in xs x ≡ false
    by_test (inr e) = e
    by_test (inl e) =
        let at = stands_says xs x e in
        let one : ◌≡◌ {A = ℕ} (cond (x == get_or xs at.0 x) 1 0) 1 =
        ap (λ b. cond b 1 0) (eq-eqb x (get_or xs at.0 x) (sym at.2)) in
        absurd (omega (
          arith,
          distinct x,
          sum_by-cons (λ i. cond (x == i) 1 0) x xs,
          own,
          one,
          get_or-le-sum_by (λ i. cond (x == i) 1 0) xs at.0 x at.1,
        ))

sum_taken : (k : SchedulingTask) (f : ℕ → ℕ) (taken : List ℕ) → All (IsJob k) taken
    → IsDistinct taken
    → sum_by (λ i. cond (stands_in taken i) (f i) 0) (all_jobs k) ≡ sum_by f taken
sum_taken k f [] jobs distinct = none (all_jobs k)
  where
    none : (xs : List ℕ) → sum_by (λ i. 0) xs ≡ 0
    none [] = refl
    none (x ∷ xs) = omega (arith, sum_by-cons (λ i. 0) x xs, none xs)
sum_taken k f (j ∷ taken) jobs distinct =
    let g : ℕ → ℕ = λ i. cond (j == i) (f i) 0 in
    let h : ℕ → ℕ = λ i. cond (stands_in taken i) (f i) 0 in
    let split : sum_by (λ i. cond (stands_in (j ∷ taken) i) (f i) 0) (all_jobs k)
    ≡ sum_by (λ i. g i + h i) (all_jobs k) =
    sum_by-same (λ i. cond (stands_in (j ∷ taken) i) (f i) 0) (λ i. g i + h i) (all_jobs k)
    (λ i. by_test i (cases_Bool (j == i))) in
    omega (
      arith,
      split,
      sum_by-plus g h (all_jobs k),
      sum_own k f j (All-head (IsJob k) j taken jobs),
      sum_taken k f taken (All-tail (IsJob k) j taken jobs) (distinct_tail j taken distinct),
      sum_by-cons f j taken,
    )
  where
    by_test : (i : ℕ) → ((j == i) ≡ true) ⊎ ((j == i) ≡ false)
        → cond ((j == i) || stands_in taken i) (f i) 0 ≡ cond (j == i) (f i) 0
        + cond (stands_in taken i) (f i) 0
    by_test i (inl e) =
        let apart : stands_in taken i ≡ false = ap (stands_in taken) (sym (eqb-true j i e))
        ∙ distinct_head j taken distinct in
        let left : ◌≡◌ {A = ℕ} (cond ((j == i) || stands_in taken i) (f i) 0) (f i) =
        ap (λ b. cond (b || stands_in taken i) (f i) 0) e in
        omega (
          arith,
          left,
          ap {B = ℕ} (λ b. cond b (f i) 0) e,
          ap {B = ℕ} (λ b. cond b (f i) 0) apart,
        )
    by_test i (inr e) =
        let left : ◌≡◌ {A = ℕ} (cond ((j == i) || stands_in taken i) (f i) 0)
        (cond (stands_in taken i) (f i) 0) =
        ap (λ b. cond (b || stands_in taken i) (f i) 0) e in
        omega (arith, left, ap {B = ℕ} (λ b. cond b (f i) 0) e)

-- what is taken and what is left are all
pub rest_sum : (k : SchedulingTask) (f : ℕ → ℕ) (taken : List ℕ) → All (IsJob k) taken
    → IsDistinct taken
    → sum_by f (rest_of k taken) + sum_by f taken ≡ sum_by f (all_jobs k)
rest_sum k f taken jobs distinct =
    let both = sum_by-filter_both (λ j. not (stands_in taken j)) (stands_in taken)
    (λ j. sym (not_not (stands_in taken j))) f (all_jobs k) in
    omega (
      arith,
      both,
      sum_filter (stands_in taken) f (all_jobs k),
      sum_taken k f taken jobs distinct,
    )
  where
    not_not : (b : Bool) → not (not b) ≡ b
    not_not true = refl
    not_not false = refl

-- the first of different jobs are different
pub distinct_take : (i : ℕ) (xs : List ℕ) → IsDistinct xs → IsDistinct (take i xs)
distinct_take i xs distinct c =
    omega (arith, distinct c, sum_by-take-le (λ j. cond (c == j) 1 0) xs i)

-- ---- members of a filter

pub in_filter : (p : ℕ → Bool) (xs : List ℕ) (x : ℕ) → Contains xs x → p x ≡ true
    → Contains (filter p xs) x
in_filter p xs x at passes =
    stands_says (filter p xs) x (stands_filter p true x passes xs ∙ stands_from xs x at)

pub from_filter : (p : ℕ → Bool) (xs : List ℕ) (x : ℕ) → Contains (filter p xs) x
    → Contains xs x × (p x ≡ true)
from_filter p xs x at = by_test (p x) refl (stands_from (filter p xs) x at)
  where
    by_test : (b : Bool) → p x ≡ b → stands_in (filter p xs) x ≡ true → Contains xs x × (p x ≡ true)
    by_test true e there = (stands_says xs x (sym (stands_filter p true x e xs) ∙ there), e)
    by_test false e there = absurd (false≢true (sym (stands_filter p false x e xs) ∙ there))

-- ---- one job more

pub stands_push : (xs : List ℕ) (j c : ℕ)
    → stands_in (xs ++ j ∷ []) c ≡ (stands_in xs c || (j == c))
stands_push [] j c = or_false (j == c)
  where
    or_false : (b : Bool) → (b || false) ≡ b
    or_false true = refl
    or_false false = refl
stands_push (x ∷ xs) j c = ap (λ t. (x == c) || t) (stands_push xs j c)
    ∙ or_assoc (x == c) (stands_in xs c) (j == c)
  where
    or_assoc : (a b d : Bool) → (a || (b || d)) ≡ ((a || b) || d)
    or_assoc true b d = refl
    or_assoc false b d = refl

-- a job that is counted is there
pub counted_there : (xs : List ℕ) (j : ℕ) → 1 ≤ count_by (λ i. i == j) xs → Contains xs j
counted_there [] j some = absurd (omega arith)
counted_there (x ∷ xs) j some = by_test (cases_Bool (x == j)) (counted_there xs j)
  where
    by_test : ((x == j) ≡ true) ⊎ ((x == j) ≡ false)
        → (1 ≤ count_by (λ i. i == j) xs → Contains xs j) → Contains (x ∷ xs) j
    by_test (inl e) later = (0, omega arith, eqb-true x j e)
    by_test (inr e) later =
        let rest = later
        (omega (
          arith,
          some,
          sum_by-cons (λ i. cond (i == j) 1 0) x xs,
          ap {B = ℕ} (λ b. cond b 1 0) e,
        )) in
        (suc rest.0, omega (arith, rest.1), rest.2)

pub there_counted : (xs : List ℕ) (j : ℕ) → Contains xs j → 1 ≤ count_by (λ i. i == j) xs
there_counted xs j at =
    let one : ◌≡◌ {A = ℕ} (cond (get_or xs at.0 j == j) 1 0) 1 =
    ap (λ b. cond b 1 0) (eq-eqb (get_or xs at.0 j) j at.2) in
    omega (arith, one, get_or-le-sum_by (λ i. cond (i == j) 1 0) xs at.0 j at.1)

none_counted : (ys : List ℕ) (c : ℕ) → stands_in ys c ≡ false → count_by (λ i. c == i) ys ≡ 0
none_counted [] c e = refl
none_counted (y ∷ ys) c e = at_head (cases_Bool (y == c)) (none_counted ys c)
  where
    at_head : ((y == c) ≡ true) ⊎ ((y == c) ≡ false)
        → (stands_in ys c ≡ false → count_by (λ i. c == i) ys ≡ 0)
        → count_by (λ i. c == i) (y ∷ ys) ≡ 0
    at_head (inl h) later = absurd (false≢true (sym e ∙ or_left (y == c) (stands_in ys c) h))
    at_head (inr h) later =
        let apart : (c == y) ≡ false = grind (arith, nat_tests) in
        omega (
          arith,
          sum_by-cons (λ i. cond (c == i) 1 0) y ys,
          ap {B = ℕ} (λ b. cond b 1 0) apart,
          later (sym (ap (λ b. b || stands_in ys c) h) ∙ e),
        )

-- a job that is not there, behind different ones
pub distinct_push : (xs : List ℕ) (j : ℕ) → IsDistinct xs → stands_in xs j ≡ false
    → IsDistinct (xs ++ j ∷ [])
distinct_push xs j distinct fresh c = by_test (cases_Bool (c == j))
  where
    by_test : ((c == j) ≡ true) ⊎ ((c == j) ≡ false) → count_by (λ i. c == i) (xs ++ j ∷ []) ≤ 1
    by_test (inr e) =
        omega (
          arith,
          sum_by_push (λ i. cond (c == i) 1 0) xs j,
          distinct c,
          ap {B = ℕ} (λ b. cond b 1 0) e,
        )
    by_test (inl e) =
        omega (
          arith,
          sum_by_push (λ i. cond (c == i) 1 0) xs j,
          ap {B = ℕ} (λ b. cond b 1 0) e,
          none_counted xs c (ap (stands_in xs) (eqb-true c j e) ∙ fresh),
        )
