-- The bound by ranks where jobs may be broken off and go on on another machine. The jobs are ranked by
-- their completions, the last first. In a row of m cells only jobs of the ranks up to the number of
-- jobs that are not complete stand, so their ranks over m, rounded up, come to at most that number.
use Rattle.std.proofs.Common.{◌≡◌, Bool, true, false, ℕ, zero, suc, ◌+◌, ◌-◌, ◌*◌, ◌/◌, ◌%◌, max, nat_lt, ◌≤◌, ◌<◌, List, [], ◌∷◌, length, get_or, ◌==◌, cond, refl, sym, ap, ◌∙◌, subst, ⊎_elim, arith, sum_by, All, pos, ◌≤ℤ◌, IsTrue, mul-le-mul_left, mul-le-mul_right, div-add-mod', mod-lt}
use Rattle.std.specs.Int.{div_ceil}
use Rattle.std.specs.List.{enumerate_from, AllPairs}
use Rattle.std.proofs.lemmas.Int.{ints}
use Rattle.std.proofs.lemmas.Grind.{div_ceil_times}
use Rattle.std.proofs.lemmas.Bool.{cases_lt, lt-ltb, ltb-true, ltb-false}
use Rattle.std.proofs.lemmas.List.Sums.{sum_by-cons}
use Rattle.std.proofs.lemmas.List.Elements.{All-weaker, All-cons, All-nil, All-head, All-tail}
use Rattle.tf_model.specs.declared.problem.Goal.TheVariants as goals
use Rattle.tf_model.specs.Distinct.{IsDistinct}
use Rattle.tf_model.specs.Timetable.{Timetable, cells_of, all_units, completion}
use Rattle.tf_model.specs.Feasible.{IsOnce}
use Rattle.tf_model.proofs.Sums.{sum_by_le_all, sum_by-plus}
use Rattle.tf_model.proofs.Units.{completion_cases, completion-le-length}
use Rattle.tf_model.proofs.Work.{cells-le-length}
use Rattle.tf_model.proofs.Loads.{div_ceil_least}
use Rattle.tf_model.proofs.RankSums.{ranked, Falling}
use Rattle.tf_posed.specs.ProblemData.{ProblemData, IsProblemSound, IsProblemJob, problem_jobs, problem_time}
use Rattle.tf_posed.specs.ProblemCost.{problem_cost, problem_cost_by, IsLowerBound}
use Rattle.tf_problem.specs.ProblemBounds.{is_alike}
use Rattle.tf_problem.proofs.Windows.{alike_no_shop}
use Rattle.tf_problem.specs.Ranks.{rank_value, IsFalling}
use Rattle.tf_problem.proofs.ProblemLists.{sum_by-le-jobs}

abbrev as_one : Bool → ℕ
as_one t = cond t 1 0

-- 1 where the number is not 0
abbrev some : ℕ → ℕ
some c = as_one (nat_lt 0 c)

some_is : (c : ℕ) → 0 < c → some c ≡ 1
some_is c h = ap as_one (lt-ltb 0 c h)

-- ---- lists that fall

-- what falls by c falls by what does not rise where c does not
falling-by : (c d : ℕ → ℕ) (s t : ℕ) (xs : List ℕ) → ((j : ℕ) → c j ≤ t → d j ≤ s)
    → ((i j : ℕ) → c j ≤ c i → d j ≤ d i) → Falling c t xs → Falling d s xs
falling-by c d s t [] first after falling = tt
falling-by c d s t (x ∷ xs) first after falling =
    (first x falling.0, falling-by c d (d x) (c x) xs (after x) after falling.1)

-- x put into a list that falls by c, before the first that is not greater
insert_by : (ℕ → ℕ) → ℕ → List ℕ → List ℕ
insert_by c x [] = x ∷ []
insert_by c x (y ∷ ys) = cond (nat_lt (c x) (c y)) (y ∷ insert_by c x ys) (x ∷ y ∷ ys)

sorted_by : (ℕ → ℕ) → List ℕ → List ℕ
sorted_by c [] = []
sorted_by c (x ∷ xs) = insert_by c x (sorted_by c xs)

insert-sum : (f c : ℕ → ℕ) (x : ℕ) (ys : List ℕ) → sum_by f (insert_by c x ys) ≡ f x + sum_by f ys
unfolding insert_by
insert-sum f c x [] = omega (arith, sum_by-cons f x [])
insert-sum f c x (y ∷ ys) = by (nat_lt (c x) (c y)) (insert-sum f c x ys)
  where
    by : (b : Bool) → sum_by f (insert_by c x ys) ≡ f x + sum_by f ys
        → sum_by f (cond b (y ∷ insert_by c x ys) (x ∷ y ∷ ys)) ≡ f x + sum_by f (y ∷ ys)
    by true e = omega (arith, e, sum_by-cons f y (insert_by c x ys), sum_by-cons f y ys)
    by false e = omega (arith, sum_by-cons f x (y ∷ ys))

sorted-sum : (f c : ℕ → ℕ) (xs : List ℕ) → sum_by f (sorted_by c xs) ≡ sum_by f xs
unfolding sorted_by
sorted-sum f c [] = refl
sorted-sum f c (x ∷ xs) =
    omega (arith, insert-sum f c x (sorted_by c xs), sorted-sum f c xs, sum_by-cons f x xs)

insert-all : (P : ℕ → Type 0) (c : ℕ → ℕ) (x : ℕ) (ys : List ℕ) → P x → All P ys
    → All P (insert_by c x ys)
unfolding insert_by
insert-all P c x [] here all = All-cons P x [] here all
insert-all P c x (y ∷ ys) here all =
    by (nat_lt (c x) (c y)) (insert-all P c x ys here (All-tail P y ys all))
  where
    by : (b : Bool) → All P (insert_by c x ys) → All P (cond b (y ∷ insert_by c x ys) (x ∷ y ∷ ys))
    by true rest = All-cons P y (insert_by c x ys) (All-head P y ys all) rest
    by false rest = All-cons P x (y ∷ ys) here all

sorted-all : (P : ℕ → Type 0) (c : ℕ → ℕ) (xs : List ℕ) → All P xs → All P (sorted_by c xs)
unfolding sorted_by
sorted-all P c [] all = all
sorted-all P c (x ∷ xs) all =
    insert-all P c x (sorted_by c xs) (All-head P x xs all) (sorted-all P c xs (All-tail P x xs all))

insert-falling : (c : ℕ → ℕ) (x t : ℕ) (ys : List ℕ) → c x ≤ t → Falling c t ys
    → Falling c t (insert_by c x ys)
unfolding insert_by
insert-falling c x t [] le falling = (le, tt)
insert-falling c x t (y ∷ ys) le falling =
    by (nat_lt (c x) (c y)) refl (λ below. insert-falling c x (c y) ys below falling.1)
  where
    by : (b : Bool) → nat_lt (c x) (c y) ≡ b → (c x ≤ c y → Falling c (c y) (insert_by c x ys))
        → Falling c t (cond b (y ∷ insert_by c x ys) (x ∷ y ∷ ys))
    by true e rest = (falling.0, rest (omega (arith, ltb-true (c x) (c y) e)))
    by false e rest = (le, (ltb-false (c x) (c y) e, falling.1))

sorted-falling : (c : ℕ → ℕ) (t : ℕ) (xs : List ℕ) → All (λ j. c j ≤ t) xs
    → Falling c t (sorted_by c xs)
unfolding sorted_by
sorted-falling c t [] all = tt
sorted-falling c t (x ∷ xs) all =
    insert-falling c x t (sorted_by c xs) (All-head (λ j. c j ≤ t) x xs all)
    (sorted-falling c t xs (All-tail (λ j. c j ≤ t) x xs all))

module _ (m : ℕ) (h : 1 ≤ m) where
  -- ---- ranks

  ranked-plus : (g e f : ℕ → ℕ) → ((j : ℕ) → g j ≡ e j + f j) → (i : ℕ) (xs : List ℕ)
      → ranked m g i xs ≡ ranked m e i xs + ranked m f i xs
  ranked-plus g e f is i [] = refl
  ranked-plus g e f is i (x ∷ xs) =
      omega (
        arith,
        ap (λ z. div_ceil (i + 1) m * z) (is x),
        ranked-plus g e f is (i + 1) xs,
      )

  ranked-zero : (e : ℕ → ℕ) (i : ℕ) (xs : List ℕ) → All (λ j. e j ≡ 0) xs → ranked m e i xs ≡ 0
  ranked-zero e i [] all = refl
  ranked-zero e i (x ∷ xs) all =
      omega (
        arith,
        ap (λ z. div_ceil (i + 1) m * z) (All-head (λ j. e j ≡ 0) x xs all),
        ranked-zero e (i + 1) xs (All-tail (λ j. e j ≡ 0) x xs all),
      )

  ranked-le : (e f : ℕ → ℕ) (i : ℕ) (xs : List ℕ) → All (λ j. e j ≤ f j) xs
      → ranked m e i xs ≤ ranked m f i xs
  ranked-le e f i [] all = omega arith
  ranked-le e f i (x ∷ xs) all =
      omega (
        arith,
        mul-le-mul_left (div_ceil (i + 1) m) (All-head (λ j. e j ≤ f j) x xs all),
        ranked-le e f (i + 1) xs (All-tail (λ j. e j ≤ f j) x xs all),
      )

  next-rank : (n : ℕ) → div_ceil n m ≤ div_ceil (n + 1) m
  next-rank n =
      div_ceil_least n m (div_ceil (n + 1) m) h (omega (arith, div_ceil_times (n + 1) m h))

  swap : (a b x y : ℕ) → a ≤ b → y ≤ x → a * x + b * y ≤ a * y + b * x
  swap a b x y le less =
      let d : ℕ = b - a in
      let is : b ≡ a + d = omega arith in
      let more : d * y ≤ d * x = mul-le-mul_left d less in
      omega (arith, more, ap (λ z. z * y) is, ap (λ z. z * x) is)

  -- a job before shorter ones counts at most as often as anywhere among them
  ranked-insert : (p c : ℕ → ℕ) (i x : ℕ) (ys : List ℕ) → All (λ y. p y ≤ p x) ys
      → ranked m p i (x ∷ ys) ≤ ranked m p i (insert_by c x ys)
  unfolding insert_by
  ranked-insert p c i x [] all = omega arith
  ranked-insert p c i x (y ∷ ys) all =
      by (nat_lt (c x) (c y)) (ranked-insert p c (i + 1) x ys (All-tail (λ y. p y ≤ p x) y ys all))
    where
      by : (b : Bool) → ranked m p (i + 1) (x ∷ ys) ≤ ranked m p (i + 1) (insert_by c x ys)
          → ranked m p i (x ∷ y ∷ ys) ≤ ranked m p i (cond b (y ∷ insert_by c x ys) (x ∷ y ∷ ys))
      by true rest =
          omega (
            arith,
            rest,
            swap (div_ceil (i + 1) m) (div_ceil (i + 1 + 1) m) (p x) (p y) (next-rank (i + 1))
                (All-head (λ y. p y ≤ p x) y ys all),
          )
      by false rest = omega arith

  -- of all orders the one that falls by p gives the least
  ranked-sorted : (p c : ℕ → ℕ) (i : ℕ) (xs : List ℕ) → AllPairs (λ a b. p b ≤ p a) xs
      → ranked m p i xs ≤ ranked m p i (sorted_by c xs)
  unfolding sorted_by
  ranked-sorted p c i [] falling = omega arith
  ranked-sorted p c i (x ∷ xs) falling =
      let shorter : All (λ y. p y ≤ p x) xs =
      λ n d lt. falling 0 (suc n) d (omega arith) (omega (arith, lt)) in
      omega (
        arith,
        ranked-sorted p c (i + 1) xs
            (λ a b d lt in'. falling (suc a) (suc b) d (omega (arith, lt)) (omega (arith, in'))),
        ranked-insert p c i x (sorted_by c xs) (sorted-all (λ y. p y ≤ p x) c xs shorter),
      )

  -- ---- a row

  -- what is done of jobs of which n are not complete, when q m ≤ n ≤ (q + 1) m
  row-ranks : (c e : ℕ → ℕ) (q n i t : ℕ) (xs : List ℕ) → Falling c t xs
      → All (λ j. (e j ≤ 1) × (c j ≡ 0 → e j ≡ 0)) xs → i + sum_by (λ j. some (c j)) xs ≡ n
      → n ≤ (q + 1) * m → ranked m e i xs ≤ q * sum_by e xs + (n - max i (q * m))
  row-ranks c e q n i t [] falling small is le = omega arith
  row-ranks c e q n i t (x ∷ xs) falling small is le =
      ⊎_elim
      (λ has.
      let its = All-head (λ j. (e j ≤ 1) × (c j ≡ 0 → e j ≡ 0)) x xs small in
      let rest : ranked m e (i + 1) xs ≤ q * sum_by e xs + (n - max (i + 1) (q * m)) =
      row-ranks c e q n (i + 1) (c x) xs falling.1
      (All-tail (λ j. (e j ≤ 1) × (c j ≡ 0 → e j ≡ 0)) x xs small)
      (omega (arith, is, sum_by-cons (λ j. some (c j)) x xs, some_is (c x) has)) le in
      let all : q * sum_by e (x ∷ xs) ≡ q * e x + q * sum_by e xs =
      ap (λ z. q * z) (sum_by-cons e x xs) ∙ omega arith in
      let within : i + 1 ≤ n =
      omega (arith, is, sum_by-cons (λ j. some (c j)) x xs, some_is (c x) has) in
      ⊎_elim
      (λ low.
      let d : div_ceil (i + 1) m ≤ q = div_ceil_least (i + 1) m q h (omega (arith, low)) in
      let one : div_ceil (i + 1) m * e x ≤ q * e x = mul-le-mul_right (e x) d in
      omega (arith, rest, all, one, low))
      (λ high.
      let d : div_ceil (i + 1) m ≤ q + 1 =
      div_ceil_least (i + 1) m (q + 1) h (omega (arith, le, within)) in
      let one : div_ceil (i + 1) m * e x ≤ (q + 1) * e x = mul-le-mul_right (e x) d in
      omega (arith, rest, all, one, high, within, its.0))
      (cases_lt i (q * m)))
      (λ none.
      omega (
        arith,
        ranked-zero e i (x ∷ xs) (nothing 0 (x ∷ xs) (omega arith) small (none, falling.1)),
      ))
      (cases_lt 0 (c x))
    where
      nothing : (s : ℕ) (ys : List ℕ) → s ≤ 0 → All (λ j. (e j ≤ 1) × (c j ≡ 0 → e j ≡ 0)) ys
          → Falling c s ys → All (λ j. e j ≡ 0) ys
      nothing s [] le small falling = All-nil (λ j. e j ≡ 0)
      nothing s (y ∷ ys) le small falling =
          All-cons (λ j. e j ≡ 0) y ys
          ((All-head (λ j. (e j ≤ 1) × (c j ≡ 0 → e j ≡ 0)) y ys small).1 (omega (arith, falling.0)))
          (nothing (c y) ys (omega (arith, falling.0))
          (All-tail (λ j. (e j ≤ 1) × (c j ≡ 0 → e j ≡ 0)) y ys small) falling.1)

  -- at most m are done: they count at most as often as there are jobs that are not complete
  row-le : (c e : ℕ → ℕ) (t : ℕ) (xs : List ℕ) → Falling c t xs
      → All (λ j. (e j ≤ 1) × (c j ≡ 0 → e j ≡ 0)) xs → sum_by e xs ≤ m
      → ranked m e 0 xs ≤ sum_by (λ j. some (c j)) xs
  row-le c e t xs falling small few =
      let n : ℕ = sum_by (λ j. some (c j)) xs in
      let q : ℕ = n / m in
      let is : n ≡ q * m + n % m = sym (div-add-mod' n m) in
      let rest : n % m < m = mod-lt n h in
      let full : q * sum_by e xs ≤ q * m = mul-le-mul_left q few in
      omega (
        arith,
        full,
        is,
        row-ranks c e q n 0 t xs falling small (omega arith) (omega (arith, is, rest)),
      )

  -- ---- a timetable

  -- jobs that fall by completion
  ranked-le-completions : (rows : Timetable) → All (λ row. length row ≤ m) rows → (t : ℕ) (xs : List ℕ)
      → IsDistinct xs → All (IsOnce rows) xs → Falling (completion rows) t xs
      → ranked m (all_units rows) 0 xs ≤ sum_by (completion rows) xs
  ranked-le-completions [] width t xs distinct once falling =
      omega (arith, ranked-zero (all_units []) 0 xs (λ i d lt. refl))
  ranked-le-completions (row ∷ rows) width t xs distinct once falling =
      let now : ℕ → ℕ = completion (row ∷ rows) in
      let later : ℕ → ℕ = completion rows in
      let less : (j : ℕ) → later j + some (now j) ≡ now j =
      λ j. ⊎_elim (λ none. omega (arith, none.1, none.2, ap some none.2))
      (λ has. omega (arith, has.1, some_is (now j) (omega (arith, has.1)))) (completion_cases j row rows) in
      let cells : All (λ j. (cells_of j row ≤ 1) × (now j ≡ 0 → cells_of j row ≡ 0)) xs =
      All-weaker (IsOnce (row ∷ rows)) (λ j. (cells_of j row ≤ 1) × (now j ≡ 0 → cells_of j row ≡ 0))
      (λ j is. (
        All-head (λ r. cells_of j r ≤ 1) row rows is,
        λ zero. ⊎_elim (λ none. none.0) (λ has. absurd (omega (arith, has.1, zero)))
            (completion_cases j row rows),
      )) xs once in
      let room : sum_by (λ j. cells_of j row) xs ≤ m =
      omega (
        arith,
        cells-le-length xs distinct row,
        All-head (λ r. length r ≤ m) row rows width,
      ) in
      let here : ranked m (λ j. cells_of j row) 0 xs ≤ sum_by (λ j. some (now j)) xs =
      row-le now (λ j. cells_of j row) t xs falling cells room in
      let rest : ranked m (all_units rows) 0 xs ≤ sum_by later xs =
      ranked-le-completions rows (All-tail (λ r. length r ≤ m) row rows width) t xs distinct
      (All-weaker (IsOnce (row ∷ rows)) (IsOnce rows)
      (λ j is. All-tail (λ r. cells_of j r ≤ 1) row rows is) xs once)
      (falling-by now later t t xs (λ j le. omega (arith, le, less j))
      (λ i j le. mono (later i) (later j) (now i) (now j) (less i) (less j) le) falling) in
      omega (
        arith,
        here,
        rest,
        ranked-plus (all_units (row ∷ rows)) (λ j. cells_of j row) (all_units rows)
            (λ j. sum_by-cons (cells_of j) row rows) 0 xs,
        sum_by-plus later (λ j. some (now j)) xs,
        sum_by_le_all (λ j. later j + some (now j)) now xs
            (λ i d lt. omega (arith, less (get_or xs i d))),
      )
    where
      mono : (a b x y : ℕ) → a + some x ≡ x → b + some y ≡ y → y ≤ x → b ≤ a
      mono a b zero zero p q le = omega (arith, p, q)
      mono a b zero (suc y) p q le = absurd (omega arith)
      mono a b (suc x) zero p q le = omega (arith, q)
      mono a b (suc x) (suc y) p q le =
          omega (arith, p, q, le, some_is (suc x) (omega arith), some_is (suc y) (omega arith))

  -- jobs that fall by the time that each has at least
  pub times-le-completions : (rows : Timetable) → All (λ row. length row ≤ m) rows → (p : ℕ → ℕ)
      → (xs : List ℕ) → IsDistinct xs → All (IsOnce rows) xs → All (λ j. p j ≤ all_units rows j) xs
      → AllPairs (λ a b. p b ≤ p a) xs → ranked m p 0 xs ≤ sum_by (completion rows) xs
  times-le-completions rows width p xs distinct once has falling =
      let c : ℕ → ℕ = completion rows in
      let by : List ℕ = sorted_by c xs in
      let apart : IsDistinct by = λ x. omega (arith, distinct x, sorted-sum (λ j. cond (x == j) 1 0) c xs) in
      omega (
        arith,
        ranked-sorted p c 0 xs falling,
        ranked-le p (all_units rows) 0 by (sorted-all (λ j. p j ≤ all_units rows j) c xs has),
        ranked-le-completions rows width (length rows) by apart (sorted-all (IsOnce rows) c xs once)
            (sorted-falling c (length rows) xs (λ i d lt. completion-le-length (get_or xs i d) rows)),
        sorted-sum c c xs,
      )

-- ---- the task of a problem

-- the value, behind i ranks that went before
pub rank_value_from : (k : ProblemData) (i : ℕ) (jobs : List ℕ)
    → sum_by (λ ranked. div_ceil ranked.0 k.machines * problem_time k ranked.1)
    (enumerate_from (i + 1) jobs) ≡ ranked k.machines (problem_time k) i jobs
rank_value_from k i [] = refl
rank_value_from k i (j ∷ jobs) =
    omega (
      arith,
      sum_by-cons (λ r. div_ceil r.0 k.machines * problem_time k r.1) (i + 1, j)
          (enumerate_from (i + 1 + 1) jobs),
      rank_value_from k (i + 1) jobs,
    )

pub rank-bound : (k : ProblemData) → IsProblemSound k → IsTrue (is_alike k.problem.env)
    → k.problem.goal ≡ goals.SumC → (jobs : List ℕ) → IsDistinct jobs → All (IsProblemJob k) jobs
    → IsFalling k jobs → IsLowerBound k (pos (rank_value k jobs))
rank-bound k sound alike goal jobs distinct known falling rows fits =
    let c : ℕ → ℕ = completion rows in
    let cost : problem_cost k rows ≡ pos (sum_by c (problem_jobs k)) =
    ap (λ g. problem_cost_by g k rows) goal in
    let le : ranked k.machines (problem_time k) 0 jobs ≤ sum_by c jobs =
    times-le-completions k.machines sound.some_machine rows
    (All-weaker (λ row. length row ≡ k.machines) (λ row. length row ≤ k.machines)
    (λ row w. omega (arith, w)) rows fits.width)
    (problem_time k) jobs distinct
    (All-weaker (IsProblemJob k) (IsOnce rows) (λ j h. fits.single_place j h.0 h.1) jobs known)
    (All-weaker (IsProblemJob k) (λ j. problem_time k j ≤ all_units rows j)
    (λ j h. omega (arith, (fits.amount j h.0 h.1).in_all (alike_no_shop k alike))) jobs known)
    falling in
    subst (λ z. pos (rank_value k jobs) ≤ℤ z) (sym cost)
    (omega (
      arith,
      ints,
      le,
      rank_value_from k 0 jobs,
      sum_by-le-jobs k c jobs distinct known,
    ))
