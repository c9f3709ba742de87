-- The bound by two machines of a permutation flow shop.
use Rattle.std.proofs.Common.{◌≡◌, Bool, true, false, not, ◌&&◌, ℕ, zero, suc, ◌+◌, ◌-◌, ◌≤◌, ◌<◌, ◌⊎◌, inl, inr, nat_lt, nat_le, List, [], ◌∷◌, ◌++◌, ◌==◌, length, slice_index, slice_index_or, take, drop, cond, refl, sym, ap, ◌∙◌, subst, ⊎_elim, arith, sum_by, All, Contains, ℤ, pos, ◌+ℤ◌, ◌-ℤ◌, ◌≤ℤ◌, IsTrue, length-take, length-drop}
use Rattle.std.specs.List.{AllPairs, range_with_len}
use Rattle.std.specs.List.Sorted.{IsPermutation}
use Rattle.std.proofs.lemmas.Int.{ints}
use Rattle.std.proofs.lemmas.Bool.{cases_eq, cases_lt, ne_eqb, and_parts, or_cases, or_right, leb-true, ltb-true, false≢true}
use Rattle.std.proofs.lemmas.List.Sums.{sum_by-cons, sum_by-append}
use Rattle.std.proofs.lemmas.List.Sorted.{sum_by-IsPermutation, All-permutation, Contains-permutation}
use Rattle.std.proofs.lemmas.List.Elements.{All-cons, All-nil, All-head, All-tail, All-contains}
use Rattle.std.proofs.lemmas.List.FromFn.{length-range_with_len, get_or-range_with_len}
use Rattle.tf_model.specs.Timetable.{Timetable, cell, units, completion}
use Rattle.tf_model.specs.ClassTable.{is_single_env, is_shop_env, is_flow_env}
use Rattle.tf_model.proofs.Sums.{sum_by_le_all}
use Rattle.tf_model.proofs.Work.{IsDistinct, work-le-rows}
use Rattle.tf_model.proofs.Split.{take_cell}
use Rattle.tf_check.specs.Bound.{least_number, least}
use Rattle.tf_posed.specs.ProblemData.{ProblemData, IsProblemSound, IsProblemJob, problem_jobs, problem_time_on, problem_due}
use Rattle.tf_posed.specs.FitsProblem.{FitsProblem, GoesFirst}
use Rattle.tf_posed.specs.ProblemCost.{problem_cost, IsLowerBound}
use Rattle.tf_problem.specs.ProblemBounds.{head, tail, is_by_machine, is_max_goal}
use Rattle.tf_problem.specs.Split.{lag, reaches, reaches_delta, counts_less, keeps_side, counted, split_value, IsSplit}
use Rattle.tf_problem.proofs.ProblemLists.{units_before, units_from, unit_at, last_by}
use Rattle.tf_problem.proofs.RouteLists.{AllPairs-first, AllPairs-rest, range-apart}
use Rattle.tf_posed.proofs.Conditions.{All-problem_jobs}
use Rattle.tf_problem.proofs.Least.{Contains-problem_jobs, least_number-le-job, least-le, late-le-cost}
use Rattle.tf_problem.proofs.Prices.{IsDistinct-problem_jobs}
use Rattle.tf_problem.proofs.Routes.{flow_shop, units-on, over-le-rows}
use Rattle.tf_problem.proofs.FlowRoutes.{on-flow, head-before-row, tail-behind-row, heads-and-tails}

abbrev as_one : Bool → ℕ
as_one t = cond t 1 0

-- ---- the first and the last cell of a job on a machine

first_cell : (rows : Timetable) (j i : ℕ) → 1 ≤ units rows j i
    → (t : ℕ) × (cell rows t i ≡ j) × ((s : ℕ) → cell rows s i ≡ j → t ≤ s)
first_cell [] j i some = absurd (omega arith)
first_cell (row ∷ rows) j i some =
    ⊎_elim (λ same. (0, same, λ s e. omega arith))
    (λ differ.
    let later = first_cell rows j i
    (omega (
      arith,
      some,
      sum_by-cons (λ r. cond (slice_index r i == j) 1 0) row rows,
      ap as_one (ne_eqb (slice_index row i) j differ),
    )) in
    (suc later.0, later.1, from later.0 differ later.2))
    (cases_eq (slice_index row i) j)
  where
    from : (t : ℕ) → (slice_index row i ≡ j → ⊥) → ((s : ℕ) → cell rows s i ≡ j → t ≤ s)
        → (s : ℕ) → cell (row ∷ rows) s i ≡ j → suc t ≤ s
    from t differ low zero e = absurd (differ e)
    from t differ low (suc s) e = omega (arith, low s e)

last_cell : (rows : Timetable) (j i : ℕ) → 1 ≤ j → 1 ≤ units rows j i
    → (t : ℕ) × (cell rows t i ≡ j) × ((s : ℕ) → cell rows s i ≡ j → s ≤ t)
last_cell [] j i job some = absurd (omega arith)
last_cell (row ∷ rows) j i job some =
    ⊎_elim
    (λ more.
    let later = last_cell rows j i job more in
    (suc later.0, later.1, to later.0 later.2))
    (λ none. (0, here none (cases_eq (slice_index row i) j), only none))
    (cases_lt 0 (units rows j i))
  where
    to : (t : ℕ) → ((s : ℕ) → cell rows s i ≡ j → s ≤ t)
        → (s : ℕ) → cell (row ∷ rows) s i ≡ j → s ≤ suc t
    to t high zero e = omega arith
    to t high (suc s) e = omega (arith, high s e)

    here : units rows j i ≤ 0 → (slice_index row i ≡ j) ⊎ (slice_index row i ≡ j → ⊥)
        → slice_index row i ≡ j
    here none (inl same) = same
    here none (inr differ) =
        absurd
        (omega (
          arith,
          some,
          none,
          sum_by-cons (λ r. cond (slice_index r i == j) 1 0) row rows,
          ap as_one (ne_eqb (slice_index row i) j differ),
        ))

    only : units rows j i ≤ 0 → (s : ℕ) → cell (row ∷ rows) s i ≡ j → s ≤ 0
    only none zero e = omega arith
    only none (suc s) e = absurd (omega (arith, none, unit_at rows j i s job e))

-- ---- a list around one of its elements

part-front : (P : ℕ → Type 0) (front : List ℕ) (x : ℕ) (back : List ℕ) → All P (front ++ x ∷ back)
    → All P front
part-front P [] x back all = All-nil P
part-front P (y ∷ front) x back all =
    All-cons P y front (All-head P y (front ++ x ∷ back) all)
    (part-front P front x back (All-tail P y (front ++ x ∷ back) all))

part-back : (P : ℕ → Type 0) (front : List ℕ) (x : ℕ) (back : List ℕ) → All P (front ++ x ∷ back)
    → P x × All P back
part-back P [] x back all = (All-head P x back all, All-tail P x back all)
part-back P (y ∷ front) x back all =
    part-back P front x back (All-tail P y (front ++ x ∷ back) all)

pairs-front : (R : ℕ → ℕ → Type 0) (front : List ℕ) (x : ℕ) (back : List ℕ)
    → AllPairs R (front ++ x ∷ back) → All (λ j. R j x) front
pairs-front R [] x back all = All-nil (λ j. R j x)
pairs-front R (y ∷ front) x back all =
    All-cons (λ j. R j x) y front
    (part-back (R y) front x back (AllPairs-first R y (front ++ x ∷ back) all)).0
    (pairs-front R front x back (AllPairs-rest R y (front ++ x ∷ back) all))

pairs-back : (R : ℕ → ℕ → Type 0) (front : List ℕ) (x : ℕ) (back : List ℕ)
    → AllPairs R (front ++ x ∷ back) → All (R x) back
pairs-back R [] x back all = AllPairs-first R x back all
pairs-back R (y ∷ front) x back all =
    pairs-back R front x back (AllPairs-rest R y (front ++ x ∷ back) all)

-- a list and an element of it that passes the test
record Cut (test : ℕ → Bool) (xs : List ℕ) : Type 0 where
  front : List ℕ
  x : ℕ
  back : List ℕ
  is : xs ≡ front ++ x ∷ back
  at : test x ≡ true

abbrev Fails : (ℕ → Bool) → List ℕ → Type 0
Fails test xs = All (λ j. test j ≡ false) xs

-- the first that passes
first-cut : (test : ℕ → Bool) (xs : List ℕ)
    → Fails test xs ⊎ ((c : Cut test xs) × Fails test c.front)
first-cut test [] = inl (All-nil (λ j. test j ≡ false))
first-cut test (y ∷ ys) = by (test y) refl (first-cut test ys)
  where
    by : (t : Bool) → test y ≡ t → Fails test ys ⊎ ((c : Cut test ys) × Fails test c.front)
        → Fails test (y ∷ ys) ⊎ ((c : Cut test (y ∷ ys)) × Fails test c.front)
    by true e rest =
        inr (record { front = []; x = y; back = ys; is = refl; at = e }, All-nil (λ j. test j ≡ false))
    by false e (inl none) = inl (All-cons (λ j. test j ≡ false) y ys e none)
    by false e (inr cut) =
        inr (
          record {
            front = y ∷ cut.0.front;
            x = cut.0.x;
            back = cut.0.back;
            is = ap (λ l. y ∷ l) cut.0.is;
            at = cut.0.at;
          },
          All-cons (λ j. test j ≡ false) y cut.0.front e cut.1,
        )

-- the last that passes
last-cut : (test : ℕ → Bool) (xs : List ℕ)
    → Fails test xs ⊎ ((c : Cut test xs) × Fails test c.back)
last-cut test [] = inl (All-nil (λ j. test j ≡ false))
last-cut test (y ∷ ys) = by (test y) refl (last-cut test ys)
  where
    by : (t : Bool) → test y ≡ t → Fails test ys ⊎ ((c : Cut test ys) × Fails test c.back)
        → Fails test (y ∷ ys) ⊎ ((c : Cut test (y ∷ ys)) × Fails test c.back)
    by t e (inr cut) =
        inr (
          record {
            front = y ∷ cut.0.front;
            x = cut.0.x;
            back = cut.0.back;
            is = ap (λ l. y ∷ l) cut.0.is;
            at = cut.0.at;
          },
          cut.1,
        )
    by true e (inl none) =
        inr (record { front = []; x = y; back = ys; is = refl; at = e }, none)
    by false e (inl none) = inl (All-cons (λ j. test j ≡ false) y ys e none)

none-passes : (test : ℕ → Bool) (xs : List ℕ) (x : ℕ) → Contains xs x → test x ≡ true
    → Fails test xs → ⊥
none-passes test xs x in' e none =
    false≢true (sym (All-contains (λ j. test j ≡ false) xs x none in') ∙ e)

-- ---- two machines

module _ (k : ProblemData) (sound : IsProblemSound k) (flow : IsTrue (is_flow_env k.problem.env))
    (rows : Timetable) (fits : FitsProblem k rows) (a b : ℕ) (lt : a < b) (in' : b < k.machines) where
  by-machine : IsTrue (is_by_machine k.problem.env)
  by-machine = or_right (is_single_env k.problem.env) (is_shop_env k.problem.env)
      (flow_shop k.problem.env flow)

  -- the rows from one on and before another
  abbrev rows_in : ℕ → ℕ → Timetable
  rows_in from to = drop from (take to rows)

  -- a job whose cells on a machine are all in some rows has its time there
  time-in : (i from to j : ℕ) → i < k.machines → IsProblemJob k j
      → ((s : ℕ) → cell rows s i ≡ j → (from ≤ s) × (s < to))
      → problem_time_on k j i ≤ units (rows_in from to) j i
  time-in i from to j lt job within =
      omega (
        arith,
        units-on k sound rows fits by-machine j job i lt,
        units_before rows j i to (λ s e. (within s e).1),
        units_from (take to rows) j i from (λ s e. (within s (take_cell to rows s i j job.0 e)).0),
      )

  -- distinct jobs have no more cells on a machine than there are rows
  cells-in : (i from to : ℕ) (jobs : List ℕ) → IsDistinct jobs
      → sum_by (λ j. units (rows_in from to) j i) jobs ≤ to - from
  cells-in i from to jobs distinct =
      omega (
        arith,
        work-le-rows (λ j row. cond (slice_index row i == j) 1 0) 1 jobs (rows_in from to)
            (λ t d h. distinct (slice_index (slice_index_or (rows_in from to) t d) i)),
        length-drop from (take to rows),
        length-take to rows,
      )

  -- a job's lag is between its last cell on the first machine and its first on the second
  lag-between : (x : ℕ) → IsProblemJob k x → (u v : ℕ) → cell rows u a ≡ x → cell rows v b ≡ x
      → lag k a b x ≤ v - (u + 1)
  lag-between x job u v at to =
      let n : ℕ = b - (a + 1) in
      let is : (p d : ℕ) → p < n → slice_index_or (range_with_len (a + 1) n) p d ≡ a + 1 + p =
      λ p d h. get_or-range_with_len (a + 1) n p d h in
      over-le-rows k sound rows fits by-machine x job (range_with_len (a + 1) n) (range-apart (a + 1) n)
      (λ p d h. omega (
        arith,
        h,
        length-range_with_len (a + 1) n,
        is p d (omega (arith, h, length-range_with_len (a + 1) n)),
      ))
      (u + 1) v
      (λ p d h s c.
      let i : ℕ = slice_index_or (range_with_len (a + 1) n) p d in
      let which : i ≡ a + 1 + p = is p d (omega (arith, h, length-range_with_len (a + 1) n)) in
      let low : p < n = omega (arith, h, length-range_with_len (a + 1) n) in
      let after : u < s = on-flow k sound flow rows fits x job a i u s (omega (arith, which))
      (omega (arith, which, low)) at c in
      let before : s < v = on-flow k sound flow rows fits x job i b s v (omega (arith, which, low)) in' c to in
      (omega (arith, after), before))

  module _ (r e : ℕ) (early : (j : ℕ) → IsProblemJob k j → r ≤ head k a j)
      (late : (j s : ℕ) → IsProblemJob k j → cell rows s b ≡ j → s < e) where
    -- a job, the jobs before it in the order on the first machine, and those behind it on the second
    around-job : (front : List ℕ) (x : ℕ) (back : List ℕ) → AllPairs (GoesFirst rows) (front ++ x ∷ back)
        → IsDistinct (front ++ x ∷ back) → All (IsProblemJob k) (front ++ x ∷ back)
        → 1 ≤ problem_time_on k x a → 1 ≤ problem_time_on k x b → (p : ℕ → ℕ)
        → All (λ j. p j ≤ problem_time_on k j a) front → All (λ j. p j ≤ problem_time_on k j b) back
        → r + sum_by p front + (problem_time_on k x a + lag k a b x + problem_time_on k x b)
        + sum_by p back ≤ e
    around-job front x back order distinct jobs on_a on_b p less more =
        let front_jobs : All (IsProblemJob k) front = part-front (IsProblemJob k) front x back jobs in
        let jx : IsProblemJob k x = (part-back (IsProblemJob k) front x back jobs).0 in
        let back_jobs : All (IsProblemJob k) back = (part-back (IsProblemJob k) front x back jobs).1 in
        let last = last_cell rows x a jx.0
        (omega (arith, on_a, units-on k sound rows fits by-machine x jx a (omega arith))) in
        let first = first_cell rows x b
        (omega (arith, on_b, units-on k sound rows fits by-machine x jx b in')) in
        let u : ℕ = last.0 in
        let v : ℕ = first.0 in
        let from_r : (j s : ℕ) → IsProblemJob k j → cell rows s a ≡ j → r ≤ s =
        λ j s h c. omega (
          arith,
          early j h,
          head-before-row k sound flow rows fits j h a a s (omega arith) (omega arith) c,
        ) in
        let goes_before : All (λ j. GoesFirst rows j x) front = pairs-front (GoesFirst rows) front x back order in
        let goes_behind : All (λ j. GoesFirst rows x j) back = pairs-back (GoesFirst rows) front x back order in
        let at_a : ℕ → ℕ = λ j. units (rows_in r (u + 1)) j a in
        let at_b : ℕ → ℕ = λ j. units (rows_in v e) j b in
        let front_time : sum_by p front ≤ sum_by at_a front =
        sum_by_le_all p at_a front
        (λ i d h.
        let j : ℕ = slice_index_or front i d in
        let job : IsProblemJob k j = front_jobs i d h in
        let own : problem_time_on k j a ≤ at_a j = time-in a r (u + 1) j (omega arith) job
        (λ s c. (from_r j s job c, next (goes_before i d h a s u c last.1))) in
        omega (arith, own, less i d h)) in
        let back_time : sum_by p back ≤ sum_by at_b back =
        sum_by_le_all p at_b back
        (λ i d h.
        let j : ℕ = slice_index_or back i d in
        let job : IsProblemJob k j = back_jobs i d h in
        let own : problem_time_on k j b ≤ at_b j = time-in b v e j in' job
        (λ s c. (under (goes_behind i d h b v s first.1 c), late j s job c)) in
        omega (arith, own, more i d h)) in
        let x_a : problem_time_on k x a ≤ at_a x = time-in a r (u + 1) x (omega arith) jx
        (λ s c. (from_r x s jx c, within (last.2 s c))) in
        let x_b : problem_time_on k x b ≤ at_b x = time-in b v e x in' jx
        (λ s c. (first.2 s c, late x s jx c)) in
        let u_v : u < v = on-flow k sound flow rows fits x jx a b u v lt in' last.1 first.1 in
        omega (
          arith,
          front_time,
          back_time,
          x_a,
          x_b,
          u_v,
          from_r x u jx last.1,
          late x v jx first.1,
          lag-between x jx u v last.1 first.1,
          cells-in a r (u + 1) (front ++ x ∷ back) distinct,
          cells-in b v e (front ++ x ∷ back) distinct,
          sum_by-append at_a front (x ∷ back),
          sum_by-cons at_a x back,
          sum_by-append at_b front (x ∷ back),
          sum_by-cons at_b x back,
        )
      where
        next : {s u : ℕ} → s < u → s < u + 1
        next h = omega arith

        under : {v s : ℕ} → v < s → v ≤ s
        under h = omega arith

        within : {s u : ℕ} → s ≤ u → s < u + 1
        within h = omega arith

-- ---- a split

less-both : (s : Bool) (x y : ℕ) → cond s (nat_le x y) (nat_le y x) ≡ true
    → (cond s x y ≤ x) × (cond s x y ≤ y)
less-both true x y h = (omega arith, leb-true x y h)
less-both false x y h = (leb-true y x h, omega arith)

module _ (k : ProblemData) (a b : ℕ) (side : ℕ → Bool) (delta : ℕ) where
  abbrev time_a : ℕ → ℕ
  time_a j = problem_time_on k j a

  abbrev time_b : ℕ → ℕ
  time_b j = problem_time_on k j b

  abbrev p : ℕ → ℕ
  p j = counted k a b side j

  -- a job that does not reach delta counts no more than on either machine
  not-reached : (first : Bool) (j : ℕ) → keeps_side k a b side delta first j ≡ true
      → reaches_delta k a b side delta first j ≡ false → (p j ≤ time_a j) × (p j ≤ time_b j)
  not-reached first j keeps not' =
      ⊎_elim (λ yes. absurd (false≢true (sym not' ∙ yes)))
      (less-both (side j) (time_a j) (time_b j))
      (or_cases (reaches_delta k a b side delta first j) (counts_less k a b side j) keeps)

  -- what a job that reaches delta has on both machines and between them
  record Reaching (j : ℕ) : Type 0 where
    on_a : 1 ≤ time_a j
    on_b : 1 ≤ time_b j
    whole : p j + delta ≤ time_a j + lag k a b j + time_b j

  reach-parts : (i j : ℕ) → reaches k a b i delta j ≡ true
      → (1 ≤ time_a j) × (1 ≤ time_b j) × (delta ≤ problem_time_on k j i + lag k a b j)
  reach-parts i j h =
      let one = and_parts (nat_lt 0 (time_a j))
      (nat_lt 0 (time_b j) && nat_le delta (problem_time_on k j i + lag k a b j)) h in
      let two = and_parts (nat_lt 0 (time_b j)) (nat_le delta (problem_time_on k j i + lag k a b j)) one.1 in (
        ltb-true 0 (time_a j) one.0,
        ltb-true 0 (time_b j) two.0,
        leb-true delta (problem_time_on k j i + lag k a b j) two.1,
      )

  reaching-first : (j : ℕ) → reaches_delta k a b side delta true j ≡ true
      → Reaching j × (p j ≤ time_b j)
  reaching-first j h = by (side j) refl
      (and_parts (not (side j)) (reaches k a b a delta j) h)
    where
      by : (s : Bool) → side j ≡ s
          → (not (side j) ≡ true) × (reaches k a b a delta j ≡ true)
          → Reaching j × (p j ≤ time_b j)
      by true e both = absurd (false≢true (sym (ap not e) ∙ both.0))
      by false e both =
          let parts = reach-parts a j both.1 in
          let is : p j ≡ time_b j = ap (λ s. cond s (time_a j) (time_b j)) e in
          (record { on_a = parts.0; on_b = parts.1; whole = omega (arith, parts.2, is) }, omega (arith, is))

  reaching-second : (j : ℕ) → reaches_delta k a b side delta false j ≡ true
      → Reaching j × (p j ≤ time_a j)
  reaching-second j h =
      let both = and_parts (side j) (reaches k a b b delta j) h in
      let parts = reach-parts b j both.1 in
      let is : p j ≡ time_a j = ap (λ s. cond s (time_a j) (time_b j)) both.0 in
      (record { on_a = parts.0; on_b = parts.1; whole = omega (arith, parts.2, is) }, omega (arith, is))

  abbrev reached-by : Bool → ℕ → Bool
  reached-by first j = reaches_delta k a b side delta first j

  -- An order, a job of it that reaches delta, and what the jobs before it count at most on the first
  -- machine, and those behind it on the second.
  record Turn (order : List ℕ) : Type 0 where
    front : List ℕ
    x : ℕ
    back : List ℕ
    is : order ≡ front ++ x ∷ back
    reaching : Reaching x
    before : All (λ j. p j ≤ time_a j) front
    behind : All (λ j. p j ≤ time_b j) back

  turn : (first : Bool) (order : List ℕ)
      → All (λ j. keeps_side k a b side delta first j ≡ true) order
      → (x : ℕ) → Contains order x → reaches_delta k a b side delta first x ≡ true → Turn order
  turn true order keeps x in' reach = by (first-cut (reached-by true) order)
    where
      either : (j : ℕ) → keeps_side k a b side delta true j ≡ true → (t : Bool) → (reached-by true) j ≡ t
          → p j ≤ time_b j
      either j keep true e = (reaching-first j e).1
      either j keep false e = (not-reached true j keep e).1

      by : Fails (reached-by true) order ⊎ ((c : Cut (reached-by true) order) × Fails (reached-by true) c.front) → Turn order
      by (inl none) = absurd (none-passes (reached-by true) order x in' reach none)
      by (inr cut) =
          let c : Cut (reached-by true) order = cut.0 in
          let kept : All (λ j. keeps_side k a b side delta true j ≡ true) (c.front ++ c.x ∷ c.back) =
          subst (All (λ j. keeps_side k a b side delta true j ≡ true)) c.is keeps in
          let kept_front = part-front (λ j. keeps_side k a b side delta true j ≡ true) c.front c.x c.back kept in
          let kept_back = part-back (λ j. keeps_side k a b side delta true j ≡ true) c.front c.x c.back kept in
          record {
            front = c.front;
            x = c.x;
            back = c.back;
            is = c.is;
            reaching = (reaching-first c.x c.at).0;
            before = λ i d h. (not-reached true (slice_index_or c.front i d) (kept_front i d h) (cut.1 i d h)).0;
            behind = λ i d h. either (slice_index_or c.back i d) (kept_back.1 i d h)
                ((reached-by true) (slice_index_or c.back i d)) refl;
          }
  turn false order keeps x in' reach = by (last-cut (reached-by false) order)
    where
      either : (j : ℕ) → keeps_side k a b side delta false j ≡ true → (t : Bool) → (reached-by false) j ≡ t
          → p j ≤ time_a j
      either j keep true e = (reaching-second j e).1
      either j keep false e = (not-reached false j keep e).0

      by : Fails (reached-by false) order ⊎ ((c : Cut (reached-by false) order) × Fails (reached-by false) c.back) → Turn order
      by (inl none) = absurd (none-passes (reached-by false) order x in' reach none)
      by (inr cut) =
          let c : Cut (reached-by false) order = cut.0 in
          let kept : All (λ j. keeps_side k a b side delta false j ≡ true) (c.front ++ c.x ∷ c.back) =
          subst (All (λ j. keeps_side k a b side delta false j ≡ true)) c.is keeps in
          let kept_front = part-front (λ j. keeps_side k a b side delta false j ≡ true) c.front c.x c.back kept in
          let kept_back = part-back (λ j. keeps_side k a b side delta false j ≡ true) c.front c.x c.back kept in
          record {
            front = c.front;
            x = c.x;
            back = c.back;
            is = c.is;
            reaching = (reaching-second c.x c.at).0;
            before = λ i d h. either (slice_index_or c.front i d) (kept_front i d h)
                ((reached-by false) (slice_index_or c.front i d)) refl;
            behind = λ i d h. (not-reached false (slice_index_or c.back i d) (kept_back.1 i d h) (cut.1 i d h)).1;
          }

-- ---- the bound

pub split-bound : (k : ProblemData) → IsProblemSound k → IsTrue (is_flow_env k.problem.env)
    → IsTrue k.problem.prmu → IsTrue (is_max_goal k.problem.goal) → (a b : ℕ) → a < b
    → b < k.machines → (side : ℕ → Bool) (delta : ℕ) (first : Bool) → IsSplit k a b side delta first
    → IsLowerBound k (split_value k a b side delta)
split-bound k sound flow prmu max a b lt in' side delta first split rows fits =
    let jobs : List ℕ = problem_jobs k in
    let common = fits.one_order prmu in
    let order : List ℕ = common.0 in
    let perm : IsPermutation jobs order = common.1 in
    let distinct : IsDistinct order =
    λ c. omega (
      arith,
      sum_by-IsPermutation (λ j. cond (c == j) 1 0) jobs order perm,
      IsDistinct-problem_jobs k c,
    ) in
    let known : All (IsProblemJob k) order =
    All-permutation (IsProblemJob k) jobs order perm (All-problem_jobs k (IsProblemJob k) (λ j h. h)) in
    let keeps : All (λ j. keeps_side k a b side delta first j ≡ true) order =
    All-permutation (λ j. keeps_side k a b side delta first j ≡ true) jobs order perm
    (All-problem_jobs k (λ j. keeps_side k a b side delta first j ≡ true) split.sides) in
    let reached = split.reached in
    let t : Turn k a b side delta order =
    turn k a b side delta first order keeps reached.0
    (Contains-permutation jobs order reached.0 perm (Contains-problem_jobs k reached.0 reached.1)) reached.2 in
    let over : ℕ → ℕ = λ j. completion rows j - tail k b j in
    let last = last_by over jobs
    (omega (arith, sound.some_job, length-range_with_len 1 (length k.jobs))) in
    let l : ℕ = last.0 in
    let job : IsProblemJob k l = All-contains (IsProblemJob k) jobs l
    (All-problem_jobs k (IsProblemJob k) (λ j h. h)) last.1 in
    let r : ℕ = least_number (head k a) jobs in
    let q : ℕ → ℕ = counted k a b side in
    let end : r + sum_by q t.front
    + (problem_time_on k t.x a + lag k a b t.x + problem_time_on k t.x b) + sum_by q t.back ≤ over l =
    around-job k sound flow rows fits a b lt in' r (over l) (least_number-le-job k (head k a))
    (λ j s h c. omega (
      arith,
      tail-behind-row k sound flow rows fits j h b b s (omega arith) in' c,
      All-contains (λ i. over i ≤ over l) jobs j last.2 (Contains-problem_jobs k j h),
    ))
    t.front t.x t.back (subst (AllPairs (GoesFirst rows)) t.is common.2)
    (subst IsDistinct t.is distinct) (subst (All (IsProblemJob k)) t.is known)
    t.reaching.on_a t.reaching.on_b q t.before t.behind in
    let total : sum_by q jobs ≡ sum_by q t.front + (q t.x + sum_by q t.back) =
    omega (
      arith,
      sum_by-IsPermutation q jobs order perm,
      ap (sum_by q) t.is,
      sum_by-append q t.front (t.x ∷ t.back),
      sum_by-cons q t.x t.back,
    ) in
    let f : ℕ → ℤ = λ j. pos (tail k b j) -ℤ problem_due k j in
    let rest : least f jobs ≤ℤ f l = All-contains (λ j. least f jobs ≤ℤ f j) jobs l (least-le f jobs) last.1 in
    let w : ℕ = r + sum_by q jobs + delta in
    let done : w + tail k b l ≤ completion rows l =
    omega (
      arith,
      end,
      total,
      t.reaching.whole,
      heads-and-tails k sound flow rows fits l job a b (omega arith) in',
    ) in
    chain w (tail k b l) (problem_due k l) (least f jobs) (problem_cost k rows) rest
    (late-le-cost k rows max l job (w + tail k b l) done)
  where
    chain : (w t : ℕ) (d m o : ℤ) → m ≤ℤ (pos t -ℤ d) → (pos (w + t) -ℤ d) ≤ℤ o
        → (pos w +ℤ m) ≤ℤ o
    chain w t d m o p s = omega (arith, ints)
