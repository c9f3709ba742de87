-- A test, cell by cell, that shows that a timetable fits: for worked examples. It takes it that in
-- one order means in the order of the jobs' numbers.
use Rattle.std.proofs.Common.{◌≡◌, Bool, true, false, not, ◌&&◌, ◌==◌, nat_le, nat_lt, ℕ, zero, suc, ◌+◌, ◌-◌, ◌≤◌, ◌<◌, List, [], ◌∷◌, length, slice_index, slice_index_or, cond, refl, sym, ap, ◌∙◌, subst, arith, All}
use Rattle.std.specs.List.{AllPairs, list_all, range_with_len}
use Rattle.std.proofs.lemmas.Bool.{false≢true, true≢false, and_parts, eq-eqb, eqb-true, ltb-true, lt-ltb, leb-true}
use Rattle.std.proofs.lemmas.List.Kept.{AllPairs-cons}
use Rattle.std.proofs.lemmas.List.Elements.{All-cons, All-nil}
use Rattle.std.proofs.lemmas.List.FromFn.{length-range_with_len, get_or-range_with_len}
use Rattle.std.proofs.lemmas.List.Sorted.{IsPermutation-refl}
use Rattle.tf_model.specs.ClassTable.{is_shop_env}
use Rattle.tf_model.specs.Timetable.{Row, Timetable, cell, cells_of, units, all_units}
use Rattle.tf_model.specs.Feasible.{IsKept}
use Rattle.tf_posed.specs.ProblemData.{ProblemData, IsProblemJob, problem_jobs, problem_job, problem_time, problem_time_on, route_of}
use Rattle.tf_posed.specs.FitsProblem.{FitsProblem, HasProblemTime, VisitsFirst}

-- ---- tests

abbrev imp : Bool → Bool → Bool
imp true b = b
imp false b = true

imp-says : (a b : Bool) → imp a b ≡ true → a ≡ true → b ≡ true
imp-says true b h e = h
imp-says false b h e = absurd (false≢true e)

list_all-says : {X : Type 0} (test : X → Bool) (xs : List X) → list_all test xs ≡ true
    → All (λ x. test x ≡ true) xs
list_all-says test [] h = All-nil (λ x. test x ≡ true)
list_all-says test (x ∷ xs) h =
    let p = and_parts (test x) (list_all test xs) h in
    All-cons (λ y. test y ≡ true) x xs p.0 (list_all-says test xs p.1)

-- ---- each cell that has a job

abbrev row_test : (ℕ → ℕ → ℕ → Bool) → ℕ → ℕ → Row → Bool
row_test f t i [] = true
row_test f t i (c ∷ row) = imp (nat_lt 0 c) (f t i c) && row_test f t (i + 1) row

abbrev rows_test : (ℕ → ℕ → ℕ → Bool) → ℕ → Timetable → Bool
rows_test f t [] = true
rows_test f t (row ∷ rows) = row_test f t 0 row && rows_test f (t + 1) rows

-- f of the row, the machine and the job holds of each cell that has a job
abbrev pub each_cell : (ℕ → ℕ → ℕ → Bool) → Timetable → Bool
each_cell f rows = rows_test f 0 rows

row_says : (f : ℕ → ℕ → ℕ → Bool) (t i : ℕ) (row : Row) → row_test f t i row ≡ true → (n j : ℕ)
    → 1 ≤ j → slice_index row n ≡ j → f t (i + n) j ≡ true
row_says f t i [] h n j some e = absurd (omega arith)
row_says f t i (c ∷ row) h zero j some e =
    let here : f t i c ≡ true =
    imp-says (nat_lt 0 c) (f t i c)
    (and_parts (imp (nat_lt 0 c) (f t i c)) (row_test f t (i + 1) row) h).0
    (lt-ltb 0 c (omega arith)) in
    ap (λ x. f t x j) (plain i) ∙ sym (ap (f t i) e) ∙ here
  where
    plain : (i : ℕ) → i + 0 ≡ i
    plain i = omega arith
row_says f t i (c ∷ row) h (suc n) j some e =
    let later : f t (i + 1 + n) j ≡ true =
    row_says f t (i + 1) row (and_parts (imp (nat_lt 0 c) (f t i c)) (row_test f t (i + 1) row) h).1 n j some e in
    ap (λ x. f t x j) (more i n) ∙ later
  where
    more : (i n : ℕ) → i + suc n ≡ i + 1 + n
    more i n = omega arith

rows_says : (f : ℕ → ℕ → ℕ → Bool) (t : ℕ) (rows : Timetable) → rows_test f t rows ≡ true
    → (m n j : ℕ) → 1 ≤ j → cell rows m n ≡ j → f (t + m) n j ≡ true
rows_says f t [] h m n j some e = absurd (omega arith)
rows_says f t (row ∷ rows) h zero n j some e =
    let here : f t (0 + n) j ≡ true =
    row_says f t 0 row (and_parts (row_test f t 0 row) (rows_test f (t + 1) rows) h).0 n j some e in
    ap (λ x. f x n j) (plain t) ∙ ap (λ x. f t x j) (first n) ∙ here
  where
    plain : (t : ℕ) → t + 0 ≡ t
    plain t = omega arith

    first : (n : ℕ) → n ≡ 0 + n
    first n = omega arith
rows_says f t (row ∷ rows) h (suc m) n j some e =
    let later : f (t + 1 + m) n j ≡ true =
    rows_says f (t + 1) rows (and_parts (row_test f t 0 row) (rows_test f (t + 1) rows) h).1 m n j
    some e in
    ap (λ x. f x n j) (more t m) ∙ later
  where
    more : (t m : ℕ) → t + suc m ≡ t + 1 + m
    more t m = omega arith

pub each_cell-says : (f : ℕ → ℕ → ℕ → Bool) (rows : Timetable) → each_cell f rows ≡ true
    → (t i j : ℕ) → 1 ≤ j → cell rows t i ≡ j → f t i j ≡ true
each_cell-says f rows h t i j some e =
    ap (λ x. f x i j) (first t) ∙ rows_says f 0 rows h t i j some e
  where
    first : (t : ℕ) → t ≡ 0 + t
    first t = omega arith

-- f of two cells, each with its row and its machine, holds of any two
abbrev pub each_pair : (ℕ → ℕ → ℕ → ℕ → ℕ → ℕ → Bool) → Timetable → Bool
each_pair f rows = each_cell (λ s a i. each_cell (λ t b j. f s a i t b j) rows) rows

pub each_pair-says : (f : ℕ → ℕ → ℕ → ℕ → ℕ → ℕ → Bool) (rows : Timetable)
    → each_pair f rows ≡ true → (s a i t b j : ℕ) → 1 ≤ i → 1 ≤ j → cell rows s a ≡ i
    → cell rows t b ≡ j → f s a i t b j ≡ true
each_pair-says f rows h s a i t b j some_i some_j p q =
    each_cell-says (λ t b j. f s a i t b j) rows
    (each_cell-says (λ s a i. each_cell (λ t b j. f s a i t b j) rows) rows h s a i some_i p)
    t b j some_j q

-- ---- what is asked

-- the machine has the job in all rows from s to u
abbrev goes_on : Timetable → ℕ → ℕ → ℕ → ℕ → Bool
goes_on rows i j s u = list_all (λ t. cell rows t i == j) (range_with_len s (u + 1 - s))

abbrev whole_test : Timetable → ℕ → ℕ → ℕ → ℕ → ℕ → ℕ → Bool
whole_test rows s a i u b j = imp (a == b) (imp (i == j) (goes_on rows a i s u))

abbrev place_test : ProblemData → ℕ → ℕ → ℕ → ℕ → ℕ → ℕ → Bool
place_test k s a i t b j =
    imp (not k.problem.prmp) (imp (not (is_shop_env k.problem.env)) (imp (i == j) (a == b)))

abbrev visit_test : ℕ → ℕ → ℕ → ℕ → ℕ → ℕ → ℕ → ℕ → ℕ → Bool
visit_test l c d s a i t b j =
    imp (i == l) (imp (j == l) (imp (a == c) (imp (b == d) (nat_lt s t))))

-- of each two machines of the route, job l visits the first before the second
abbrev route_test : Timetable → ℕ → List ℕ → Bool
route_test rows l [] = true
route_test rows l (c ∷ route) =
    list_all (λ d. each_pair (visit_test l c d) rows) route && route_test rows l route

abbrev order_test : ProblemData → ℕ → ℕ → ℕ → ℕ → ℕ → ℕ → Bool
order_test k s a i t b j = imp k.problem.prmu (imp (a == b) (imp (nat_lt i j) (nat_lt s t)))

abbrev amount_test : ProblemData → Timetable → ℕ → Bool
amount_test k rows j =
    cond (is_shop_env k.problem.env)
    (list_all (λ i. units rows j i == problem_time_on k j i) (range_with_len 0 k.machines))
    (all_units rows j == problem_time k j)

-- the first job of the arc is over before the second begins
abbrev arc_test : Timetable → ℕ × ℕ → Bool
arc_test rows arc =
    nat_lt 0 arc.0 && nat_lt 0 arc.1
    && each_pair (λ s a i t b j. imp (i == arc.0) (imp (j == arc.1) (nat_lt s t))) rows

-- what is tested; waits are not, so the problem must not forbid them
pub record Passes (k : ProblemData) (rows : Timetable) : Type 0 where
  pub width : list_all (λ row. length row == k.machines) rows ≡ true
  pub jobs_only : list_all (λ row. list_all (λ j. nat_le j (length k.jobs)) row) rows ≡ true
  pub once : list_all (λ j. list_all (λ row. nat_le (cells_of j row) 1) rows) (problem_jobs k) ≡ true
  pub amount : list_all (amount_test k rows) (problem_jobs k) ≡ true
  pub released : each_cell (λ t i j. imp k.problem.release (nat_le (problem_job k j).release t)) rows
      ≡ true
  pub whole : each_pair (λ s a i u b j. imp (not k.problem.prmp) (whole_test rows s a i u b j)) rows
      ≡ true
  pub one_place : each_pair (place_test k) rows ≡ true
  pub route : list_all (λ j. route_test rows j (route_of k j)) (problem_jobs k) ≡ true
  pub order : each_pair (order_test k) rows ≡ true
  pub arcs : imp k.problem.prec (list_all (arc_test rows) k.arcs) ≡ true
  pub may_wait : k.problem.nwt ≡ false

-- ---- and what follows

-- what holds along the numbers of the jobs holds of each job
of_job : (k : ProblemData) (P : ℕ → Type 0) → All P (problem_jobs k) → (j : ℕ) → IsProblemJob k j → P j
of_job k P all j h =
    subst P
    (get_or-range_with_len 1 (length k.jobs) (j - 1) 0 (omega (arith, h.0, h.1))
    ∙ omega (arith, h.0))
    (all (j - 1) 0 (omega (arith, h.0, h.1, length-range_with_len 1 (length k.jobs))))

visit_says : (rows : Timetable) (l c d : ℕ) → 1 ≤ l → each_pair (visit_test l c d) rows ≡ true
    → VisitsFirst rows l c d
visit_says rows l c d some h s t p q =
    let asked = each_pair-says (visit_test l c d) rows h s c l t d l some some p q in
    let on_d : imp (d == d) (nat_lt s t) ≡ true =
    imp-says (c == c) (imp (d == d) (nat_lt s t))
    (imp-says (l == l) (imp (c == c) (imp (d == d) (nat_lt s t)))
    (imp-says (l == l) (imp (l == l) (imp (c == c) (imp (d == d) (nat_lt s t)))) asked
    (eq-eqb l l refl)) (eq-eqb l l refl)) (eq-eqb c c refl) in
    ltb-true s t (imp-says (d == d) (nat_lt s t) on_d (eq-eqb d d refl))

route_says : (rows : Timetable) (l : ℕ) → 1 ≤ l → (route : List ℕ) → route_test rows l route ≡ true
    → AllPairs (VisitsFirst rows l) route
route_says rows l some [] h = λ i j d lt in'. absurd (omega arith)
route_says rows l some (c ∷ route) h =
    let p = and_parts (list_all (λ d. each_pair (visit_test l c d) rows) route)
    (route_test rows l route) h in
    AllPairs-cons (VisitsFirst rows l) c route
    (λ i d in'. visit_says rows l c (slice_index_or route i d) some
    (list_all-says (λ d. each_pair (visit_test l c d) rows) route p.0 i d in'))
    (route_says rows l some route p.1)

pub fits-passed : (k : ProblemData) (rows : Timetable) → Passes k rows → FitsProblem k rows
fits-passed k rows passes = record {
  width = λ t d h.
      eqb-true (length (slice_index_or rows t d)) k.machines
      (list_all-says (λ row. length row == k.machines) rows passes.width t d h);
  jobs_only = λ t d h i e in'.
      leb-true (slice_index_or (slice_index_or rows t d) i e) (length k.jobs)
      (list_all-says (λ j. nat_le j (length k.jobs)) (slice_index_or rows t d)
      (list_all-says (λ row. list_all (λ j. nat_le j (length k.jobs)) row) rows passes.jobs_only t d
      h) i e in');
  single_place = λ j low high t d h.
      leb-true (cells_of j (slice_index_or rows t d)) 1
      (list_all-says (λ row. nat_le (cells_of j row) 1) rows
      (of_job k (λ j. list_all (λ row. nat_le (cells_of j row) 1) rows ≡ true)
      (list_all-says (λ j. list_all (λ row. nat_le (cells_of j row) 1) rows) (problem_jobs k)
      passes.once) j (low, high)) t d h);
  amount = λ j low high. amount j
      (of_job k (λ j. amount_test k rows j ≡ true)
      (list_all-says (amount_test k rows) (problem_jobs k) passes.amount) j (low, high));
  unbroken = λ whole j low high. record {
    no_gap = λ i s t u le1 le2 p q. no_gap whole j low i s t u le1 le2 p q;
    one_machine = λ plain s t a b p q.
        let asked : imp (not (is_shop_env k.problem.env)) (imp (j == j) (a == b)) ≡ true =
        imp-says (not k.problem.prmp)
        (imp (not (is_shop_env k.problem.env)) (imp (j == j) (a == b)))
        (each_pair-says (place_test k) rows passes.one_place s a j t b j low low p q)
        (ap not whole) in
        eqb-true a b
        (imp-says (j == j) (a == b)
        (imp-says (not (is_shop_env k.problem.env)) (imp (j == j) (a == b)) asked (ap not plain))
        (eq-eqb j j refl));
  };
  released = λ is j low high t i e.
      leb-true (problem_job k j).release t
      (imp-says k.problem.release (nat_le (problem_job k j).release t)
      (each_cell-says (λ t i j. imp k.problem.release (nat_le (problem_job k j).release t)) rows
      passes.released t i j low e) is);
  in_order = λ is i d h.
      arc_says (slice_index_or k.arcs i d)
      (list_all-says (arc_test rows) k.arcs
      (imp-says k.problem.prec (list_all (arc_test rows) k.arcs) passes.arcs is) i d h);
  on_route = λ j low high.
      route_says rows j low (route_of k j)
      (of_job k (λ j. route_test rows j (route_of k j) ≡ true)
      (list_all-says (λ j. route_test rows j (route_of k j)) (problem_jobs k) passes.route) j
      (low, high));
  one_order = λ is. (
    problem_jobs k,
    IsPermutation-refl (problem_jobs k),
    λ m n d lt in' a s t p q. in_turn is m n d lt in' a s t p q,
  );
  without_wait = λ is. absurd (true≢false (sym is ∙ passes.may_wait));
}
  where
    amount : (j : ℕ) → amount_test k rows j ≡ true → HasProblemTime k rows j
    amount j h = record {
      in_all = λ plain. eqb-true (all_units rows j) (problem_time k j)
          (subst (λ shop. cond shop
          (list_all (λ i. units rows j i == problem_time_on k j i) (range_with_len 0 k.machines))
          (all_units rows j == problem_time k j) ≡ true) plain h);
      on_each = λ shop i in'.
          let all = list_all-says (λ i. units rows j i == problem_time_on k j i)
          (range_with_len 0 k.machines)
          (subst (λ shop. cond shop
          (list_all (λ i. units rows j i == problem_time_on k j i) (range_with_len 0 k.machines))
          (all_units rows j == problem_time k j) ≡ true) shop h) i 0
          (omega (arith, length-range_with_len 0 k.machines)) in
          let is : slice_index_or (range_with_len 0 k.machines) i 0 ≡ i =
          get_or-range_with_len 0 k.machines i 0 in' ∙ omega arith in
          eqb-true (units rows j i) (problem_time_on k j i)
          (sym (ap (λ x. units rows j x == problem_time_on k j x) is) ∙ all);
    }

    arc_says : (arc : ℕ × ℕ) → arc_test rows arc ≡ true → IsKept rows arc
    arc_says arc h s t a b p q =
        let test : Bool =
        each_pair (λ s a i t b j. imp (i == arc.0) (imp (j == arc.1) (nat_lt s t))) rows in
        let parts = and_parts (nat_lt 0 arc.0 && nat_lt 0 arc.1) test h in
        let some = and_parts (nat_lt 0 arc.0) (nat_lt 0 arc.1) parts.0 in
        let asked = each_pair-says
        (λ s a i t b j. imp (i == arc.0) (imp (j == arc.1) (nat_lt s t))) rows parts.1 s a arc.0 t b
        arc.1 (ltb-true 0 arc.0 some.0) (ltb-true 0 arc.1 some.1) p q in
        ltb-true s t
        (imp-says (arc.1 == arc.1) (nat_lt s t)
        (imp-says (arc.0 == arc.0) (imp (arc.1 == arc.1) (nat_lt s t)) asked
        (eq-eqb arc.0 arc.0 refl)) (eq-eqb arc.1 arc.1 refl))

    no_gap : k.problem.prmp ≡ false → (j : ℕ) → 1 ≤ j → (i s t u : ℕ) → s ≤ t → t ≤ u
        → cell rows s i ≡ j → cell rows u i ≡ j → cell rows t i ≡ j
    no_gap whole j low i s t u le1 le2 p q =
        let asked = each_pair-says
        (λ s a i u b j. imp (not k.problem.prmp) (whole_test rows s a i u b j)) rows passes.whole
        s i j u i j low low p q in
        let on : goes_on rows i j s u ≡ true =
        imp-says (j == j) (goes_on rows i j s u)
        (imp-says (i == i) (imp (j == j) (goes_on rows i j s u))
        (imp-says (not k.problem.prmp) (whole_test rows s i j u i j) asked (ap not whole))
        (eq-eqb i i refl)) (eq-eqb j j refl) in
        let at = list_all-says (λ t. cell rows t i == j) (range_with_len s (u + 1 - s)) on (t - s) 0
        (omega (arith, length-range_with_len s (u + 1 - s))) in
        let is : slice_index_or (range_with_len s (u + 1 - s)) (t - s) 0 ≡ t =
        get_or-range_with_len s (u + 1 - s) (t - s) 0 (omega arith) ∙ omega arith in
        eqb-true (cell rows t i) j (sym (ap (λ x. cell rows x i == j) is) ∙ at)

    in_turn : k.problem.prmu ≡ true → (m n d : ℕ) → m < n → n < length (problem_jobs k) → (a s t : ℕ)
        → cell rows s a ≡ slice_index_or (problem_jobs k) m d
        → cell rows t a ≡ slice_index_or (problem_jobs k) n d → s < t
    in_turn is m n d lt in' a s t p q =
        let size : length (problem_jobs k) ≡ length k.jobs = length-range_with_len 1 (length k.jobs) in
        let first : slice_index_or (problem_jobs k) m d ≡ 1 + m =
        get_or-range_with_len 1 (length k.jobs) m d (omega arith) in
        let second : slice_index_or (problem_jobs k) n d ≡ 1 + n =
        get_or-range_with_len 1 (length k.jobs) n d (omega arith) in
        let asked = each_pair-says (order_test k) rows passes.order s a (1 + m) t a (1 + n)
        (omega arith) (omega arith) (p ∙ first) (q ∙ second) in
        ltb-true s t
        (imp-says (nat_lt (1 + m) (1 + n)) (nat_lt s t)
        (imp-says (a == a) (imp (nat_lt (1 + m) (1 + n)) (nat_lt s t))
        (imp-says k.problem.prmu (imp (a == a) (imp (nat_lt (1 + m) (1 + n)) (nat_lt s t))) asked is)
        (eq-eqb a a refl)) (lt-ltb (1 + m) (1 + n) (omega arith)))
