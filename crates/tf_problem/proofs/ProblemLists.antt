-- Sums over ranges, and units of a job in some of the rows.
use Rattle.std.proofs.Common.{◌≡◌, Bool, ℕ, zero, suc, ◌+◌, ◌≤◌, ◌<◌, List, [], ◌∷◌, ◌==◌, length, slice_index, get_or, take, drop, cond, refl, ap, ◌∙◌, ⊎_elim, arith, sum_by, mul-le-mul_left, All, Contains, ◌*◌, ◌-◌}
use Rattle.std.specs.List.{range_with_len}
use Rattle.std.proofs.lemmas.Bool.{eq-eqb, ne_eqb, cases_eq, cases_lt}
use Rattle.std.proofs.lemmas.List.Sums.{sum_by-cons, get_or-le-sum_by, sum_by-le-sum_by}
use Rattle.std.proofs.lemmas.List.Elements.{All-head, All-tail, All-weaker}
use Rattle.std.proofs.lemmas.List.FromFn.{length-range_with_len, get_or-range_with_len}
use Rattle.tf_model.specs.Distinct.{IsDistinct}
use Rattle.tf_model.specs.Timetable.{Row, Timetable, cell, cells_of, units, all_units}
use Rattle.tf_model.proofs.Sums.{sum_by_le_all, sum_by-times, sum_by-swap}
use Rattle.tf_model.proofs.Units.{cell_with}
use Rattle.tf_model.proofs.Work.{greatest_at}
use Rattle.tf_posed.specs.ProblemData.{ProblemData, IsProblemJob, problem_jobs}

abbrev as_one : Bool → ℕ
as_one t = cond t 1 0

-- ---- sums over ranges

pub range-append : (f : ℕ → ℕ) (a n m : ℕ)
    → sum_by f (range_with_len a n) + sum_by f (range_with_len (a + n) m)
    ≡ sum_by f (range_with_len a (n + m))
range-append f a zero m =
    omega (
      arith,
      ap (λ b. sum_by f (range_with_len b m)) (starts a),
      ap (λ l. sum_by f (range_with_len a l)) (none m),
    )
  where
    starts : (a : ℕ) → a + 0 ≡ a
    starts a = omega arith

    none : (m : ℕ) → 0 + m ≡ m
    none m = omega arith
range-append f a (suc n) m =
    omega (
      arith,
      sum_by-cons f a (range_with_len (a + 1) n),
      sum_by-cons f a (range_with_len (a + 1) (n + m)),
      range-append f (a + 1) n m,
      ap (λ b. sum_by f (range_with_len b m)) (starts a n),
      ap (λ l. sum_by f (range_with_len a l)) (more n m),
    )
  where
    starts : (a n : ℕ) → a + suc n ≡ a + 1 + n
    starts a n = omega arith

    more : (n m : ℕ) → suc n + m ≡ suc (n + m)
    more n m = omega arith

-- ---- rows

-- rows from t on that do not have the job on the machine have no unit of it
pub units_before : (rows : Timetable) (j i t : ℕ) → ((s : ℕ) → cell rows s i ≡ j → s < t)
    → units (take t rows) j i ≡ units rows j i
units_before [] j i zero before = refl
units_before [] j i (suc t) before = refl
units_before (row ∷ rows) j i zero before =
    omega (
      arith,
      sum_by-cons (λ r. cond (slice_index r i == j) 1 0) row rows,
      ap as_one (ne_eqb (slice_index row i) j (λ e. absurd (omega (arith, before 0 e)))),
      units_before rows j i zero (λ s e. absurd (omega (arith, before (suc s) e))),
    )
units_before (row ∷ rows) j i (suc t) before =
    omega (
      arith,
      sum_by-cons (λ r. cond (slice_index r i == j) 1 0) row rows,
      sum_by-cons (λ r. cond (slice_index r i == j) 1 0) row (take t rows),
      units_before rows j i t (λ s e. omega (arith, before (suc s) e)),
    )

-- rows before t that do not have the job on the machine have no unit of it
pub units_from : (rows : Timetable) (j i t : ℕ) → ((s : ℕ) → cell rows s i ≡ j → t ≤ s)
    → units (drop t rows) j i ≡ units rows j i
units_from rows j i zero from = refl
units_from [] j i (suc t) from = refl
units_from (row ∷ rows) j i (suc t) from =
    omega (
      arith,
      sum_by-cons (λ r. cond (slice_index r i == j) 1 0) row rows,
      ap as_one (ne_eqb (slice_index row i) j (λ e. absurd (omega (arith, from 0 e)))),
      units_from rows j i t (λ s e. omega (arith, from (suc s) e)),
    )

-- a cell with the job is a unit
pub unit_at : (rows : Timetable) (j i t : ℕ) → 1 ≤ j → cell rows t i ≡ j → 1 ≤ units rows j i
unit_at [] j i t some e = absurd (omega arith)
unit_at (row ∷ rows) j i zero some e =
    omega (
      arith,
      sum_by-cons (λ r. cond (slice_index r i == j) 1 0) row rows,
      ap as_one (eq-eqb (slice_index row i) j e),
    )
unit_at (row ∷ rows) j i (suc t) some e =
    omega (
      arith,
      sum_by-cons (λ r. cond (slice_index r i == j) 1 0) row rows,
      unit_at rows j i t some e,
    )

-- and a unit is a cell with the job
pub unit_cell : (rows : Timetable) (j i : ℕ) → 1 ≤ units rows j i → (t : ℕ) × (cell rows t i ≡ j)
unit_cell [] j i h = absurd (omega arith)
unit_cell (row ∷ rows) j i h =
    ⊎_elim
    (λ same. (0, same))
    (λ differ.
    let later = unit_cell rows j i
    (omega (
      arith,
      h,
      sum_by-cons (λ r. cond (slice_index r i == j) 1 0) row rows,
      ap as_one (ne_eqb (slice_index row i) j differ),
    )) in
    (suc later.0, later.1))
    (cases_eq (slice_index row i) j)

-- a cell with a job is on one of the machines
row_width : (row : Row) (i j : ℕ) → 1 ≤ j → slice_index row i ≡ j → i < length row
row_width [] i j some e = absurd (omega arith)
row_width (c ∷ row) zero j some e = omega arith
row_width (c ∷ row) (suc i) j some e = omega (arith, row_width row i j some e)

pub cell_width : (m : ℕ) (rows : Timetable) → All (λ row. length row ≡ m) rows → (t i j : ℕ)
    → 1 ≤ j → cell rows t i ≡ j → i < m
cell_width m [] width t i j some e = absurd (omega arith)
cell_width m (row ∷ rows) width zero i j some e =
    omega (
      arith,
      row_width row i j some e,
      All-head (λ row. length row ≡ m) row rows width,
    )
cell_width m (row ∷ rows) width (suc t) i j some e =
    cell_width m rows (All-tail (λ row. length row ≡ m) row rows width) t i j some e

-- a cell behind the first t rows
pub drop_cell : (rows : Timetable) (t s i : ℕ) → cell (drop t rows) s i ≡ cell rows (t + s) i
drop_cell rows zero s i = ap (λ u. cell rows u i) (none s)
  where
    none : (s : ℕ) → s ≡ 0 + s
    none s = omega arith
drop_cell [] (suc t) s i = refl
drop_cell (row ∷ rows) (suc t) s i =
    drop_cell rows t s i ∙ ap (λ u. cell (row ∷ rows) u i) (more t s)
  where
    more : (t s : ℕ) → suc (t + s) ≡ suc t + s
    more t s = omega arith

-- where each row has one cell, a job's cells are its units on that machine
pub units-one : (rows : Timetable) → All (λ row. length row ≡ 1) rows → (j : ℕ)
    → all_units rows j ≡ units rows j 0
units-one [] one j = refl
units-one ([] ∷ rows) one j =
    absurd (omega (arith, All-head (λ row. length row ≡ 1) [] rows one))
units-one ((c ∷ []) ∷ rows) one j =
    omega (
      arith,
      sum_by-cons (cells_of j) (c ∷ []) rows,
      sum_by-cons (λ r. cond (slice_index r 0 == j) 1 0) (c ∷ []) rows,
      sum_by-cons (λ x. cond (x == j) 1 0) c [],
      units-one rows (All-tail (λ row. length row ≡ 1) (c ∷ []) rows one) j,
    )
units-one ((c ∷ d ∷ row) ∷ rows) one j =
    absurd (omega (arith, All-head (λ row. length row ≡ 1) (c ∷ d ∷ row) rows one))

-- rows before t that do not have the job have none of its cells
pub cells_from : (rows : Timetable) (j t : ℕ) → ((s i : ℕ) → cell rows s i ≡ j → t ≤ s)
    → all_units (drop t rows) j ≡ all_units rows j
cells_from rows j zero from = refl
cells_from [] j (suc t) from = refl
cells_from (row ∷ rows) j (suc t) from =
    let none : cells_of j row ≡ 0 =
    ⊎_elim (λ some. let at = cell_with j row some in absurd (omega (arith, from 0 at.0 at.1)))
    (λ no. omega arith) (cases_lt 0 (cells_of j row)) in
    omega (
      arith,
      sum_by-cons (cells_of j) row rows,
      none,
      cells_from rows j t (λ s i e. omega (arith, from (suc s) i e)),
    )

-- the member of a list at which g is greatest
pub last_by : (g : ℕ → ℕ) (jobs : List ℕ) → 0 < length jobs
    → (l : ℕ) × Contains jobs l × All (λ j. g j ≤ g l) jobs
last_by g [] h = absurd (omega arith)
last_by g (x ∷ xs) h = greatest_at g x xs

-- ---- some of the jobs

-- a sum over some of the jobs is at most the sum over all
pub sum_by-le-jobs : (k : ProblemData) (g : ℕ → ℕ) (jobs : List ℕ) → IsDistinct jobs
    → All (IsProblemJob k) jobs → sum_by g jobs ≤ sum_by g (problem_jobs k)
sum_by-le-jobs k g jobs distinct in' =
    let n : ℕ = length k.jobs in
    let at_own : (j : ℕ) → IsProblemJob k j → g j ≤ sum_by (λ c. g c * cond (c == j) 1 0) (problem_jobs k) =
    λ j h.
    let i : ℕ = j - 1 in
    let here : get_or (problem_jobs k) i 0 ≡ j =
    get_or-range_with_len 1 (length k.jobs) i 0 (omega (arith, h.0, h.1))
    ∙ omega (arith, h.0) in
    let term : g (get_or (problem_jobs k) i 0) * cond (get_or (problem_jobs k) i 0 == j) 1 0 ≡ g j * 1 =
    ap (λ c. g c * cond (c == j) 1 0) here ∙ ap (λ t. g j * as_one t) (eq-eqb j j refl) in
    omega (
      arith,
      term,
      get_or-le-sum_by (λ c. g c * cond (c == j) 1 0) (problem_jobs k) i 0
          (omega (arith, h.0, h.1, length-range_with_len 1 (length k.jobs))),
    ) in
    let each : sum_by g jobs
    ≤ sum_by (λ j. sum_by (λ c. g c * cond (c == j) 1 0) (problem_jobs k)) jobs =
    sum_by_le_all g (λ j. sum_by (λ c. g c * cond (c == j) 1 0) (problem_jobs k)) jobs
    (All-weaker (IsProblemJob k) (λ j. g j ≤ sum_by (λ c. g c * cond (c == j) 1 0) (problem_jobs k)) at_own
    jobs in') in
    let few : sum_by (λ c. sum_by (λ j. g c * cond (c == j) 1 0) jobs) (problem_jobs k)
    ≤ sum_by g (problem_jobs k) =
    sum_by-le-sum_by (λ c. sum_by (λ j. g c * cond (c == j) 1 0) jobs) g (problem_jobs k)
    (λ c. omega (
      arith,
      sum_by-times (g c) (λ j. cond (c == j) 1 0) jobs,
      mul-le-mul_left (g c) (distinct c),
    )) in
    omega (arith, each, few, sum_by-swap (λ j c. g c * cond (c == j) 1 0) jobs (problem_jobs k))
