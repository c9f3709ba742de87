-- One and two machines of a timetable.
use Rattle.std.proofs.Common.{◌≡◌, Bool, true, false, ℕ, zero, suc, ◌+◌, ◌≤◌, [], ◌∷◌, ◌==◌, length, slice_index, slice_index_or, cond, refl, ap, ⊎_elim, arith, All}
use Rattle.std.proofs.lemmas.Bool.{eq-eqb, ne_eqb, cases_eq}
use Rattle.std.proofs.lemmas.List.Sums.{sum_by-cons}
use Rattle.std.proofs.lemmas.List.Elements.{All-cons, All-nil, All-head, All-tail}
use Rattle.tf_model.specs.Timetable.{Row, Timetable, cell, cells_of, units, all_units}

abbrev as_one : Bool → ℕ
as_one t = cond t 1 0

one_at_most : (t : Bool) → cond t 1 0 ≤ 1
one_at_most true = omega arith
one_at_most false = omega arith

-- ---- two machines

-- machines a and b of each row
pub lanes : ℕ → ℕ → Timetable → Timetable
lanes a b [] = []
lanes a b (row ∷ rows) = (slice_index row a ∷ slice_index row b ∷ []) ∷ lanes a b rows

pub lanes_length : (a b : ℕ) (rows : Timetable) → length (lanes a b rows) ≡ length rows
unfolding lanes
lanes_length a b [] = refl
lanes_length a b (row ∷ rows) = ap suc (lanes_length a b rows)

pub lanes_width : (a b : ℕ) (rows : Timetable) → All (λ row. length row ≡ 2) (lanes a b rows)
unfolding lanes
lanes_width a b [] = All-nil (λ row. length row ≡ 2)
lanes_width a b (row ∷ rows) =
    All-cons (λ r. length r ≡ 2) (slice_index row a ∷ slice_index row b ∷ []) (lanes a b rows) refl
    (lanes_width a b rows)

pub lanes_first : (a b : ℕ) (rows : Timetable) (t : ℕ)
    → cell (lanes a b rows) t 0 ≡ cell rows t a
unfolding lanes
lanes_first a b [] t = refl
lanes_first a b (row ∷ rows) zero = refl
lanes_first a b (row ∷ rows) (suc t) = lanes_first a b rows t

pub lanes_second : (a b : ℕ) (rows : Timetable) (t : ℕ)
    → cell (lanes a b rows) t 1 ≡ cell rows t b
unfolding lanes
lanes_second a b [] t = refl
lanes_second a b (row ∷ rows) zero = refl
lanes_second a b (row ∷ rows) (suc t) = lanes_second a b rows t

pub lanes_units_first : (a b : ℕ) (rows : Timetable) (j : ℕ)
    → units (lanes a b rows) j 0 ≡ units rows j a
unfolding lanes
lanes_units_first a b [] j = refl
lanes_units_first a b (row ∷ rows) j =
    omega (
      arith,
      sum_by-cons (λ r. cond (slice_index r 0 == j) 1 0)
          (slice_index row a ∷ slice_index row b ∷ []) (lanes a b rows),
      sum_by-cons (λ r. cond (slice_index r a == j) 1 0) row rows,
      lanes_units_first a b rows j,
    )

pub lanes_units_second : (a b : ℕ) (rows : Timetable) (j : ℕ)
    → units (lanes a b rows) j 1 ≡ units rows j b
unfolding lanes
lanes_units_second a b [] j = refl
lanes_units_second a b (row ∷ rows) j =
    omega (
      arith,
      sum_by-cons (λ r. cond (slice_index r 1 == j) 1 0)
          (slice_index row a ∷ slice_index row b ∷ []) (lanes a b rows),
      sum_by-cons (λ r. cond (slice_index r b == j) 1 0) row rows,
      lanes_units_second a b rows j,
    )

-- a cell, also one past the end of the row, has a job of the task or none
cell_within : (n : ℕ) (row : Row) → All (λ j. j ≤ n) row → (i : ℕ) → slice_index row i ≤ n
cell_within n [] all i = omega arith
cell_within n (c ∷ row) all zero = All-head (λ j. j ≤ n) c row all
cell_within n (c ∷ row) all (suc i) = cell_within n row (All-tail (λ j. j ≤ n) c row all) i

pub lanes_jobs : (a b n : ℕ) (rows : Timetable) → All (λ row. All (λ j. j ≤ n) row) rows
    → All (λ row. All (λ j. j ≤ n) row) (lanes a b rows)
unfolding lanes
lanes_jobs a b n [] all = All-nil (λ row. All (λ j. j ≤ n) row)
lanes_jobs a b n (row ∷ rows) all =
    let P : ℕ → Type 0 = λ j. j ≤ n in
    let here : All P row = All-head (All P) row rows all in
    All-cons (All P) (slice_index row a ∷ slice_index row b ∷ []) (lanes a b rows)
    (All-cons P (slice_index row a) (slice_index row b ∷ []) (cell_within n row here a)
    (All-cons P (slice_index row b) [] (cell_within n row here b) (All-nil P)))
    (lanes_jobs a b n rows (All-tail (All P) row rows all))

-- a job that no row has on both machines is in one cell at most
pub lanes_once : (a b j : ℕ) (rows : Timetable)
    → ((t : ℕ) → cell rows t a ≡ j → cell rows t b ≡ j → ⊥)
    → All (λ row. cells_of j row ≤ 1) (lanes a b rows)
unfolding lanes
lanes_once a b j [] apart = All-nil (λ row. cells_of j row ≤ 1)
lanes_once a b j (row ∷ rows) apart =
    All-cons (λ r. cells_of j r ≤ 1) (slice_index row a ∷ slice_index row b ∷ []) (lanes a b rows)
    (⊎_elim
    (λ same. omega (
      arith,
      count,
      ap as_one (eq-eqb (slice_index row a) j same),
      ap as_one (ne_eqb (slice_index row b) j (λ e. apart 0 same e)),
    ))
    (λ differ. omega (
      arith,
      count,
      ap as_one (ne_eqb (slice_index row a) j differ),
      one_at_most (slice_index row b == j),
    ))
    (cases_eq (slice_index row a) j))
    (lanes_once a b j rows (λ t. apart (suc t)))
  where
    count : cells_of j (slice_index row a ∷ slice_index row b ∷ [])
        ≤ cond (slice_index row a == j) 1 0 + cond (slice_index row b == j) 1 0
    count =
        omega (
          arith,
          sum_by-cons (λ x. cond (x == j) 1 0) (slice_index row a) (slice_index row b ∷ []),
          sum_by-cons (λ x. cond (x == j) 1 0) (slice_index row b) [],
        )

-- ---- one machine

-- machine a of each row
pub lane : ℕ → Timetable → Timetable
lane a [] = []
lane a (row ∷ rows) = (slice_index row a ∷ []) ∷ lane a rows

pub lane_width : (a : ℕ) (rows : Timetable) → All (λ row. length row ≡ 1) (lane a rows)
unfolding lane
lane_width a [] = All-nil (λ row. length row ≡ 1)
lane_width a (row ∷ rows) =
    All-cons (λ r. length r ≡ 1) (slice_index row a ∷ []) (lane a rows) refl (lane_width a rows)

pub lane_cell : (a : ℕ) (rows : Timetable) (t i j : ℕ) → 1 ≤ j → cell (lane a rows) t i ≡ j
    → cell rows t a ≡ j
unfolding lane
lane_cell a [] t i j h e = absurd (omega arith)
lane_cell a (row ∷ rows) zero zero j h e = e
lane_cell a (row ∷ rows) zero (suc i) j h e = absurd (omega arith)
lane_cell a (row ∷ rows) (suc t) i j h e = lane_cell a rows t i j h e

pub lane_units : (a : ℕ) (rows : Timetable) (j : ℕ) → all_units (lane a rows) j ≡ units rows j a
unfolding lane
lane_units a [] j = refl
lane_units a (row ∷ rows) j =
    omega (
      arith,
      sum_by-cons (cells_of j) (slice_index row a ∷ []) (lane a rows),
      sum_by-cons (λ x. cond (x == j) 1 0) (slice_index row a) [],
      sum_by-cons (λ r. cond (slice_index r a == j) 1 0) row rows,
      lane_units a rows j,
    )

pub lane_jobs : (a n : ℕ) (rows : Timetable) → All (λ row. All (λ j. j ≤ n) row) rows
    → All (λ row. All (λ j. j ≤ n) row) (lane a rows)
unfolding lane
lane_jobs a n [] all = All-nil (λ row. All (λ j. j ≤ n) row)
lane_jobs a n (row ∷ rows) all =
    let P : ℕ → Type 0 = λ j. j ≤ n in
    All-cons (All P) (slice_index row a ∷ []) (lane a rows)
    (All-cons P (slice_index row a) [] (cell_within n row (All-head (All P) row rows all) a)
    (All-nil P))
    (lane_jobs a n rows (All-tail (All P) row rows all))

pub lane_once : (a j : ℕ) (rows : Timetable) → All (λ row. cells_of j row ≤ 1) (lane a rows)
unfolding lane
lane_once a j [] = All-nil (λ row. cells_of j row ≤ 1)
lane_once a j (row ∷ rows) =
    All-cons (λ r. cells_of j r ≤ 1) (slice_index row a ∷ []) (lane a rows)
    (omega (
      arith,
      sum_by-cons (λ x. cond (x == j) 1 0) (slice_index row a) [],
      one_at_most (slice_index row a == j),
    ))
    (lane_once a j rows)

-- where machine a has a job, the lane has it in one cell
pub lane_has : (a : ℕ) (rows : Timetable) (t j : ℕ) → 1 ≤ j → cell rows t a ≡ j
    → 1 ≤ cells_of j (slice_index_or (lane a rows) t [])
unfolding lane
lane_has a [] t j h e = absurd (omega (arith, h, e))
lane_has a (row ∷ rows) zero j h e =
    omega (
      arith,
      sum_by-cons (λ x. cond (x == j) 1 0) (slice_index row a) [],
      ap as_one (eq-eqb (slice_index row a) j e),
    )
lane_has a (row ∷ rows) (suc t) j h e = lane_has a rows t j h e
