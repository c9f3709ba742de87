-- The cells, the units and the completion times of a drawing.
use Rattle.std.proofs.Common.{◌≡◌, ℕ, zero, suc, ◌+◌, ◌-◌, ◌<◌, ◌≤◌, max, Bool, true, false, cond, ◌&&◌, ◌||◌, ltb, leb, eqb, List, [], ◌∷◌, ◌++◌, length, get_or, take, map, refl, sym, ap, ◌∙◌, arith, inl, inr}
use Rattle.std.specs.List.{count_by, sum_by, range_with_len, All}
use Rattle.std.proofs.lemmas.List.{get_or_past, take_more}
use Rattle.std.proofs.lemmas.List.FromFn.{length-map-range_with_len, get_or-map-range_with_len}
use Rattle.std.proofs.lemmas.List.Sums.{sum_by-cons}
use Rattle.std.proofs.lemmas.List.Elements.{All-tail}
use Rattle.std.proofs.lemmas.Bool.{cases_lt}
use Rattle.std.proofs.lemmas.Bool.Decides.{nat_tests}
use Rattle.tf_schedule.specs.declared.piece.Piece.{Piece}
use Rattle.tf_schedule.specs.Piece.{machine_of, as_time, is_during, covers}
use Rattle.tf_schedule.specs.Claims.{runs, claims, places}
use Rattle.tf_schedule.specs.Schedule.{NoneTwice}
use Rattle.tf_model.specs.Timetable.{Row, Timetable, cell, cells_of, units, all_units, completion}
use Rattle.tf_model.specs.Prepare.{greatest_of}
use Rattle.tf_schedule.specs.Drawing.{job_at, greatest_stop, drawing, duration, IsOnMachine}
use Rattle.tf_schedule.specs.Amounts.{work_on, work, last_stop}
use Rattle.tf_schedule.proofs.Scan.{claimed_from_test}
use Rattle.tf_schedule.proofs.Counting.{sum_by-same, sum_by-split, sum_by-none, sum_by-map, count_interval, sum_single_in}

-- a row of the drawing
abbrev row_of : ℕ → List Piece → ℕ → Row
row_of m ps t = map (λ i. job_at ps i t) (range_with_len 1 m)

-- row t, with no cells past the end
abbrev row_at : Timetable → ℕ → Row
row_at rows t = get_or rows t []

pub length-drawing : (m : ℕ) (ps : List Piece) → length (drawing m ps) ≡ greatest_stop ps
unfolding drawing
length-drawing m ps = length-map-range_with_len (row_of m ps) 0 (greatest_stop ps)

row_at-drawing : (m : ℕ) (ps : List Piece) (t : ℕ) (d : Row) → t < greatest_stop ps
    → get_or (drawing m ps) t d ≡ row_of m ps t
unfolding drawing
row_at-drawing m ps t d h =
    get_or-map-range_with_len (row_of m ps) 0 (greatest_stop ps) t t d h (omega arith)

cell-row_of : (m : ℕ) (ps : List Piece) (t i : ℕ) → i < m
    → get_or (row_of m ps t) i 0 ≡ job_at ps (i + 1) t
cell-row_of m ps t i h =
    get_or-map-range_with_len (λ k. job_at ps k t) 1 m i (i + 1) 0 h (omega arith)

-- what two numbers of pieces that claim a cell say
nothing_step : (b : Bool) (j r : ℕ) → (b ≡ true → ⊥) → r ≡ 0 → cond b j r ≡ 0
nothing_step true j r never e = absurd (never refl)
nothing_step false j r never e = e

-- no piece claims a cell at or after the greatest stop
pub none_after_end : (ps : List Piece) (i t : ℕ) → greatest_stop ps ≤ t → job_at ps i t ≡ 0
none_after_end [] i t h = refl
none_after_end (p ∷ ps) i t h =
    nothing_step (covers i t p) p.job (job_at ps i t)
    (λ e. let f = claimed_from_test machine_of i t p e in omega (arith, f.going))
    (none_after_end ps i t (omega arith))

pub claims-cons : (p : Piece) (ps : List Piece) (i t : ℕ)
    → claims (p ∷ ps) i t ≡ cond (covers i t p) 1 0 + claims ps i t
claims-cons p ps i t = sum_by-cons (λ q. cond (covers i t q) 1 0) p ps

pub places-cons : (p : Piece) (ps : List Piece) (j t : ℕ)
    → places (p ∷ ps) j t ≡ cond (runs j t p) 1 0 + places ps j t
places-cons p ps j t = sum_by-cons (λ q. cond (runs j t q) 1 0) p ps

unclaimed_step : (b : Bool) (n more j r : ℕ) → more ≡ cond b 1 0 + n → more ≡ 0 → (n ≡ 0 → r ≡ 0)
    → cond b j r ≡ 0
unclaimed_step true n more j r e none rest = absurd (omega arith)
unclaimed_step false n more j r e none rest = rest (omega arith)

-- no job stands in a cell that no piece claims
pub none_unclaimed : (ps : List Piece) (i t : ℕ) → claims ps i t ≡ 0 → job_at ps i t ≡ 0
none_unclaimed [] i t h = refl
none_unclaimed (p ∷ ps) i t h =
    unclaimed_step (covers i t p) (claims ps i t) (claims (p ∷ ps) i t) p.job (job_at ps i t)
    (claims-cons p ps i t) h (none_unclaimed ps i t)

pub none_twice_tail : (p : Piece) (ps : List Piece) → NoneTwice (p ∷ ps) → NoneTwice ps
none_twice_tail p ps once i t = omega (arith, claims-cons p ps i t, once i t)

-- what the drawing has in a cell, at any time
pub cell-drawing : (m : ℕ) (ps : List Piece) (t i : ℕ) → i < m
    → cell (drawing m ps) t i ≡ job_at ps (i + 1) t
cell-drawing m ps t i h = elim (cases_lt t (greatest_stop ps)) [
  | inl before ↦ ap (λ row. get_or row i 0) (row_at-drawing m ps t [] before)
      ∙ cell-row_of m ps t i h
  | inr after ↦
      ap (λ row. get_or row i 0)
      (get_or_past (drawing m ps) t [] (omega (arith, length-drawing m ps)))
      ∙ sym (none_after_end ps (i + 1) t after)
]

-- the piece puts job j into the cell
marks : ℕ → ℕ → ℕ → Piece → Bool
marks j i t p = (eqb p.job j) && covers i t p

-- at most one piece claims the cell, so job j stands there by this piece or by another one
mark_step : (b : Bool) (job j n more r : ℕ) → more ≡ cond b 1 0 + n → more ≤ 1 → (n ≡ 0 → r ≡ 0)
    → 0 < j → cond (eqb (cond b job r) j) 1 0 ≡ cond (eqb job j && b) 1 0 + cond (eqb r j) 1 0
mark_step true job j n more r e once rest some =
    let none : r ≡ 0 = rest (omega arith) in
    grind (arith, nat_tests)
mark_step false job j n more r e once rest some = grind (arith, nat_tests)

mark_split : (p : Piece) (ps : List Piece) (j i t : ℕ) → NoneTwice (p ∷ ps) → 0 < j
    → cond (eqb (job_at (p ∷ ps) i t) j) 1 0 ≡ cond (marks j i t p) 1 0
    + cond (eqb (job_at ps i t) j) 1 0
unfolding marks
mark_split p ps j i t once some =
    mark_step (covers i t p) p.job j (claims ps i t) (claims (p ∷ ps) i t) (job_at ps i t)
    (claims-cons p ps i t) (once i t) (none_unclaimed ps i t) some

-- how many times below n the piece puts job j into a cell of machine i
marks_time : (a b : Bool) (s e n : ℕ) → e ≤ n
    → count_by (λ t. a && (b && (leb s t && ltb t e))) (range_with_len 0 n)
    ≡ cond (a && b) (e - s) 0
marks_time true true s e n h = omega (arith, count_interval s e 0 n)
marks_time true false s e n h = sum_by-none (range_with_len 0 n)
marks_time false b s e n h = sum_by-none (range_with_len 0 n)

-- on how many of the machines 1 to m the piece runs job j at time t
marks_machine : (a d : Bool) (k m : ℕ) → 0 < k → k ≤ m
    → count_by (λ i. a && (eqb k i && d)) (range_with_len 1 m) ≡ cond (a && d) 1 0
marks_machine true true k m low high =
    sum_by-same (λ i. cond (eqb k i && true) 1 0) (λ i. cond (eqb k i) 1 0) (λ i. grind arith)
    (range_with_len 1 m) ∙ sum_single_in k 1 m low high
marks_machine true false k m low high =
    sum_by-same (λ i. cond (eqb k i && false) 1 0) (λ i. 0) (λ i. grind arith) (range_with_len 1 m)
    ∙ sum_by-none (range_with_len 1 m)
marks_machine false d k m low high = sum_by-none (range_with_len 1 m)

-- the times below n at which job j is on machine i
pub count_times : (ps : List Piece) (j i n : ℕ) → NoneTwice ps → greatest_stop ps ≤ n → 0 < j
    → count_by (λ t. eqb (job_at ps i t) j) (range_with_len 0 n) ≡ work_on ps j i
unfolding marks
count_times [] j i n once h some =
    sum_by-same (λ t. cond (eqb 0 j) 1 0) (λ t. 0) (λ t. grind (arith, nat_tests))
    (range_with_len 0 n) ∙ sum_by-none (range_with_len 0 n)
count_times (p ∷ ps) j i n once h some = omega (
  arith,
  sum_by-split (λ t. cond (eqb (job_at (p ∷ ps) i t) j) 1 0) (λ t. cond (marks j i t p) 1 0)
      (λ t. cond (eqb (job_at ps i t) j) 1 0) (λ t. mark_split p ps j i t once some)
      (range_with_len 0 n),
  marks_time (eqb p.job j) (eqb p.machine i) (as_time p.start) (as_time p.stop) n (omega arith),
  count_times ps j i n (none_twice_tail p ps once) (omega arith) some,
  sum_by-cons (λ q. cond (eqb q.job j && eqb q.machine i) (duration q) 0) p ps,
)

-- the units of a job on a machine are the work of its pieces there
pub units-drawing : (m : ℕ) (ps : List Piece) (j i : ℕ) → NoneTwice ps → 0 < j → i < m
    → units (drawing m ps) j i ≡ work_on ps j (i + 1)
unfolding drawing
units-drawing m ps j i once some h =
    sum_by-map (λ (row : Row). cond (eqb (get_or row i 0) j) 1 0) (row_of m ps)
    (range_with_len 0 (greatest_stop ps))
    ∙ sum_by-same (λ t. cond (eqb (get_or (row_of m ps t) i 0) j) 1 0)
    (λ t. cond (eqb (job_at ps (i + 1) t) j) 1 0)
    (λ t. ap (λ (x : ℕ). cond (eqb x j) 1 0) (cell-row_of m ps t i h))
    (range_with_len 0 (greatest_stop ps))
    ∙ count_times ps j (i + 1) (greatest_stop ps) once (omega arith) some

-- the machines on which job j runs at time t
count_machines : (ps : List Piece) (j t m : ℕ) → NoneTwice ps → All (IsOnMachine m) ps → 0 < j
    → count_by (λ i. eqb (job_at ps i t) j) (range_with_len 1 m) ≡ places ps j t
unfolding marks
count_machines [] j t m once on some =
    sum_by-same (λ i. cond (eqb 0 j) 1 0) (λ i. 0) (λ i. grind (arith, nat_tests))
    (range_with_len 1 m) ∙ sum_by-none (range_with_len 1 m)
count_machines (p ∷ ps) j t m once on some =
    let here : IsOnMachine m p = on 0 p (omega arith) in
    omega (
      arith,
      sum_by-split (λ i. cond (eqb (job_at (p ∷ ps) i t) j) 1 0) (λ i. cond (marks j i t p) 1 0)
          (λ i. cond (eqb (job_at ps i t) j) 1 0) (λ i. mark_split p ps j i t once some)
          (range_with_len 1 m),
      marks_machine (eqb p.job j) (is_during t p) p.machine m here.0 here.1,
      count_machines ps j t m (none_twice_tail p ps once) (All-tail (IsOnMachine m) p ps on) some,
      places-cons p ps j t,
    )

cells_of-row_of : (m : ℕ) (ps : List Piece) (j t : ℕ) → NoneTwice ps → All (IsOnMachine m) ps
    → 0 < j → cells_of j (row_of m ps t) ≡ places ps j t
cells_of-row_of m ps j t once on some =
    sum_by-map (λ c. cond (eqb c j) 1 0) (λ i. job_at ps i t) (range_with_len 1 m)
    ∙ count_machines ps j t m once on some

stopped_step : (b : Bool) (n more : ℕ) → more ≡ cond b 1 0 + n → (b ≡ true → ⊥) → n ≡ 0 → more ≡ 0
stopped_step true n more e never rest = absurd (never refl)
stopped_step false n more e never rest = omega arith

runs_going : (j t : ℕ) (p : Piece) → runs j t p ≡ true
    → (p.job ≡ j) × (as_time p.start ≤ t) × (t < as_time p.stop)
runs_going j t p h = (grind (arith, nat_tests), grind (arith, nat_tests), grind (arith, nat_tests))

-- no job runs at or after the greatest stop
places_after_end : (ps : List Piece) (j t : ℕ) → greatest_stop ps ≤ t → places ps j t ≡ 0
places_after_end [] j t h = refl
places_after_end (p ∷ ps) j t h =
    stopped_step (runs j t p) (places ps j t) (places (p ∷ ps) j t) (places-cons p ps j t)
    (λ e. let f = runs_going j t p e in omega (arith, f.2)) (places_after_end ps j t (omega arith))

-- in how many cells of row t a job stands: on how many machines the pieces run it
pub cells_of-drawing : (m : ℕ) (ps : List Piece) (j t : ℕ) → NoneTwice ps → All (IsOnMachine m) ps
    → 0 < j → cells_of j (row_at (drawing m ps) t) ≡ places ps j t
cells_of-drawing m ps j t once on some = elim (cases_lt t (greatest_stop ps)) [
  | inl before ↦ ap (cells_of j) (row_at-drawing m ps t [] before)
      ∙ cells_of-row_of m ps j t once on some
  | inr after ↦
      ap (cells_of j) (get_or_past (drawing m ps) t [] (omega (arith, length-drawing m ps)))
      ∙ sym (places_after_end ps j t after)
]

runs_time : (a : Bool) (s e n : ℕ) → e ≤ n
    → count_by (λ t. a && (leb s t && ltb t e)) (range_with_len 0 n) ≡ cond a (e - s) 0
runs_time true s e n h = omega (arith, count_interval s e 0 n)
runs_time false s e n h = sum_by-none (range_with_len 0 n)

pub sum_places : (ps : List Piece) (j n : ℕ) → greatest_stop ps ≤ n
    → sum_by (places ps j) (range_with_len 0 n) ≡ work ps j
sum_places [] j n h = sum_by-none (range_with_len 0 n)
sum_places (p ∷ ps) j n h = omega (
  arith,
  sum_by-split (places (p ∷ ps) j) (λ t. cond (runs j t p) 1 0) (places ps j) (places-cons p ps j)
      (range_with_len 0 n),
  runs_time (eqb p.job j) (as_time p.start) (as_time p.stop) n (omega arith),
  sum_places ps j n (omega arith),
  sum_by-cons (λ q. cond (eqb q.job j) (duration q) 0) p ps,
)

-- the units of a job on all machines are the work of its pieces
pub all_units-drawing : (m : ℕ) (ps : List Piece) (j : ℕ) → NoneTwice ps → All (IsOnMachine m) ps
    → 0 < j → all_units (drawing m ps) j ≡ work ps j
unfolding drawing
all_units-drawing m ps j once on some =
    sum_by-map (cells_of j) (row_of m ps) (range_with_len 0 (greatest_stop ps))
    ∙ sum_by-same (λ t. cells_of j (row_of m ps t)) (places ps j)
    (λ t. cells_of-row_of m ps j t once on some) (range_with_len 0 (greatest_stop ps))
    ∙ sum_places ps j (greatest_stop ps) (omega arith)

-- each row has a cell for each machine
pub width-drawing : (m : ℕ) (ps : List Piece) → All (λ row. length row ≡ m) (drawing m ps)
width-drawing m ps t d h = ap length (row_at-drawing m ps t d (omega (arith, length-drawing m ps)))
    ∙ length-map-range_with_len (λ i. job_at ps i t) 1 m

-- no row has a job in two cells
pub once-drawing : (m : ℕ) (ps : List Piece) → NoneTwice ps → All (IsOnMachine m) ps → (j : ℕ)
    → 0 < j → ((t : ℕ) → places ps j t ≤ 1) → All (λ row. cells_of j row ≤ 1) (drawing m ps)
once-drawing m ps once on j some apart t d h =
    let e : cells_of j (get_or (drawing m ps) t d) ≡ places ps j t =
    ap (cells_of j) (row_at-drawing m ps t d (omega (arith, length-drawing m ps)))
    ∙ cells_of-row_of m ps j t once on some in
    omega (arith, apart t)

pub single_place-drawing : (m : ℕ) (ps : List Piece) → NoneTwice ps → All (IsOnMachine m) ps
    → ((j t : ℕ) → places ps j t ≤ 1) → (j : ℕ) → 0 < j
    → All (λ row. cells_of j row ≤ 1) (drawing m ps)
single_place-drawing m ps once on apart j some = once-drawing m ps once on j some (apart j)

-- no cell has a number above n, if no piece names such a job
job_step : (b : Bool) (j r n : ℕ) → j ≤ n → r ≤ n → cond b j r ≤ n
job_step true j r n p q = p
job_step false j r n p q = q

job_at_most : (ps : List Piece) (n i t : ℕ) → All (λ p. p.job ≤ n) ps → job_at ps i t ≤ n
job_at_most [] n i t h = omega arith
job_at_most (p ∷ ps) n i t h =
    job_step (covers i t p) p.job (job_at ps i t) n (h 0 p (omega arith))
    (job_at_most ps n i t (All-tail (λ q. q.job ≤ n) p ps h))

pub jobs-drawing : (m : ℕ) (ps : List Piece) (n : ℕ) → All (λ p. p.job ≤ n) ps
    → All (λ row. All (λ j. j ≤ n) row) (drawing m ps)
jobs-drawing m ps n h t d in_range i e inside =
    let row : get_or (drawing m ps) t d ≡ row_of m ps t =
    row_at-drawing m ps t d (omega (arith, length-drawing m ps)) in
    let wide : length (row_of m ps t) ≡ m = length-map-range_with_len (λ k. job_at ps k t) 1 m in
    let short : i < m = omega (arith, ap length row) in
    let value : get_or (get_or (drawing m ps) t d) i e ≡ job_at ps (i + 1) t =
    ap (λ (r : Row). get_or r i e) row
    ∙ get_or-map-range_with_len (λ k. job_at ps k t) 1 m i (i + 1) e short (omega arith) in
    omega (arith, job_at_most ps n (i + 1) t h)

-- ---- completion

-- a row that has the job comes before its completion
pub before_completion : (rows : Timetable) (j t : ℕ) → 0 < cells_of j (row_at rows t)
    → t < completion rows j
before_completion [] j t h = absurd (omega arith)
before_completion (row ∷ rows) j zero h =
    has_step (ltb 0 (cells_of j row)) (ltb 0 (completion rows j)) (completion rows j)
    (grind (arith, nat_tests))
  where
    has_step : (a b : Bool) (c : ℕ) → a ≡ true → 0 < cond (a || b) (c + 1) 0
    has_step true b c e = omega arith
    has_step false b c e = absurd (cc)
before_completion (row ∷ rows) j (suc t) h = let later = before_completion rows j t h in
    later_step (ltb 0 (cells_of j row)) (ltb 0 (completion rows j)) (completion rows j) t later
    (grind (arith, nat_tests))
  where
    later_step : (a b : Bool) (c t : ℕ) → t < c → b ≡ true → suc t < cond (a || b) (c + 1) 0
    later_step true b c t h e = omega arith
    later_step false true c t h e = omega arith
    later_step false false c t h e = absurd (cc)

-- the row before the completion has the job
pub at_completion : (rows : Timetable) (j n : ℕ) → completion rows j ≡ suc n
    → 0 < cells_of j (row_at rows n)
at_completion [] j n h = absurd (omega arith)
at_completion (row ∷ rows) j zero h = grind (arith, nat_tests)
at_completion (row ∷ rows) j (suc n) h = at_completion rows j n (grind (arith, nat_tests))

stop_step : (a d : Bool) (s n l more t : ℕ) → (d ≡ true → t < s) → more ≡ cond (a && d) 1 0 + n
    → (0 < n → t < l) → 0 < more → t < cond a (max s l) l
stop_step true true s n l more t going e rest some = let h : t < s = going refl in omega arith
stop_step true false s n l more t going e rest some = let h : t < l = rest (omega arith) in
    omega arith
stop_step false d s n l more t going e rest some = rest (omega arith)

-- a time at which the job runs is before its last stop
pub runs_before_stop : (ps : List Piece) (j t : ℕ) → 0 < places ps j t → t < last_stop ps j
runs_before_stop [] j t h = absurd (omega arith)
runs_before_stop (p ∷ ps) j t h =
    stop_step (eqb p.job j) (is_during t p) (as_time p.stop) (places ps j t) (last_stop ps j)
    (places (p ∷ ps) j t) t (λ e. grind (arith, nat_tests)) (places-cons p ps j t)
    (runs_before_stop ps j t) h

last_step : (a d : Bool) (start s l n k more : ℕ) → more ≡ cond (a && d) 1 0 + k
    → (start ≤ n → n < s → d ≡ true) → start < s → (l ≡ suc n → 0 < k) → cond a (max s l) l ≡ suc n
    → 0 < more
last_step true true start s l n k more e here full rest h = omega arith
last_step true false start s l n k more e here full rest h = elim (cases_lt l s) [
  | inl less ↦ let never : false ≡ true = here (omega arith) (omega arith) in absurd (cc)
  | inr le ↦ let more_than : 0 < k = rest (omega arith) in omega arith
]
last_step false d start s l n k more e here full rest h = let more_than : 0 < k = rest h in
    omega arith

-- the job runs just before its last stop
pub at_last_stop : (ps : List Piece) (j n : ℕ) → All (λ p. as_time p.start < as_time p.stop) ps
    → last_stop ps j ≡ suc n → 0 < places ps j n
at_last_stop [] j n full h = absurd (omega arith)
at_last_stop (p ∷ ps) j n full h =
    last_step (eqb p.job j) (is_during n p) (as_time p.start) (as_time p.stop) (last_stop ps j) n
    (places ps j n) (places (p ∷ ps) j n) (places-cons p ps j n)
    (λ low high. grind (arith, nat_tests)) (full 0 p (omega arith))
    (at_last_stop ps j n (All-tail (λ q. as_time q.start < as_time q.stop) p ps full)) h

at_most_by_pred : (c l : ℕ) → ((n : ℕ) → c ≡ suc n → n < l) → c ≤ l
at_most_by_pred zero l h = omega arith
at_most_by_pred (suc c) l h = omega (arith, h c refl)

-- a job completes at the last stop of its pieces
pub completion-drawing : (m : ℕ) (ps : List Piece) (j : ℕ) → NoneTwice ps → All (IsOnMachine m) ps
    → All (λ p. as_time p.start < as_time p.stop) ps → 0 < j
    → completion (drawing m ps) j ≡ last_stop ps j
completion-drawing m ps j once on full some =
    let low : completion (drawing m ps) j ≤ last_stop ps j =
    at_most_by_pred _ _
    (λ n e. runs_before_stop ps j n
    (omega (
      arith,
      at_completion (drawing m ps) j n e,
      cells_of-drawing m ps j n once on some,
    ))) in
    let high : last_stop ps j ≤ completion (drawing m ps) j =
    at_most_by_pred _ _
    (λ n e. before_completion (drawing m ps) j n
    (omega (arith, at_last_stop ps j n full e, cells_of-drawing m ps j n once on some))) in
    omega arith

-- ---- the greatest completion

pub greatest_of_range_in : (f : ℕ → ℕ) (v a n : ℕ) → ((x : ℕ) → a ≤ x → f x ≤ v)
    → greatest_of (map f (range_with_len a n)) ≤ v
greatest_of_range_in f v a zero h = omega arith
greatest_of_range_in f v a (suc n) h =
    omega (arith, h a (omega arith), greatest_of_range_in f v (a + 1) n (λ x le. h x (omega arith)))

pub greatest_of_range_ge : (f : ℕ → ℕ) (k a n : ℕ) → a ≤ k → k < a + n
    → f k ≤ greatest_of (map f (range_with_len a n))
greatest_of_range_ge f k a zero low high = absurd (omega arith)
greatest_of_range_ge f k a (suc n) low high = elim (cases_lt a k) [
  | inl less ↦ omega (arith, greatest_of_range_ge f k (a + 1) n (omega arith) (omega arith))
  | inr le ↦ let same : a ≡ k = omega arith in let value : f a ≡ f k = ap f same in omega arith
]

pub last_stop_le : (ps : List Piece) (j : ℕ) → last_stop ps j ≤ greatest_stop ps
last_stop_le [] j = omega arith
last_stop_le (p ∷ ps) j = step (eqb p.job j) (last_stop_le ps j)
  where
    step : (b : Bool) → last_stop ps j ≤ greatest_stop ps
        → cond b (max (as_time p.stop) (last_stop ps j)) (last_stop ps j)
        ≤ max (as_time p.stop) (greatest_stop ps)
    step true h = omega arith
    step false h = omega arith

pub greatest_stop_le : (ps : List Piece) (v : ℕ) → All (λ p. as_time p.stop ≤ v) ps
    → greatest_stop ps ≤ v
greatest_stop_le [] v h = omega arith
greatest_stop_le (p ∷ ps) v h =
    omega (
      arith,
      h 0 p (omega arith),
      greatest_stop_le ps v (All-tail (λ q. as_time q.stop ≤ v) p ps h),
    )

pub stop_le_last : (ps : List Piece) (k : ℕ) (d : Piece) → k < length ps
    → as_time (get_or ps k d).stop ≤ last_stop ps (get_or ps k d).job
stop_le_last [] k d h = absurd (omega arith)
stop_le_last (p ∷ ps) zero d h = same_step (eqb p.job p.job) (grind (arith, nat_tests))
  where
    same_step : (b : Bool) → b ≡ true
        → as_time p.stop ≤ cond b (max (as_time p.stop) (last_stop ps p.job)) (last_stop ps p.job)
    same_step true e = omega arith
    same_step false e = absurd (cc)
stop_le_last (p ∷ ps) (suc k) d h =
    later_step (eqb p.job (get_or ps k d).job) (stop_le_last ps k d (omega arith))
  where
    later_step : (b : Bool) → as_time (get_or ps k d).stop ≤ last_stop ps (get_or ps k d).job
        → as_time (get_or ps k d).stop
        ≤ cond b (max (as_time p.stop) (last_stop ps (get_or ps k d).job))
        (last_stop ps (get_or ps k d).job)
    later_step true h = omega arith
    later_step false h = h

-- the greatest completion of the jobs 1 to n
abbrev pub makespan : ℕ → Timetable → ℕ
makespan n rows = greatest_of (map (completion rows) (range_with_len 1 n))

-- it is the greatest stop
pub makespan-drawing : (m n : ℕ) (ps : List Piece) → NoneTwice ps → All (IsOnMachine m) ps
    → All (λ p. as_time p.start < as_time p.stop) ps → All (λ p. (0 < p.job) × (p.job ≤ n)) ps
    → makespan n (drawing m ps) ≡ greatest_stop ps
makespan-drawing m n ps once on full jobs =
    let low : makespan n (drawing m ps) ≤ greatest_stop ps =
    greatest_of_range_in (completion (drawing m ps)) (greatest_stop ps) 1 n
    (λ j le. omega
    (arith, completion-drawing m ps j once on full (omega arith), last_stop_le ps j)) in
    let high : greatest_stop ps ≤ makespan n (drawing m ps) =
    greatest_stop_le ps (makespan n (drawing m ps)) (λ k d h.
    let job = jobs k d h in
    omega (
      arith,
      stop_le_last ps k d h,
      completion-drawing m ps (get_or ps k d).job once on full job.0,
      greatest_of_range_ge (completion (drawing m ps)) (get_or ps k d).job 1 n
          (omega (arith, job.0)) (omega (arith, job.1)),
    )) in
    omega arith

-- what a list of pieces holds one more of
pub greatest_stop_push : (ps : List Piece) (p : Piece)
    → greatest_stop (ps ++ p ∷ []) ≡ max (greatest_stop ps) (as_time p.stop)
greatest_stop_push [] p = omega arith
greatest_stop_push (q ∷ ps) p = omega (arith, greatest_stop_push ps p)

pub greatest_stop_more : (ps : List Piece) (k : ℕ) (d : Piece) → k < length ps
    → greatest_stop (take (k + 1) ps)
    ≡ max (greatest_stop (take k ps)) (as_time (get_or ps k d).stop)
greatest_stop_more ps k d h = ap greatest_stop (take_more ps k d h)
    ∙ greatest_stop_push (take k ps) (get_or ps k d)
