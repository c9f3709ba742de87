-- A cell of the drawing has a job exactly where a piece of the job on the machine is going.
use Rattle.std.proofs.Common.{◌≡◌, ℕ, suc, ◌+◌, ◌-◌, ◌<◌, ◌≤◌, ◌↔◌, Bool, true, false, cond, List, [], ◌∷◌, length, get_or, refl, sym, ap, subst, ◌∙◌, arith, inl, inr, ⊎_elim}
use Rattle.std.specs.List.{All, Any}
use Rattle.std.proofs.lemmas.Bool.{cases_lt}
use Rattle.std.proofs.lemmas.List.{get_or_past}
use Rattle.tf_schedule.specs.declared.piece.Piece.{Piece}
use Rattle.tf_schedule.specs.Piece.{machine_of, as_time, covers}
use Rattle.tf_schedule.specs.Schedule.{NoneTwice}
use Rattle.tf_model.specs.Timetable.{Row, Timetable, cell}
use Rattle.tf_schedule.specs.Drawing.{job_at, drawing, IsOnMachine, IsGoing}
use Rattle.tf_schedule.proofs.Scan.{claimed_from_test, test_from_claimed}
use Rattle.tf_schedule.proofs.Drawing.{cell-drawing, width-drawing}
use Rattle.tf_schedule.proofs.Lookup.{job_at_place}

-- a piece that is going puts its job into its cell
pub piece_draws : (m : ℕ) (ps : List Piece) (k : ℕ) (d : Piece) (t : ℕ) → NoneTwice ps
    → All (IsOnMachine m) ps → k < length ps
    → as_time (get_or ps k d).start ≤ t → t < as_time (get_or ps k d).stop
    → cell (drawing m ps) t ((get_or ps k d).machine - 1) ≡ (get_or ps k d).job
piece_draws m ps k d t once on h low high =
    let p = get_or ps k d in
    let machine = on k d h in
    let same : p.machine - 1 + 1 ≡ p.machine = omega (arith, machine.0) in
    let test : covers p.machine t p ≡ true =
    test_from_claimed machine_of p.machine t p
    (record { on_line = refl; started = low; going = high }) in
    cell-drawing m ps t (p.machine - 1) (omega (arith, machine.0, machine.1))
    ∙ ap (λ n. job_at ps n t) same ∙ job_at_place ps k d p.machine t h test (once p.machine t)

found_step : (b : Bool) (p : Piece) (ps : List Piece) (i t j : ℕ) → covers i t p ≡ b → 0 < j
    → cond b p.job (job_at ps i t) ≡ j → (job_at ps i t ≡ j → Any (IsGoing i t j) ps)
    → Any (IsGoing i t j) (p ∷ ps)
found_step true p ps i t j c some e rest = let f = claimed_from_test machine_of i t p c in (
  0,
  p,
  omega arith,
  refl,
  record { job = e; machine = f.on_line; started = f.started; going = f.going },
)
found_step false p ps i t j c some e rest = let r = rest e in
    (suc r.0, r.1, omega (arith, r.2), r.3, r.4)

-- a job in a cell is there by a piece
pub piece_of_cell : (ps : List Piece) (i t j : ℕ) → 0 < j → job_at ps i t ≡ j
    → Any (IsGoing i t j) ps
piece_of_cell [] i t j some e = absurd (omega arith)
piece_of_cell (p ∷ ps) i t j some e =
    found_step (covers i t p) p ps i t j refl some e (piece_of_cell ps i t j some)

-- and a piece that is going puts its job there
pub cell_of_piece : (ps : List Piece) (i t j : ℕ) → NoneTwice ps → Any (IsGoing i t j) ps
    → job_at ps i t ≡ j
cell_of_piece ps i t j once (k, p, h, read, going) =
    let test : covers i t p ≡ true =
    test_from_claimed machine_of i t p
    (record { on_line = going.machine; started = going.started; going = going.going }) in
    job_at_place ps k p i t h (subst (λ q. covers i t q ≡ true) (sym read) test) (once i t)
    ∙ ap (λ (q : Piece). q.job) read ∙ going.job

-- so a cell has a job exactly where a piece of the job on the machine is going
pub cell_exactly : (m : ℕ) (ps : List Piece) (i t j : ℕ) → NoneTwice ps → i < m → 0 < j
    → (cell (drawing m ps) t i ≡ j) ↔ Any (IsGoing (i + 1) t j) ps
cell_exactly m ps i t j once on some = (
  λ e. piece_of_cell ps (i + 1) t j some (sym (cell-drawing m ps t i on) ∙ e),
  λ going. cell-drawing m ps t i on ∙ cell_of_piece ps (i + 1) t j once going,
)

-- a machine that the drawing does not have is empty
pub cell_beyond : (m : ℕ) (ps : List Piece) (t i : ℕ) → m ≤ i → cell (drawing m ps) t i ≡ 0
cell_beyond m ps t i h = elim (cases_lt t (length (drawing m ps))) [
  | inl before ↦
      get_or_past (get_or (drawing m ps) t []) i 0 (omega (arith, width-drawing m ps t [] before))
  | inr after ↦ ap (λ (row : Row). get_or row i 0) (get_or_past (drawing m ps) t [] after)
      ∙ get_or_past [] i 0 (omega arith)
]

pub on_some_machine : (m : ℕ) (ps : List Piece) (t i j : ℕ) → 0 < j → cell (drawing m ps) t i ≡ j
    → i < m
on_some_machine m ps t i j some e = elim (cases_lt i m) [
  | inl lt ↦ lt
  | inr le ↦ absurd (omega (arith, cell_beyond m ps t i le, e))
]

-- each cell of rows of jobs up to n is at most n
row_within : (n : ℕ) (row : Row) → All (λ j. j ≤ n) row → (i : ℕ) → get_or row i 0 ≤ n
row_within n row all i =
    ⊎_elim (λ h. all i 0 h) (λ h. let e = get_or_past row i 0 h in omega (arith, e))
    (cases_lt i (length row))

pub cell_within : (n : ℕ) (rows : Timetable) (t i : ℕ) → All (λ row. All (λ j. j ≤ n) row) rows
    → cell rows t i ≤ n
cell_within n rows t i all = ⊎_elim
    (λ h. row_within n (get_or rows t []) (all t [] h) i)
    (λ h. let none : cell rows t i ≡ 0 = ap (λ row. get_or row i 0) (get_or_past rows t [] h) in
    omega (arith, none))
    (cases_lt t (length rows))
