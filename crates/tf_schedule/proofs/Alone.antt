-- What the pieces of a job have, where it has one time, and what the timetable that they draw has.
use Rattle.std.proofs.Common.{◌≡◌, ℕ, ◌+◌, ◌-◌, ◌<◌, ◌≤◌, List, length, get_or, ap, subst, ◌∙◌, arith, inl, inr}
use Rattle.std.specs.List.{All}
use Rattle.std.proofs.lemmas.Bool.{cases_lt}
use Rattle.tf_model.specs.Limit.{limit}
use Rattle.tf_model.specs.Timetable.{cell, all_units}
use Rattle.tf_model.specs.Feasible.{IsKept}
use Rattle.tf_posed.specs.FitsProblem.{IsWithoutWait}
use Rattle.tf_schedule.specs.declared.piece.Piece.{Piece}
use Rattle.tf_schedule.specs.Piece.{machine_of}
use Rattle.tf_schedule.specs.Schedule.{IsSchedule, IsPiece}
use Rattle.tf_schedule.specs.Claims.{JobsOnce}
use Rattle.tf_schedule.specs.Drawing.{drawing, stop_of}
use Rattle.tf_schedule.specs.Amounts.{work, greatest_by, least_by, start_of}
use Rattle.tf_schedule.proofs.Times.{sound_times}
use Rattle.tf_schedule.proofs.Drawing.{all_units-drawing}
use Rattle.tf_schedule.proofs.Cells.{cell_exactly, on_some_machine}
use Rattle.tf_schedule.proofs.Busy.{greatest_ge, greatest_le, greatest_reached, least_le, least_reached, no_gap_from_extent, extent_from_no_gap, released_from_start, start_from_released, order_from_stop, stop_from_order}
use Rattle.tf_schedule.specs.Operation.{IsWithin}
use Rattle.tf_schedule.proofs.Drawn.{on_machines, cell_busy, piece_cell, busy_cell}

module _ (n m : ℕ) (few : m ≤ limit) (ps : List Piece) (schedule : IsSchedule ps)
    (known : All (IsWithin n m) ps) (once : JobsOnce ps) (j : ℕ) (low : 1 ≤ j) where
  pub units : all_units (drawing m ps) j ≡ work ps j
  units = all_units-drawing m ps j schedule.none_twice (on_machines n m ps schedule known) low

  full : (a : ℕ) (p : Piece) → a < length ps → get_or ps a p ≡ p → start_of p < stop_of p
  full a p h read = sound_times p (subst IsPiece read (schedule.sound a p h))

  -- ---- release dates

  pub released_to : (r : ℕ) → r ≤ least_by start_of ps j → (t i : ℕ)
      → cell (drawing m ps) t i ≡ j → r ≤ t
  released_to r le t i e =
      released_from_start ps schedule.sound j r le t (cell_busy n m ps schedule known j t i low e)

  pub released_from : (r : ℕ) → r ≤ limit → ((t i : ℕ) → cell (drawing m ps) t i ≡ j → r ≤ t)
      → r ≤ least_by start_of ps j
  released_from r small released =
      start_from_released ps schedule.sound j r small
      (λ t busy. let at = busy_cell n m ps schedule known j t busy in released t at.0 at.1)

  -- ---- waiting

  pub waitless_to : greatest_by stop_of ps j - least_by start_of ps j ≡ work ps j
      → IsWithoutWait (drawing m ps) j
  waitless_to gapless s t u a b le le' at_s at_u =
      busy_cell n m ps schedule known j t
      (no_gap_from_extent ps schedule.sound j (once j) gapless s t u le le'
      (cell_busy n m ps schedule known j s a low at_s)
      (cell_busy n m ps schedule known j u b low at_u))

  pub waitless_from : IsWithoutWait (drawing m ps) j
      → greatest_by stop_of ps j - least_by start_of ps j ≡ work ps j
  waitless_from waitless =
      extent_from_no_gap ps schedule.sound j (once j) (λ s t u le le' at_s at_u.
      let first = busy_cell n m ps schedule known j s at_s in
      let last = busy_cell n m ps schedule known j u at_u in
      let at = waitless s t u first.0 last.0 le le' first.1 last.1 in
      cell_busy n m ps schedule known j t at.0 low at.1)

  -- ---- one machine

  -- the machine of a cell, from 1, is that of a piece
  machine_within : (t i : ℕ) → cell (drawing m ps) t i ≡ j
      → (least_by machine_of ps j ≤ i + 1) × (i + 1 ≤ greatest_by machine_of ps j)
  machine_within t i e =
      let any = (cell_exactly m ps i t j schedule.none_twice
      (on_some_machine m ps t i j low e) low).0 e in
      let own : (get_or ps any.0 any.1).job ≡ j = ap (λ (p : Piece). p.job) any.3 ∙ any.4.job in
      let at : (get_or ps any.0 any.1).machine ≡ i + 1 = ap (λ (p : Piece). p.machine) any.3
      ∙ any.4.machine in (
        omega (arith, at, least_le machine_of ps j any.0 any.1 any.2 own),
        omega (arith, at, greatest_ge machine_of ps j any.0 any.1 any.2 own),
      )

  pub one_machine_to : greatest_by machine_of ps j ≤ least_by machine_of ps j
      → (s t a b : ℕ) → cell (drawing m ps) s a ≡ j → cell (drawing m ps) t b ≡ j → a ≡ b
  one_machine_to le s t a b at_a at_b =
      let first = machine_within s a at_a in
      let second = machine_within t b at_b in
      omega (arith, first.0, first.1, second.0, second.1)

  machine_step : (a b c d : ℕ) → 0 < a → 0 < b → a - 1 ≡ b - 1 → a ≡ c → b ≡ d → c ≤ d
  machine_step a b c d p q e f g = omega arith

  pub one_machine_from : ((s t a b : ℕ) → cell (drawing m ps) s a ≡ j
      → cell (drawing m ps) t b ≡ j → a ≡ b)
      → greatest_by machine_of ps j ≤ least_by machine_of ps j
  one_machine_from one = elim (cases_lt 0 (greatest_by machine_of ps j)) [
    | inl some ↦ elim (cases_lt (least_by machine_of ps j) limit) [
      | inl more ↦
          let high = greatest_reached machine_of ps j some in
          let lowest = least_reached machine_of ps j more in
          let at_high =
          piece_cell n m ps schedule known j (start_of high.1) high.0 high.1 high.2 high.3 high.4.0
          (omega arith) (full high.0 high.1 high.2 high.3) in
          let at_low =
          piece_cell n m ps schedule known j (start_of lowest.1) lowest.0 lowest.1 lowest.2 lowest.3
          lowest.4.0 (omega arith) (full lowest.0 lowest.1 lowest.2 lowest.3) in
          let same = one (start_of high.1) (start_of lowest.1) (high.1.machine - 1)
          (lowest.1.machine - 1) at_high at_low in
          let on_high : 0 < high.1.machine =
          subst (λ (p : Piece). 0 < p.machine) high.3
          (on_machines n m ps schedule known high.0 high.1 high.2).0 in
          let on_low : 0 < lowest.1.machine =
          subst (λ (p : Piece). 0 < p.machine) lowest.3
          (on_machines n m ps schedule known lowest.0 lowest.1 lowest.2).0 in
          machine_step high.1.machine lowest.1.machine (greatest_by machine_of ps j)
          (least_by machine_of ps j) on_high on_low same high.4.1 lowest.4.1
      | inr none ↦
          omega (
            arith,
            greatest_le machine_of ps j limit
                (λ i d h. let on = on_machines n m ps schedule known i d h in
                omega (arith, on.1, few)),
          )
    ]
    | inr none ↦ omega arith
  ]

  -- ---- gaps, where the job is on one machine

  pub no_gap_to : greatest_by stop_of ps j - least_by start_of ps j ≡ work ps j
      → greatest_by machine_of ps j ≤ least_by machine_of ps j → (i s t u : ℕ) → s ≤ t → t ≤ u
      → cell (drawing m ps) s i ≡ j → cell (drawing m ps) u i ≡ j → cell (drawing m ps) t i ≡ j
  no_gap_to gapless one i s t u le le' at_s at_u =
      let at = waitless_to gapless s t u i i le le' at_s at_u in
      let same : at.0 ≡ i = one_machine_to one t s at.0 i at.1 at_s in
      subst (λ a. cell (drawing m ps) t a ≡ j) same at.1

  pub gapless_from : ((i s t u : ℕ) → s ≤ t → t ≤ u → cell (drawing m ps) s i ≡ j
      → cell (drawing m ps) u i ≡ j → cell (drawing m ps) t i ≡ j)
      → ((s t a b : ℕ) → cell (drawing m ps) s a ≡ j → cell (drawing m ps) t b ≡ j → a ≡ b)
      → greatest_by stop_of ps j - least_by start_of ps j ≡ work ps j
  gapless_from no_gap one =
      waitless_from (λ s t u a b le le' at_s at_u.
      let same : b ≡ a = one u s b a at_u at_s in
      (a, no_gap a s t u le le' at_s (subst (λ c. cell (drawing m ps) u c ≡ j) same at_u)))

-- ---- of two jobs

module _ (n m : ℕ) (ps : List Piece) (schedule : IsSchedule ps) (known : All (IsWithin n m) ps)
    (a b : ℕ) where
  pub kept_to : 1 ≤ a → 1 ≤ b → greatest_by stop_of ps a ≤ least_by start_of ps b
      → IsKept (drawing m ps) (a, b)
  kept_to low_a low_b le s t x y at_a at_b =
      order_from_stop ps ps schedule.sound schedule.sound a b le s t
      (cell_busy n m ps schedule known a s x low_a at_a)
      (cell_busy n m ps schedule known b t y low_b at_b)

  pub kept_from : IsKept (drawing m ps) (a, b) → greatest_by stop_of ps a ≤ least_by start_of ps b
  kept_from kept =
      stop_from_order ps ps schedule.sound schedule.sound a b
      (λ s t busy_a busy_b. let at_a = busy_cell n m ps schedule known a s busy_a in
      let at_b = busy_cell n m ps schedule known b t busy_b in
      kept s t at_a.0 at_b.0 at_a.1 at_b.1)
