-- What the pieces of a job have on each machine of a shop, and what the timetable that they draw has.
use Rattle.std.proofs.Common.{◌≡◌, ℕ, ◌+◌, ◌-◌, ◌<◌, ◌≤◌, Bool, true, false, cond, ◌&&◌, eqb, List, refl, sym, ◌∙◌}
use Rattle.std.specs.List.{All}
use Rattle.tf_model.specs.Timetable.{cell, units}
use Rattle.tf_posed.specs.FitsProblem.{VisitsFirst}
use Rattle.tf_schedule.specs.declared.piece.Piece.{Piece}
use Rattle.tf_schedule.specs.Schedule.{IsSchedule}
use Rattle.tf_schedule.specs.Claims.{JobsOnce}
use Rattle.tf_schedule.specs.Drawing.{drawing, duration, stop_of}
use Rattle.tf_schedule.specs.Amounts.{work, work_on, pieces_on, greatest_by, least_by, start_of}
use Rattle.tf_schedule.proofs.Counting.{sum_by-same}
use Rattle.tf_schedule.proofs.Filters.{sum_by-filter}
use Rattle.tf_schedule.proofs.Drawing.{units-drawing}
use Rattle.tf_schedule.proofs.Cells.{on_some_machine}
use Rattle.tf_schedule.proofs.Busy.{no_gap_from_extent, extent_from_no_gap, order_from_stop, stop_from_order}
use Rattle.tf_schedule.specs.Operation.{IsWithin}
use Rattle.tf_schedule.proofs.Drawn.{sound_on, once_on, cell_busy_on, busy_cell_on}

on_test : (a b : Bool) (n : ℕ) → cond (b && a) n 0 ≡ cond a (cond b n 0) 0
on_test true true n = refl
on_test true false n = refl
on_test false true n = refl
on_test false false n = refl

pub work-pieces_on : (ps : List Piece) (j i : ℕ) → work_on ps j i ≡ work (pieces_on i ps) j
work-pieces_on ps j i =
    sum_by-same (λ p. cond (eqb p.job j && eqb p.machine i) (duration p) 0)
    (λ p. cond (eqb p.machine i) (cond (eqb p.job j) (duration p) 0) 0)
    (λ p. on_test (eqb p.machine i) (eqb p.job j) (duration p)) ps
    ∙ sym (sum_by-filter (λ p. eqb p.machine i) (λ p. cond (eqb p.job j) (duration p) 0) ps)

module _ (n m : ℕ) (ps : List Piece) (schedule : IsSchedule ps) (known : All (IsWithin n m) ps)
    (once : JobsOnce ps) (j : ℕ) (low : 1 ≤ j) where
  pub units_on : (i : ℕ) → i < m → units (drawing m ps) j i ≡ work (pieces_on (i + 1) ps) j
  units_on i on = units-drawing m ps j i schedule.none_twice low on ∙ work-pieces_on ps j (i + 1)

  -- no gap on machine i
  abbrev pub NoGapOn : ℕ → Type 0
  NoGapOn i = (s t u : ℕ) → s ≤ t → t ≤ u → cell (drawing m ps) s i ≡ j
      → cell (drawing m ps) u i ≡ j → cell (drawing m ps) t i ≡ j

  abbrev pub GaplessOn : ℕ → Type 0
  GaplessOn i = greatest_by stop_of (pieces_on (i + 1) ps) j
      - least_by start_of (pieces_on (i + 1) ps) j ≡ work (pieces_on (i + 1) ps) j

  pub no_gap_on_to : ((i : ℕ) → i < m → GaplessOn i) → (i : ℕ) → NoGapOn i
  no_gap_on_to gapless i s t u le le' at_s at_u =
      let on : i < m = on_some_machine m ps s i j low at_s in
      busy_cell_on n m ps schedule known j t i low on
      (no_gap_from_extent (pieces_on (i + 1) ps) (sound_on n m ps schedule known (i + 1)) j
      (once_on n m ps schedule known once (i + 1) j) (gapless i on) s t u le le'
      (cell_busy_on n m ps schedule known j s i low at_s)
      (cell_busy_on n m ps schedule known j u i low at_u))

  pub no_gap_on_from : (i : ℕ) → i < m → NoGapOn i → GaplessOn i
  no_gap_on_from i on no_gap =
      extent_from_no_gap (pieces_on (i + 1) ps) (sound_on n m ps schedule known (i + 1)) j
      (once_on n m ps schedule known once (i + 1) j)
      (λ s t u le le' at_s at_u. cell_busy_on n m ps schedule known j t i low
      (no_gap s t u le le' (busy_cell_on n m ps schedule known j s i low on at_s)
      (busy_cell_on n m ps schedule known j u i low on at_u)))

  pub visits_to : (a b : ℕ)
      → greatest_by stop_of (pieces_on (a + 1) ps) j ≤ least_by start_of (pieces_on (b + 1) ps) j
      → VisitsFirst (drawing m ps) j a b
  visits_to a b le s t at_s at_t =
      order_from_stop (pieces_on (a + 1) ps) (pieces_on (b + 1) ps)
      (sound_on n m ps schedule known (a + 1)) (sound_on n m ps schedule known (b + 1)) j j le s t
      (cell_busy_on n m ps schedule known j s a low at_s)
      (cell_busy_on n m ps schedule known j t b low at_t)

  pub visits_from : (a b : ℕ) → a < m → b < m → VisitsFirst (drawing m ps) j a b
      → greatest_by stop_of (pieces_on (a + 1) ps) j ≤ least_by start_of (pieces_on (b + 1) ps) j
  visits_from a b on_a on_b visits =
      stop_from_order (pieces_on (a + 1) ps) (pieces_on (b + 1) ps)
      (sound_on n m ps schedule known (a + 1)) (sound_on n m ps schedule known (b + 1)) j j
      (λ s t at_s at_t. visits s t (busy_cell_on n m ps schedule known j s a low on_a at_s)
      (busy_cell_on n m ps schedule known j t b low on_b at_t))
