-- Pieces that have a misfit draw no timetable that fits.
use Rattle.std.proofs.Common.{◌≡◌, ℕ, zero, suc, ◌-◌, ◌<◌, ◌≤◌, List, [], ◌∷◌, length, get_or, refl, arith, inl, inr}
use Rattle.std.specs.List.{All}
use Rattle.tf_model.specs.SchedulingTask.{SchedulingTask}
use Rattle.tf_model.specs.Timetable.{Timetable, cell, cells_of}
use Rattle.tf_model.specs.Feasible.{Fits}
use Rattle.tf_model.proofs.Units.{cell_with}
use Rattle.tf_schedule.specs.declared.piece.Piece.{Piece}
use Rattle.tf_schedule.specs.declared.fit.Misfit.{Misfit}
use Rattle.tf_schedule.specs.declared.fit.Misfit.TheVariants.{Stranger, JobTwice, WrongAmount, Broken, TooEarly, OutOfOrder, OutOfMemory}
use Rattle.tf_schedule.specs.Piece.{as_time}
use Rattle.tf_schedule.specs.Schedule.{IsSchedule}
use Rattle.tf_schedule.specs.Drawing.{drawing, IsOnMachine}
use Rattle.tf_schedule.specs.Amounts.{start_of}
use Rattle.tf_schedule.specs.Misfit.{IsKnown, IsKept, HasFirstMisfit}
use Rattle.tf_schedule.proofs.Times.{sound_times}
use Rattle.tf_schedule.proofs.Transport.{element}
use Rattle.tf_schedule.proofs.Cells.{piece_draws, cell_within}

module _ (k : SchedulingTask) (ps : List Piece) (schedule : IsSchedule ps)
    (numbered : All (λ p. 0 < p.job) ps) (on : All (IsOnMachine k.machines) ps)
    (fits : Fits k (drawing k.machines ps)) where
  -- each cell of the drawing is empty or a job of the task
  drawn_within : (t i : ℕ) → cell (drawing k.machines ps) t i ≤ length k.jobs
  drawn_within t i =
      cell_within (length k.jobs) (drawing k.machines ps) t i fits.broken.jobs_only

  -- so each piece is of a job of the task, since it draws a cell
  pub pieces_known : All (IsKnown k) ps
  pieces_known i d h =
      let p = get_or ps i d in
      let drawn : cell (drawing k.machines ps) (start_of p) (p.machine - 1) ≡ p.job =
      piece_draws k.machines ps i d (start_of p) schedule.none_twice on h (omega arith)
      (sound_times p (schedule.sound i d h)) in
      ((numbered i d h, omega (arith, drawn, drawn_within (start_of p) (p.machine - 1))), on i d h)

  -- a job that stands in a cell is one of the task
  in_task : (j t : ℕ) → 1 ≤ j → 0 < cells_of j (get_or (drawing k.machines ps) t [])
      → j ≤ length k.jobs
  in_task j t low some = let (i, at) = cell_with j (get_or (drawing k.machines ps) t []) some in
      omega (arith, at, drawn_within t i)

  cells_once : (rows : Timetable) (j t : ℕ) → All (λ row. cells_of j row ≤ 1) rows
      → cells_of j (get_or rows t []) ≤ 1
  cells_once [] j t once = omega arith
  cells_once (row ∷ rows) j zero once = once 0 [] (omega arith)
  cells_once (row ∷ rows) j (suc t) once =
      cells_once rows j t (λ h d lt. once (suc h) d (omega arith))

  -- only want of memory may be answered
  pub no_misfit : (misfit : Misfit) → HasFirstMisfit k ps misfit → misfit ≡ OutOfMemory
  no_misfit (Stranger j i) (p, own, at, first) =
      absurd (first.fails (element (IsKnown k) ps first.place p pieces_known first.here))
  no_misfit (JobTwice j t) (known, from, twice) =
      let some : j ≤ length k.jobs = in_task j (as_time t) twice.job (omega (arith, twice.here)) in
      absurd (omega (
        arith,
        twice.here,
        cells_once (drawing k.machines ps) j (as_time t)
            (fits.broken.single_place j twice.job some),
      ))
  no_misfit (WrongAmount j) (known, once, first) =
      absurd (first.fails (fits.broken.amount j first.job.0 first.job.1))
  no_misfit (Broken j) (known, full, may, first) =
      absurd (first.fails (fits.unbroken may j first.job.0 first.job.1))
  no_misfit (TooEarly j) (known, whole, first) =
      absurd (first.fails (fits.broken.released j first.job.0 first.job.1))
  no_misfit (OutOfOrder a b) (known, released, inl first) =
      absurd (first.fails
      (element (IsKept (drawing k.machines ps)) k.arcs first.place (a, b) fits.broken.in_order
      first.here))
  no_misfit (OutOfOrder a b) (known, released, inr (same, flow, first)) =
      absurd (first.fails (fits.broken.in_flow flow a first.job.0 first.job.1))
  no_misfit OutOfMemory first = refl
