-- Cells of the timetable that pieces draw, and the times at which the pieces of a job run, on one
-- machine or on any.
use Rattle.std.proofs.Common.{◌≡◌, ℕ, ◌+◌, ◌-◌, ◌<◌, ◌≤◌, Bool, true, false, cond, ◌&&◌, eqb, List, length, get_or, refl, sym, subst, ◌∙◌, arith}
use Rattle.std.specs.List.{All, count_by}
use Rattle.std.proofs.lemmas.Bool.Decides.{nat_tests}
use Rattle.std.proofs.lemmas.List.Elements.{All-filter}
use Rattle.tf_model.specs.Timetable.{cell}
use Rattle.tf_schedule.specs.declared.piece.Piece.{Piece}
use Rattle.tf_schedule.specs.Amounts.{pieces_on, start_of}
use Rattle.tf_schedule.specs.Claims.{runs, JobsOnce}
use Rattle.tf_schedule.specs.Drawing.{drawing, stop_of, IsOnMachine}
use Rattle.tf_schedule.specs.Schedule.{IsSchedule, IsPiece}
use Rattle.tf_schedule.proofs.Busy.{IsBusy, busy_piece, piece_busy, works_from_test, test_from_works, counted_some, some_counted}
use Rattle.tf_schedule.proofs.Cells.{cell_exactly, piece_draws, on_some_machine}
use Rattle.tf_schedule.proofs.Filters.{sum_by-filter-le, count_by-filter}
use Rattle.tf_schedule.specs.Operation.{IsWithin}

both_true : (a b : Bool) → (a && b) ≡ true → (a ≡ true) × (b ≡ true)
both_true true b e = (refl, e)
both_true false b e = absurd (cc)

both_join : (a b : Bool) → a ≡ true → b ≡ true → (a && b) ≡ true
both_join true b p q = q
both_join false b p q = absurd (cc)

module _ (n m : ℕ) (ps : List Piece) (schedule : IsSchedule ps) (known : All (IsWithin n m) ps) where
  pub on_machines : All (IsOnMachine m) ps
  on_machines i d h = (known i d h).1

  -- ---- on any machine

  pub cell_busy : (j t i : ℕ) → 1 ≤ j → cell (drawing m ps) t i ≡ j → IsBusy ps j t
  cell_busy j t i low e =
      let any = (cell_exactly m ps i t j schedule.none_twice
      (on_some_machine m ps t i j low e) low).0 e in
      piece_busy ps j t (
        any.0,
        any.1,
        any.2,
        any.3,
        record { job = any.4.job; started = any.4.started; going = any.4.going },
      )

  pub piece_cell : (j t a : ℕ) (p : Piece) → a < length ps → get_or ps a p ≡ p → p.job ≡ j
      → start_of p ≤ t → t < stop_of p → cell (drawing m ps) t (p.machine - 1) ≡ j
  piece_cell j t a p h read own started going =
      subst (λ (q : Piece). cell (drawing m ps) t (q.machine - 1) ≡ q.job) read
      (piece_draws m ps a p t schedule.none_twice on_machines h
      (subst (λ q. start_of q ≤ t) (sym read) started)
      (subst (λ q. t < stop_of q) (sym read) going)) ∙ own

  pub busy_cell : (j t : ℕ) → IsBusy ps j t → (i : ℕ) × (cell (drawing m ps) t i ≡ j)
  busy_cell j t busy = let (a, p, h, read, works) = busy_piece ps j t busy in
      (p.machine - 1, piece_cell j t a p h read works.job works.started works.going)

  -- ---- on one machine

  pub sound_on : (i : ℕ) → All IsPiece (pieces_on i ps)
  sound_on i = All-filter (λ p. eqb p.machine i) IsPiece ps schedule.sound

  pub cell_busy_on : (j t i : ℕ) → 1 ≤ j → cell (drawing m ps) t i ≡ j
      → IsBusy (pieces_on (i + 1) ps) j t
  cell_busy_on j t i low e =
      let (a, p, h, read, going) =
      (cell_exactly m ps i t j schedule.none_twice (on_some_machine m ps t i j low e) low).0 e in
      let here : eqb p.machine (i + 1) ≡ true = let at = going.machine in
      grind (arith, nat_tests) in
      let test : (eqb p.machine (i + 1) && runs j t p) ≡ true =
      both_join _ _ here
      (test_from_works j t p
      (record { job = going.job; started = going.started; going = going.going })) in
      let counted : 0 < count_by (λ q. eqb q.machine (i + 1) && runs j t q) ps =
      counted_some (λ q. eqb q.machine (i + 1) && runs j t q) ps a p h
      (subst (λ (q : Piece). (eqb q.machine (i + 1) && runs j t q) ≡ true) (sym read) test) in
      omega (arith, counted, count_by-filter (λ q. eqb q.machine (i + 1)) (runs j t) ps)

  pub busy_cell_on : (j t i : ℕ) → 1 ≤ j → i < m → IsBusy (pieces_on (i + 1) ps) j t
      → cell (drawing m ps) t i ≡ j
  busy_cell_on j t i low on busy =
      let (a, p, h, read, test) =
      some_counted (λ q. eqb q.machine (i + 1) && runs j t q) ps
      (omega (arith, busy, count_by-filter (λ q. eqb q.machine (i + 1)) (runs j t) ps)) in
      let parts = both_true (eqb p.machine (i + 1)) (runs j t p) test in
      let at : p.machine ≡ i + 1 = let e = parts.0 in grind (arith, nat_tests) in
      let works = works_from_test j t p parts.1 in
      (cell_exactly m ps i t j schedule.none_twice on low).1 (
        a,
        p,
        h,
        read,
        record { job = works.job; machine = at; started = works.started; going = works.going },
      )

  module _ (once : JobsOnce ps) where
    pub once_on : (i : ℕ) → JobsOnce (pieces_on i ps)
    once_on i j t =
        omega (
          arith,
          sum_by-filter-le (λ p. eqb p.machine i) (λ p. cond (runs j t p) 1 0) ps,
          once j t,
        )
