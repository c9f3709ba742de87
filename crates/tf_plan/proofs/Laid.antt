-- Where an order keeps the arcs, some timetable fits the task: all jobs one after another.
use Rattle.std.proofs.Common.{◌≡◌, ℕ, zero, suc, ◌+◌, ◌<◌, ◌≤◌, max, List, [], ◌++◌, length, get_or, refl, subst, arith}
use Rattle.tf_bound.specs.Sized.{IsSized}
use Rattle.tf_bound.specs.Steps.{steps_of}
use Rattle.tf_posed.specs.ProblemData.{ProblemData, problem_job, problem_release}
use Rattle.tf_schedule.specs.declared.piece.Piece.{Piece}
use Rattle.tf_schedule.specs.Drawing.{drawing}
use Rattle.tf_schedule.specs.SemiActive.{stretch}
use Rattle.tf_plan.specs.Order.{IsFeasible}
use Rattle.tf_plan.specs.Serial.{IsSerial, IsPartly}
use Rattle.tf_plan.specs.SerialOrder.{IsSerialOrder}
use Rattle.tf_plan.proofs.Fitting.{serial_fits, serial_none}
use Rattle.tf_plan.proofs.Steps.{partly_start, partly_more, serial_more}

module _ (k : ProblemData) (sized : IsSized k) (order : List ℕ) (sound : IsSerialOrder k order)
  where
    module _ (x : ℕ) (within : x < length order) (ps : List Piece) (now : ℕ)
        (is : IsSerial k order x ps now) where
      abbrev j : ℕ
      j = get_or order x 0

      abbrev steps : List ℕ
      steps = steps_of k j

      abbrev start : ℕ
      start = max now (problem_release k j)

      -- the first steps of the next job
      laid_steps : (done : ℕ) → done ≤ length steps
          → (qs : List Piece) × (end : ℕ) × IsPartly k order x done qs end
      laid_steps zero le =
          (ps, start, partly_start k sized order sound x within ps now start is refl)
      laid_steps (suc done) le =
          let (qs, end, part) = laid_steps done (omega (arith, le)) in
          let a : ℕ = get_or steps done 0 in
          let t : ℕ = get_or (problem_job k j).times a 0 in
          let step : done + 1 ≡ suc done = omega arith in (
            qs ++ stretch j (a + 1) end t,
            end + t,
            subst (λ n. IsPartly k order x n (qs ++ stretch j (a + 1) end t) (end + t)) step
                (partly_more k sized order sound x within done (omega (arith, le)) t (a + 1) j (end + t)
                qs (qs ++ stretch j (a + 1) end t) end part refl refl refl refl refl),
          )

      -- all of them
      laid_job : (qs : List Piece) × (end : ℕ) × IsSerial k order (x + 1) qs end
      laid_job =
          let (qs, end, part) = laid_steps (length steps) (omega arith) in
          (qs, end, serial_more k sized order sound x within (length steps) qs end part (omega arith))

    -- the first jobs of the order
    laid : (count : ℕ) → count ≤ length order
        → (ps : List Piece) × (now : ℕ) × IsSerial k order count ps now
    laid zero le = ([], 0, serial_none k order sized sound)
    laid (suc x) le =
        let (ps, now, is) = laid x (omega (arith, le)) in
        let (qs, end, more) = laid_job x (omega (arith, le)) ps now is in
        let same : x + 1 ≡ suc x = omega arith in
        (qs, end, subst (λ n. IsSerial k order n qs end) same more)

    pub order_fits : IsFeasible k
    order_fits =
        let (ps, now, is) = laid (length order) (omega arith) in
        (drawing k.machines ps, serial_fits k sized order sound ps now is)
