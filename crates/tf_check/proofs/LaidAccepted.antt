-- An answer whose pieces, in any order, are those of operations that are laid one after another.
use Rattle.std.proofs.Common.{◌≡◌, ℕ, ◌<◌, ℤ, ◌≤ℤ◌, List, Ok, sym, subst}
use Rattle.std.specs.List.Sorted.{IsPermutation}
use Rattle.std.proofs.lemmas.List.Sorted.{All-permutation}
use Rattle.tf_model.specs.Cost.{cost}
use Rattle.tf_model.specs.Feasible.{Fits}
use Rattle.tf_model.specs.SchedulingTask.{SchedulingTask}
use Rattle.tf_model.specs.Sound.{IsSound}
use Rattle.tf_schedule.specs.declared.piece.Piece.{Piece}
use Rattle.tf_schedule.specs.declared.semi_active.Operation.{Operation}
use Rattle.tf_schedule.specs.Drawing.{drawing, IsOnMachine}
use Rattle.tf_schedule.specs.SemiActive.{laid}
use Rattle.tf_schedule.proofs.LaidFits.{IsListed, laid_none_twice, laid_on_machines, laid_numbered, sorted_none_twice, sorted_sound}
use Rattle.tf_schedule.proofs.Permuted.{draws_drawing, drawing_permutation}
use Rattle.tf_check.specs.Accepted.{IsAccepted}
use Rattle.tf_check.specs.Bound.{bound_by}
use Rattle.tf_check.specs.Claim.{Claim}
use Rattle.tf_check.proofs.SolutionAccepted.{solution_accepted}

module _ (S : ℕ → ℕ → ℕ → ℕ → Type 0) (task : SchedulingTask) (os : List Operation)
    (sound : IsSound task) (listed : IsListed S task os)
    (qs : List Piece) (same : IsPermutation (laid os) qs) where
  -- where the timetable fits and costs at most the certificate's bound, the bound is the value
  pub laid_accepted : Fits task (drawing task.machines (laid os)) → (v : ℤ) (claim : Claim)
      → bound_by claim task ≡ Ok v → cost task (drawing task.machines (laid os)) ≤ℤ v
      → IsAccepted task (record { pieces = qs; value = v; certificate = claim })
  laid_accepted fits v claim bounded most =
      let drawn : drawing task.machines qs ≡ drawing task.machines (laid os) =
      drawing_permutation task.machines (laid os) qs (laid_none_twice S task os sound listed)
      same in
      solution_accepted task qs v claim sound
      (record {
        rows = drawing task.machines qs;
        fitting = record {
          pieces = sorted_sound S task os sound listed qs same;
          draws = draws_drawing task.machines qs
              (sorted_none_twice S task os sound listed qs same)
              (All-permutation (λ p. 0 < p.job) (laid os) qs same
              (laid_numbered S task os sound listed))
              (All-permutation (IsOnMachine task.machines) (laid os) qs same
              (laid_on_machines S task os sound listed));
          fits = subst (Fits task) (sym drawn) fits;
        };
        most = subst (λ rows. cost task rows ≤ℤ v) (sym drawn) most;
        bounded = bounded;
      })
