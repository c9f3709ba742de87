-- No timetable fits a task whose arcs have a cycle.
use Rattle.std.proofs.Common.{◌≡◌, ℕ, zero, suc, ◌<◌, ◌≤◌, List, [], ◌∷◌, refl, arith, IsTrue}
use Rattle.std.specs.List.{Contains}
use Rattle.std.proofs.lemmas.List.Elements.{All-contains}
use Rattle.tf_model.specs.Feasible.{IsKept}
use Rattle.tf_model.specs.Timetable.{Timetable, completion}
use Rattle.tf_model.proofs.Units.{cell_at_completion}
use Rattle.tf_posed.specs.ProblemData.{ProblemData, IsProblemJob}
use Rattle.tf_posed.specs.FitsProblem.{FitsProblem}
use Rattle.tf_problem.proofs.Alone.{work-le-completion}
use Rattle.tf_problem.proofs.Pushed.{needed-by_arcs, some_work}
use Rattle.tf_bound.specs.Sized.{IsSized}
use Rattle.tf_bound.proofs.Sound.{sound}
use Rattle.tf_plan.specs.Order.{LeadsBy, IsCycleOf}

module _ (k : ProblemData) (sized : IsSized k) (rows : Timetable) (fits : FitsProblem k rows)
    (prec : IsTrue k.problem.prec) where
  some_row : (j : ℕ) → IsProblemJob k j → 1 ≤ completion rows j
  some_row j job =
      omega (
        arith,
        work-le-completion k (sound k sized) rows fits j job,
        some_work k (sound k sized) rows fits (needed-by_arcs k prec) j job,
      )

  later : (i j : ℕ) → Contains k.arcs (i, j) → completion rows i < completion rows j
  later i j at =
      let jobs = All-contains (λ arc. IsProblemJob k arc.0 × IsProblemJob k arc.1) k.arcs (i, j)
      sized.arcs_in at in
      by_last (completion rows i) (completion rows j) refl refl (some_row i jobs.0)
      (some_row j jobs.1)
    where
      kept : IsKept rows (i, j)
      kept = All-contains (IsKept rows) k.arcs (i, j) (fits.in_order prec) at

      by_last : (c d : ℕ) → completion rows i ≡ c → completion rows j ≡ d → 1 ≤ c → 1 ≤ d
          → completion rows i < completion rows j
      by_last zero d is_i is_j some some' = absurd (omega arith)
      by_last (suc c) zero is_i is_j some some' = absurd (omega arith)
      by_last (suc c) (suc d) is_i is_j some some' =
          let (a, at_i) = cell_at_completion i rows c is_i in
          let (b, at_j) = cell_at_completion j rows d is_j in
          omega (arith, is_i, is_j, kept c d a b at_i at_j)

  leads_later : (j : ℕ) (jobs : List ℕ) (end : ℕ) → LeadsBy k.arcs j jobs end
      → completion rows j < completion rows end
  leads_later j [] end at = later j end at
  leads_later j (i ∷ jobs) end (at, rest) =
      omega (arith, later j i at, leads_later i jobs end rest)

  pub no_cycle : (jobs : List ℕ) → IsCycleOf k.arcs jobs → ⊥
  no_cycle [] cycle = cycle
  no_cycle (j ∷ jobs) cycle = omega (arith, leads_later j jobs j cycle)
