-- The steps of a route in a table, read part by part.
use Rattle.std.proofs.Common.{◌≡◌, ℕ, List, [], ◌∷◌, ◌++◌, Result, Ok, sym, ap, subst, ◌∙◌}
use Rattle.tf_model.specs.Outcome.{◌>>=◌}
use Rattle.tf_read.specs.declared.fault.ReadFault.{ReadFault}
use Rattle.tf_read.specs.Faults.{Fails}
use Rattle.tf_read.proofs.Each.{fails_then}
use Rattle.tf_routes.specs.declared.route.Step.{Step}
use Rattle.tf_routes.specs.RoutedTable.{step_at, steps_at}

-- one step more
pub steps_next : (line : ℕ) (before new : List Step) (step : Step) (part : List ℕ)
    (all more : List (List ℕ)) (total : Result (List Step) ReadFault)
    → all ≡ more → step_at before line part ≡ Ok step → new ≡ before ++ step ∷ []
    → steps_at before line (part ∷ all) ≡ total
    → steps_at new line more ≡ total
unfolding steps_at
steps_next line before new step part all more total is read push same =
    ap (λ ss. steps_at ss line more) push
    ∙ ap (steps_at (before ++ step ∷ []) line) (sym is)
    ∙ sym (ap (λ r. r >>= λ s. steps_at (before ++ s ∷ []) line all) read)
    ∙ same

-- a step with a fault
pub steps_fail : (line : ℕ) (before : List Step) (part : List ℕ) (all : List (List ℕ))
    (e : ReadFault)
    (total : Result (List Step) ReadFault)
    → Fails e (step_at before line part) → steps_at before line (part ∷ all) ≡ total → Fails e total
unfolding steps_at
steps_fail line before part all e total read same =
    subst (λ r. Fails e r) same
    (fails_then e (step_at before line part) (λ s. steps_at (before ++ s ∷ []) line all) read)

-- no step more
pub steps_done : (line : ℕ) (steps : List Step) (total : Result (List Step) ReadFault)
    → steps_at steps line [] ≡ total → total ≡ Ok steps
unfolding steps_at
steps_done line steps total same = sym same
