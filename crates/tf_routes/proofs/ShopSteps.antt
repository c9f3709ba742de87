-- The steps of a job shop, read one after another.
use Rattle.std.proofs.Common.{◌≡◌, ℕ, suc, List, [], ◌∷◌, ◌++◌, Result, Ok, sym, ap, subst, ◌∙◌}
use Rattle.tf_words.specs.Words.{Word}
use Rattle.tf_model.specs.Outcome.{◌>>=◌}
use Rattle.tf_read.specs.declared.fault.ReadFault.{ReadFault}
use Rattle.tf_read.specs.Faults.{Fails}
use Rattle.tf_read.proofs.Each.{fails_then}
use Rattle.tf_routes.specs.declared.route.Step.{Step}
use Rattle.tf_routes.specs.JobShop.{step_first, route_first, routes_in}

-- one step more of a route
pub route_next : (machines left next : ℕ) (before new : List Step) (step : Step)
    (words more : List Word)
    (total : Result (List Step × List Word) ReadFault)
    → left ≡ suc next → new ≡ before ++ step ∷ []
    → step_first machines before words ≡ Ok (step, more)
    → route_first machines left before words ≡ total
    → route_first machines next new more ≡ total
unfolding route_first
route_next machines left next before new step words more total count push read same =
    ap (λ ss. route_first machines next ss more) push
    ∙ sym (ap (λ r. r >>= λ x. route_first machines next (before ++ x.0 ∷ []) x.1) read)
    ∙ sym (ap (λ (n : ℕ). route_first machines n before words) count)
    ∙ same

-- a step with a fault
pub route_fails : (machines left next : ℕ) (before : List Step) (words : List Word) (e : ReadFault)
    (total : Result (List Step × List Word) ReadFault)
    → left ≡ suc next → Fails e (step_first machines before words)
    → route_first machines left before words ≡ total → Fails e total
unfolding route_first
route_fails machines left next before words e total count read same =
    subst (λ r. Fails e r)
    (sym (ap (λ (n : ℕ). route_first machines n before words) count) ∙ same)
    (fails_then e (step_first machines before words)
    (λ x. route_first machines next (before ++ x.0 ∷ []) x.1) read)

-- no step more
pub route_done : (machines left : ℕ) (before : List Step) (words : List Word)
    (total : Result (List Step × List Word) ReadFault)
    → left ≡ 0 → route_first machines left before words ≡ total → total ≡ Ok (before, words)
unfolding route_first
route_done machines left before words total count same =
    sym same ∙ ap (λ (n : ℕ). route_first machines n before words) count

-- one route more
pub routes_next : (machines left next : ℕ) (before new : List (List Step)) (route : List Step)
    (words more : List Word) (total : Result (List (List Step)) ReadFault)
    → left ≡ suc next → new ≡ before ++ route ∷ []
    → route_first machines machines [] words ≡ Ok (route, more)
    → routes_in machines left before words ≡ total
    → routes_in machines next new more ≡ total
unfolding routes_in
routes_next machines left next before new route words more total count push read same =
    ap (λ rs. routes_in machines next rs more) push
    ∙ sym (ap (λ r. r >>= λ x. routes_in machines next (before ++ x.0 ∷ []) x.1) read)
    ∙ sym (ap (λ (n : ℕ). routes_in machines n before words) count)
    ∙ same

-- a route with a fault
pub routes_fail : (machines left next : ℕ) (before : List (List Step)) (words : List Word)
    (e : ReadFault)
    (total : Result (List (List Step)) ReadFault)
    → left ≡ suc next → Fails e (route_first machines machines [] words)
    → routes_in machines left before words ≡ total → Fails e total
unfolding routes_in
routes_fail machines left next before words e total count read same =
    subst (λ r. Fails e r)
    (sym (ap (λ (n : ℕ). routes_in machines n before words) count) ∙ same)
    (fails_then e (route_first machines machines [] words)
    (λ x. routes_in machines next (before ++ x.0 ∷ []) x.1) read)

-- no route more
pub routes_done : (machines left : ℕ) (before : List (List Step)) (words : List Word)
    (total : Result (List (List Step)) ReadFault)
    → left ≡ 0 → routes_in machines left before words ≡ total → total ≡ Ok before
unfolding routes_in
routes_done machines left before words total count same =
    sym same ∙ ap (λ (n : ℕ). routes_in machines n before words) count
