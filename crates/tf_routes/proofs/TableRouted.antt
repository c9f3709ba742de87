-- Each job of a table that was read has a route.
use Rattle.std.proofs.Common.{◌≡◌, ℕ, ◌+◌, ◌-◌, ◌<◌, ◌≤◌, pos, negsuc, Bool, true, false, List, [], ◌∷◌, ◌++◌, length, map, filter, Option, None, Some, Ok, refl, sym, ap, subst, ◌∙◌, arith}
use Rattle.std.specs.Option.{is_some}
use Rattle.std.specs.List.{All}
use Rattle.std.proofs.lemmas.Bool.{and_parts, leb-true}
use Rattle.std.proofs.lemmas.List.Elements.{All-append}
use Rattle.tf_words.specs.Number.{number, limit}
use Rattle.tf_words.specs.Words.{Line}
use Rattle.tf_words.specs.WordParts.{divided, parts}
use Rattle.tf_words.specs.declared.number.Number.{Number}
use Rattle.tf_words.specs.declared.number.Number.TheVariants.{NotANumber, TooLarge, Value}
use Rattle.tf_model.specs.InstanceData.{InstanceData}
use Rattle.tf_model.specs.Limit.{most_machines}
use Rattle.tf_model.specs.Outcome.{◌>>=◌}
use Rattle.tf_model.proofs.Outcomes.{bind_ok}
use Rattle.tf_read.specs.Faults.{each_from}
use Rattle.tf_read.specs.JobTable.{table_of}
use Rattle.tf_read.proofs.Judged.{each_cons, each_none, else_ok, same_ok, then_ok}
use Rattle.tf_routes.specs.declared.route.Step.{Step}
use Rattle.tf_routes.specs.Routes.{time_in, visits}
use Rattle.tf_routes.specs.RoutedData.{AreSteps, HasRoutes}
use Rattle.tf_routes.specs.RoutedTable.{is_job, job_route, machine_named, route_at, routes_on, step_at, step_of, steps_at, times_in, unrouted_line}
use Rattle.tf_routes.proofs.JobCount.{routes_count}
use Rattle.tf_routes.proofs.Routes.{is_false, no_step, one, step_more, time_small}

abbrev IsNew : List Step → ℕ → Type 0
IsNew before machine = (machine < most_machines) × (visits machine before ≡ false)

machine_new : (before : List Step) (line : ℕ) (n : Number) (machine : ℕ)
    → machine_named before line n ≡ Ok machine → IsNew before machine
machine_new before line NotANumber machine h = cc
machine_new before line TooLarge machine h = cc
machine_new before line (Value (negsuc m)) machine h = cc
machine_new before line (Value (pos m)) machine h =
    let both = then_ok _ _ _ _ h in
    let parts = and_parts _ _ both.0 in
    let range = and_parts _ _ parts.0 in
    let low : 1 ≤ m = leb-true _ _ range.0 in
    let high : m ≤ most_machines = leb-true _ _ range.1 in
    subst (IsNew before) (same_ok (Ok (m - 1)) refl both.1)
    (omega (arith, low, high), is_false (visits (m - 1) before) parts.1)

step_new : (before : List Step) (line : ℕ) (sides : Option (List ℕ × List ℕ)) (step : Step)
    → step_of before line sides ≡ Ok step → IsNew before step.machine × (step.time ≤ limit)
step_new before line None step h = cc
step_new before line (Some sides) step h =
    let a = bind_ok (time_in line sides.0)
    (λ time. machine_named before line (number sides.1)
    >>= λ machine. Ok (record { machine = machine; time = time })) step (else_ok _ _ _ _ h).1 in
    let b = bind_ok (machine_named before line (number sides.1))
    (λ machine. Ok (record { machine = machine; time = a.0 })) step a.2 in
    let same = same_ok (Ok (record { machine = b.0; time = a.0 })) refl b.2 in (
      subst (IsNew before) (ap (λ (s : Step). s.machine) same)
          (machine_new before line (number sides.1) b.0 b.1),
      subst (λ (n : ℕ). n ≤ limit) (ap (λ (s : Step). s.time) same)
          (time_small line sides.0 a.0 a.1),
    )

steps_are : (line : ℕ) (before : List Step) (all : List (List ℕ)) (steps : List Step)
    → AreSteps most_machines before → steps_at before line all ≡ Ok steps
    → AreSteps most_machines steps
unfolding steps_at step_at
steps_are line before [] steps is h = subst (AreSteps most_machines) (same_ok (Ok before) refl h) is
steps_are line before (part ∷ all) steps is h =
    let a = bind_ok (step_at before line part) (λ s. steps_at (before ++ s ∷ []) line all) steps
    h in
    let new = step_new before line (divided 64 part) a.0 a.1 in
    steps_are line (before ++ a.0 ∷ []) all steps
    (step_more most_machines before a.0 is new.0.0 new.0.1 new.1) a.2

route_is : (line : ℕ) (value : List ℕ) (has : Bool) (route : List Step)
    → is_some (divided 64 value) ≡ has → route_at line value ≡ Ok route
    → AreSteps most_machines route
unfolding route_at
route_is line value true route is h = steps_are line [] (parts value) route (no_step most_machines)
    (rw is at h)
route_is line value false route is h =
    subst (AreSteps most_machines) (same_ok (Ok []) refl (rw is at h)) (no_step most_machines)

routes_are : (k : ℕ) (all : List Line) (routes : List (List Step))
    → each_from (λ k. job_route) k all ≡ Ok routes
    → (length routes ≡ length all) × All (AreSteps most_machines) routes
routes_are k [] routes h =
    let none = each_none (λ k. job_route) k routes h in (
      sym (ap length none),
      subst (λ rs. All (AreSteps most_machines) rs) none (λ k d lt. absurd (omega (arith, lt))),
    )
routes_are k (line ∷ all) routes h =
    let r = each_cons (λ k. job_route) k line all routes h in
    let more = routes_are (k + 1) all r.1 r.3 in (
      omega (arith, more.0, ap length r.4),
      subst (λ rs. All (AreSteps most_machines) rs) r.4
          (All-append (AreSteps most_machines) (r.0 ∷ []) r.1
          (one (AreSteps most_machines) r.0
          (route_is line.number (times_in line.words) _ r.0 refl r.2))
          more.1),
    )

-- a route for each job
pub table_routed_is : (all : List Line) (i : InstanceData) (routes : List (List Step))
    → table_of (map unrouted_line all) ≡ Ok i → routes_on all ≡ Ok routes
    → HasRoutes most_machines (record { instance = i; routes = routes })
table_routed_is all i routes table read =
    let are = routes_are 1 (filter is_job all) routes read in
    record { count = are.0 ∙ routes_count all i table; routes = are.1 }
