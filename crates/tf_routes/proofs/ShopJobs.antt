-- The jobs of a job shop are those of an instance.
use Rattle.std.proofs.Common.{◌≡◌, ℕ, zero, suc, ◌+◌, ◌<◌, ◌≤◌, pos, negsuc, false, ltb, List, [], ◌∷◌, ◌++◌, length, map, get_or, Some, Ok, refl, sym, ap, subst, arith}
use Rattle.std.specs.List.{All, position_or_len}
use Rattle.std.proofs.lemmas.Bool.{and_parts, ltb-true, le-ltb}
use Rattle.std.proofs.lemmas.List.{length-append, length-map}
use Rattle.std.proofs.lemmas.List.Elements.{All-append}
use Rattle.tf_words.specs.Number.{number, limit}
use Rattle.tf_words.specs.Words.{Word}
use Rattle.tf_words.specs.declared.number.Number.{Number}
use Rattle.tf_words.specs.declared.number.Number.TheVariants.{NotANumber, TooLarge, Value}
use Rattle.tf_model.specs.InstanceData.{IsInstance, has_negative, has_beyond}
use Rattle.tf_model.specs.Limit.{most_jobs, most_machines}
use Rattle.tf_model.specs.Outcome.{◌>>=◌}
use Rattle.tf_model.proofs.Judged.{judged, none_found, past_end}
use Rattle.tf_model.proofs.Outcomes.{bind_ok}
use Rattle.tf_read.proofs.Judged.{same_ok, then_ok}
use Rattle.tf_routes.specs.declared.route.Step.{Step}
use Rattle.tf_routes.specs.Routes.{time_in, visits}
use Rattle.tf_routes.specs.RoutedData.{AreSteps, HasRoutes}
use Rattle.tf_routes.proofs.Routes.{is_false, no_step, one, step_more, time_small}
use Rattle.tf_routes.specs.JobShop.{first_time, machine_first, machine_in, route_first, routed_job, routes_in, shop_of, step_first, time_first}

-- ---- a step

first_small : (words : List Word) (x : ℕ × List Word) → time_first words ≡ Ok x → x.0 ≤ limit
unfolding time_first
first_small [] x h = cc
first_small (word ∷ words) x h =
    let a = bind_ok (time_in word.line word.bytes) (λ t. Ok (t, words)) x h in
    let e : a.0 ≡ x.0 = ap (λ (p : ℕ × List Word). p.0) (same_ok (Ok (a.0, words)) refl a.2) in
    subst (λ (n : ℕ). n ≤ limit) e (time_small word.line word.bytes a.0 a.1)

-- a machine of so many on which none of these steps is
abbrev IsNew : ℕ → List Step → ℕ → Type 0
IsNew machines before machine = (machine < machines) × (visits machine before ≡ false)

machine_new : (machines : ℕ) (before : List Step) (line : ℕ) (n : Number) (machine : ℕ)
    → machine_in machines before line n ≡ Ok machine → IsNew machines before machine
machine_new machines before line NotANumber machine h = cc
machine_new machines before line TooLarge machine h = cc
machine_new machines before line (Value (negsuc n)) machine h = cc
machine_new machines before line (Value (pos n)) machine h =
    let both = then_ok _ _ _ _ h in
    let parts = and_parts _ _ both.0 in
    subst (IsNew machines before) (same_ok (Ok n) refl both.1)
    (ltb-true n machines parts.0, is_false (visits n before) parts.1)

first_new : (machines : ℕ) (before : List Step) (words : List Word) (x : ℕ × List Word)
    → machine_first machines before words ≡ Ok x → IsNew machines before x.0
unfolding machine_first
first_new machines before [] x h = cc
first_new machines before (word ∷ words) x h =
    let a = bind_ok (machine_in machines before word.line (number word.bytes))
    (λ m. Ok (m, words)) x h in
    let e : a.0 ≡ x.0 = ap (λ (p : ℕ × List Word). p.0) (same_ok (Ok (a.0, words)) refl a.2) in
    subst (IsNew machines before) e
    (machine_new machines before word.line (number word.bytes) a.0 a.1)

step_new : (machines : ℕ) (before : List Step) (words : List Word) (x : Step × List Word)
    → step_first machines before words ≡ Ok x
    → IsNew machines before x.0.machine × (x.0.time ≤ limit)
unfolding step_first
step_new machines before words x h =
    let a = bind_ok (machine_first machines before words)
    (λ m. time_first m.1 >>= λ t. Ok (record { machine = m.0; time = t.0 }, t.1)) x h in
    let b = bind_ok (time_first a.0.1)
    (λ t. Ok (record { machine = a.0.0; time = t.0 }, t.1)) x a.2 in
    let same = same_ok (Ok (record { machine = a.0.0; time = b.0.0 }, b.0.1)) refl b.2 in
    let machine : a.0.0 ≡ x.0.machine = ap (λ (p : Step × List Word). p.0.machine) same in
    let time : b.0.0 ≡ x.0.time = ap (λ (p : Step × List Word). p.0.time) same in (
      subst (IsNew machines before) machine (first_new machines before words a.0 a.1),
      subst (λ (n : ℕ). n ≤ limit) time (first_small a.0.1 b.0 b.1),
    )

-- ---- routes

route_is : (machines count : ℕ) (before : List Step) (words : List Word)
    (x : List Step × List Word)
    → AreSteps machines before → route_first machines count before words ≡ Ok x
    → AreSteps machines x.0
unfolding route_first
route_is machines zero before words x is h =
    subst (AreSteps machines)
    (ap (λ (p : List Step × List Word). p.0) (same_ok (Ok (before, words)) refl h)) is
route_is machines (suc count) before words x is h =
    let a = bind_ok (step_first machines before words)
    (λ s. route_first machines count (before ++ s.0 ∷ []) s.1) x h in
    let new = step_new machines before words a.0 a.1 in
    route_is machines count (before ++ a.0.0 ∷ []) a.0.1 x
    (step_more machines before a.0.0 is new.0.0 new.0.1 new.1) a.2

routes_are : (machines jobs : ℕ) (before routes : List (List Step)) (words : List Word)
    → All (AreSteps machines) before → routes_in machines jobs before words ≡ Ok routes
    → All (AreSteps machines) routes
unfolding routes_in
routes_are machines zero before routes words are h =
    subst (λ rs. All (AreSteps machines) rs) (same_ok (Ok before) refl h) are
routes_are machines (suc jobs) before routes words are h =
    let a = bind_ok (route_first machines machines [] words)
    (λ r. routes_in machines jobs (before ++ r.0 ∷ []) r.1) routes h in
    routes_are machines jobs (before ++ a.0.0 ∷ []) routes a.0.1
    (All-append (AreSteps machines) before (a.0.0 ∷ []) are
    (one (AreSteps machines) a.0.0 (route_is machines machines [] words a.0 (no_step machines) a.1)))
    a.2

pub all_routes : (machines jobs : ℕ) (routes : List (List Step)) (words : List Word)
    → routes_in machines jobs [] words ≡ Ok routes → All (AreSteps machines) routes
all_routes machines jobs routes words h =
    routes_are machines jobs [] routes words (λ k d lt. absurd (omega (arith, lt))) h

abbrev BeginsShort : List Step → Type 0
BeginsShort route = first_time route ≤ limit

first_short : (machines : ℕ) (route : List Step) → AreSteps machines route → BeginsShort route
first_short machines [] is = omega arith
first_short machines (step ∷ steps) is = is.short 0 step (omega arith)

-- each job's first time is within the limit
pub routes_short : (machines jobs : ℕ) (routes : List (List Step)) (words : List Word)
    → routes_in machines jobs [] words ≡ Ok routes
    → All (λ route. first_time route ≤ limit) routes
routes_short machines jobs routes words h =
    λ k d lt. first_short machines (get_or routes k d)
    (all_routes machines jobs routes words h k d lt)

-- there are as many routes as jobs
pub routes_length : (machines jobs : ℕ) (before routes : List (List Step)) (words : List Word)
    → routes_in machines jobs before words ≡ Ok routes → length routes ≡ length before + jobs
unfolding routes_in
routes_length machines zero before routes words h =
    omega (arith, ap length (same_ok (Ok before) refl h))
routes_length machines (suc jobs) before routes words h =
    let a = bind_ok (route_first machines machines [] words)
    (λ r. routes_in machines jobs (before ++ r.0 ∷ []) r.1) routes h in
    omega (
      arith,
      routes_length machines jobs (before ++ a.0.0 ∷ []) routes a.0.1 a.2,
      length-append before (a.0.0 ∷ []),
    )

-- ---- the instance

none_negative : (routes : List (List Step))
    → position_or_len has_negative (map routed_job routes) ≡ length (map routed_job routes)
none_negative [] = refl
none_negative (route ∷ routes) =
    let e : ltb (first_time route) 0 ≡ false = le-ltb _ _ (omega arith) in
    past_end has_negative (routed_job route) (map routed_job routes) (rw e refl)
    (none_negative routes)

none_beyond : (routes : List (List Step)) → All BeginsShort routes
    → position_or_len has_beyond (map routed_job routes) ≡ length (map routed_job routes)
none_beyond [] h = refl
none_beyond (route ∷ routes) h =
    let le : first_time route ≤ limit = h 0 route (omega arith) in
    let e : ltb limit (first_time route) ≡ false = le-ltb _ _ le in
    past_end has_beyond (routed_job route) (map routed_job routes) (rw e refl)
    (none_beyond routes (λ k d lt. h (suc k) d (omega (arith, lt))))

-- the jobs of the routes that were read are an instance
pub shop_instance : (machines jobs : ℕ) (routes : List (List Step)) (words : List Word)
    → routes_in machines jobs [] words ≡ Ok routes → 0 < jobs → jobs ≤ most_jobs
    → 0 < machines → machines ≤ most_machines
    → IsInstance (record { jobs = map routed_job routes; arcs = []; machines = Some machines })
shop_instance machines jobs routes words read some few one_machine few_machines =
    let short = routes_short machines jobs routes words read in
    let count : length routes ≡ jobs =
    omega (arith, routes_length machines jobs [] routes words read) in
    let all = length-map routes routed_job in
    let low : ltb machines 1 ≡ false = le-ltb _ _ (omega (arith, one_machine)) in
    let high : ltb most_machines machines ≡ false = le-ltb _ _ few_machines in
    judged (record { jobs = map routed_job routes; arcs = []; machines = Some machines }) (record {
      some = omega (arith, all, count, some);
      few = omega (arith, all, count, few);
      machines = rw (low, high) refl;
      arcs = omega arith;
      negative = none_found has_negative (map routed_job routes) (none_negative routes);
      beyond = none_found has_beyond (map routed_job routes) (none_beyond routes short);
      bad_arc = refl;
    })

-- and each job has a route
pub shop_routed : (machines jobs : ℕ) (routes : List (List Step)) (words : List Word)
    → routes_in machines jobs [] words ≡ Ok routes → HasRoutes machines (shop_of machines routes)
shop_routed machines jobs routes words read = record {
  count = sym (length-map routes routed_job);
  routes = all_routes machines jobs routes words read;
}
