-- The instance of a job shop by its sizes.
use Rattle.std.proofs.Common.{◌≡◌, ℕ, ◌<◌, ◌≤◌, true, false, eqb, ltb, List, [], map, Some, Ok, Err, refl, sym, ap, subst, ◌∙◌, arith}
use Rattle.std.proofs.lemmas.Bool.{le-ltb, lt-ltb, ne_eqb}
use Rattle.tf_words.specs.Words.{Word}
use Rattle.tf_model.specs.JobFields.{JobFields}
use Rattle.tf_model.specs.Limit.{most_jobs, most_machines}
use Rattle.tf_model.specs.Outcome.{◌>>=◌}
use Rattle.tf_read.specs.declared.fault.ReadFault.{ReadFault}
use Rattle.tf_read.specs.declared.fault.ReadFault.TheVariants.{BadLine, NoJobs, TooManyJobs}
use Rattle.tf_read.specs.Faults.{Fails}
use Rattle.tf_read.proofs.Each.{fails_then}
use Rattle.tf_routes.specs.declared.route.Step.{Step}
use Rattle.tf_routes.specs.JobShop.{routed_job, routes_in, shop_of, shop_sized}

pub no_jobs : (line jobs machines : ℕ) (words : List Word) → jobs ≡ 0
    → shop_sized line jobs machines words ≡ Err NoJobs
unfolding shop_sized
no_jobs line jobs machines words e =
    let none : eqb jobs 0 ≡ true = ap (λ (n : ℕ). eqb n 0) e in rw none refl

pub many_jobs : (line jobs machines : ℕ) (words : List Word) → 0 < jobs → most_jobs < jobs
    → shop_sized line jobs machines words ≡ Err TooManyJobs
unfolding shop_sized
many_jobs line jobs machines words some many =
    let a : eqb jobs 0 ≡ false = ne_eqb _ _ (λ e. omega (arith, e, some)) in
    let b : ltb most_jobs jobs ≡ true = lt-ltb _ _ many in rw (a, b) refl

pub no_machines : (line jobs machines : ℕ) (words : List Word) → 0 < jobs → jobs ≤ most_jobs
    → machines ≡ 0 → shop_sized line jobs machines words ≡ Err (BadLine line)
unfolding shop_sized
no_machines line jobs machines words some few e =
    let a : eqb jobs 0 ≡ false = ne_eqb _ _ (λ e. omega (arith, e, some)) in
    let b : ltb most_jobs jobs ≡ false = le-ltb _ _ few in
    let none : eqb machines 0 ≡ true = ap (λ (n : ℕ). eqb n 0) e in rw (a, b, none) refl

pub many_machines : (line jobs machines : ℕ) (words : List Word) → 0 < jobs → jobs ≤ most_jobs
    → 0 < machines → most_machines < machines
    → shop_sized line jobs machines words ≡ Err (BadLine line)
unfolding shop_sized
many_machines line jobs machines words some few one many =
    let a : eqb jobs 0 ≡ false = ne_eqb _ _ (λ e. omega (arith, e, some)) in
    let b : ltb most_jobs jobs ≡ false = le-ltb _ _ few in
    let c : eqb machines 0 ≡ false = ne_eqb _ _ (λ e. omega (arith, e, one)) in
    let d : ltb most_machines machines ≡ true = lt-ltb _ _ many in rw (a, b, c, d) refl

-- sizes that are allowed
pub record AreSizes (jobs machines : ℕ) : Type 0 where
  pub some : 0 < jobs
  pub few : jobs ≤ most_jobs
  pub one : 0 < machines
  pub several : machines ≤ most_machines

sized : (line jobs machines : ℕ) (words : List Word) → AreSizes jobs machines
    → (routes_in machines jobs [] words >>= λ routes. Ok (shop_of machines routes))
    ≡ shop_sized line jobs machines words
unfolding shop_sized
sized line jobs machines words sizes =
    let a : eqb jobs 0 ≡ false = ne_eqb _ _ (λ e. omega (arith, e, sizes.some)) in
    let b : ltb most_jobs jobs ≡ false = le-ltb _ _ sizes.few in
    let c : eqb machines 0 ≡ false = ne_eqb _ _ (λ e. omega (arith, e, sizes.one)) in
    let d : ltb most_machines machines ≡ false = le-ltb _ _ sizes.several in rw (a, b, c, d) refl

pub sized_fails : (line jobs machines : ℕ) (words : List Word) (e : ReadFault)
    → AreSizes jobs machines → Fails e (routes_in machines jobs [] words)
    → Fails e (shop_sized line jobs machines words)
sized_fails line jobs machines words e sizes h =
    subst (λ r. Fails e r) (sized line jobs machines words sizes)
    (fails_then e (routes_in machines jobs [] words) (λ routes. Ok (shop_of machines routes)) h)

pub sized_read : (line jobs machines : ℕ) (words : List Word) (routes : List (List Step))
    → AreSizes jobs machines → routes_in machines jobs [] words ≡ Ok routes
    → shop_sized line jobs machines words ≡ Ok (shop_of machines routes)
sized_read line jobs machines words routes sizes read =
    sym (sized line jobs machines words sizes)
    ∙ ap (λ r. r >>= λ routes. Ok (shop_of machines routes)) read

-- the instance of jobs that were made of routes
pub made : (machines : ℕ) (routes given : List (List Step)) (jobs : List JobFields)
    (arcs : List (ℕ × ℕ))
    → jobs ≡ map routed_job given → given ≡ routes → arcs ≡ []
    → (shop_of machines routes).instance
    ≡ record { jobs = jobs; arcs = arcs; machines = Some machines }
made machines routes given jobs arcs are same none =
    let e : jobs ≡ map routed_job routes = are ∙ ap (map routed_job) same in rw (e, none) refl
