-- The routes of all jobs.
use Rattle.std.proofs.Common.{◌≡◌, ℕ, zero, suc, ◌+◌, ◌<◌, false, cond, drop, List, [], ◌∷◌, ◌++◌, length, get_or, None, sym, ap, subst, ◌∙◌, arith, append_assoc}
use Rattle.std.specs.List.{All}
use Rattle.std.specs.Option.{option_map, option_or}
use Rattle.std.proofs.Math.Seq.{drop-cons}
use Rattle.std.proofs.lemmas.Bool.{leb-false}
use Rattle.tf_model.specs.CostLaws.{none_of_two}
use Rattle.tf_model.specs.InstanceData.{InstanceData, first_with}
use Rattle.tf_model.specs.JobFields.{JobFields}
use Rattle.tf_model.proofs.Prepared.{neither, none_at, none_mapped}
use Rattle.tf_model.specs.declared.prepare.Refusal.TheVariants.{WrongTimes, ZeroTime}
use Rattle.tf_model.specs.declared.problem.Problem.{Problem}
use Rattle.tf_model.specs.Limit.{most_machines}
use Rattle.tf_posed.specs.ProblemData.{ProblemData, ProblemJobData}
use Rattle.tf_routes.specs.declared.route.Step.{Step}
use Rattle.tf_routes.specs.RoutedData.{AreSteps}
use Rattle.tf_prepare.specs.Preparing.{is_beyond, is_idle_route, job_in, machines_of, missing_in, much_in, routed_jobs_in, routed_task_in, routes_refusal_in, times_by, where_needed}

-- what holds of each route holds of one of them
pub of_each : (P : List Step → Type 0) (routes : List (List Step)) (k : ℕ) (route : List Step)
    → All P routes → k < length routes → route ≡ get_or routes k route → P route
of_each P routes k route each lt is = subst P (sym is) (each k route lt)

-- with one row more what is left begins a job later
pub row_more : (p : Problem) (m : ℕ) (routes : List (List Step)) (jobs : List JobFields) (k : ℕ)
    (route : List Step) (job : JobFields) (times visited : List ℕ) (row : ProblemJobData)
    (rows after : List ProblemJobData) → length routes ≡ length jobs → k < length jobs
    → job ≡ get_or jobs k job → route ≡ get_or routes k route
    → times ≡ times_by m route → visited ≡ machines_of route → row ≡ job_in p times visited job
    → after ≡ rows ++ row ∷ []
    → after ++ routed_jobs_in p m (drop (k + 1) routes) (drop (k + 1) jobs)
    ≡ rows ++ routed_jobs_in p m (drop k routes) (drop k jobs)
row_more p m routes jobs k route job times visited row rows after count h of_job of_route t v made
    pushed =
    let next : suc k ≡ k + 1 = omega arith in
    let lt : k < length routes = omega (arith, count, h) in
    let r : List Step = get_or routes k route in
    let j : JobFields = get_or jobs k job in
    let rest : List ProblemJobData = routed_jobs_in p m (drop (k + 1) routes) (drop (k + 1) jobs) in
    let same : row ≡ job_in p (times_by m r) (machines_of r) j =
    made ∙ ap (λ ts. job_in p ts visited job) t ∙ ap (λ vs. job_in p (times_by m route) vs job) v
    ∙ ap (λ x. job_in p (times_by m x) (machines_of x) job) of_route
    ∙ ap (λ x. job_in p (times_by m r) (machines_of r) x) of_job in
    let jobs_are : drop k jobs ≡ j ∷ drop (k + 1) jobs =
    drop-cons jobs k job h ∙ ap (λ n. j ∷ drop n jobs) next in
    let routes_are : drop k routes ≡ r ∷ drop (k + 1) routes =
    drop-cons routes k route lt ∙ ap (λ n. r ∷ drop n routes) next in
    ap (λ xs. xs ++ rest) pushed ∙ append_assoc rows (row ∷ []) rest
    ∙ ap (λ x. rows ++ x ∷ rest) same
    ∙ sym (ap (λ xs. rows ++ routed_jobs_in p m xs (drop k jobs)) routes_are
    ∙ ap (λ xs. rows ++ routed_jobs_in p m (r ∷ drop (k + 1) routes) xs) jobs_are)

-- ---- no route names a machine beyond

steps_within : (m : ℕ) (route : List Step) → is_beyond m route ≡ false
    → (k : ℕ) (d : Step) → k < length route → (get_or route k d).machine < m
steps_within m [] e k d lt = absurd (omega (arith, lt))
steps_within m (step ∷ route) e zero d lt = leb-false m step.machine (neither _ _ e).0
steps_within m (step ∷ route) e (suc k) d lt =
    steps_within m route (neither _ _ e).1 k d (omega (arith, lt))

-- where the routes are not refused, each is of the machines
pub routes_within : (p : Problem) (m : ℕ) (jobs : List JobFields) (routes : List (List Step))
    → None ≡ routes_refusal_in p m jobs routes → All (AreSteps most_machines) routes
    → All (AreSteps m) routes
routes_within p m jobs routes none each k d lt =
    let parts = none_of_two (option_map WrongTimes (first_with (is_beyond m) routes))
    (option_or (missing_in p 1 jobs)
    (option_or (where_needed p (option_map ZeroTime (first_with is_idle_route routes)))
    (much_in m routes)))
    (sym none) in
    let fits : All (λ route. is_beyond m route ≡ false) routes =
    none_at (is_beyond m) routes (none_mapped _ _ (none_mapped _ _ parts.0)) in
    let route : List Step = get_or routes k d in
    let is : AreSteps most_machines route = each k d lt in
    record {
      once = is.once;
      within = λ i e h. steps_within m route (fits k d lt) i e h;
      short = is.short;
    }

-- the parts make the task
pub assembled : (p : Problem) (m : ℕ) (i : InstanceData) (routes : List (List Step))
    (jobs : List JobFields) (pairs : List (ℕ × ℕ)) (rows : List ProblemJobData)
    (arcs : List (ℕ × ℕ)) (task : ProblemData)
    → task ≡ record { problem = p; machines = m; jobs = rows; arcs = arcs }
    → rows ≡ routed_jobs_in p m routes jobs → jobs ≡ i.jobs
    → arcs ≡ cond p.prec pairs [] → pairs ≡ i.arcs
    → task ≡ routed_task_in p m i routes
assembled p m i routes jobs pairs rows arcs task is made read kept read_arcs =
    let rows_are : rows ≡ routed_jobs_in p m routes i.jobs =
    made ∙ ap (routed_jobs_in p m routes) read in
    let arcs_are : arcs ≡ cond p.prec i.arcs [] =
    kept ∙ ap (λ (xs : List (ℕ × ℕ)). cond p.prec xs []) read_arcs in
    is
    ∙ ap (λ (xs : List ProblemJobData). record { problem = p; machines = m; jobs = xs; arcs = arcs })
    rows_are
    ∙ ap (λ (xs : List (ℕ × ℕ)). record {
      problem = p;
      machines = m;
      jobs = routed_jobs_in p m routes i.jobs;
      arcs = xs;
    }) arcs_are
