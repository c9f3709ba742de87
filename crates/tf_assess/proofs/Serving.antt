-- A task that serves another objective: the task by the other is the same but for what it does not
-- look at, the same timetables fit it, and it costs the same.
use Rattle.std.proofs.Common.{◌≡◌, Bool, true, false, not, cond, ◌&&◌, ◌||◌, ℕ, ◌+◌, pos, List, [], ◌∷◌, map, Option, None, Some, Result, Ok, Err, refl, sym, ap, IsTrue}
use Rattle.std.specs.Prelude.{is_none, is_some, unwrap_or, if◌then◌else◌}
use Rattle.std.specs.Option.{option_map, option_or}
use Rattle.std.proofs.lemmas.Bool.{false≢true, and_parts}
use Rattle.tf_model.specs.Outcome.{◌>>=◌, unless}
use Rattle.tf_model.specs.CostLaws.{none_of_two}
use Rattle.tf_model.specs.Whole.{as_time}
use Rattle.tf_model.proofs.Prepared.{none_mapped}
use Rattle.tf_model.specs.JobFields.{JobFields}
use Rattle.tf_model.specs.InstanceData.{InstanceData, first_with}
use Rattle.tf_model.specs.declared.problem.Problem.{Problem}
use Rattle.tf_model.specs.declared.problem.Goal.{Goal}
use Rattle.tf_model.specs.declared.prepare.Field.{Field}
use Rattle.tf_model.specs.declared.prepare.Field.TheVariants.{Weight, Due, Release}
use Rattle.tf_model.specs.declared.prepare.Refusal.{Refusal}
use Rattle.tf_model.specs.declared.prepare.Refusal.TheVariants.{WrongTimes, MissingField, ZeroTime}
use Rattle.tf_posed.specs.ProblemData.{ProblemData, ProblemJobData, is_job_shop}
use Rattle.tf_routes.specs.declared.route.Step.{Step}
use Rattle.tf_prepare.specs.TimedData.{TimedData}
use Rattle.tf_prepare.specs.Preparing.{uses_weight, uses_due, lacking_in, missing_in, wrong_times_in, where_needed, idle_in, jobs_refusal_in, times_in, job_in, jobs_in, task_in, machines_in, plain_in, routed_machines_in, routes_refusal_in, routed_jobs_in, routed_task_in, routed_in, prepared_by, prepared_in, times_by, machines_of, is_beyond, is_idle_route, much_in}
use Rattle.tf_assess.specs.Measures.{by_goal}
use Rattle.tf_assess.specs.Placed.{serves}

-- what an objective looks at of a job
abbrev pub job_for : Goal → ProblemJobData → ProblemJobData
job_for goal x = record x {
  weight = if uses_weight goal then x.weight else 1;
  due = if uses_due goal then x.due else pos 0;
}

-- the task by another objective
abbrev pub task_for : Goal → ProblemData → ProblemData
task_for goal k = record k {
  problem = by_goal k.problem goal;
  jobs = map (job_for goal) k.jobs;
}

-- ---- small steps

none_left : (b : Bool) (x : Field) (rest : Option Field) → cond b (Some x) rest ≡ None → rest ≡ None
none_left true x rest e = absurd (cc)
none_left false x rest e = e

-- a field that is not lacking where more is asked
lacks_no_more : (rich poor lacks : Bool) (x : Field) (more less : Option Field)
    → IsTrue (not poor || rich) → (more ≡ None → less ≡ None)
    → cond (rich && lacks) (Some x) more ≡ None → cond (poor && lacks) (Some x) less ≡ None
lacks_no_more rich false lacks x more less h next e = next (none_left (rich && lacks) x more e)
lacks_no_more true true true x more less h next e = absurd (cc)
lacks_no_more true true false x more less h next e = next e
lacks_no_more false true lacks x more less h next e = absurd (false≢true h)

twice : {X : Type 0} (poor rich : Bool) (x y : X) → IsTrue (not poor || rich)
    → cond poor x y ≡ cond poor (cond rich x y) y
twice false rich x y h = refl
twice true true x y h = refl
twice true false x y h = absurd (false≢true h)

no_refusal : (refusal : Option Refusal) (k j : ProblemData) → unless refusal (Ok k) ≡ Ok j
    → (refusal ≡ None) × (k ≡ j)
no_refusal None k j e = (refl, cc)
no_refusal (Some refusal) k j e = absurd (cc)

-- ---- the task that the instance makes

module _ (p : Problem) (rich goal : Goal) (h : IsTrue (serves rich goal)) where
  weights : IsTrue (not (uses_weight goal) || uses_weight rich)
  weights = (and_parts (not (uses_weight goal) || uses_weight rich)
      (not (uses_due goal) || uses_due rich) h).0

  dues : IsTrue (not (uses_due goal) || uses_due rich)
  dues = (and_parts (not (uses_weight goal) || uses_weight rich)
      (not (uses_due goal) || uses_due rich) h).1

  lacking : (job : JobFields) → lacking_in (by_goal p rich) job ≡ None
      → lacking_in (by_goal p goal) job ≡ None
  lacking job e =
      lacks_no_more (uses_weight rich) (uses_weight goal) (is_none job.weight) Weight _ _ weights
      (λ e1. lacks_no_more p.release p.release (is_none job.release) Release _ _ (itself p.release)
      (λ e2. lacks_no_more (uses_due rich) (uses_due goal) (is_none job.due) Due None None dues
      (λ e3. refl) e2) e1) e
    where
      itself : (b : Bool) → IsTrue (not b || b)
      itself true = refl
      itself false = refl

  missing : (j : ℕ) (jobs : List JobFields) → missing_in (by_goal p rich) j jobs ≡ None
      → missing_in (by_goal p goal) j jobs ≡ None
  missing j [] e = refl
  missing j (job ∷ jobs) e =
      let parts = none_of_two (option_map (MissingField j) (lacking_in (by_goal p rich) job))
      (missing_in (by_goal p rich) (j + 1) jobs) e in
      rw (lacking job (none_mapped (MissingField j) (lacking_in (by_goal p rich) job) parts.0))
      (missing (j + 1) jobs parts.1)

  job_is : (times route : List ℕ) (job : JobFields)
      → job_in (by_goal p goal) times route job
      ≡ job_for goal (job_in (by_goal p rich) times route job)
  job_is times route job =
      rw (
        sym (twice (uses_weight goal) (uses_weight rich) (as_time (unwrap_or job.weight (pos 0))) 1
            weights),
        sym (twice (uses_due goal) (uses_due rich) (unwrap_or job.due (pos 0)) (pos 0) dues),
      ) refl

  jobs_are : (by_machine : Option (List (List ℕ))) (place : ℕ) (jobs : List JobFields)
      → jobs_in (by_goal p goal) by_machine place jobs
      ≡ map (job_for goal) (jobs_in (by_goal p rich) by_machine place jobs)
  jobs_are by_machine place [] = refl
  jobs_are by_machine place (job ∷ jobs) =
      rw (job_is (times_in by_machine place job) [] job, jobs_are by_machine (place + 1) jobs) refl

  routed_are : (machines : ℕ) (routes : List (List Step)) (jobs : List JobFields)
      → routed_jobs_in (by_goal p goal) machines routes jobs
      ≡ map (job_for goal) (routed_jobs_in (by_goal p rich) machines routes jobs)
  routed_are machines [] jobs = refl
  routed_are machines (route ∷ routes) [] = refl
  routed_are machines (route ∷ routes) (job ∷ jobs) =
      rw (job_is (times_by machines route) (machines_of route) job, routed_are machines routes jobs)
      refl

  -- without a refusal by the one objective there is none by the other
  plain_unrefused : (t : TimedData) → jobs_refusal_in (by_goal p rich) t ≡ None
      → jobs_refusal_in (by_goal p goal) t ≡ None
  plain_unrefused t e =
      let behind : Option Refusal = where_needed p (idle_in t.by_machine 0 t.instance.jobs) in
      let wrong = none_of_two (wrong_times_in p (is_some t.by_machine) t.instance.jobs)
      (option_or (missing_in (by_goal p rich) 1 t.instance.jobs) behind) e in
      let lack = none_of_two (missing_in (by_goal p rich) 1 t.instance.jobs) behind wrong.1 in
      rw (wrong.0, missing 1 t.instance.jobs lack.0) lack.1

  plain_for : (t : TimedData) (argument : Option ℕ) (k : ProblemData)
      → plain_in t (by_goal p rich) argument ≡ Ok k
      → plain_in t (by_goal p goal) argument ≡ Ok (task_for goal k)
  plain_for t argument k = by (machines_in p (is_some t.by_machine) argument t.instance.machines)
    where
      by : (m : Result ℕ Refusal)
          → (m >>= λ machines. unless (jobs_refusal_in (by_goal p rich) t)
          (Ok (task_in (by_goal p rich) machines t))) ≡ Ok k
          → (m >>= λ machines. unless (jobs_refusal_in (by_goal p goal) t)
          (Ok (task_in (by_goal p goal) machines t))) ≡ Ok (task_for goal k)
      by (Err refusal) e = absurd (cc)
      by (Ok machines) e =
          let had = no_refusal (jobs_refusal_in (by_goal p rich) t)
          (task_in (by_goal p rich) machines t) k e in
          rw (plain_unrefused t had.0, jobs_are t.by_machine 0 t.instance.jobs)
          (ap (λ (k : ProblemData). Ok (task_for goal k)) had.1)

  routes_unrefused : (machines : ℕ) (jobs : List JobFields) (routes : List (List Step))
      → routes_refusal_in (by_goal p rich) machines jobs routes ≡ None
      → routes_refusal_in (by_goal p goal) machines jobs routes ≡ None
  routes_unrefused machines jobs routes e =
      let behind : Option Refusal =
      option_or (where_needed p (option_map ZeroTime (first_with is_idle_route routes)))
      (much_in machines routes) in
      let wrong = none_of_two (option_map WrongTimes (first_with (is_beyond machines) routes))
      (option_or (missing_in (by_goal p rich) 1 jobs) behind) e in
      let lack = none_of_two (missing_in (by_goal p rich) 1 jobs) behind wrong.1 in
      rw (wrong.0, missing 1 jobs lack.0) lack.1

  routed_for : (routes : List (List Step)) (i : InstanceData) (argument : Option ℕ)
      (k : ProblemData)
      → routed_in routes i (by_goal p rich) argument ≡ Ok k
      → routed_in routes i (by_goal p goal) argument ≡ Ok (task_for goal k)
  routed_for routes i argument k =
      under _ (routed_machines_in p argument i.machines routes)
    where
      by : (m : Result ℕ Refusal)
          → (m >>= λ machines. unless (routes_refusal_in (by_goal p rich) machines i.jobs routes)
          (Ok (routed_task_in (by_goal p rich) machines i routes))) ≡ Ok k
          → (m >>= λ machines. unless (routes_refusal_in (by_goal p goal) machines i.jobs routes)
          (Ok (routed_task_in (by_goal p goal) machines i routes))) ≡ Ok (task_for goal k)
      by (Err refusal) e = absurd (cc)
      by (Ok machines) e =
          let had = no_refusal (routes_refusal_in (by_goal p rich) machines i.jobs routes)
          (routed_task_in (by_goal p rich) machines i routes) k e in
          rw (routes_unrefused machines i.jobs routes had.0, routed_are machines routes i.jobs)
          (ap (λ (k : ProblemData). Ok (task_for goal k)) had.1)

      under : (first : Option Refusal) (m : Result ℕ Refusal)
          → unless first (m >>= λ machines.
          unless (routes_refusal_in (by_goal p rich) machines i.jobs routes)
          (Ok (routed_task_in (by_goal p rich) machines i routes))) ≡ Ok k
          → unless first (m >>= λ machines.
          unless (routes_refusal_in (by_goal p goal) machines i.jobs routes)
          (Ok (routed_task_in (by_goal p goal) machines i routes))) ≡ Ok (task_for goal k)
      under None m e = by m e
      under (Some refusal) m e = absurd (cc)

  -- where the instance makes a task by the one objective, it makes that by the other
  pub prepared_for : (t : TimedData) (argument : Option ℕ) (k : ProblemData)
      → prepared_in t (by_goal p rich) argument ≡ Ok k
      → prepared_in t (by_goal p goal) argument ≡ Ok (task_for goal k)
  prepared_for t argument k = by t.routes
    where
      in_shop : (b : Bool)
          → cond b (Err (WrongTimes 1)) (plain_in t (by_goal p rich) argument) ≡ Ok k
          → cond b (Err (WrongTimes 1)) (plain_in t (by_goal p goal) argument)
          ≡ Ok (task_for goal k)
      in_shop true e = absurd (cc)
      in_shop false e = plain_for t argument k e

      by : (routes : Option (List (List Step)))
          → prepared_by routes t (by_goal p rich) argument ≡ Ok k
          → prepared_by routes t (by_goal p goal) argument ≡ Ok (task_for goal k)
      by None e = in_shop (is_job_shop p.env) e
      by (Some routes) e = routed_for routes t.instance argument k e
