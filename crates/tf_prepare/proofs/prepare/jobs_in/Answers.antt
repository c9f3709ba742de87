use Rattle.std.proofs.Common.{◌≡◌, ℕ, suc, ◌+◌, ◌≤◌, ◌<◌, drop, List, [], ◌∷◌, ◌++◌, length, get_or, Option, sym, ap, ◌∙◌, arith, append_assoc}
use Rattle.std.proofs.Math.Seq.{drop-cons}
use Rattle.std.proofs.lemmas.List.{append-nil, drop_all}
use Rattle.tf_model.specs.declared.problem.Problem.{Problem}
use Rattle.tf_model.specs.JobFields.{JobFields}
use Rattle.tf_posed.specs.ProblemData.{ProblemJobData}
use Rattle.tf_prepare.specs.Preparing.{times_in, job_in, jobs_in}
use Rattle.tf_prepare.proofs.prepare.jobs_in.Goals as goal

module _ (p : Problem) (by : Option (List (List ℕ))) (jobs : List JobFields) where
  -- with one row more what is left begins a job later
  more : (k : ℕ) (job : JobFields) (times route : List ℕ) (row : ProblemJobData)
      (rows after : List ProblemJobData) → k < length jobs → job ≡ get_or jobs k job
      → times ≡ times_in by k job → route ≡ [] → row ≡ job_in p times route job
      → after ≡ rows ++ row ∷ []
      → after ++ jobs_in p by (k + 1) (drop (k + 1) jobs)
      ≡ rows ++ jobs_in p by k (drop k jobs)
  more k job times route row rows after h is timed no_route made pushed =
      let next : suc k ≡ k + 1 = omega arith in
      let rest : List ProblemJobData = jobs_in p by (k + 1) (drop (k + 1) jobs) in
      let same : row ≡ job_in p (times_in by k (get_or jobs k job)) [] (get_or jobs k job) =
      made ∙ ap (λ ts. job_in p ts route job) timed
      ∙ ap (λ r. job_in p (times_in by k job) r job) no_route
      ∙ ap (λ x. job_in p (times_in by k x) [] x) is in
      ap (λ xs. xs ++ rest) pushed ∙ append_assoc rows (row ∷ []) rest
      ∙ ap (λ x. rows ++ x ∷ rest) same
      ∙ sym (ap (λ xs. rows ++ jobs_in p by k xs) (drop-cons jobs k job h
      ∙ ap (λ n. get_or jobs k job ∷ drop n jobs) next))

  -- at the end nothing is left
  whole : (k : ℕ) (rows : List ProblemJobData) → length jobs ≤ k
      → rows ++ jobs_in p by k (drop k jobs) ≡ jobs_in p by 0 jobs
      → rows ≡ jobs_in p by 0 jobs
  whole k rows h e =
      sym (ap (λ xs. rows ++ jobs_in p by k xs) (drop_all k jobs h) ∙ append-nil rows) ∙ e

pub loop-k-preserved : goal.loop-k-preserved
loop-k-preserved g c =
    more c.args.problem.now c.args.timed.now.by_machine c.args.jobs.now c.loop-k.k
    c.index-jobs-k.result _ _ _ _ _ c.loop-k-test.true c.index-jobs-k.is
    c.in_ok-times.ensures.times c.in_ok-times.ensures.unrouted c.job_in.ensures c.in_ok-push.ensures.items
    ∙ c.loop-k.invariant

pub returns : goal.returns
returns g c =
    whole c.args.problem.now c.args.timed.now.by_machine c.args.jobs.now c.loop-k.k _
    c.loop-k-test.false c.loop-k.invariant
