use Rattle.std.proofs.Common.{◌≡◌, ℕ, ◌≤ℤ◌, List, [], ◌∷◌, ◌++◌, length, sym, ◌∙◌, subst, arith}
use Rattle.tf_model.specs.Cost.{price}
use Rattle.tf_model.specs.SchedulingTask.{SchedulingTask}
use Rattle.tf_single.specs.ArcsInto.{arcs_between}
use Rattle.tf_single.specs.Open.{IsOpen}
use Rattle.tf_single.proofs.ArcsInto.{between_all}
use Rattle.tf_single.proofs.Taking.{taken_within, step_job, step_time, step_open, step_cost, step_taken}
use Rattle.tf_single.proofs.backward.Open.take.Goals as goal

pub take_last-last-requires-clause-within : goal.take_last-last-requires-clause-within
take_last-last-requires-clause-within g c =
    taken_within c.args.task.now c.requires.sound c.args.self.now.taken.items
    c.args.self.now.counts.items (g.F.FreeJobs.jobs_of c.args.self.now.free) c.args.self.now.work
    c.requires.now

pub time-requires : goal.time-requires
time-requires g c =
    step_job c.args.task.now c.requires.sound c.args.self.now.taken.items
    c.args.self.now.counts.items (g.F.FreeJobs.jobs_of c.args.self.now.free) c.args.self.now.work
    c.requires.now c.take_last-last.result.job (g.F.FreeJobs.jobs_of c.take_last-last.new.self)
    c.take_last-last.ensures.jobs

pub overflow_sub-self : goal.overflow_sub-self
overflow_sub-self g c =
    omega (
      arith,
      c.time.ensures.value,
      step_time c.args.task.now c.requires.sound c.args.self.now.taken.items
          c.args.self.now.counts.items (g.F.FreeJobs.jobs_of c.args.self.now.free)
          c.args.self.now.work c.requires.now c.take_last-last.result.job
          (g.F.FreeJobs.jobs_of c.take_last-last.new.self) c.take_last-last.ensures.jobs,
    )

pub release-requires-clause-now : goal.release-requires-clause-now
release-requires-clause-now g c =
    let k : SchedulingTask = c.args.task.now in
    let j : ℕ = c.take_last-last.result.job in
    let others : List ℕ = g.F.FreeJobs.jobs_of c.take_last-last.new.self in
    rw c.in_ok-push.ensures.items
    (step_open k c.requires.sound c.args.self.now.taken.items c.args.self.now.counts.items
    (g.F.FreeJobs.jobs_of c.args.self.now.free) c.args.self.now.work c.requires.now j others
    c.take_last-last.ensures.jobs (arcs_between k.arcs (length k.arcs) j)
    (λ i. between_all k.arcs j i))

pub release-requires-clause-job : goal.release-requires-clause-job
release-requires-clause-job g c =
    step_job c.args.task.now c.requires.sound c.args.self.now.taken.items
    c.args.self.now.counts.items (g.F.FreeJobs.jobs_of c.args.self.now.free) c.args.self.now.work
    c.requires.now c.take_last-last.result.job (g.F.FreeJobs.jobs_of c.take_last-last.new.self)
    c.take_last-last.ensures.jobs

pub returns-clause-cost : goal.returns-clause-cost
returns-clause-cost g c =
    c.take_last-last.ensures.cost
    ∙ step_cost c.args.task.now c.requires.sound c.args.self.now.taken.items
    c.args.self.now.counts.items (g.F.FreeJobs.jobs_of c.args.self.now.free) c.args.self.now.work
    c.requires.now c.take_last-last.result.job (g.F.FreeJobs.jobs_of c.take_last-last.new.self)
    c.take_last-last.ensures.jobs

pub returns-clause-now : goal.returns-clause-now
returns-clause-now g c =
    let k : SchedulingTask = c.args.task.now in
    let j : ℕ = c.take_last-last.result.job in
    let work : ℕ = c.args.self.now.work in
    let taken : List ℕ = c.args.self.now.taken.items ++ j ∷ [] in
    let fewer : List ℕ = c.release.new.self.counts.items in
    let more : List ℕ = g.F.FreeJobs.jobs_of c.release.new.self.free in
    let same : c.release.new.self.taken.items ≡ taken =
    c.release.ensures.taken ∙ c.in_ok-push.ensures.items in
    rw (same, c.release.ensures.work, c.time.ensures.value)
    (step_taken k c.requires.sound c.args.self.now.taken.items c.args.self.now.counts.items
    (g.F.FreeJobs.jobs_of c.args.self.now.free) work c.requires.now j
    (g.F.FreeJobs.jobs_of c.take_last-last.new.self) c.take_last-last.ensures.jobs
    (λ i at. subst (λ z. z ≤ℤ price k i work) c.take_last-last.ensures.cost
    (c.take_last-last.ensures.cheapest i at))
    (λ i at same. c.take_last-last.ensures.ties i at (same ∙ sym c.take_last-last.ensures.cost))
    fewer more (subst (λ xs. IsOpen k xs (λ _. 0) fewer more) same c.in_ok-release.ensures.now))
