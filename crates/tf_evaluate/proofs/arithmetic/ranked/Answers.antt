use Rattle.std.proofs.Common.{SFits, rules, ◌≡◌, ℕ, ◌-◌, ℤ, List, Ok, sum_by, unsigned_abs, sym, ap, ◌∙◌, arith}
use Rattle.std.specs.Int.{w128}
use Rattle.std.proofs.lemmas.Int.{to_z-of_z}
use Rattle.tf_model.specs.Bounds.{ranks_value}
use Rattle.tf_model.specs.SchedulingTask.{SchedulingTask, time_of}
use Rattle.tf_check.specs.Bound.{ranks_bound}
use Rattle.tf_check.proofs.JobLists.{jobs_in_task, times_within}
use Rattle.tf_evaluate.specs.declared.step.Terms.TheVariants.{Ranks}
use Rattle.tf_evaluate.specs.Arithmetic.{ranked_waiting}
use Rattle.tf_check.specs.Laws.{ranks_says}
use Rattle.tf_evaluate.proofs.SumParts.{ranks_parts}
use Rattle.tf_evaluate.proofs.arithmetic.ranked.Goals as goal

pub work_of-work-requires-clause-known : goal.work_of-work-requires-clause-known
work_of-work-requires-clause-known g c =
    jobs_in_task c.args.task.now c.args.jobs.now
    (ranks_says c.args.task.now c.args.jobs.now c.args.bound c.requires.given).1

pub work_of-work-requires-clause-work : goal.work_of-work-requires-clause-work
work_of-work-requires-clause-work g c =
    times_within c.args.task.now c.requires.sound c.args.jobs.now
    (ranks_says c.args.task.now c.args.jobs.now c.args.bound c.requires.given).1

-- the size of the bound
sized : (k : SchedulingTask) (jobs : List ℕ) (b bits : ℤ) → bits ≡ b → ranks_bound k jobs ≡ Ok b
    → unsigned_abs bits ≡ ranks_value k jobs
sized k jobs b bits same given =
    ap unsigned_abs same ∙ sym (ap unsigned_abs (ranks_says k jobs b given).3)

pub overflow_sub-result : goal.overflow_sub-result
overflow_sub-result g c =
    let fits : SFits w128 c.args.bound = search rules in
    let k = c.args.task.now in
    let jobs = c.args.jobs.now in
    omega (
      arith,
      sized k jobs c.args.bound _ (to_z-of_z w128 c.args.bound fits)
          c.requires.given,
      ranks_parts k jobs c.requires.sound.some_machine,
      c.from.ensures,
      c.unsigned_abs.ensures.value,
      c.work_of-work.ensures,
    )

pub returns : goal.returns
returns g c =
    let fits : SFits w128 c.args.bound = search rules in
    let k = c.args.task.now in
    let jobs = c.args.jobs.now in
    let waiting : c.unsigned_abs.result - c.from.result ≡ ranked_waiting k jobs = omega (
      arith,
      sized k jobs c.args.bound _ (to_z-of_z w128 c.args.bound fits)
          c.requires.given,
      ranks_parts k jobs c.requires.sound.some_machine,
      c.from.ensures,
      c.unsigned_abs.ensures.value,
      c.work_of-work.ensures,
    ) in
    ap (λ work. Ranks work (c.unsigned_abs.result - c.from.result)) c.work_of-work.ensures
    ∙ ap (Ranks (sum_by (time_of k) jobs)) waiting
