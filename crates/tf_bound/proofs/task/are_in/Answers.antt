use Rattle.std.proofs.Common.{ℕ, ◌≤◌, refl, arith}
use Rattle.tf_model.specs.declared.ids.JobId.{JobId}
use Rattle.tf_bound.proofs.Steps.{all_next, all_whole}
use Rattle.tf_bound.proofs.task.are_in.Goals as goal

abbrev IsIn : ℕ → JobId × JobId → Type 0
IsIn n arc = ((1 ≤ arc.0) × (arc.0 ≤ n)) × ((1 ≤ arc.1) × (arc.1 ≤ n))

pub loop-before-preserved : goal.loop-before-preserved
loop-before-preserved c =
    all_next (IsIn c.args.jobs) c.args.arcs.now c.loop-before.before-index
    c.loop-before-item.result c.loop-before-test.true c.loop-before-item.is c.loop-before.invariant (
      (
        omega (arith, c.get.ensures.from_one),
        omega (arith, c.get.ensures.value, c.if-get-jobs.false),
      ),
      (
        omega (arith, c.get-else-get-jobs.ensures.from_one),
        omega (arith, c.get-else-get-jobs.ensures.value, c.if-get-jobs-2.false),
      ),
    )

pub returns : goal.returns
returns c = (
  λ _.
      all_whole (IsIn c.args.jobs) c.args.arcs.now c.loop-before.before-index
      c.loop-before-test.false c.loop-before.invariant,
  λ _. refl,
)
