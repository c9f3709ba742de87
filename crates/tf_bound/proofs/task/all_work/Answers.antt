use Rattle.std.proofs.Common.{sum_by, ap, ◌∙◌, arith}
use Rattle.std.proofs.lemmas.List.{take_all}
use Rattle.tf_bound.specs.Sized.{IsSizedJob, work}
use Rattle.tf_bound.proofs.Refused.{unfit_at, too_much_at}
use Rattle.tf_bound.proofs.Steps.{all_next, all_whole, sum_next}
use Rattle.tf_bound.proofs.task.all_work.Goals as goal

pub loop-place-preserved : goal.loop-place-preserved
loop-place-preserved g c =
    let jobs = c.args.jobs.now in
    let i = c.loop-place.place in
    let job = c.index-jobs-place.result in
    let told = c.in-Some.ensures in
    record {
      sized = all_next (IsSizedJob c.args.problem.now c.args.machines) jobs i job c.loop-place-test.true
          c.index-jobs-place.is c.loop-place.invariant.sized told.sized;
      value = omega (
        arith,
        c.loop-place.invariant.value,
        told.value,
        sum_next work jobs i job c.loop-place-test.true c.index-jobs-place.is,
      );
      small = omega (arith, c.if-work-all.false, c.loop-place.invariant.small);
    }

pub returns-in_default-clause-fault : goal.returns-in_default-clause-fault
returns-in_default-clause-fault g c =
    let before = c.loop-place.invariant in
    let told = c.in_default.ensures in
    unfit_at c.args.problem.now c.args.machines c.args.jobs.now c.loop-place.place c.loop-place.all
    before.sized before.value before.small c.index-jobs-place.result c.loop-place-test.true
    c.index-jobs-place.is told.unfit

pub returns-then-work-all-clause-fault : goal.returns-then-work-all-clause-fault
returns-then-work-all-clause-fault g c =
    let before = c.loop-place.invariant in
    let told = c.in-Some.ensures in (
      c.loop-place.place,
      too_much_at c.args.problem.now c.args.machines c.args.jobs.now c.loop-place.place c.loop-place.all
          before.sized before.value before.small c.index-jobs-place.result c.loop-place-test.true
          c.index-jobs-place.is told.sized (omega (arith, told.value, told.small))
          (omega (arith, told.value, c.if-work-all.true)),
    )

pub overflow_sub-all : goal.overflow_sub-all
overflow_sub-all g c = omega (arith, c.loop-place.invariant.small)

pub overflow_add-all : goal.overflow_add-all
overflow_add-all g c = omega (arith, c.if-work-all.false, c.loop-place.invariant.small)

pub returns-clause-sized : goal.returns-clause-sized
returns-clause-sized g c =
    all_whole (IsSizedJob c.args.problem.now c.args.machines) c.args.jobs.now c.loop-place.place
    c.loop-place-test.false c.loop-place.invariant.sized

pub returns-clause-value : goal.returns-clause-value
returns-clause-value g c =
    c.loop-place.invariant.value
    ∙ ap (sum_by work) (take_all c.loop-place.place c.args.jobs.now c.loop-place-test.false)

pub returns-clause-small : goal.returns-clause-small
returns-clause-small g c = c.loop-place.invariant.small
