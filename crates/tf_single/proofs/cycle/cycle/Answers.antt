use Rattle.std.proofs.Common.{ℕ, List, Option, sym, subst}
use Rattle.std.proofs.lemmas.Result.{IfOk-weaker}
use Rattle.tf_model.specs.SchedulingTask.{SchedulingTask}
use Rattle.tf_single.specs.FirstCycle.{IsFirstCycle, IsNextOf, IsWalkedCycle}
use Rattle.tf_single.specs.Successors.{HasSuccessor, AreSmallest, IsLeft, IsListed}
use Rattle.tf_single.proofs.Walk.{walked_as}
use Rattle.tf_single.proofs.cycle.cycle.Goals as goal

pub walk-requires-clause-first : goal.walk-requires-clause-first
walk-requires-clause-first g c =
    subst (λ next. HasSuccessor next c.first_left.result) (sym c.deref.ensures.value)
    (c.in_ok-next.ensures.some c.first_left.result c.first_left.ensures.job
    c.first_left.ensures.here)

pub returns-clause-first : goal.returns-clause-first
returns-clause-first g c =
    let k : SchedulingTask = c.args.task.now in
    let counts : List ℕ = c.args.counts.now in
    let next : List (Option ℕ) = c.deref.result.now in
    let start : ℕ = c.first_left.result in
    let smallest : AreSmallest k counts next =
    subst (AreSmallest k counts) (sym c.deref.ensures.value) c.in_ok-next.ensures.smallest in
    IfOk-weaker c.walk.result (λ jobs. IsWalkedCycle start (IsListed k next) jobs)
    (λ jobs. IsFirstCycle k (IsLeft counts) jobs)
    (λ jobs walked. record {
      start = start;
      first = c.first_left.ensures;
      walked = walked_as start (IsListed k next) (IsNextOf k (IsLeft counts)) jobs smallest walked;
    }) c.walk.ensures.walked
