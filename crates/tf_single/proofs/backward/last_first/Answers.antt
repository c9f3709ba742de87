use Rattle.std.proofs.Common.{◌≡◌, ℕ, ◌+◌, List, [], ◌∷◌, ◌++◌, length, sym, ap, ◌∙◌, subst, arith, rules}
use Rattle.std.proofs.lemmas.Int.{to_z-of_z}
use Rattle.std.proofs.lemmas.List.{length-append}
use mir.Syntax.{w64}
use mir.Val.{to_z, of_z}
use Rattle.tf_model.specs.SchedulingTask.{SchedulingTask}
use Rattle.tf_single.specs.FirstCycle.{IsFirstCycle}
use Rattle.tf_single.specs.Successors.{IsLeft}
use Rattle.tf_single.proofs.DearestStep.{dearest_more, dearest_found}
use Rattle.tf_single.proofs.Endless.{first_endless}
use Rattle.tf_single.proofs.Taking.{none_left, stuck, stuck_some}
use Rattle.tf_single.proofs.backward.last_first.Goals as goal

pub cycle-requires-clause-stuck : goal.cycle-requires-clause-stuck
cycle-requires-clause-stuck g c =
    rw c.deref.ensures.value
    (stuck c.args.task.now c.len-place-end.ensures.sound c.loop-place.open.taken.items
    c.loop-place.open.counts.items (g.F.FreeJobs.jobs_of c.loop-place.open.free)
    c.loop-place.invariant.now.now (c.is_empty.ensures.none c.if-is_empty.true))

pub cycle-requires-clause-some : goal.cycle-requires-clause-some
cycle-requires-clause-some g c =
    rw c.deref.ensures.value
    (stuck_some c.args.task.now c.len-place-end.ensures.sound c.loop-place.open.taken.items
    c.loop-place.open.counts.items (g.F.FreeJobs.jobs_of c.loop-place.open.free)
    c.loop-place.invariant.now.now (c.is_empty.ensures.none c.if-is_empty.true)
    c.loop-place.invariant.now.chosen
    (omega (
      arith,
      c.loop-place.invariant.count,
      c.loop-place-test.true,
      c.len-place-end.ensures.value,
    )))

pub loop-place-preserved : goal.loop-place-preserved
loop-place-preserved g c =
    let k : SchedulingTask = c.args.task.now in
    let taken : List ℕ = c.loop-place.open.taken.items in
    let last = c.in_ok-value.field-0 in
    let is : c.take.new.self.taken.items ≡ taken ++ last.job ∷ [] = c.in_ok-value.ensures.taken in
    record {
      now = c.in_ok-value.ensures.now;
      kept = c.in_ok-value.ensures.kept;
      count = ap length is ∙ length-append taken (last.job ∷ [])
          ∙ ap (λ n. n + 1) c.loop-place.invariant.count;
      dearest = rw is
          (dearest_more k taken last.job
          (record { place = c.loop-place.place; value = to_z w64 (of_z w64 last.cost) })
          (sym c.loop-place.invariant.count)
          (to_z-of_z w64 last.cost (search rules) ∙ c.in_ok-value.ensures.cost)
          c.loop-place.dearest c.dearer.result c.loop-place.invariant.dearest c.dearer.ensures);
    }

-- at least one job is taken
pub unwrap-requires : goal.unwrap-requires
unwrap-requires g c = search rules

pub returns-then-is_empty : goal.returns-then-is_empty
returns-then-is_empty g c =
    let k : SchedulingTask = c.args.task.now in
    let jobs : List ℕ = c.in_ok-cycle.field-0 in
    record {
      forbids = c.in_ok-cycle.ensures.forbids;
      first = first_endless k c.len-place-end.ensures.sound c.loop-place.open.taken.items
          c.loop-place.open.counts.items (g.F.FreeJobs.jobs_of c.loop-place.open.free)
          c.loop-place.invariant.now.now (c.is_empty.ensures.none c.if-is_empty.true)
          c.loop-place.invariant.now.chosen jobs
          (subst (λ counts. IsFirstCycle k (IsLeft counts) jobs) c.deref.ensures.value
          c.in_ok-cycle.ensures.first);
    }

pub returns : goal.returns
returns g c =
    let k : SchedulingTask = c.args.task.now in (
      c.len-place-end.ensures.sound,
      c.loop-place.invariant.now.chosen,
      none_left k c.loop-place.open.taken.items c.loop-place.invariant.now.chosen
          (omega (
            arith,
            c.loop-place.invariant.count,
            c.loop-place-test.false,
            c.len-place-end.ensures.value,
          )),
      dearest_found k c.loop-place.open.taken.items c.loop-place.dearest c.unwrap.result
          c.loop-place.invariant.dearest c.unwrap.ensures,
    )
