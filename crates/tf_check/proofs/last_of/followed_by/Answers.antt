use Rattle.std.proofs.Common.{◌≡◌, ◌-◌, ℕ, false, List, get_or, sym, ap, ◌∙◌, subst, arith}
use Rattle.tf_model.specs.SchedulingTask.{SchedulingTask}
use Rattle.tf_model.specs.Bounds.{stands_in}
use Rattle.tf_check.proofs.Followed.{IsFollowedBy, arc_in_task, followed_none, followed_same, followed_more, followed_all}
use Rattle.tf_check.proofs.last_of.followed_by.Goals as goal
use Rattle.tf_check.proofs.last_of.followed_by.Goals.{then-set-place, else-set-place}

pub loop-before-init : goal.loop-before-init
loop-before-init g c =
    let n : ℕ = c.len.result in
    subst (IsFollowedBy c.args.task.now c.args.jobs.now c.arcs-before-items.result.now 0)
    (sym (c.in-Ok.ensures.items_if_clones_equal (λ y e. e)))
    (followed_none c.args.task.now c.args.jobs.now c.arcs-before-items.result.now n
    c.len.ensures.value)

-- both jobs of the arc are of the task
pub index_mut-requires : goal.index_mut-requires
index_mut-requires g c =
    let k : SchedulingTask = c.args.task.now in
    let arcs : List (ℕ × ℕ) = c.arcs-before-items.result.now in
    let arc : ℕ × ℕ = c.loop-before-item.result in
    let its = arc_in_task k c.len.ensures.sound arcs c.arcs-before-items.ensures.value
    c.loop-before.before-index arc c.loop-before-test.true c.loop-before-item.is in
    omega (
      arith,
      its.0.0,
      its.0.1,
      c.place-then-set-place.ensures.value,
      c.loop-before.invariant.len,
      c.loop-before.followed.ok.0,
    )

pub loop-before-preserved : goal.loop-before-preserved
loop-before-preserved g c =
    let k : SchedulingTask = c.args.task.now in
    let jobs : List ℕ = c.args.jobs.now in
    let arcs : List (ℕ × ℕ) = c.arcs-before-items.result.now in
    let i : ℕ = c.loop-before.before-index in
    let arc : ℕ × ℕ = c.loop-before-item.result in
    let marks = c.loop-before.followed.items in
    let its = arc_in_task k c.len.ensures.sound arcs c.arcs-before-items.ensures.value i arc
    c.loop-before-test.true c.loop-before-item.is in
    let mark : get_or c.args.set.now c.place.result false ≡ stands_in jobs arc.1 =
    ap (λ n. get_or c.args.set.now n false) c.place.ensures.value
    ∙ c.requires.marked arc.1 its.1 in
    elim c.if-set-place.branch [
      | then-set-place w ↦
          let more = followed_more k jobs arcs i marks c.loop-before-test.true arc
          (sym c.loop-before-item.is) c.loop-before.invariant (sym mark ∙ w.if-set-place.true)
          its.0 in
          rw (w.followed-is, w.place-then-set-place.ensures.value) more
      | else-set-place w ↦
          let same = followed_same k jobs arcs i marks c.loop-before-test.true arc
          (sym c.loop-before-item.is) c.loop-before.invariant (sym mark ∙ w.if-set-place.false) in
          rw w.followed-is same
    ]

pub returns : goal.returns
returns g c =
    followed_all c.args.task.now c.args.jobs.now c.arcs-before-items.result.now
    c.loop-before.before-index c.loop-before.followed.items
    c.arcs-before-items.ensures.value c.loop-before-test.false c.loop-before.invariant
