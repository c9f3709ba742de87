use Rattle.std.proofs.Common.{◌≡◌, ℕ, ◌+◌, ◌<◌, ◌≤◌, ◌⊎◌, inl, inr, ◌∷◌, [], length, get_or, drop, arith, sym, ap, ◌∙◌, subst, refl, max, rules}
use Rattle.std.specs.BinaryHeap.{heap_items}
use Rattle.tf_model.specs.SchedulingTask.{job_data}
use Rattle.tf_single.specs.Agenda.{IsUnderway}
use Rattle.std.proofs.lemmas.Int.{to_z-of_z}
use mir.Syntax.{w64}
use mir.Val.{to_z, of_z}
use Rattle.std.proofs.lemmas.List.{drop_all, take_rest}
use Rattle.tf_single.proofs.Lists.{rest_split}
use Rattle.tf_single.proofs.Agenda.{comes_job, underway_comes, progress_at_end}
use Rattle.tf_single.proofs.timeline.run_all.Goals as goal

pub loop-k-init : goal.loop-k-init
loop-k-init g c = record { underway = c.requires.underway; few = omega arith }

pub run-requires-clause-underway : goal.run-requires-clause-underway
run-requires-clause-underway g c =
    let k = c.loop-k.k in
    let slice = take_rest c.args.order.now k in
    subst (λ js. IsUnderway c.args.task.now js (heap_items c.loop-k.machine.ready)
    c.loop-k.machine.rest.items c.loop-k.machine.pieces.items c.loop-k.machine.now) (sym slice)
    c.loop-k.invariant.underway

pub run-requires-2-clause-underway : goal.run-requires-2-clause-underway
run-requires-2-clause-underway g c =
    subst (λ js. IsUnderway c.args.task.now js (heap_items c.loop-k.machine.ready)
    c.loop-k.machine.rest.items c.loop-k.machine.pieces.items c.loop-k.machine.now)
    (drop_all c.loop-k.k c.args.order.now
    (omega (arith, c.loop-k-test.false)))
    c.loop-k.invariant.underway

-- what is still to come at the k-th job
pub release-requires-clause-job : goal.release-requires-clause-job
release-requires-clause-job g c =
    let job = c.index-order-k.result in
    let later = drop (c.loop-k.k + 1) c.args.order.now in
    let split = rest_split c.args.order.now c.args.order.now c.loop-k.k job refl
    c.loop-k-test.true c.index-order-k.is in
    let under : IsUnderway c.args.task.now (job ∷ later) (heap_items c.run.new.self.ready)
    c.run.new.self.rest.items c.run.new.self.pieces.items c.run.new.self.now =
    subst (λ is. IsUnderway c.args.task.now is (heap_items c.run.new.self.ready)
    c.run.new.self.rest.items c.run.new.self.pieces.items c.run.new.self.now) split
    c.in_ok-run.ensures.underway in
    comes_job c.args.task.now job later (heap_items c.run.new.self.ready) c.run.new.self.rest.items
    c.run.new.self.pieces.items c.run.new.self.now c.requires.sound under

pub due-requires-clause-job : goal.due-requires-clause-job
due-requires-clause-job g c =
    let job = c.index-order-k.result in
    let later = drop (c.loop-k.k + 1) c.args.order.now in
    let split = rest_split c.args.order.now c.args.order.now c.loop-k.k job refl
    c.loop-k-test.true c.index-order-k.is in
    let under : IsUnderway c.args.task.now (job ∷ later) (heap_items c.run.new.self.ready)
    c.run.new.self.rest.items c.run.new.self.pieces.items c.run.new.self.now =
    subst (λ is. IsUnderway c.args.task.now is (heap_items c.run.new.self.ready)
    c.run.new.self.rest.items c.run.new.self.pieces.items c.run.new.self.now) split
    c.in_ok-run.ensures.underway in
    comes_job c.args.task.now job later (heap_items c.run.new.self.ready) c.run.new.self.rest.items
    c.run.new.self.pieces.items c.run.new.self.now c.requires.sound under

pub loop-k-preserved : goal.loop-k-preserved
loop-k-preserved g c =
    let k = c.args.task.now in
    let ready = heap_items c.run.new.self.ready in
    let rest = c.run.new.self.rest.items in
    let ps = c.run.new.self.pieces.items in
    let now = c.run.new.self.now in
    let job = c.index-order-k.result in
    let later = drop (c.loop-k.k + 1) c.args.order.now in
    let split = rest_split c.args.order.now c.args.order.now c.loop-k.k job refl
    c.loop-k-test.true c.index-order-k.is in
    let under : IsUnderway k (job ∷ later) ready rest ps now =
    subst (λ is. IsUnderway k is ready rest ps now) split c.in_ok-run.ensures.underway in
    let over : (ready ≡ []) ⊎
    ((0 < length (job ∷ later))
    × ((d : ℕ) → (job_data k (get_or (job ∷ later) 0 d)).release ≤ now)) =
    subst (λ is. (ready ≡ []) ⊎
    ((0 < length is) × ((d : ℕ) → (job_data k (get_or is 0 d)).release ≤ now))) split
    c.in_ok-run.ensures.over in
    let idle : (ready ≡ []) ⊎ ((job_data k job).release ≤ now) =
    elim over [ inl empty ↦ inl empty | inr time ↦ inr (time.1 0) ] in
    let at : c.max-machine.result ≡ max now (job_data k job).release = c.max-machine.ensures
    ∙ ap (max now) c.release.ensures in
    record {
      underway = subst (IsUnderway k later (heap_items c.push.new.self) rest ps) (sym at)
          (underway_comes k job later ready rest ps now c.requires.sound under idle
          (record {
            due = record { 0 = to_z w64 (of_z w64 c.due.result) };
            job = record { 0 = job };
          }) refl
          (to_z-of_z w64 c.due.result (search rules) ∙ c.due.ensures)
          (heap_items c.push.new.self) c.in_ok-push.ensures.permutation
          (c.in_ok-push.ensures.heap_order under.agenda.heap));
      few = omega (arith, c.loop-k.invariant.few, c.in_ok-run.ensures.few);
    }

pub returns-clause-timeline : goal.returns-clause-timeline
returns-clause-timeline g c =
    let under = c.in_ok-run-2.ensures.underway in
    record {
      now = c.run-2.new.self.now;
      within = omega (arith, under.within);
      progress = progress_at_end _ [] _ _ _ c.run-2.new.self.now under refl
          (elim c.in_ok-run-2.ensures.over [
            | inl empty ↦ empty
            | inr some ↦ absurd (omega (arith, some.0))
          ]);
    }

pub returns-clause-few : goal.returns-clause-few
returns-clause-few g c =
    omega (arith, c.loop-k.invariant.few, c.in_ok-run-2.ensures.few, c.loop-k.auto.k-end)
