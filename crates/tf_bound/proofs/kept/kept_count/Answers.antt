use Rattle.std.proofs.Common.{◌≡◌, ℕ, ◌-◌, ◌*◌, List, [], length, heap_items, sym, ap, ◌∙◌, arith}
use Rattle.std.proofs.lemmas.List.{take_all}
use Rattle.tf_posed.specs.ProblemData.{problem_time}
use Rattle.tf_problem.specs.Kept.{due_time, kept_by, put, room_by_due, within_room}
use Rattle.tf_bound.specs.InOrder.{in_order}
use Rattle.tf_bound.proofs.InOrder.{in_order-length}
use Rattle.tf_bound.proofs.Orders.{kept_by-length, kept_by-more}
use Rattle.tf_bound.proofs.kept.kept_count.Goals as goal

pub loop-job-preserved : goal.loop-job-preserved
loop-job-preserved g c =
    let k = c.args.task.now in
    let xs : List ℕ = c.args.jobs.now in
    let i : ℕ = c.loop-job.job-index in
    let x : ℕ = c.job-item.result in
    let old : List ℕ = in_order (heap_items c.loop-job.kept) in
    let p : ℕ → ℕ = problem_time k in
    let room : ℕ → ℕ = room_by_due k xs in
    let from : c.room_from.result ≡ room x = c.room_from.ensures
    ∙ ap (λ r. k.machines * (due_time k x - r)) c.least_release-first.ensures.value in
    record {
      heap = c.in_ok-total.ensures.heap;
      total = c.in_ok-total.ensures.total;
      kept = c.in_ok-total.ensures.kept
          ∙ ap (λ r. within_room r (put c.time.result old)) from
          ∙ ap (λ t. within_room (room x) (put t old)) c.time.ensures.value
          ∙ ap (λ l. within_room (room x) (put (p x) l)) c.loop-job.invariant.kept
          ∙ sym (kept_by-more p room xs i x c.loop-job-test.true c.job-item.is);
      small = omega (
        arith,
        c.in_ok-total.ensures.more,
        c.time.ensures.small,
        c.loop-job.invariant.small,
      );
    }

pub returns-clause-value : goal.returns-clause-value
returns-clause-value g c =
    let k = c.args.task.now in
    let xs : List ℕ = c.args.jobs.now in
    c.len.ensures ∙ c.loop-job.kept.data.ok.0
    ∙ sym (in_order-length (heap_items c.loop-job.kept))
    ∙ ap (λ (times : List ℕ). length times) c.loop-job.invariant.kept
    ∙ ap (λ (jobs : List ℕ). length (kept_by (problem_time k) (room_by_due k xs) [] jobs))
    (take_all c.loop-job.job-index xs c.loop-job-test.false)

pub returns-clause-few : goal.returns-clause-few
returns-clause-few g c =
    let k = c.args.task.now in
    let xs : List ℕ = c.args.jobs.now in
    omega (
      arith,
      c.len.ensures,
      c.loop-job.kept.data.ok.0,
      in_order-length (heap_items c.loop-job.kept),
      ap (λ (times : List ℕ). length times) c.loop-job.invariant.kept,
      ap (λ (jobs : List ℕ). length (kept_by (problem_time k) (room_by_due k xs) [] jobs))
          (take_all c.loop-job.job-index xs c.loop-job-test.false),
      kept_by-length (problem_time k) (room_by_due k xs) [] xs,
    )
