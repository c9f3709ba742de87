use Rattle.std.proofs.Common.{◌≡◌, ◌≢◌, ⊎_elim, ℕ, ◌+◌, ◌-◌, ◌<◌, List, length, get_or, set, sym, ap, ◌∙◌, arith}
use Rattle.std.proofs.lemmas.Bool.{cases_eq}
use Rattle.std.proofs.lemmas.List.{length-set, get_or-set_same, get_or-set_other, get_or_default}
use Rattle.tf_model.specs.SchedulingTask.{SchedulingTask, IsJob}
use Rattle.tf_single.specs.ArcsInto.{arcs_before}
use Rattle.tf_single.specs.Progress.{of_job}
use Rattle.tf_single.proofs.ArcsInto.{arcs_to, before_first, before_next, before_within}
use Rattle.tf_single.proofs.arcs_into.begins.Goals as goal

pub loop-place-init : goal.loop-place-init
loop-place-init g c = record {
  len = c.requires.len;
  begin = sym (before_first c.args.task.now c.len-place-end.ensures.sound);
  done = λ j job le. absurd (omega (arith, job.0, le));
  left = λ j job lt. c.requires.each j job;
}

-- what the list has for the job at this place
count_at : (k : SchedulingTask) (list : List ℕ) (place count : ℕ) → place < length list
    → length list ≡ length k.jobs → count ≡ get_or list place count
    → ((j : ℕ) → IsJob k j → place < j → of_job list j ≡ arcs_to k.arcs j)
    → count ≡ arcs_to k.arcs (place + 1)
count_at k list place count lt len at left =
    let back : place + 1 - 1 ≡ place = omega arith in
    at ∙ get_or_default list place count 0 lt ∙ sym (ap (λ n. get_or list n 0) back)
    ∙ left (place + 1) (omega arith, omega (arith, len, lt)) (omega arith)

pub overflow_add-begin : goal.overflow_add-begin
overflow_add-begin g c =
    let k : SchedulingTask = c.args.task.now in
    let now = c.loop-place.invariant in
    let count : c.index-count.result.now ≡ arcs_to k.arcs (c.loop-place.place + 1) =
    count_at k c.loop-place.begins.items c.loop-place.place c.index-count.result.now
    (omega (arith, c.loop-place-test.true, c.len-place-end.ensures.value, now.len)) now.len
    c.index-count.ensures now.left in
    omega (
      arith,
      count,
      now.begin,
      before_within k.arcs (c.loop-place.place + 1),
      c.len-place-end.ensures.sound.few_arcs,
    )

pub loop-place-preserved : goal.loop-place-preserved
loop-place-preserved g c =
    let k : SchedulingTask = c.args.task.now in
    let now = c.loop-place.invariant in
    let begins : List ℕ = c.loop-place.begins.items in
    let place : ℕ = c.loop-place.place in
    let begin : ℕ = c.loop-place.begin in
    let within : place < length begins =
    omega (arith, c.loop-place-test.true, c.len-place-end.ensures.value, now.len) in
    let count : c.index-count.result.now ≡ arcs_to k.arcs (place + 1) =
    count_at k begins place c.index-count.result.now within now.len c.index-count.ensures
    now.left in
    let other : (j : ℕ) → IsJob k j → j ≢ place + 1
    → of_job (set begins place begin) j ≡ of_job begins j =
    λ j job differ. get_or-set_other begins place (j - 1) begin 0
    (λ e. differ (omega (arith, e, job.0))) in
    record {
      len = length-set begins place begin ∙ now.len;
      begin = omega (arith, now.begin, count, before_next k.arcs (place + 1));
      done = λ j job le. ⊎_elim
          (λ same. let at : j - 1 ≡ place = omega (arith, same) in
          ap (λ n. get_or (set begins place begin) n 0) at
          ∙ get_or-set_same begins place begin 0 within ∙ now.begin
          ∙ ap (arcs_before k.arcs) (sym same))
          (λ differ. other j job differ ∙ now.done j job (omega (arith, le, differ)))
          (cases_eq j (place + 1));
      left = λ j job lt. other j job (λ e. omega (arith, e, lt))
          ∙ now.left j job (omega (arith, lt));
    }
