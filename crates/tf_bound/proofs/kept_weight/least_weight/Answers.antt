use Rattle.std.proofs.Common.{◌≡◌, ℕ, ◌+◌, ◌-◌, ◌*◌, List, length, slice_index, sym, ap, ◌∙◌, subst, arith}
use Rattle.tf_posed.specs.ProblemData.{problem_time, problem_weight}
use Rattle.tf_problem.specs.Kept.{due_time, room_by_due}
use Rattle.tf_bound.proofs.LateTable.{IsNext, IsTable, back-small, back-more, written}
use Rattle.tf_bound.proofs.kept_weight.least_weight.Goals as goal

pub choose-requires-clause-small : goal.choose-requires-clause-small
choose-requires-clause-small g c =
    let k = c.args.task.now in
    let xs : List ℕ = c.args.jobs.now in
    let x : ℕ = c.index-jobs-jobs.result in
    λ t lt. omega (
      arith,
      back-small (problem_time k) (problem_weight k) (room_by_due k xs) xs c.loop-done.done x
          c.loop-done.left c.loop-done.table.items c.loop-done-test.true c.index-jobs-jobs.is
          c.loop-done.invariant.table t (omega (arith, lt)),
      c.weight.ensures.value,
      ap (λ (l : List ℕ). slice_index l t) c.deref_mut.ensures.value,
      c.requires.weight,
    )

pub loop-done-preserved : goal.loop-done-preserved
loop-done-preserved g c =
    let k = c.args.task.now in
    let xs : List ℕ = c.args.jobs.now in
    let x : ℕ = c.index-jobs-jobs.result in
    let p : ℕ → ℕ = problem_time k in
    let w : ℕ → ℕ = problem_weight k in
    let room : ℕ → ℕ = room_by_due k xs in
    let last : ℕ = c.loop-done.left in
    let old : List ℕ = c.loop-done.table.items in
    let next : List ℕ = c.choose.new.table in
    let from : c.room_from.result ≡ room x = c.room_from.ensures
    ∙ ap (λ r. k.machines * (due_time k x - r)) c.least_release-first.ensures.value in
    let same : length next ≡ length old =
    c.choose.ensures.len ∙ ap (λ (l : List ℕ). length l) c.deref_mut.ensures.value in
    let back = written c.loop-done.table.len next old (omega (arith, same, c.loop-done.table.ok))
    (omega (arith, c.loop-done.table.ok)) in
    let chosen : IsNext last (p x) (w x) (room x) old next =
    subst (λ (l : List ℕ). IsNext last (p x) (w x) (room x) l next) c.deref_mut.ensures.value
    (subst (λ r. IsNext last (p x) (w x) r c.deref_mut.result.now next) from
    (subst (λ v. IsNext last (p x) v c.room_from.result c.deref_mut.result.now next) c.weight.ensures.value
    (subst (λ v. IsNext last v c.weight.result c.room_from.result c.deref_mut.result.now next)
    c.time.ensures.value c.choose.ensures.value))) in
    record {
      len = ap (λ (l : List ℕ). length l) back ∙ same ∙ c.loop-done.invariant.len;
      table = subst (λ (l : List ℕ). IsTable p w room xs (length xs - (c.loop-done.done + 1))
          (last - c.time.result) l) (sym back)
          (subst (λ v. IsTable p w room xs (length xs - (c.loop-done.done + 1)) (last - v) next)
          (sym c.time.ensures.value)
          (back-more p w room xs c.loop-done.done x last old next c.loop-done-test.true c.index-jobs-jobs.is
          c.loop-done.invariant.table chosen));
    }
