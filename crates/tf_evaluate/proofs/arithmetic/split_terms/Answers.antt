use Rattle.std.proofs.Common.{SFits, rules, ◌≡◌, ℕ, ◌+◌, ◌-◌, ℤ, Bool, Ok, None, List, [], sum_by, unsigned_abs, sym, ap, ◌∙◌, arith}
use Rattle.std.specs.Int.{w64, w128}
use Rattle.std.proofs.lemmas.Int.{to_z-of_z}
use Rattle.tf_model.specs.SchedulingTask.{SchedulingTask, time_on}
use Rattle.tf_check.specs.Bound.{list_fault, split_bound}
use Rattle.tf_check.proofs.JobLists.{jobs_in_task}
use Rattle.tf_evaluate.specs.declared.step.Terms.TheVariants.{Split}
use Rattle.tf_evaluate.specs.Arithmetic.{others_work}
use Rattle.tf_check.specs.Laws.{split_says}
use Rattle.tf_evaluate.proofs.Given.{side_within}
use Rattle.tf_evaluate.proofs.EndsInBound.{split_is}
use Rattle.tf_evaluate.proofs.arithmetic.split_terms.Goals as goal

pub work_on_first-side-requires-clause-known : goal.work_on_first-side-requires-clause-known
work_on_first-side-requires-clause-known g c =
    let k = c.args.task.now in
    let s = c.args.split.now in
    let none : list_fault k [] c.as_slice.result.now ≡ None =
    ap (list_fault k []) c.as_slice.ensures
    ∙ (split_says k s.side s.delta s.first c.args.bound c.requires.given).1 in
    jobs_in_task k c.as_slice.result.now none

pub work_on_first-side-requires-clause-work : goal.work_on_first-side-requires-clause-work
work_on_first-side-requires-clause-work g c =
    let k = c.args.task.now in
    let s = c.args.split.now in
    let none : list_fault k [] c.as_slice.result.now ≡ None =
    ap (list_fault k []) c.as_slice.ensures
    ∙ (split_says k s.side s.delta s.first c.args.bound c.requires.given).1 in
    side_within k c.requires.sound c.as_slice.result.now none

-- the size of the bound
sized : (k : SchedulingTask) (side : List ℕ) (delta : ℤ) (first : Bool) (b bits : ℤ) → bits ≡ b
    → split_bound k side delta first ≡ Ok b
    → unsigned_abs bits
    ≡ sum_by (λ j. time_on k j 0) side + others_work k side + unsigned_abs delta
sized k side delta first b bits same given =
    let says = split_says k side delta first b given in
    ap unsigned_abs same ∙ sym (ap unsigned_abs says.4)
    ∙ sym (split_is k side (unsigned_abs delta) says.1)

pub overflow_sub-result : goal.overflow_sub-result
overflow_sub-result g c =
    let fits : SFits w128 c.args.bound = search rules in
    let k = c.args.task.now in
    let s = c.args.split.now in
    let side : c.work_on_first-side.result ≡ sum_by (λ j. time_on k j 0) s.side =
    c.work_on_first-side.ensures ∙ ap (sum_by (λ j. time_on k j 0)) c.as_slice.ensures in
    omega (
      arith,
      sized k s.side s.delta s.first c.args.bound _
          (to_z-of_z w128 c.args.bound fits) c.requires.given,
      side,
      c.from.ensures,
      c.unsigned_abs.ensures.value,
    )

pub overflow_sub-result-2 : goal.overflow_sub-result-2
overflow_sub-result-2 g c =
    let fits : SFits w128 c.args.bound = search rules in
    let k = c.args.task.now in
    let s = c.args.split.now in
    let small : SFits w64 s.delta = search rules in
    let delta : c.unsigned_abs-delta.result ≡ unsigned_abs s.delta =
    c.unsigned_abs-delta.ensures.value ∙ ap unsigned_abs (to_z-of_z w64 s.delta small) in
    let side : c.work_on_first-side.result ≡ sum_by (λ j. time_on k j 0) s.side =
    c.work_on_first-side.ensures ∙ ap (sum_by (λ j. time_on k j 0)) c.as_slice.ensures in
    omega (
      arith,
      sized k s.side s.delta s.first c.args.bound _
          (to_z-of_z w128 c.args.bound fits) c.requires.given,
      side,
      c.from.ensures,
      c.from-2.ensures,
      c.unsigned_abs.ensures.value,
      delta,
    )

pub returns : goal.returns
returns g c =
    let fits : SFits w128 c.args.bound = search rules in
    let k = c.args.task.now in
    let s = c.args.split.now in
    let small : SFits w64 s.delta = search rules in
    let delta : c.unsigned_abs-delta.result ≡ unsigned_abs s.delta =
    c.unsigned_abs-delta.ensures.value ∙ ap unsigned_abs (to_z-of_z w64 s.delta small) in
    let side : c.work_on_first-side.result ≡ sum_by (λ j. time_on k j 0) s.side =
    c.work_on_first-side.ensures ∙ ap (sum_by (λ j. time_on k j 0)) c.as_slice.ensures in
    let others : c.unsigned_abs.result - c.from.result - c.from-2.result ≡ others_work k s.side =
    omega (
      arith,
      sized k s.side s.delta s.first c.args.bound _
          (to_z-of_z w128 c.args.bound fits) c.requires.given,
      side,
      c.from.ensures,
      c.from-2.ensures,
      c.unsigned_abs.ensures.value,
      delta,
    ) in
    ap (λ n. Split n (c.unsigned_abs.result - c.from.result - c.from-2.result)
    c.unsigned_abs-delta.result) side
    ∙ ap (λ n. Split (sum_by (λ j. time_on k j 0) s.side) n c.unsigned_abs-delta.result) others
    ∙ ap (Split (sum_by (λ j. time_on k j 0) s.side) (others_work k s.side)) delta
