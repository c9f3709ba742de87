use Rattle.std.proofs.Common.{◌≡◌, ◌-◌, ◌<◌, ℕ, ℤ, not, true, false, Some, length, get_or, sym, ap, ◌∙◌, subst, arith, rules}
use Rattle.std.proofs.lemmas.Bool.{not-false, not-true}
use Rattle.std.proofs.lemmas.Int.{to_z-of_z, to_z_pos}
use mir.Syntax.{w64, w128}
use mir.Val.{SFits, to_z}
use Rattle.tf_model.specs.Cost.{price}
use Rattle.tf_model.specs.Whole.{as_time}
use Rattle.tf_model.specs.SchedulingTask.{SchedulingTask, IsJob}
use Rattle.tf_check.specs.Bound.{is_free}
use Rattle.tf_check.specs.Free.{least_with}
use Rattle.tf_check.proofs.Followed.{cheapest_more, cheapest_skips}
use Rattle.tf_check.proofs.last_of.cheapest_free.Goals as goal
use Rattle.tf_check.proofs.last_of.cheapest_free.Goals.{then-not-followed-place, else-not-followed-place}

pub loop-job-preserved : goal.loop-job-preserved
loop-job-preserved g c =
    let k : SchedulingTask = c.args.task.now in
    let xs = c.args.jobs.now in
    let i : ℕ = c.loop-job.job-index in
    let x : ℕ = c.job-item.result in
    let f : ℕ → ℤ = λ j. price k j c.args.end in
    let lt : i < length xs = c.loop-job-test.true in
    let at : get_or xs i x ≡ x = sym c.job-item.is in
    let job : IsJob k x = subst (IsJob k) at (c.requires.known i x lt) in
    let mark : get_or c.args.followed.now c.place.result false ≡ not (is_free k xs x) =
    ap (λ n. get_or c.args.followed.now n false) c.place.ensures.value
    ∙ c.requires.followed.marked x job in
    elim c.if-not-followed-place.branch [
      | then-not-followed-place w ↦
          let free : is_free k xs x ≡ true =
          not-false (is_free k xs x) (sym mark ∙ w.if-not-followed-place.true) in
          let end : as_time (to_z w64 c.args.end) ≡ c.args.end =
          ap as_time (to_z_pos w64 c.args.end (omega (arith, c.requires.end))) in
          let fits : SFits w128 w.lesser.result = search rules in
          let small : SFits w128 w.price.result = search rules in
          w.least-is
          ∙ ap Some (to_z-of_z w128 w.lesser.result fits ∙ w.lesser.ensures
          ∙ ap (least_with c.loop-job.least)
          (to_z-of_z w128 w.price.result small ∙ w.price.ensures ∙ ap (price k x) end)
          ∙ ap (λ o. least_with o (f x)) c.loop-job.invariant)
          ∙ sym (cheapest_more f (is_free k xs) xs i x lt at free)
      | else-not-followed-place w ↦
          let held : is_free k xs x ≡ false =
          not-true (is_free k xs x) (sym mark ∙ w.if-not-followed-place.false) in
          w.least-is ∙ c.loop-job.invariant
          ∙ sym (cheapest_skips f (is_free k xs) xs i x lt at held)
    ]
