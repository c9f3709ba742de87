use Rattle.std.proofs.Common.{◌<◌, [], ◌∷◌, length, Ok, ap, sym, subst, ◌∙◌, arith}
use Rattle.std.proofs.lemmas.List.{length-set}
use Rattle.std.proofs.lemmas.Result.{err_from_is_err_and}
use Rattle.tf_words.specs.WordParts.{later_parts}
use Rattle.tf_model.specs.Limit.{most_machines}
use Rattle.tf_read.proofs.Each.{fault_of}
use Rattle.tf_routes.specs.Marks.{AreMarks}
use Rattle.tf_routes.specs.RoutedTable.{steps_at}
use Rattle.tf_routes.proofs.Marked.{fresh, fresh_count, mark}
use Rattle.tf_routes.proofs.TableSteps.{steps_done, steps_fail, steps_next}
use Rattle.tf_routes.proofs.TableWords.{a_route, no_route}
use Rattle.tf_routes.proofs.routed_table.route_at.Goals as goal

pub returns-then-not-has_at : goal.returns-then-not-has_at
returns-then-not-has_at g c =
    no_route c.args.line c.args.value.now (sym c.if-not-has_at.ensures)
    ∙ ap Ok (sym (c.new-then-not-has_at.ensures ∙ c.new.ensures.items))

pub loop-marks-init : goal.loop-marks-init
loop-marks-init g c =
    let items = c.in_ok-marks.ensures.items_if_clones_equal (λ y e. e) in
    record {
      marks = fresh most_machines _ _ c.new-steps.ensures.items items;
      count = fresh_count most_machines _ items;
      same = ap (λ ss. steps_at ss c.args.line
          (c.first_part.result.0.now ∷ later_parts c.first_part.result.1.now))
          c.new-steps.ensures.items
          ∙ a_route c.args.line c.args.value.now _ _ (sym c.if-not-has_at.ensures)
          c.first_part.ensures;
    }

pub returns-in_err-step : goal.returns-in_err-step
returns-in_err-step g c =
    let steps = c.loop-marks.steps.items in
    let marked = subst (AreMarks steps) (sym c.deref.ensures.value) c.loop-marks.invariant.marks in
    let p =
    err_from_is_err_and c.from_residual-in_err-step.result c.from_residual-in_err-step.ensures.1 in
    rw (p.1, p.2)
    (steps_fail c.args.line steps _ _ _ _
    (fault_of _ _ (sym (c.in_err-step.ensures.step steps marked)))
    c.loop-marks.invariant.same)

pub returns-in_default : goal.returns-in_default
returns-in_default g c =
    let steps = c.loop-marks.steps.items in
    let marked = subst (AreMarks steps) (sym c.deref.ensures.value) c.loop-marks.invariant.marks in
    steps_done c.args.line c.push.new.self.items _
    (steps_next c.args.line steps _ _ _ _ [] _ c.in_default.ensures.parts
    (sym (c.in_ok-step.ensures.step steps marked)) c.in_ok-push.ensures.items
    c.loop-marks.invariant.same)
    ∙ ap Ok (sym c.new-in_default.ensures)

pub loop-marks-preserved : goal.loop-marks-preserved
loop-marks-preserved g c =
    let steps = c.loop-marks.steps.items in
    let marks = c.loop-marks.marks.items in
    let marked = subst (AreMarks steps) (sym c.deref.ensures.value) c.loop-marks.invariant.marks in
    let within : c.in_ok-step.step.machine < length marks =
    omega (arith, c.in_ok-step.ensures.within, ap length c.deref.ensures.value) in
    record {
      marks = mark steps _ c.in_ok-step.step marks c.in_ok-push.ensures.items within
          c.loop-marks.invariant.marks;
      count = length-set marks _ _ ∙ c.loop-marks.invariant.count;
      same = steps_next c.args.line steps _ _ _ _ _ _ c.in-Some.ensures.parts
          (sym (c.in_ok-step.ensures.step steps marked)) c.in_ok-push.ensures.items
          c.loop-marks.invariant.same;
    }
