use Rattle.std.proofs.Common.{sym, ap, ◌∙◌, refl, string_bytes}
use Rattle.tf_notation.specs.Canonical.{all_conditions}
use Rattle.tf_notation.proofs.Joined.{step_yes, step_no}
use Rattle.tf_notation.proofs.writing.listed_text.Goals as goal
use Rattle.tf_notation.proofs.writing.listed_text.Goals.{then-has+in_ok-add_word, else-has}

pub loop-condition-preserved : goal.loop-condition-preserved
loop-condition-preserved g c = record {
  items = refl;
  same = elim c.if-has.branch [
    | then-has+in_ok-add_word w ↦ ap string_bytes w.list-is
        ∙ step_yes c.args.problem.now all_conditions c.loop-condition.condition-index _ _ _ _
        c.loop-condition-test.true (sym c.has.ensures ∙ w.if-has.true)
        c.loop-condition.invariant.same w.condition_word.ensures w.in_ok-add_word.ensures
    | else-has w ↦ ap string_bytes w.list-is
        ∙ step_no c.args.problem.now all_conditions c.loop-condition.condition-index _ _
        c.loop-condition-test.true (sym c.has.ensures ∙ w.if-has.false)
        c.loop-condition.invariant.same
  ];
}
