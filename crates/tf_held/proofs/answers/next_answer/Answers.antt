use Rattle.std.proofs.Common.{arith, drop, refl, sym, ap, ◌∙◌}
use Rattle.std.proofs.lemmas.List.{length-drop}
use Rattle.tf_words.specs.Words.{lines}
use Rattle.tf_held.proofs.AnswerTexts.{goes_on, line_at, none_left, over}
use Rattle.tf_held.proofs.answers.next_answer.Goals as goal
use Rattle.tf_held.proofs.answers.next_answer.Goals.{else-loop-len-test, then-loop-len-test+then-is_last}

pub loop-len-preserved : goal.loop-len-preserved
loop-len-preserved c = record {
  within = omega (arith, c.min-len.ensures);
  after =
      c.loop-len.invariant.after
      ∙ goes_on _ _ _
      (line_at c.args.text.now c.loop-len.len _ c.line_len-line.result _ c.min-len.result
      (omega (arith, c.loop-len-test.true)) refl c.line_len-line.ensures.place (omega arith)
      c.min-len.ensures)
      (sym c.is_end-is_last.ensures ∙ c.if-is_last.false);
}

pub returns-clause-after : goal.returns-clause-after
returns-clause-after c = elim c.loop-len-test.branch [
  | else-loop-len-test w ↦
      ap lines (c.split_at.ensures.back ∙ ap (λ n. drop n c.args.text.now) w.len-is)
      ∙ none_left (drop c.loop-len.len c.args.text.now)
      (omega (arith, w.loop-len-test.false, length-drop c.loop-len.len c.args.text.now))
      ∙ sym c.loop-len.invariant.after
  | then-loop-len-test+then-is_last w ↦
      ap lines (c.split_at.ensures.back ∙ ap (λ n. drop n c.args.text.now) w.len-is)
      ∙ sym (c.loop-len.invariant.after
      ∙ over _ _ _
      (line_at c.args.text.now c.loop-len.len _ w.line_len-line.result _ w.min-len.result
      (omega (arith, w.loop-len-test.true)) refl w.line_len-line.ensures.place (omega arith)
      w.min-len.ensures)
      (sym w.is_end-is_last.ensures ∙ w.if-is_last.true))
]
