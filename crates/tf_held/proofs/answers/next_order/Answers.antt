use Rattle.std.proofs.Common.{sym, ◌∙◌}
use Rattle.std.proofs.lemmas.Bool.{eqb-true}
use Rattle.tf_held.proofs.AnswerTexts.{no_order}
use Rattle.tf_held.proofs.answers.next_order.Goals as goal

pub returns : goal.returns
returns c =
    no_order c.args.text.now c.loop-rest.rest.now c.loop-rest.invariant.first
    c.loop-rest.invariant.after (eqb-true _ _ (sym c.is_empty.ensures ∙ c.loop-rest-test.false))
