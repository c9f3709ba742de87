use Rattle.std.proofs.Common.{ℕ, List, sym, subst, ◌∙◌}
use Rattle.std.proofs.lemmas.Bool.{eqb-true}
use Rattle.tf_words.specs.Words.{lines}
use Rattle.tf_export.specs.Adds.{Adds}
use Rattle.tf_export.specs.Lines.{first_of}
use Rattle.tf_export.specs.Documents.{part_in, parts}
use Rattle.tf_export.proofs.Saying.{parts_next, parts_none}
use Rattle.tf_export.proofs.Adding.{next, done}
use Rattle.tf_export.proofs.json.Json.parts.Goals as goal

pub loop-rest-init : goal.loop-rest-init
loop-rest-init c = λ end rest. rest

pub loop-rest-preserved : goal.loop-rest-preserved
loop-rest-preserved c =
    next c.args.self.now c.loop-rest.self c.part.new.self
    (parts c.args.part (lines c.args.text.now)) (parts c.args.part (lines c.loop-rest.rest.now))
    (part_in c.args.part c.next_line.result.0.now (first_of (lines c.next_line.result.1.now)))
    (parts c.args.part (lines c.next_line.result.1.now))
    (parts_next c.args.part c.loop-rest.rest.now _ _ c.next_line.ensures.lines)
    (subst (λ (next : List ℕ). Adds c.loop-rest.self c.part.new.self
    (part_in c.args.part c.next_line.result.0.now next)) c.first_of.ensures c.in_ok-part.ensures)
    c.loop-rest.invariant

pub returns : goal.returns
returns c =
    done c.args.self.now c.loop-rest.self (parts c.args.part (lines c.args.text.now))
    (parts c.args.part (lines c.loop-rest.rest.now))
    (parts_none c.args.part c.loop-rest.rest.now
    (eqb-true _ _ (sym c.is_empty.ensures ∙ c.loop-rest-test.false))) c.loop-rest.invariant
