use Rattle.std.proofs.Common.{ℕ, List, [], ◌∷◌, ◌++◌, codes, subst}
use Rattle.tf_text.specs.AnswerText.{line_text}
use Rattle.tf_command.specs.Wrote.{Wrote}
use Rattle.tf_command.proofs.report.say_usage.Goals as goal

pub returns-clause-line : goal.returns-clause-line
returns-clause-line g c =
    subst (λ (text : List ℕ). Wrote g.W.Write.contents c.args.writer.now c.say_line.new.writer
    (codes "threefield: " ++ line_text (text ∷ []))) c.as_bytes.ensures.value c.say_line.ensures
