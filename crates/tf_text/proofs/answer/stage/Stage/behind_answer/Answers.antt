use Rattle.std.proofs.Common.{sym, ◌∙◌}
use Rattle.tf_text.specs.AnswerStage.{head_of}
use Rattle.tf_text.proofs.Stages.{end_then, end_fault}
use Rattle.tf_text.proofs.answer.stage.Stage.behind_answer.Goals as goal

pub returns-then-is_end : goal.returns-then-is_end
returns-then-is_end g c = λ more total h.
    end_then (head_of c.args.head) _ _ more total (sym c.is_end.ensures ∙ c.if-is_end.true) h

pub returns-else-is_end : goal.returns-else-is_end
returns-else-is_end g c = λ more total h.
    end_fault (head_of c.args.head) _ _ more total (sym c.is_end.ensures ∙ c.if-is_end.false) h
