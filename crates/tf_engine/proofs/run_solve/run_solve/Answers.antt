use Rattle.std.proofs.Common.{ap, subst}
use Rattle.tf_text.specs.AnswerText.{answer_text}
use Rattle.tf_text.specs.declared.answer.layout.Layout.{Layout}
use Rattle.tf_engine.specs.Outputs.{Ends}
use Rattle.tf_engine.proofs.AcceptedAgain.{answered}
use Rattle.tf_engine.proofs.Ending.{ends_by, leaves_instance}
use Rattle.tf_engine.proofs.run_solve.run_solve.Goals as goal

pub returns-clause-outcome : goal.returns-clause-outcome
returns-clause-outcome g c =
    ends_by (answered c.args.request.now) c.solved_sheet-sheet.ensures
    (subst (λ (layout : Layout). Ends (λ sheet. tt) (answer_text layout) g.W.Write.contents
    c.args.writer.now c.write_sheet.new.writer c.solved_sheet-sheet.result c.write_sheet.result)
    (ap (λ r. r.layout) c.request.view_is) c.write_sheet.ensures)

pub returns-clause-devices : goal.returns-clause-devices
returns-clause-devices g c = leaves_instance c.solved_sheet-sheet.ensures c.write_sheet.ensures
