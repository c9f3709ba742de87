use Rattle.tf_reply.specs.Commands.{Reports}
use Rattle.tf_page.specs.Given.{Lent}
use Rattle.tf_page.proofs.Handed.{handed}
use Rattle.tf_page.proofs.page_report.Goals as goal

pub returns-in-Ok : goal.returns-in-Ok
returns-in-Ok c =
    handed (Reports Lent c.args.asking.now c.args.texts.now) c.report_answer.result
    c.report_answer.ensures c.args.out.now c.give.new.out c.give.new.lengths c.give.result
    c.give.ensures
