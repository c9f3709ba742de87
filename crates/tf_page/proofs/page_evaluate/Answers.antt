use Rattle.tf_reply.specs.Commands.{Evaluates}
use Rattle.tf_page.specs.Given.{Lent}
use Rattle.tf_page.proofs.Handed.{handed}
use Rattle.tf_page.proofs.page_evaluate.Goals as goal

pub returns-in-Ok : goal.returns-in-Ok
returns-in-Ok c =
    handed (Evaluates Lent c.args.asking.now c.args.texts.now) c.evaluate.result c.evaluate.ensures c.args.out.now
    c.give.new.out c.give.new.lengths c.give.result c.give.ensures
