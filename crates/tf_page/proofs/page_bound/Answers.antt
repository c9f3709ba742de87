use Rattle.tf_reply.specs.Commands.{Bounds}
use Rattle.tf_page.specs.Given.{Lent}
use Rattle.tf_page.proofs.Handed.{handed}
use Rattle.tf_page.proofs.page_bound.Goals as goal

pub returns-in-Ok : goal.returns-in-Ok
returns-in-Ok c =
    handed (Bounds Lent c.args.asking.now c.args.texts.now) c.bound.result c.bound.ensures c.args.out.now
    c.give.new.out c.give.new.lengths c.give.result c.give.ensures
