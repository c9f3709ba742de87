use Rattle.std.proofs.Common.{eqb}
use Rattle.tf_words.proofs.Lines.{first_place}
use Rattle.tf_words.proofs.line.line_feed_at.Goals as goal

pub returns : goal.returns
returns c = first_place (λ b. eqb b 10) c.args.text.now _ c.memchr.ensures
