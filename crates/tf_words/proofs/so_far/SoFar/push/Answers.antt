use Rattle.std.proofs.Common.{ap, ◌∙◌}
use Rattle.tf_words.specs.SoFar.{next}
use Rattle.tf_words.proofs.Grows.{step}
use Rattle.tf_words.proofs.so_far.SoFar.push.Goals as goal

pub returns : goal.returns
returns c = λ word e. c.next.ensures ∙ ap (λ s. next s c.args.byte) e ∙ step word c.args.byte
