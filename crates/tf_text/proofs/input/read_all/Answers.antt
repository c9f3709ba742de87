use Rattle.std.proofs.Common.{arith}
use Rattle.std.proofs.lemmas.Grind.{common_steps}
use Rattle.tf_text.proofs.input.read_all.Goals as goal

pub returns-then-len-gt-MOST_BYTES-clause-too_long : goal.returns-then-len-gt-MOST_BYTES-clause-too_long
returns-then-len-gt-MOST_BYTES-clause-too_long g c = grind (arith, common_steps)
