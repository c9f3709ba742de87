use Rattle.std.proofs.Common.{arith}
use Rattle.std.proofs.lemmas.Grind.{common_steps}
use Rattle.tf_text.proofs.answer.writing.push_numbers.Goals as goal

pub loop-job-preserved : goal.loop-job-preserved
loop-job-preserved g c = grind (arith, common_steps)

pub returns : goal.returns
returns g c = grind (arith, common_steps)
