use Rattle.std.proofs.Common.{arith}
use Rattle.tf_read.proofs.UsualSteps.{over_at_end, over_at_comma}
use Rattle.tf_read.proofs.cost_field.is_over.Goals as goal

pub returns-in-empty : goal.returns-in-empty
returns-in-empty c = λ _. over_at_end _ c.in-empty.len_below

pub returns-in-empty-2 : goal.returns-in-empty-2
returns-in-empty-2 c = λ _. over_at_comma _ c.in-empty.len_at_least (omega arith)
