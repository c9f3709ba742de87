use Rattle.std.proofs.Common.{[], refl, arith}
use Rattle.tf_read.proofs.PresentLine.{no_byte}
use Rattle.tf_read.proofs.flow_stage.Stage.new.Goals as goal

pub returns-clause-taken : goal.returns-clause-taken
returns-clause-taken g c = λ name pair. ([], refl, (omega arith, no_byte), λ more. refl)
