use Rattle.tf_schedule.proofs.Scan.{IsScanned}
use Rattle.tf_schedule.specs.Line.{line_of}
use Rattle.tf_schedule.proofs.line.Line.first_overlap.Given as goal

abbrev pub invariant-loop-k : goal.invariant-loop-k
invariant-loop-k l = IsScanned (line_of l.self) l.pieces l.k
