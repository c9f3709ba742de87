use Rattle.std.proofs.Common.{map}
use Rattle.std.specs.List.{range_with_len}
use Rattle.tf_model.specs.TaskBuilder.{Takes}
use Rattle.tf_read.specs.InstanceNumbers.{job_of}
use Rattle.tf_read.proofs.instance_numbers.Columns.give.Given as goal

abbrev pub invariant-loop-j : goal.invariant-loop-j
invariant-loop-j g l =
    Takes l.initial.builder (map (job_of l.jobs l.self) (range_with_len 0 l.j)) l.builder
