use Rattle.std.proofs.Common.{◌≡◌, ◌≤◌, map}
use Rattle.std.specs.List.{range_with_len}
use Rattle.std.specs.Vec.{vec_len, vec_capacity}
use Rattle.tf_read.specs.InstanceNumbers.{job_of}
use Rattle.tf_read.proofs.instance_numbers.Columns.jobs.Given as goal

abbrev pub invariant-loop-j : goal.invariant-loop-j
invariant-loop-j g l = record {
  made : l.room.items ≡ map (job_of l.jobs l.self) (range_with_len 0 l.j);
  length : vec_len l.room ≡ l.j;
  room : l.jobs ≤ vec_capacity l.room;
}
