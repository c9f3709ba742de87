use Rattle.std.proofs.Common.{◌≡◌, ◌++◌, false}
use Rattle.std.specs.Io.KnownBytes.{Appends}
use Rattle.std.specs.List.{range_with_len, flat_map}
use Rattle.tf_text.specs.Counted.{inner_of, has_failed}
use Rattle.tf_text.specs.Chart.{machine_line, length_line}
use Rattle.tf_text.proofs.chart.write_gantt.Given as goal

-- the lines up to this machine's were written
abbrev pub invariant-loop-k : goal.invariant-loop-k
invariant-loop-k g l = record {
  written : Appends (g.W.Write.contents (inner_of l.fn.writer))
      (g.W.Write.contents (inner_of l.writer))
      (length_line l.schedule
      ++ flat_map (machine_line l.schedule l.columns) (range_with_len 1 l.k));
  unfailed : has_failed l.writer ≡ false;
}
