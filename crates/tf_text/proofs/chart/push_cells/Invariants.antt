use Rattle.std.proofs.Common.{◌≡◌, ◌+◌, ◌++◌, map}
use Rattle.std.specs.List.{range_with_len}
use Rattle.arrayvec.specs.ArrayVec.{array_vec_len}
use Rattle.tf_schedule.specs.Drawing.{job_at, greatest_stop}
use Rattle.tf_text.specs.Chart.{column_time, cell_sign}
use Rattle.tf_text.proofs.chart.push_cells.Given as goal

-- the columns up to this one stand behind what was there
abbrev pub invariant-loop-column : goal.invariant-loop-column
invariant-loop-column g l = record {
  items : l.line.items ≡ l.fn.line.items
      ++ map (λ c. cell_sign
      (job_at l.schedule l.machine (column_time (greatest_stop l.schedule) l.columns c)))
      (range_with_len 0 l.column);
  len : array_vec_len l.line ≡ array_vec_len l.fn.line + l.column;
}
