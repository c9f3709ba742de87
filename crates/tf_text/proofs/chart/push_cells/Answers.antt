use Rattle.std.proofs.Common.{◌≡◌, ap, ◌∙◌, arith, rules}
use Rattle.tf_schedule.specs.Drawing.{job_at, greatest_stop}
use Rattle.tf_text.specs.Chart.{column_time, cell_sign}
use Rattle.tf_text.proofs.ChartLines.{cells_more}
use Rattle.tf_text.proofs.chart.push_cells.Goals as goal

pub loop-column-preserved : goal.loop-column-preserved
loop-column-preserved g c =
    let sign : c.cell_sign.result
    ≡ cell_sign (job_at c.args.schedule.now c.args.machine c.column_time-time.result) =
    search rules in record {
      items = cells_more
          (λ i. cell_sign
          (job_at c.args.schedule.now c.args.machine
          (column_time (greatest_stop c.args.schedule.now) c.args.columns i))) _ _ _
          c.loop-column.column _
          c.loop-column.invariant.items c.push.ensures.items
          (sign
          ∙ ap (λ t. cell_sign (job_at c.args.schedule.now c.args.machine t))
          (c.column_time-time.ensures.value
          ∙ ap (λ n. column_time n c.args.columns c.loop-column.column) c.requires.length.0));
      len = omega (arith, c.push.ensures.len, c.loop-column.invariant.len);
    }
