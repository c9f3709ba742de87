use Rattle.std.proofs.Common.{refl, ap, arith}
use Rattle.tf_model.specs.SchedulingTask.{JobData}
use Rattle.tf_model.proofs.Summed.{summed_more}
use Rattle.tf_model.proofs.job_totals.JobTotals.with.Goals as goal

pub returns-clause-summed : goal.returns-clause-summed
returns-clause-summed c = λ rows had.
    summed_more c.args.self _ rows c.args.row had refl
    (omega (
      arith,
      c.from.ensures,
      c.from-2.ensures,
      ap (λ (row : JobData). row.first) c.row.view_is,
      ap (λ (row : JobData). row.second) c.row.view_is,
    ))
    (omega (arith, c.from-3.ensures, ap (λ (row : JobData). row.weight) c.row.view_is))
    (omega (arith, c.max.ensures, ap (λ (row : JobData). row.release) c.row.view_is))
