use Rattle.tf_held.proofs.series.work_over.Goals as goal

pub returns : goal.returns
returns c = (
  c.work_for-work.result,
  c.work_for-work.ensures.work _ _ c.options_for-options.ensures,
  c.perform_counted.ensures,
)
