use Rattle.tf_assess.proofs.assess.place_pieces.Goals as goal

pub returns-clause-fit : goal.returns-clause-fit
returns-clause-fit g c = (c.fit_by.ensures _ c.in-Ok.schedule (record {
  kept = c.in-Ok.ensures.kept;
  schedule = c.in-Ok.ensures.schedule;
  judged = c.in_ok-misfit.ensures.fit;
  table = c.in_ok-misfit.ensures.jobs;
})).0

pub returns-clause-lanes : goal.returns-clause-lanes
returns-clause-lanes g c = (c.fit_by.ensures c.args.pieces.items c.in-Ok.schedule (record {
  kept = c.in-Ok.ensures.kept;
  schedule = c.in-Ok.ensures.schedule;
  judged = c.in_ok-misfit.ensures.fit;
  table = c.in_ok-misfit.ensures.jobs;
})).1
