use Rattle.std.proofs.Common.{◌≡◌, ℕ, ◌+◌, ◌<◌, map, take, List, [], ◌∷◌, ◌++◌, length, get_or, sym, ap, ◌∙◌, subst}
use Rattle.std.proofs.lemmas.List.{map_more}
use Rattle.tf_model.specs.declared.class.Class.{Class}
use Rattle.tf_model.specs.JobFields.{JobFields}
use Rattle.tf_model.specs.SchedulingTask.{JobData}
use Rattle.tf_model.specs.Prepare.{data_of}
use Rattle.tf_model.specs.Summed.{HasSummed}
use Rattle.tf_model.proofs.prepare.totals_of.Goals as goal

-- the rows with one more
more : (class : Class) (jobs : List JobFields) (i : ℕ) (job : JobFields) (row : JobData)
    → i < length jobs → job ≡ get_or jobs i job → row ≡ data_of class job
    → map (data_of class) (take i jobs) ++ row ∷ [] ≡ map (data_of class) (take (i + 1) jobs)
more class jobs i job row h is e =
    ap (λ x. map (data_of class) (take i jobs) ++ x ∷ []) (e ∙ ap (data_of class) is)
    ∙ sym (map_more (data_of class) jobs i job h)

pub loop-job-preserved : goal.loop-job-preserved
loop-job-preserved g c = record {
  summed = subst (HasSummed c.with-totals.result)
      (more c.args.class c.args.jobs.now c.loop-job.job-index c.job-item.result c.row_of.result
      c.loop-job-test.true c.job-item.is c.row_of.ensures)
      (c.with-totals.ensures.summed _ c.loop-job.invariant.summed);
  count = c.with-totals.ensures.count ∙ ap (λ n. n + 1) c.loop-job.invariant.count;
}
