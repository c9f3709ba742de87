use Rattle.std.proofs.Common.{◌∷◌, ◌∙◌, rules}
use Rattle.std.proofs.lemmas.Int.{to_z-of_z}
use Rattle.std.proofs.lemmas.List.Sorted.{IsPermutation-map}
use mir.Syntax.{w64}
use mir.Val.{to_z, of_z}
use Rattle.tf_check.specs.declared.keyed_job.KeyedJob.{KeyedJob}
use Rattle.tf_single.specs.GreatestFirst.{entries}
use Rattle.tf_single.proofs.ByDue.{due_more}
use Rattle.tf_single.proofs.by_due.GreatestFirstKeyedJobFreeJobs.add.Goals as goal

pub returns-clause-jobs : goal.returns-clause-jobs
returns-clause-jobs g c =
    let e : KeyedJob = record { key = to_z w64 (of_z w64 c.due-key.result); job = c.args.job } in
    IsPermutation-map (λ (d : KeyedJob). d.job) (e ∷ entries c.args.self.now)
    (entries c.push.new.self) c.in_ok-push.ensures.entries

pub returns-clause-kept : goal.returns-clause-kept
returns-clause-kept g c = λ work kept. (
  due_more c.args.task.now (entries c.args.self.now) (entries c.push.new.self)
      (record { key = to_z w64 (of_z w64 c.due-key.result); job = c.args.job }) kept.0
      (to_z-of_z w64 c.due-key.result (search rules) ∙ c.due-key.ensures)
      c.in_ok-push.ensures.entries,
  c.in_ok-push.ensures.ordered kept.1,
)
