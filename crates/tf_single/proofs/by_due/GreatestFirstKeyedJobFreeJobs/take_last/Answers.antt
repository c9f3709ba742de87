use Rattle.std.proofs.Common.{sym, subst, ◌∙◌, rules}
use Rattle.std.proofs.lemmas.Int.{to_z-of_z}
use mir.Syntax.{w64}
use Rattle.tf_model.specs.SchedulingTask.{IsJob}
use Rattle.tf_model.specs.Whole.{IsWithin}
use Rattle.tf_check.specs.declared.keyed_job.KeyedJob.{KeyedJob}
use Rattle.tf_single.specs.ByDue.{HasDue}
use Rattle.tf_single.specs.GreatestFirst.{entries}
use Rattle.tf_single.proofs.ByDue.{greatest_last, greatest_latest, late, own_due, own_job, jobs_moved, latest_cost, latest_cheapest, latest_ties, others_due}
use Rattle.tf_single.proofs.by_due.GreatestFirstKeyedJobFreeJobs.take_last.Goals as goal

pub invariant_of-value_at : goal.invariant_of-value_at
invariant_of-value_at g c =
    let x : KeyedJob = c.pop-due.result in
    let job : IsJob c.args.arg2.now x.job =
    own_job c.args.arg2.now (entries c.args.self.now) c.requires.kept.0 x
    (entries c.pop-due.new.self) c.pop-due.ensures.moved c.requires.known in
    let own : HasDue c.args.arg2.now x =
    own_due c.args.arg2.now (entries c.args.self.now) c.requires.kept.0 x
    (entries c.pop-due.new.self) c.pop-due.ensures.moved in
    record {
      in_range = subst IsWithin (sym (to_z-of_z w64 x.key (search rules) ∙ own))
          (c.requires.sound.dues x.job job);
    }

pub returns-clause-jobs : goal.returns-clause-jobs
returns-clause-jobs g c =
    jobs_moved c.args.arg2.now (entries c.args.self.now) c.requires.kept.0 c.pop-due.result
    (entries c.pop-due.new.self) c.pop-due.ensures.moved

pub returns-clause-kept : goal.returns-clause-kept
returns-clause-kept g c = λ end le. (
  others_due c.args.arg2.now (entries c.args.self.now) c.requires.kept.0 c.pop-due.result
      (entries c.pop-due.new.self) c.pop-due.ensures.moved,
  c.pop-due.ensures.ordered,
)

pub returns-clause-cost : goal.returns-clause-cost
returns-clause-cost g c =
    let x : KeyedJob = c.pop-due.result in
    late c.args.work x.key c.value_at.result c.requires.within (search rules) (search rules)
    c.value_at.ensures.value
    ∙ latest_cost c.args.arg2.now (entries c.args.self.now) c.requires.kept.0 x
    (entries c.pop-due.new.self) c.pop-due.ensures.moved c.args.work

pub returns-clause-cheapest : goal.returns-clause-cheapest
returns-clause-cheapest g c = λ j at.
    let x : KeyedJob = c.pop-due.result in
    rw (late c.args.work x.key c.value_at.result c.requires.within (search rules) (search rules)
    c.value_at.ensures.value)
    (latest_cheapest c.args.arg2.now (entries c.args.self.now) c.requires.kept.0 x
    (entries c.pop-due.new.self) c.pop-due.ensures.moved
    (greatest_latest (entries c.args.self.now) x c.pop-due.ensures.greatest) c.args.work j at)

pub returns-clause-ties : goal.returns-clause-ties
returns-clause-ties g c = λ j at same.
    let x : KeyedJob = c.pop-due.result in
    latest_ties c.args.arg2.now (entries c.args.self.now) c.requires.kept.0 x
    (entries c.pop-due.new.self) c.pop-due.ensures.moved
    (greatest_last (entries c.args.self.now) x c.pop-due.ensures.greatest) c.args.work j at
    (same ∙ late c.args.work x.key c.value_at.result c.requires.within (search rules) (search rules)
    c.value_at.ensures.value)
