use Rattle.std.proofs.Common.{◌∷◌, sym, subst, ◌∙◌, rules, arith}
use Rattle.std.proofs.lemmas.Int.{to_z-of_z}
use Rattle.std.proofs.lemmas.List.Elements.{All-tail}
use Rattle.std.proofs.lemmas.List.Sorted.{All-permutation}
use mir.Syntax.{w64}
use Rattle.tf_model.specs.SchedulingTask.{IsJob}
use Rattle.tf_model.specs.Whole.{IsWithin}
use Rattle.tf_check.specs.Ranked.{IsRank}
use Rattle.tf_check.specs.declared.keyed_job.KeyedJob.{KeyedJob}
use Rattle.tf_single.specs.ByDue.{HasDue, jobs_ranked}
use Rattle.tf_single.specs.GreatestFirst.{entries}
use Rattle.tf_single.proofs.ByDue.{greatest_ranked, ranked_last, late, ranks_moved, own_due, own_job, jobs_moved, latest_cost, latest_cheapest, latest_ties, others_due}
use Rattle.tf_single.proofs.by_due.ByNearDueFreeJobs.take_last.Goals as goal

pub job_of-due-requires : goal.job_of-due-requires
job_of-due-requires g c =
    subst (λ least. IsRank least c.pop.result)
    (sym (to_z-of_z w64 c.args.self.now.least (search rules)))
    (All-permutation (IsRank c.args.self.now.least) (entries c.args.self.now.ranks)
    (c.pop.result ∷ entries c.pop.new.self) c.pop.ensures.moved c.requires.kept.all 0 c.pop.result
    (omega arith))

pub invariant_of-value_at : goal.invariant_of-value_at
invariant_of-value_at g c =
    let least = c.args.self.now.least in
    let x : KeyedJob = c.job_of-due.result in
    let moved = ranks_moved least (entries c.args.self.now.ranks) c.pop.result
    (entries c.pop.new.self) x (search rules) c.pop.ensures.moved c.job_of-due.ensures in
    let job : IsJob c.args.arg2.now x.job =
    own_job c.args.arg2.now (jobs_ranked least c.args.self.now.ranks) c.requires.kept.due x
    (jobs_ranked least c.pop.new.self) moved c.requires.known in
    let own : HasDue c.args.arg2.now x =
    own_due c.args.arg2.now (jobs_ranked least c.args.self.now.ranks) c.requires.kept.due x
    (jobs_ranked least c.pop.new.self) moved in
    record {
      in_range = subst IsWithin (sym (to_z-of_z w64 x.key (search rules) ∙ own))
          (c.requires.sound.dues x.job job);
    }

pub returns-clause-jobs : goal.returns-clause-jobs
returns-clause-jobs g c =
    let least = c.args.self.now.least in
    jobs_moved c.args.arg2.now (jobs_ranked least c.args.self.now.ranks) c.requires.kept.due
    c.job_of-due.result (jobs_ranked least c.pop.new.self)
    (ranks_moved least (entries c.args.self.now.ranks) c.pop.result (entries c.pop.new.self)
    c.job_of-due.result (search rules) c.pop.ensures.moved c.job_of-due.ensures)

pub returns-clause-kept : goal.returns-clause-kept
returns-clause-kept g c = λ end le.
    let least = c.args.self.now.least in
    record {
      near = c.requires.kept.near;
      due = others_due c.args.arg2.now (jobs_ranked least c.args.self.now.ranks)
          c.requires.kept.due c.job_of-due.result (jobs_ranked least c.pop.new.self)
          (ranks_moved least (entries c.args.self.now.ranks) c.pop.result (entries c.pop.new.self)
          c.job_of-due.result (search rules) c.pop.ensures.moved c.job_of-due.ensures);
      all = All-tail (IsRank least) c.pop.result (entries c.pop.new.self)
          (All-permutation (IsRank least) (entries c.args.self.now.ranks)
          (c.pop.result ∷ entries c.pop.new.self) c.pop.ensures.moved c.requires.kept.all);
      ordered = c.pop.ensures.ordered;
    }

pub returns-clause-cost : goal.returns-clause-cost
returns-clause-cost g c =
    let least = c.args.self.now.least in
    let x : KeyedJob = c.job_of-due.result in
    late c.args.work x.key c.value_at.result c.requires.within (search rules) (search rules)
    c.value_at.ensures.value
    ∙ latest_cost c.args.arg2.now (jobs_ranked least c.args.self.now.ranks) c.requires.kept.due x
    (jobs_ranked least c.pop.new.self)
    (ranks_moved least (entries c.args.self.now.ranks) c.pop.result (entries c.pop.new.self) x
    (search rules) c.pop.ensures.moved c.job_of-due.ensures) c.args.work

pub returns-clause-cheapest : goal.returns-clause-cheapest
returns-clause-cheapest g c = λ j at.
    let least = c.args.self.now.least in
    let x : KeyedJob = c.job_of-due.result in
    rw (late c.args.work x.key c.value_at.result c.requires.within (search rules) (search rules)
    c.value_at.ensures.value)
    (latest_cheapest c.args.arg2.now (jobs_ranked least c.args.self.now.ranks)
    c.requires.kept.due x (jobs_ranked least c.pop.new.self)
    (ranks_moved least (entries c.args.self.now.ranks) c.pop.result (entries c.pop.new.self) x
    (search rules) c.pop.ensures.moved c.job_of-due.ensures)
    (greatest_ranked least (entries c.args.self.now.ranks) c.pop.result x (search rules)
    c.job_of-due.ensures c.pop.ensures.greatest) c.args.work j at)

pub returns-clause-ties : goal.returns-clause-ties
returns-clause-ties g c = λ j at same.
    let least = c.args.self.now.least in
    let x : KeyedJob = c.job_of-due.result in
    latest_ties c.args.arg2.now (jobs_ranked least c.args.self.now.ranks) c.requires.kept.due x
    (jobs_ranked least c.pop.new.self)
    (ranks_moved least (entries c.args.self.now.ranks) c.pop.result (entries c.pop.new.self) x
    (search rules) c.pop.ensures.moved c.job_of-due.ensures)
    (ranked_last least (entries c.args.self.now.ranks) c.pop.result x (search rules)
    c.job_of-due.ensures c.pop.ensures.greatest) c.args.work j at
    (same ∙ late c.args.work x.key c.value_at.result c.requires.within (search rules) (search rules)
    c.value_at.ensures.value)
