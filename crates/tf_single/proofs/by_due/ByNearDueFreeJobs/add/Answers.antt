use Rattle.std.proofs.Common.{◌≡◌, ◌∷◌, ◌∙◌, subst, rules}
use Rattle.std.proofs.lemmas.Int.{to_z-of_z}
use Rattle.std.proofs.lemmas.List.Elements.{All-cons}
use Rattle.std.proofs.lemmas.List.Sorted.{All-permutation, IsPermutation-map}
use mir.Syntax.{w64}
use mir.Val.{to_z, of_z}
use Rattle.tf_check.specs.Ranked.{IsRank}
use Rattle.tf_check.specs.declared.keyed_job.KeyedJob.{KeyedJob}
use Rattle.tf_single.specs.ByDue.{jobs_ranked}
use Rattle.tf_single.specs.GreatestFirst.{entries}
use Rattle.tf_single.proofs.ByDue.{due_more, ranks_more}
use Rattle.tf_single.proofs.by_due.ByNearDueFreeJobs.add.Goals as goal

pub returns-clause-jobs : goal.returns-clause-jobs
returns-clause-jobs g c =
    let e : KeyedJob = record { key = to_z w64 (of_z w64 c.due-key.result); job = c.args.job } in
    let least = c.args.self.now.least in
    IsPermutation-map (λ (d : KeyedJob). d.job) (e ∷ jobs_ranked least c.args.self.now.ranks)
    (jobs_ranked least c.push.new.self)
    (ranks_more least (entries c.args.self.now.ranks) (entries c.push.new.self) c.rank_of.result e
    (search rules) c.in_ok-push.ensures.entries c.rank_of.ensures.job)

pub returns-clause-kept : goal.returns-clause-kept
returns-clause-kept g c = λ work kept.
    let e : KeyedJob = record { key = to_z w64 (of_z w64 c.due-key.result); job = c.args.job } in
    let least = c.args.self.now.least in
    let bits : to_z w64 (of_z w64 least) ≡ least = to_z-of_z w64 least (search rules) in
    record {
      near = kept.near;
      due = due_more c.args.task.now (jobs_ranked least c.args.self.now.ranks)
          (jobs_ranked least c.push.new.self) e kept.due
          (to_z-of_z w64 c.due-key.result (search rules) ∙ c.due-key.ensures)
          (ranks_more least (entries c.args.self.now.ranks) (entries c.push.new.self)
          c.rank_of.result e (search rules) c.in_ok-push.ensures.entries c.rank_of.ensures.job);
      all = All-permutation (IsRank least) (c.rank_of.result ∷ entries c.args.self.now.ranks)
          (entries c.push.new.self) c.in_ok-push.ensures.entries
          (All-cons (IsRank least) c.rank_of.result (entries c.args.self.now.ranks)
          (subst (λ l. IsRank l c.rank_of.result) bits c.rank_of.ensures.rank) kept.all);
      ordered = c.in_ok-push.ensures.ordered kept.ordered;
    }
