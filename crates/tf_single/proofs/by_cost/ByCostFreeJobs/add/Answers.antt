use Rattle.std.proofs.Common.{ℕ, List, [], ◌∷◌, ◌++◌, sym, ap, ◌∙◌, subst}
use Rattle.std.specs.List.Sorted.{IsPermutation}
use Rattle.std.proofs.lemmas.List.{map-append}
use Rattle.std.proofs.lemmas.List.Sorted.{IsPermutation-sym, IsPermutation-to_front}
use Rattle.tf_single.specs.CostedJob.{jobs_of}
use Rattle.tf_single.proofs.by_cost.ByCostFreeJobs.add.Goals as goal

pub returns-clause-jobs : goal.returns-clause-jobs
returns-clause-jobs g c =
    let job : ℕ = c.args.job in
    let free = c.args.self.now.free.items in
    let jobs : List ℕ = jobs_of free in
    subst (IsPermutation (job ∷ jobs))
    (sym (ap jobs_of c.in_ok-push.ensures.items
    ∙ map-append (λ x. x.job) free (c.new.result ∷ [])
    ∙ ap (λ j. jobs ++ j ∷ []) c.new.ensures.job))
    (IsPermutation-sym (jobs ++ job ∷ []) (job ∷ jobs) (IsPermutation-to_front jobs job))
