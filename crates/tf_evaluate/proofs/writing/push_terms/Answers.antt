use Rattle.std.proofs.Common.{[], ◌∷◌, ◌++◌, codes, ap, ◌∙◌}
use Rattle.std.specs.Fmt.{decimal}
use Rattle.std.specs.List.{flat_map}
use Rattle.tf_evaluate.specs.declared.step.Terms.TheVariants.{Load, JobTime, MachineWork, Smith, SetWork, LeastCost, GreatestFactor, Ranks}
use Rattle.tf_evaluate.proofs.Written.{words_then, terms_written}
use Rattle.tf_evaluate.proofs.writing.push_terms.Goals as goal

pub returns-in_ok-push_share-in-Load : goal.returns-in_ok-push_share-in-Load
returns-in_ok-push_share-in-Load g c =
    terms_written c.args.terms.now (Load c.in-Load.work c.in-Load.machines) _ _ c.in-Load.is
    (words_then _ _ _ (codes "total processing time" ∷ decimal c.in-Load.work ∷ [])
    (codes "/" ∷ decimal c.in-Load.machines ∷ codes "machines, rounded up" ∷ [])
    c.in_ok-push_quantity-in-Load.ensures c.in_ok-push_share-in-Load.ensures)

pub returns-in_ok-push_quantity-in-JobTime : goal.returns-in_ok-push_quantity-in-JobTime
returns-in_ok-push_quantity-in-JobTime g c =
    terms_written c.args.terms.now (JobTime c.in-JobTime.job c.in-JobTime.time) _ _ c.in-JobTime.is
    (c.in_ok-push_quantity-in-JobTime.ensures
    ∙ ap (λ n. c.args.text.now.items
    ++ flat_map (λ word. 32 ∷ word) (codes "processing time of job" ∷ decimal n ∷ []))
    c.get.ensures.value)

pub returns-in_ok-push_quantity-in-MachineWork : goal.returns-in_ok-push_quantity-in-MachineWork
returns-in_ok-push_quantity-in-MachineWork g c =
    terms_written c.args.terms.now (MachineWork c.in-MachineWork.machine c.in-MachineWork.work) _ _ c.in-MachineWork.is
    (c.in_ok-push_quantity-in-MachineWork.ensures
    ∙ ap (λ n. c.args.text.now.items
    ++ flat_map (λ word. 32 ∷ word) (codes "total processing time on machine" ∷ decimal n ∷ []))
    c.get-in-MachineWork.ensures.value)

pub returns-in_ok-push_quantity-in-Smith-2 : goal.returns-in_ok-push_quantity-in-Smith-2
returns-in_ok-push_quantity-in-Smith-2 g c =
    terms_written c.args.terms.now (Smith c.in-Smith.own c.in-Smith.waiting) _ _ c.in-Smith.is
    (words_then _ _ _ (codes "total weighted processing time" ∷ decimal c.in-Smith.own ∷ [])
    (codes "+ total weighted waiting time in Smith's order" ∷ decimal c.in-Smith.waiting ∷ [])
    c.in_ok-push_quantity-in-Smith.ensures c.in_ok-push_quantity-in-Smith-2.ensures)

pub returns-in_ok-push_phrase-in-SetWork : goal.returns-in_ok-push_phrase-in-SetWork
returns-in_ok-push_phrase-in-SetWork g c =
    terms_written c.args.terms.now (SetWork c.in-SetWork.work) _ _ c.in-SetWork.is
    (c.in_ok-push_phrase-in-SetWork.ensures)

pub returns-in_ok-push_phrase-in-LeastCost : goal.returns-in_ok-push_phrase-in-LeastCost
returns-in_ok-push_phrase-in-LeastCost g c =
    terms_written c.args.terms.now (LeastCost c.in-LeastCost.completion c.in-LeastCost.cost) _ _ c.in-LeastCost.is
    (words_then _ _ _ (codes "least cost at time" ∷ decimal c.in-LeastCost.completion ∷ [])
    (codes "of a job of the set without a successor in it" ∷ [])
    c.in_ok-push_quantity-in-LeastCost.ensures c.in_ok-push_phrase-in-LeastCost.ensures)

pub returns-in_ok-push_share-in-GreatestFactor : goal.returns-in_ok-push_share-in-GreatestFactor
returns-in_ok-push_share-in-GreatestFactor g c =
    terms_written c.args.terms.now (GreatestFactor c.in-GreatestFactor.jobs c.in-GreatestFactor.machines) _ _ c.in-GreatestFactor.is
    (words_then _ _ _ (codes "greatest factor" ∷ decimal c.in-GreatestFactor.jobs ∷ [])
    (codes "jobs /" ∷ decimal c.in-GreatestFactor.machines ∷ codes "machines, rounded up" ∷ [])
    c.in_ok-push_quantity-in-GreatestFactor.ensures c.in_ok-push_share-in-GreatestFactor.ensures)

pub returns-in_ok-push_quantity-in-Ranks-2 : goal.returns-in_ok-push_quantity-in-Ranks-2
returns-in_ok-push_quantity-in-Ranks-2 g c =
    terms_written c.args.terms.now (Ranks c.in-Ranks.work c.in-Ranks.waiting) _ _ c.in-Ranks.is
    (words_then _ _ _ (codes "total processing time" ∷ decimal c.in-Ranks.work ∷ [])
    (codes "+ least total waiting time" ∷ decimal c.in-Ranks.waiting ∷ [])
    c.in_ok-push_quantity-in-Ranks.ensures c.in_ok-push_quantity-in-Ranks-2.ensures)
