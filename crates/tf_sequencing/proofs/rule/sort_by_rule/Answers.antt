use Rattle.std.proofs.Common.{rules}
use Rattle.std.proofs.lemmas.List.Sorted.{answers_always}
use Rattle.tf_sequencing.specs.declared.rule.Rule.TheVariants.{Edd, Spt, Lpt, Wspt, Erd}
use Rattle.tf_sequencing.specs.GoesBefore.{goes_before}
use Rattle.tf_sequencing.proofs.Order.{rule_order, sorted_by_rule}
use Rattle.tf_sequencing.proofs.rule.sort_by_rule.Goals as goal

pub returns-in-Edd-clause-sorted : goal.returns-in-Edd-clause-sorted
returns-in-Edd-clause-sorted g c = rw c.in-Edd.is (
    sorted_by_rule Edd _
    (c.sort_unstable_by.ensures.sorted (goes_before Edd) (rule_order Edd)
    (answers_always _ _ _ (λ f a r g called. search rules))))

pub returns-in-Spt-clause-sorted : goal.returns-in-Spt-clause-sorted
returns-in-Spt-clause-sorted g c = rw c.in-Spt.is (
    sorted_by_rule Spt _
    (c.sort_unstable_by-in-Spt.ensures.sorted (goes_before Spt) (rule_order Spt)
    (answers_always _ _ _ (λ f a r g called. search rules))))

pub returns-in-Lpt-clause-sorted : goal.returns-in-Lpt-clause-sorted
returns-in-Lpt-clause-sorted g c = rw c.in-Lpt.is (
    sorted_by_rule Lpt _
    (c.sort_unstable_by-in-Lpt.ensures.sorted (goes_before Lpt) (rule_order Lpt)
    (answers_always _ _ _ (λ f a r g called. search rules))))

pub returns-in-Wspt-clause-sorted : goal.returns-in-Wspt-clause-sorted
returns-in-Wspt-clause-sorted g c = rw c.in-Wspt.is (
    sorted_by_rule Wspt _
    (c.sort_unstable_by-in-Wspt.ensures.sorted (goes_before Wspt) (rule_order Wspt)
    (answers_always _ _ _ (λ f a r g called. search rules))))

pub returns-in-Erd-clause-sorted : goal.returns-in-Erd-clause-sorted
returns-in-Erd-clause-sorted g c = rw c.in-Erd.is (
    sorted_by_rule Erd _
    (c.sort_unstable_by-in-Erd.ensures.sorted (goes_before Erd) (rule_order Erd)
    (answers_always _ _ _ (λ f a r g called. search rules))))
