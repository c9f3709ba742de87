use Rattle.std.proofs.Common.{◌≡◌, Some, None, IfSome, MatchOption, ap, subst, ◌∙◌, arith}
use Rattle.std.specs.List.{All}
use Rattle.tf_words.specs.Words.{words}
use Rattle.tf_orders.specs.Orders.{IsTurn, jobs_of, turns_from}
use Rattle.tf_orders.proofs.Turns.{known_jobs, no_order, order_is}
use Rattle.tf_orders.proofs.order.order_in.Goals as goal

pub are_distinct-requires : goal.are_distinct-requires
are_distinct-requires g c =
    known_jobs c.args.jobs c.args.machines c.in-Some.turns.items c.as_slice-2.result.now
    (c.as_slice-2.ensures.value ∙ c.in_ok-named.ensures ∙ ap jobs_of c.as_slice.ensures.value)
    (subst (λ o. IfSome o (λ v. All (IsTurn c.args.jobs c.args.machines) v.items)) c.in-Some.is
    c.in_ok-turns.ensures.turns)

pub returns-then-not-are_once-clause-order : goal.returns-then-not-are_once-clause-order
returns-then-not-are_once-clause-order g c =
    no_order c.args.jobs c.args.machines c.args.text.now c.in-Some.turns.items
    c.as_slice-2.result.now
    (subst (λ o. MatchOption o
    (turns_from c.args.jobs c.args.machines 1 (words c.args.text.now) ≡ None)
    (λ v. turns_from c.args.jobs c.args.machines 1 (words c.args.text.now) ≡ Some v.items))
    c.in-Some.is c.in_ok-turns.ensures.says)
    (c.as_slice-2.ensures.value ∙ c.in_ok-named.ensures ∙ ap jobs_of c.as_slice.ensures.value)
    (λ once.
    let holds = c.in_ok-are_once.ensures.1 once in
    let fails = c.if-not-are_once.true in
    cc)

pub returns-clause-order : goal.returns-clause-order
returns-clause-order g c =
    order_is c.args.jobs c.args.machines c.args.text.now c.in-Some.turns.items
    c.as_slice-2.result.now
    (subst (λ o. MatchOption o
    (turns_from c.args.jobs c.args.machines 1 (words c.args.text.now) ≡ None)
    (λ v. turns_from c.args.jobs c.args.machines 1 (words c.args.text.now) ≡ Some v.items))
    c.in-Some.is c.in_ok-turns.ensures.says)
    (omega (arith, c.len.ensures, c.if-len-jobs.false))
    (c.as_slice-2.ensures.value ∙ c.in_ok-named.ensures ∙ ap jobs_of c.as_slice.ensures.value)
    (c.in_ok-are_once.ensures.0 c.if-not-are_once.false)
