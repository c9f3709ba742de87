use Rattle.std.proofs.Common.{ℕ, List, Some, sym, ap, subst, ◌∙◌, arith}
use Rattle.std.specs.List.{All}
use Rattle.std.proofs.lemmas.List.{append-nil}
use Rattle.std.proofs.lemmas.List.Elements.{All-push}
use Rattle.tf_words.specs.Words.{words}
use Rattle.tf_orders.specs.declared.order.Turn.{Turn}
use Rattle.tf_orders.specs.Orders.{IsTurn, turns_from}
use Rattle.tf_orders.proofs.Turns.{prefixed, prefixed_none, slash_read, too_many, bad_word, turn_read, ends, ends_early}
use Rattle.tf_orders.proofs.order.turns_in.Goals as goal

pub returns-then-get-machines-clause-says : goal.returns-then-get-machines-clause-says
returns-then-get-machines-clause-says g c =
    prefixed_none _ _ _ c.loop-word.invariant.says
    (too_many _ _ _ _ _ _ c.in-Some.ensures.words (sym c.is.ensures ∙ c.if-is.true)
    (omega (arith, c.if-get-machines.true, c.get.ensures.value)))

pub returns-in_default-job_in-clause-says : goal.returns-in_default-job_in-clause-says
returns-in_default-job_in-clause-says g c =
    prefixed_none _ _ _ c.loop-word.invariant.says
    (bad_word _ _ _ _ _ _ c.in-Some.ensures.words (sym c.is.ensures ∙ c.if-is.false)
    (sym c.in_default-job_in.ensures.job))

pub loop-word-preserved-else-get-machines : goal.loop-word-preserved-else-get-machines
loop-word-preserved-else-get-machines g c = record {
  says = ap (λ (i : ℕ). prefixed c.loop-word.turns.items
      (turns_from c.args.jobs c.args.machines i (words c.in-Some.after.now))) c.next-machine.ensures
      ∙ ap (prefixed c.loop-word.turns.items) (sym (slash_read _ _ _ _ _ _ c.in-Some.ensures.words
      (sym c.is.ensures ∙ c.if-is.true)))
      ∙ c.loop-word.invariant.says;
  turns = c.loop-word.invariant.turns;
  within = (
    omega (arith, c.next-machine.ensures),
    omega (arith, c.next-machine.ensures, c.if-get-machines.false, c.get.ensures.value),
  );
}

pub loop-word-preserved : goal.loop-word-preserved
loop-word-preserved g c = record {
  says = ap (λ (ts : List Turn). prefixed ts
      (turns_from c.args.jobs c.args.machines c.loop-word.machine (words c.in-Some.after.now)))
      c.in_ok-push.ensures.items
      ∙ turn_read _ _ _ _ _ _ c.in-Some.ensures.words _ _ (sym c.is.ensures ∙ c.if-is.false)
      (sym c.in-Some-job_in.ensures.job)
      ∙ c.loop-word.invariant.says;
  turns = subst (λ (ts : List Turn). All (IsTurn c.args.jobs c.args.machines) ts)
      (sym c.in_ok-push.ensures.items)
      (All-push (IsTurn c.args.jobs c.args.machines) c.loop-word.turns.items _
      c.loop-word.invariant.turns
      (record { job = c.in-Some-job_in.ensures.known; machine = c.loop-word.invariant.within }));
  within = c.loop-word.invariant.within;
}

pub returns-then-get-machines-2-clause-says : goal.returns-then-get-machines-2-clause-says
returns-then-get-machines-2-clause-says g c =
    sym c.loop-word.invariant.says
    ∙ ap (prefixed c.loop-word.turns.items)
    (ends _ _ _ _ c.in_default.ensures.words
    (omega (arith, c.if-get-machines-2.true, c.get-2.ensures.value)))
    ∙ ap (λ (ts : List Turn). Some ts) (append-nil c.loop-word.turns.items)

pub returns-else-get-machines-2-clause-says : goal.returns-else-get-machines-2-clause-says
returns-else-get-machines-2-clause-says g c =
    prefixed_none _ _ _ c.loop-word.invariant.says
    (ends_early _ _ _ _ c.in_default.ensures.words
    (λ e. c.if-get-machines-2.false (omega (arith, e, c.get-2.ensures.value))))
