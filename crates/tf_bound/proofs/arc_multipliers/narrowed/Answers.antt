use Rattle.std.proofs.Common.{◌≡◌, ◌^◌, false, ◌++◌, ◌∷◌, [], take, nat_le, ap, sym, ◌∙◌, arith}
use Rattle.std.proofs.lemmas.List.{get_or_default, take_more}
use Rattle.std.proofs.lemmas.List.Folds.{list_any_none}
use Rattle.tf_bound.proofs.Conditions.{not_large}
use Rattle.tf_bound.proofs.Steps.{all_next, all_whole}
use Rattle.tf_bound.proofs.arc_multipliers.narrowed.Goals as goal

pub loop-number-preserved : goal.loop-number-preserved
loop-number-preserved g c =
    let xs = c.args.numbers.now in
    let i = c.loop-number.number-index in
    let x = c.in-Some.small in
    let at = c.in-Some.ensures.value ∙ get_or_default xs i _ x c.loop-number-test.true in
    record {
      items = c.in-Ok-push.ensures.items ∙ ap (λ ys. ys ++ x ∷ []) c.loop-number.invariant.items
          ∙ ap (λ z. take i xs ++ z ∷ []) at ∙ sym (take_more xs i x c.loop-number-test.true);
      few = all_next (λ n. nat_le (2 ^ 64) n ≡ false) xs i x c.loop-number-test.true at
          c.loop-number.invariant.few
          (ap (nat_le (2 ^ 64)) c.in-Some.ensures.value ∙ sym c.in-Some.ensures.wide);
    }

pub returns-clause-fault : goal.returns-clause-fault
returns-clause-fault g c =
    let xs = c.args.numbers.now in
    let i = c.loop-number.number-index in
    not_large _
    (list_any_none (nat_le (2 ^ 64)) xs
    (all_whole (λ n. nat_le (2 ^ 64) n ≡ false) xs i (omega (arith, c.loop-number-test.false))
    c.loop-number.invariant.few))
