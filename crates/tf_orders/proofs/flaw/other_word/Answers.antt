use Rattle.std.proofs.Common.{◌+◌, ◌++◌, [], ◌∷◌, sym, ap, ◌∙◌, append_assoc, arith}
use Rattle.std.proofs.lemmas.List.{length-append}
use Rattle.tf_orders.proofs.flaw.other_word.Goals as goal

pub loop-word-preserved : goal.loop-word-preserved
loop-word-preserved c =
    let (seen, says, len) = c.loop-word.invariant.front in
    let word = c.in-Some.word.now in
    record {
      front = (
        seen ++ word ∷ [],
        says ∙ ap (λ ws. seen ++ ws) c.in-Some.ensures.words
            ∙ sym (append_assoc seen (word ∷ []) _),
        length-append seen (word ∷ []) ∙ ap (λ n. n + 1) len,
      );
      small = omega (arith, c.loop-word.invariant.small, c.in-Some.ensures.shorter);
    }
