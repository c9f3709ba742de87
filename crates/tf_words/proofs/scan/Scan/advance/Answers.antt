use Rattle.std.proofs.Common.{ℕ, List, ◌++◌, ◌∷◌, [], take, subst, arith}
use Rattle.tf_words.specs.Scan.{IsAt}
use Rattle.tf_words.proofs.Pieces.{byte_more}
use Rattle.tf_words.proofs.scan.Scan.advance.Goals as goal

pub loop-k-preserved : goal.loop-k-preserved
loop-k-preserved c = record {
  fed = λ first fed seen at.
      subst (λ (bs : List ℕ). IsAt first bs seen c.push.new.self.line c.push.new.self.shown)
      (byte_more fed c.args.piece.now c.loop-k.k c.loop-k-test.true)
      (c.in-None.ensures.fed first _ seen (c.loop-k.invariant.fed first fed seen at));
  line = omega (arith, c.loop-k.invariant.line, c.in-None.ensures.later);
}

pub returns-in-Some-clause-fed : goal.returns-in-Some-clause-fed
returns-in-Some-clause-fed c = λ first fed seen at.
    let (word, of, next) =
    c.in-Some.ensures.fed first (fed ++ take c.loop-k.k c.args.piece.now) seen
    (c.loop-k.invariant.fed first fed seen at) in (
      word,
      of,
      subst (λ (bs : List ℕ). IsAt first bs (seen ++ word ∷ []) c.push.new.self.line
          c.push.new.self.shown)
          (byte_more fed c.args.piece.now c.loop-k.k c.loop-k-test.true) next,
    )
