use Rattle.std.proofs.Common.{◌≡◌, ◌++◌, ◌∷◌, [], arith, refl, sym, ◌∙◌, subst, rules, to_z, of_z, w64, ℤ}
use Rattle.tf_words.specs.Scan.{IsAt, IsOf}
use Rattle.tf_words.specs.declared.scan.Scan.{Scan}
use Rattle.tf_words.specs.declared.number.Number.TheVariants.{Value}
use Rattle.tf_read.proofs.word_feed.WordFeed.numbers.Goals as goal

pub loop-line-preserved : goal.loop-line-preserved
loop-line-preserved g c = record {
  fed = λ first says fed h.
      let (before, held, same) = c.loop-line.invariant.fed first says fed h in
      let (word, next, of, at, on) = c.in-Some.ensures.fed first before held.0 held.1 in
      let number : to_z w64 (of_z w64 c.in-Some.number) ≡ c.in-Some.number = search rules in
      let same_of = subst (λ (z : ℤ). IsOf word c.in-Some.line (Value z)) (sym number) of in
      (next, (held.0 ++ word ∷ [], at, c.judge.ensures says held.0 word same_of held.2), on ∙ same);
  within = omega (arith, c.in-Some.ensures.shorter, c.loop-line.invariant.within);
  line = omega (arith, c.in-Some.ensures.later, c.loop-line.invariant.line);
}

pub returns-clause-fed : goal.returns-clause-fed
returns-clause-fed g c = λ first says fed h.
    let (before, held, same) = c.loop-line.invariant.fed first says fed h in
    let unchanged = c.in_default-numeral.ensures.none refl in (
      before,
      (held.0, subst (λ (s : Scan). IsAt first before held.0 s.line s.shown) (sym unchanged) held.1, held.2),
      same,
    )
