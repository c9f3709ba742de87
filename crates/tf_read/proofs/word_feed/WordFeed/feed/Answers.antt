use Rattle.std.proofs.Common.{◌≡◌, ℕ, zero, suc, ◌+◌, ◌≤◌, List, ◌<◌, ◌++◌, ◌∷◌, [], length, rules, take, arith, sym, ap, ◌∙◌, subst}
use Rattle.std.proofs.lemmas.Bool.{eqb-true}
use Rattle.std.proofs.lemmas.List.{append-nil}
use Rattle.tf_words.proofs.Pieces.{part_more, none_left}
use Rattle.tf_read.specs.WordFeed.{HasFed}
use Rattle.tf_read.proofs.word_feed.WordFeed.feed.Goals as goal

pub loop-rest-preserved-in-None : goal.loop-rest-preserved-in-None
loop-rest-preserved-in-None g c = record {
  fed = λ first says fed h.
      let (front, kept, on) = c.loop-rest.invariant.fed first says fed h in
      let (before, held, more) = c.numbers-from.ensures.fed first says front kept in
      let same = more ∙ on in
      let n = c.advance-taken.result.0 in
      let next = rw c.in-None.is at (c.advance-taken.ensures.fed first before held.0 held.1) in (
        before ++ take n c.numbers-from.result.now,
        (held.0, next, held.2),
        ap (λ (bs : List ℕ). (before ++ take n c.numbers-from.result.now) ++ bs) c.split_at.ensures.back
            ∙ part_more before c.numbers-from.result.now n ∙ same,
      );
  line = omega (
    arith,
    c.advance-taken.ensures.later,
    c.split_at.ensures.back_len,
    c.advance-taken.ensures.within,
    c.numbers-from.ensures.later,
    c.loop-rest.invariant.line,
  );
}

pub loop-rest-preserved : goal.loop-rest-preserved
loop-rest-preserved g c = record {
  fed = λ first says fed h.
      let (front, kept, on) = c.loop-rest.invariant.fed first says fed h in
      let (before, held, more) = c.numbers-from.ensures.fed first says front kept in
      let same = more ∙ on in
      let n = c.advance-taken.result.0 in
      let next = rw c.in-Some.is at (c.advance-taken.ensures.fed first before held.0 held.1) in (
        before ++ take n c.numbers-from.result.now,
        (held.0 ++ next.0 ∷ [], next.2, c.judge.ensures says held.0 next.0 next.1 held.2),
        ap (λ (bs : List ℕ). (before ++ take n c.numbers-from.result.now) ++ bs) c.split_at.ensures.back
            ∙ part_more before c.numbers-from.result.now n ∙ same,
      );
  line = omega (
    arith,
    c.advance-taken.ensures.later,
    c.split_at.ensures.back_len,
    c.advance-taken.ensures.within,
    c.numbers-from.ensures.later,
    c.loop-rest.invariant.line,
  );
}

pub returns-clause-fed : goal.returns-clause-fed
returns-clause-fed g c = λ first says fed h.
    let (before, held, same) = c.loop-rest.invariant.fed first says fed h in
    let none : c.loop-rest.rest.now ≡ [] =
    none_left c.loop-rest.rest.now (eqb-true _ _ (sym c.loop-rest-test.ensures)) in
    subst (HasFed g.J.Judge.HasRead first says c.loop-rest.self)
    (sym (append-nil before) ∙ ap (λ (bs : List ℕ). before ++ bs) (sym none) ∙ same) held

-- what is left behind a front and some bytes more is shorter
shorter : (rest from after taken : ℕ) → 0 < rest → from ≤ rest → (0 < from → 0 < taken)
    → after + taken ≡ from → after < rest
shorter rest zero after taken some within more is = omega (arith, some, is)
shorter rest (suc from) after taken some within more is =
    let moves : 0 < taken = more (omega arith) in omega (arith, within, is, moves)

pub loop-rest-smaller-in-None : goal.loop-rest-smaller-in-None
loop-rest-smaller-in-None g c =
    let some : 0 < length c.loop-rest.rest.now = search rules in
    shorter (length c.loop-rest.rest.now) (length c.numbers-from.result.now)
    (length c.split_at.result.1.now) c.advance-taken.result.0 some c.numbers-from.ensures.within
    c.advance-taken.ensures.some c.split_at.ensures.back_len

pub loop-rest-smaller : goal.loop-rest-smaller
loop-rest-smaller g c =
    let some : 0 < length c.loop-rest.rest.now = search rules in
    shorter (length c.loop-rest.rest.now) (length c.numbers-from.result.now)
    (length c.split_at.result.1.now) c.advance-taken.result.0 some c.numbers-from.ensures.within
    c.advance-taken.ensures.some c.split_at.ensures.back_len
