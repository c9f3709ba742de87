use Rattle.std.proofs.Common.{◌≤◌, get_or, refl, sym, subst, arith}
use Rattle.tf_words.specs.Number.{limit}
use Rattle.tf_words.specs.declared.so_far.SoFar.{SoFar}
use Rattle.tf_words.specs.Scan.{IsAt}
use Rattle.tf_words.proofs.FirstLine.{begins_with}
use Rattle.tf_words.proofs.NumeralOf.{as_pos}
use Rattle.tf_words.proofs.Numerals.{numeral_read, numeral_fed}
use Rattle.tf_words.proofs.scan.Scan.numeral.Goals as goal

pub returns-clause-fed : goal.returns-clause-fed
returns-clause-fed c = λ first fed seen at.
    let line = c.args.self.now.line in
    let (blanks, all, piece-is) = c.behind_blanks.ensures in
    let (digits, is, from-is) = c.in_ok-size.ensures.digits in
    let size = c.in_ok-size.size in
    let few : size ≤ limit = omega (arith, c.in_ok-size.ensures.few) in
    let end = get_or c.in_ok-size.behind.now 0 0 in
    let (word, of, next) =
    numeral_read first fed seen line blanks digits size end all is few
    (sym c.if-not-is_white.ensures)
    (subst (λ (shown : SoFar). IsAt first fed seen line shown) c.in-Empty.is at) in (
      word,
      _,
      rw (← as_pos size c.in_ok-size.ensures.few) of,
      rw (c.line_after-self.ensures, c.in-Empty.is) next,
      numeral_fed fed blanks digits c.args.piece.now c.behind_blanks.result.now
          c.in_ok-size.behind.now _ end piece-is from-is
          (begins_with _ _ end c.in-len1-up.len_at_least refl refl),
    )
