use Rattle.std.proofs.Common.{◌≡◌, ◌≤◌, ℕ, refl, sym, ap, subst, ◌∙◌, arith}
use Rattle.tf_words.specs.FirstLine.{IsNumeralOf, line_words}
use Rattle.tf_model.specs.Limit.{most_arcs}
use Rattle.tf_read.proofs.UsualArc.{usual_line, three_words}
use Rattle.tf_read.proofs.usual.usual_arc.Goals as goal

pub returns : goal.returns
returns c =
    let a = c.in_ok-first.ensures.word in
    let b = c.in_ok-second.ensures.word in
    let first : c.in_ok-new.field-0 ≡ c.in_ok-first.first = c.in_ok-new.ensures.value in
    let second : c.in_ok-new-2.field-0 ≡ c.in_ok-second.second = c.in_ok-new-2.ensures.value in
    let some_first : 1 ≤ c.in_ok-first.first = c.in_ok-new.ensures.valid.0 refl in
    let some_second : 1 ≤ c.in_ok-second.second = c.in_ok-new-2.ensures.valid.0 refl in
    let few : c.args.k ≤ most_arcs = omega arith in
    usual_line c.args.jobs c.args.k _ _ _ a.0 b.0 _ _ _ c.behind_first.ensures.words
    (ap line_words (sym c.bytes_left.ensures)
    ∙ three_words _ a.0 b.0 _ _ _ _ _ c.in_ok-text.ensures a.2 b.2 c.in_ok-rest.ensures.end) few
    (record {
      numeral = subst (λ (n : ℕ). IsNumeralOf a.0 n) (sym first) a.1;
      few = omega (arith, c.in_ok-first.ensures.few);
      low = omega arith;
      high = omega arith;
    })
    (record {
      numeral = subst (λ (n : ℕ). IsNumeralOf b.0 n) (sym second) b.1;
      few = omega (arith, c.in_ok-second.ensures.few);
      low = omega arith;
      high = omega arith;
    })
