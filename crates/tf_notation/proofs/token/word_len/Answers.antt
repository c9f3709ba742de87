use Rattle.std.proofs.Common.{not, length, arith, sym, ◌∙◌}
use Rattle.std.specs.List.{position_or_len}
use Rattle.std.proofs.lemmas.List.Sums.{prefix_len-le-length}
use Rattle.tf_words.proofs.Parts.{no_place}
use Rattle.tf_notation.specs.Tokens.{is_word_byte}
use Rattle.tf_notation.proofs.token.word_len.Goals as goal

pub returns-in-None : goal.returns-in-None
returns-in-None c =
    let le = no_place (position_or_len (λ b. not (is_word_byte b)) c.args.text.now)
    (length c.args.text.now) (sym c.word_end.ensures ∙ c.in-None.is) in
    let ge = prefix_len-le-length (λ b. not (not (is_word_byte b))) c.args.text.now in
    omega (arith, le, ge)
