use Rattle.std.proofs.Common.{ℕ, not, arith, sym, ◌∙◌, subst}
use Rattle.std.proofs.lemmas.List.Sums.{prefix_len-le-length}
use Rattle.tf_notation.specs.Tokens.{is_word_byte}
use Rattle.tf_notation.proofs.Runs.{letters, single, letters_some, Begins}
use Rattle.tf_notation.proofs.token.token_len.Goals as goal

pub returns-then-is_word_byte-clause-token : goal.returns-then-is_word_byte-clause-token
returns-then-is_word_byte-clause-token c = λ offset.
    subst (λ (n : ℕ). Begins offset c.args.text.now n) (sym c.word_len.ensures)
    (letters c.args.text.now offset c.requires.some
    (sym c.is_word_byte.ensures ∙ c.if-is_word_byte.true))

pub returns-then-is_word_byte-clause-inside : goal.returns-then-is_word_byte-clause-inside
returns-then-is_word_byte-clause-inside c =
    omega (
      arith,
      c.word_len.ensures,
      prefix_len-le-length (λ b. not (not (is_word_byte b))) c.args.text.now,
    )

pub returns-then-is_word_byte-clause-some : goal.returns-then-is_word_byte-clause-some
returns-then-is_word_byte-clause-some c =
    omega (
      arith,
      c.word_len.ensures,
      letters_some c.args.text.now c.requires.some
          (sym c.is_word_byte.ensures ∙ c.if-is_word_byte.true),
    )

pub returns-else-is_word_byte-clause-token : goal.returns-else-is_word_byte-clause-token
returns-else-is_word_byte-clause-token c =
    λ offset. single c.args.text.now offset c.requires.some c.requires.at_token
    (sym c.is_word_byte.ensures ∙ c.if-is_word_byte.false)
