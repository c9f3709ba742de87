use Rattle.std.proofs.Common.{ℕ, ◌+◌, List, ◌∷◌, map, ap, ◌∙◌}
use Rattle.tf_words.specs.Words.{lines, kept_lines, by_words}
use Rattle.tf_words.specs.FirstLine.{line_words, lines_behind}
use Rattle.tf_words.proofs.FirstLine.{stands_first, by_words_first}
use Rattle.tf_words.proofs.line.Lines.behind_first.Goals as goal

pub returns-clause-lines : goal.returns-clause-lines
unfolding line_words lines_behind
returns-clause-lines c =
    let n = c.args.self.now.number in
    let f = stands_first n (lines c.args.self.now.rest.now) c.requires.kept in (
      f.0,
      f.1,
      f.2
          ∙ ap (λ (ls : List (List ℕ)). record { number = n; bytes = f.0 } ∷ kept_lines (n + 1) ls)
          c.requires.rest,
    )

pub returns-clause-words : goal.returns-clause-words
unfolding line_words lines_behind
returns-clause-words c =
    let n = c.args.self.now.number in
    let text = c.args.self.now.rest.now in
    by_words_first n (lines text) c.requires.kept
    ∙ ap (λ (ls : List (List ℕ)). record { number = n; words = line_words text }
    ∷ map by_words (kept_lines (n + 1) ls)) c.requires.rest
