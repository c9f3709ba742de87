-- What is left of a text, as definitions see it.
use Rattle.std.specs.Prelude.{ℕ, List, ◌++◌, map}
use Rattle.tf_words.specs.Words.{Word, words, lines, words_from}
use Rattle.tf_routes.specs.declared.text_lines.TextLines.{TextLines}
use Rattle.tf_routes.specs.declared.text_words.TextWord.{TextWord}
use Rattle.tf_routes.specs.declared.text_words.TextWords.{TextWords}

-- the lines
abbrev pub lines_of : TextLines → List (List ℕ)
lines_of t = lines t.text.now

-- a word, wherever its bytes lie
abbrev pub word_of : TextWord → Word
word_of w = record { line = w.line; bytes = w.bytes.now }

-- the words of a line, each with the number of the line
abbrev pub placed : ℕ → List ℕ → List Word
placed number line = map (λ word. record { line = number; bytes = word }) (words line)

-- the words: those left of a line, and those of the lines below
abbrev pub words_of : TextWords → List Word
words_of w = placed w.number w.line.now ++ words_from w.below.number (lines_of w.below)
