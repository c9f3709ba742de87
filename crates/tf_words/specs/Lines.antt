-- Lines as definitions see them.
use Rattle.std.specs.Prelude.{ℕ, List, map}
use Rattle.tf_words.specs.Words.{lines, KeptLine, kept_lines, by_words}
use Rattle.tf_words.specs.Words as words
use Rattle.tf_words.specs.declared.line.Line.{Line}
use Rattle.tf_words.specs.declared.line.Lines.{Lines}

-- a line, wherever its bytes lie
abbrev pub line_of : Line → KeptLine
line_of l = record { number = l.number; bytes = l.bytes.now }

-- the kept ones of the lines that are left
abbrev pub lines_of : Lines → List KeptLine
lines_of l = kept_lines l.number (lines l.rest.now)

-- the same by their words
abbrev pub word_line_of : Line → words.Line
word_line_of l = by_words (line_of l)

abbrev pub word_lines_of : Lines → List words.Line
word_lines_of l = map by_words (lines_of l)

-- the text that is left
abbrev pub bytes_left : Lines → List ℕ
bytes_left l = l.rest.now

-- the number of the first line that is left
abbrev pub number_left : Lines → ℕ
number_left l = l.number
