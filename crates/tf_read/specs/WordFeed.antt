-- Judging the words of a text that comes in pieces.
use Rattle.std.specs.Prelude.{ℕ, List}
use Rattle.tf_words.specs.Words.{Word}
use Rattle.tf_read.specs.declared.word_feed.WordFeed.{WordFeed}
use Rattle.tf_read.specs.Said.{Says}
use Rattle.tf_words.specs.Scan.{IsAt}

-- `fed` was fed, on lines of which the first has this number, and its words were judged
abbrev pub HasFed : {J : Type 0} → (J → Says → List Word → Type 0) → ℕ → Says → WordFeed J → List ℕ
    → Type 0
HasFed HasRead first says feed fed =
    (seen : List Word) × IsAt first fed seen feed.scan.line feed.scan.shown
    × HasRead feed.judge says seen
