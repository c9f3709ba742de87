use Rattle.std.proofs.Common.{◌≡◌, ℕ, List, ◌+◌, ◌≤◌, ◌++◌, length}
use Rattle.tf_words.specs.Words.{Word}
use Rattle.tf_words.specs.Scan.{IsAt}
use Rattle.tf_read.specs.Said.{Says}
use Rattle.tf_read.specs.WordFeed.{HasFed}
use Rattle.tf_read.proofs.word_feed.WordFeed.numbers.Given as goal

-- what is fed of the rest is fed of the piece
abbrev pub invariant-loop-line : goal.invariant-loop-line
invariant-loop-line g l = record {
  fed : (first : ℕ) (says : Says) (fed : List ℕ) → HasFed g.J.Judge.HasRead first says l.fn.self fed
      → (before : List ℕ)
      × ((seen : List Word) × IsAt first before seen l.scan.line l.scan.shown
      × g.J.Judge.HasRead l.self.judge says seen)
      × (before ++ l.rest ≡ fed ++ l.piece);
  within : length l.rest ≤ length l.piece;
  line : l.scan.line + length l.rest ≤ l.fn.self.scan.line + length l.piece;
}

abbrev pub decreases-loop-line : goal.decreases-loop-line
decreases-loop-line g l = length l.rest
