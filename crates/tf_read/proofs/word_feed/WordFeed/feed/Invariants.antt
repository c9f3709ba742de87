use Rattle.std.proofs.Common.{◌≡◌, ℕ, List, ◌+◌, ◌≤◌, ◌++◌, length}
use Rattle.tf_read.specs.Said.{Says}
use Rattle.tf_read.specs.WordFeed.{HasFed}
use Rattle.tf_read.proofs.word_feed.WordFeed.feed.Given as goal

-- what is fed of the rest is fed of the piece
abbrev pub invariant-loop-rest : goal.invariant-loop-rest
invariant-loop-rest g l = record {
  fed : (first : ℕ) (says : Says) (fed : List ℕ) → HasFed g.J.Judge.HasRead first says l.fn.self fed
      → (before : List ℕ) × HasFed g.J.Judge.HasRead first says l.self before
      × (before ++ l.rest ≡ fed ++ l.piece);
  line : l.self.scan.line + length l.rest ≤ l.fn.self.scan.line + length l.piece;
}

abbrev pub decreases-loop-rest : goal.decreases-loop-rest
decreases-loop-rest g l = length l.rest
