use Rattle.std.proofs.Common.{ℕ, List, ◌+◌, ◌≤◌, ◌++◌, take}
use Rattle.tf_words.specs.Words.{Word}
use Rattle.tf_words.specs.Scan.{IsAt}
use Rattle.tf_words.proofs.scan.Scan.advance.Given as goal

-- no word is over yet
abbrev pub invariant-loop-k : goal.invariant-loop-k
invariant-loop-k l = record {
  fed : (first : ℕ) (fed : List ℕ) (seen : List Word)
      → IsAt first fed seen l.fn.self.line l.fn.self.shown
      → IsAt first (fed ++ take l.k l.piece) seen l.scan.line l.scan.shown;
  line : l.scan.line ≤ l.fn.self.line + l.k;
}
