-- Where the reading of a weighted tardiness text stands.
use Rattle.std.specs.Prelude.{◌≡◌, ℕ, List, Some, None, Result, Ok, Err}
use Rattle.tf_read.specs.declared.fault.ReadFault.{ReadFault}
use Rattle.tf_read.specs.declared.word_feed.WordFeed.{WordFeed}
use Rattle.tf_read.specs.Numbers.{Progress, ReadsTardiness}
use Rattle.tf_read.specs.WeightedTardiness.{request_fault, instance_of}
use Rattle.tf_read.specs.WordFeed.{HasFed}

-- The text `fed` was fed, where instance k of n jobs is wanted: its words are read, or no text has
-- such an instance.
abbrev pub HasTakenTardiness : ℕ → ℕ → Result (WordFeed Progress) ReadFault → List ℕ → Type 0
HasTakenTardiness n k (Ok words) fed = (request_fault n k ≡ None)
    × HasFed ReadsTardiness 1 (instance_of n k) words fed
HasTakenTardiness n k (Err fault) fed = request_fault n k ≡ Some fault

-- the present line, where its number still matters
abbrev pub line_in : Result (WordFeed Progress) ReadFault → ℕ
line_in (Ok words) = words.scan.line
line_in (Err fault) = 0
