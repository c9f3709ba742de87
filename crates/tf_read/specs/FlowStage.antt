-- Where the reading of a flow shop stands.
use Rattle.std.specs.Prelude.{◌≡◌, ℕ, List, ◌++◌, Option, Result, Err}
use Rattle.tf_model.specs.InstanceData.{InstanceData}
use Rattle.tf_words.specs.Words.{lines, words_from}
use Rattle.tf_read.specs.declared.fault.ReadFault.{ReadFault}
use Rattle.tf_read.specs.declared.heading.HeadingLine.{HeadingLine}
use Rattle.tf_read.specs.declared.sizes.SizesLine.{SizesLine}
use Rattle.tf_read.specs.declared.flow_stage.Stage.{Stage}
use Rattle.tf_read.specs.declared.flow_stage.Stage.TheVariants.{Heading, Sizes, Pairs, Ended}
use Rattle.tf_read.specs.declared.fault.ReadFault.TheVariants.{OutOfMemory}
use Rattle.tf_read.specs.declared.word_feed.WordFeed.{WordFeed}
use Rattle.tf_read.specs.FlowShop.{IsOfPairs, from_sizes, from_heading}
use Rattle.tf_read.specs.Pairs.{Pairs as PairsSoFar, ReadsShop}
use Rattle.tf_read.specs.Said.{Says}
use Rattle.tf_read.specs.WordFeed.{HasFed}
use Rattle.tf_read.specs.PresentLine.{AreOfLine}
use Rattle.tf_read.specs.Heading.{HeadingShown}
use Rattle.tf_read.specs.Sizes.{SizesShown}

-- The text `fed` was fed, where the instance of this name and this pair is wanted. Whatever follows
-- it, the outcome of
-- the whole is the outcome of what is left to be read.

-- the heading is wanted, from the present line on, whose bytes have shown so much of it
abbrev pub WantsHeading : List ℕ → Option (ℕ × ℕ) → ℕ → HeadingLine → List ℕ → Type 0
WantsHeading name pair line shown fed = (bytes : List ℕ) × AreOfLine bytes
    × HeadingShown name bytes shown
    × ((more : List ℕ)
    → from_heading name pair 1 (lines (fed ++ more))
    ≡ from_heading name pair line (lines (bytes ++ more)))

-- the heading is over, and the sizes are wanted
abbrev pub WantsSizes : List ℕ → Option (ℕ × ℕ) → ℕ → SizesLine → List ℕ → Type 0
WantsSizes name pair line shown fed = (bytes : List ℕ) × AreOfLine bytes × SizesShown bytes shown
    × ((more : List ℕ)
    → from_heading name pair 1 (lines (fed ++ more))
    ≡ from_sizes pair line (lines (bytes ++ more)))

-- the sizes are over, and `behind` was fed since
abbrev pub ReadsPairs : List ℕ → Option (ℕ × ℕ) → WordFeed PairsSoFar → List ℕ → Type 0
ReadsPairs name pair words fed = (first : ℕ) × (says : Says) × (behind : List ℕ)
    × HasFed ReadsShop first says words behind
    × ((more : List ℕ)
    → from_heading name pair 1 (lines (fed ++ more))
    ≡ says (words_from first (lines (behind ++ more))))

-- the outcome is this fault; where memory ran out it is that of pairs
abbrev pub EndsBy : ReadFault → Result InstanceData ReadFault → Type 0
EndsBy OutOfMemory outcome = IsOfPairs outcome
EndsBy fault outcome = outcome ≡ Err fault

-- the outcome is settled, or memory ran out behind the sizes
abbrev pub HasEnded : List ℕ → Option (ℕ × ℕ) → ReadFault → List ℕ → Type 0
HasEnded name pair fault fed = (more : List ℕ)
    → EndsBy fault (from_heading name pair 1 (lines (fed ++ more)))

abbrev pub HasTakenShop : {A : Type 0} → List ℕ → Option (ℕ × ℕ) → Stage A → List ℕ → Type 0
HasTakenShop name pair (Heading line shown) fed = WantsHeading name pair line shown fed
HasTakenShop name pair (Sizes line shown) fed = WantsSizes name pair line shown fed
HasTakenShop name pair (Pairs words) fed = ReadsPairs name pair words fed
HasTakenShop name pair (Ended fault) fed = HasEnded name pair fault fed

-- the present line, where its number still matters
abbrev pub line_of : {A : Type 0} → Stage A → ℕ
line_of (Heading line shown) = line
line_of (Sizes line shown) = line
line_of (Pairs words) = words.scan.line
line_of (Ended fault) = 0
