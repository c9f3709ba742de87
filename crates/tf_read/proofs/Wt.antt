-- What a weighted tardiness text says by its length.
use Rattle.std.proofs.Common.{◌≡◌, ℕ, ◌<◌, ◌≤◌, ltb, false, true, List, length, Some, None, Err, refl}
use Rattle.std.proofs.lemmas.Bool.{le-ltb, lt-ltb}
use Rattle.tf_words.specs.Words.{lines, words_from, placed_words}
use Rattle.tf_model.specs.Limit.{most_bytes}
use Rattle.tf_read.specs.declared.fault.ReadFault.{ReadFault}
use Rattle.tf_read.specs.declared.fault.ReadFault.TheVariants.{TooLong}
use Rattle.tf_read.specs.WeightedTardiness.{request_fault, instance_of, weighted_tardiness}

-- a text that is too long is refused as such
pub too_long : (n k : ℕ) (text : List ℕ) → most_bytes < length text
    → weighted_tardiness n k text ≡ Err TooLong
unfolding weighted_tardiness
too_long n k text long = let e : ltb most_bytes (length text) ≡ true = lt-ltb _ _ long in rw e refl

-- any other where there can be no such instance
pub refused : (n k : ℕ) (text : List ℕ) (fault : ReadFault) → length text ≤ most_bytes
    → request_fault n k ≡ Some fault → weighted_tardiness n k text ≡ Err fault
unfolding weighted_tardiness
refused n k text fault short h = let e : ltb most_bytes (length text) ≡ false = le-ltb _ _ short in
    rw (e, h) refl

-- else it is read by its words
pub by_words : (n k : ℕ) (text : List ℕ) → length text ≤ most_bytes → request_fault n k ≡ None
    → weighted_tardiness n k text ≡ instance_of n k (words_from 1 (lines text))
unfolding weighted_tardiness placed_words
by_words n k text short h = let e : ltb most_bytes (length text) ≡ false = le-ltb _ _ short in
    rw (e, h) refl
