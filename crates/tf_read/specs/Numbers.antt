-- The numbers of one instance among those of a text.
use Rattle.std.specs.Prelude.{◌≡◌, ℕ, ◌+◌, ◌-◌, ◌*◌, ◌<◌, false, List, [], ◌∷◌, ◌++◌, length, take, drop, Option, Some, None, Result, Ok, Err, ℤ, nat_le, nat_lt, if◌then◌else◌}
use Rattle.std.specs.Option.{option_or}
use Rattle.tf_words.specs.Words.{Word}
use Rattle.tf_model.specs.InstanceData.{is_negative, is_beyond}
use Rattle.tf_read.specs.declared.fault.ReadFault.{ReadFault}
use Rattle.tf_read.specs.declared.fault.ReadFault.TheVariants.{NoInstance, EndsEarly}
use Rattle.tf_read.specs.Faults.{each_from, number_at}
use Rattle.tf_read.specs.Said.{Says}
use Rattle.tf_read.specs.WeightedTardiness.{tardiness_number, instance_of}

-- how far the reading of the instance of this index is, where each has so many jobs
pub record Progress : Type 0 where
  pub jobs : ℕ
  pub index : ℕ
  pub count : ℕ  -- the words that were read
  pub numbers : List ℤ  -- those of the instance
  pub fault : Option ReadFault

-- the words before the instance, and those up to its last
abbrev pub skipped : Progress → ℕ
skipped p = 3 * p.jobs * (p.index - 1)

abbrev pub tardiness_wanted : Progress → ℕ
tardiness_wanted p = 3 * p.jobs * p.index

abbrev pub HoldsTardiness : Option ReadFault → Progress → Result (List ℤ) ReadFault → Type 0
HoldsTardiness None p read = (all : List ℤ) × (read ≡ Ok all) × (p.count ≡ length all)
    × (p.numbers ≡ drop (skipped p) all)
HoldsTardiness (Some fault) p read = read ≡ Err fault

-- these are the words that were read
abbrev pub HasReadTardiness : Progress → List Word → Type 0
HasReadTardiness p seen =
    HoldsTardiness p.fault p
    (each_from (tardiness_number p.jobs) 0 (take (tardiness_wanted p) seen))

-- the fault that was met, or what is missing at the end
abbrev pub tardiness_missing : Progress → Option ReadFault
tardiness_missing p =
    option_or p.fault
    (if nat_le p.count (skipped p) then Some NoInstance
    else if nat_lt p.count (tardiness_wanted p) then Some EndsEarly
    else None)

-- these are the words that were read, where it is wanted what they say of this instance
abbrev pub ReadsTardiness : Progress → Says → List Word → Type 0
ReadsTardiness p says seen = ((words : List Word) → says words ≡ instance_of p.jobs p.index words)
    × HasReadTardiness p seen

-- with one number more
abbrev pub with_number : Progress → ℤ → Progress
with_number p z = record p {
  count = p.count + 1;
  numbers = if nat_le (skipped p) p.count then p.numbers ++ z ∷ [] else p.numbers;
}

-- no number is beyond the limit, and no time or weight is negative
pub record AreInRange (jobs : ℕ) (numbers : List ℤ) : Type 0 where
  pub at_most : (i : ℕ) → is_beyond (number_at numbers i) ≡ false
  pub natural : (i : ℕ) → i < 2 * jobs → is_negative (number_at numbers i) ≡ false
