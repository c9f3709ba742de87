-- What a clause reads of a reader or a writer that remembers a failure.
use Rattle.std.specs.Prelude.{ℕ, ◌≡◌, ◌+◌, ◌<◌, ◌≤◌, ◌^◌, Bool, List, Option, length, take}
use Rattle.std.specs.Io.KnownBytes.{Appends, Consumes}
use Rattle.tf_text.specs.declared.counted.Counted.{Counted}

-- the reader or the writer within
abbrev pub inner_of : {T : Type 0} → Counted T → T
inner_of c = c.inner

-- so many bytes were pulled from it
abbrev pub pulled_of : {T : Type 0} → Counted T → ℕ
pulled_of c = c.pulled

-- a count goes up by n, as far as 64 bits count
abbrev pub CountsMore : ℕ → ℕ → ℕ → Type 0
CountsMore n old new = (new ≤ old + n) × (old + n < 2 ^ 64 → new ≡ old + n)

-- a call of it has failed
abbrev pub has_failed : {T : Type 0} → Counted T → Bool
has_failed c = c.failed

-- known bytes grow by a prefix of bs
abbrev pub AppendsPrefix : Option (List ℕ) → Option (List ℕ) → List ℕ → Type 0
AppendsPrefix old new bs = (n : ℕ) × (n ≤ length bs) × Appends old new (take n bs)

-- known bytes lose at most n bytes from their front
abbrev pub ConsumesAtMost : ℕ → Option (List ℕ) → Option (List ℕ) → Type 0
ConsumesAtMost n old new = (bs : List ℕ) × (length bs ≤ n) × Consumes old new bs

-- How a reader or a writer was found and left: the bytes that a reader had and has still to give, or
-- that a writer held and holds, where they are known, and whether it remembers a failure.
pub record DeviceUse : Type 0 where
  pub before : Option (List ℕ)
  pub after : Option (List ℕ)
  pub failed : Bool

-- the same of a value, its bytes being given by a reader's `remaining` or a writer's `contents`
abbrev pub use_of : {T : Type 0} → (T → Option (List ℕ)) → Counted T → Counted T → DeviceUse
use_of bytes old new = record {
  before = bytes (inner_of old);
  after = bytes (inner_of new);
  failed = has_failed new;
}

-- nothing was taken from it or given to it
abbrev pub unused : Option (List ℕ) → Bool → DeviceUse
unused known failed = record { before = known; after = known; failed = failed }
