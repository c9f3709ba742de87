-- What was written of a text, as one call after another takes it.
use Rattle.std.specs.Prelude.{◌≡◌, ℕ, List, Option, ◌++◌, true, false}
use Rattle.std.specs.Io.KnownBytes.{Appends}
use Rattle.tf_text.specs.declared.counted.Counted.{Counted}
use Rattle.tf_text.specs.Counted.{inner_of, has_failed, AppendsPrefix}

-- a text was written whole, or a prefix of it where the writer has failed, and nothing where it had
-- failed before
pub record Wrote {W : Type 0} (contents : W → Option (List ℕ)) (old new : Counted W)
    (text : List ℕ) : Type 0 where
  pub written : has_failed new ≡ false
      → Appends (contents (inner_of old)) (contents (inner_of new)) text
  pub prefix : has_failed new ≡ true
      → AppendsPrefix (contents (inner_of old)) (contents (inner_of new)) text
  pub untouched : has_failed old ≡ true → new ≡ old

-- the first bytes of a text were written, and the others wait
pub record Gathers {W : Type 0} (contents : W → Option (List ℕ)) (old new : Counted W)
    (waiting text : List ℕ) : Type 0 where
  pub sent : List ℕ
  pub parts : sent ++ waiting ≡ text
  pub wrote : Wrote contents old new sent
