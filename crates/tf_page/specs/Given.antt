-- What a page is given.
use Rattle.std.specs.Prelude.{◌≡◌, ℕ, ◌+◌, ◌<◌, ◌≤◌, ◌⊎◌, List, [], length, take, drop, codes}
use Rattle.std.specs.Borrow.{Bor}
use Rattle.bumpalo.specs.declared.bump.Bump.{Bump}
use Rattle.tf_reply.specs.declared.reserve.Reserve.{Reserve}
use Rattle.tf_reply.specs.contracts.reserve.ReserveAllocator.TheImpl.{ghosts}
use Rattle.tf_reply.specs.Replies.{Outcome}
use Rattle.tf_page.specs.declared.given.Lengths.{Lengths}

-- the allocator of a run: the arena over the page's space, lent
abbrev pub Lent : Type 0
Lent = Bor (Bump Reserve ghosts)

-- Standard output and standard error are these texts: their lengths are told, and where the page's
-- buffer has room for both, they are its first bytes, one behind the other. Else it is unchanged.
pub record Holds (old new : List ℕ) (lengths : Lengths) (output errors : List ℕ) : Type 0 where
  pub output_length : lengths.output ≡ length output
  pub errors_length : lengths.errors ≡ length errors
  pub output_put : length output + length errors ≤ length old → take (length output) new ≡ output
  pub errors_put : length output + length errors ≤ length old
      → take (length errors) (drop (length output) new) ≡ errors
  pub unchanged : length old < length output + length errors → new ≡ old

-- what is said where memory did not suffice
abbrev pub memory_line : List ℕ
memory_line = codes "threefield: want of memory\n"

-- memory did not suffice, and nothing is printed but that line
abbrev pub IsOutOfMemory : Outcome
IsOutOfMemory output errors status = (status ≡ 3) × (output ≡ []) × (errors ≡ memory_line)

-- the page is given two texts and a status: with the command's outcome, or for want of memory
pub record Given (Ends : Outcome) (old new : List ℕ) (lengths : Lengths) (status : ℕ) : Type 0 where
  pub output : List ℕ
  pub errors : List ℕ
  pub held : Holds old new lengths output errors
  pub outcome : IsOutOfMemory output errors status ⊎ Ends output errors status
