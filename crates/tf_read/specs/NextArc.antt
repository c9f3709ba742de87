-- The first of the lines of arcs that are left.
use Rattle.std.specs.Prelude.{◌≡◌, ℕ, List, ◌∷◌, Ok, Err}
use Rattle.tf_words.specs.Words.{Line}
use Rattle.tf_read.specs.JobTable.{arc_line}
use Rattle.tf_read.specs.declared.fault.ReadFault.{ReadFault}

-- it is that of arc k, and others follow it
pub record BeginsWithArc (jobs k : ℕ) (all : List Line) (arc : ℕ × ℕ) (others : List Line) : Type 0
  where
    pub line : Line
    pub is : all ≡ line ∷ others
    pub read : arc_line jobs k line ≡ Ok arc

-- it is to be that of arc k, and has a fault
pub record BeginsWithBadArc (jobs k : ℕ) (all : List Line) (fault : ReadFault) : Type 0 where
  pub line : Line
  pub others : List Line
  pub is : all ≡ line ∷ others
  pub read : arc_line jobs k line ≡ Err fault
