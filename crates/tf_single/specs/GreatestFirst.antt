-- Entries of which the greatest goes first.
use Rattle.std.specs.Prelude.{◌≡◌, Bool, true, false, List, ◌++◌}
use Rattle.std.specs.BinaryHeap.{heap_items, IsHeap}
use Rattle.std.specs.List.{All}
use Rattle.std.specs.List.Sorted.{IsSorted}
use Rattle.std.specs.Ordering.{is_lt}
use Rattle.std.specs.declared.cmp.Ordering.{Ordering}
use Rattle.tf_single.specs.declared.greatest_first.GreatestFirst.{GreatestFirst}

-- all entries, in no particular order
abbrev pub entries : {E A : Type 0} → GreatestFirst E A → List E
entries it = it.first.items ++ heap_items it.later

module _ {E : Type 0} (cmp : E → E → Ordering) where
  -- it is less than none of the entries
  abbrev pub IsGreatest : List E → E → Type 0
  IsGreatest es x = All (λ e. is_lt (cmp x e) ≡ false) es

  -- the entries that were there before one was taken are in order as soon as one is
  abbrev pub IsRising : Bool → List E → Type 0
  IsRising begun first = begun ≡ true → IsSorted cmp first

  -- and those that followed are a heap
  pub record AreOrdered {A : Type 0} (it : GreatestFirst E A) : Type 0 where
    pub rising : IsRising it.has_begun it.first.items
    pub heap : IsHeap cmp (heap_items it.later)
