-- Pieces that were sorted by line and start.
use Rattle.std.proofs.Common.{Ordering, ◌≡◌, ℕ, ℤ, false, List, get_or, arith}
use Rattle.std.specs.List.{All, AllPairs}
use Rattle.std.specs.List.Sorted.{IsSortedByKey, IsPermutation}
use Rattle.std.specs.Ordering.{nat_cmp, int_cmp, ordering_then, is_lt}
use Rattle.std.specs.Cmp.{IsTotalOrder}
use Rattle.std.proofs.lemmas.Cmp.{then_total, on_total, nat_cmp_total, int_cmp_total}
use Rattle.std.proofs.lemmas.List.Sorted.{All-permutation, ranks_by, sorted_far}
use Rattle.std.proofs.lemmas.Int.{ints}
use Rattle.std.proofs.lemmas.Bool.Decides.{nat_tests}
use Rattle.tf_schedule.specs.declared.piece.Piece.{Piece}
use Rattle.tf_schedule.specs.Schedule.{ComesBefore, ComesBeforeBy, IsPiece, IsSchedule, NoneTwice}

abbrev pub place_cmp : ℕ × ℤ → ℕ × ℤ → Ordering
place_cmp a b = ordering_then (nat_cmp a.0 b.0) (int_cmp a.1 b.1)

place_total : IsTotalOrder place_cmp
place_total =
    then_total (on_total (λ (a : ℕ × ℤ). a.0) nat_cmp_total)
    (on_total (λ (a : ℕ × ℤ). a.1) int_cmp_total)

module _ (line : Piece → ℕ) where
  abbrev pub place_by : Piece → ℕ × ℤ
  place_by p = (line p, p.start)

  comes_before : (p q : Piece) → is_lt (place_cmp (place_by q) (place_by p)) ≡ false
      → ComesBeforeBy line p q
  comes_before p q h = (grind (arith, nat_tests), λ e. grind (arith, nat_tests, ints))

  pub in_order_from_sort : (ps : List Piece) → IsSortedByKey place_by place_cmp ps
      → AllPairs (ComesBeforeBy line) ps
  in_order_from_sort ps sorted i j d lt h =
      comes_before (get_or ps i d) (get_or ps j d)
      (sorted_far (λ x y. is_lt (place_cmp (place_by x) (place_by y)))
      (ranks_by place_total place_by) ps sorted i j d (omega arith) h)

-- sorted by machine, pieces that are each in range and not empty make a schedule
pub schedule_from_sort : (ps qs : List Piece) → IsPermutation ps qs → All IsPiece ps → NoneTwice qs
    → AllPairs ComesBefore qs → IsSchedule qs
schedule_from_sort ps qs kept pieces once in_order = record {
  sound = All-permutation IsPiece ps qs kept pieces;
  none_twice = once;
  in_order = in_order;
}
