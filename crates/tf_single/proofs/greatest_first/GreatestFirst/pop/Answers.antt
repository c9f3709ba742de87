use Rattle.std.proofs.Common.{◌≡◌, ◌<◌, [], ◌∷◌, ◌++◌, length, get_or, sym, ap, subst, arith}
use Rattle.std.specs.BinaryHeap.{heap_items, IsHeap, PopsGreatest}
use Rattle.std.specs.List.Sorted.{IsPermutation, IsSorted}
use Rattle.std.specs.Option.{IfSome}
use Rattle.tf_single.specs.GreatestFirst.{IsGreatest}
use Rattle.tf_single.proofs.GreatestFirst.{sorted_moved, sorted_greatest, first_taken, later_taken, sorted_front, last_of, popped_last, some_left}
use Rattle.tf_single.proofs.greatest_first.GreatestFirst.pop.Goals as goal

pub returns-then-is_first_ahead : goal.returns-then-is_first_ahead
returns-then-is_first_ahead g c =
    let cmp = g.E.Ord.cmp in
    let first = c.args.self.now.first.items in
    let later = heap_items c.args.self.now.later in
    let sorted = c.begin.new.self.first.items in
    let front = c.pop.new.self.items in
    let x = c.unwrap.result in
    let same : heap_items c.begin.new.self.later ≡ later = ap heap_items c.begin.ensures.later in
    let is : sorted ≡ front ++ x ∷ [] =
    popped_last sorted front c.pop.result x c.pop.ensures.items c.unwrap.ensures in
    let greatest : IsGreatest cmp (sorted ++ later) x =
    subst (λ es. IsGreatest cmp (sorted ++ es) x) same
    (subst (IsGreatest cmp (sorted ++ heap_items c.begin.new.self.later)) (last_of sorted front x is)
    ((c.is_first_ahead.ensures.first c.if-is_first_ahead.true).1 x)) in
    record {
      greatest = sorted_greatest cmp first later sorted c.begin.ensures.first x greatest;
      moved = subst (λ es. IsPermutation (first ++ later) (x ∷ (front ++ es))) (sym same)
          (sorted_moved first later sorted c.begin.ensures.first x (front ++ later)
          (first_taken sorted later front x is));
      ordered = record {
        rising = λ begun. sorted_front cmp front x (subst (IsSorted cmp) is c.begin.ensures.rising);
        heap = subst (IsHeap cmp) (sym same) c.requires.ordered.heap;
      };
    }

-- some entry is left
pub unwrap-requires-2 : goal.unwrap-requires-2
unwrap-requires-2 g c =
    let first = c.args.self.now.first.items in
    let later = heap_items c.args.self.now.later in
    let sorted = c.begin.new.self.first.items in
    let later_now = heap_items c.begin.new.self.later in
    let held : 0 < length (sorted ++ later_now) =
    some_left first later sorted later_now c.requires.some c.begin.ensures.first
    (ap heap_items c.begin.ensures.later) in
    let some : 0 < length later_now =
    (c.is_first_ahead.ensures.later c.if-is_first_ahead.false held).0 in
    c.pop-2.ensures.variant.1 (omega (arith, some, c.begin.new.self.later.data.ok.0))

pub returns : goal.returns
returns g c =
    let cmp = g.E.Ord.cmp in
    let first = c.args.self.now.first.items in
    let later = heap_items c.args.self.now.later in
    let sorted = c.begin.new.self.first.items in
    let later_now = heap_items c.begin.new.self.later in
    let more = heap_items c.pop-2.new.self in
    let x = c.unwrap-2.result in
    let same : later_now ≡ later = ap heap_items c.begin.ensures.later in
    let popped : IsPermutation later (x ∷ more) =
    subst (λ es. IsPermutation es (x ∷ more)) same
    (subst (λ r. IfSome r (λ y. IsPermutation later_now (y ∷ more))) c.unwrap-2.ensures
    c.pop-2.ensures.permutation) in
    let pops : PopsGreatest cmp later_now x more =
    subst (λ r. IfSome r (λ y. PopsGreatest cmp later_now y more)) c.unwrap-2.ensures
    c.pop-2.ensures.heap_order in
    let top : x ≡ get_or later_now 0 x =
    subst (λ r. IfSome r (λ y. y ≡ get_or later_now 0 y)) c.unwrap-2.ensures c.pop-2.ensures.top in
    let held : 0 < length (sorted ++ later_now) =
    some_left first later sorted later_now c.requires.some c.begin.ensures.first
    (ap heap_items c.begin.ensures.later) in
    let greatest : IsGreatest cmp (sorted ++ later) x =
    subst (λ es. IsGreatest cmp (sorted ++ es) x) same
    (subst (IsGreatest cmp (sorted ++ later_now)) (sym top)
    ((c.is_first_ahead.ensures.later c.if-is_first_ahead.false held).1 x)) in
    record {
      greatest = sorted_greatest cmp first later sorted c.begin.ensures.first x greatest;
      moved = sorted_moved first later sorted c.begin.ensures.first x (sorted ++ more)
          (later_taken sorted later more x popped);
      ordered = record {
        rising = λ begun. c.begin.ensures.rising;
        heap = (pops (subst (IsHeap cmp) (sym same) c.requires.ordered.heap)).0;
      };
    }
