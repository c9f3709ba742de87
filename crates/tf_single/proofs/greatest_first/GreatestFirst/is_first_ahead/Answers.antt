use Rattle.std.proofs.Common.{◌≡◌, ◌<◌, ◌≤◌, ◌-◌, ◌∙◌, length, get_or, subst, sym, ap, arith}
use Rattle.std.specs.BinaryHeap.{heap_items}
use Rattle.std.specs.Ordering.{is_lt}
use Rattle.std.proofs.lemmas.Bool.Decides.{nat_tests}
use Rattle.std.proofs.lemmas.List.{length-append}
use Rattle.tf_single.proofs.GreatestFirst.{alone_ahead, first_ahead, later_ahead, none_ahead}
use Rattle.tf_single.proofs.greatest_first.GreatestFirst.is_first_ahead.Goals as goal

pub returns-in_default-clause-first : goal.returns-in_default-clause-first
returns-in_default-clause-first g c = λ held.
    let some : 0 < length c.args.self.now.first.items =
    grind (arith, nat_tests, held, c.is_empty.ensures, c.args.self.now.first.ok) in (
      some,
      λ d. alone_ahead g.E.Ord.cmp g.met.E.Ord.total c.args.self.now.first.items
          (heap_items c.args.self.now.later) d c.requires.rising some
          c.in_default.ensures.item.3,
    )

pub returns-in_default-clause-later : goal.returns-in_default-clause-later
returns-in_default-clause-later g c = λ none held.
    let few : length c.args.self.now.first.items ≤ 0 =
    grind (arith, nat_tests, none, c.is_empty.ensures, c.args.self.now.first.ok) in
    absurd (omega (
      arith,
      held,
      few,
      c.in_default.ensures.item.3,
      length-append c.args.self.now.first.items (heap_items c.args.self.now.later),
    ))

pub returns-in_default-last-clause-later : goal.returns-in_default-last-clause-later
returns-in_default-last-clause-later g c = λ none held. (
  c.in-Some.ensures.item.3.0,
  λ d. none_ahead g.E.Ord.cmp c.args.self.now.first.items (heap_items c.args.self.now.later)
      c.in-Some.later.now d
      (omega (arith, c.in_default-last.ensures.item.3, ap length c.deref.ensures.value))
      (c.in-Some.ensures.greatest c.requires.heap) c.in-Some.ensures.item.3.0
      c.in-Some.ensures.lookup,
)

pub returns-clause-first : goal.returns-clause-first
returns-clause-first g c = λ less. (
  omega (arith, c.in-Some-last.ensures.item.3.0, ap length c.deref.ensures.value),
  λ d. first_ahead g.E.Ord.cmp g.met.E.Ord.total c.args.self.now.first.items
      (heap_items c.args.self.now.later) c.in-Some-last.first.now c.in-Some.later.now d
      c.requires.rising
      (omega (arith, c.in-Some-last.ensures.item.3.0, ap length c.deref.ensures.value))
      (subst (λ xs. c.in-Some-last.first.now ≡ get_or xs (length xs - 1) c.in-Some-last.first.now)
      c.deref.ensures.value c.in-Some-last.ensures.item.1)
      (c.in-Some.ensures.greatest c.requires.heap)
      (sym (ap is_lt c.cmp.ensures) ∙ sym c.is_lt.ensures ∙ less),
)

pub returns-clause-later : goal.returns-clause-later
returns-clause-later g c = λ less held. (
  c.in-Some.ensures.item.3.0,
  λ d. later_ahead g.E.Ord.cmp g.met.E.Ord.total c.args.self.now.first.items
      (heap_items c.args.self.now.later) c.in-Some-last.first.now c.in-Some.later.now d
      c.requires.rising
      (omega (arith, c.in-Some-last.ensures.item.3.0, ap length c.deref.ensures.value))
      (subst (λ xs. c.in-Some-last.first.now ≡ get_or xs (length xs - 1) c.in-Some-last.first.now)
      c.deref.ensures.value c.in-Some-last.ensures.item.1)
      (c.in-Some.ensures.greatest c.requires.heap) c.in-Some.ensures.item.3.0
      c.in-Some.ensures.lookup (sym (ap is_lt c.cmp.ensures) ∙ sym c.is_lt.ensures ∙ less),
)
