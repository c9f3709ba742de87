use Rattle.std.proofs.Common.{Bool, ℕ, ◌+◌, List, slice_index, sym, ap, subst, arith}
use Rattle.tf_bound.proofs.RaisedDates.{IsPassing, pass_begins, pass_unmoved, pass_raised, pass_beyond, pass_ends_unmoved, pass_ends_raised}
use Rattle.tf_bound.proofs.along.pass.Goals as goal
use Rattle.tf_bound.proofs.along.pass.Goals.{in-Unmoved, in-Raised}

pub loop-before-init : goal.loop-before-init
loop-before-init c = pass_begins c.args.work.now c.args.arcs.now c.args.dates.now c.requires.within

pub raise_date-requires-clause-within : goal.raise_date-requires-clause-within
raise_date-requires-clause-within c = c.loop-before.invariant.within

pub returns-in-Beyond-clause-within : goal.returns-in-Beyond-clause-within
returns-in-Beyond-clause-within c i =
    omega (
      arith,
      ap (λ (l : List ℕ). slice_index l i) c.in-Beyond.ensures.0,
      c.loop-before.invariant.within i,
    )

pub returns-in-Beyond-clause-passed : goal.returns-in-Beyond-clause-passed
returns-in-Beyond-clause-passed c =
    pass_beyond c.args.work.now c.args.arcs.now c.args.dates.now c.loop-before.before-index
    c.loop-before-item.result c.loop-before-test.true c.loop-before-item.is c.loop-before.dates
    c.raise_date.new.dates c.loop-before.is_raised c.loop-before.invariant
    c.in-Beyond.ensures

pub loop-before-preserved : goal.loop-before-preserved
loop-before-preserved c =
    let work = c.args.work.now in
    let arcs = c.args.arcs.now in
    let old = c.args.dates.now in
    let n = c.loop-before.before-index in
    let arc = c.loop-before-item.result in
    let lt = c.loop-before-test.true in
    let is = c.loop-before-item.is in
    let dates = c.loop-before.dates in
    let new = c.raise_date.new.dates in
    let flag = c.loop-before.is_raised in
    let far = c.loop-before.invariant in
    elim c.match-raise_date.branch [
      | in-Unmoved w ↦
          subst (λ (b : Bool). IsPassing work arcs old (n + 1) new b) (sym w.is_raised-is)
          (pass_unmoved work arcs old n arc lt is dates new flag far w.in-Unmoved.ensures)
      | in-Raised w ↦
          subst (λ (b : Bool). IsPassing work arcs old (n + 1) new b) (sym w.is_raised-is)
          (pass_raised work arcs old n arc lt is dates new flag far c.requires.arcs
          w.in-Raised.ensures)
    ]

pub returns-then-is_raised-clause-within : goal.returns-then-is_raised-clause-within
returns-then-is_raised-clause-within c = c.loop-before.invariant.within

pub returns-then-is_raised-clause-passed : goal.returns-then-is_raised-clause-passed
returns-then-is_raised-clause-passed c =
    pass_ends_raised c.args.work.now c.args.arcs.now c.args.dates.now c.requires.times
    c.requires.arcs c.loop-before.before-index (omega (arith, c.loop-before-test.false))
    c.loop-before.dates c.loop-before.is_raised c.if-is_raised.true c.loop-before.invariant

pub returns-else-is_raised-clause-within : goal.returns-else-is_raised-clause-within
returns-else-is_raised-clause-within c = c.loop-before.invariant.within

pub returns-else-is_raised-clause-passed : goal.returns-else-is_raised-clause-passed
returns-else-is_raised-clause-passed c =
    pass_ends_unmoved c.args.work.now c.args.arcs.now c.args.dates.now c.requires.times
    c.requires.arcs c.loop-before.before-index (omega (arith, c.loop-before-test.false))
    c.loop-before.dates c.loop-before.is_raised c.if-is_raised.false c.loop-before.invariant
