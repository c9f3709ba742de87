use Rattle.std.proofs.Common.{◌≡◌, [], Bool, ℕ, ℤ, List, cond, IfOk, Option, Some, None, sym, ap, ◌∙◌, subst, arith}
use Rattle.std.specs.Option.{option_or}
use Rattle.std.proofs.lemmas.Bool.{lt-ltb}
use Rattle.tf_model.specs.Bounds.{stands_in}
use Rattle.tf_posed.specs.ProblemData.{IsProblemJob}
use Rattle.tf_bound.specs.Kinds.{takes_split}
use Rattle.tf_bound.specs.Faulted.{list_fault, machine_order, no_machine, other_kind, sides_fault, split_fault, NamesFault}
use Rattle.tf_bound.specs.Split.{marked}
use Rattle.tf_bound.specs.declared.fault.BoundFault.{BoundFault}
use Rattle.tf_bound.specs.declared.fault.BoundFault.TheVariants.{BadMachine, MachineOrder}
use Rattle.tf_bound.proofs.Sides.{fault_same, value_same}
use Rattle.tf_bound.proofs.split.split_bound.Goals as goal

pub returns-clause-fault : goal.returns-clause-fault
returns-clause-fault g c =
    let k = c.args.task.now in
    let a : ℕ = c.args.pair.first in
    let b : ℕ = c.args.pair.second in
    let side : List ℕ = c.args.side.now in
    let marks : List Bool = c.deref.result.now in
    let sides : (j : ℕ) → IsProblemJob k j → marked marks j ≡ stands_in side j =
    λ j job. ap (λ ms. marked ms j) c.deref.ensures.value ∙ c.in_ok-marks.ensures.marks.sides j job in
    let same = fault_same k a b c.args.pair.delta (marked marks) (stands_in side) c.args.pair.by_first sides in
    let rest : Option BoundFault =
    sides_fault k a b (stands_in side) c.args.pair.delta c.args.pair.by_first in
    let taken : other_kind (takes_split k.problem) ≡ None =
    sym (ap other_kind c.if-not-takes_split.ensures.exact) in
    let there : no_machine k b ≡ None =
    ap (λ t. cond t None (Some (BadMachine b)))
    (lt-ltb b k.machines (omega (arith, c.if-pair-machines.false, c.machines.ensures.value))) in
    let before : machine_order a b ≡ None =
    ap (λ t. cond t None (Some MachineOrder)) (lt-ltb a b (omega (arith, c.if-pair.false))) in
    let listed : list_fault k [] side ≡ None = c.in_ok-marks.ensures.fault in
    let whole : split_fault k a b side c.args.pair.delta c.args.pair.by_first ≡ rest =
    ap (λ o. option_or o (option_or (no_machine k b) (option_or (machine_order a b) (option_or (list_fault k [] side) rest)))) taken
    ∙ ap (λ o. option_or o (option_or (machine_order a b) (option_or (list_fault k [] side) rest))) there
    ∙ ap (λ o. option_or o (option_or (list_fault k [] side) rest)) before
    ∙ ap (λ o. option_or o rest) listed in
    subst (λ (o : Option BoundFault). NamesFault o c.marked_bound.result) (same ∙ sym whole)
    c.marked_bound.ensures.fault

pub returns-clause-value : goal.returns-clause-value
returns-clause-value g c =
    let k = c.args.task.now in
    let side : List ℕ = c.args.side.now in
    let marks : List Bool = c.deref.result.now in
    let sides : (j : ℕ) → IsProblemJob k j → marked marks j ≡ stands_in side j =
    λ j job. ap (λ ms. marked ms j) c.deref.ensures.value ∙ c.in_ok-marks.ensures.marks.sides j job in
    subst (λ (v : ℤ). IfOk c.marked_bound.result (λ (b : ℤ). b ≡ v))
    (value_same k c.args.pair.first c.args.pair.second c.args.pair.delta (marked marks) (stands_in side)
    sides) c.marked_bound.ensures.value
