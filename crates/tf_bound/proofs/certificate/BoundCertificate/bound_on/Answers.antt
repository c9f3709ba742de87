use Rattle.std.proofs.Common.{IfOk, ◌≡◌, ℤ, SFits, w64, pos, List, ℕ, subst, rules}
use Rattle.std.proofs.lemmas.Int.{to_z-of_z}
use Rattle.tf_problem.specs.ProblemBounds.{any_multiplier_value}
use Rattle.tf_problem.specs.MachinePrices.{machine_prices_value}
use Rattle.tf_problem.specs.Ranks.{rank_value}
use Rattle.tf_bound.specs.Certified.{late_value}
use Rattle.tf_bound.specs.Faulted.{late_fault, machine_prices_fault, multipliers_fault, parts_fault, prices_fault, ranks_fault, NamesFault, split_fault, potentials_fault}
use Rattle.tf_model.specs.Bounds.{stands_in}
use Rattle.tf_problem.specs.Split.{split_value}
use Rattle.tf_problem.specs.Potentials.{potentials_value}
use Rattle.tf_bound.proofs.certificate.BoundCertificate.bound_on.Goals as goal

pub returns-in-Multipliers-clause-fault : goal.returns-in-Multipliers-clause-fault
returns-in-Multipliers-clause-fault g c =
    let by_jobs = subst (λ (v : List ℕ). NamesFault
    (multipliers_fault c.args.task.now c.in-Multipliers.machine c.in-Multipliers.q v
    c.deref-in-Multipliers-2.result.now)
    c.multipliers_bound.result) c.deref-in-Multipliers.ensures.value c.multipliers_bound.ensures.fault in
    let by_items = subst (λ (l : List ℕ). NamesFault
    (multipliers_fault c.args.task.now c.in-Multipliers.machine c.in-Multipliers.q
    c.in-Multipliers.numerators.items l)
    c.multipliers_bound.result) c.deref-in-Multipliers-2.ensures.value by_jobs in
    rw c.in-Multipliers.is by_items

pub returns-in-Multipliers-clause-value : goal.returns-in-Multipliers-clause-value
returns-in-Multipliers-clause-value g c =
    let by_jobs = subst (λ (v : List ℕ). IfOk c.multipliers_bound.result
    (λ (b : ℤ). b ≡ any_multiplier_value c.args.task.now c.in-Multipliers.machine v
    c.deref-in-Multipliers-2.result.now c.in-Multipliers.q))
    c.deref-in-Multipliers.ensures.value c.multipliers_bound.ensures.value in
    let by_items = subst (λ (l : List ℕ). IfOk c.multipliers_bound.result
    (λ (b : ℤ). b ≡ any_multiplier_value c.args.task.now c.in-Multipliers.machine
    c.in-Multipliers.numerators.items l c.in-Multipliers.q))
    c.deref-in-Multipliers-2.ensures.value by_jobs in
    rw c.in-Multipliers.is by_items

pub returns-in-Prices-clause-fault : goal.returns-in-Prices-clause-fault
returns-in-Prices-clause-fault g c =
    let by_items = subst (λ (rows : List ℕ). NamesFault
    (prices_fault c.args.task.now c.in-Prices.q rows) c.prices_bound.result)
    c.deref-in-Prices.ensures.value c.prices_bound.ensures.fault in
    rw c.in-Prices.is by_items

pub returns-in-MachinePrices-clause-fault : goal.returns-in-MachinePrices-clause-fault
returns-in-MachinePrices-clause-fault g c =
    let by_items = subst (λ (rows : List ℕ). NamesFault
    (machine_prices_fault c.args.task.now c.in-MachinePrices.machine c.in-MachinePrices.q rows)
    c.machine_prices_bound.result) c.deref-in-MachinePrices.ensures.value
    c.machine_prices_bound.ensures.fault in
    rw c.in-MachinePrices.is by_items

pub returns-in-MachinePrices-clause-value : goal.returns-in-MachinePrices-clause-value
returns-in-MachinePrices-clause-value g c =
    let by_items = subst (λ (rows : List ℕ). IfOk c.machine_prices_bound.result
    (λ (b : ℤ). b ≡ machine_prices_value c.args.task.now c.in-MachinePrices.machine
    c.in-MachinePrices.q rows))
    c.deref-in-MachinePrices.ensures.value c.machine_prices_bound.ensures.value in
    rw c.in-MachinePrices.is by_items

pub returns-in-Kept-clause-fault : goal.returns-in-Kept-clause-fault
returns-in-Kept-clause-fault g c =
    let by_items = subst (λ (jobs : List ℕ). NamesFault (late_fault c.args.task.now jobs)
    c.late_bound.result) c.deref-in-Kept.ensures.value c.late_bound.ensures.fault in
    rw c.in-Kept.is by_items

pub returns-in-Kept-clause-value : goal.returns-in-Kept-clause-value
returns-in-Kept-clause-value g c =
    let by_items = subst (λ (jobs : List ℕ). IfOk c.late_bound.result
    (λ (b : ℤ). b ≡ pos (late_value c.args.task.now jobs)))
    c.deref-in-Kept.ensures.value c.late_bound.ensures.value in
    rw c.in-Kept.is by_items

pub returns-in-Ranks-clause-fault : goal.returns-in-Ranks-clause-fault
returns-in-Ranks-clause-fault g c =
    let by_items = subst (λ (jobs : List ℕ). NamesFault (ranks_fault c.args.task.now jobs)
    c.ranks_bound.result) c.deref-in-Ranks.ensures.value c.ranks_bound.ensures.fault in
    rw c.in-Ranks.is by_items

pub returns-in-Ranks-clause-value : goal.returns-in-Ranks-clause-value
returns-in-Ranks-clause-value g c =
    let by_items = subst (λ (jobs : List ℕ). IfOk c.ranks_bound.result
    (λ (b : ℤ). b ≡ pos (rank_value c.args.task.now jobs)))
    c.deref-in-Ranks.ensures.value c.ranks_bound.ensures.value in
    rw c.in-Ranks.is by_items

pub returns-in-Parts-clause-fault : goal.returns-in-Parts-clause-fault
returns-in-Parts-clause-fault g c =
    let k = c.args.task.now in
    let from : ℕ = c.in-Parts.from in
    let until : ℕ = c.in-Parts.until in
    let fits : SFits w64 c.in-Parts.late = search rules in
    let by_late = subst (λ (late : ℤ). NamesFault
    (parts_fault k from until late c.deref-in-Parts.result.now) c.parts_bound.result)
    (to_z-of_z w64 c.in-Parts.late fits) c.parts_bound.ensures.fault in
    let by_items = subst (λ (jobs : List ℕ). NamesFault
    (parts_fault k from until c.in-Parts.late jobs) c.parts_bound.result)
    c.deref-in-Parts.ensures.value by_late in
    rw c.in-Parts.is by_items

pub returns-in-Split-clause-fault : goal.returns-in-Split-clause-fault
returns-in-Split-clause-fault g c =
    let by_items = subst (λ (side : List ℕ). NamesFault
    (split_fault c.args.task.now c.in-Split.first c.in-Split.second side c.in-Split.delta c.in-Split.by_first)
    c.split_bound.result) c.deref-in-Split.ensures.value c.split_bound.ensures.fault in
    rw c.in-Split.is by_items

pub returns-in-Split-clause-value : goal.returns-in-Split-clause-value
returns-in-Split-clause-value g c =
    let by_items = subst (λ (side : List ℕ). IfOk c.split_bound.result
    (λ (b : ℤ). b ≡ split_value c.args.task.now c.in-Split.first c.in-Split.second (stands_in side) c.in-Split.delta))
    c.deref-in-Split.ensures.value c.split_bound.ensures.value in
    rw c.in-Split.is by_items

pub returns-in-Potentials-clause-fault : goal.returns-in-Potentials-clause-fault
returns-in-Potentials-clause-fault g c =
    let by_items = subst (λ (numbers : List ℤ). NamesFault (potentials_fault c.args.task.now numbers)
    c.potentials_bound.result) c.deref-in-Potentials.ensures.value c.potentials_bound.ensures.fault in
    rw c.in-Potentials.is by_items

pub returns-in-Potentials-clause-value : goal.returns-in-Potentials-clause-value
returns-in-Potentials-clause-value g c =
    let by_items = subst (λ (numbers : List ℤ). IfOk c.potentials_bound.result
    (λ (b : ℤ). b ≡ potentials_value c.args.task.now numbers))
    c.deref-in-Potentials.ensures.value c.potentials_bound.ensures.value in
    rw c.in-Potentials.is by_items
