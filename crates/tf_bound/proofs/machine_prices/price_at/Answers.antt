use Rattle.std.proofs.Common.{◌≡◌, ℕ, ◌+◌, ◌*◌, ℤ, w64, of_z, to_z, SFits, ap, ◌∙◌, arith, rules}
use Rattle.std.proofs.lemmas.Int.{to_z-of_z}
use Rattle.tf_bound.specs.RowSums.{late_steps}
use Rattle.tf_bound.specs.Visits.{visit_end}
use Rattle.tf_bound.proofs.RowSums.{of_rows}
use Rattle.tf_bound.proofs.machine_prices.price_at.Goals as goal

pub overflow_sub-of_rows : goal.overflow_sub-of_rows
overflow_sub-of_rows c =
    let rows = of_rows c.args.prices.now c.args.sums.now c.requires.sums c.args.start
    c.args.visit.time c.min-2.result c.min.result c.min-2.ensures c.min.ensures in
    omega (arith, rows.0)

pub returns-clause-value : goal.returns-clause-value
returns-clause-value c =
    let rows = of_rows c.args.prices.now c.args.sums.now c.requires.sums c.args.start
    c.args.visit.time c.min-2.result c.min.result c.min-2.ensures c.min.ensures in
    let v = c.args.visit in
    let due : to_z w64 (of_z w64 v.due) ≡ v.due =
    let fits : SFits w64 v.due = search rules in to_z-of_z w64 v.due fits in
    let late : c.late_steps.result
    ≡ late_steps v.by_unit v.due (visit_end v.time v.tail v.earliest c.args.start) =
    c.late_steps.ensures ∙ ap (λ (d : ℤ). late_steps v.by_unit d c.max-end.result) due
    ∙ ap (λ e. late_steps v.by_unit v.due e) c.max-end.ensures in
    omega (arith, rows.0, ap (λ x. v.slope * x) late)
