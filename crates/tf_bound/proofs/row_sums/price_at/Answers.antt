use Rattle.std.proofs.Common.{◌≡◌, ℕ, ◌+◌, ◌*◌, ℤ, w64, of_z, to_z, SFits, ap, ◌∙◌, arith, rules}
use Rattle.std.proofs.lemmas.Int.{to_z-of_z}
use Rattle.tf_bound.specs.RowSums.{late_steps}
use Rattle.tf_bound.proofs.RowSums.{of_rows}
use Rattle.tf_bound.proofs.row_sums.price_at.Goals as goal

pub overflow_sub-of_rows : goal.overflow_sub-of_rows
overflow_sub-of_rows c =
    let rows = of_rows c.args.prices.now c.args.sums.now c.requires.sums c.args.start
    c.args.job.time c.min-2.result c.min.result c.min-2.ensures c.min.ensures in
    omega (arith, rows.0)

pub returns-clause-value : goal.returns-clause-value
returns-clause-value c =
    let rows = of_rows c.args.prices.now c.args.sums.now c.requires.sums c.args.start
    c.args.job.time c.min-2.result c.min.result c.min-2.ensures c.min.ensures in
    let end : ℕ = c.args.start + c.args.job.time in
    let due : to_z w64 (of_z w64 c.args.job.due) ≡ c.args.job.due =
    let fits : SFits w64 c.args.job.due = search rules in to_z-of_z w64 c.args.job.due fits in
    let late : c.late_steps.result ≡ late_steps c.args.job.by_unit c.args.job.due end =
    c.late_steps.ensures ∙ ap (λ (d : ℤ). late_steps c.args.job.by_unit d end) due in
    omega (arith, rows.0, ap (λ x. c.args.job.slope * x) late)
