use Rattle.std.proofs.Common.{ap, sym, ◌∙◌}
use Rattle.tf_routes.specs.JobShop.{from_heading, from_sizes}
use Rattle.tf_routes.specs.TextLeft.{lines_of}
use Rattle.tf_routes.proofs.Headings.{heading, heading_missing, no_heading}
use Rattle.tf_routes.proofs.job_shop.below_heading.Goals as goal

pub returns-then-is_heading : goal.returns-then-is_heading
returns-then-is_heading c =
    sym c.loop-line.invariant
    ∙ ap (from_heading c.args.name.now c.loop-line.rest.number) c.in-Some.ensures.lines
    ∙ heading c.args.name.now _ _ _ (sym c.if-is_heading.ensures)
    ∙ ap (λ n. from_sizes n (lines_of c.in-Some.below)) (sym c.in-Some.ensures.number)

pub loop-line-preserved : goal.loop-line-preserved
loop-line-preserved c =
    ap (λ n. from_heading c.args.name.now n (lines_of c.in-Some.below)) c.in-Some.ensures.number
    ∙ sym (no_heading c.args.name.now c.loop-line.rest.number _ _ (sym c.if-is_heading.ensures))
    ∙ sym (ap (from_heading c.args.name.now c.loop-line.rest.number) c.in-Some.ensures.lines)
    ∙ c.loop-line.invariant

pub returns : goal.returns
returns c =
    sym c.loop-line.invariant
    ∙ ap (from_heading c.args.name.now c.loop-line.rest.number) c.in_default.ensures.lines
    ∙ heading_missing c.args.name.now c.loop-line.rest.number
