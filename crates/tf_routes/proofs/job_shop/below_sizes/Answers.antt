use Rattle.std.proofs.Common.{ap, sym, ◌∙◌}
use Rattle.tf_words.specs.Words.{words_from}
use Rattle.tf_routes.specs.JobShop.{from_sizes, shop_sized}
use Rattle.tf_routes.specs.TextLeft.{lines_of}
use Rattle.tf_routes.proofs.Headings.{no_sizes, sizes, sizes_missing}
use Rattle.tf_routes.proofs.job_shop.below_sizes.Goals as goal

pub returns-in-Some-sizes_in : goal.returns-in-Some-sizes_in
returns-in-Some-sizes_in c =
    let n = c.loop-line.rest.number in
    let jobs = c.in-Some-sizes_in.jobs in
    let machines = c.in-Some-sizes_in.machines in
    sym c.loop-line.invariant
    ∙ ap (from_sizes n) c.in-Some.ensures.lines
    ∙ sizes n jobs machines _ _ (sym c.in-Some-sizes_in.ensures)
    ∙ ap (λ m. shop_sized n jobs machines (words_from m (lines_of c.in-Some.below)))
    (sym c.in-Some.ensures.number)
    ∙ ap (shop_sized n jobs machines) (sym c.new.ensures)

pub loop-line-preserved : goal.loop-line-preserved
loop-line-preserved c =
    ap (λ n. from_sizes n (lines_of c.in-Some.below)) c.in-Some.ensures.number
    ∙ sym (no_sizes c.loop-line.rest.number _ _ (sym c.in_default-sizes_in.ensures))
    ∙ sym (ap (from_sizes c.loop-line.rest.number) c.in-Some.ensures.lines)
    ∙ c.loop-line.invariant

pub returns : goal.returns
returns c =
    sym c.loop-line.invariant
    ∙ ap (from_sizes c.loop-line.rest.number) c.in_default.ensures.lines
    ∙ sizes_missing c.loop-line.rest.number
