use Rattle.std.proofs.Common.{refl, sym, subst, ◌∙◌, arith}
use Rattle.tf_read.specs.Faults.{Gives}
use Rattle.tf_routes.proofs.Headings.{not_long, too_long}
use Rattle.tf_routes.proofs.job_shop.read_job_shop.Goals as goal

pub returns-then-text-gt-MOST_BYTES-clause-gives :
    goal.returns-then-text-gt-MOST_BYTES-clause-gives
returns-then-text-gt-MOST_BYTES-clause-gives g c =
    too_long c.args.name.now c.args.text.now _ refl (omega arith)

pub returns-in_default-clause-gives : goal.returns-in_default-clause-gives
returns-in_default-clause-gives g c =
    not_long c.args.name.now c.args.text.now _ refl (omega arith) ∙ c.in_default.ensures

pub returns-in_default-below_sizes-clause-gives : goal.returns-in_default-below_sizes-clause-gives
returns-in_default-below_sizes-clause-gives g c =
    not_long c.args.name.now c.args.text.now _ refl (omega arith) ∙ c.in-Some.ensures
    ∙ c.in_default-below_sizes.ensures

pub returns-clause-gives : goal.returns-clause-gives
returns-clause-gives g c =
    subst (λ r. Gives (λ i. i) c.shop_sized.result r)
    (sym (not_long c.args.name.now c.args.text.now _ refl (omega arith) ∙ c.in-Some.ensures
    ∙ c.in-Some-below_sizes.ensures))
    c.shop_sized.ensures.gives
