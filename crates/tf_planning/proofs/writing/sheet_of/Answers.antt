use Rattle.std.proofs.Common.{rules, ℤ, SFits, refl, inr, sym, ◌∙◌, subst}
use Rattle.std.specs.Int.{w128}
use Rattle.std.proofs.lemmas.Int.{to_z-of_z}
use Rattle.tf_schedule.specs.Drawing.{drawing}
use Rattle.tf_planning.specs.Planning.{IsBeyond}
use Rattle.tf_planning.proofs.writing.sheet_of.Goals as goal

pub returns-in_default : goal.returns-in_default
returns-in_default g c =
    let k = c.args.task.now in
    let plan = c.requires in
    let value : ℤ = c.args.plan.now.value in
    let fits : SFits w128 value = search rules in
    inr (
      refl,
      inr (record {
        rows = drawing k.machines c.args.plan.now.schedule;
        fits = plan.fits.fits;
        beyond = subst IsBeyond (to_z-of_z w128 value fits ∙ sym plan.cost)
            c.in_default.ensures.beyond;
      }),
    )
