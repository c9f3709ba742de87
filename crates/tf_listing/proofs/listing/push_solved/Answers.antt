use Rattle.std.proofs.Common.{refl, ap, ◌∙◌, ◌++◌, string_bytes}
use Rattle.std.specs.Option.{option_map}
use Rattle.tf_model.specs.ClassTable.{notation_of}
use Rattle.tf_model.specs.declared.class.Class.{Class}
use Rattle.tf_model.specs.declared.problem.Problem.{Problem}
use Rattle.tf_listing.specs.Listing.{classes, line_if}
use Rattle.tf_listing.specs.declared.listing.Listed.TheVariants.{Solved}
use Rattle.tf_listing.proofs.Lines.{step}
use Rattle.tf_listing.proofs.listing.push_solved.Goals as goal

pub loop-class-preserved : goal.loop-class-preserved
loop-class-preserved g c =
    let instance = option_map (λ i. i.now) c.args.instance in
    record {
      items = refl;
      same = step Solved instance Class notation_of classes c.loop-class.class-index _
          (string_bytes c.args.text.now) _ _ c.loop-class-test.true c.loop-class.invariant.same
          (c.in_ok-push_listed.ensures
          ∙ ap (λ (p : Problem). string_bytes c.loop-class.text ++ line_if Solved instance p)
          c.notation-problem.ensures.notation);
    }
