use Rattle.std.proofs.Common.{◌≡◌, refl, ap, ◌∙◌, ◌++◌, List, arith, map, string_bytes, take}
use Rattle.std.proofs.lemmas.List.{take_all}
use Rattle.std.specs.Option.{option_map}
use Rattle.tf_model.specs.declared.problem.Env.{Env}
use Rattle.tf_model.specs.declared.problem.Goal.{Goal}
use Rattle.tf_model.specs.declared.problem.Problem.{Problem}
use Rattle.tf_listing.specs.Listing.{line_if, lines_of}
use Rattle.tf_listing.specs.Unsolved.{unsolved, unsolved_problems}
use Rattle.tf_listing.specs.declared.listing.Listed.TheVariants.{Bounded}
use Rattle.tf_listing.specs.declared.unsolved.TheConstants.{UNSOLVED}
use Rattle.tf_listing.proofs.Lines.{step}
use Rattle.tf_listing.proofs.listing.push_bounded.Goals as goal

pub loop-pair-preserved : goal.loop-pair-preserved
loop-pair-preserved g c =
    let instance = option_map (λ i. i.now) c.args.instance in
    record {
      items = refl;
      same = step Bounded instance (Env × Goal) (λ pair. unsolved pair.0 pair.1) UNSOLVED
          c.loop-pair.pair-index _ (string_bytes c.args.text.now) _ _ c.loop-pair-test.true
          c.loop-pair.invariant.same
          (c.in_ok-push_listed.ensures
          ∙ ap (λ (p : Problem). string_bytes c.loop-pair.text ++ line_if Bounded instance p)
          c.unsolved-problem.ensures);
    }

pub returns : goal.returns
returns g c =
    let instance = option_map (λ i. i.now) c.args.instance in
    let all : take c.loop-pair.pair-index UNSOLVED ≡ UNSOLVED =
    take_all c.loop-pair.pair-index UNSOLVED (omega (arith, c.loop-pair-test.false)) in
    let named : map (λ pair. unsolved pair.0 pair.1) UNSOLVED ≡ unsolved_problems = refl in
    c.loop-pair.invariant.same
    ∙ ap (λ (ps : List Problem). string_bytes c.args.text.now ++ lines_of Bounded instance ps)
    (ap (map (λ pair. unsolved pair.0 pair.1)) all ∙ named)
