use Rattle.std.proofs.Common.{IsTrue, MatchOption, inl, sym, subst}
use Rattle.tf_model.specs.declared.problem.Goal.{Goal}
use Rattle.tf_assess.specs.Measures.{IsUnmade}
use Rattle.tf_assess.specs.Placed.{IsPlacedBy, serves}
use Rattle.tf_assess.proofs.Placing.{serves_itself}
use Rattle.tf_assess.proofs.measures.own_value.Goals as goal

pub returns-in-Some : goal.returns-in-Some
returns-in-Some g c = λ ps sorted.
    let posed = c.args.posed.now in
    let own : IsPlacedBy posed ps c.args.goal c.in-Some.own =
    subst (λ found. MatchOption found
    (IsUnmade posed.timed posed.problem posed.machines c.args.goal)
    (IsPlacedBy posed ps c.args.goal)) c.in-Some.is (c.in_ok-own.ensures ps sorted) in
    c.value.ensures posed ps own.0
    (subst (λ (goal : Goal). IsTrue (serves goal c.args.goal)) (sym own.1)
    (serves_itself c.args.goal))

pub returns-in-None : goal.returns-in-None
returns-in-None g c = λ ps sorted.
    let posed = c.args.posed.now in
    inl (subst (λ found. MatchOption found
    (IsUnmade posed.timed posed.problem posed.machines c.args.goal)
    (IsPlacedBy posed ps c.args.goal)) c.in-None.is (c.in_ok-own.ensures ps sorted))
