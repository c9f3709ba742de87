use Rattle.std.proofs.Common.{◌≡◌, ℤ, ap, subst, ◌∙◌, IfOk, rules, SFits, w64, of_z, to_z}
use Rattle.std.proofs.lemmas.Int.{to_z-of_z}
use Rattle.tf_check.specs.Accepted.{IsAccepted, IsBestAnswer}
use Rattle.tf_check.specs.Certificate.{claim_of}
use Rattle.tf_check.specs.Claim.{AnswerData, answer_of}
use Rattle.tf_check.specs.Verdict.{HasVerdict}
use Rattle.tf_check.specs.declared.verdict.Verdict.TheVariants.{Accepted}
use Rattle.tf_check.proofs.check.check.Goals as goal

-- the parts are those of the answer
parts_are : (g : _) (c : goal.After-verdict_on g)
    → answer_of c.in_ok-pieces.pieces.items (to_z w64 (of_z w64 c.answer.inside.value))
    (claim_of c.answer.inside.certificate) ≡ c.args.answer.now
parts_are g c =
    let fits : SFits w64 c.answer.inside.value = search rules in
    let items : c.in_ok-pieces.pieces.items ≡ c.answer.inside.pieces =
    c.in_ok-pieces.ensures.items_if_clones_equal (λ x y e. e) ∙ c.as_slice.ensures in
    let claim = claim_of c.answer.inside.certificate in
    ap (λ ps. answer_of ps (to_z w64 (of_z w64 c.answer.inside.value)) claim) items
    ∙ ap (λ (v : ℤ). answer_of c.answer.inside.pieces v claim)
    (to_z-of_z w64 c.answer.inside.value fits)
    ∙ c.answer.view_is

pub returns-clause-verdict : goal.returns-clause-verdict
returns-clause-verdict g c =
    subst (λ (a : AnswerData). IfOk c.verdict_on.result (HasVerdict c.args.task.now a))
    (parts_are g c) c.verdict_on.ensures.verdict

pub returns-clause-accepted : goal.returns-clause-accepted
returns-clause-accepted g c =
    subst (λ (a : AnswerData). IsAccepted c.args.task.now a
    → IfOk c.verdict_on.result (λ verdict. verdict ≡ Accepted))
    (parts_are g c) c.verdict_on.ensures.accepted

pub returns-clause-best : goal.returns-clause-best
returns-clause-best g c =
    subst (λ (a : AnswerData). IfOk c.verdict_on.result
    (λ verdict. verdict ≡ Accepted → IsBestAnswer c.args.task.now a))
    (parts_are g c) c.verdict_on.ensures.best
