use Rattle.std.proofs.Common.{◌≡◌, ℤ, List, Some, rules, refl, ap, sym, subst, ◌∙◌, SFits, w64}
use Rattle.std.proofs.lemmas.Int.{to_z-of_z}
use Rattle.tf_schedule.specs.declared.piece.Piece.{Piece}
use Rattle.tf_check.specs.Certificate.{claim_of}
use Rattle.tf_check.specs.Claim.{AnswerData, Claim}
use Rattle.tf_evaluate.specs.EvaluationData.{standing_of}
use Rattle.tf_evaluate.specs.Evaluating.{HasFit, HasGap, HasStanding, IsLeastCost, ShowsLeast, bound_for, outcomes_for, steps_for}
use Rattle.tf_evaluate.proofs.Standing.{standing_is, gap_is, shows_least}
use Rattle.tf_evaluate.proofs.evaluate.evaluate.Goals as goal

-- the pieces that are judged are those of the sheet
pieces_are : (g : _) (c : goal.Joined-certificate-4 g)
    → c.args.sheet.answer.pieces ≡ c.into_vec.result.items
pieces_are g c =
    sym (c.into_vec.ensures
    ∙ ap (λ (a : AnswerData). a.pieces) (c.pieces.view_is ∙ c.into_answer.ensures))

fit_is : (g : _) (c : goal.Joined-certificate-4 g)
    → HasFit c.args.task.now c.args.sheet c.in_ok-fit.field-0.fit
fit_is g c = c.in_ok-fit.ensures.fit c.args.sheet (pieces_are g c) c.is_for-is_its.ensures

pub best_beside-requires : goal.best_beside-requires
best_beside-requires g c =
    let k = c.args.task.now in
    let sheet = c.args.sheet in
    let claim = claim_of c.pieces.inside.certificate in
    let fit = c.in_ok-fit.field-0.fit in
    let same : sheet.answer.pieces ≡ c.into_vec.result.items =
    sym (c.into_vec.ensures
    ∙ ap (λ (a : AnswerData). a.pieces) (c.pieces.view_is ∙ c.into_answer.ensures)) in
    record {
      shown = subst (ShowsLeast k fit) (sym c.in_ok-fit.ensures.bound)
          (shows_least k sheet claim fit c.len-jobs.ensures.sound
          (c.in_ok-fit.ensures.fit sheet same c.is_for-is_its.ensures));
    }

pub returns-clause-standing : goal.returns-clause-standing
returns-clause-standing g c =
    let fits : SFits w64 c.in_ok-best.best = search rules in
    let fit = c.in_ok-fit.field-0.fit in
    subst (λ (z : ℤ). HasStanding c.args.task.now c.args.sheet (standing_of fit z)
    × HasGap fit z) (sym (to_z-of_z w64 c.in_ok-best.best fits)) (
      standing_is c.args.task.now c.args.sheet fit c.in_ok-best.best (fit_is g c)
          c.in_ok-best.ensures.least,
      gap_is c.args.task.now c.args.sheet fit c.in_ok-best.best (fit_is g c)
          c.in_ok-best.ensures.least,
    )

pub returns-clause-evaluation : goal.returns-clause-evaluation
returns-clause-evaluation g c =
    let k = c.args.task.now in
    let fit = c.in_ok-fit.field-0.fit in
    let value_fits : SFits w64 c.pieces.inside.value = search rules in
    let best_fits : SFits w64 c.in_ok-best.best = search rules in
    let answer : _ ≡ c.args.sheet.answer = c.pieces.view_is ∙ c.into_answer.ensures in
    let claim : claim_of c.pieces.inside.certificate ≡ c.args.sheet.answer.certificate =
    ap (λ (a : AnswerData). a.certificate) answer in
    record {
      problem_is = refl;
      jobs = c.len-jobs.ensures.value;
      machines = c.machines.ensures.value;
      fit = fit_is g c;
      claimed = ap Some (to_z-of_z w64 c.pieces.inside.value value_fits
          ∙ ap (λ (a : AnswerData). a.value) answer);
      best = subst (IsLeastCost k) (sym (to_z-of_z w64 c.in_ok-best.best best_fits))
          c.in_ok-best.ensures.least;
      bound = c.in_ok-fit.ensures.bound ∙ ap (λ (claim : Claim). bound_for k claim fit) claim;
      steps = c.in_ok-steps.ensures.steps
          ∙ ap (steps_for c.args.detail c.in_ok-fit.field-0.bound k) claim;
      outcomes = c.in_ok-fit.ensures.outcomes
          ∙ ap (λ (ps : List Piece). outcomes_for k ps fit) (sym (pieces_are g c));
    }
