use Rattle.std.proofs.Common.{rules, ◌≡◌, ◌↔◌, IsTrue, List, Some, subst, SFits, w64, ap, sym, ◌∙◌}
use Rattle.tf_schedule.specs.declared.piece.Piece.{Piece}
use Rattle.std.proofs.lemmas.Int.{to_z-of_z}
use Rattle.tf_check.specs.Claim.{AnswerData}
use Rattle.tf_text.specs.AnswerText.{SheetData}
use Rattle.tf_assess.specs.Assessing.{HasProblemFit, IsForProblem, problem_outcomes}
use Rattle.tf_assess.proofs.Assessing.{standing_is}
use Rattle.tf_assess.proofs.assess.assess.Goals as goal

pub returns : goal.returns
returns g c =
    let k = c.args.task.now in
    let pieces : c.args.sheet.answer.pieces ≡ c.into_vec.result.items =
    sym (c.into_vec.ensures
    ∙ ap (λ (a : AnswerData). a.pieces) (c.pieces.view_is ∙ c.into_answer.ensures)) in
    let is_its : IsTrue c.is_for-is_its.result ↔ IsForProblem k c.args.sheet =
    subst (λ (s : SheetData). IsTrue c.is_for-is_its.result ↔ IsForProblem k s) c.sheet.view_is
    c.is_for-is_its.ensures in
    let judged = c.in_ok-fit.field-0.fit in
    let fit : HasProblemFit k c.args.sheet judged =
    c.in_ok-fit.ensures.fit c.args.sheet pieces is_its in
    let fits : SFits w64 c.pieces.inside.value = search rules in
    record {
      problem = c.problem.ensures.value;
      jobs = c.len.ensures.value;
      machines = c.machines.ensures.value;
      fit = fit;
      claimed = ap Some (to_z-of_z w64 c.pieces.inside.value fits
          ∙ ap (λ (a : AnswerData). a.value) (c.pieces.view_is ∙ c.into_answer.ensures));
      weighed = c.in_ok-reference.ensures;
      standing = standing_is k c.args.sheet judged _ fit c.in_ok-reference.ensures.bound;
      outcomes = c.in_ok-fit.ensures.outcomes
          ∙ ap (λ (ps : List Piece). problem_outcomes k ps judged) (sym pieces);
    }
