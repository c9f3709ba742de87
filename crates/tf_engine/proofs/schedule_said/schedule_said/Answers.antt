use Rattle.std.proofs.Common.{◌≡◌, IfErr, List, ap, refl, subst, ◌∙◌}
use Rattle.tf_schedule.specs.declared.piece.Piece.{Piece}
use Rattle.tf_schedule.specs.Schedule.{HasFirstFault}
use Rattle.tf_engine.specs.declared.fault.RunFault.TheVariants.{Pieces}
use Rattle.tf_engine.specs.Faults.{stop_of}
use Rattle.tf_engine.specs.Drawing.{IsOfPieces}
use Rattle.tf_engine.specs.Parts.{StopsBy}
use Rattle.tf_engine.proofs.Unread.{err_is}
use Rattle.tf_engine.proofs.schedule_said.schedule_said.Goals as goal

pub returns-in_err-new-clause-refused : goal.returns-in_err-new-clause-refused
returns-in_err-new-clause-refused g c =
    let fault = c.in_err-new.field-0.0 in
    let same : c.into_vec.result.items ≡ c.args.sheet.answer.pieces = c.into_vec.ensures
    ∙ ap (λ a. a.pieces) (c.pieces.view_is ∙ c.into_answer.ensures) in
    err_is (λ r. IfErr r (λ e. StopsBy (IsOfPieces c.args.sheet.answer.pieces) (stop_of e)))
    (Pieces fault) _ c.from_residual.ensures.1
    (fault, refl, subst (λ (ps : List Piece). HasFirstFault ps fault) same c.in_err-new.ensures.fault)
