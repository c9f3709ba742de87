use Rattle.std.proofs.Common.{None, ap, sym, subst, ◌∙◌}
use Rattle.std.specs.List.{All}
use Rattle.tf_schedule.specs.Schedule.{IsPiece}
use Rattle.tf_picture.specs.Bars.{bars_of}
use Rattle.tf_picture.specs.Picture.{IsResumed}
use Rattle.tf_picture.proofs.Whole.{picture_written}
use Rattle.tf_picture.proofs.picture.picture.Goals as goal

pub shown_of-requires : goal.shown_of-requires
shown_of-requires g c =
    subst (All IsPiece) (sym c.pieces.ensures.all) c.pieces.ensures.schedule.sound

pub returns : goal.returns
returns g c sheet same kept =
    picture_written c.args.view.now sheet c.args.heading.now c.args.schedule.now _ _ _ _
    c.args.dates.now _ _ _ _
    same kept c.pieces.ensures.schedule.in_order c.in_ok-shown.ensures.step
    c.strips_for-strips.ensures
    (c.in_ok-shown.ensures.bars ∙ ap (bars_of None) c.pieces.ensures.all)
    (subst (λ ps. IsResumed c.args.heading.now.problem.prmp ps c.in_ok-shown.shown.resumed.items)
    c.pieces.ensures.all c.in_ok-shown.ensures.resumed)
    c.new-text.ensures.items c.in_ok-push_front.ensures c.in_ok-push_strips.ensures
    c.in_ok-extend_from_slice.ensures.items
