use Rattle.std.proofs.Common.{ap, map, subst, sym, ◌∙◌}
use Rattle.tf_text.specs.AnswerText.{SheetData}
use Rattle.tf_picture.specs.Picture.{IsDatedPicture}
use Rattle.tf_dated.specs.Dates.{dates_in, dates_of}
use Rattle.tf_dated.proofs.Dated.{sheet_drawn}
use Rattle.tf_dated.proofs.run_dated.dated_text.Goals as goal

pub returns : goal.returns
returns g c =
    let sheet = c.args.sheet in
    let jobs = c.args.instance.now.jobs in
    sheet_drawn c.args.view.now c.args.instance.now sheet _ _
    c.in_ok-schedule.ensures.kept c.in_ok-schedule.ensures.schedule
    (subst (λ ds. IsDatedPicture ds c.args.view.now sheet c.in_ok-picture.field-0.items)
    (c.as_slice.ensures.value ∙ c.in_ok-dates.ensures
    ∙ ap (map (dates_of c.sheet.inside.problem)) c.jobs.ensures.value
    ∙ ap (λ (s : SheetData). dates_in s.problem jobs) c.sheet.view_is)
    (c.in_ok-picture.ensures sheet (sym c.of-heading.ensures)
    c.in_ok-schedule.ensures.kept))
