use Rattle.std.proofs.Common.{◌≡◌, Bool, true, false, Ok, ap, ◌∙◌}
use Rattle.std.proofs.lemmas.Result.{err_from_is_err_and}
use Rattle.tf_words.specs.Words.{words}
use Rattle.tf_text.specs.AnswerReading.{name_many}
use Rattle.tf_text.proofs.Reading.{listed_one, listed_many, listed_few, listed_fails}
use Rattle.tf_text.proofs.answer.job_words.jobs_listed.Goals as goal

pub returns-in-One : goal.returns-in-One
returns-in-One g c =
    let same = listed_one c.args.line (words c.args.text.now) in
    rw (c.in-One.is, same) c.jobs_from.ensures

pub returns-in_err-are_too_many-in-Two : goal.returns-in_err-are_too_many-in-Two
returns-in_err-are_too_many-in-Two g c =
    let p = err_from_is_err_and c.from_residual.result c.from_residual.ensures.1 in
    rw (c.in-Two.is, p.1, p.2)
    (listed_fails c.args.line (words c.args.text.now) _ c.in_err-are_too_many-in-Two.ensures)

pub returns-then-branch : goal.returns-then-branch
returns-then-branch g c =
    let many : name_many c.args.line (words c.args.text.now) ≡ Ok true =
    c.in_ok-are_too_many-in-Two.ensures ∙ ap (λ (b : Bool). Ok b) c.if-branch.true in
    rw c.in-Two.is (listed_many c.args.line (words c.args.text.now) many)

pub returns-else-branch : goal.returns-else-branch
returns-else-branch g c =
    let not_many : name_many c.args.line (words c.args.text.now) ≡ Ok false =
    c.in_ok-are_too_many-in-Two.ensures ∙ ap (λ (b : Bool). Ok b) c.if-branch.false in
    let same = listed_few c.args.line (words c.args.text.now) not_many in
    rw (c.in-Two.is, same) c.jobs_from-in-Two.ensures
