use Rattle.std.proofs.Common.{ℕ, List, [], ◌-◌, length, ap, sym, subst, ◌∙◌, append-nil}
use Rattle.tf_words.specs.Words.{lines, kept_lines}
use Rattle.tf_text.specs.AnswerReading.{sheet_of}
use Rattle.tf_text.specs.AnswerReader.{Awaits}
use Rattle.tf_engine.specs.Parts.{ReadsSheet}
use Rattle.tf_engine.proofs.SheetRead.{sheet_failing, sheet_said, sheet_refused}
use Rattle.tf_engine.proofs.Unread.{err_is}
use Rattle.tf_engine.proofs.sheet_read.sheet_read.Goals as goal

pub returns-in_err-drain-clause-read : goal.returns-in_err-drain-clause-read
returns-in_err-drain-clause-read g c =
    let taken = c.drain.ensures.taken in
    err_is (ReadsSheet _ _ _) _ _ c.from_residual.ensures.1
    (sheet_failing g.row.A.Denot _ _ _ _ c.drain.ensures.counted c.in_err-drain.ensures.device
    (taken.bytes, taken.at_most, taken.given))

pub returns-in_err-finish-clause-read : goal.returns-in_err-finish-clause-read
returns-in_err-finish-clause-read g c =
    let taken = c.in_ok-drain.ensures.taken in
    let total = sheet_of (kept_lines 1 (lines taken.bytes)) in
    err_is (ReadsSheet _ _ _) _ _ c.from_residual-in_err-finish.ensures.1
    (sheet_refused g.row.A.Denot _ _ _ _ c.drain.ensures.counted c.in_ok-drain.ensures.unfailed
    taken.bytes taken.at_most taken.given taken.ended c.drain.new.into.left
    c.in_err-finish.field-0.0
    (taken.taken.left ∙ ap (λ (n : ℕ). n - length taken.bytes) c.new-reading.ensures.left)
    c.in_err-finish.ensures.too_long
    (λ some. c.in_err-finish.ensures.read total some
    (taken.taken.goes_on some [] total
    (subst (λ (t : List ℕ). Awaits c.new-reading.result t total) (sym (append-nil taken.bytes))
    (c.new-reading.ensures.awaits taken.bytes)))))

pub returns-clause-read : goal.returns-clause-read
returns-clause-read g c =
    let taken = c.in_ok-drain.ensures.taken in
    let total = sheet_of (kept_lines 1 (lines taken.bytes)) in
    sheet_said g.row.A.Denot _ _ _ _ c.drain.ensures.counted c.in_ok-drain.ensures.unfailed
    taken.bytes taken.at_most taken.given taken.ended c.drain.new.into.left
    c.in_ok-finish.field-0
    (taken.taken.left ∙ ap (λ (n : ℕ). n - length taken.bytes) c.new-reading.ensures.left)
    c.in_ok-finish.ensures.too_long
    (λ some. c.in_ok-finish.ensures.read total some
    (taken.taken.goes_on some [] total
    (subst (λ (t : List ℕ). Awaits c.new-reading.result t total) (sym (append-nil taken.bytes))
    (c.new-reading.ensures.awaits taken.bytes))))
