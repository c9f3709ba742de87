use Rattle.std.proofs.Common.{ℕ, List, [], ap, sym, subst, ◌∙◌, ◌-◌, length, append-nil}
use Rattle.tf_words.specs.Words.{lines, kept_lines}
use Rattle.tf_text.specs.AnswerReading.{sheet_of}
use Rattle.tf_text.specs.AnswerReader.{Awaits}
use Rattle.tf_text.proofs.Stages.{all_fed}
use Rattle.tf_text.proofs.answer.reading.read_answer.Goals as goal

pub returns-clause-read : goal.returns-clause-read
returns-clause-read g c =
    let text = c.args.text.now in
    let total = sheet_of (kept_lines 1 (lines text)) in
    all_fed text c.feed.new.self.left _
    (c.feed.ensures.left ∙ ap (λ (n : ℕ). n - length text) c.new-reader.ensures.left)
    c.finish.ensures.too_long
    (λ some. c.finish.ensures.read total some
    (c.feed.ensures.goes_on some [] total
    (subst (λ (t : List ℕ). Awaits c.new-reader.result t total) (sym (append-nil text))
    (c.new-reader.ensures.awaits text))))
