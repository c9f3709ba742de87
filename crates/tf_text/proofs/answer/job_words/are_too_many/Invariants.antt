use Rattle.std.proofs.Common.{◌≡◌, ◌≤◌, length}
use Rattle.tf_words.specs.Words.{words}
use Rattle.tf_text.specs.AnswerReading.{jobs_from, name_many}
use Rattle.tf_text.proofs.Reading.{with_count}
use Rattle.tf_text.proofs.answer.job_words.are_too_many.Given as goal

-- the jobs so far are counted, up to one more than is allowed
abbrev pub invariant-loop-word : goal.invariant-loop-word
invariant-loop-word l =
    (with_count l.count (jobs_from l.line (words l.rest)) ≡ name_many l.line (words l.text))
    × (l.count ≤ 100001)

abbrev pub decreases-loop-word : goal.decreases-loop-word
decreases-loop-word l = length l.rest
