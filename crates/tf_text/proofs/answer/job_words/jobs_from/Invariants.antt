use Rattle.std.proofs.Common.{◌≡◌, length}
use Rattle.tf_words.specs.Words.{words}
use Rattle.tf_text.specs.AnswerReading.{jobs_from}
use Rattle.tf_text.proofs.Reading.{with_jobs}
use Rattle.tf_text.proofs.answer.job_words.jobs_from.Given as goal

-- the jobs so far, and those of the words that are left
abbrev pub invariant-loop-word : goal.invariant-loop-word
invariant-loop-word g l =
    with_jobs l.jobs.items (jobs_from l.line (words l.rest)) ≡ jobs_from l.line (words l.text)

abbrev pub decreases-loop-word : goal.decreases-loop-word
decreases-loop-word g l = length l.rest
