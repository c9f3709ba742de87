use Rattle.std.proofs.Common.{◌≡◌, length}
use Rattle.tf_model.specs.Limit.{most_jobs}
use Rattle.tf_words.specs.Words.{words}
use Rattle.tf_bound_text.specs.BoundReading.{naturals}
use Rattle.tf_bound_text.proofs.Naturals.{with_numbers}
use Rattle.tf_bound_text.proofs.number.jobs_from.Given as goal

-- the numbers so far, and those of the words that are left
abbrev pub invariant-loop-word : goal.invariant-loop-word
invariant-loop-word g l =
    with_numbers l.jobs.items (naturals l.line 1 most_jobs (words l.rest))
    ≡ naturals l.line 1 most_jobs (words l.text)

abbrev pub decreases-loop-word : goal.decreases-loop-word
decreases-loop-word g l = length l.rest
