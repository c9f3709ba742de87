use Rattle.std.proofs.Common.{◌≡◌, length}
use Rattle.tf_words.specs.Words.{words}
use Rattle.tf_read.specs.JobLine.{fields_at, no_fields}
use Rattle.tf_read.proofs.field.job_of.Given as goal

abbrev pub invariant-loop-word : goal.invariant-loop-word
invariant-loop-word g l =
    fields_at l.line l.fields (words l.rest) ≡ fields_at l.line no_fields (words l.text)

abbrev pub decreases-loop-word : goal.decreases-loop-word
decreases-loop-word g l = length l.rest
