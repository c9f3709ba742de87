use Rattle.std.proofs.Common.{◌≡◌, ◌∷◌, ◌++◌, length}
use Rattle.std.specs.List.{flat_map}
use Rattle.tf_text.specs.JobWords.{runs, run_words}
use Rattle.tf_text.proofs.answer.writing.push_runs.Given as goal

-- the runs so far are written
abbrev pub invariant-loop-run : goal.invariant-loop-run
invariant-loop-run g l =
    l.text.items ++ flat_map (λ word. 32 ∷ word) (flat_map run_words (runs l.rest))
    ≡ l.fn.text.items ++ flat_map (λ word. 32 ∷ word) (flat_map run_words (runs l.jobs))

abbrev pub decreases-loop-run : goal.decreases-loop-run
decreases-loop-run g l = length l.rest
