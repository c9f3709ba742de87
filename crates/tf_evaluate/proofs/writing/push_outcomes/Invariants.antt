use Rattle.std.proofs.Common.{◌≡◌, ◌++◌, map, take}
use Rattle.std.specs.List.{flat_map}
use Rattle.tf_text.specs.AnswerText.{line_text}
use Rattle.tf_evaluate.specs.EvaluationText.{outcome_words}
use Rattle.tf_evaluate.proofs.writing.push_outcomes.Given as goal

abbrev pub invariant-loop-outcome : goal.invariant-loop-outcome
invariant-loop-outcome g l = l.text.items
    ≡ l.initial.text.items ++ flat_map line_text (map outcome_words (take l.outcome-index l.outcomes))
