use Rattle.std.proofs.Common.{◌≡◌, ◌++◌, map, take}
use Rattle.std.specs.List.{flat_map}
use Rattle.tf_text.specs.AnswerText.{line_text}
use Rattle.tf_evaluate.specs.EvaluationText.{step_words}
use Rattle.tf_evaluate.proofs.writing.push_steps.Given as goal

abbrev pub invariant-loop-step : goal.invariant-loop-step
invariant-loop-step g l = l.text.items
    ≡ l.initial.text.items ++ flat_map line_text (map step_words (take l.step-index l.steps))
