use Rattle.std.proofs.Common.{◌≡◌, ◌+◌, ℕ, length, vec_len}
use Rattle.std.specs.List.{list_all}
use Rattle.tf_read.specs.Faults.{each_from}
use Rattle.tf_words.specs.WordParts.{later_parts}
use Rattle.tf_read.specs.CostField.{is_step, step_at, steps_at}
use Rattle.tf_read.proofs.Each.{with_front}
use Rattle.tf_read.proofs.cost_field.usual_steps.Given as goal

-- the steps so far, and those of the parts that are left
abbrev pub invariant-loop-rest : goal.invariant-loop-rest
invariant-loop-rest g l = record {
  form : list_all is_step (later_parts l.rest) ≡ list_all is_step (later_parts l.text);
  read : (line : ℕ) → with_front l.steps.items
      (each_from (λ k. step_at line) (vec_len l.steps + 1) (later_parts l.rest))
      ≡ steps_at line (later_parts l.text);
}

abbrev pub decreases-loop-rest : goal.decreases-loop-rest
decreases-loop-rest g l = length l.rest
