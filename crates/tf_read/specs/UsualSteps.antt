-- Steps of a cost in their usual form.
use Rattle.std.specs.Prelude.{◌≡◌, ℕ, true, List, ◌∷◌, Ok, ℤ}
use Rattle.std.specs.List.{list_all}
use Rattle.tf_words.specs.WordParts.{later_parts}
use Rattle.tf_read.specs.CostField.{is_step, step_at, steps_at}

-- the first of the parts of a text is this step, and others follow it
pub record BeginsWithStep (text : List ℕ) (step : ℤ × ℤ) (others : List ℕ) : Type 0 where
  pub part : List ℕ
  pub is : later_parts text ≡ part ∷ later_parts others
  pub form : is_step part ≡ true
  pub read : (line : ℕ) → step_at line part ≡ Ok step

-- the parts of a text are these steps
pub record AreSteps (text : List ℕ) (steps : List (ℤ × ℤ)) : Type 0 where
  pub form : list_all is_step (later_parts text) ≡ true
  pub read : (line : ℕ) → steps_at line (later_parts text) ≡ Ok steps
