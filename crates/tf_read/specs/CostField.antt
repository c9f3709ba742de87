-- The value of `h`: a base, and then any number of steps `,time:value`.
use Rattle.std.specs.Prelude.{ℕ, Bool, false, not, List, [], ◌∷◌, Option, Some, None, Result, Ok, Err, ℤ, is_some, if◌then◌else◌}
use Rattle.std.specs.List.{list_all}
use Rattle.std.specs.Option.{option_map}
use Rattle.tf_words.specs.Number.{number}
use Rattle.tf_model.specs.Steps.{Steps}
use Rattle.tf_model.specs.StepFaults.{steps_fault}
use Rattle.tf_read.specs.declared.fault.ReadFault.{ReadFault}
use Rattle.tf_read.specs.declared.fault.ReadFault.TheVariants.{BadLine, BadCost}
use Rattle.tf_model.specs.Outcome.{◌>>=◌, unless}
use Rattle.tf_read.specs.Faults.{each_from, natural, integer}
use Rattle.tf_words.specs.WordParts.{divided, parts}

-- a time and a value, with exactly one ':' between them
abbrev pub is_pair : Option (List ℕ × List ℕ) → Bool
is_pair None = false
is_pair (Some sides) = not (is_some (divided 58 sides.1))

abbrev pub is_step : List ℕ → Bool
is_step part = is_pair (divided 58 part)

abbrev pub step_in : ℕ → Option (List ℕ × List ℕ) → Result (ℤ × ℤ) ReadFault
step_in line None = Err (BadLine line)
step_in line (Some sides) =
    natural line (number sides.0) >>= λ time. integer line (number sides.1)
    >>= λ value. Ok (time, value)

unfoldable pub step_at : ℕ → List ℕ → Result (ℤ × ℤ) ReadFault
step_at line part = step_in line (divided 58 part)

-- the steps from left to right
abbrev pub steps_at : ℕ → List (List ℕ) → Result (List (ℤ × ℤ)) ReadFault
steps_at line steps = each_from (λ k. step_at line) 1 steps

-- the cost, unless its times do not rise or its values fall
abbrev pub rising : ℕ → Steps → Result Steps ReadFault
rising line steps = unless (option_map (λ fault. BadCost line) (steps_fault steps)) (Ok steps)

-- the form of all steps, then the numbers from left to right, then whether the cost rises
abbrev pub cost_of : ℕ → List (List ℕ) → Result Steps ReadFault
cost_of line [] = Err (BadLine line)
cost_of line (first ∷ more) =
    if not (list_all is_step more) then Err (BadLine line)
    else (integer line (number first) >>= λ base. steps_at line more
    >>= λ steps. rising line (record { base = base; steps = steps }))

unfoldable pub cost_at : ℕ → List ℕ → Result Steps ReadFault
cost_at line value = cost_of line (parts value)
