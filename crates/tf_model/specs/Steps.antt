-- A cost that steps up: the base before the first step, then the value of the last step whose time
-- has come.
use Rattle.std.specs.Prelude.{ℕ, ℤ, pos, List, [], if◌then◌else◌, int_le}
use Rattle.std.specs.List.{fold}

pub record Steps : Type 0 where
  pub base : ℤ
  pub steps : List (ℤ × ℤ)  -- each a time and a value

-- no cost at all
abbrev pub no_steps : Steps
no_steps = record { base = pos 0; steps = [] }

-- what completing at time c costs
abbrev pub step_value : Steps → ℕ → ℤ
step_value s c = fold (λ v step. if int_le step.0 (pos c) then step.1 else v) s.base s.steps
