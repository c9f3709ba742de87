-- How long before a time a cost is the same.
use Rattle.std.specs.Prelude.{◌≡◌, ℕ, ℤ, pos, ◌≤ℤ◌}
use Rattle.tf_model.specs.declared.cost.Level.{Level}

-- from the level's first time on up to c the cost is the level's value
pub record IsLevel (cost_at : ℕ → ℤ) (c : ℤ) (level : Level) : Type 0 where
  pub reached : level.since ≤ℤ c
  pub same : (e : ℕ) → level.since ≤ℤ pos e → pos e ≤ℤ c → cost_at e ≡ level.value
