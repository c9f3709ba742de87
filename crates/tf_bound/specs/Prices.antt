-- The cheapest start of a job of a task, and what prices bound it by.
use Rattle.std.specs.Prelude.{◌≡◌, ℕ, ◌≤◌, Bool, true, false, ℤ, List}
use Rattle.tf_model.specs.declared.problem.Goal.{Goal}
use Rattle.tf_model.specs.declared.problem.Goal.TheVariants as goals
use Rattle.tf_posed.specs.ProblemData.{ProblemData, IsProblemJob, problem_release}
use Rattle.tf_problem.specs.ProblemBounds.{start_price, numerator, AreCheapest, last_within, prices_value, rows_value}

-- the objectives that count late jobs
abbrev pub is_by_unit : Goal → Bool
is_by_unit goals.SumU = true
is_by_unit goals.SumWU = true
is_by_unit _ = false

-- the price is at most what job j costs from any start that matters
abbrev pub IsCheapestFor : ProblemData → ℕ → List ℕ → ℕ → ℕ → Type 0
IsCheapestFor k q prices j price =
    (s : ℕ) → problem_release k j ≤ s → s ≤ last_within k prices j
    → price ≤ start_price k q prices j s

-- the price is what job j costs from one of them
abbrev pub IsPaidFor : ProblemData → ℕ → List ℕ → ℕ → ℕ → Type 0
IsPaidFor k q prices j price =
    (s : ℕ) × (problem_release k j ≤ s) × (s ≤ last_within k prices j)
    × (price ≡ start_price k q prices j s)

-- The number is what the prices bound where no job is preempted: each job at its cheapest start by
-- the horizon, less all prices on each machine, over q.
pub record IsStartsBound (k : ProblemData) (q : ℕ) (prices : List ℕ) (b : ℤ) : Type 0 where
  pub cheapest : List ℕ
  pub least : AreCheapest k q prices cheapest
  pub reached : (j : ℕ) → IsProblemJob k j → IsPaidFor k q prices j (numerator cheapest j)
  pub value : b ≡ prices_value k q prices cheapest

-- where jobs may be preempted, it is what their cheapest rows cost, less all prices on each machine
abbrev pub bound_by_prices : Bool → ProblemData → ℕ → List ℕ → ℤ → Type 0
bound_by_prices true k q prices b = b ≡ rows_value k q prices
bound_by_prices false k q prices b = IsStartsBound k q prices b

-- the number is what the prices bound
abbrev pub IsPricesBound : ProblemData → ℕ → List ℕ → ℤ → Type 0
IsPricesBound k q prices b = bound_by_prices k.problem.prmp k q prices b
