-- Jobs that are dealt to machines in turn. f gives the times of the jobs.
use Rattle.std.specs.Prelude.{List, [], ℕ, zero, suc, ◌-◌, ◌∷◌, ◌++◌, ◌≡◌, ◌≢◌, map}
use Rattle.std.specs.List.{All, AllPairs}
use Rattle.tf_schedule.specs.declared.piece.Piece.{Piece}
use Rattle.tf_schedule.specs.declared.semi_active.Operation.{Operation}
use Rattle.tf_schedule.specs.SemiActive.{machine_stop, job_stop}

-- what one of m machines gets in turn, where d others come first
abbrev pub turns : {X : Type 0} → ℕ → ℕ → List X → List X
turns m d [] = []
turns m zero (x ∷ xs) = x ∷ turns m (m - 1) xs
turns m (suc d) (x ∷ xs) = turns m d xs

-- job j on machine i
abbrev pub run_on : (ℕ → ℕ) → ℕ → ℕ → Operation
run_on f i j = record { job = j; machine = i; time = f j }

-- the jobs of one of m machines, where i others come first
abbrev pub share : (ℕ → ℕ) → ℕ → ℕ → List ℕ → List Operation
share f m i js = map (run_on f (suc i)) (turns m i js)

-- the jobs of the first c of m machines, one machine after another
abbrev pub dealt : (ℕ → ℕ) → ℕ → ℕ → List ℕ → List Operation
dealt f m zero js = []
dealt f m (suc c) js = dealt f m c js ++ share f m c js

-- machine i has no piece, and neither have the jobs, which are different ones
pub record AreFree (ps : List Piece) (i : ℕ) (js : List ℕ) : Type 0 where
  pub machine : machine_stop ps i ≡ 0
  pub jobs : All (λ j. job_stop ps j ≡ 0) js
  pub apart : AllPairs (λ a b. a ≢ b) js
