-- The problem that a text means. A fault is the offset of the first token that is not expected at
-- its place, or the length of the text where the text ends too early.
use Rattle.std.specs.Prelude.{◌≡◌, ℕ, List, [], ◌∷◌, length, Option, Some, Result, Ok, Err, codes, if◌then◌else◌}
use Rattle.std.specs.Option.{option_map_or}
use Rattle.std.specs.Str.{bytes_eq}
use Rattle.tf_model.specs.Outcome
use Rattle.tf_model.specs.Outcome.{◌>>=◌}
use Rattle.tf_model.specs.declared.problem.Env.{Env}
use Rattle.tf_model.specs.declared.problem.Goal.{Goal}
use Rattle.tf_model.specs.declared.problem.Problem.{Problem}
use Rattle.tf_notation.specs.declared.reading.NotationFault.{NotationFault}
use Rattle.tf_notation.specs.Spelling.{meaning, environment, goals, dividers, no_conditions, adds}
use Rattle.tf_notation.specs.Tokens.{Token, tokens_from}

-- what a function returned, seen by view, is what reading gives
abbrev pub Gives : {X Y : Type 0} → (X → Y) → Result X NotationFault → Result Y ℕ → Type 0
Gives = Outcome.Gives (λ (e : NotationFault). Some e.byte)

-- a token that is expected, as what it means: its meaning, and the tokens after it
unfoldable pub expect : {A : Type 0} → (List ℕ → Option A) → ℕ → List Token
    → Result (A × List Token) ℕ
expect means end [] = Err end
expect means end (t ∷ ts) = option_map_or (λ x. Ok (x, ts)) (means t.bytes) (Err t.start)

unfoldable mutual
  -- a condition that was not named before, and what stands behind it
  pub listed : ℕ → Problem → List Token → Result (Problem × List Token) ℕ
  listed end named [] = Err end
  listed end named (t ∷ ts) =
      option_map_or (λ more. behind_condition end more ts) (adds named t.bytes) (Err t.start)

  -- a ',' and more conditions, or the '|' that ends them
  pub behind_condition : ℕ → Problem → List Token → Result (Problem × List Token) ℕ
  behind_condition end named [] = Err end
  behind_condition end named (t ∷ ts) =
      option_map_or (λ another. if another then listed end named ts else Ok (named, ts))
      (meaning dividers t.bytes) (Err t.start)

-- nothing more
abbrev pub ended : {A : Type 0} → A → List Token → Result A ℕ
ended x [] = Ok x
ended x (t ∷ ts) = Err t.start

-- a '|', or conditions up to their '|'
unfoldable pub conditions_at : ℕ → List Token → Result (Problem × List Token) ℕ
conditions_at end [] = Err end
conditions_at end (t ∷ ts) =
    if bytes_eq t.bytes (codes "|") then Ok (no_conditions, ts)
    else listed end no_conditions (t ∷ ts)

-- a problem by its three fields, of which the second is that of `named`
abbrev pub problem_of : Env × Option ℕ → Problem → Goal → Problem
problem_of env named goal = record named { env = env.0; count = env.1; goal = goal }

-- the divider of fields
abbrev pub bar : List (List ℕ × Unit {0})
bar = (codes "|", tt) ∷ []

-- an environment, a '|', conditions up to their '|', an objective, and nothing more
unfoldable pub notation : List ℕ → Result Problem ℕ
notation text = do
  (env, rest) ← expect environment (length text) (tokens_from 0 text)
  (_, rest) ← expect (meaning bar) (length text) rest
  (named, rest) ← conditions_at (length text) rest
  (goal, rest) ← expect (meaning goals) (length text) rest
  ended (problem_of env named goal) rest

-- a problem that some text means
abbrev pub IsRead : Problem → Type 0
IsRead problem = (text : List ℕ) × (notation text ≡ Ok problem)
