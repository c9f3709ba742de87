-- What a certificate claims, and what an answer says, whatever memory holds them.
use Rattle.std.specs.Prelude.{ℕ, ℤ, List, Bool}
use Rattle.tf_schedule.specs.declared.piece.Piece.{Piece}

-- a certificate's kind with its jobs and numbers; jobs and machines are numbered from 1
pub data Claim : Type 0 where
  ByPairs : Claim
  ByLastOf : List ℕ → Claim  -- the jobs
  ByWindow : List ℕ → Claim  -- the jobs
  BySplit : List ℕ → ℤ → Bool → Claim  -- the side, delta, first
  ByLoad : Claim
  ByMachine : ℕ → Claim
  ByOneJob : ℕ → Claim
  ByRanks : List ℕ → Claim  -- the jobs

pub record AnswerData : Type 0 where
  pub pieces : List Piece
  pub value : ℤ
  pub certificate : Claim

-- an answer by its parts
abbrev pub answer_of : List Piece → ℤ → Claim → AnswerData
answer_of pieces value claim =
    record { pieces = pieces; value = value; certificate = claim }
