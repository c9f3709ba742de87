-- McNaughton's wrap-around rule: jobs that fill the machines one after another, each up to one time.
use Rattle.std.specs.Prelude.{◌≡◌, ℕ, ◌+◌, ◌-◌, ℤ, pos, nat_le, List, [], ◌∷◌, if◌then◌else◌}
use Rattle.tf_model.specs.SchedulingTask.{SchedulingTask, all_jobs, time_of}
use Rattle.tf_schedule.specs.declared.piece.Piece.{Piece}
use Rattle.tf_schedule.specs.Piece.{piece_of}

-- the pieces of jobs of the times f, where the machines are filled up to v, and machine i is so up to
-- t; what does not fit on it starts the next one at time 0
abbrev pub wrapped : ℕ → (ℕ → ℕ) → ℕ → ℕ → List ℕ → List Piece
wrapped v f i t [] = []
wrapped v f i t (j ∷ js) =
    if nat_le v t then piece_of j (i + 1) 0 (f j) ∷ wrapped v f (i + 1) (f j) js
    else (if nat_le (f j) (v - t) then piece_of j i t (t + f j) ∷ wrapped v f i (t + f j) js
    else piece_of j i t v ∷ piece_of j (i + 1) 0 (f j - (v - t))
    ∷ wrapped v f (i + 1) (f j - (v - t)) js)

-- the pieces are those of all jobs by number, with the value for the length
pub record AreWrapped (k : SchedulingTask) (pieces : List Piece) (value : ℤ) : Type 0 where
  pub length : ℕ
  pub is_value : value ≡ pos length
  pub are : pieces ≡ wrapped length (time_of k) 1 0 (all_jobs k)
