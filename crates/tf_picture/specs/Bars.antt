-- The bars of a schedule: the fill of each piece, which is not that of the bar before it on its
-- machine unless both are of one job.
use Rattle.std.specs.Prelude.{◌≡◌, ℕ, ◌+◌, ◌%◌, Bool, true, false, not, ◌==◌, ◌&&◌, if◌then◌else◌, Option, Some, None, List, [], ◌∷◌}
use Rattle.tf_schedule.specs.declared.piece.Piece.{Piece}
use Rattle.tf_picture.specs.declared.bars.Bar.{Bar}

-- the bar is on the piece's machine and has this fill
abbrev pub has_fill : Option Bar → Piece → ℕ → Bool
has_fill None p fill = false
has_fill (Some b) p fill = (b.piece.machine == p.machine) && (b.fill == fill)

-- the same, and it is of another job
abbrev pub is_taken : Option Bar → Piece → ℕ → Bool
is_taken None p fill = false
is_taken (Some b) p fill = has_fill (Some b) p fill && not (b.piece.job == p.job)

-- the fill of a piece goes by the number of its job; where the bar before has it, another one
abbrev pub fill_of : Option Bar → Piece → ℕ
fill_of before p =
    if is_taken before p (p.job % 11) then (p.job % 11 + 5) % 11 else p.job % 11

abbrev pub bar_of : Option Bar → Piece → Bar
bar_of before p = record {
  piece = p;
  fill = fill_of before p;
  edged = has_fill before p (fill_of before p);
}

-- a bar has not the fill of the one before, where they are on one machine and of two jobs
abbrev pub IsApart : Bar → Bar → Type 0
IsApart b before =
    before.piece.machine ≡ b.piece.machine → b.fill ≡ before.fill
    → before.piece.job ≡ b.piece.job

-- the bars of pieces by machine and start
abbrev pub bars_of : Option Bar → List Piece → List Bar
bars_of before [] = []
bars_of before (p ∷ ps) = bar_of before p ∷ bars_of (Some (bar_of before p)) ps
