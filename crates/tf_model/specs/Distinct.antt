-- Lists of jobs in which no job stands twice.
use Rattle.std.specs.Prelude.{ℕ, ◌≤◌, ◌==◌, List}
use Rattle.std.specs.List.{count_by}

abbrev pub IsDistinct : List ℕ → Type 0
IsDistinct jobs = (c : ℕ) → count_by (λ j. c == j) jobs ≤ 1
