-- How long the pieces of a job are, and where they begin and end.
use Rattle.std.specs.List.{sum_by}
use Rattle.std.specs.Prelude.{List, [], filter, if◌then◌else◌, max, min, ℕ, ◌&&◌, ◌==◌, ◌∷◌}
use Rattle.tf_model.specs.Limit.{limit}
use Rattle.tf_schedule.specs.Drawing.{duration, stop_of}
use Rattle.tf_schedule.specs.Piece.{as_time}
use Rattle.tf_schedule.specs.declared.piece.Piece.{Piece}

-- how long the pieces of job j are on machine i, counted from 1, and on all machines
abbrev pub work_on : List Piece → ℕ → ℕ → ℕ
work_on ps j i = sum_by (λ p. if (p.job == j) && (p.machine == i) then duration p else 0) ps

abbrev pub work : List Piece → ℕ → ℕ
work ps j = sum_by (λ p. if p.job == j then duration p else 0) ps

-- the pieces on machine i
abbrev pub pieces_on : ℕ → List Piece → List Piece
pieces_on i ps = filter (λ p. p.machine == i) ps

-- the greatest and the least that f gives at the pieces of job j: 0 and the limit where it has none
abbrev pub greatest_by : (Piece → ℕ) → List Piece → ℕ → ℕ
greatest_by f [] j = 0
greatest_by f (p ∷ ps) j = if p.job == j then max (f p) (greatest_by f ps j) else greatest_by f ps j

abbrev pub least_by : (Piece → ℕ) → List Piece → ℕ → ℕ
least_by f [] j = limit
least_by f (p ∷ ps) j = if p.job == j then min (f p) (least_by f ps j) else least_by f ps j

abbrev pub start_of : Piece → ℕ
start_of p = as_time p.start

-- the greatest stop of the pieces of job j, 0 where it has none
abbrev pub last_stop : List Piece → ℕ → ℕ
last_stop = greatest_by stop_of
