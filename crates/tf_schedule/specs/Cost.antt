-- What a schedule costs: pieces that name no job or no machine of the task are left out.
use Rattle.std.specs.Prelude.{ℤ, ◌&&◌, Bool, nat_lt, nat_le, List, length, filter}
use Rattle.tf_model.specs.SchedulingTask.{SchedulingTask}
use Rattle.tf_model.specs.Cost.{cost}
use Rattle.tf_schedule.specs.declared.piece.Piece.{Piece}
use Rattle.tf_schedule.specs.Drawing.{drawing}

-- whether the piece names a job and a machine of the task
abbrev pub is_known : SchedulingTask → Piece → Bool
is_known k p =
    (nat_lt 0 p.job && nat_le p.job (length k.jobs))
    && (nat_lt 0 p.machine && nat_le p.machine k.machines)

-- the pieces that do
abbrev pub known_pieces : SchedulingTask → List Piece → List Piece
known_pieces k ps = filter (is_known k) ps

-- what the timetable costs that they draw
abbrev pub schedule_cost : SchedulingTask → List Piece → ℤ
schedule_cost k ps = cost k (drawing k.machines (known_pieces k ps))
