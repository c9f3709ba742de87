-- The semi-active schedule of an order (Pinedo, chapter 2): each operation starts as soon as its job
-- is released, the operation before it of its job is completed, and its machine has completed the
-- jobs before it. An operation of time 0 has no piece and holds up none.
use Rattle.std.specs.Prelude.{ℕ, zero, suc, ◌+◌, max, min, List, [], ◌∷◌, ◌++◌, slice_index, if◌then◌else◌}
use Rattle.std.specs.List.{fold}
use Rattle.tf_model.specs.Limit.{limit}
use Rattle.tf_model.specs.ClassTable.{is_shop_env}
use Rattle.tf_posed.specs.ProblemData.{ProblemData, problem_job, problem_release, is_job_shop}
use Rattle.tf_schedule.specs.declared.piece.Piece.{Piece}
use Rattle.tf_schedule.specs.Piece.{piece_of}
use Rattle.tf_schedule.specs.SemiActive.{machine_stop}
use Rattle.tf_orders.specs.declared.order.Turn.{Turn}

-- the pieces of a schedule that is laid on so many machines
pub record LayingData : Type 0 where
  pub pieces : List Piece
  pub machines : ℕ

-- behind these pieces, an operation on machine i of a job that is free from `free` on
abbrev pub start_on : List Piece → ℕ → ℕ → ℕ
start_on ps i free = max (machine_stop ps i) free

-- When it is completed. The release dates and the total work of a task are within the limit, so that
-- no time is cut to it.
abbrev pub stop_on : List Piece → ℕ → ℕ → ℕ → ℕ
stop_on ps i free zero = free
stop_on ps i free (suc time) = min (start_on ps i free + suc time) limit

abbrev pub with_operation : List Piece → ℕ → ℕ → ℕ → ℕ → List Piece
with_operation ps j i free zero = ps
with_operation ps j i free (suc time) =
    ps ++ piece_of j i (start_on ps i free) (stop_on ps i free (suc time)) ∷ []

-- the operations of job j one after another, on machine i and the machines behind it
abbrev pub with_job : List Piece → ℕ → ℕ → ℕ → List ℕ → List Piece
with_job ps j i free [] = ps
with_job ps j i free (time ∷ times) =
    with_job (with_operation ps j i free time) j (i + 1) (stop_on ps i free time) times

-- and along a route, where these are the times on the machines, counted from 0
abbrev pub with_route : List Piece → ℕ → ℕ → List ℕ → List ℕ → List Piece
with_route ps j free times [] = ps
with_route ps j free times (a ∷ route) =
    with_route (with_operation ps j (a + 1) free (slice_index times a)) j
    (stop_on ps (a + 1) free (slice_index times a)) times route

-- ---- by a task

-- in a job shop along the job's route
abbrev pub with_turn_of : ProblemData → List Piece → Turn → List Piece
with_turn_of k ps t =
    if is_job_shop k.problem.env
    then with_route ps t.job (problem_release k t.job) (problem_job k t.job).times
    (problem_job k t.job).route
    else with_job ps t.job t.machine (problem_release k t.job) (problem_job k t.job).times

abbrev pub schedule_of : ProblemData → List Turn → List Piece
schedule_of k turns = fold (with_turn_of k) [] turns

-- the machines that have an order of their own
abbrev pub orders_of : ProblemData → ℕ
orders_of k = if is_shop_env k.problem.env then 1 else k.machines
