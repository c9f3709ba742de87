-- An order of the operations of a job shop (the permutation with repetition of Bierwirth 1995) names each
-- job as often as its route has operations, and each time it is the next operation of the job. In its
-- semi-active schedule each operation starts as soon as its job is released, the operation before it of
-- its job is completed, and its machine has completed the operations before it in the order.
use Rattle.std.specs.Prelude.{◌≡◌, ℕ, ◌+◌, ◌<◌, ◌≤◌, ◌==◌, max, List, [], ◌∷◌, ◌++◌, length, slice_index, Some, IsTrue}
use Rattle.std.specs.List.{All, count_by}
use Rattle.tf_words.specs.Words.{words}
use Rattle.tf_model.specs.Limit.{limit}
use Rattle.tf_posed.specs.ProblemData.{ProblemData, IsProblemJob, problem_release, problem_time_on, is_job_shop}
use Rattle.tf_bound.specs.Steps.{steps_of}
use Rattle.tf_schedule.specs.declared.piece.Piece.{Piece}
use Rattle.tf_schedule.specs.SemiActive.{job_stop}
use Rattle.tf_orders.specs.declared.flaw.Flaw.{Flaw}
use Rattle.tf_orders.specs.declared.flaw.Flaw.TheVariants.{Word, Lists, Twice, Missing, Seldom, Often}
use Rattle.tf_orders.specs.declared.flaw.Named.TheVariants.{Job}
use Rattle.tf_orders.specs.declared.order.Turn.{Turn}
use Rattle.tf_orders.specs.Laying.{with_operation}
use Rattle.tf_orders.specs.Orders.{turns_from, times_named, IsFlaw}

-- how many of the turns are of job j
abbrev pub turns_of : ℕ → List Turn → ℕ
turns_of j turns = count_by (λ t. t.job == j) turns

-- the text says these turns, and each job has as many of them as operations
pub record IsOperationOrder (k : ProblemData) (text : List ℕ) (turns : List Turn) : Type 0 where
  pub shop : IsTrue (is_job_shop k.problem.env)
  pub says : turns_from (length k.jobs) 1 1 (words text) ≡ Some turns
  pub all : (j : ℕ) → IsProblemJob k j → turns_of j turns ≡ length (steps_of k j)

-- it says no order of operations
abbrev pub IsNoOperationOrder : ProblemData → List ℕ → Type 0
IsNoOperationOrder k text = (turns : List Turn) → ¬ (IsOperationOrder k text turns)

-- ---- the schedule

-- from when on job j is free, behind these pieces
abbrev pub free_from : ProblemData → List Piece → ℕ → ℕ
free_from k ps j = max (problem_release k j) (job_stop ps j)

-- the machine of the next operation of job j after these turns, counted from 0
abbrev pub next_machine : ProblemData → List Turn → ℕ → ℕ
next_machine k seen j = slice_index (steps_of k j) (turns_of j seen)

-- with the operation of one more turn
abbrev pub with_next : ProblemData → List Turn → List Piece → Turn → List Piece
with_next k seen ps t =
    with_operation ps t.job (next_machine k seen t.job + 1) (free_from k ps t.job)
    (problem_time_on k t.job (next_machine k seen t.job))

-- with those of more turns
abbrev pub with_operations : ProblemData → List Turn → List Piece → List Turn → List Piece
with_operations k seen ps [] = ps
with_operations k seen ps (t ∷ more) =
    with_operations k (seen ++ t ∷ []) (with_next k seen ps t) more

abbrev pub operation_schedule_of : ProblemData → List Turn → List Piece
operation_schedule_of k turns = with_operations k [] [] turns

-- ---- what is wrong with a text that says no order in a job shop

-- Beside what is wrong with an order of jobs: a job that is named, but not as often as it has
-- operations, or more often.
abbrev pub IsOperationFlaw : ProblemData → List ℕ → Flaw → Type 0
IsOperationFlaw k text (Seldom j) =
    IsProblemJob k j × (times_named (length k.jobs) (Job j) text < length (steps_of k j))
IsOperationFlaw k text (Often j) =
    IsProblemJob k j × (length (steps_of k j) < times_named (length k.jobs) (Job j) text)
IsOperationFlaw k text (Word place) = IsFlaw (length k.jobs) 1 text (Word place)
IsOperationFlaw k text Lists = IsFlaw (length k.jobs) 1 text Lists
IsOperationFlaw k text (Twice j) = IsFlaw (length k.jobs) 1 text (Twice j)
IsOperationFlaw k text (Missing j) = IsFlaw (length k.jobs) 1 text (Missing j)

-- ---- within the crate

-- how often each of the jobs 1 to n stands in the turns
pub record AreNamed (n : ℕ) (named : List ℕ) (turns : List Turn) : Type 0 where
  pub len : length named ≡ n
  pub counts : (k : ℕ) → k < n → slice_index named k ≡ turns_of (k + 1) turns

-- from when on each job of the task is free, behind these pieces
pub record AreFree (k : ProblemData) (ps : List Piece) (free : List ℕ) : Type 0 where
  pub len : length free ≡ length k.jobs
  pub from : (i : ℕ) → i < length k.jobs → slice_index free i ≡ free_from k ps (i + 1)
  pub small : All (λ time. time ≤ limit) free
