-- Why a task is not solved.
use Rattle.std.specs.Prelude.{ℕ, List}
use Rattle.tf_model.specs.SchedulingTask.{SchedulingTask}
use Rattle.tf_model.specs.Cycle.{IsForbiddingCycle}
use Rattle.tf_single.specs.FirstCycle.{IsEndless, IsFirstCycle}
use Rattle.tf_single.specs.declared.lawler_fault.LawlerFault.{LawlerFault}
use Rattle.tf_single.specs.declared.lawler_fault.LawlerFault.TheVariants.{Cycle, OutOfMemory}

-- The jobs are a cycle of the arcs, so that no timetable fits. Of several cycles it is the one that
-- a walk among the jobs from which arcs lead on without end comes to first.
pub record IsNamedCycle (k : SchedulingTask) (jobs : List ℕ) : Type 0 where
  pub forbids : IsForbiddingCycle k jobs
  pub first : IsFirstCycle k (IsEndless k) jobs

-- a cycle is named by the jobs of the first
abbrev pub IsNotSolved : {A : Type 0} → SchedulingTask → LawlerFault A → Type 0
IsNotSolved k (Cycle jobs) = IsNamedCycle k jobs
IsNotSolved k OutOfMemory = Unit {0}
