-- Shops with two machines, which count from 1: the operations of a job.
use Rattle.std.specs.Prelude.{ℕ, ◌-◌, Bool, List, [], ◌∷◌, ◌++◌, map, if◌then◌else◌}
use Rattle.tf_model.specs.SchedulingTask.{SchedulingTask, time_on}
use Rattle.tf_schedule.specs.declared.semi_active.Operation.{Operation}

-- the time of a job on a machine
abbrev pub time_at : SchedulingTask → ℕ → ℕ → ℕ
time_at task j i = time_on task j (i - 1)

-- machine 1 and then machine 2, or the other way
abbrev pub first_machine : Bool → ℕ
first_machine forward = if forward then 1 else 2

abbrev pub second_machine : Bool → ℕ
second_machine forward = if forward then 2 else 1

-- job j of the times f on machine i
abbrev pub operation_of : (ℕ → ℕ → ℕ) → ℕ → ℕ → Operation
operation_of f j i = record { job = j; machine = i; time = f j i }

-- the jobs one after another, each on machine x and then on machine y
abbrev pub routed : (ℕ → ℕ → ℕ) → ℕ → ℕ → List ℕ → List Operation
routed f x y [] = []
routed f x y (j ∷ js) = operation_of f j x ∷ operation_of f j y ∷ routed f x y js

-- the jobs one after another on machine i
abbrev pub on_machine : (ℕ → ℕ → ℕ) → ℕ → List ℕ → List Operation
on_machine f i js = map (λ j. operation_of f j i) js

-- all jobs on machine 1, and then all of them on machine 2
abbrev pub in_line : (ℕ → ℕ → ℕ) → List ℕ → List Operation
in_line f js = on_machine f 1 js ++ on_machine f 2 js
