-- The order of Gonzalez and Sahni's rule for two machines. Machines count from 1.
use Rattle.std.specs.Prelude.{◌≡◌, ℕ, zero, suc, ◌+◌, ◌≤◌, ◌<◌, ◌==◌, min, max, Bool, not, ◌&&◌, ◌||◌, nat_le, nat_lt, List, [], ◌∷◌, ◌++◌, filter, if◌then◌else◌}
use Rattle.tf_model.specs.SchedulingTask.{SchedulingTask, IsJob, all_jobs, time_of}
use Rattle.std.specs.List.{sum_by}
use Rattle.std.specs.List.Sorted.{IsPermutation}
use Rattle.tf_schedule.specs.declared.piece.Piece.{Piece}
use Rattle.tf_schedule.specs.declared.semi_active.Operation.{Operation}
use Rattle.tf_schedule.specs.SemiActive.{laid}
use Rattle.tf_check.specs.Claim.{Claim, ByMachine, ByOneJob}
use Rattle.tf_multi.specs.Longest.{IsFirstLongest}
use Rattle.tf_multi.specs.TwoMachines.{time_at, first_machine, second_machine, operation_of, routed}

-- the job is no longer on machine 1 than on machine 2
abbrev pub is_early : SchedulingTask → ℕ → Bool
is_early task j = nat_le (time_at task j 1) (time_at task j 2)

-- the lesser of the job's two times
abbrev pub lesser_time : SchedulingTask → ℕ → ℕ
lesser_time task j = min (time_at task j 1) (time_at task j 2)

-- no job has a greater lesser time; of those that have the same it is an early one, if there is one,
-- and the first of these
pub record IsLeader (task : SchedulingTask) (r : ℕ) : Type 0 where
  pub job : IsJob task r
  pub most : (j : ℕ) → IsJob task j → lesser_time task j ≤ lesser_time task r
  pub early : (j : ℕ) → IsJob task j → lesser_time task j ≡ lesser_time task r
      → time_at task j 1 ≤ time_at task j 2 → time_at task r 1 ≤ time_at task r 2
  pub first : (j : ℕ) → IsJob task j → j < r → lesser_time task j ≡ lesser_time task r
      → (time_at task j 2 < time_at task j 1) × (time_at task r 1 ≤ time_at task r 2)

-- a job of the times a and b goes ahead of an earlier one of c and d: its lesser time is greater, or
-- the same where it alone is early
abbrev pub goes_ahead : ℕ → ℕ → ℕ → ℕ → Bool
goes_ahead a b c d =
    nat_lt (min c d) (min a b) || ((min a b == min c d) && (nat_le a b && nat_lt d c))

-- another job than r, early or not early
abbrev pub is_in_group : SchedulingTask → ℕ → Bool → ℕ → Bool
is_in_group task r early j =
    not (j == r) && (if early then is_early task j else not (is_early task j))

-- the jobs, each on machine x and then on machine y, between job r on machine y and on machine x
abbrev pub enclosed : (ℕ → ℕ → ℕ) → ℕ → ℕ → ℕ → List ℕ → List Operation
enclosed f x y r js = operation_of f r y ∷ (routed f x y js ++ operation_of f r x ∷ [])

-- the jobs other than r in groups: those of the kind of r, and the others
abbrev pub followers : SchedulingTask → ℕ → Bool → List ℕ
followers task r early =
    filter (is_in_group task r early) (all_jobs task)
    ++ filter (is_in_group task r (not early)) (all_jobs task)

-- when an operation of time t is over that starts at s, 0 where it takes no time
abbrev pub over_at : ℕ → ℕ → ℕ
over_at s zero = 0
over_at s (suc t) = s + suc t

-- the operations of the jobs, where r leads them
abbrev pub led : SchedulingTask → ℕ → List ℕ → List Operation
led task r js =
    let early = is_early task r in
    enclosed (time_at task) (first_machine early) (second_machine early) r js

-- the operations of all jobs
abbrev pub operations_led_by : SchedulingTask → ℕ → List Operation
operations_led_by task r = led task r (followers task r (is_early task r))

-- the time of all jobs on a machine
abbrev pub machine_time : SchedulingTask → ℕ → ℕ
machine_time task i = sum_by (λ j. time_at task j i) (all_jobs task)

-- machine 1, machine 2 or job l, the first of these whose bound is v
abbrev pub open_claim : SchedulingTask → ℕ → ℕ → Claim
open_claim task l v =
    if machine_time task 1 == v then ByMachine 1
    else (if machine_time task 2 == v then ByMachine 2 else ByOneJob l)

-- the pieces, in some order, are those of all operations, where a leader leads; the certificate is a
-- machine or the first of the longest jobs, the first of these that is as long as the timetable
pub record IsLed (task : SchedulingTask) (pieces : List Piece) (claim : Claim) : Type 0 where
  pub leader : ℕ
  pub leads : IsLeader task leader
  pub are : IsPermutation (laid (operations_led_by task leader)) pieces
  pub longest : ℕ
  pub is_longest : IsFirstLongest task longest
  pub certificate : claim ≡ open_claim task longest
      (max (max (machine_time task 1) (machine_time task 2)) (time_of task longest))
