-- The schedule of the order that a rule gives. On machines in parallel each job in that order goes to the
-- machine that is free first.
use Rattle.std.specs.Prelude.{◌≡◌, ℕ, max, List, map}
use Rattle.std.specs.List.{All, range_with_len}
use Rattle.std.specs.List.Sorted.{IsPermutation}
use Rattle.tf_posed.specs.ProblemData.{ProblemData, problem_jobs, problem_release, problem_weight, problem_due}
use Rattle.tf_problem.specs.ProblemBounds.{problem_work}
use Rattle.tf_schedule.specs.declared.piece.Piece.{Piece}
use Rattle.tf_sequencing.specs.declared.rule.Rule.{Rule}
use Rattle.tf_sequencing.specs.declared.ruled_job.RuledJob.{RuledJob}
use Rattle.tf_sequencing.specs.Rules.{IsByRule}
use Rattle.tf_orders.specs.declared.order.Turn.{Turn}
use Rattle.tf_orders.specs.declared.measure.Measure.{Measure}
use Rattle.tf_orders.specs.Listed.{AreListed}
use Rattle.tf_orders.specs.Laying.{schedule_of, orders_of}
use Rattle.tf_orders.specs.Measuring.{posed_in}

abbrev pub numbers_of : List RuledJob → List ℕ
numbers_of xs = map (λ x. x.job) xs

-- What a rule sees of a job. A job of a shop that takes no time counts as one of time 1. Where the
-- problem has no weights, release dates or due dates, the weight is 1 and the dates are 0.
pub record IsSeen (k : ProblemData) (x : RuledJob) : Type 0 where
  pub time : x.time ≡ max 1 (problem_work k x.job)
  pub weight : x.weight ≡ problem_weight k x.job
  pub release : x.release ≡ problem_release k x.job
  pub due : x.due ≡ problem_due k x.job

-- all jobs as they are seen, in some order
pub record AreSeen (k : ProblemData) (xs : List RuledJob) : Type 0 where
  pub all : IsPermutation (problem_jobs k) (numbers_of xs)
  pub seen : All (IsSeen k) xs

-- the pieces are the schedule of all jobs, sorted by a rule
pub record IsRuledBy (k : ProblemData) (rule : Rule) (ps : List Piece) : Type 0 where
  pub jobs : List RuledJob
  pub are_all : AreSeen k jobs
  pub sorted : IsByRule rule jobs
  pub turns : List Turn
  pub listed : AreListed (schedule_of k) (orders_of k) (numbers_of jobs) turns
  pub pieces : ps ≡ schedule_of k turns

-- the same by a measure
abbrev pub IsRuled : {A : Type 0} → Rule → Measure A → List Piece → Type 0
IsRuled rule m ps = IsRuledBy (posed_in m) rule ps

-- ---- within the crate

-- the first n jobs, as they are seen
pub record AreFirstSeen (k : ProblemData) (n : ℕ) (xs : List RuledJob) : Type 0 where
  pub jobs : numbers_of xs ≡ range_with_len 1 n
  pub seen : All (IsSeen k) xs

-- the schedule of these jobs, listed
pub record IsListedSchedule (laid : List Turn → List Piece) (m : ℕ) (jobs : List ℕ) (ps : List Piece)
    : Type 0 where
  pub turns : List Turn
  pub listed : AreListed laid m jobs turns
  pub pieces : ps ≡ laid turns
