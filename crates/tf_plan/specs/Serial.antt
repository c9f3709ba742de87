-- What is laid of all jobs one after another.
use Rattle.std.specs.Prelude.{◌≡◌, ◌≢◌, ◌⊎◌, ℕ, ◌+◌, ◌-◌, ◌<◌, ◌≤◌, pos, ◌≤ℤ◌, ◌<ℤ◌, List, length, take, drop, sum, slice_index, ◌==◌, if◌then◌else◌}
use Rattle.std.specs.List.{All, AllPairs, sum_by}
use Rattle.tf_model.specs.Limit.{limit}
use Rattle.tf_posed.specs.ProblemData.{ProblemData, IsProblemJob, problem_job, problem_release}
use Rattle.tf_bound.specs.Steps.{steps_of}
use Rattle.tf_schedule.specs.declared.piece.Piece.{Piece}
use Rattle.tf_schedule.specs.Amounts.{work, work_on, greatest_by, least_by, start_of}
use Rattle.tf_schedule.specs.Drawing.{stop_of}
use Rattle.tf_plan.specs.SerialOrder.{StandsBefore}

-- the second piece is of a later step of the same job, or of a later job
abbrev pub Follows : ProblemData → List ℕ → Piece → Piece → Type 0
Follows k order p q =
    ((p.job ≡ q.job) × StandsBefore (steps_of k q.job) (p.machine - 1) (q.machine - 1))
    ⊎ StandsBefore order p.job q.job

pub record Precedes (k : ProblemData) (order : List ℕ) (p q : Piece) : Type 0 where
  pub over : stop_of p ≤ start_of q
  pub follows : Follows k order p q

-- no piece is of the job
pub record IsUntouched (ps : List Piece) (j : ℕ) : Type 0 where
  pub stop : greatest_by stop_of ps j ≡ 0
  pub start : least_by start_of ps j ≡ limit
  pub work : work ps j ≡ 0
  pub work_on : (i : ℕ) → work_on ps j (i + 1) ≡ 0

-- the job has these times on the machines, without a gap
pub record IsServed (times : List ℕ) (ps : List Piece) (j : ℕ) : Type 0 where
  pub gapless : greatest_by stop_of ps j - least_by start_of ps j ≡ work ps j
  pub work : work ps j ≡ sum times
  pub work_on : (i : ℕ) → work_on ps j (i + 1) ≡ slice_index times i

-- it has no piece yet, or all of them end now, without a gap
abbrev pub IsTouching : List Piece → ℕ → ℕ → Type 0
IsTouching ps j now =
    ((greatest_by stop_of ps j ≡ 0) × (least_by start_of ps j ≡ limit) × (work ps j ≡ 0))
    ⊎ ((greatest_by stop_of ps j ≡ now) × (least_by start_of ps j ≤ now)
    × (greatest_by stop_of ps j - least_by start_of ps j ≡ work ps j))

pub record IsSerialPiece (k : ProblemData) (now : ℕ) (p : Piece) : Type 0 where
  pub job : IsProblemJob k p.job
  pub machine : (0 < p.machine) × (p.machine ≤ length (problem_job k p.job).times)
  pub low : pos 0 ≤ℤ p.start
  pub full : p.start <ℤ p.stop
  pub released : problem_release k p.job ≤ start_of p
  pub ended : stop_of p ≤ now

-- the piece is of one of the first jobs of the order
abbrev pub IsOfFirst : List ℕ → ℕ → ℕ → Type 0
IsOfFirst order count j = (x : ℕ) × (x < count) × (slice_index order x ≡ j)

-- the time of the jobs of the order behind so many
abbrev pub rest_work : ProblemData → List ℕ → ℕ → ℕ
rest_work k order count = sum_by (λ j. sum (problem_job k j).times) (drop count order)

-- so many jobs of the order are laid, up to now
pub record IsSerial (k : ProblemData) (order : List ℕ) (count : ℕ) (ps : List Piece) (now : ℕ) :
    Type 0 where
  pub room : now + rest_work k order count ≤ limit
  pub each : All (IsSerialPiece k now) ps
  pub pairs : AllPairs (Precedes k order) ps
  pub jobs : All (λ p. IsOfFirst order count p.job) ps
  pub served : (x : ℕ) → x < count
      → IsServed (problem_job k (slice_index order x)).times ps (slice_index order x)
  pub rest : (j : ℕ) → ((x : ℕ) → x < count → slice_index order x ≢ j) → IsUntouched ps j

-- the first steps of a job
abbrev pub steps_done : ProblemData → ℕ → ℕ → List ℕ
steps_done k j done = take done (steps_of k j)

-- the time of a job on the machines of these steps
abbrev pub time_done : ProblemData → ℕ → List ℕ → ℕ
time_done k j steps = sum_by (slice_index (problem_job k j).times) steps

-- and on machine i of them
abbrev pub time_done_on : ProblemData → ℕ → List ℕ → ℕ → ℕ
time_done_on k j steps i =
    sum_by (λ a. if a == i then slice_index (problem_job k j).times i else 0) steps

-- and so many steps of the next job
pub record IsPartly (k : ProblemData) (order : List ℕ) (count done : ℕ) (ps : List Piece) (now : ℕ)
    : Type 0 where
  pub room : now + sum (problem_job k (slice_index order count)).times
      + rest_work k order (count + 1)
      ≤ limit + time_done k (slice_index order count) (steps_done k (slice_index order count) done)
  pub front : time_done k (slice_index order count) (steps_done k (slice_index order count) done)
      ≤ sum (problem_job k (slice_index order count)).times
  pub released : problem_release k (slice_index order count) ≤ now
  pub each : All (IsSerialPiece k now) ps
  pub pairs : AllPairs (Precedes k order) ps
  pub jobs : All (λ p. IsOfFirst order count p.job
      ⊎ ((p.job ≡ slice_index order count)
      × IsOfFirst (steps_of k (slice_index order count)) done (p.machine - 1))) ps
  pub served : (x : ℕ) → x < count
      → IsServed (problem_job k (slice_index order x)).times ps (slice_index order x)
  pub rest : (j : ℕ) → ((x : ℕ) → x < count + 1 → slice_index order x ≢ j) → IsUntouched ps j
  pub touching : IsTouching ps (slice_index order count) now
  pub work : work ps (slice_index order count)
      ≡ time_done k (slice_index order count) (steps_done k (slice_index order count) done)
  pub work_on : (i : ℕ) → work_on ps (slice_index order count) (i + 1)
      ≡ time_done_on k (slice_index order count) (steps_done k (slice_index order count) done) i
