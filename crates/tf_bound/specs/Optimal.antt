-- Tasks of which a bound by all jobs is the minimum cost.
use Rattle.std.specs.Prelude.{ℕ, ℤ, List, IsTrue, IsFalse}
use Rattle.std.specs.List.Sorted.{IsPermutation}
use Rattle.tf_model.specs.ClassTable.{is_single_env}
use Rattle.tf_model.specs.Timetable.{Timetable}
use Rattle.tf_posed.specs.ProblemData.{ProblemData, problem_jobs}
use Rattle.tf_posed.specs.ProblemCost.{IsProblemBest}

-- some timetable costs the number, and none costs less
abbrev pub IsMinimum : ProblemData → ℤ → Type 0
IsMinimum k b = (rows : Timetable) × IsProblemBest k rows b

-- the list has all jobs, of which none waits for another or may not wait
pub record HasFreeJobs (k : ProblemData) (jobs : List ℕ) : Type 0 where
  pub all : IsPermutation (problem_jobs k) jobs
  pub no_prec : IsFalse k.problem.prec
  pub no_prmu : IsFalse k.problem.prmu
  pub may_wait : IsFalse k.problem.nwt

-- `1||sumU` and `1||sumwU`, with or without preemption
pub record AreUnreleased (k : ProblemData) (jobs : List ℕ) : Type 0 where
  pub single : IsTrue (is_single_env k.problem.env)
  pub no_release : IsFalse k.problem.release
  pub free : HasFreeJobs k jobs

-- `1|rj,prmp|sumC` and `1|prmp|sumC`
pub record ArePreempted (k : ProblemData) (jobs : List ℕ) : Type 0 where
  pub prmp : IsTrue k.problem.prmp
  pub free : HasFreeJobs k jobs

-- `P|prmp|sumC`
pub record AreDealt (k : ProblemData) (jobs : List ℕ) : Type 0 where
  pub prmp : IsTrue k.problem.prmp
  pub no_release : IsFalse k.problem.release
  pub free : HasFreeJobs k jobs
