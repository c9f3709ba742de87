-- Worked examples: what the definitions give on small problems and instances.
use Rattle.std.proofs.Common.{◌≡◌, ℕ, ℤ, pos, negsuc, List, [], ◌∷◌, true, Option, Some, None, Ok, Err, refl}
use Rattle.tf_model.specs.declared.class.Class.TheVariants.{WeightedSum, Hmax, PrecHmax, ReleaseLmax, FlowTwo, OpenTwo, ParallelPrmp}
use Rattle.tf_model.specs.declared.problem.Env.{Env}
use Rattle.tf_model.specs.declared.problem.Env.TheVariants.{Single, Parallel, Flow, OpenShop, JobShop}
use Rattle.tf_model.specs.declared.problem.Goal.{Goal}
use Rattle.tf_model.specs.declared.problem.Goal.TheVariants as goals
use Rattle.tf_model.specs.declared.problem.Problem.{Problem}
use Rattle.tf_model.specs.declared.job.Times.TheVariants.{One, Two}
use Rattle.tf_model.specs.declared.cost.CostFault.TheVariants.{OutOfRange, TimesNotRising, CostFalls}
use Rattle.tf_model.specs.declared.instance.InstanceFault.TheVariants as faults
use Rattle.tf_model.specs.declared.prepare.Field.TheVariants as fields
use Rattle.tf_model.specs.declared.prepare.Refusal.TheVariants.{NoSolver, MachinesMissing, MachinesDisagree, MachineCount, WrongTimes, MissingField, ZeroTime, TotalTooLarge}
use Rattle.tf_model.specs.Steps.{Steps, step_value}
use Rattle.tf_model.specs.StepFaults.{steps_fault}
use Rattle.tf_model.specs.JobFields.{JobFields}
use Rattle.tf_model.specs.InstanceData.{InstanceData, instance_fault}
use Rattle.tf_model.specs.SchedulingTask.{JobData}
use Rattle.tf_model.specs.ClassTable.{plain_problem, class_of}
use Rattle.tf_model.specs.Prepare.{prepared}

-- the problem of one field on each side, and no condition
abbrev plain : Env → Option ℕ → Goal → Problem
plain env count goal = record (plain_problem env goal) { count = count }

abbrev precedence : Problem → Problem
precedence problem = record problem { prec = true }

abbrev preemptive : Problem → Problem
preemptive problem = record problem { prmp = true }

abbrev releasing : Problem → Problem
releasing problem = record problem { release = true }

-- ---- classes

weighted_sum : class_of (plain Single None goals.SumWC) ≡ Some WeightedSum
weighted_sum = refl

prec_hmax : class_of (precedence (plain Single None goals.Hmax)) ≡ Some PrecHmax
prec_hmax = refl

release_lmax : class_of (releasing (preemptive (plain Single None goals.Lmax))) ≡ Some ReleaseLmax
release_lmax = refl

any_shop : class_of (plain Flow None goals.Cmax) ≡ Some FlowTwo
any_shop = refl

open_shop : class_of (plain OpenShop (Some 2) goals.Cmax) ≡ Some OpenTwo
open_shop = refl

parallel_prmp : class_of (preemptive (plain Parallel (Some 3) goals.Cmax)) ≡ Some ParallelPrmp
parallel_prmp = refl

tardiness : class_of (plain Single None goals.SumWT) ≡ None
tardiness = refl

three_machines : class_of (plain Flow (Some 3) goals.Cmax) ≡ None
three_machines = refl

job_shop : class_of (plain JobShop (Some 3) goals.Cmax) ≡ None
job_shop = refl

unbroken_makespan : class_of (plain Parallel None goals.Cmax) ≡ None
unbroken_makespan = refl

unbroken_release : class_of (releasing (plain Single None goals.Lmax)) ≡ None
unbroken_release = refl

-- `1|rj,nwt|sumwC`
no_wait : class_of (record (releasing (plain Single None goals.SumWC)) { nwt = true }) ≡ None
no_wait = refl

-- ---- step costs

same_time : steps_fault (record { base = pos 0; steps = (pos 5, pos 3) ∷ (pos 5, pos 4) ∷ [] })
    ≡ Some TimesNotRising
same_time = refl

cheaper : steps_fault (record { base = pos 0; steps = (pos 5, pos 3) ∷ (pos 9, pos 2) ∷ [] })
    ≡ Some CostFalls
cheaper = refl

before_zero : steps_fault (record { base = pos 0; steps = (negsuc 0, pos 3) ∷ [] })
    ≡ Some OutOfRange
before_zero = refl

from_zero : steps_fault (record { base = negsuc 1; steps = (pos 0, negsuc 1) ∷ [] }) ≡ None
from_zero = refl

at_zero : step_value (record { base = negsuc 1; steps = (pos 0, negsuc 1) ∷ [] }) 0 ≡ negsuc 1
at_zero = refl

-- ---- instances

abbrev timed : ℤ → JobFields
timed p = record { times = One p; weight = None; due = None; release = None; cost = None }

abbrev weighted : ℤ → ℤ → JobFields
weighted p w = record (timed p) { weight = Some w }

abbrev two_times : ℤ → ℤ → JobFields
two_times a b = record (timed a) { times = Two a b }

abbrev jobs_alone : List JobFields → InstanceData
jobs_alone jobs = record { jobs = jobs; arcs = []; machines = None }

abbrev on_machines : ℕ → List JobFields → InstanceData
on_machines m jobs = record { jobs = jobs; arcs = []; machines = Some m }

no_jobs : instance_fault (jobs_alone []) ≡ Some faults.NoJobs
no_jobs = refl

no_machine : instance_fault (on_machines 0 (timed (pos 1) ∷ [])) ≡ Some faults.TooManyMachines
no_machine = refl

no_second_job : instance_fault
    (record { jobs = timed (pos 1) ∷ []; arcs = (1, 2) ∷ []; machines = None })
    ≡ Some (faults.BadArc 1)
no_second_job = refl

negative_weight : instance_fault (jobs_alone (weighted (pos 1) (negsuc 0) ∷ []))
    ≡ Some (faults.NegativeNumber 1)
negative_weight = refl

far_due : instance_fault
    (jobs_alone (record (timed (pos 1)) { due = Some (negsuc 4000000000000000000) } ∷ []))
    ≡ Some (faults.OutOfRange 1)
far_due = refl

-- ---- refusals

unsolved : prepared (jobs_alone (timed (pos 1) ∷ [])) (plain Single None goals.SumWT) None
    ≡ Err NoSolver
unsolved = refl

no_count : prepared (jobs_alone (timed (pos 1) ∷ [])) (preemptive (plain Parallel None goals.Cmax))
    None ≡ Err MachinesMissing
no_count = refl

no_count_for_sum : prepared (jobs_alone (timed (pos 1) ∷ [])) (plain Parallel None goals.SumC) None
    ≡ Err MachinesMissing
no_count_for_sum = refl

two_counts : prepared (on_machines 3 (timed (pos 1) ∷ []))
    (preemptive (plain Parallel (Some 2) goals.Cmax)) None ≡ Err MachinesDisagree
two_counts = refl

zero_machines : prepared (jobs_alone (timed (pos 1) ∷ []))
    (preemptive (plain Parallel None goals.Cmax)) (Some 0) ≡ Err (MachineCount 0)
zero_machines = refl

shop_of_three : prepared (on_machines 3 (two_times (pos 1) (pos 2) ∷ []))
    (plain Flow None goals.Cmax) None ≡ Err (MachineCount 3)
shop_of_three = refl

one_time_in_shop : prepared (jobs_alone (timed (pos 3) ∷ [])) (plain Flow (Some 2) goals.Cmax) None
    ≡ Err (WrongTimes 1)
one_time_in_shop = refl

no_weight : prepared (jobs_alone (timed (pos 3) ∷ [])) (plain Single None goals.SumWC) None
    ≡ Err (MissingField 1 fields.Weight)
no_weight = refl

-- job 1 lacks its due date, job 2 its release date: the smaller job is named
no_due : prepared
    (jobs_alone
    (record (timed (pos 3)) { release = Some (pos 0) }
    ∷ record (timed (pos 3)) { due = Some (pos 9) } ∷ []))
    (releasing (preemptive (plain Single None goals.Lmax))) None ≡ Err (MissingField 1 fields.Due)
no_due = refl

no_release : prepared (jobs_alone (record (timed (pos 3)) { due = Some (pos 9) } ∷ []))
    (releasing (preemptive (plain Single None goals.Lmax))) None
    ≡ Err (MissingField 1 fields.Release)
no_release = refl

no_work : prepared (jobs_alone (timed (pos 0) ∷ [])) (plain Single None goals.SumC) None
    ≡ Err (ZeroTime 1)
no_work = refl

large_total : prepared
    (jobs_alone (timed (pos 2000000000000000000) ∷ timed (pos 2000000000000000001) ∷ []))
    (preemptive (plain Parallel (Some 1000) goals.Cmax)) None
    ≡ Err TotalTooLarge
large_total = refl

large_weighted_total : prepared (jobs_alone (weighted (pos 4000000000000000000) (pos 2) ∷ []))
    (plain Single None goals.SumWC) None ≡ Err TotalTooLarge
large_weighted_total = refl

-- ---- tasks

greatest_time : prepared (jobs_alone (weighted (pos 4000000000000000000) (pos 1) ∷ []))
    (plain Single None goals.SumWC) None
    ≡ Ok (record {
      class = WeightedSum;
      machines = 1;
      jobs = record {
        first = 4000000000000000000;
        second = 0;
        weight = 1;
        release = 0;
        due =
            pos 0;
      } ∷ [];
      costs = [];
      arcs = [];
    })
greatest_time = refl

abbrev stepped : ℤ → ℤ → ℤ → ℤ → JobFields
stepped p base time value =
    record (timed p) { cost = Some (record { base = base; steps = (time, value) ∷ [] }) }

-- three jobs with costs, and an arc from job 3 to job 1
abbrev ordered : InstanceData
ordered = record {
  jobs = stepped (pos 2) (pos 0) (pos 5) (pos 10) ∷ stepped (pos 3) (pos 0) (pos 9) (pos 7)
      ∷ stepped (pos 4) (pos 1) (pos 9) (pos 8) ∷ [];
  arcs = (3, 1) ∷ [];
  machines = None;
}

abbrev row : ℕ → JobData
row p = record { first = p; second = 0; weight = 1; release = 0; due = pos 0 }

abbrev costs : List Steps
costs = record { base = pos 0; steps = (pos 5, pos 10) ∷ [] }
    ∷ record { base = pos 0; steps = (pos 9, pos 7) ∷ [] }
    ∷ record { base = pos 1; steps = (pos 9, pos 8) ∷ [] } ∷ []

arcs_kept : prepared ordered (precedence (plain Single None goals.Hmax)) None
    ≡ Ok (record {
      class = PrecHmax;
      machines = 1;
      jobs = row 2 ∷ row 3 ∷ row 4 ∷ [];
      costs = costs;
      arcs = (3, 1) ∷ [];
    })
arcs_kept = refl

arcs_dropped : prepared ordered (plain Single None goals.Hmax) None
    ≡ Ok (record {
      class = Hmax;
      machines = 1;
      jobs = row 2 ∷ row 3 ∷ row 4 ∷ [];
      costs = costs;
      arcs = [];
    })
arcs_dropped = refl
