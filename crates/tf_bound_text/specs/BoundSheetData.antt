-- What the text of a bound says.
use Rattle.std.specs.Prelude.{◌≡◌, ℕ, ℤ, pos, Bool, List, Option}
use Rattle.tf_model.specs.declared.problem.Problem.{Problem}
use Rattle.tf_posed.specs.ProblemData.{ProblemData}
use Rattle.tf_problem.specs.ProblemBounds.{machine_value, window_value, crowd_value, one_job_value, any_multiplier_value}
use Rattle.tf_problem.specs.MachinePrices.{machine_prices_value}
use Rattle.tf_problem.specs.Shortest.{shortest_value}
use Rattle.tf_problem.specs.Ranks.{rank_value}
use Rattle.tf_bound.specs.Certified.{late_value, IsAloneBound}
use Rattle.tf_bound.specs.Prices.{IsPricesBound}
use Rattle.tf_bound.specs.Faulted.{machine_fault, window_fault, crowd_fault, one_job_fault, multipliers_fault, prices_fault, alone_fault, late_fault, shortest_fault, ranks_fault, parts_fault, machine_prices_fault, split_fault, potentials_fault}
use Rattle.tf_bound.specs.declared.fault.BoundFault.{BoundFault}
use Rattle.tf_bound.specs.declared.certificate.BoundCertificate.{BoundCertificate}
use Rattle.tf_bound.specs.declared.certificate.BoundCertificate.TheVariants.{Machine, Window, Crowd, OneJob, Multipliers, Prices, MachinePrices, Alone, Kept, Shortest, Ranks, Parts, Split, Potentials}
use Rattle.tf_problem.specs.Split.{split_value}
use Rattle.tf_model.specs.Bounds.{stands_in}
use Rattle.tf_problem.specs.Potentials.{potentials_value}

-- What a certificate names: a machine, counted from 0, or how many jobs each machine takes, and jobs;
-- or a machine, a denominator and numerators, job by job and arc by arc; or a denominator and prices,
-- row by row, and before them a machine; or nothing; or jobs by due date, by release date, or by
-- falling time; or two machines, delta, whether it is reached on the first, and the jobs of the side;
-- or an interval, a lateness, and jobs; or potentials.
pub data Basis : Type 0 where
  ByMachine : ℕ → List ℕ → Basis
  ByWindow : List ℕ → Basis
  ByCrowd : ℕ → List ℕ → Basis
  ByOneJob : ℕ → Basis
  ByMultipliers : ℕ → ℕ → List ℕ → List ℕ → Basis
  ByPrices : ℕ → List ℕ → Basis
  ByMachinePrices : ℕ → ℕ → List ℕ → Basis
  ByAlone : Basis
  ByKept : List ℕ → Basis
  ByShortest : List ℕ → Basis
  ByRanks : List ℕ → Basis
  BySplit : ℕ → ℕ → ℕ → Bool → List ℕ → Basis
  ByParts : ℕ → ℕ → ℤ → List ℕ → Basis
  ByPotentials : List ℤ → Basis

abbrev pub basis_of : {A : Type 0} → BoundCertificate A → Basis
basis_of (Machine machine jobs) = ByMachine machine jobs.items
basis_of (Window jobs) = ByWindow jobs.items
basis_of (Crowd h jobs) = ByCrowd h jobs.items
basis_of (OneJob job) = ByOneJob job
basis_of (Multipliers machine q numerators arcs) =
    ByMultipliers machine q numerators.items arcs.items
basis_of (Prices q rows) = ByPrices q rows.items
basis_of (MachinePrices machine q rows) = ByMachinePrices machine q rows.items
basis_of Alone = ByAlone
basis_of (Kept jobs) = ByKept jobs.items
basis_of (Shortest jobs) = ByShortest jobs.items
basis_of (Ranks jobs) = ByRanks jobs.items
basis_of (Split first second delta by_first side) = BySplit first second delta by_first side.items
basis_of (Parts from until late jobs) = ByParts from until late jobs.items
basis_of (Potentials numbers) = ByPotentials numbers.items

-- the number is what a certificate that names this bounds a task by
abbrev pub IsValueBy : ProblemData → Basis → ℤ → Type 0
IsValueBy k (ByMachine machine jobs) b = b ≡ machine_value k machine jobs
IsValueBy k (ByWindow jobs) b = b ≡ window_value k jobs
IsValueBy k (ByCrowd h jobs) b = b ≡ crowd_value k h jobs
IsValueBy k (ByOneJob job) b = b ≡ one_job_value k job
IsValueBy k (ByMultipliers machine q v arcs) b = b ≡ any_multiplier_value k machine v arcs q
IsValueBy k (ByPrices q rows) b = IsPricesBound k q rows b
IsValueBy k (ByMachinePrices machine q rows) b = b ≡ machine_prices_value k machine q rows
IsValueBy k ByAlone b = IsAloneBound k b
IsValueBy k (ByKept jobs) b = b ≡ pos (late_value k jobs)
IsValueBy k (ByShortest jobs) b = b ≡ pos (shortest_value k jobs)
IsValueBy k (ByRanks jobs) b = b ≡ pos (rank_value k jobs)
IsValueBy k (BySplit first second delta by_first side) b =
    b ≡ split_value k first second (stands_in side) delta
IsValueBy k (ByParts from until late jobs) b = b ≡ late
IsValueBy k (ByPotentials numbers) b = b ≡ potentials_value k numbers

-- the first fault that a certificate that names this has on a task, if it has one
abbrev pub fault_by : ProblemData → Basis → Option BoundFault
fault_by k (ByMachine machine jobs) = machine_fault k machine jobs
fault_by k (ByWindow jobs) = window_fault k jobs
fault_by k (ByCrowd h jobs) = crowd_fault k h jobs
fault_by k (ByOneJob job) = one_job_fault k job
fault_by k (ByMultipliers machine q v arcs) = multipliers_fault k machine q v arcs
fault_by k (ByPrices q rows) = prices_fault k q rows
fault_by k (ByMachinePrices machine q rows) = machine_prices_fault k machine q rows
fault_by k ByAlone = alone_fault k
fault_by k (ByKept jobs) = late_fault k jobs
fault_by k (ByShortest jobs) = shortest_fault k jobs
fault_by k (ByRanks jobs) = ranks_fault k jobs
fault_by k (BySplit first second delta by_first side) =
    split_fault k first second side delta by_first
fault_by k (ByParts from until late jobs) = parts_fault k from until late jobs
fault_by k (ByPotentials numbers) = potentials_fault k numbers

-- a certificate, and the problem, the sizes and the value that are stated beside it
pub record BoundSheetData : Type 0 where
  pub problem : Problem
  pub jobs : ℕ
  pub machines : ℕ
  pub value : ℤ
  pub basis : Basis
