-- What a certificate of each kind bounds a task by.
use Rattle.std.specs.Prelude.{◌≡◌, ◌⊎◌, ℕ, ℤ, pos, min, List, if◌then◌else◌, Option, Some, None, Result, MatchResult}
use Rattle.tf_model.specs.Bounds.{stands_in}
use Rattle.tf_posed.specs.ProblemData.{ProblemData}
use Rattle.tf_problem.specs.ProblemBounds.{machine_value, window_value, crowd_value, one_job_value, any_multiplier_value, alone_cost}
use Rattle.tf_problem.specs.Kept.{kept_value, kept_weight}
use Rattle.tf_problem.specs.MachinePrices.{machine_prices_value}
use Rattle.tf_problem.specs.Shortest.{shortest_value}
use Rattle.tf_problem.specs.Ranks.{rank_value}
use Rattle.tf_problem.specs.Potentials.{potentials_value}
use Rattle.tf_problem.specs.Split.{split_value}
use Rattle.tf_bound.specs.Prices.{IsPricesBound}
use Rattle.tf_bound.specs.Judged.{IsDatedTask, IsJudgedTask}
use Rattle.tf_bound.specs.Kinds.{takes_kept_weight}
use Rattle.tf_bound.specs.Faulted.{certificate_fault}
use Rattle.tf_bound.specs.declared.fault.BoundFault.{BoundFault}
use Rattle.tf_bound.specs.declared.fault.BoundFault.TheVariants.{OutOfMemory}
use Rattle.tf_bound.specs.declared.certificate.BoundCertificate.{BoundCertificate}
use Rattle.tf_bound.specs.declared.certificate.BoundCertificate.TheVariants.{Machine, Window, Crowd, OneJob, Multipliers, Prices, MachinePrices, Alone, Kept, Shortest, Ranks, Parts, Potentials, Split}

-- the greatest value that the text of a bound can say
abbrev pub most_value : ℕ
most_value = 9223372036854775807

-- what the jobs cost alone on the task whose dates follow by the arcs, or that value where it is more
abbrev pub IsAloneBound : ProblemData → ℤ → Type 0
IsAloneBound k b =
    (other : ProblemData) × IsDatedTask k other × (b ≡ pos (min (alone_cost other) most_value))

-- how many jobs of a list by due date are late at least, or what they weigh where the objective has weights
abbrev pub late_value : ProblemData → List ℕ → ℕ
late_value k jobs = if takes_kept_weight k.problem then kept_weight k jobs else kept_value k jobs

-- the number is the value of the certificate's kind, by its jobs or numbers
abbrev pub IsValueOn : {A : Type 0} → ProblemData → BoundCertificate A → ℤ → Type 0
IsValueOn k (Machine machine jobs) b = b ≡ machine_value k machine jobs.items
IsValueOn k (Window jobs) b = b ≡ window_value k jobs.items
IsValueOn k (Crowd h jobs) b = b ≡ crowd_value k h jobs.items
IsValueOn k (OneJob job) b = b ≡ one_job_value k job
IsValueOn k (Multipliers machine q numerators arcs) b =
    b ≡ any_multiplier_value k machine numerators.items arcs.items q
IsValueOn k (Prices q rows) b = IsPricesBound k q rows.items b
IsValueOn k (MachinePrices machine q rows) b = b ≡ machine_prices_value k machine q rows.items
IsValueOn k Alone b = IsAloneBound k b
IsValueOn k (Kept jobs) b = b ≡ pos (late_value k jobs.items)
IsValueOn k (Shortest jobs) b = b ≡ pos (shortest_value k jobs.items)
IsValueOn k (Ranks jobs) b = b ≡ pos (rank_value k jobs.items)
IsValueOn k (Split first second delta by_first side) b =
    b ≡ split_value k first second (stands_in side.items) delta
IsValueOn k (Parts from until late jobs) b = b ≡ late
IsValueOn k (Potentials numbers) b = b ≡ potentials_value k numbers.items

-- the number is that value on the task on which the certificate is judged
abbrev pub IsBoundBy : {A : Type 0} → ProblemData → BoundCertificate A → ℤ → Type 0
IsBoundBy k c b = (other : ProblemData) × IsJudgedTask k other × IsValueOn other c b

-- on that task it has this fault, or none
abbrev pub IsFaultBy : {A : Type 0} → ProblemData → BoundCertificate A → Option BoundFault → Type 0
IsFaultBy k c fault = (other : ProblemData) × IsJudgedTask k other × (certificate_fault other c ≡ fault)

-- A value where it has none. Otherwise the fault, or that an allocation failed.
abbrev pub NamesFaultBy : {A X : Type 0} → ProblemData → BoundCertificate A → Result X BoundFault
    → Type 0
NamesFaultBy k c result =
    MatchResult result (λ _. IsFaultBy k c None) (λ fault. (fault ≡ OutOfMemory) ⊎ IsFaultBy k c (Some fault))
