-- A certificate as definitions see it. They speak of its `Claim` (see Claim.antt), which has no
-- allocator.
use Rattle.tf_check.specs.Claim.{Claim, ByPairs, ByLastOf, ByWindow, BySplit, ByLoad, ByMachine, ByOneJob, ByRanks}
use Rattle.tf_check.specs.declared.certificate.Certificate.{Certificate}
use Rattle.tf_check.specs.declared.certificate.Certificate.TheVariants.{Pairs, LastOf, Window, Split, Load, Machine, OneJob, Ranks}

-- what a certificate claims
abbrev pub claim_of : {A : Type 0} → Certificate A → Claim
claim_of (Pairs pairs) = ByPairs
claim_of (LastOf last) = ByLastOf last.jobs
claim_of (Window window) = ByWindow window.jobs
claim_of (Split split) = BySplit split.side split.delta split.first
claim_of (Load load) = ByLoad
claim_of (Machine load) = ByMachine load.machine
claim_of (OneJob one) = ByOneJob one.job
claim_of (Ranks ranks) = ByRanks ranks.jobs
