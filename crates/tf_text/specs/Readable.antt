-- The sheets whose texts can be read.
use Rattle.std.specs.Prelude.{ℕ, ◌≤◌, List, length}
use Rattle.std.specs.Int.RustNames.{FitsSigned}
use Rattle.std.specs.List.{AllByRecursion}
use Rattle.tf_model.specs.Whole.{IsWithin}
use Rattle.tf_model.specs.Limit.{most_jobs, most_machines}
use Rattle.tf_notation.specs.Reading.{IsRead}
use Rattle.tf_schedule.specs.declared.piece.Piece.{Piece}
use Rattle.tf_check.specs.Claim.{Claim, ByPairs, ByLastOf, ByWindow, BySplit, ByLoad, ByMachine, ByOneJob, ByRanks}
use Rattle.tf_text.specs.AnswerText.{SheetData}
use Rattle.tf_text.specs.declared.answer.layout.Layout.{Layout}
use Rattle.tf_text.specs.declared.answer.layout.Layout.TheVariants.{One, Two}
use mir.Syntax.{w64}

-- a number from 1 to `most`
abbrev pub IsCount : ℕ → ℕ → Type 0
IsCount most n = (1 ≤ n) × (n ≤ most)

-- a piece whose job, machine and times are in their ranges
abbrev pub IsReadablePiece : Piece → Type 0
IsReadablePiece p = IsCount most_jobs p.job × IsCount most_machines p.machine × IsWithin p.start
    × IsWithin p.stop

-- all of them are jobs that a text may name
abbrev pub AreJobs : List ℕ → Type 0
AreJobs = AllByRecursion (IsCount most_jobs)

-- in version 2 a job set has at most as many jobs as an instance
abbrev pub AreFew : Layout → List ℕ → Type 0
AreFew One jobs = Unit {0}
AreFew Two jobs = length jobs ≤ most_jobs

-- a job set of a certificate
abbrev pub AreListed : Layout → List ℕ → Type 0
AreListed layout jobs = AreJobs jobs × AreFew layout jobs

-- a certificate whose jobs, machine and delta are in their ranges
abbrev pub IsReadableClaim : Layout → Claim → Type 0
IsReadableClaim layout ByPairs = Unit {0}
IsReadableClaim layout (ByLastOf jobs) = AreListed layout jobs
IsReadableClaim layout (ByWindow jobs) = AreListed layout jobs
IsReadableClaim layout (BySplit side delta first) = AreListed layout side × IsWithin delta
IsReadableClaim layout ByLoad = Unit {0}
IsReadableClaim layout (ByMachine machine) = IsCount most_machines machine
IsReadableClaim layout (ByOneJob job) = IsCount most_jobs job
IsReadableClaim layout (ByRanks jobs) = AreJobs jobs

-- its numbers are in the ranges of an answer text, and its problem is one that a notation means
pub record IsReadable (layout : Layout) (s : SheetData) : Type 0 where
  pub problem : IsRead s.problem
  pub jobs : IsCount most_jobs s.jobs
  pub machines : IsCount most_machines s.machines
  pub value : FitsSigned w64 s.answer.value
  pub pieces : AllByRecursion IsReadablePiece s.answer.pieces
  pub certificate : IsReadableClaim layout s.answer.certificate
