-- Why pieces do not fit the task of a problem: the first misfit, told in the rows of the timetable
-- that the pieces draw.
use Rattle.std.specs.Prelude.{◌≡◌, pos, ◌≤ℤ◌, List, length, IsTrue, IsFalse}
use Rattle.std.specs.List.{All}
use Rattle.tf_model.specs.Feasible.{EachJob, IsOnce, IsKept}
use Rattle.tf_model.specs.Timetable.{Timetable}
use Rattle.tf_posed.specs.ProblemData.{ProblemData, IsProblemJob}
use Rattle.tf_posed.specs.FitsProblem.{HasProblemTime, IsProblemUnbroken, IsProblemReleased, IsOnRoute, IsInOneOrder, IsWithoutWait}
use Rattle.tf_schedule.specs.declared.piece.Piece.{Piece}
use Rattle.tf_schedule.specs.declared.fit.Misfit.{Misfit}
use Rattle.tf_schedule.specs.declared.fit.Misfit.TheVariants.{Stranger, JobTwice, WrongAmount, Broken, TooEarly, OutOfOrder, OutOfMemory}
use Rattle.tf_schedule.specs.Piece.{as_time}
use Rattle.tf_schedule.specs.Drawing.{drawing, IsOnMachine}
use Rattle.tf_schedule.specs.Misfit.{IsFirstNot, IsSmallestNot, IsFirstTwice}
use Rattle.tf_schedule.specs.declared.misfit.ProblemMisfit.{ProblemMisfit}
use Rattle.tf_schedule.specs.declared.misfit.ProblemMisfit.TheVariants.{Plain, OffRoute, NoOneOrder, Waits}

-- the piece names a job and a machine of the task
abbrev pub IsKnownTo : ProblemData → Piece → Type 0
IsKnownTo k p = IsProblemJob k p.job × IsOnMachine k.machines p

-- ---- the order in which they are judged

abbrev pub AllOnce : ProblemData → Timetable → Type 0
AllOnce k rows = EachJob (length k.jobs) (IsOnce rows)

abbrev pub AllFull : ProblemData → Timetable → Type 0
AllFull k rows = AllOnce k rows × EachJob (length k.jobs) (HasProblemTime k rows)

abbrev pub AllUnbroken : ProblemData → Timetable → Type 0
AllUnbroken k rows = AllFull k rows
    × (IsFalse k.problem.prmp → EachJob (length k.jobs) (IsProblemUnbroken k rows))

abbrev pub AllReleased : ProblemData → Timetable → Type 0
AllReleased k rows = AllUnbroken k rows
    × (IsTrue k.problem.release → EachJob (length k.jobs) (IsProblemReleased k rows))

abbrev pub AllKept : ProblemData → Timetable → Type 0
AllKept k rows = AllReleased k rows × (IsTrue k.problem.prec → All (IsKept rows) k.arcs)

abbrev pub AllOnRoute : ProblemData → Timetable → Type 0
AllOnRoute k rows = AllKept k rows × EachJob (length k.jobs) (IsOnRoute k rows)

abbrev pub AllInOneOrder : ProblemData → Timetable → Type 0
AllInOneOrder k rows = AllOnRoute k rows × (IsTrue k.problem.prmu → IsInOneOrder k rows)

-- what the pieces break first of what a class asks too, and how: each condition is judged over all
-- jobs before the next
abbrev pub HasFirstPlain : ProblemData → List Piece → Misfit → Type 0
HasFirstPlain k ps (Stranger j i) =
    (p : Piece) × (p.job ≡ j) × (p.machine ≡ i) × IsFirstNot (IsKnownTo k) ps p
HasFirstPlain k ps (JobTwice j t) = All (IsKnownTo k) ps × (pos 0 ≤ℤ t)
    × IsFirstTwice (drawing k.machines ps) j (as_time t)
HasFirstPlain k ps (WrongAmount j) = All (IsKnownTo k) ps × AllOnce k (drawing k.machines ps)
    × IsSmallestNot (length k.jobs) (HasProblemTime k (drawing k.machines ps)) j
HasFirstPlain k ps (Broken j) = All (IsKnownTo k) ps × AllFull k (drawing k.machines ps)
    × IsFalse k.problem.prmp
    × IsSmallestNot (length k.jobs) (IsProblemUnbroken k (drawing k.machines ps)) j
HasFirstPlain k ps (TooEarly j) = All (IsKnownTo k) ps × AllUnbroken k (drawing k.machines ps)
    × IsTrue k.problem.release
    × IsSmallestNot (length k.jobs) (IsProblemReleased k (drawing k.machines ps)) j
HasFirstPlain k ps (OutOfOrder a b) = All (IsKnownTo k) ps × AllReleased k (drawing k.machines ps)
    × IsTrue k.problem.prec × IsFirstNot (IsKept (drawing k.machines ps)) k.arcs (a, b)
HasFirstPlain k ps OutOfMemory = ⊥

-- what the pieces break first
abbrev pub HasFirstMisfit : ProblemData → List Piece → ProblemMisfit → Type 0
HasFirstMisfit k ps (Plain misfit) = HasFirstPlain k ps misfit
HasFirstMisfit k ps (OffRoute j) = All (IsKnownTo k) ps × AllKept k (drawing k.machines ps)
    × IsSmallestNot (length k.jobs) (IsOnRoute k (drawing k.machines ps)) j
HasFirstMisfit k ps NoOneOrder = All (IsKnownTo k) ps × AllOnRoute k (drawing k.machines ps)
    × IsTrue k.problem.prmu × (¬ (IsInOneOrder k (drawing k.machines ps)))
HasFirstMisfit k ps (Waits j) = All (IsKnownTo k) ps × AllInOneOrder k (drawing k.machines ps)
    × IsTrue k.problem.nwt
    × IsSmallestNot (length k.jobs) (IsWithoutWait (drawing k.machines ps)) j
