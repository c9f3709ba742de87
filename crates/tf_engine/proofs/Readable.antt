-- An accepted answer can be read back.
use Rattle.std.proofs.Common.{◌≡◌, ℕ, ◌+◌, ◌-◌, ◌≤◌, ℤ, pos, negsuc, List, [], ◌∷◌, length, get_or, Bool, true, false, Result, Ok, Err, Some, None, Option, refl, ap, ◌∙◌, arith, sum_by, int_le, not, nat_le}
use Rattle.std.specs.List.{All, AllByRecursion}
use Rattle.std.proofs.lemmas.Bool.{and_parts, false≢true, leb-true}
use Rattle.std.proofs.lemmas.Int.{ints}
use Rattle.std.proofs.lemmas.List.{get_or_default}
use Rattle.std.proofs.lemmas.List.FromFn.{length-range_with_len}
use Rattle.std.proofs.lemmas.List.Sums.{sum_by-cons}
use Rattle.std.proofs.lemmas.List.Elements.{All-head, All-tail}
use Rattle.tf_model.specs.Limit.{limit}
use Rattle.tf_model.specs.Whole.{IsWithin}
use Rattle.tf_model.specs.Bounds.{stands_in}
use Rattle.tf_model.specs.Limit.{most_jobs}
use Rattle.tf_model.specs.Timetable.{Timetable}
use Rattle.tf_model.specs.SchedulingTask.{SchedulingTask, IsJob, all_jobs, time_of, time_on}
use Rattle.tf_model.specs.Sound.{IsSound}
use Rattle.tf_model.specs.Feasible.{Fits}
use Rattle.tf_model.proofs.Costs.{term-le-all_jobs}
use Rattle.tf_model.proofs.Ranks.{sum_by-le-all_jobs}
use Rattle.tf_model.proofs.Work.{IsDistinct}
use Rattle.tf_schedule.specs.declared.piece.Piece.{Piece}
use Rattle.tf_schedule.specs.Schedule.{IsPiece}
use Rattle.tf_schedule.specs.Drawing.{Draws, IsGoing}
use Rattle.tf_schedule.specs.Amounts.{start_of}
use Rattle.tf_schedule.proofs.Times.{time_lt}
use Rattle.tf_check.specs.Claim.{Claim, ByPairs, ByLastOf, ByWindow, BySplit, ByLoad, ByMachine, ByOneJob, ByRanks}
use Rattle.tf_check.specs.Bound.{bound_by, list_fault, reaches_delta}
use Rattle.tf_check.specs.Accepted.{IsAccepted}
use Rattle.tf_check.specs.Laws.{list_fault_says, delta_fault_says, last_of_says, window_says, split_says, machine_says, one_job_says, ranks_says}
use Rattle.tf_check.proofs.JobLists.{jobs_in_task}
use Rattle.tf_schedule.proofs.Cells.{cell_within}
use Rattle.std.specs.Int.RustNames.{FitsSigned}
use mir.Syntax.{w64}
use Rattle.tf_model.specs.declared.class.Class.{Class}
use Rattle.tf_model.specs.declared.problem.Problem.{Problem}
use Rattle.tf_model.specs.ClassTable.{class_of}
use Rattle.tf_model.specs.Outcome.{◌>>=◌}
use Rattle.tf_notation.specs.Reading.{notation, IsRead}
use Rattle.tf_engine.specs.RequestData.{RequestData}
use Rattle.tf_engine.specs.Faults.{ByNotation}
use Rattle.tf_engine.specs.Refusal.{refused_by, with_class, problem_for}
use Rattle.tf_text.specs.AnswerText.{SheetData}
use Rattle.tf_text.specs.Readable.{IsCount, IsReadablePiece, AreJobs, AreListed, IsReadableClaim, IsReadable}
use Rattle.tf_text.specs.declared.answer.layout.Layout.{Layout}
use Rattle.tf_text.specs.declared.answer.layout.Layout.TheVariants.{One, Two}

-- what holds of each element, told element by element
by_recursion : {X : Type 0} (P : X → Type 0) (xs : List X) → All P xs → AllByRecursion P xs
by_recursion P [] all = tt
by_recursion P (x ∷ xs) all = (All-head P x xs all, by_recursion P xs (All-tail P x xs all))

-- a job of the task is one that a text may name
job_count : (k : SchedulingTask) (j : ℕ) → IsSound k → IsJob k j → IsCount most_jobs j
job_count k j sound is = (is.0, omega (arith, is.1, sound.few_jobs))

jobs_count : (k : SchedulingTask) (jobs : List ℕ) → IsSound k → list_fault k [] jobs ≡ None
    → AreJobs jobs
jobs_count k jobs sound none =
    by_recursion (IsCount most_jobs) jobs
    (λ n d h. job_count k (get_or jobs n d) sound (jobs_in_task k jobs none n d h))

ones : (xs : List ℕ) → sum_by (λ (x : ℕ). 1) xs ≡ length xs
ones [] = refl
ones (x ∷ xs) = omega (arith, sum_by-cons (λ (y : ℕ). 1) x xs, ones xs)

-- a job set without a fault has no more jobs than the task
jobs_listed : (k : SchedulingTask) (layout : Layout) (jobs : List ℕ) → IsSound k
    → list_fault k [] jobs ≡ None → AreListed layout jobs
jobs_listed k One jobs sound none = (jobs_count k jobs sound none, tt)
jobs_listed k Two jobs sound none =
    let distinct : IsDistinct jobs = λ c. ((list_fault_says k [] jobs none).1 c).1 in
    let all : length (all_jobs k) ≡ length k.jobs = length-range_with_len 1 (length k.jobs) in (
      jobs_count k jobs sound none,
      omega (
        arith,
        sum_by-le-all_jobs k (λ (x : ℕ). 1) jobs distinct (jobs_in_task k jobs none),
        ones jobs,
        ones (all_jobs k),
        all,
        sound.few_jobs,
      ),
    )

-- a time of the task is within the limit
time_limit : (k : SchedulingTask) (j : ℕ) → IsSound k → IsJob k j → time_of k j ≤ limit
time_limit k j sound is = omega (arith, sound.total, term-le-all_jobs k (time_of k) j is)

-- the pieces that draw a fitting timetable are in their ranges
pub pieces_readable : (k : SchedulingTask) (ps : List Piece) (rows : Timetable) → IsSound k
    → All IsPiece ps → Draws k.machines ps rows → Fits k rows → All IsReadablePiece ps
pieces_readable k ps rows sound pieces draws fits n d h =
    let p = get_or ps n d in
    let on = draws.on_machines n d h in
    let some = draws.numbered n d h in
    let range = pieces n d h in
    let going : IsGoing (p.machine - 1 + 1) (start_of p) p.job p =
    record {
      job = refl;
      machine = omega (arith, on.0);
      started = omega arith;
      going = time_lt p.start p.stop range.0.0 range.1;
    } in
    let stands =
    (draws.cells (p.machine - 1) (start_of p) p.job (omega (arith, on.0, on.1)) some).1
    (n, p, h, get_or_default ps n p d h, going) in
    let within =
    cell_within (length k.jobs) rows (start_of p) (p.machine - 1) fits.broken.jobs_only in (
      (omega (arith, some), omega (arith, stands, within, sound.few_jobs)),
      (omega (arith, on.0), omega (arith, on.1, sound.few_machines)),
      (omega (arith, ints, range.0.0), omega (arith, ints, range.0.1, range.1)),
      (omega (arith, ints, range.0.0, range.1), range.0.1),
    )

-- a delta that some job reaches is within the limit
delta_within : (k : SchedulingTask) (side : List ℕ) (delta : ℤ) (first : Bool) → IsSound k
    → (int_le (pos 0) delta ≡ true)
    × ((x : ℕ) × IsJob k x × (reaches_delta k side delta first x ≡ true)) → IsWithin delta
delta_within k side (negsuc d) first sound reach = absurd (false≢true reach.0)
delta_within k side (pos d) true sound (above, (x, is, reached)) =
    let le : d ≤ time_on k x 0 =
    leb-true d (time_on k x 0)
    (and_parts (not (stands_in side x)) (nat_le d (time_on k x 0)) reached).1 in
    (omega (arith, ints), omega (arith, ints, le, time_limit k x sound is))
delta_within k side (pos d) false sound (above, (x, is, reached)) =
    let le : d ≤ time_on k x 1 =
    leb-true d (time_on k x 1)
    (and_parts (stands_in side x) (nat_le d (time_on k x 1)) reached).1 in
    (omega (arith, ints), omega (arith, ints, le, time_limit k x sound is))

-- what a certificate that bounds the task says is in its ranges
pub claim_readable : (k : SchedulingTask) (layout : Layout) (claim : Claim) (b : ℤ) → IsSound k
    → bound_by claim k ≡ Ok b → IsReadableClaim layout claim
claim_readable k layout ByPairs b sound e = tt
claim_readable k layout (ByLastOf jobs) b sound e =
    jobs_listed k layout jobs sound (last_of_says k jobs b e).1
claim_readable k layout (ByWindow jobs) b sound e =
    jobs_listed k layout jobs sound (window_says k jobs b e).1
claim_readable k layout (BySplit side delta first) b sound e =
    let says = split_says k side delta first b e in (
      jobs_listed k layout side sound says.1,
      delta_within k side delta first sound (delta_fault_says k side delta first says.3),
    )
claim_readable k layout ByLoad b sound e = tt
claim_readable k layout (ByMachine machine) b sound e =
    let says = machine_says k machine b e in (says.1, omega (arith, says.2))
claim_readable k layout (ByOneJob j) b sound e = job_count k j sound (one_job_says k j b e).1
claim_readable k layout (ByRanks jobs) b sound e = jobs_count k jobs sound (ranks_says k jobs b e).1

-- a notation that is accepted for a request means the problem
problem_read : (line : List ℕ) (problem : Problem) → problem_for line ≡ Ok problem → IsRead problem
problem_read line problem ok = by_notation (notation line) refl ok
  where
    by_class : (p : Problem) (class : Option Class) → with_class p class ≡ Ok problem → p ≡ problem
    by_class p None e = cc
    by_class p (Some class) e = cc

    by_notation : (r : Result Problem ℕ) → notation line ≡ r
        → (refused_by ByNotation r >>= λ p. with_class p (class_of p)) ≡ Ok problem → IsRead problem
    by_notation (Ok p) is e = (line, is ∙ ap Ok (by_class p (class_of p) e))
    by_notation (Err byte) is e = cc

-- the sheet of an accepted answer can be read back in either layout
pub sheet_readable : (request : RequestData) (k : SchedulingTask) (sheet : SheetData)
    (layout : Layout)
    → IsSound k
    → problem_for request.problem ≡ Ok sheet.problem → sheet.jobs ≡ length k.jobs
    → sheet.machines ≡ k.machines → IsAccepted k sheet.answer
    → FitsSigned w64 sheet.answer.value → IsReadable layout sheet
sheet_readable request k sheet layout sound problem jobs machines accepted value = record {
  problem = problem_read request.problem sheet.problem problem;
  jobs = (omega (arith, jobs, sound.some_job), omega (arith, jobs, sound.few_jobs));
  machines = (
    omega (arith, machines, sound.some_machine),
    omega (arith, machines, sound.few_machines),
  );
  value = value;
  pieces = by_recursion IsReadablePiece sheet.answer.pieces
      (pieces_readable k sheet.answer.pieces accepted.rows sound accepted.pieces accepted.draws
      accepted.fits);
  certificate =
      claim_readable k layout sheet.answer.certificate accepted.bound sound accepted.bounded;
}
