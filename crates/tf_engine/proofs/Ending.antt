-- Runs, from what their parts gave and how they end: once for all of them.
use Rattle.std.proofs.Common.{◌≡◌, ◌⊎◌, ℕ, List, true, false, Option, None, Some, Result, Ok, Err, MatchResult, IsErrAnd, refl, inl, inr}
use Rattle.std.proofs.KnownBytes.{Keeps-refl}
use Rattle.tf_model.specs.declared.problem.Problem.{Problem}
use Rattle.tf_model.specs.SchedulingTask.{SchedulingTask}
use Rattle.tf_single.specs.NotSolved.{IsNamedCycle, IsNotSolved}
use Rattle.tf_single.specs.declared.lawler_fault.LawlerFault.{LawlerFault}
use Rattle.tf_single.specs.declared.lawler_fault.LawlerFault.TheVariants as solves
use Rattle.tf_text.specs.declared.counted.Counted.{Counted}
use Rattle.tf_text.specs.Counted.{has_failed, use_of}
use Rattle.tf_engine.specs.declared.fault.RunFault.{RunFault}
use Rattle.tf_engine.specs.declared.fault.RunFault.TheVariants.{OutOfMemory}
use Rattle.tf_engine.specs.declared.output.Output.{Output}
use Rattle.tf_engine.specs.Devices.{LeavesReader, LeavesInstance, LeavesBoth, LeavesAll, LeavesDrawing, LeavesRun, LeavesCase}
use Rattle.tf_engine.specs.Faults.{Refused, ByCycle, Stop, Refuses, Fails, Wants, is_on_instance, stop_of, end_of}
use Rattle.tf_engine.specs.Outputs.{Makes, MakesOutput, Ends, EndsOutput, Writes}
use Rattle.tf_engine.specs.Parts.{StopsBy, StopsReading}
use Rattle.tf_engine.specs.Passed.{of_solve}
use Rattle.tf_engine.specs.Runs.{Run, IsOutcome}
use Rattle.tf_engine.proofs.Devices.{reader_sound, reader_later, instance_sound, instance_later, both_sound, both_later, stopped as left, cut, wrote}
use Rattle.tf_engine.proofs.Unread.{err_is, reading_stops}

-- ---- what is made

-- a task that is not solved has the cycle that is named
pub unsolved : {A : Type 0} (k : SchedulingTask) (f : LawlerFault A) → IsNotSolved k f
    → StopsBy (λ refused. (jobs : List ℕ) × (refused ≡ ByCycle jobs) × IsNamedCycle k jobs)
    (stop_of (of_solve f))
unsolved k (solves.Cycle jobs) cycle = (jobs, refl, cycle)
unsolved k solves.OutOfMemory h = tt

-- such a refusal has nothing to do with how the instance was read
pub not_on_instance : {P : Refused → Type 0}
    → ((refused : Refused) → P refused → is_on_instance (Refuses refused) ≡ false)
    → (s : Stop) → StopsBy P s → is_on_instance s ≡ false
not_on_instance later (Refuses refused) h = later refused h
not_on_instance later Fails h = absurd h
not_on_instance later Wants h = refl

-- what stops a part that reads, or one that reads nothing, stops the run
reading_more : {P Q : Refused → Type 0} {F R : Type 0}
    → ((refused : Refused) → P refused → Q refused) → (F → R) → (s : Stop) → StopsReading P F s → StopsReading Q R s
reading_more more read (Refuses refused) h = more refused h
reading_more more read Fails h = read h
reading_more more read Wants h = h

stops_more : {P Q : Refused → Type 0} (R : Type 0) → ((refused : Refused) → P refused → Q refused)
    → (s : Stop) → StopsBy P s → StopsReading Q R s
stops_more R more (Refuses refused) h = more refused h
stops_more R more Fails h = absurd h
stops_more R more Wants h = h

module _ {A T X M : Type 0} {run : Run T X} {Gives : T → M → Type 0}
    {Readers : Option Stop → Type 0} {r : Result M (RunFault A)} where
  -- a part that reads stopped the run
  pub unread : (e : RunFault A) (texts : T) → run.Over texts → {P : Refused → Type 0} {F : Type 0}
      → ((refused : Refused) → P refused → run.IsRefused texts refused)
      → (F → run.ReaderFailed texts) → StopsReading P F (stop_of e) → Readers (Some (stop_of e))
      → IsErrAnd r (λ f. f ≡ e) → Makes run Gives Readers r
  unread e texts all more read h readers is =
      err_is (Makes run Gives Readers) e r is (record {
        texts = texts;
        are_all = all;
        given = reading_more more read (stop_of e) h;
        readers = readers;
      })

  -- a part after it did
  pub stopped : (e : RunFault A) (texts : T) → run.Over texts → {P : Refused → Type 0}
      → ((refused : Refused) → P refused → run.IsRefused texts refused)
      → StopsBy P (stop_of e) → Readers (Some (stop_of e)) → IsErrAnd r (λ f. f ≡ e)
      → Makes run Gives Readers r
  stopped e texts all more h readers is =
      err_is (Makes run Gives Readers) e r is (record {
        texts = texts;
        are_all = all;
        given = stops_more (run.ReaderFailed texts) more (stop_of e) h;
        readers = readers;
      })

  -- memory was wanting
  pub wanting : (texts : T) → run.Over texts → Readers (Some Wants)
      → IsErrAnd r (λ f. f ≡ OutOfMemory) → Makes run Gives Readers r
  wanting texts all readers is =
      err_is (Makes run Gives Readers) OutOfMemory r is
      (record { texts = texts; are_all = all; given = tt; readers = readers })

  -- the last part stopped the run, or gave what it makes
  pub passed : (texts : T) → run.Over texts → {Is : M → Type 0} {P : Refused → Type 0}
      → ((m : M) → Is m → Gives texts m)
      → ((refused : Refused) → P refused → run.IsRefused texts refused)
      → Readers None → ((s : Stop) → StopsBy P s → Readers (Some s))
      → MatchResult r Is (λ e. StopsBy P (stop_of e)) → Makes run Gives Readers r
  passed texts all {Is = Is} {P = P} gives more readers later = by r
    where
      by : (r : Result M (RunFault A)) → MatchResult r Is (λ e. StopsBy P (stop_of e))
          → Makes run Gives Readers r
      by (Ok m) is =
          record { texts = texts; are_all = all; given = gives m is; readers = readers }
      by (Err e) h = record {
        texts = texts;
        are_all = all;
        given = stops_more (run.ReaderFailed texts) more (stop_of e) h;
        readers = later (stop_of e) h;
      }

-- ---- the run ended

module _ {A T X V M : Type 0} {run : Run T X} {Gives : T → M → Type 0}
    {Readers : Option Stop → Type 0} {returned : M → X} {text : M → List ℕ}
    {contents : V → Option (List ℕ)} {old new : Counted V} {made : Result M (RunFault A)}
    {result : Result X (RunFault A)} where
  -- it wrote what was made
  pub ends_by : ((texts : T) (m : M) → Gives texts m → run.Says texts (returned m) (text m))
      → Makes run Gives Readers made → Ends returned text contents old new made result
      → IsOutcome run (use_of contents old new) result
  ends_by = by made
    where
      ended : (m : M) (texts : T) → run.Over texts → run.Says texts (returned m) (text m)
          → Writes contents old new (text m) (returned m) result
          → IsOutcome run (use_of contents old new) result
      ended m texts all says (inl whole) = rw whole.is (record {
        texts = texts;
        are_all = all;
        outcome = (text m, says, whole.appended);
      })
      ended m texts all says (inr (inl cut)) = rw cut.is (record {
        texts = texts;
        are_all = all;
        outcome = inr (cut.failed, (text m, (returned m, says), cut.prefix));
      })
      ended m texts all says (inr (inr (is, same))) =
          rw (is, same) (record { texts = texts; are_all = all; outcome = Keeps-refl _ })

      by : (made : Result M (RunFault A))
          → ((texts : T) (m : M) → Gives texts m → run.Says texts (returned m) (text m))
          → Makes run Gives Readers made → Ends returned text contents old new made result
          → IsOutcome run (use_of contents old new) result
      by (Err e) says makes ends =
          let (is, same) : (result ≡ Err e) × (new ≡ old) = ends.unmade in
          rw (is, same) (record {
            texts = makes.texts;
            are_all = makes.are_all;
            outcome = reading_stops (λ out. (x : X) × run.Says makes.texts x out)
                (run.IsRefused makes.texts) (run.IsRefused makes.texts)
                (run.ReaderFailed makes.texts) (run.ReaderFailed makes.texts) _ _
                (λ refused h. h) (λ h. h) (stop_of e) makes.given;
          })
      by (Ok m) says makes ends =
          ended m makes.texts makes.are_all (says makes.texts m makes.given) ends.written

  -- and left its devices so
  leaves : (ReaderFailed : Type 0) → (Readers None → ReaderFailed → ⊥)
      → (Readers None → Readers (Some Fails)) → (Readers None → Readers (Some Wants))
      → Makes run Gives Readers made → Ends returned text contents old new made result
      → LeavesAll Readers ReaderFailed old new (end_of result)
  leaves ReaderFailed sound failing wanted = by made
    where
      ended : (m : M) → Readers None → Writes contents old new (text m) (returned m) result
          → LeavesAll Readers ReaderFailed old new (end_of result)
      ended m had (inl whole) =
          rw whole.is (wrote Readers ReaderFailed old new (sound had) had whole.unfailed)
      ended m had (inr (inl short)) =
          rw short.is (cut Readers ReaderFailed old new (sound had) (failing had))
      ended m had (inr (inr (is, same))) =
          rw (is, same) (left Readers ReaderFailed old Wants (wanted had))

      by : (made : Result M (RunFault A)) → Makes run Gives Readers made
          → Ends returned text contents old new made result
          → LeavesAll Readers ReaderFailed old new (end_of result)
      by (Err e) makes ends =
          let (is, same) : (result ≡ Err e) × (new ≡ old) = ends.unmade in
          rw (is, same) (left Readers ReaderFailed old (stop_of e) makes.readers)
      by (Ok m) makes ends = ended m makes.readers ends.written

-- it wrote its output
pub ends_run : {A T X V : Type 0} {run : Run T X} {Readers : Option Stop → Type 0}
    {contents : V → Option (List ℕ)} {old new : Counted V}
    {made : Result (Output X A) (RunFault A)} {result : Result X (RunFault A)}
    → MakesOutput run Readers made → EndsOutput contents old new made result
    → IsOutcome run (use_of contents old new) result
ends_run = ends_by (λ texts output says. says)

-- the devices of a run over an answer, over an instance, and over both
module _ {A T X V M Y : Type 0} {run : Run T X} {Gives : T → M → Type 0} {returned : M → X}
    {text : M → List ℕ} {contents : V → Option (List ℕ)} {held written : Counted V}
    {made : Result M (RunFault A)} {result : Result X (RunFault A)}
    {remaining : Y → Option (List ℕ)} {old new : Counted Y} where
  pub leaves_drawing : Makes run Gives (LeavesReader remaining old new) made
      → Ends returned text contents held written made result
      → LeavesDrawing remaining old new held written (end_of result)
  leaves_drawing = leaves (has_failed new ≡ true) reader_sound
      (λ had. reader_later had (Some Fails)) (λ had. reader_later had (Some Wants))

  module _ {asked : Result Problem Refused} where
    pub leaves_instance : Makes run Gives (LeavesInstance asked remaining old new) made
        → Ends returned text contents held written made result
        → LeavesRun asked remaining old new held written (end_of result)
    leaves_instance = leaves (has_failed new ≡ true) instance_sound
        (λ had. instance_later had (Some Fails)) (λ had. instance_later had (Some Wants))

    pub leaves_case : {Z : Type 0} {giving : Z → Option (List ℕ)} {before after : Counted Z}
        → Makes run Gives (LeavesBoth asked remaining old new giving before after) made
        → Ends returned text contents held written made result
        → LeavesCase asked remaining old new giving before after held written (end_of result)
    leaves_case {after = after} = leaves ((has_failed new ≡ true) ⊎ (has_failed after ≡ true))
        both_sound (λ had. both_later had Fails refl) (λ had. both_later had Wants refl)
