-- What picturing an answer with the dates of an instance leaves of its readers and its writer.
use Rattle.std.specs.Prelude.{◌≡◌, ℕ, false, List, Option, None, Some, Result, Ok, Err}
use Rattle.tf_model.specs.declared.problem.Problem.{Problem}
use Rattle.tf_text.specs.declared.counted.Counted.{Counted}
use Rattle.tf_engine.specs.declared.fault.RunFault.{RunFault}
use Rattle.tf_engine.specs.Devices.{LeavesReader, LeavesBoth, LeavesDrawing, LeavesCase}
use Rattle.tf_engine.specs.Faults.{is_on_instance, stop_of}
use Rattle.tf_dated.specs.declared.run_dated.Pictured.{Pictured}
use Rattle.tf_dated.specs.declared.run_dated.Pictured.TheVariants.{Drawn, OtherTask}

-- The run over an instance leaves of its other devices what every drawing run does. Where the answer
-- is for other jobs, its reader was read to its end and the writer is as it was. No fault is one of
-- the instance.
abbrev pub LeavesBeside : {A U V : Type 0} → (U → Option (List ℕ)) → Counted U → Counted U
    → Counted V → Counted V → Result Pictured (RunFault A) → Type 0
LeavesBeside giving before after held written (Ok Drawn) =
    LeavesDrawing giving before after held written None
LeavesBeside giving before after held written (Ok OtherTask) =
    LeavesReader giving before after None × (written ≡ held)
LeavesBeside giving before after held written (Err e) =
    (is_on_instance (stop_of e) ≡ false)
    × LeavesDrawing giving before after held written (Some (stop_of e))

-- The run leaves of its devices what every run over an instance and an answer does. It is asked no
-- problem line, so that is so for a line of any problem. Where the answer is for other jobs, both
-- readers were read to their ends and the writer is as it was.
abbrev pub LeavesDated : {A T U V : Type 0} → (T → Option (List ℕ)) → Counted T → Counted T
    → (U → Option (List ℕ)) → Counted U → Counted U → Counted V → Counted V
    → Result Pictured (RunFault A) → Type 0
LeavesDated remaining old new giving before after held written (Ok Drawn) =
    (problem : Problem)
    → LeavesCase (Ok problem) remaining old new giving before after held written None
LeavesDated remaining old new giving before after held written (Ok OtherTask) =
    ((problem : Problem) → LeavesBoth (Ok problem) remaining old new giving before after None)
    × (written ≡ held)
LeavesDated remaining old new giving before after held written (Err e) =
    (problem : Problem)
    → LeavesCase (Ok problem) remaining old new giving before after held written
    (Some (stop_of e))
