-- The instance of a job table.
use Rattle.std.proofs.Common.{◌≡◌, ℕ, List, Option, Result, Ok, Err, IfOk, refl}
use Rattle.tf_model.specs.InstanceData.{InstanceData}
use Rattle.tf_read.specs.JobTable.{job_table}
use Rattle.tf_read.specs.declared.fault.ReadFault.{ReadFault}
use Rattle.tf_text.specs.declared.counted.Counted.{Counted}
use Rattle.tf_text.specs.Counted.{inner_of}
use Rattle.tf_engine.specs.declared.fault.RunFault.{RunFault}
use Rattle.tf_engine.specs.Faults.{ByText}
use Rattle.tf_engine.specs.FormData.{InTable}
use Rattle.tf_engine.specs.Parts.{ReadsTo, instance_said}
use Rattle.tf_engine.specs.Refusal.{refused_by}
use Rattle.tf_command.specs.Performing.{IsInTable}

-- what is not refused is given
given : (r : Result InstanceData ReadFault) (i : InstanceData) → refused_by ByText r ≡ Ok i
    → r ≡ Ok i
given (Ok x) i h = let same : x ≡ i = cc in rw same refl
given (Err fault) i h = cc

-- a table that was read has the instance that its bytes mean
pub in_table : (A T : Type 0) (remaining : T → Option (List ℕ)) (old new : Counted T)
    (r : Result InstanceData (RunFault A)) → ReadsTo (instance_said InTable) remaining old new r
    → IfOk r (IsInTable (remaining (inner_of old)))
in_table A T remaining old new (Ok i) had =
    (had.text, had.is_all, given (job_table had.text) i had.given)
in_table A T remaining old new (Err e) had = tt
