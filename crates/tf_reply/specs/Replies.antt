-- How a command over texts in memory ends.
use Rattle.std.specs.Prelude.{◌≡◌, ◌≢◌, ℕ, ◌⊎◌, List, [], ◌++◌, None, Some, Ok, Err}
use Rattle.tf_listing.specs.Listing.{listing}
use Rattle.tf_listing.specs.declared.listing.Listed.TheVariants.{Solved}
use Rattle.tf_model.specs.InstanceData.{InstanceData}
use Rattle.tf_read.specs.JobTable.{job_table}
use Rattle.tf_text.specs.Counted.{DeviceUse, inner_of}
use Rattle.tf_engine.specs.declared.fault.RunFault.{RunFault}
use Rattle.tf_engine.specs.Faults.{Refused, Refuses, stop_of}
use Rattle.tf_engine.specs.FormData.{InTable}
use Rattle.tf_engine.specs.Parts.{instance_said}
use Rattle.tf_command.specs.FaultLine.{fault_line}
use Rattle.tf_reply.specs.declared.reply.Reply.{Reply}

-- a statement on what a command prints, on what it says of faults, and on its status
abbrev pub Outcome : Type 1
Outcome = List ℕ → List ℕ → ℕ → Type 0

-- what a reply prints
abbrev pub printed : {A : Type 0} → Reply A → List ℕ
printed reply = (inner_of reply.console.output).items

-- and what it says of faults
abbrev pub said : {A : Type 0} → Reply A → List ℕ
said reply = (inner_of reply.console.errors).items

-- a reply with this outcome
abbrev pub Replies : {A : Type 0} → Outcome → Reply A → Type 0
Replies Ends reply = Ends (printed reply) (said reply) reply.status

-- the request is misused, and nothing is printed
abbrev pub IsMisused : List ℕ → ℕ → Type 0
IsMisused output status = (status ≡ 5) × (output ≡ [])

-- a request that is well formed ends so, and any other is misused
abbrev pub IfWellFormed : Type 0 → Outcome → Outcome
IfWellFormed WellFormed Ends output errors status =
    (WellFormed × Ends output errors status) ⊎ ((¬ WellFormed) × IsMisused output status)

-- memory has sufficed, for the devices too, which are memory
abbrev pub HadMemory : ℕ → Type 0
HadMemory status = (status ≢ 3) × (status ≢ 4)

-- a device that held this text, all of which was still to be read
abbrev pub Held : List ℕ → DeviceUse → Type 0
Held text device = device.before ≡ Some text

-- a device that held nothing, and then this text
abbrev pub Prints : List ℕ → DeviceUse → Type 0
Prints text device = (device.before ≡ Some []) × (device.after ≡ Some text)

-- A command ends so with this status, where its instance, or its answer, is this text, and `output`
-- and `errors` are what it prints.
pub record IsOver (Ends : DeviceUse → DeviceUse → (List ℕ → Type 0) → ℕ → Type 0)
    (text output errors : List ℕ) (status : ℕ) : Type 0 where
  pub reader : DeviceUse
  pub writer : DeviceUse
  pub reads : Held text reader
  pub prints : Prints output writer
  pub ends : Ends reader writer (λ line. errors ≡ line) status
  pub memory : HadMemory status

-- the same of an instance and an answer
pub record IsOverBoth
    (Ends : DeviceUse → DeviceUse → DeviceUse → (List ℕ → Type 0) → ℕ → Type 0)
    (instance answer output errors : List ℕ) (status : ℕ) : Type 0 where
  pub reader : DeviceUse
  pub answer_reader : DeviceUse
  pub writer : DeviceUse
  pub reads : Held instance reader
  pub reads_answer : Held answer answer_reader
  pub prints : Prints output writer
  pub ends : Ends reader answer_reader writer (λ line. errors ≡ line) status
  pub memory : HadMemory status

-- An instance is solved, and its answer evaluated: both texts are printed, one behind the other.
pub record IsReported (Solves : DeviceUse → DeviceUse → (List ℕ → Type 0) → ℕ → Type 0)
    (Evaluates : DeviceUse → DeviceUse → DeviceUse → (List ℕ → Type 0) → ℕ → Type 0)
    (instance output errors : List ℕ) (status : ℕ) : Type 0 where
  pub answer : List ℕ
  pub evaluation : List ℕ
  pub unsaid : List ℕ
  pub solved : IsOver Solves instance answer unsaid 0
  pub evaluated : IsOverBoth Evaluates instance answer evaluation errors status
  pub prints : output ≡ answer ++ evaluation

-- that, or it is not solved
abbrev pub EndsReport : (DeviceUse → DeviceUse → (List ℕ → Type 0) → ℕ → Type 0)
    → (DeviceUse → DeviceUse → DeviceUse → (List ℕ → Type 0) → ℕ → Type 0) → List ℕ → Outcome
EndsReport Solves Evaluates instance output errors status =
    IsReported Solves Evaluates instance output errors status
    ⊎ ((status ≢ 0) × IsOver Solves instance output errors status)

-- a table is refused with the line of what is wrong with it, and nothing is printed
pub record IsTableRefused (A : Type 0) (table output errors : List ℕ) (status : ℕ) : Type 0 where
  pub given : table ≢ []
  pub refused : Refused
  pub wanted : instance_said InTable table ≡ Err refused
  pub fault : RunFault A
  pub because : stop_of fault ≡ Refuses refused
  pub line : errors ≡ fault_line fault
  pub ends : status ≡ 2
  pub unprinted : output ≡ []

-- the list of the problems: for the table that is given, or of all where none is
abbrev pub IsListFor : List ℕ → List ℕ → Type 0
IsListFor table output =
    ((table ≡ []) × (output ≡ listing Solved None))
    ⊎ ((instance : InstanceData) × (job_table table ≡ Ok instance)
    × (output ≡ listing Solved (Some instance)))

-- the list is printed and nothing is said of faults, or the table is refused
abbrev pub IsListed : Type 0 → List ℕ → Outcome
IsListed A table output errors status =
    ((status ≡ 0) × (errors ≡ []) × IsListFor table output)
    ⊎ IsTableRefused A table output errors status
