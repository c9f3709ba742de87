-- Whole texts that are read first, by their names.
use Rattle.std.specs.Prelude.{◌≡◌, ◌<◌, ◌⊎◌, ℕ, List, length, Option, IfSome}
use Rattle.std.specs.declared.alloc.Global.{Global}
use Rattle.std.specs.Io.KnownBytes.{Keeps}
use Rattle.tf_text.specs.Counted.{DeviceUse}
use Rattle.tf_model.specs.Limit.{most_bytes}
use Rattle.tf_read.specs.declared.fault.ReadFault.TheVariants.{TooLong}
use Rattle.tf_engine.specs.declared.fault.RunFault.{RunFault}
use Rattle.tf_engine.specs.declared.fault.RunFault.TheVariants.{Device, OutOfMemory, Text}
use Rattle.tf_command.specs.FaultLine.{fault_line}
use Rattle.tf_command.specs.Statuses.{status_of}

-- the bytes of the text of each name, where they are known
abbrev pub Texts : Type 0
Texts = List ℕ → Option (List ℕ)

-- why a text is not read: its file failed, there was no memory, or it has more bytes than a text may
-- have, where they are known
abbrev pub IsNotRead : Texts → RunFault Global → Type 0
IsNotRead texts fault =
    (fault ≡ Device) ⊎ (fault ≡ OutOfMemory)
    ⊎ ((fault ≡ Text TooLong)
    × ((name : List ℕ) × IfSome (texts name) (λ all. most_bytes < length all)))

-- a text is not read: the line says why, and nothing was written
pub record IsUnread (texts : Texts) (writer : DeviceUse) (says : List ℕ → Type 0) (status : ℕ)
    : Type 0 where
  pub fault : RunFault Global
  pub why : IsNotRead texts fault
  pub unwritten : Keeps writer.before writer.after
  pub ends : status ≡ status_of fault
  pub said : says (fault_line fault)
