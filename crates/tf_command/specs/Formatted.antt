-- Output in the format of another program.
use Rattle.std.specs.Prelude.{◌≡◌, ◌⊎◌, ℕ, Bool, true, false, List, [], ◌∷◌, Option, None, Some, codes}
use Rattle.std.specs.declared.alloc.Global.{Global}
use Rattle.std.specs.declared.vec.Vec.{Vec}
use Rattle.std.specs.Io.KnownBytes.{Appends, Keeps}
use Rattle.tf_text.specs.Counted.{DeviceUse, AppendsPrefix, inner_of, has_failed, use_of}
use Rattle.tf_export.specs.Csv.{csv_of}
use Rattle.tf_export.specs.Documents.{json_of}
use Rattle.tf_export.specs.Faults.{fault_json}
use Rattle.tf_export.specs.OrderRows.{orders_csv}
use Rattle.tf_export.specs.Tally.{summarized}
use Rattle.tf_command.specs.Ending.{SaysLine}
use Rattle.tf_command.specs.Wrote.{Wrote}
use Rattle.tf_command.specs.declared.console.Console.{Console}
use Rattle.tf_asked.specs.declared.format.Format.{Format}
use Rattle.tf_asked.specs.declared.format.Format.TheVariants.{Json, Csv, OrderRows, MeasuredRows, Summary}

-- a text that a command printed, in a format, and nothing where it printed nothing
abbrev pub formatted : Format → List ℕ → List ℕ
formatted (Json document) [] = []
formatted (Csv table) [] = []
formatted OrderRows [] = []
formatted MeasuredRows [] = []
formatted Summary [] = []
formatted (Json document) (byte ∷ bytes) = json_of document None (byte ∷ bytes)
formatted (Csv table) (byte ∷ bytes) = csv_of table (byte ∷ bytes)
formatted OrderRows (byte ∷ bytes) = orders_csv false (byte ∷ bytes)
formatted MeasuredRows (byte ∷ bytes) = orders_csv true (byte ∷ bytes)
formatted Summary (byte ∷ bytes) = summarized (byte ∷ bytes)

-- what a command said on standard error, in a format, which all but JSON leave as it is
abbrev pub said_in : Format → List ℕ → List ℕ
said_in (Json document) text = fault_json None text
said_in (Csv table) text = text
said_in OrderRows text = text
said_in MeasuredRows text = text
said_in Summary text = text

-- what is said where there was no memory, and where standard output failed
abbrev pub memory_line : Format → List ℕ
memory_line (Json document) = codes "{\"version\":1,\"fault\":\"want of memory\"}\n"
memory_line (Csv table) = codes "threefield: want of memory\n"
memory_line OrderRows = codes "threefield: want of memory\n"
memory_line MeasuredRows = codes "threefield: want of memory\n"
memory_line Summary = codes "threefield: want of memory\n"

abbrev pub device_line : Format → List ℕ
device_line (Json document) = codes "{\"version\":1,\"fault\":\"device fault\"}\n"
device_line (Csv table) = codes "threefield: device fault\n"
device_line OrderRows = codes "threefield: device fault\n"
device_line MeasuredRows = codes "threefield: device fault\n"
device_line Summary = codes "threefield: device fault\n"

-- where texts are kept in memory
abbrev pub Memory : Type 0
Memory = Console (Vec ℕ Global) (Vec ℕ Global)

-- what is kept
abbrev pub held : Vec ℕ Global → Option (List ℕ)
held v = Some v.items

-- both texts were kept whole, and in a format they are these
pub record HasPrinted (kept : Memory) (format : Format) (output errors : List ℕ) : Type 0 where
  pub whole : has_failed kept.writer ≡ false
  pub told : has_failed kept.errors ≡ false
  pub output_is : output ≡ formatted format (inner_of kept.writer).items
  pub errors_is : errors ≡ said_in format (inner_of kept.errors).items

-- what is to be done was done with its texts kept in memory, and in a format they are these
pub record Prints
    (Does : DeviceUse → (List ℕ → Type 0) → (Bool → List ℕ → Type 0) → ℕ → Type 0)
    (format : Format) (output errors : List ℕ) (status : ℕ) : Type 0 where
  pub before : Memory
  pub after : Memory
  pub blank : (inner_of before.writer).items ≡ []
  pub silent : (inner_of before.errors).items ≡ []
  pub done : Does (use_of held before.writer after.writer) (Wrote held before.errors after.errors)
      (λ explain. SaysLine held explain before.errors after.errors) status
  pub texts : HasPrinted after format output errors

-- both texts were written, with this status
pub record IsWritten (writer : DeviceUse) (says : List ℕ → Type 0) (output errors : List ℕ)
    (wanted status : ℕ) : Type 0 where
  pub written : Appends writer.before writer.after output
  pub said : says errors
  pub ends : status ≡ wanted

-- a prefix of the first was, since standard output failed
pub record IsCutOff (writer : DeviceUse) (says : List ℕ → Type 0) (output line : List ℕ)
    (status : ℕ) : Type 0 where
  pub failed : writer.failed ≡ true
  pub prefix : AppendsPrefix writer.before writer.after output
  pub said : says line
  pub ends : status ≡ 4

-- nothing was, since there was no memory
pub record IsUnwritten (writer : DeviceUse) (says : List ℕ → Type 0) (line : List ℕ) (status : ℕ)
    : Type 0 where
  pub unwritten : Keeps writer.before writer.after
  pub said : says line
  pub ends : status ≡ 3

-- what was kept of a command of this status is written in a format
abbrev pub EndsKept : Memory → ℕ → Format → DeviceUse → (List ℕ → Type 0) → ℕ → Type 0
EndsKept kept wanted format writer says status =
    ((output : List ℕ) × (errors : List ℕ) × HasPrinted kept format output errors
    × (IsWritten writer says output errors wanted status
    ⊎ IsCutOff writer says output (device_line format) status))
    ⊎ IsUnwritten writer says (memory_line format) status

-- what is to be done was done, and is written in a format
abbrev pub EndsFormatted : (DeviceUse → (List ℕ → Type 0) → (Bool → List ℕ → Type 0) → ℕ → Type 0)
    → Format → DeviceUse → (List ℕ → Type 0) → ℕ → Type 0
EndsFormatted Does format writer says status =
    ((output : List ℕ) × (errors : List ℕ) × (wanted : ℕ)
    × Prints Does format output errors wanted
    × (IsWritten writer says output errors wanted status
    ⊎ IsCutOff writer says output (device_line format) status))
    ⊎ IsUnwritten writer says (memory_line format) status
