-- What was kept in memory, written in a format.
use Rattle.std.proofs.Common.{◌≡◌, ℕ, Bool, List, [], inl, inr}
use Rattle.tf_text.specs.Counted.{DeviceUse, inner_of, use_of}
use Rattle.tf_command.specs.Ending.{SaysLine}
use Rattle.tf_command.specs.Wrote.{Wrote}
use Rattle.tf_command.specs.Formatted.{EndsFormatted, EndsKept, Memory, held}
use Rattle.tf_asked.specs.declared.format.Format.{Format}

-- what was done with its texts kept in memory is written
pub printed : (Does : DeviceUse → (List ℕ → Type 0) → (Bool → List ℕ → Type 0) → ℕ → Type 0)
    (format : Format) (before after : Memory) (wanted : ℕ) (writer : DeviceUse) (says : List ℕ → Type 0) (status : ℕ)
    → (inner_of before.writer).items ≡ [] → (inner_of before.errors).items ≡ []
    → Does (use_of held before.writer after.writer) (Wrote held before.errors after.errors)
    (λ explain. SaysLine held explain before.errors after.errors) wanted
    → EndsKept after wanted format writer says status → EndsFormatted Does format writer says status
printed Does format before after wanted writer says status blank silent done (inl written) = inl (
  written.0,
  written.1,
  wanted,
  record {
    before = before;
    after = after;
    blank = blank;
    silent = silent;
    done = done;
    texts = written.2;
  },
  written.3,
)
printed Does format before after wanted writer says status blank silent done (inr unwritten) =
    inr unwritten
