-- What is said as JSON of a text that is not read.
use Rattle.std.proofs.Common.{◌≡◌, ℕ, true, false, List, [], ◌++◌, Option, None, inl, inr, refl, ap, subst, ◌∙◌, append-nil}
use Rattle.std.specs.Io.KnownBytes.{Keeps}
use Rattle.tf_text.specs.declared.counted.Counted.{Counted}
use Rattle.tf_text.specs.Counted.{DeviceUse, inner_of}
use Rattle.tf_export.specs.Faults.{fault_json}
use Rattle.tf_asked.specs.declared.series.Series.{Series}
use Rattle.tf_command.specs.Ending.{SaysLine}
use Rattle.tf_command.specs.FaultLine.{fault_line}
use Rattle.tf_command.specs.Formatted.{Memory, held}
use Rattle.tf_command.specs.Unread.{IsUnread, Texts}
use Rattle.tf_command.specs.Wrote.{Wrote}
use Rattle.tf_command.proofs.Saying.{says_alone}
use Rattle.tf_held.specs.Series.{IsUnreadFor, SaidKept}

module _ {E : Type 0} (contents : E → Option (List ℕ)) (texts : Texts) (series : Series)
    (writer : DeviceUse) (old new : Counted E) where
  -- it was said in memory first
  pub unread_again : (kept : DeviceUse) (before after : Memory) (wanted status : ℕ)
      → series.json ≡ true → (inner_of before.errors).items ≡ []
      → IsUnread texts kept (SaysLine held false before.errors after.errors) wanted
      → Keeps writer.before writer.after → SaidKept contents after wanted old new status
      → IsUnreadFor texts series writer (SaysLine contents false old new) status
  unread_again kept before after wanted status json silent u keeps (inl again) =
      let line = fault_line u.fault in
      let said : (inner_of after.errors).items ≡ line =
      u.said.wrote.written again.whole
      ∙ ap (λ (front : List ℕ). front ++ (line ++ u.said.explanation)) silent
      ∙ ap (λ (more : List ℕ). line ++ more) (u.said.alone refl)
      ∙ append-nil line in
      inl (record {
        fault = u.fault;
        why = u.why;
        unwritten = keeps;
        ends = again.ends ∙ u.ends;
        said = rw json (says_alone (subst (λ (text : List ℕ). Wrote contents old new
            (fault_json None text)) said again.wrote));
      })
  unread_again kept before after wanted status json silent u keeps (inr (three, wrote)) =
      inr (record { unwritten = keeps; ends = three; said = rw json (says_alone wrote) })
