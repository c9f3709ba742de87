-- A part of a run that reads an answer text.
use Rattle.std.proofs.Common.{◌≡◌, ℕ, zero, suc, ◌+◌, ◌-◌, ◌<◌, ◌≤◌, true, false, List, Option, Result, Ok, Err, length, ◌⊎◌, inl, inr, refl, sym, subst, ◌∙◌, arith}
use Rattle.std.specs.Io.KnownBytes.{Consumes, IsAtEnd}
use Rattle.tf_model.specs.Limit.{most_bytes}
use Rattle.tf_words.specs.Words.{lines, kept_lines}
use Rattle.tf_text.specs.declared.counted.Counted.{Counted}
use Rattle.tf_text.specs.Counted.{inner_of, pulled_of, has_failed, ConsumesAtMost}
use Rattle.tf_text.specs.Input.{IsTextOf}
use Rattle.tf_text.specs.AnswerText.{SheetData}
use Rattle.tf_text.specs.AnswerReading.{Fails, sheet_of, answer_in}
use Rattle.tf_text.specs.declared.answer.fault.AnswerFault.{AnswerFault}
use Rattle.tf_text.specs.declared.answer.fault.AnswerFault.TheVariants as answers
use Rattle.tf_engine.specs.declared.fault.RunFault.TheVariants.{Device, OutOfMemory}
use Rattle.tf_engine.specs.Faults.{end_of, is_past_answer, answers_or}
use Rattle.tf_engine.specs.Parts.{ReadsSheet}
use Rattle.tf_engine.specs.Passed.{of_answer}
use Rattle.tf_text.proofs.Stages.{in_reach, too_long}
use Rattle.tf_engine.proofs.ReadThrough.{all_given, longer}
use Rattle.tf_engine.proofs.Unread.{text_for, long_text_for}

-- the outcome of a whole text
abbrev Outcome : Type 0
Outcome = Result SheetData AnswerFault

abbrev outcome : Outcome → Outcome
outcome result = result

module _ (A T : Type 0) (remaining : T → Option (List ℕ)) (old new : Counted T)
    (counted : pulled_of new ≤ pulled_of old + (most_bytes + 1)) where
  abbrev first : Option (List ℕ)
  first = remaining (inner_of old)

  abbrev last : Option (List ℕ)
  last = remaining (inner_of new)

  -- the reader failed
  pub sheet_failing : has_failed new ≡ true → ConsumesAtMost (most_bytes + 1) first last
      → ReadsSheet {A = A} remaining old new (Err Device)
  sheet_failing failed pulled =
      let (text, is) = text_for first in
      record {
        text = text;
        is_all = is;
        given = failed;
        reader = record {
          unfailed = λ h. cc;
          ended = λ h. cc;
          pulled = pulled;
          counted = counted;
        };
      }

  module _ (ok : has_failed new ≡ false) where
    -- memory was wanting
    sheet_wanting : ConsumesAtMost (most_bytes + 1) first last
        → ReadsSheet {A = A} remaining old new (Err OutOfMemory)
    sheet_wanting pulled =
        let (text, is) = text_for first in
        record {
          text = text;
          is_all = is;
          given = tt;
          reader = record {
            unfailed = λ h. ok;
            ended = λ h. cc;
            pulled = pulled;
            counted = counted;
          };
        }

    -- a fault of a text that is all that is known
    faulty : (e : AnswerFault) (text : List ℕ) → IsTextOf first text → answer_in text ≡ Err e
        → (answers_or is_past_answer (end_of {X = SheetData} {A = A} (Err (of_answer e))) ≡ true → IsAtEnd last)
        → ConsumesAtMost (most_bytes + 1) first last
        → ReadsSheet {A = A} remaining old new (Err (of_answer e))
    faulty answers.OutOfMemory text is h end pulled = sheet_wanting pulled
    faulty e text is h end pulled = record {
      text = text;
      is_all = is;
      given = (e, refl, h);
      reader = record {
        unfailed = λ r. ok;
        ended = end;
        pulled = pulled;
        counted = counted;
      };
    }

    module _ (bytes : List ℕ) (few : length bytes ≤ most_bytes + 1)
        (given : Consumes first last bytes)
        (ended : IsAtEnd last ⊎ (most_bytes < length bytes)) where
      -- a text that is not too long was read to its end
      at_end : length bytes ≤ most_bytes → IsAtEnd last
      at_end short = elim ended [ inl end ↦ end | inr more ↦ absurd (omega (arith, short, more)) ]

      -- the sheet that all bytes say
      pub sheet_said : (left : ℕ) (sheet : SheetData) → left ≡ most_bytes + 1 - length bytes
          → (left ≡ 0 → outcome (Ok sheet) ≡ Err answers.TooLong)
          → (0 < left → sheet_of (kept_lines 1 (lines bytes)) ≡ Ok sheet)
          → ReadsSheet {A = A} remaining old new (Ok sheet)
      sheet_said zero sheet is long says =
          absurd (let h : outcome (Ok sheet) ≡ Err answers.TooLong = long refl in
          let f : ⊥ = cc in f)
      sheet_said (suc n) sheet is long says =
          let short : length bytes ≤ most_bytes = omega (arith, is) in
          record {
            text = bytes;
            is_all = all_given first last bytes given (at_end short);
            given = in_reach bytes short ∙ says (omega arith);
            reader = record {
              unfailed = λ r. ok;
              ended = λ r. at_end short;
              pulled = (bytes, few, given);
              counted = counted;
            };
          }

      -- a fault of all bytes
      refused : (e : AnswerFault) → length bytes ≤ most_bytes
          → Fails e (sheet_of (kept_lines 1 (lines bytes)))
          → ReadsSheet {A = A} remaining old new (Err (of_answer e))
      refused answers.OutOfMemory short h = sheet_wanting (bytes, few, given)
      refused e short h =
          faulty e bytes (all_given first last bytes given (at_end short)) (in_reach bytes short ∙ h)
          (λ r. at_end short) (bytes, few, given)

      -- their first fault, or that of a text that is too long
      pub sheet_refused : (left : ℕ) (e : AnswerFault) → left ≡ most_bytes + 1 - length bytes
          → (left ≡ 0 → outcome (Err e) ≡ Err answers.TooLong)
          → (0 < left → Fails e (sheet_of (kept_lines 1 (lines bytes))))
          → ReadsSheet {A = A} remaining old new (Err (of_answer e))
      sheet_refused zero e is long says =
          let more : most_bytes < length bytes = omega (arith, is) in
          let (text, is, longer_than) =
          long_text_for first most_bytes (longer first last bytes given more) in
          let both : outcome (Err e) ≡ Err answers.TooLong = long refl in
          let same : e ≡ answers.TooLong = cc in
          subst (λ f. ReadsSheet {A = A} remaining old new (Err (of_answer f))) (sym same)
          (faulty answers.TooLong text is (too_long text longer_than) (λ r. cc)
          (bytes, few, given))
      sheet_refused (suc n) e is long says = refused e (omega (arith, is)) (says (omega arith))
