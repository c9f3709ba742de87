-- A part of a run that reads: the text that it speaks of, and what it says of it.
use Rattle.std.proofs.Common.{◌≡◌, ℕ, ◌+◌, ◌<◌, ◌≤◌, true, false, List, Option, None, Some, Result, Ok, Err, IfSome, length, ◌⊎◌, inl, inr, refl, sym, ap, ◌∙◌, arith, length-append}
use Rattle.std.specs.Io.KnownBytes.{Consumes, IsAtEnd}
use Rattle.std.proofs.KnownBytes.{Consumes-whole}
use Rattle.tf_model.specs.Limit.{most_bytes}
use Rattle.tf_model.specs.Prepare.{Prepares}
use Rattle.tf_model.specs.SchedulingTask.{SchedulingTask}
use Rattle.tf_model.specs.declared.prepare.Refusal.{Refusal}
use Rattle.tf_model.specs.declared.prepare.Refusal.TheVariants as refusals
use Rattle.tf_read.specs.declared.fault.ReadFault.{ReadFault}
use Rattle.tf_read.specs.declared.fault.ReadFault.TheVariants as reads
use Rattle.tf_read.specs.Faults as read
use Rattle.tf_text.specs.declared.counted.Counted.{Counted}
use Rattle.tf_text.specs.Counted.{inner_of, pulled_of, has_failed, ConsumesAtMost}
use Rattle.tf_text.specs.Input.{IsTextOf, is_device}
use Rattle.tf_text.specs.declared.input.InputFault.{InputFault}
use Rattle.tf_text.specs.declared.input.InputFault.TheVariants as inputs
use Rattle.tf_engine.specs.declared.fault.RunFault.TheVariants.{Device, OutOfMemory}
use Rattle.tf_model.specs.Outcome.{◌>>=◌}
use Rattle.tf_engine.specs.declared.fault.RunFault.{RunFault}
use Rattle.tf_engine.specs.Faults.{Refused, ByText, ByTask, Stop, Refuses, Fails, Wants, is_of_whole, stop_of}
use Rattle.tf_engine.specs.Passed.{of_read, of_input, of_refusal}
use Rattle.tf_engine.specs.Parts.{ReadsTo, StopsBy, StopsReading}
use Rattle.tf_engine.specs.Refusal.{refused_by}
use Rattle.tf_engine.proofs.Unread.{text_for, long_text_for}

-- bytes that were given up to the reader's end are its text
pub all_given : (old new : Option (List ℕ)) (bytes : List ℕ) → Consumes old new bytes → IsAtEnd new
    → IsTextOf old bytes
all_given old new bytes given end = Consumes-whole old new bytes (λ all. bytes ≡ all) given end refl

-- a reader that gave too many has a text that is too long
pub longer : (old new : Option (List ℕ)) (bytes : List ℕ) → Consumes old new bytes
    → most_bytes < length bytes → IfSome old (λ all. most_bytes < length all)
longer None new bytes given more = tt
longer (Some all) None bytes given more = absurd given
longer (Some all) (Some rest) bytes given more =
    omega (arith, ap length given, length-append bytes rest, more)

module _ (X A T : Type 0) (says : List ℕ → Result X ReadFault) (remaining : T → Option (List ℕ))
    (old new : Counted T) (counted : pulled_of new ≤ pulled_of old + (most_bytes + 1)) where
  -- what is left of the reader, before and after
  abbrev first : Option (List ℕ)
  first = remaining (inner_of old)

  abbrev last : Option (List ℕ)
  last = remaining (inner_of new)

  -- what is said of the text, as a part of a run says it
  abbrev said : List ℕ → Result X Refused
  said text = refused_by ByText (says text)

  -- where memory was wanting nothing is said of any text
  pub reads_wanting : (new ≡ old) ⊎ (has_failed new ≡ false)
      → ConsumesAtMost (most_bytes + 1) first last
      → ReadsTo {A = A} said remaining old new (Err OutOfMemory)
  reads_wanting unfailed pulled =
      let (text, is) = text_for first in
      record {
        text = text;
        is_all = is;
        given = tt;
        unfailed = tt;
        unhidden = λ h. cc;
        wanting = λ h. unfailed;
        ended =
            λ h. cc;
        pulled = pulled;
        counted = counted;
      }

  -- nor where the reader failed
  pub reads_failing : has_failed new ≡ true → ConsumesAtMost (most_bytes + 1) first last
      → ReadsTo {A = A} said remaining old new (Err Device)
  reads_failing h pulled =
      let (text, is) = text_for first in
      record {
        text = text;
        is_all = is;
        given = h;
        unfailed = tt;
        unhidden = λ h. cc;
        wanting = λ h. cc;
        ended =
            λ h. cc;
        pulled = pulled;
        counted = counted;
      }

  -- a fault of a text that is all that is known
  faulty : (e : ReadFault) (text : List ℕ) → IsTextOf first text → says text ≡ Err e
      → has_failed new ≡ false
      → (is_of_whole {X = X} {A = A} (Err (of_read e)) ≡ true → IsAtEnd last)
      → ConsumesAtMost (most_bytes + 1) first last
      → ReadsTo {A = A} said remaining old new (Err (of_read e))
  faulty reads.OutOfMemory text is h ok end pulled = reads_wanting (inr ok) pulled
  faulty _ text is h ok end pulled =
      record {
        text = text;
        is_all = is;
        given = ap (refused_by ByText) h;
        unfailed = tt;
        unhidden =
            λ r. ok;
        wanting = λ r. inr ok;
        ended = end;
        pulled = pulled;
        counted = counted;
      }

  -- the instance that all bytes hold
  pub reads_value : (bytes : List ℕ) → length bytes ≤ most_bytes + 1 → Consumes first last bytes
      → IsAtEnd last ⊎ (most_bytes < length bytes) → has_failed new ≡ false
      → ((text : List ℕ) → most_bytes < length text → says text ≡ Err reads.TooLong)
      → (x : X) → says bytes ≡ Ok x → ReadsTo {A = A} said remaining old new (Ok x)
  reads_value bytes few given (inl end) ok long x h =
      record {
        text = bytes;
        is_all = all_given first last bytes given end;
        given =
            ap (refused_by ByText) h;
        unfailed = ok;
        unhidden = tt;
        wanting = tt;
        ended = λ r. end;
        pulled = (bytes, few, given);
        counted = counted;
      }
  reads_value bytes few given (inr more) ok long x h =
      absurd (let both : Err reads.TooLong ≡ Ok x = sym (long bytes more) ∙ h in let f : ⊥ = cc in
      f)

  -- or their first fault
  pub reads_fault : (bytes : List ℕ) → length bytes ≤ most_bytes + 1 → Consumes first last bytes
      → IsAtEnd last ⊎ (most_bytes < length bytes) → has_failed new ≡ false
      → ((text : List ℕ) → most_bytes < length text → says text ≡ Err reads.TooLong)
      → (e : ReadFault) → says bytes ≡ Err e
      → ReadsTo {A = A} said remaining old new (Err (of_read e))
  reads_fault bytes few given (inl end) ok long e h =
      faulty e bytes (all_given first last bytes given end) h ok (λ r. end) (bytes, few, given)
  reads_fault bytes few given (inr more) ok long e h =
      let (text, is, longer_than) =
      long_text_for first most_bytes (longer first last bytes given more) in
      let same : e ≡ reads.TooLong = let both : Err e ≡ Err reads.TooLong = sym h
      ∙ long bytes more in cc in
      faulty e text is (long text longer_than ∙ ap Err (sym same)) ok
      (λ r. let whole : false ≡ true = rw same at r in cc) (bytes, few, given)

  -- the same where a growth may have been refused on the way
  pub reads_fails : (bytes : List ℕ) → length bytes ≤ most_bytes + 1 → Consumes first last bytes
      → IsAtEnd last ⊎ (most_bytes < length bytes) → has_failed new ≡ false
      → ((text : List ℕ) → most_bytes < length text → says text ≡ Err reads.TooLong)
      → (e : ReadFault) → read.Fails e (says bytes)
      → ReadsTo {A = A} said remaining old new (Err (of_read e))
  reads_fails bytes few given ended ok long reads.OutOfMemory h =
      reads_wanting (inr ok) (bytes, few, given)
  reads_fails bytes few given ended ok long e h = reads_fault bytes few given ended ok long e h

  -- where the text could not be read to its end, or is too long
  pub reads_input : (f : InputFault)
      → (f ≡ inputs.TooLong → IfSome first (λ all. most_bytes < length all))
      → has_failed new ≡ is_device f
      → ((text : List ℕ) → most_bytes < length text → says text ≡ Err reads.TooLong)
      → ConsumesAtMost (most_bytes + 1) first last
      → ReadsTo {A = A} said remaining old new (Err (of_input f))
  reads_input inputs.Device more h long pulled = reads_failing h pulled
  reads_input inputs.OutOfMemory more h long pulled = reads_wanting (inr h) pulled
  reads_input inputs.TooLong more h long pulled =
      let (text, is, longer_than) = long_text_for first most_bytes (more refl) in
      faulty reads.TooLong text is (long text longer_than) h (λ r. cc) pulled

-- what stops a part of a run stops what goes on from it
pub reads_on : {X Y A T : Type 0} (f : X → Result Y Refused) (says : List ℕ → Result X Refused)
    (remaining : T → Option (List ℕ)) (old new : Counted T) (e : RunFault A)
    → ReadsTo says remaining old new (Err e)
    → ReadsTo (λ text. says text >>= f) remaining old new (Err e)
reads_on f says remaining old new e had = record {
  text = had.text;
  is_all = had.is_all;
  given = stopped (stop_of e) had.given;
  unfailed = tt;
  unhidden = had.unhidden;
  wanting = had.wanting;
  ended = had.ended;
  pulled = had.pulled;
  counted = had.counted;
}
  where
    stopped : (stop : Stop)
        → StopsReading (λ refused. says had.text ≡ Err refused) (has_failed new ≡ true) stop
        → StopsReading (λ refused. (says had.text >>= f) ≡ Err refused) (has_failed new ≡ true) stop
    stopped (Refuses refused) h = ap (λ r. r >>= f) h
    stopped Fails h = h
    stopped Wants h = h

-- what was read is made into what goes on
pub reads_then : {X Y A T : Type 0} (f : X → Result Y Refused) (says : List ℕ → Result X Refused)
    (remaining : T → Option (List ℕ)) (old new : Counted T) (x : X) (y : Y)
    → ReadsTo {A = A} says remaining old new (Ok x) → f x ≡ Ok y
    → ReadsTo {A = A} (λ text. says text >>= f) remaining old new (Ok y)
reads_then f says remaining old new x y had h = record {
  text = had.text;
  is_all = had.is_all;
  given = ap (λ r. r >>= f) had.given ∙ h;
  unfailed = had.unfailed;
  unhidden = tt;
  wanting = tt;
  ended = had.ended;
  pulled = had.pulled;
  counted = had.counted;
}

-- or is refused, where memory is not wanting
pub reads_refused : {X Y A T : Type 0} (f : X → Result Y Refused)
    (says : List ℕ → Result X Refused) (remaining : T → Option (List ℕ)) (old new : Counted T)
    (x : X) (e : RunFault A)
    → ReadsTo {A = A} says remaining old new (Ok x)
    → StopsBy (λ refused. f x ≡ Err refused) (stop_of e)
    → ReadsTo (λ text. says text >>= f) remaining old new (Err e)
reads_refused f says remaining old new x e had h = record {
  text = had.text;
  is_all = had.is_all;
  given = stopped (stop_of e) h;
  unfailed = tt;
  unhidden = λ r. had.unfailed;
  wanting = λ r. inr had.unfailed;
  ended = λ r. had.ended refl;
  pulled = had.pulled;
  counted = had.counted;
}
  where
    stopped : (stop : Stop) → StopsBy (λ refused. f x ≡ Err refused) stop
        → StopsReading (λ refused. (says had.text >>= f) ≡ Err refused) (has_failed new ≡ true) stop
    stopped (Refuses refused) h = ap (λ r. r >>= f) had.given ∙ h
    stopped Fails h = absurd h
    stopped Wants h = tt

-- why an instance is no task stops the run
pub unprepared : (A : Type 0) (wanted : Result SchedulingTask Refusal) (refusal : Refusal)
    → Prepares (Err refusal) wanted
    → StopsBy (λ refused. refused_by ByTask wanted ≡ Err refused)
    (stop_of (of_refusal {A = A} refusal))
unprepared A wanted refusals.OutOfMemory h = tt
unprepared A wanted _ h = ap (refused_by ByTask) h
