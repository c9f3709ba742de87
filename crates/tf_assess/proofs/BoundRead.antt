-- A part of a run that reads the text of a bound.
use Rattle.std.proofs.Common.{◌≡◌, ◌<◌, true, Err, IfSome, length, refl}
use Rattle.std.proofs.lemmas.Bool.{lt-ltb}
use Rattle.tf_model.specs.Limit.{most_bytes}
use Rattle.tf_text.specs.Counted.{DeviceUse}
use Rattle.tf_engine.proofs.Unread.{text_for, long_text_for}
use Rattle.tf_bound_text.specs.BoundReading.{bound_in}
use Rattle.tf_bound_text.specs.declared.fault.BoundTextFault.TheVariants.{TooLong}
use Rattle.tf_assess.specs.declared.bound_read.BoundReadFault.TheVariants.{Text, Device, OutOfMemory}
use Rattle.tf_assess.specs.BoundRead.{ReadsBound}

module _ (reader : DeviceUse) where
  -- the reader failed
  pub unread_failing : reader.failed ≡ true → ReadsBound reader (Err Device)
  unread_failing failed =
      let (text, is) = text_for reader.before in
      record { text = text; is_all = is; given = failed }

  -- memory was wanting
  pub unread_wanting : ReadsBound reader (Err OutOfMemory)
  unread_wanting =
      let (text, is) = text_for reader.before in record { text = text; is_all = is; given = tt }

  -- a text that is too long is refused as such
  pub unread_too_long : IfSome reader.before (λ all. most_bytes < length all)
      → ReadsBound reader (Err (Text TooLong))
  unfolding bound_in
  unread_too_long h =
      let (text, is, more) = long_text_for reader.before most_bytes h in
      record {
        text = text;
        is_all = is;
        given = rw (lt-ltb most_bytes (length text) more) refl;
      }
