-- Reading an instance and orders.
use Rattle.std.proofs.Common.{◌≡◌, ℕ, ◌+◌, ◌<◌, ◌≤◌, true, false, List, Option, Some, Ok, Err, IfSome, Bool, length, refl, sym, subst, ◌∙◌, inl, inr}
use Rattle.std.specs.Io.KnownBytes.{IsAtEnd}
use Rattle.std.specs.declared.vec.Vec.{Vec}
use Rattle.tf_model.specs.Limit.{most_bytes}
use Rattle.tf_text.specs.declared.counted.Counted.{Counted}
use Rattle.tf_text.specs.Counted.{inner_of, pulled_of, has_failed, use_of, ConsumesAtMost}
use Rattle.tf_text.specs.Input.{IsTextOf}
use Rattle.tf_text.specs.declared.answer.fault.AnswerFault.TheVariants as answers
use Rattle.tf_engine.specs.declared.fault.RunFault.{RunFault}
use Rattle.tf_engine.specs.declared.fault.RunFault.TheVariants.{Answer, Device, OutOfMemory}
use Rattle.tf_engine.specs.Faults.{Refused, Stop, Refuses, Fails, Wants, is_on_answer, is_on_instance, stop_of}
use Rattle.tf_engine.specs.Parts.{StopsReading}
use Rattle.tf_engine.specs.RequestData.{RequestData}
use Rattle.tf_engine.proofs.CaseRead.{refusal_first}
use Rattle.tf_engine.proofs.Devices.{instance_later}
use Rattle.tf_engine.proofs.Unread.{text_for, long_text_for}
use Rattle.tf_assess.proofs.Reading.{bound_first, stops_as}
use Rattle.tf_orders.specs.declared.case_read.OrderCase.{OrderCase}
use Rattle.tf_orders.specs.declared.case_read.Posed.{Posed}
use Rattle.tf_orders.specs.declared.case_read.Posed.TheVariants.{Solved, Unsolved}
use Rattle.tf_orders.specs.Measuring.{is_by_optimum}
use Rattle.tf_orders.specs.OrderParts.{Means, ReadsPosed, IsLong, ReadsOrders, IsRefusedCase, ReadsOrderCase}
use Rattle.tf_orders.specs.RunOrders.{IsPosed, IsRefusedInstance, HasOrderReaderFailed}

never : (b : Bool) → b ≡ true → b ≡ false → ⊥
never b holds fails = let both : true ≡ false = sym holds ∙ fails in cc

-- ---- the orders

module _ (A T : Type 0) (remaining : T → Option (List ℕ)) (old new : Counted T)
    (pulled : ConsumesAtMost (most_bytes + 1) (remaining (inner_of old)) (remaining (inner_of new)))
    (counted : pulled_of new ≤ pulled_of old + (most_bytes + 1)) where
  pub orders_failing : has_failed new ≡ true → ReadsOrders {A = A} remaining old new (Err Device)
  orders_failing failed =
      let (text, is) = text_for (remaining (inner_of old)) in
      record {
        text = text;
        is_all = is;
        given = failed;
        reader = record {
          unfailed = λ h. cc;
          ended = λ h. cc;
          pulled = pulled;
          counted = counted;
        };
      }

  module _ (ok : has_failed new ≡ false) where
    pub orders_wanting : ReadsOrders {A = A} remaining old new (Err OutOfMemory)
    orders_wanting =
        let (text, is) = text_for (remaining (inner_of old)) in
        record {
          text = text;
          is_all = is;
          given = tt;
          reader = record {
            unfailed = λ h. ok;
            ended = λ h. cc;
            pulled = pulled;
            counted = counted;
          };
        }

    pub orders_too_long : IfSome (remaining (inner_of old)) (λ all. most_bytes < length all)
        → ReadsOrders {A = A} remaining old new (Err (Answer answers.TooLong))
    orders_too_long h =
        let (text, is, more) = long_text_for (remaining (inner_of old)) most_bytes h in
        record {
          text = text;
          is_all = is;
          given = (refl, more);
          reader = record {
            unfailed = λ h. ok;
            ended = λ h. cc;
            pulled = pulled;
            counted = counted;
          };
        }

    pub orders_had : (bytes : Vec ℕ A) → IsTextOf (remaining (inner_of old)) bytes.items
        → length bytes.items ≤ most_bytes → IsAtEnd (remaining (inner_of new))
        → ReadsOrders {A = A} remaining old new (Ok bytes)
    orders_had bytes is short end = record {
      text = bytes.items;
      is_all = is;
      given = (refl, short);
      reader = record {
        unfailed = λ h. ok;
        ended = λ h. end;
        pulled = pulled;
        counted = counted;
      };
    }

-- ---- both

refused_first : (bounded : Bool) (request : RequestData) (text : List ℕ) (refused : Refused) (b : Bool)
    → is_by_optimum bounded request.problem ≡ b → IsRefusedInstance bounded request text refused
    → is_on_answer (Refuses refused) ≡ false
refused_first bounded request text refused true solved h =
    (refusal_first request text refused (h.solved solved)).0
refused_first bounded request text refused false unsolved h =
    bound_first request text refused (h.unsolved unsolved)

instance_first : (bounded : Bool) (request : RequestData) (text : List ℕ) (R : Type 0) (s : Stop)
    → StopsReading (IsRefusedInstance bounded request text) R s → is_on_answer s ≡ false
instance_first bounded request text R Fails h = refl
instance_first bounded request text R Wants h = refl
instance_first bounded request text R (Refuses refused) h =
    refused_first bounded request text refused (is_by_optimum bounded request.problem) refl h

orders_last : (text : List ℕ) (R : Type 0) (s : Stop) → StopsReading (IsLong text) R s
    → is_on_instance s ≡ false
orders_last text R Fails h = refl
orders_last text R Wants h = refl
orders_last text R (Refuses refused) (is, long) = rw is refl

is_posed : {A : Type 0} (bounded : Bool) (request : RequestData) (text : List ℕ) (posed : Posed A)
    → Means bounded request text posed → IsPosed bounded request text
is_posed bounded request text (Solved asked) (solved, is) = record {
  solved = λ holds. rw is.meant refl;
  unsolved = λ fails. absurd (never (is_by_optimum bounded request.problem) solved fails);
}
is_posed bounded request text (Unsolved task) (unsolved, is) = record {
  solved = λ holds. absurd (never (is_by_optimum bounded request.problem) holds unsolved);
  unsolved = λ fails. rw is refl;
}

module _ (A T U : Type 0) (bounded : Bool) (request : RequestData)
    (remaining : T → Option (List ℕ)) (old new : Counted T) (giving : U → Option (List ℕ)) (before : Counted U) where
  -- no task was read
  pub case_unposed : (e : RunFault A) → ReadsPosed bounded request remaining old new (Err e)
      → ReadsOrderCase bounded request remaining old new giving before before (Err e)
  case_unposed e had =
      let (orders, is_orders) = text_for (giving (inner_of before)) in
      record {
        text = had.text;
        is_all = had.is_all;
        orders_text = orders;
        is_whole = is_orders;
        given = stops_as (IsRefusedInstance bounded request had.text)
            (IsRefusedCase bounded request had.text orders) (has_failed new ≡ true)
            (HasOrderReaderFailed bounded request had.text (use_of remaining old new)
            (use_of giving before before))
            (λ refused h. inl h) (λ failed. inl failed) (stop_of e) had.given;
        readers = record {
          instance = had.reader;
          answer = inl (
            refl,
            instance_first bounded request had.text (has_failed new ≡ true) (stop_of e) had.given,
          );
        };
      }

  module _ (after : Counted U) (posed : Posed A)
      (had : ReadsPosed bounded request remaining old new (Ok posed)) where
    -- the orders were not read
    pub case_unread : (e : RunFault A) → ReadsOrders {A = A} giving before after (Err e)
        → ReadsOrderCase bounded request remaining old new giving before after (Err e)
    case_unread e read =
        let posed_is = is_posed bounded request had.text posed had.given in
        record {
          text = had.text;
          is_all = had.is_all;
          orders_text = read.text;
          is_whole = read.is_all;
          given = stops_as (IsLong read.text) (IsRefusedCase bounded request had.text read.text)
              (has_failed after ≡ true)
              (HasOrderReaderFailed bounded request had.text (use_of remaining old new)
              (use_of giving before after))
              (λ refused h. inr (record { posed = posed_is; is = h.0; long = h.1 }))
              (λ failed. inr (posed_is, failed)) (stop_of e) read.given;
          readers = record {
            instance = instance_later had.reader (Some (stop_of e));
            answer = inr (
              orders_last read.text (has_failed after ≡ true) (stop_of e) read.given,
              read.reader,
            );
          };
        }

    -- both texts were read
    pub case_had : (case : OrderCase A) → case.posed ≡ posed
        → ReadsOrders {A = A} giving before after (Ok case.text)
        → ReadsOrderCase bounded request remaining old new giving before after (Ok case)
    case_had case same read = record {
      text = had.text;
      is_all = had.is_all;
      orders_text = read.text;
      is_whole = read.is_all;
      given = record {
        means = subst (Means bounded request had.text) (sym same) had.given;
        text_is = read.given.0;
        short = subst (λ (bytes : List ℕ). length bytes ≤ most_bytes) read.given.0 read.given.1;
      };
      readers = record { instance = had.reader; answer = inr (refl, read.reader) };
    }
