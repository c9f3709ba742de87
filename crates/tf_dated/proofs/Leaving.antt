-- What a picture with the dates of an instance leaves of its readers and its writer.
use Rattle.std.proofs.Common.{◌≡◌, ℕ, true, false, List, Option, None, Some, Result, Ok, Err, refl, ◌⊎◌, inl, inr}
use Rattle.tf_model.specs.InstanceData.{InstanceData}
use Rattle.tf_model.specs.declared.problem.Problem.{Problem}
use Rattle.tf_read.specs.declared.fault.ReadFault.{ReadFault}
use Rattle.tf_routes.specs.JobShop.{job_shop}
use Rattle.tf_routes.specs.RoutedData.{RoutedData}
use Rattle.tf_routes.specs.RoutedTable.{routed_table}
use Rattle.tf_text.specs.declared.counted.Counted.{Counted}
use Rattle.tf_text.specs.Counted.{has_failed}
use Rattle.tf_engine.specs.declared.fault.RunFault.{RunFault}
use Rattle.tf_engine.specs.Devices.{LeavesInstance, LeavesBoth}
use Rattle.tf_engine.specs.Faults.{Refused, ByText, Stop, Refuses, Fails, Wants, is_on_answer, stop_of}
use Rattle.tf_engine.specs.FormData.{FormData, InTable, InWt, InFlow}
use Rattle.tf_engine.specs.Parts.{ReadsTo, StopsReading}
use Rattle.tf_engine.specs.Refusal.{refused_by, instance_in}
use Rattle.tf_engine.proofs.CaseRead.{instance_left}
use Rattle.tf_engine.proofs.Devices.{instance_sound, instance_later, stopped}
use Rattle.tf_dated.specs.DatedInstance.{dated_said, without_routes}
use Rattle.tf_dated.specs.Leaving.{LeavesBeside, LeavesDated}
use Rattle.tf_dated.specs.declared.run_dated.Pictured.{Pictured}
use Rattle.tf_dated.specs.declared.run_dated.Pictured.TheVariants.{Drawn, OtherTask}

-- no fault of the instance is for the answer's sake
text_first : (r : Result InstanceData ReadFault) (refused : Refused)
    → refused_by ByText r ≡ Err refused → is_on_answer (Refuses refused) ≡ false
text_first (Ok i) refused e = cc
text_first (Err fault) refused e = let is : refused ≡ ByText fault = cc in rw is refl

routes_first : (r : Result RoutedData ReadFault) (refused : Refused)
    → without_routes (refused_by ByText r) ≡ Err refused → is_on_answer (Refuses refused) ≡ false
routes_first (Ok i) refused e = cc
routes_first (Err fault) refused e = let is : refused ≡ ByText fault = cc in rw is refl

refused_first : (form : FormData) (text : List ℕ) (refused : Refused)
    → dated_said form text ≡ Err refused → is_on_answer (Refuses refused) ≡ false
refused_first InTable text refused h = routes_first (routed_table text) refused h
refused_first (InWt jobs index) text refused h =
    text_first (instance_in (InWt jobs index) text) refused h
refused_first (InFlow name (Some pair)) text refused h =
    text_first (instance_in (InFlow name (Some pair)) text) refused h
refused_first (InFlow name None) text refused h = routes_first (job_shop name text) refused h

instance_first : (form : FormData) (text : List ℕ) (R : Type 0) (s : Stop)
    → StopsReading (λ refused. dated_said form text ≡ Err refused) R s → is_on_answer s ≡ false
instance_first form text R Fails h = refl
instance_first form text R Wants h = refl
instance_first form text R (Refuses refused) h = refused_first form text refused h

-- ---- the whole run

either_untouched : (P Q W : Type 0) → (P → ⊥) → (Q → W) → P ⊎ Q → W
either_untouched P Q W sound untouched (inl failed) = absurd (sound failed)
either_untouched P Q W sound untouched (inr failed) = untouched failed

module _ (A T U V : Type 0) (form : FormData) (remaining : T → Option (List ℕ))
    (old new : Counted T) (giving : U → Option (List ℕ)) (before : Counted U) (held : Counted V)
  where
    -- no instance was read
    pub unread_leaves : (e : RunFault A) → ReadsTo (dated_said form) remaining old new (Err e)
        → LeavesDated remaining old new giving before before held held (Err e)
    unread_leaves e had problem =
        stopped (LeavesBoth (Ok problem) remaining old new giving before before)
        ((has_failed new ≡ true) ⊎ (has_failed before ≡ true)) held (stop_of e)
        (record {
          instance = instance_left (Ok problem) problem (dated_said form) remaining old new
              (Err e) refl had;
          answer = inl (
            refl,
            instance_first form had.text (has_failed new ≡ true) (stop_of e) had.given,
          );
        })

    module _ (after : Counted U) (written : Counted V) (i : InstanceData)
        (had : ReadsTo {A = A} (dated_said form) remaining old new (Ok i)) where
      instance : (problem : Problem) → LeavesInstance (Ok problem) remaining old new None
      instance problem =
          instance_left {A = A} (Ok problem) problem (dated_said form) remaining old new (Ok i)
          refl had

      -- one was, and the rest of the run is over it
      pub over_leaves : (result : Result Pictured (RunFault A))
          → LeavesBeside giving before after held written result
          → LeavesDated remaining old new giving before after held written result
      over_leaves (Ok Drawn) rest = λ problem. record {
        readers = record { instance = instance problem; answer = inr (refl, rest.readers) };
        unfailed = rest.unfailed;
        unwritten = rest.unwritten;
        untouched = either_untouched (has_failed new ≡ true) (has_failed after ≡ true)
            (written ≡ held) (instance_sound (instance problem)) rest.untouched;
      }
      over_leaves (Ok OtherTask) (reader, same) = (
        λ problem. record { instance = instance problem; answer = inr (refl, reader) },
        same,
      )
      over_leaves (Err e) (not, rest) = λ problem. record {
        readers = record {
          instance = instance_later (instance problem) (Some (stop_of e));
          answer = inr (not, rest.readers);
        };
        unfailed = rest.unfailed;
        unwritten = rest.unwritten;
        untouched = either_untouched (has_failed new ≡ true) (has_failed after ≡ true)
            (written ≡ held) (instance_sound (instance problem)) rest.untouched;
      }
