-- Reading the processing times of a shop on all machines of a flow shop file.
use Rattle.std.proofs.Common.{◌≡◌, ◌≢◌, ℕ, ◌+◌, ◌≤◌, ◌<◌, Bool, true, false, cond, eqb, ltb, List, length, map, Option, None, Some, Result, Ok, Err, IsOk, MatchResult, ap, ◌∙◌, refl, sym, inr, arith}
use Rattle.std.proofs.lemmas.Bool.{lt-ltb, eqb-true, eqb-false}
use Rattle.std.specs.Io.KnownBytes.{IsAtEnd}
use Rattle.tf_model.specs.ClassTable.{is_shop_env}
use Rattle.tf_model.specs.InstanceData.{InstanceData}
use Rattle.tf_model.specs.JobFields.{JobFields}
use Rattle.tf_model.specs.Limit.{most_bytes}
use Rattle.tf_model.specs.Outcome.{◌>>=◌}
use Rattle.tf_model.specs.declared.prepare.Refusal.TheVariants.{TotalTooLarge}
use Rattle.tf_model.specs.declared.problem.Env.{Env}
use Rattle.tf_posed.specs.ProblemData.{is_job_shop}
use Rattle.tf_read.specs.declared.fault.ReadFault.{ReadFault}
use Rattle.tf_read.specs.declared.fault.ReadFault.TheVariants.{OutOfMemory, TooLong}
use Rattle.tf_read.specs.Faults.{Fails}
use Rattle.tf_read.specs.FlowShop.{are_machines, flow_shop}
use Rattle.tf_routes.specs.JobShop.{job_shop}
use Rattle.tf_routes.specs.RoutedData.{HasRoutes, RoutedData}
use Rattle.tf_routes.specs.RoutedTable.{routed_table}
use Rattle.tf_text.specs.declared.counted.Counted.{Counted}
use Rattle.tf_text.specs.Counted.{inner_of, pulled_of, has_failed, ConsumesAtMost}
use Rattle.tf_text.specs.Input.{IsTextOf}
use Rattle.tf_engine.specs.declared.fault.RunFault.{RunFault}
use Rattle.tf_engine.specs.Faults.{Refused, ByText, ByTask, Stop, Refuses, Fails as StopFails, Wants, is_on_answer, stop_of}
use Rattle.tf_engine.specs.FormData.{FormData, InTable, InWt, InFlow}
use Rattle.tf_engine.specs.Passed.{of_read}
use Rattle.tf_engine.specs.Parts.{ReadsTo, StopsBy, StopsReading}
use Rattle.tf_engine.specs.Refusal.{refused_by, instance_in}
use Rattle.tf_prepare.specs.TimedData.{TimedData, self_timed, with_routes}
use Rattle.tf_prepare.specs.Preparing.{first_of}
use Rattle.tf_bounding.specs.ShopTimes.{machines_of, is_too_much, pair_for, first_times, times_on, times_by_machine, with_times, shop_said, timed_said}

-- ---- the instance of a text

abbrev timed_by : List ℕ → List ℕ → InstanceData → TimedData
timed_by name text instance = record {
  instance = instance;
  by_machine = Some (times_by_machine name (machines_of instance) text);
  routes = None;
}

module _ (A : Type 0) (name text : List ℕ) where
  -- what a reading of the times gives
  abbrev pub IsShopRead : Result TimedData (RunFault A) → Type 0
  IsShopRead result =
      MatchResult result (λ timed. shop_said name text ≡ Ok timed)
      (λ e. StopsBy (λ refused. shop_said name text ≡ Err refused) (stop_of e))

  -- the fault stops the reading of the times
  abbrev StopsShop : RunFault A → Type 0
  StopsShop e = StopsBy (λ refused. shop_said name text ≡ Err refused) (stop_of e)

  pub shop_unread : (e : ReadFault) → Fails e (flow_shop name None text) → StopsShop (of_read e)
  shop_unread OutOfMemory h = tt
  shop_unread e h = ap (λ r. refused_by ByText r >>= λ i. with_times name text i) h

  module _ (instance : InstanceData) (h : flow_shop name None text ≡ Ok instance) where
    meant : shop_said name text ≡ with_times name text instance
    meant = ap (λ r. refused_by ByText r >>= λ i. with_times name text i) h

    abbrev after_test : Bool → Result TimedData Refused
    after_test many = cond many (Err (ByTask TotalTooLarge)) (Ok (timed_by name text instance))

    pub shop_too_large : is_too_much instance ≡ true
        → shop_said name text ≡ Err (ByTask TotalTooLarge)
    shop_too_large many = meant ∙ ap after_test many

    pub shop_timed : is_too_much instance ≡ false → (machines : ℕ)
        → machines ≡ machines_of instance → (times : List (List ℕ))
        → times ≡ times_by_machine name machines text
        → shop_said name text ≡ Ok (record { instance = instance; by_machine = Some times; routes = None })
    shop_timed few machines is times are =
        meant ∙ ap after_test few
        ∙ ap (λ (m : ℕ). Ok (record {
          instance = instance;
          by_machine = Some (times_by_machine name m text);
          routes = None;
        })) (sym is)
        ∙ ap (λ (ts : List (List ℕ)). Ok (record {
          instance = instance;
          by_machine = Some ts;
          routes = None;
        })) (sym are)

-- ---- a text that was read

-- what stops a part of a run stops another one, where it says the same refusals
pub reads_as : {X Y A T : Type 0} (says : List ℕ → Result X Refused)
    (other : List ℕ → Result Y Refused) (remaining : T → Option (List ℕ)) (old new : Counted T)
    (e : RunFault A)
    → ((text : List ℕ) (refused : Refused) → says text ≡ Err refused → other text ≡ Err refused)
    → ReadsTo says remaining old new (Err e) → ReadsTo other remaining old new (Err e)
reads_as says other remaining old new e same had = record {
  text = had.text;
  is_all = had.is_all;
  given = stopped (stop_of e) had.given;
  unfailed = tt;
  unhidden = had.unhidden;
  wanting = had.wanting;
  ended = had.ended;
  pulled = had.pulled;
  counted = had.counted;
}
  where
    stopped : (stop : Stop)
        → StopsReading (λ refused. says had.text ≡ Err refused) (has_failed new ≡ true) stop
        → StopsReading (λ refused. other had.text ≡ Err refused) (has_failed new ≡ true) stop
    stopped (Refuses refused) h = same had.text refused h
    stopped StopFails h = h
    stopped Wants h = h

module _ (X A T : Type 0) (says : List ℕ → Result X Refused) (remaining : T → Option (List ℕ))
    (old new : Counted T) (text : List ℕ) (is : IsTextOf (remaining (inner_of old)) text)
    (end : IsAtEnd (remaining (inner_of new))) (ok : has_failed new ≡ false)
    (pulled : ConsumesAtMost (most_bytes + 1) (remaining (inner_of old)) (remaining (inner_of new)))
    (counted : pulled_of new ≤ pulled_of old + (most_bytes + 1)) where
  reading : (s : Stop) → StopsBy (λ refused. says text ≡ Err refused) s
      → StopsReading (λ refused. says text ≡ Err refused) (has_failed new ≡ true) s
  reading (Refuses refused) h = h
  reading StopFails h = absurd h
  reading Wants h = tt

  -- what is said of a text that was read to its end
  pub reads_text : (result : Result X (RunFault A))
      → MatchResult result (λ x. says text ≡ Ok x)
      (λ e. StopsBy (λ refused. says text ≡ Err refused) (stop_of e))
      → ReadsTo says remaining old new result
  reads_text (Ok x) h = record {
    text = text;
    is_all = is;
    given = h;
    unfailed = ok;
    unhidden = tt;
    wanting = tt;
    ended = λ r. end;
    pulled = pulled;
    counted = counted;
  }
  reads_text (Err e) h = record {
    text = text;
    is_all = is;
    given = reading (stop_of e) h;
    unfailed = tt;
    unhidden = λ r. ok;
    wanting = λ r. inr ok;
    ended = λ r. end;
    pulled = pulled;
    counted = counted;
  }

-- ---- why an instance is refused

-- not for the sake of an answer
abbrev IsFirst : Refused → Type 0
IsFirst refused = is_on_answer (Refuses refused) ≡ false

module _ (name text : List ℕ) (refused : Refused) where
  by_size : (instance : InstanceData) (many : Bool)
      → cond many (Err (ByTask TotalTooLarge)) (Ok (timed_by name text instance)) ≡ Err refused
      → IsFirst refused
  by_size instance true e = let is : refused ≡ ByTask TotalTooLarge = cc in rw is refl
  by_size instance false e = cc

  by_shop : (r : Result InstanceData ReadFault)
      → (refused_by ByText r >>= λ i. with_times name text i) ≡ Err refused → IsFirst refused
  by_shop (Ok instance) e = by_size instance (is_too_much instance) e
  by_shop (Err fault) e = let is : refused ≡ ByText fault = cc in rw is refl

by_self : (refused : Refused) (r : Result InstanceData ReadFault)
    → (refused_by ByText r >>= λ i. Ok (self_timed i)) ≡ Err refused → IsFirst refused
by_self refused (Ok instance) e = cc
by_self refused (Err fault) e = let is : refused ≡ ByText fault = cc in rw is refl

by_routes : (refused : Refused) (r : Result RoutedData ReadFault)
    → (refused_by ByText r >>= λ i. Ok (with_routes i)) ≡ Err refused → IsFirst refused
by_routes refused (Ok routed) e = cc
by_routes refused (Err fault) e = let is : refused ≡ ByText fault = cc in rw is refl

-- where the environment decides how the text is read
either : (b : Bool) (x y : Result TimedData Refused) (refused : Refused)
    → (x ≡ Err refused → IsFirst refused) → (y ≡ Err refused → IsFirst refused)
    → cond b x y ≡ Err refused → IsFirst refused
either true x y refused first second e = first e
either false x y refused first second e = second e

pub timed_first : (form : FormData) (env : Env) (text : List ℕ) (refused : Refused)
    → timed_said form env text ≡ Err refused → is_on_answer (Refuses refused) ≡ false
timed_first InTable env text refused h =
    either (is_job_shop env) _ _ refused (by_routes refused (routed_table text))
    (by_self refused (instance_in InTable text)) h
timed_first (InWt jobs index) env text refused h =
    by_self refused (instance_in (InWt jobs index) text) h
timed_first (InFlow name (Some pair)) env text refused h =
    by_self refused (instance_in (InFlow name (Some pair)) text) h
timed_first (InFlow name None) env text refused h =
    either (is_job_shop env) _ _ refused (by_routes refused (job_shop name text))
    (λ e. either (is_shop_env env) _ _ refused
    (by_shop name text refused (instance_in (InFlow name None) text))
    (by_self refused (instance_in (InFlow name None) text)) e) h

-- ---- job shops

-- a text that is too long is refused as such
pub table_too_long : (text : List ℕ) → most_bytes < length text → routed_table text ≡ Err TooLong
unfolding routed_table
table_too_long text h = rw (lt-ltb most_bytes (length text) h) refl

pub job_shop_too_long : (name text : List ℕ) → most_bytes < length text
    → job_shop name text ≡ Err TooLong
unfolding job_shop
job_shop_too_long name text h = rw (lt-ltb most_bytes (length text) h) refl

-- routes over so many machines are routes over more
pub routed_more : (m most : ℕ) (r : RoutedData) → m ≤ most → HasRoutes m r → HasRoutes most r
routed_more m most r few is = record {
  count = is.count;
  routes = λ k d lt. let route = is.routes k d lt in record {
    once = route.once;
    within = λ i e h. let below = route.within i e h in omega (arith, below, few);
    short = route.short;
  };
}
