-- What a command wrote in memory.
use Rattle.std.proofs.Common.{◌≡◌, ◌↔◌, ℕ, ◌<◌, Bool, true, false, is_some, List, [], Option, None, Some, Result, Ok, Err, IfOk, IsErr, IsTrue, is_err, Global, refl, sym, ap, subst}
use Rattle.std.proofs.lemmas.Bool.{true≢false}
use Rattle.tf_text.specs.Counted.{inner_of, has_failed, use_of}
use Rattle.tf_engine.specs.Faults.{Refused, is_refusal, stop_of}
use Rattle.tf_engine.specs.Parts.{StopsReading}
use Rattle.tf_engine.specs.declared.fault.RunFault.{RunFault}
use Rattle.tf_engine.specs.declared.fault.RunFault.TheVariants.{Notation, Text, Task, Cycle, Answer, Pieces, Device, OutOfMemory}
use Rattle.tf_asked.specs.declared.options.Work.{Work as Asking}
use Rattle.tf_asked.specs.declared.series.Series.{Series}
use Rattle.tf_asked.specs.declared.series.Told.TheVariants as kinds
use Rattle.tf_command.specs.Ending.{SaysLine}
use Rattle.tf_command.specs.Formatted.{Memory, held}
use Rattle.tf_held.specs.Shops.{EndsCounted}
use Rattle.tf_held.specs.Texts.{BesideData, held_texts}
use Rattle.tf_held.specs.Series.{EndsUntold, IsAtEnd, IsPast, IsWorkFor, RunsFor, bound_of, has_told}

-- the work of an instance was done over texts, of which the first has the name of the file
pub ran : (series : Series) (named instance : List ℕ) (bound : Option (List ℕ))
    (beside : BesideData) (number status : ℕ) (work : Asking) (before after : Memory)
    → named ≡ series.input.now → bound ≡ bound_of series.told
    → IsWorkFor series instance number beside.answers work
    → (inner_of before.writer).items ≡ [] → (inner_of before.errors).items ≡ []
    → EndsCounted (held_texts named instance bound beside) work
    (use_of held before.writer after.writer)
    (λ explain. SaysLine held explain before.errors after.errors) status
    → has_failed after.writer ≡ false → has_failed after.errors ≡ false
    → RunsFor series instance beside number status (inner_of after.writer).items
    (inner_of after.errors).items
ran series named instance bound beside number status work before after names bounded is blank silent done whole told =
    record {
      work = work;
      is = is;
      before = before;
      after = after;
      blank = blank;
      silent = silent;
      done = subst (λ (b : Option (List ℕ)). EndsCounted
          (held_texts series.input.now instance b beside) work (use_of held before.writer after.writer)
          (λ explain. SaysLine held explain before.errors after.errors) status) bounded
          (subst (λ (name : List ℕ). EndsCounted (held_texts name instance bound beside) work
          (use_of held before.writer after.writer)
          (λ explain. SaysLine held explain before.errors after.errors) status) names done);
      whole = whole;
      told = told;
      output_is = refl;
      errors_is = refl;
    }

-- it told nothing, and said these bytes
pub untold : (series : Series) (instance : List ℕ) (beside : BesideData) (number status : ℕ)
    (output errors said : List ℕ) → RunsFor series instance beside number status output errors
    → has_told status ≡ false → said ≡ errors
    → EndsUntold series instance beside number status said
untold series instance beside number status output errors said runs none is = record {
  output = output;
  runs = subst (λ (bytes : List ℕ). RunsFor series instance beside number status output bytes)
      (sym is) runs;
  untold = none;
}

pub none_there : {X : Type 0} (last : Option X) → is_some last ≡ false → last ≡ None
none_there None none = refl
none_there (Some last) none = absurd (true≢false none)

pub no_last : (last : ℕ) → Some last ≡ None → ⊥
no_last last e = true≢false (ap is_some e)

-- where the file has no further instance, a series to its end has come to it
pub at_end : {E : Type 0} (series : Series) (text : List ℕ) (number : ℕ) (r : Result Bool E)
    → series.span.last ≡ None → series.span.first < number
    → IfOk r (λ past. IsTrue past ↔ IsPast series.form text number)
    → IfOk r (λ end. IsTrue end ↔ IsAtEnd series text number)
at_end series text number (Ok past) none later is = (
  λ on. record { to_end = none; later = later; past = is.0 on },
  λ end. is.1 end.past,
)
at_end series text number (Err e) none later is = tt

-- a refusal says why nothing is read
pub refuses : {X : Type 0} (wanted : Result X Refused) (F : Type 0) (e : RunFault Global)
    → is_refusal (stop_of e) ≡ true
    → StopsReading (λ refused. wanted ≡ Err refused) F (stop_of e) → IsErr wanted
refuses wanted F (Notation fault) refusal is = ap is_err is
refuses wanted F (Text fault) refusal is = ap is_err is
refuses wanted F (Task why) refusal is = ap is_err is
refuses wanted F (Cycle jobs) refusal is = ap is_err is
refuses wanted F (Answer fault) refusal is = ap is_err is
refuses wanted F (Pieces fault) refusal is = ap is_err is
refuses wanted F Device refusal is = absurd (true≢false (sym refusal))
refuses wanted F OutOfMemory refusal is = absurd (true≢false (sym refusal))
