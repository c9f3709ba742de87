-- A list of problems that is refused for what is wrong with its table.
use Rattle.std.proofs.Common.{◌≡◌, ◌≢◌, ℕ, List, [], Result, Ok, Err, IfOk, false, refl, inr, ap, subst, ◌∙◌}
use Rattle.tf_text.specs.Counted.{inner_of, has_failed}
use Rattle.tf_engine.specs.declared.fault.RunFault.{RunFault}
use Rattle.tf_engine.specs.Faults.{Refused, Stop, Refuses, Fails, Wants, stop_of}
use Rattle.tf_engine.specs.FormData.{InTable}
use Rattle.tf_engine.specs.Parts.{StopsReading, instance_said}
use Rattle.tf_command.specs.FaultLine.{fault_line}
use Rattle.tf_command.specs.Statuses.{status_by, status_of}
use Rattle.tf_command.specs.Wrote.{Wrote}
use Rattle.tf_reply.specs.declared.reply.Console.{Console}
use Rattle.tf_reply.specs.declared.reply.Reply.{Reply}
use Rattle.tf_reply.specs.Replies.{HadMemory, IsListed, Replies}
use Rattle.tf_reply.proofs.Over.{held}
use Rattle.tf_reply.proofs.Said.{whole}

-- a part that stops with memory, over devices in memory, is refused
refused_when : (IsRefused : Refused → Type 0) (reader_failed : Type 0) (s : Stop)
    → StopsReading IsRefused reader_failed s → HadMemory (status_by s)
    → (refused : Refused) × (s ≡ Refuses refused) × IsRefused refused
refused_when IsRefused reader_failed (Refuses refused) h memory = (refused, refl, h)
refused_when IsRefused reader_failed Wants h memory = absurd (memory.0 refl)
refused_when IsRefused reader_failed Fails h memory = absurd (memory.1 refl)

pub refused_list : {A B E : Type 0} (reader_failed : Type 0) (table text : List ℕ) → table ≢ [] → text ≡ table → (fault : RunFault B)
    → StopsReading (λ refused. instance_said InTable text ≡ Err refused) reader_failed (stop_of fault)
    → (before after : Console A) → (inner_of before.errors).items ≡ []
    → (inner_of after.output).items ≡ [] → Wrote held before.errors after.errors (fault_line fault)
    → (status : ℕ) → status ≡ status_of fault → (result : Result (Reply A) E)
    → IfOk result (λ r. (r.status ≡ status) × (r.console ≡ after) × (has_failed after.errors ≡ false)
    × HadMemory r.status)
    → IfOk result (Replies (IsListed B table))
refused_list reader_failed table text given whole_text fault stops before after silent unprinted wrote status is (Ok r)
    (same, console, unfailed, memory) =
    let because = refused_when (λ refused. instance_said InTable text ≡ Err refused) reader_failed (stop_of fault)
    stops (subst HadMemory (same ∙ is) memory) in
    inr (record {
      given = given;
      refused = because.0;
      wanted = subst (λ t. instance_said InTable t ≡ Err because.0) whole_text because.2;
      fault = fault;
      because = because.1;
      line = ap (λ (c : Console _). (inner_of c.errors).items) console
          ∙ whole before.errors after.errors (fault_line fault) wrote unfailed silent;
      ends = same ∙ is ∙ ap status_by because.1;
      unprinted = ap (λ (c : Console _). (inner_of c.output).items) console ∙ unprinted;
    })
refused_list reader_failed table text given whole_text fault stops before after silent unprinted wrote status is (Err e)
    told = tt
