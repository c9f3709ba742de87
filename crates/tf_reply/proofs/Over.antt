-- A run over two texts in memory, and what is replied: its console is the one that the run left.
use Rattle.std.proofs.Common.{◌≡◌, ℕ, List, [], Option, Some, false, Result, Ok, Err, IfOk, Bor, sym, ap, subst, ◌∙◌}
use Rattle.std.specs.declared.vec.Vec.{Vec}
use Rattle.tf_text.specs.declared.counted.Counted.{Counted}
use Rattle.tf_text.specs.Counted.{DeviceUse, inner_of, has_failed, use_of}
use Rattle.tf_command.specs.Wrote.{Wrote}
use Rattle.tf_reply.specs.declared.reply.Console.{Console}
use Rattle.tf_reply.specs.declared.reply.Reply.{Reply}
use Rattle.tf_reply.specs.Replies.{HadMemory, said, Replies, IsOverBoth}
use Rattle.tf_reply.proofs.Said.{whole}

-- what is left of a slice that is read, and what a vector holds that is written to
abbrev pub left : Bor (List ℕ) → Option (List ℕ)
left slice = Some slice.now

abbrev pub held : {A : Type 0} → Vec ℕ A → Option (List ℕ)
held v = Some v.items

module _ {A E : Type 0} (before after : Console A) (blank : (inner_of before.output).items ≡ [])
    (silent : (inner_of before.errors).items ≡ []) (line : List ℕ)
    (wrote : Wrote held before.errors after.errors line)
    (old new old' new' : Counted (Bor (List ℕ))) (instance answer : List ℕ)
    (reads : (inner_of old).now ≡ instance) (reads' : (inner_of old').now ≡ answer) where
  pub over_both : (Ends : DeviceUse → DeviceUse → DeviceUse → (List ℕ → Type 0) → ℕ → Type 0)
      (status : ℕ)
      → ((says : List ℕ → Type 0) → says line
      → Ends (use_of left old new) (use_of left old' new')
      (use_of held before.output after.output) says status)
      → (result : Result (Reply A) E)
      → IfOk result (λ r. (r.status ≡ status) × (r.console ≡ after) × (has_failed after.errors ≡ false)
      × HadMemory r.status)
      → IfOk result (Replies (IsOverBoth Ends instance answer))
  over_both Ends status ends (Ok r) (is, same, unfailed, memory) =
      let all = ap (λ (c : Console A). (inner_of c.errors).items) same
      ∙ whole before.errors after.errors line wrote unfailed silent in
      record {
        reader = use_of left old new;
        answer_reader = use_of left old' new';
        writer = use_of held before.output after.output;
        reads = ap Some reads;
        reads_answer = ap Some reads';
        prints = (ap Some blank, ap (λ (c : Console A). Some (inner_of c.output).items) (sym same));
        ends = subst (Ends (use_of left old new) (use_of left old' new')
            (use_of held before.output after.output) (λ (l : List ℕ). said r ≡ l)) (sym is)
            (ends (λ (l : List ℕ). said r ≡ l) all);
        memory = memory;
      }
  over_both Ends status ends (Err e) told = tt
