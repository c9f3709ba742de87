-- What the page is given is what the command gave.
use Rattle.std.proofs.Common.{◌≡◌, ℕ, List, [], Result, Ok, Err, IfOk, MatchResult, refl, subst, sym, inl, inr}
use Rattle.tf_reply.specs.declared.reply.Reply.{Reply}
use Rattle.tf_reply.specs.Replies.{Outcome, printed, said, Replies}
use Rattle.tf_page.specs.declared.given.Lengths.{Lengths}
use Rattle.tf_page.specs.Given.{Given, Holds, memory_line}

pub handed : (Ends : Outcome) {A E : Type 0} (reply : Result (Reply A) E) → IfOk reply (Replies Ends)
    → (old new : List ℕ) (lengths : Lengths) (status : ℕ)
    → MatchResult reply (λ r. Holds old new lengths (printed r) (said r) × (status ≡ r.status))
    (λ _. Holds old new lengths [] memory_line × (status ≡ 3))
    → Given Ends old new lengths status
handed Ends (Ok r) ends old new lengths status (held, is) = record {
  output = printed r;
  errors = said r;
  held = held;
  outcome = inr (subst (Ends (printed r) (said r)) (sym is) ends);
}
handed Ends (Err e) told old new lengths status (held, is) = record {
  output = [];
  errors = memory_line;
  held = held;
  outcome = inl (is, refl, refl);
}
