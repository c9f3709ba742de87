-- What is written of a text, call after call.
use Rattle.std.proofs.Common.{◌≡◌, ℕ, List, [], ◌∷◌, ◌++◌, Option, Bool, true, false, Result, Ok, Err, IsErr, OnOk, OnErr, ◌≤◌, length, map, take, refl, sym, ap, subst, ◌∙◌, append_assoc, append-nil, arith}
use Rattle.std.specs.List.{flat_map, join_with_byte}
use Rattle.std.specs.Io.KnownBytes.{Appends}
use Rattle.std.proofs.KnownBytes.{Appends-nil, Appends-trans}
use Rattle.std.proofs.lemmas.Bool.{true≢false}
use Rattle.std.proofs.lemmas.List.{take_all}
use Rattle.std.proofs.lemmas.List.Folds.{flat_map-map}
use Rattle.tf_text.specs.AnswerText.{line_text}
use Rattle.tf_text.specs.declared.counted.Counted.{Counted}
use Rattle.tf_text.specs.Counted.{inner_of, has_failed, AppendsPrefix}
use Rattle.tf_text.proofs.Prefix.{prefix_first, prefix_then}
use Rattle.tf_text.proofs.Written.{joined}
use Rattle.tf_command.specs.Wrote.{Wrote, Gathers}

module _ {W : Type 0} (contents : W → Option (List ℕ)) where
  -- nothing at all
  pub nothing : (d : Counted W) → Wrote contents d d []
  nothing d = record {
    written = λ _. Appends-nil (contents (inner_of d));
    prefix = λ _. (0, omega arith, Appends-nil (contents (inner_of d)));
    untouched = λ _. refl;
  }

  -- one call that writes a text
  pub sent : (X E : Type 0) (old new : Counted W) (r : Result X E) (text : List ℕ)
      → OnOk r (Appends (contents (inner_of old)) (contents (inner_of new)) text)
      → OnErr r (AppendsPrefix (contents (inner_of old)) (contents (inner_of new)) text)
      → OnOk r (has_failed new ≡ false) → OnErr r (has_failed new ≡ true)
      → (has_failed old ≡ true → IsErr r × (new ≡ old)) → Wrote contents old new text
  sent X E old new (Ok x) text written prefix unfailed device stays = record {
    written = λ _. written;
    prefix = λ failed. absurd (true≢false (sym failed ∙ unfailed));
    untouched = λ failed. (stays failed).1;
  }
  sent X E old new (Err e) text written prefix unfailed device stays = record {
    written = λ ok. absurd (true≢false (sym device ∙ ok));
    prefix = λ _. prefix;
    untouched = λ failed. (stays failed).1;
  }

  -- a text, and then another
  module _ (a b c : Counted W) (first second : List ℕ) (w : Wrote contents a b first)
      (v : Wrote contents b c second) where
    whole : (flag : Bool) → has_failed b ≡ flag → has_failed c ≡ false
        → Appends (contents (inner_of a)) (contents (inner_of c)) (first ++ second)
    whole false is ok =
        Appends-trans (contents (inner_of a)) (contents (inner_of b)) (contents (inner_of c)) first
        second (w.written is) (v.written ok)
    whole true is ok = absurd (true≢false (sym is ∙ sym (ap has_failed (v.untouched is)) ∙ ok))

    part : (flag : Bool) → has_failed b ≡ flag → has_failed c ≡ true
        → AppendsPrefix (contents (inner_of a)) (contents (inner_of c)) (first ++ second)
    part false is failed =
        subst (AppendsPrefix (contents (inner_of a)) (contents (inner_of c)))
        (ap (λ text. first ++ text) (append-nil second))
        (prefix_then (contents (inner_of a)) (contents (inner_of b)) (contents (inner_of c)) first
        second [] (w.written is) (v.prefix failed))
    part true is failed =
        prefix_first (contents (inner_of a)) (contents (inner_of c)) first second
        (subst (λ (d : Counted W). AppendsPrefix (contents (inner_of a)) (contents (inner_of d)) first)
        (sym (v.untouched is)) (w.prefix is))

    pub both : Wrote contents a c (first ++ second)
    both = record {
      written = whole (has_failed b) refl;
      prefix = part (has_failed b) refl;
      untouched = λ failed.
          let same = w.untouched failed in v.untouched (ap has_failed same ∙ failed) ∙ same;
    }

  -- nothing was sent yet
  pub begun : (d : Counted W) → Gathers contents d d [] []
  begun d = record { sent = []; parts = refl; wrote = nothing d }

  -- there is room for more
  pub waits : (start d : Counted W) (old new before text : List ℕ) → new ≡ old ++ text
      → Gathers contents start d old before → Gathers contents start d new (before ++ text)
  waits start d old new before text is g = record {
    sent = g.sent;
    parts = rw is (sym (append_assoc g.sent old text) ∙ ap (λ xs. xs ++ text) g.parts);
    wrote = g.wrote;
  }

  -- what waits is sent
  pub flushed : (start d e : Counted W) (waiting text : List ℕ) → Wrote contents d e waiting
      → Gathers contents start d waiting text → Wrote contents start e text
  flushed start d e waiting text w g =
      subst (Wrote contents start e) g.parts (both start d e g.sent waiting g.wrote w)

  -- all was sent
  pub all_sent : (start d : Counted W) (text : List ℕ) → Wrote contents start d text
      → Gathers contents start d [] text
  all_sent start d text w = record { sent = text; parts = append-nil text; wrote = w }

-- a line of a name and words, once all of them are gathered
pub line_of_words : (X : Type 0) (word_of : X → List ℕ) (front name : List ℕ) (words : List X)
    (n : ℕ) → length words ≤ n
    → ((front ++ name) ++ flat_map (λ word. 32 ∷ word_of word) (take n words)) ++ 10 ∷ []
    ≡ front ++ line_text (name ∷ map word_of words)
line_of_words X word_of front name words n enough =
    ap (λ (others : List X).
    ((front ++ name) ++ flat_map (λ word. 32 ∷ word_of word) others) ++ 10 ∷ [])
    (take_all n words enough)
    ∙ ap (λ text. text ++ 10 ∷ [])
    (append_assoc front name (flat_map (λ word. 32 ∷ word_of word) words)
    ∙ ap (λ text. front ++ text)
    (ap (λ text. name ++ text) (sym (flat_map-map (λ word. 32 ∷ word) word_of words))
    ∙ sym (joined name (map word_of words))))
    ∙ append_assoc front (join_with_byte 32 (name ∷ map word_of words)) (10 ∷ [])
