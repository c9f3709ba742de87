-- What was written before a failure.
use Rattle.std.proofs.Common.{ℕ, ◌+◌, Result, Ok, Err, OnErr, List, [], ◌++◌, length, take, Option, append_assoc, append-nil, sym, ap, subst, ◌∙◌, arith}
use Rattle.std.specs.Io.KnownBytes.{Appends}
use Rattle.std.proofs.KnownBytes.{Appends-trans}
use Rattle.std.proofs.Math.Seq.{take-append-add}
use Rattle.std.proofs.lemmas.List.{take-append-le, length-append}
use Rattle.tf_text.specs.Counted.{AppendsPrefix}

-- what was written, and a prefix of what comes next, is a prefix of the whole
pub prefix_then : (a b c : Option (List ℕ)) (front next rest : List ℕ) → Appends a b front
    → AppendsPrefix b c next → AppendsPrefix a c (front ++ (next ++ rest))
prefix_then a b c front next rest written (n, within, more) = (
  length front + n,
  omega (arith, within, length-append front (next ++ rest), length-append next rest),
  subst (Appends a c)
      (sym (take-append-add front (next ++ rest) n
      ∙ ap (λ xs. front ++ xs) (take-append-le n next rest within)))
      (Appends-trans a b c front (take n next) written more),
)

-- the same of what comes first
pub prefix_first : (a c : Option (List ℕ)) (next rest : List ℕ) → AppendsPrefix a c next
    → AppendsPrefix a c (next ++ rest)
prefix_first a c next rest (n, within, more) = (
  n,
  omega (arith, within, length-append next rest),
  subst (Appends a c) (sym (take-append-le n next rest within)) more,
)

-- the same of what comes last
pub prefix_last : (a b c d : Option (List ℕ)) (front next last : List ℕ) → Appends a b front
    → Appends b c next → AppendsPrefix c d last → AppendsPrefix a d (front ++ (next ++ last))
prefix_last a b c d front next last first second more =
    subst (AppendsPrefix a d)
    (ap (λ text. (front ++ next) ++ text) (append-nil last) ∙ append_assoc front next last)
    (prefix_then a c d (front ++ next) last [] (Appends-trans a b c front next first second) more)

-- what holds holds where an error is answered
pub on_err : {X E : Type 0} {P : Type 0} (r : Result X E) → P → OnErr r P
on_err (Ok x) p = tt
on_err (Err e) p = p
