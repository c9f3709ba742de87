-- The chart as it is written, column by column and line by line.
use Rattle.std.proofs.Common.{◌≡◌, ℕ, zero, ◌+◌, ◌-◌, ◌<◌, List, [], ◌∷◌, ◌++◌, map, Option, append_assoc, append-nil, add-one, suc, sym, ap, subst, ◌∙◌, arith}
use Rattle.std.specs.List.{range_with_len, flat_map}
use Rattle.std.specs.Io.KnownBytes.{Appends}
use Rattle.std.proofs.KnownBytes.{Appends-trans}
use Rattle.tf_model.proofs.Ranges.{range_push}
use Rattle.std.proofs.lemmas.List.FromFn.{map-range_with_len_more}
use Rattle.std.proofs.lemmas.Grind.{flat_map-append}
use Rattle.tf_text.specs.Counted.{AppendsPrefix}
use Rattle.tf_text.proofs.Prefix.{prefix_then}

-- one column more
pub cells_more : (f : ℕ → ℕ) (items old new : List ℕ) (c sign : ℕ)
    → items ≡ old ++ map f (range_with_len 0 c) → new ≡ items ++ sign ∷ [] → sign ≡ f c
    → new ≡ old ++ map f (range_with_len 0 (c + 1))
cells_more f items old new c sign is pushed same =
    pushed ∙ ap (λ xs. xs ++ sign ∷ []) is
    ∙ append_assoc old (map f (range_with_len 0 c)) (sign ∷ [])
    ∙ ap (λ s. old ++ (map f (range_with_len 0 c) ++ s ∷ [])) same
    ∙ ap (λ xs. old ++ xs) (sym (map-range_with_len_more f 0 c c (omega arith)))

-- one line more
lines_more : (f : ℕ → List ℕ) (k : ℕ)
    → flat_map f (range_with_len 1 (k + 1)) ≡ flat_map f (range_with_len 1 k) ++ f (k + 1)
lines_more f k =
    ap (λ n. flat_map f (range_with_len 1 n)) (add-one k) ∙ ap (flat_map f) (range_push 1 k)
    ∙ flat_map-append f (range_with_len 1 k) ((1 + k) ∷ [])
    ∙ ap (λ xs. flat_map f (range_with_len 1 k) ++ xs)
    (append-nil (f (1 + k)) ∙ ap f (omega arith))

-- a range in two parts
range_split : (a m d : ℕ)
    → range_with_len a (m + d) ≡ range_with_len a m ++ range_with_len (a + m) d
range_split a zero d = let start : a + 0 ≡ a = omega arith in let all : 0 + d ≡ d = omega arith in
    ap (range_with_len a) all ∙ ap (λ b. range_with_len b d) (sym start)
range_split a (suc m) d =
    let more : suc m + d ≡ suc (m + d) = omega arith in
    let next : a + 1 + m ≡ a + suc m = omega arith in
    ap (range_with_len a) more
    ∙ ap (λ js. a ∷ js)
    (range_split (a + 1) m d ∙ ap (λ b. range_with_len (a + 1) m ++ range_with_len b d) next)

-- the lines up to k, the next one and the others
lines_split : (f : ℕ → List ℕ) (k n : ℕ) → k < n
    → flat_map f (range_with_len 1 n) ≡ flat_map f (range_with_len 1 k)
    ++ (f (k + 1) ++ flat_map f (range_with_len (1 + (k + 1)) (n - (k + 1))))
lines_split f k n less =
    let parts : n ≡ k + 1 + (n - (k + 1)) = omega arith in
    let rest = range_with_len (1 + (k + 1)) (n - (k + 1)) in
    ap (λ m. flat_map f (range_with_len 1 m)) parts
    ∙ ap (flat_map f) (range_split 1 (k + 1) (n - (k + 1)))
    ∙ flat_map-append f (range_with_len 1 (k + 1)) rest
    ∙ ap (λ xs. xs ++ flat_map f rest) (lines_more f k)
    ∙ append_assoc (flat_map f (range_with_len 1 k)) (f (k + 1)) (flat_map f rest)

-- where the lines up to k were written and a prefix of the next one, a prefix of all lines was
pub prefix_of_lines : (f : ℕ → List ℕ) (a b c : Option (List ℕ)) (head : List ℕ) (k n : ℕ) → k < n
    → Appends a b (head ++ flat_map f (range_with_len 1 k))
    → AppendsPrefix b c (f (k + 1)) → AppendsPrefix a c (head ++ flat_map f (range_with_len 1 n))
prefix_of_lines f a b c head k n less written more =
    let rest : List ℕ = flat_map f (range_with_len (1 + (k + 1)) (n - (k + 1))) in
    let whole : head ++ flat_map f (range_with_len 1 n) ≡ (head ++ flat_map f (range_with_len 1 k))
    ++ (f (k + 1) ++ rest) =
    ap (λ xs. head ++ xs) (lines_split f k n less)
    ∙ sym (append_assoc head (flat_map f (range_with_len 1 k)) (f (k + 1) ++ rest)) in
    subst (AppendsPrefix a c) (sym whole)
    (prefix_then a b c (head ++ flat_map f (range_with_len 1 k)) (f (k + 1)) rest written more)

-- where the lines up to k were written and then the next one, those up to it were
pub written_lines : (f : ℕ → List ℕ) (a b c : Option (List ℕ)) (head : List ℕ) (k : ℕ)
    → Appends a b (head ++ flat_map f (range_with_len 1 k))
    → Appends b c (f (k + 1)) → Appends a c (head ++ flat_map f (range_with_len 1 (k + 1)))
written_lines f a b c head k written more =
    subst (Appends a c)
    (append_assoc head (flat_map f (range_with_len 1 k)) (f (k + 1))
    ∙ ap (λ xs. head ++ xs) (sym (lines_more f k)))
    (Appends-trans a b c (head ++ flat_map f (range_with_len 1 k)) (f (k + 1)) written more)
