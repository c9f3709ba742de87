-- One more word of a list that is written.
use Rattle.std.proofs.Common.{◌≡◌, ℕ, ◌+◌, ◌<◌, true, false, eqb, List, [], ◌∷◌, ◌++◌, length, map, take, get_or, refl, sym, ap, ◌∙◌, append_assoc, arith, length-append}
use Rattle.std.specs.List.{filter, join_with_byte}
use Rattle.std.proofs.lemmas.Bool.{ne_eqb}
use Rattle.std.proofs.lemmas.List.{map-append, append-nil, take_more}
use Rattle.std.proofs.lemmas.List.Elements.{filter-append}
use Rattle.tf_notation.specs.declared.spelling.Condition.{Condition}
use Rattle.tf_notation.specs.declared.spelling.Condition.TheVariants.{Release, Prec, Prmp, Prmu, Nwt, Block, Rcrc}
use Rattle.tf_model.specs.declared.problem.Problem.{Problem}
use Rattle.tf_notation.specs.Spelling.{has}
use Rattle.tf_notation.specs.Canonical.{condition_word, listed_text, one_more}

abbrev joined : List Condition → List ℕ
joined cs = join_with_byte 44 (map condition_word cs)

joined_more : (c : Condition) (cs : List Condition) (w : List ℕ)
    → join_with_byte 44 (map condition_word (c ∷ cs) ++ w ∷ []) ≡ joined (c ∷ cs) ++ (44 ∷ w)
joined_more c [] w = refl
joined_more c (d ∷ cs) w = ap (λ (t : List ℕ). condition_word c ++ (44 ∷ t)) (joined_more d cs w)
    ∙ sym (append_assoc (condition_word c) (44 ∷ joined (d ∷ cs)) (44 ∷ w))

some_bytes : (c : Condition) → 0 < length (condition_word c)
some_bytes Release = omega arith
some_bytes Prec = omega arith
some_bytes Prmp = omega arith
some_bytes Prmu = omega arith
some_bytes Nwt = omega arith
some_bytes Block = omega arith
some_bytes Rcrc = omega arith

joined_some : (c : Condition) (cs : List Condition) → 0 < length (joined (c ∷ cs))
joined_some c [] = some_bytes c
joined_some c (d ∷ cs) =
    omega (arith, length-append (condition_word c) (44 ∷ joined (d ∷ cs)), some_bytes c)

joined_push : (cs : List Condition) (w : List ℕ)
    → join_with_byte 44 (map condition_word cs ++ w ∷ []) ≡ one_more (joined cs) w
joined_push [] w = refl
joined_push (c ∷ cs) w =
    let some : eqb (length (joined (c ∷ cs))) 0 ≡ false =
    ne_eqb _ _ (λ e. omega (arith, e, joined_some c cs)) in
    joined_more c cs w ∙ rw some refl

pub listed_yes : (named : Problem) (cs : List Condition) (c : Condition) → has named c ≡ true
    → listed_text named (cs ++ c ∷ []) ≡ one_more (listed_text named cs) (condition_word c)
listed_yes named cs c h =
    let kept : filter (has named) (cs ++ c ∷ []) ≡ filter (has named) cs ++ c ∷ [] =
    filter-append (has named) cs (c ∷ []) ∙ rw h refl in
    ap joined kept
    ∙ ap (join_with_byte 44) (map-append condition_word (filter (has named) cs) (c ∷ []))
    ∙ joined_push (filter (has named) cs) (condition_word c)

pub listed_no : (named : Problem) (cs : List Condition) (c : Condition) → has named c ≡ false
    → listed_text named (cs ++ c ∷ []) ≡ listed_text named cs
listed_no named cs c h =
    let kept : filter (has named) (cs ++ c ∷ []) ≡ filter (has named) cs =
    filter-append (has named) cs (c ∷ []) ∙ rw h (append-nil (filter (has named) cs)) in
    ap joined kept

pub step_yes : (named : Problem) (all : List Condition) (i : ℕ) (d : Condition)
    (old word new : List ℕ)
    → i < length all → has named (get_or all i d) ≡ true → old ≡ listed_text named (take i all)
    → word ≡ condition_word (get_or all i d) → new ≡ one_more old word
    → new ≡ listed_text named (take (i + 1) all)
step_yes named all i d old word new lt h old-is word-is new-is =
    new-is ∙ ap (one_more old) word-is
    ∙ ap (λ (t : List ℕ). one_more t (condition_word (get_or all i d))) old-is
    ∙ sym (ap (listed_text named) (take_more all i d lt)
    ∙ listed_yes named (take i all) (get_or all i d) h)

pub step_no : (named : Problem) (all : List Condition) (i : ℕ) (d : Condition) (old : List ℕ)
    → i < length all → has named (get_or all i d) ≡ false → old ≡ listed_text named (take i all)
    → old ≡ listed_text named (take (i + 1) all)
step_no named all i d old lt h old-is = old-is
    ∙ sym (ap (listed_text named) (take_more all i d lt)
    ∙ listed_no named (take i all) (get_or all i d) h)
