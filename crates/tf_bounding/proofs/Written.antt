-- What is written piece by piece, as lines of words.
use Rattle.std.proofs.Common.{◌≡◌, ℕ, ℤ, false, eqb, List, [], ◌∷◌, ◌++◌, length, map, codes, refl, sym, ap, ◌∙◌, arith, append-nil}
use Rattle.std.proofs.lemmas.Bool.{true≢false}
use Rattle.std.proofs.lemmas.Grind.{flat_map-append}
use Rattle.std.specs.List.{flat_map, join_with_byte}
use Rattle.std.specs.Fmt.{decimal, signed_decimal}
use Rattle.tf_notation.specs.Canonical.{canonical}
use Rattle.tf_text.specs.AnswerText.{line_text}
use Rattle.tf_text.proofs.Written.{then, joined}
use Rattle.tf_posed.specs.ProblemData.{ProblemData}
use Rattle.tf_bound.specs.declared.certificate.BoundCertificate.{BoundCertificate}
use Rattle.tf_bounding.specs.BoundText.{arc_lines, certificate_lines, bound_text}

-- a number, and then others
pub one_more : (t0 t1 t2 first : List ℕ) (others : List (List ℕ)) → t1 ≡ t0 ++ 32 ∷ first
    → t2 ≡ t1 ++ flat_map (λ word. 32 ∷ word) others
    → t2 ≡ t0 ++ flat_map (λ word. 32 ∷ word) (first ∷ others)
one_more t0 t1 t2 first others e1 e2 = then t0 t1 t2 (32 ∷ first) _ e1 e2

-- a word and others, as a line
pub line_written : (t0 t1 t2 t3 word : List ℕ) (others : List (List ℕ)) → t1 ≡ t0 ++ word
    → t2 ≡ t1 ++ flat_map (λ word. 32 ∷ word) others → t3 ≡ t2 ++ 10 ∷ []
    → t3 ≡ t0 ++ line_text (word ∷ others)
line_written t0 t1 t2 t3 word others e1 e2 e3 =
    let words : t2 ≡ t0 ++ join_with_byte 32 (word ∷ others) = then t0 t1 t2 _ _ e1 e2
    ∙ ap (λ text. t0 ++ text) (sym (joined word others)) in
    then t0 t2 t3 _ _ words e3

-- lines, and then others
pub lines_then : (t0 t1 t2 : List ℕ) (first others : List (List (List ℕ)))
    → t1 ≡ t0 ++ flat_map line_text first → t2 ≡ t1 ++ flat_map line_text others
    → t2 ≡ t0 ++ flat_map line_text (first ++ others)
lines_then t0 t1 t2 first others e1 e2 =
    then t0 t1 t2 _ _ e1 e2
    ∙ ap (λ text. t0 ++ text) (sym (flat_map-append line_text first others))

-- one line alone
pub only_line : (t0 t1 : List ℕ) (words : List (List ℕ)) → t1 ≡ t0 ++ line_text words
    → t1 ≡ t0 ++ flat_map line_text (words ∷ [])
only_line t0 t1 words written =
    written ∙ ap (λ text. t0 ++ text) (sym (append-nil (line_text words)))

-- no multipliers of the arcs
pub no_arcs : (t0 : List ℕ) (arcs : List ℕ) → length arcs ≡ 0
    → t0 ≡ t0 ++ flat_map line_text (arc_lines arcs)
no_arcs t0 [] none = sym (append-nil t0)
no_arcs t0 (number ∷ numbers) none = absurd (omega (arith, none))

-- and some
pub some_arcs : (t0 t1 : List ℕ) (arcs : List ℕ) → eqb (length arcs) 0 ≡ false
    → t1 ≡ t0 ++ line_text (codes "arcs" ∷ map decimal arcs)
    → t1 ≡ t0 ++ flat_map line_text (arc_lines arcs)
some_arcs t0 t1 [] some written = absurd (true≢false some)
some_arcs t0 t1 (number ∷ numbers) some written =
    only_line t0 t1 (codes "arcs" ∷ map decimal (number ∷ numbers)) written

module _ (A : Type 0) (k : ProblemData) (jobs : ℕ) (value : ℤ) (certificate : BoundCertificate A)
  where
    abbrev last_lines : List (List (List ℕ))
    last_lines = certificate_lines certificate ++ (codes "end" ∷ []) ∷ []

    abbrev later_lines : List (List (List ℕ))
    later_lines =
        (codes "jobs" ∷ decimal jobs ∷ []) ∷ (codes "machines" ∷ decimal k.machines ∷ [])
        ∷ (codes "value" ∷ signed_decimal value ∷ []) ∷ last_lines

    -- the first two lines, and the others
    bound_joined : codes "bound 1\nproblem " ++ (canonical k.problem ++ 10 ∷ [])
        ++ flat_map line_text later_lines ≡ bound_text k jobs value certificate
    unfolding bound_text
    bound_joined = refl

    -- all lines
    pub bound_written : (t0 t1 t2 t3 t4 t5 t6 t7 : List ℕ) → t0 ≡ codes "bound 1\nproblem "
        → t1 ≡ t0 ++ canonical k.problem → t2 ≡ t1 ++ 10 ∷ []
        → t3 ≡ t2 ++ line_text (codes "jobs" ∷ decimal jobs ∷ [])
        → t4 ≡ t3 ++ line_text (codes "machines" ∷ decimal k.machines ∷ [])
        → t5 ≡ t4 ++ line_text (codes "value" ∷ signed_decimal value ∷ [])
        → t6 ≡ t5 ++ flat_map line_text (certificate_lines certificate)
        → t7 ≡ t6 ++ flat_map line_text ((codes "end" ∷ []) ∷ [])
        → t7 ≡ bound_text k jobs value certificate
    bound_written t0 t1 t2 t3 t4 t5 t6 t7 e0 e1 e2 e3 e4 e5 e6 e7 =
        let from5 : t7 ≡ t5 ++ flat_map line_text last_lines =
        lines_then t5 t6 t7 (certificate_lines certificate) ((codes "end" ∷ []) ∷ []) e6 e7 in
        let from4 : t7 ≡ t4
        ++ flat_map line_text ((codes "value" ∷ signed_decimal value ∷ []) ∷ last_lines) =
        then t4 t5 t7 _ _ e5 from5 in
        let from3 : t7 ≡ t3
        ++ flat_map line_text
        ((codes "machines" ∷ decimal k.machines ∷ [])
        ∷ (codes "value" ∷ signed_decimal value ∷ []) ∷ last_lines) =
        then t3 t4 t7 _ _ e4 from4 in
        let from2 : t7 ≡ t2 ++ flat_map line_text later_lines = then t2 t3 t7 _ _ e3 from3 in
        let heading : t2 ≡ codes "bound 1\nproblem " ++ (canonical k.problem ++ 10 ∷ []) =
        then t0 t1 t2 _ _ e1 e2 ∙ ap (λ text. text ++ (canonical k.problem ++ 10 ∷ [])) e0 in
        from2 ∙ ap (λ text. text ++ flat_map line_text later_lines) heading ∙ bound_joined
