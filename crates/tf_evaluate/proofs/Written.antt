-- What is written piece by piece, as lines of words.
use Rattle.std.proofs.Common.{◌≡◌, List, [], ◌∷◌, ◌++◌, map, codes, ℕ, ℤ, Option, refl, sym, ap, ◌∙◌}
use Rattle.std.proofs.lemmas.Grind.{flat_map-append}
use Rattle.std.specs.List.{flat_map, join_with_byte}
use Rattle.std.specs.Fmt.{decimal, signed_decimal}
use Rattle.tf_notation.specs.Canonical.{canonical}
use Rattle.tf_text.specs.AnswerText.{line_text}
use Rattle.tf_text.proofs.Written.{then, joined}
use Rattle.tf_evaluate.specs.EvaluationData.{EvaluationData, OptimumData, value_in}
use Rattle.tf_evaluate.specs.declared.step.Terms.{Terms}
use Rattle.tf_evaluate.specs.declared.step.Step.{Step}
use Rattle.tf_evaluate.specs.EvaluationText.{ReferenceLines, fit_words, claimed_lines, number_lines, gap_lines, bound_lines, outcome_words, optimum_lines, judgement_lines, terms_words, step_words, evaluation_text}

-- words, each behind a blank, and then others
pub words_then : (t0 t1 t2 : List ℕ) (first others : List (List ℕ))
    → t1 ≡ t0 ++ flat_map (λ word. 32 ∷ word) first
    → t2 ≡ t1 ++ flat_map (λ word. 32 ∷ word) others
    → t2 ≡ t0 ++ flat_map (λ word. 32 ∷ word) (first ++ others)
words_then t0 t1 t2 first others e1 e2 =
    then t0 t1 t2 _ _ e1 e2
    ∙ ap (λ text. t0 ++ text) (sym (flat_map-append (λ word. 32 ∷ word) first others))

-- the words of terms that are shown
pub terms_written : (terms shown : Terms) (t0 t1 : List ℕ) → terms ≡ shown
    → t1 ≡ t0 ++ flat_map (λ word. 32 ∷ word) (terms_words shown)
    → t1 ≡ t0 ++ flat_map (λ word. 32 ∷ word) (terms_words terms)
terms_written terms shown t0 t1 same written =
    written ∙ ap (λ t. t0 ++ flat_map (λ word. 32 ∷ word) (terms_words t)) (sym same)

-- lines, and then others
pub lines_then : (t0 t1 t2 : List ℕ) (first others : List (List (List ℕ)))
    → t1 ≡ t0 ++ flat_map line_text first → t2 ≡ t1 ++ flat_map line_text others
    → t2 ≡ t0 ++ flat_map line_text (first ++ others)
lines_then t0 t1 t2 first others e1 e2 =
    then t0 t1 t2 _ _ e1 e2
    ∙ ap (λ text. t0 ++ text) (sym (flat_map-append line_text first others))

-- the lines of the optimum
pub optimum_written : (o : OptimumData) (value : Option ℤ) (t0 t1 t2 t3 t4 : List ℕ)
    → t1 ≡ t0 ++ line_text (codes "best" ∷ signed_decimal o.best ∷ [])
    → t2 ≡ t1 ++ flat_map line_text (gap_lines value o.best)
    → t3 ≡ t2 ++ flat_map line_text (bound_lines o.bound)
    → t4 ≡ t3 ++ flat_map line_text (map step_words o.steps)
    → t4 ≡ t0 ++ flat_map line_text (optimum_lines o value)
optimum_written o value t0 t1 t2 t3 t4 e1 e2 e3 e4 =
    let from2 = lines_then t2 t3 t4 (bound_lines o.bound) (map step_words o.steps) e3 e4 in
    let from1 = lines_then t1 t2 t4 (gap_lines value o.best)
    (bound_lines o.bound ++ map step_words o.steps) e2 from2 in
    then t0 t1 t4 _ _ e1 from1

module _ {R : Type 0} (lines : ReferenceLines R) (e : EvaluationData R) where
  abbrev value : Option ℤ
  value = value_in e.fit

  -- the lines of the judgement
  pub judgement_written : (t0 t1 t2 t3 t4 : List ℕ) → t1 ≡ t0 ++ line_text (fit_words e.fit)
      → t2 ≡ t1 ++ flat_map line_text (claimed_lines e.claimed)
      → t3 ≡ t2 ++ flat_map line_text (number_lines (codes "value") value)
      → t4 ≡ t3 ++ flat_map line_text (lines e.reference value)
      → t4 ≡ t0 ++ flat_map line_text (judgement_lines lines e)
  judgement_written t0 t1 t2 t3 t4 e1 e2 e3 e4 =
      let own = number_lines (codes "value") value in
      let from2 = lines_then t2 t3 t4 own (lines e.reference value) e3 e4 in
      let from1 = lines_then t1 t2 t4 (claimed_lines e.claimed)
      (own ++ lines e.reference value) e2 from2 in
      then t0 t1 t4 _ _ e1 from1

  -- the lines from the judgement on
  abbrev rest_lines : List (List (List ℕ))
  rest_lines = judgement_lines lines e ++ (map outcome_words e.outcomes ++ (codes "end" ∷ []) ∷ [])

  -- the first two lines, and the others
  evaluation_joined : codes "evaluation 1\nproblem " ++ (canonical e.problem ++ 10 ∷ [])
      ++ flat_map line_text
      ((codes "jobs" ∷ decimal e.jobs ∷ []) ∷ (codes "machines" ∷ decimal e.machines ∷ [])
      ∷ rest_lines)
      ≡ evaluation_text lines e
  unfolding evaluation_text
  evaluation_joined = refl

  -- all lines
  pub evaluation_written : (t0 t1 t2 t3 t4 t5 t6 t7 : List ℕ)
      → t0 ≡ codes "evaluation 1\nproblem " → t1 ≡ t0 ++ canonical e.problem → t2 ≡ t1 ++ 10 ∷ []
      → t3 ≡ t2 ++ line_text (codes "jobs" ∷ decimal e.jobs ∷ [])
      → t4 ≡ t3 ++ line_text (codes "machines" ∷ decimal e.machines ∷ [])
      → t5 ≡ t4 ++ flat_map line_text (judgement_lines lines e)
      → t6 ≡ t5 ++ flat_map line_text (map outcome_words e.outcomes)
      → t7 ≡ t6 ++ flat_map line_text ((codes "end" ∷ []) ∷ [])
      → t7 ≡ evaluation_text lines e
  evaluation_written t0 t1 t2 t3 t4 t5 t6 t7 e0 e1 e2 e3 e4 e5 e6 e7 =
      let outcomes = map outcome_words e.outcomes in
      let last : List (List (List ℕ)) = (codes "end" ∷ []) ∷ [] in
      let from5 = lines_then t5 t6 t7 outcomes last e6 e7 in
      let from4 : t7 ≡ t4 ++ flat_map line_text rest_lines =
      lines_then t4 t5 t7 (judgement_lines lines e) (outcomes ++ last) e5 from5 in
      let from3 : t7 ≡ t3
      ++ flat_map line_text ((codes "machines" ∷ decimal e.machines ∷ []) ∷ rest_lines) =
      then t3 t4 t7 _ _ e4 from4 in
      let from2 : t7 ≡ t2
      ++ flat_map line_text
      ((codes "jobs" ∷ decimal e.jobs ∷ []) ∷ (codes "machines" ∷ decimal e.machines ∷ [])
      ∷ rest_lines) = then t2 t3 t7 _ _ e3 from3 in
      let heading : t2 ≡ codes "evaluation 1\nproblem " ++ (canonical e.problem ++ 10 ∷ []) =
      then t0 t1 t2 _ _ e1 e2 ∙ ap (λ text. text ++ (canonical e.problem ++ 10 ∷ [])) e0 in
      from2 ∙ ap (λ text. text
      ++ flat_map line_text
      ((codes "jobs" ∷ decimal e.jobs ∷ []) ∷ (codes "machines" ∷ decimal e.machines ∷ [])
      ∷ rest_lines)) heading
      ∙ evaluation_joined

-- a step: the word, its terms, and what they come to
pub step_written : (s : Step) (t0 t1 t2 t3 t4 : List ℕ) → t1 ≡ t0 ++ codes "step"
    → t2 ≡ t1 ++ flat_map (λ word. 32 ∷ word) (terms_words s.terms)
    → t3 ≡ t2 ++ flat_map (λ word. 32 ∷ word) (codes "=" ∷ signed_decimal s.result ∷ [])
    → t4 ≡ t3 ++ 10 ∷ []
    → t4 ≡ t0 ++ line_text (step_words s)
step_written s t0 t1 t2 t3 t4 e1 e2 e3 e4 =
    let result : List (List ℕ) = codes "=" ∷ signed_decimal s.result ∷ [] in
    let behind : t3 ≡ t1 ++ flat_map (λ word. 32 ∷ word) (terms_words s.terms ++ result) =
    words_then t1 t2 t3 (terms_words s.terms) result e2 e3 in
    let words : t3 ≡ t0 ++ join_with_byte 32 (step_words s) = then t0 t1 t3 _ _ e1 behind
    ∙ ap (λ text. t0 ++ text) (sym (joined (codes "step") (terms_words s.terms ++ result))) in
    then t0 t3 t4 _ _ words e4
