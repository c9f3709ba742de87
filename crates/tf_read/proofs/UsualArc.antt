-- The line of an arc in its usual form.
use Rattle.std.proofs.Common.{◌≡◌, ◌≤◌, ◌<◌, ℕ, false, ltb, List, [], ◌∷◌, codes, Ok, refl, subst, ap, sym, ◌∙◌, arith}
use Rattle.std.proofs.lemmas.Bool.{le-ltb}
use Rattle.tf_words.specs.Number.{number}
use Rattle.tf_words.specs.Words.{Line}
use Rattle.tf_words.specs.FirstLine.{IsNumeralOf, IsWordBefore, IsLineEnd, line_words}
use Rattle.tf_words.proofs.NumeralOf.{number_is}
use Rattle.tf_model.specs.InstanceData.{is_no_job}
use Rattle.tf_model.specs.Limit.{most_arcs}
use Rattle.tf_read.specs.JobTable.{arc_job, arc_of, arc_line}
use Rattle.tf_read.specs.NextArc.{BeginsWithArc}

-- a word is the number of a job
pub record IsJobWord (jobs : ℕ) (word : List ℕ) (job : ℕ) : Type 0 where
  pub numeral : IsNumeralOf word job
  pub few : job < 1000000000000000000
  pub low : 1 ≤ job
  pub high : job ≤ jobs

-- such a word is read as this job
job_word : (jobs n j : ℕ) (word : List ℕ) → IsJobWord jobs word j
    → arc_job jobs n (number word) ≡ Ok j
job_word jobs n j word is =
    let few = is.few in
    let low : ltb j 1 ≡ false = le-ltb j 1 is.low in
    let high : ltb jobs j ≡ false = le-ltb jobs j is.high in
    let there : is_no_job jobs j ≡ false = rw (low, high) refl in
    ap (arc_job jobs n) (number_is word j is.numeral (omega arith)) ∙ rw there refl

-- a line `prec i j` is read as an arc
read_arc : (jobs k n i j : ℕ) (a b : List ℕ) → k ≤ most_arcs → IsJobWord jobs a i
    → IsJobWord jobs b j
    → arc_line jobs k (record { number = n; words = codes "prec" ∷ a ∷ b ∷ [] }) ≡ Ok (i, j)
unfolding arc_line arc_of
read_arc jobs k n i j a b few first second =
    let below : ltb most_arcs k ≡ false = le-ltb most_arcs k few in
    rw below (rw (job_word jobs n i a first) (rw (job_word jobs n j b second) refl))

-- the words of such a line
pub three_words : (key a b first second third fourth rest : List ℕ)
    → IsWordBefore first key second → IsWordBefore second a third → IsWordBefore third b fourth
    → IsLineEnd fourth rest → line_words first ≡ key ∷ a ∷ b ∷ []
three_words key a b first second third fourth rest k l m end =
    k.words
    ∙ ap (λ ws. key ∷ ws) (l.words ∙ ap (λ ws. a ∷ ws) (m.words ∙ ap (λ ws. b ∷ ws) end.words))

-- such a line before others, as a text begins with it
pub usual_line : (jobs k n i j : ℕ) (a b : List ℕ) (ws : List (List ℕ)) (all others : List Line)
    → all ≡ record { number = n; words = ws } ∷ others → ws ≡ codes "prec" ∷ a ∷ b ∷ []
    → k ≤ most_arcs → IsJobWord jobs a i → IsJobWord jobs b j
    → BeginsWithArc jobs k all (i, j) others
usual_line jobs k n i j a b ws all others is words few first second =
    record {
      line = record { number = n; words = ws };
      is = is;
      read = subst (λ ts. arc_line jobs k (record { number = n; words = ts }) ≡ Ok (i, j)) (sym words)
          (read_arc jobs k n i j a b few first second);
    }
