-- The lines of orders, one after another.
use Rattle.std.proofs.Common.{◌≡◌, ℕ, Bool, true, false, List, [], ◌∷◌, ◌++◌, refl, sym, subst, ◌∙◌, append_assoc, ap, inl, inr}
use Rattle.std.proofs.lemmas.List.{append-nil}
use Rattle.tf_words.specs.Words.{KeptLine, lines, kept_lines}
use Rattle.tf_text.specs.declared.answer.fault.AnswerFault.TheVariants.{BadLine}
use Rattle.tf_engine.specs.Faults.{Stop, Refuses, Fails, Wants}
use Rattle.tf_orders.specs.declared.measure.Measure.{Measure}
use Rattle.tf_orders.specs.declared.run_orders.OrderForm.TheVariants.{Lines}
use Rattle.tf_orders.specs.OrderText.{IsRow, IsLineOf, AreRows, IsFirstBad}
use Rattle.tf_orders.specs.OrderParts.{IsUnrated, IsWithoutRow}

-- what is written so far of all lines, where these are left
pub record AreRowsSoFar {A : Type 0} (goes_on : Bool) (m : Measure A) (all rest : List KeptLine)
    (out : List ℕ) : Type 0 where
  pub rows : (more : List ℕ) → AreRows goes_on m rest more → AreRows goes_on m all (out ++ more)
  pub bad : goes_on ≡ false → (k : ℕ) → IsFirstBad m rest k → IsFirstBad m all k

-- where the others are not gone on with, the line is that of an order
ordered : {A : Type 0} (goes_on : Bool) (m : Measure A) (text row : List ℕ)
    → IsLineOf goes_on m text row → goes_on ≡ false → IsRow m text row
ordered goes_on m text row (inl (stopping, is)) stops = is
ordered goes_on m text row (inr (goes, graded)) stops = let both : true ≡ false = sym goes ∙ stops in cc

module _ (A : Type 0) (goes_on : Bool) (m : Measure A) where
  pub rows_start : (all : List KeptLine) → AreRowsSoFar goes_on m all all []
  rows_start all = record { rows = λ more h. h; bad = λ stops k h. h }

  module _ (all rest : List KeptLine) (out : List ℕ) (so_far : AreRowsSoFar goes_on m all rest out) where
    pub rows_end : rest ≡ [] → AreRows goes_on m all out
    rows_end none =
        subst (AreRows goes_on m all) (append-nil out)
        (so_far.rows [] (subst (λ (ls : List KeptLine). AreRows goes_on m ls []) (sym none) refl))

    module _ (line : KeptLine) (more : List KeptLine) (first : rest ≡ line ∷ more) where
      pub rows_more : (row out2 : List ℕ) → IsLineOf goes_on m line.bytes row → out2 ≡ out ++ row
          → AreRowsSoFar goes_on m all more out2
      rows_more row out2 is same = record {
        rows = λ tail h.
            subst (AreRows goes_on m all) (sym (ap (λ bs. bs ++ tail) same ∙ append_assoc out row tail))
            (so_far.rows (row ++ tail)
            (subst (λ (ls : List KeptLine). AreRows goes_on m ls (row ++ tail)) (sym first)
            (row, tail, is, h, refl)));
        bad = λ stops k h.
            let said = ordered goes_on m line.bytes row is stops in
            so_far.bad stops k
            (subst (λ (ls : List KeptLine). IsFirstBad m ls k) (sym first) (inr ((said.0, said.1), h)));
      }

      pub rows_fail : (text : List ℕ) → all ≡ kept_lines 1 (lines text) → (s : Stop)
          → IsWithoutRow goes_on m line.number line.bytes s → IsUnrated (Lines goes_on) m text s
      rows_fail text is (Refuses refused) (stops, named, unordered) = (
        BadLine line.number,
        named,
        (
          stops,
          line.number,
          subst (λ (ls : List KeptLine). IsFirstBad m ls line.number) is
              (so_far.bad stops line.number
              (subst (λ (ls : List KeptLine). IsFirstBad m ls line.number) (sym first)
              (inl (unordered, refl)))),
          refl,
        ),
      )
      rows_fail text is Fails h = h
      rows_fail text is Wants h = tt
