use Rattle.std.proofs.Common.{◌≡◌, ◌++◌, ◌∷◌, [], Some, subst, sym, ◌∙◌, rules, to_z, of_z, w64}
use Rattle.tf_read.specs.Numbers.{Progress, ReadsTardiness}
use Rattle.tf_read.proofs.Progress.{unchanged, fails, keeps}
use Rattle.tf_read.proofs.numbers.NumbersJudge.judge.Goals as goal

pub returns-then-is_over : goal.returns-then-is_over
returns-then-is_over g c =
    λ says seen word of h.
    (h.0, unchanged _ seen word (sym c.is_over.ensures ∙ c.if-is_over.true) h.1)

pub returns-in-Err : goal.returns-in-Err
returns-in-Err g c = λ says seen word of h.
    subst (λ (p : Progress). ReadsTardiness (record p { fault = Some c.in-Err.fault }) says
    (seen ++ word ∷ []))
    (sym c.self.view_is) (
      h.0,
      fails _ seen word _ _ _ (sym c.is_over.ensures ∙ c.if-is_over.false) of
          (sym c.number.ensures.value ∙ c.in-Err.is) h.1,
    )

pub returns-in-Ok : goal.returns-in-Ok
returns-in-Ok g c = λ says seen word of h.
    let same : to_z w64 (of_z w64 c.in-Ok.value) ≡ c.in-Ok.value = search rules in
    rw (c.keep.ensures, same) (
      h.0,
      keeps _ seen word _ _ _ (sym c.is_over.ensures ∙ c.if-is_over.false) of
          (sym c.number.ensures.value ∙ c.in-Ok.is) h.1,
    )
