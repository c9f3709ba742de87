use Rattle.std.proofs.Common.{ℕ, List, refl, subst}
use Rattle.tf_held.specs.Series.{IsTextIn}
use Rattle.tf_held.proofs.series.form_for.Goals as goal

pub returns-in-Flow : goal.returns-in-Flow
returns-in-Flow c =
    rw c.in-Flow.is (
      c.text_in.result.now,
      subst (λ (bytes : List ℕ). IsTextIn bytes c.text_in.result.now) c.name_at.ensures
          c.text_in.ensures,
      refl,
    )
