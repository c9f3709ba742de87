use Rattle.std.proofs.Common.{is_some, inl, inr, refl, sym, ap, ◌∙◌}
use Rattle.tf_options.proofs.options.understand_given.Goals as goal

pub returns-in-Some-2-clause-understood : goal.returns-in-Some-2-clause-understood
returns-in-Some-2-clause-understood c =
    inl (
      ap is_some (sym c.span_for.ensures ∙ c.in-Some-2.is),
      inr (c.has_line_each.ensures.more c.if-has_line_each.false, refl),
    )
