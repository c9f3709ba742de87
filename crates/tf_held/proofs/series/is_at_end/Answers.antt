use Rattle.std.proofs.Common.{is_some, sym, ap, ◌∙◌, arith}
use Rattle.std.proofs.lemmas.Bool.{false≢true, true≢false}
use Rattle.tf_held.proofs.Told.{at_end, none_there}
use Rattle.tf_held.proofs.series.is_at_end.Goals as goal

pub returns-then-is_some : goal.returns-then-is_some
returns-then-is_some c = (
  λ on. absurd (false≢true on),
  λ end. absurd (true≢false (sym c.if-is_some.true ∙ c.is_some.ensures ∙ ap is_some end.to_end)),
)

pub returns-then-number-series : goal.returns-then-number-series
returns-then-number-series c =
    (λ on. absurd (false≢true on), λ end. absurd (omega (arith, c.if-number-series.true, end.later)))

pub returns : goal.returns
returns c =
    at_end c.args.series.now c.args.text.now c.args.number c.is_past.result
    (none_there c.args.series.now.span.last (sym c.is_some.ensures ∙ c.if-is_some.false))
    c.if-number-series.false c.is_past.ensures
