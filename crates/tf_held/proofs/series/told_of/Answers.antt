use Rattle.std.proofs.Common.{sym, ap, ◌∙◌}
use Rattle.std.proofs.lemmas.Bool.{true≢false}
use Rattle.tf_held.specs.Texts.{beside_of}
use Rattle.tf_held.proofs.Told.{untold}
use Rattle.tf_held.proofs.series.told_of.Goals as goal

pub returns-then-has_told : goal.returns-then-has_told
returns-then-has_told c = (
  c.in_ok-status.status,
  _,
  c.in_ok-status.ensures,
  sym c.has_told.ensures ∙ c.if-has_told.true,
)

pub returns-then-branch : goal.returns-then-branch
returns-then-branch c = c.in_ok-is_at_end.ensures.0 c.if-branch.true

pub returns : goal.returns
returns c = (
  _,
  untold c.args.series.now c.args.held.instance.now (beside_of c.args.held.beside) c.args.number
      c.in_ok-status.status _ _ _ c.in_ok-status.ensures
      (sym c.has_told.ensures ∙ c.if-has_told.false)
      (c.as_slice-errors.ensures.value ∙ ap (λ v. v.items) c.inner.ensures),
  c.in_ok-said_for.ensures,
  λ end. true≢false (sym (c.in_ok-is_at_end.ensures.1 end) ∙ c.if-branch.false),
)
