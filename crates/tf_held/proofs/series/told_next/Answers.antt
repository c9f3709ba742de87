use Rattle.std.proofs.Common.{sym, ◌∙◌}
use Rattle.tf_held.specs.Texts.{beside_of}
use Rattle.tf_held.proofs.Again.{runs_again}
use Rattle.tf_held.proofs.series.told_next.Goals as goal

pub returns-then-has_told : goal.returns-then-has_told
returns-then-has_told c =
    let told = sym c.has_told.ensures ∙ c.if-has_told.true in (
      c.in_ok-status.status,
      _,
      runs_again c.args.series.now c.args.held.instance.now c.in-Some.own.now _
          (beside_of c.args.held.beside) c.args.number c.in_ok-status.status _ _
          (rw c.in-Some.is at c.requires.parts)
          (c.is_named_apart.ensures c.if-is_named_apart.true) told c.in_ok-status.ensures,
      told,
    )
