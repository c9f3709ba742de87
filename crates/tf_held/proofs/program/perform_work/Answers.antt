use Rattle.std.proofs.Common.{sym, ap, ◌∙◌, inr}
use Rattle.tf_held.specs.declared.measured.Answered.TheVariants.{Alone, Beside}
use Rattle.tf_held.specs.Program.{is_measured}
use Rattle.tf_held.proofs.program.perform_work.Goals as goal

pub returns-in-Evaluate : goal.returns-in-Evaluate
returns-in-Evaluate g c =
    inr (
      Alone c.in-Evaluate.evaluating,
      c.in-Evaluate.is,
      sym (ap is_measured c.in-Evaluate.is) ∙ sym c.if-not-is_measured.ensures,
      c.perform_measured.ensures,
    )

pub returns-in-Assess : goal.returns-in-Assess
returns-in-Assess g c =
    inr (
      Beside c.in-Assess.assessing,
      c.in-Assess.is,
      sym (ap is_measured c.in-Assess.is) ∙ sym c.if-not-is_measured.ensures,
      c.perform_measured-in-Assess.ensures,
    )
