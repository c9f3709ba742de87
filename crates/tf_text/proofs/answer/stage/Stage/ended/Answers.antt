use Rattle.tf_text.proofs.Stages.{ends_early}
use Rattle.tf_text.proofs.answer.stage.Stage.ended.Goals as goal

pub returns : goal.returns
returns g c = record {
  read = λ total h.
      ends_early c.args.self total c.in_default.not-Over c.in_default.not-Failed h;
  machines = tt;
}
