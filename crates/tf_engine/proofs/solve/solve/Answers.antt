use Rattle.std.proofs.lemmas.Result.{IfOk-weaker}
use Rattle.tf_check.specs.Accepted.{IsAccepted, IsBestAnswer}
use Rattle.tf_check.proofs.Best.{accepted-best}
use Rattle.tf_engine.proofs.solve.solve.Goals as goal

pub returns-clause-best : goal.returns-clause-best
returns-clause-best g c =
    IfOk-weaker c.answer_of.result (IsAccepted c.args.task.now) (IsBestAnswer c.args.task.now)
    (λ a. accepted-best c.args.task.now a c.answer_of.ensures.sound) c.answer_of.ensures.accepted
