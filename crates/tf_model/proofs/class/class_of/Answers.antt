use Rattle.std.proofs.Common.{rules}
use Rattle.tf_model.proofs.OfClass.{determined}
use Rattle.tf_model.proofs.class.class_of.Goals as goal

pub returns-in-Single-clause-of : goal.returns-in-Single-clause-of
returns-in-Single-clause-of c =
    determined c.args.problem.now c.single_class.result (search rules)
