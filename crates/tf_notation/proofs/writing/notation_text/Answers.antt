use Rattle.std.proofs.Common.{string_bytes}
use Rattle.tf_notation.proofs.Counted.{means_again}
use Rattle.tf_notation.proofs.writing.notation_text.Goals as goal

pub returns-clause-round_trip : goal.returns-clause-round_trip
returns-clause-round_trip g c =
    means_again string_bytes c.canonical.result c.args.problem.now c.canonical.ensures
