use Rattle.std.proofs.Common.{◌≡◌, ◌∷◌, ◌++◌, drop, codes, rules}
use Rattle.std.specs.Fmt.{decimal, signed_decimal}
use Rattle.tf_text.proofs.Written.{line_from_end}
use Rattle.tf_text.proofs.answer.line.line_before.Goals as goal

pub returns-clause-written : goal.returns-clause-written
returns-clause-written c =
    let piece = c.args.piece.now in
    let stop : drop c.time_before-at.result c.time_before-at.new.text
    ≡ (32 ∷ signed_decimal piece.stop) ++ drop c.byte_before-at.result c.byte_before-at.new.text =
    search rules in
    let start : drop c.time_before-at-2.result c.time_before-at-2.new.text
    ≡ (32 ∷ signed_decimal piece.start) ++ drop c.time_before-at.result c.time_before-at.new.text =
    search rules in
    let machine : drop c.number_before-at.result c.number_before-at.new.text
    ≡ (32 ∷ decimal piece.machine) ++ drop c.time_before-at-2.result c.time_before-at-2.new.text =
    search rules in
    let job : drop c.number_before-at-2.result c.number_before-at-2.new.text
    ≡ (32 ∷ decimal piece.job) ++ drop c.number_before-at.result c.number_before-at.new.text =
    search rules in
    line_from_end _ _ _ _ _ _ (codes "piece") _ _ _ _ _ c.byte_before-at.ensures.written stop start
    machine job c.key_before.ensures.written
