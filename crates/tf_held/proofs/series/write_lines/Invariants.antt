use Rattle.std.proofs.Common.{◌+◌, ◌-◌, IfSome}
use Rattle.tf_text.specs.Counted.{inner_of}
use Rattle.tf_held.specs.Instances.{IsBehind}
use Rattle.tf_held.specs.Texts.{beside_of}
use Rattle.tf_held.proofs.Lines.{Progress}
use Rattle.tf_held.proofs.series.write_lines.Given as goal

-- the lines of the instances so far are written, and it is known which text is ahead
abbrev pub invariant-loop-step : goal.invariant-loop-step
invariant-loop-step g l =
    let contents = g.W.Write.contents in
    record {
      told : Progress l.fn.series l.fn.instance (beside_of l.fn.texts) (beside_of l.rest) l.step
          (contents (inner_of l.fn.writer)) (contents (inner_of l.writer));
      known : IfSome l.ahead (λ text. IsBehind l.fn.series.form l.fn.instance
          (l.fn.series.span.first + l.step - 1) text.now);
    }
