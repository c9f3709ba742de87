use Rattle.std.proofs.Common.{codes, ◌++◌, ap, ◌∙◌}
use Rattle.tf_assess.specs.Measures.{measure_line}
use Rattle.tf_assess.proofs.Measuring.{nine_written}
use Rattle.tf_assess.proofs.measures.push_lines.Goals as goal

pub returns : goal.returns
returns g c =
    nine_written c.args.text.now.items c.push_line.new.text.items c.push_line-2.new.text.items c.push_line-3.new.text.items c.push_line-4.new.text.items c.push_line-5.new.text.items c.push_line-6.new.text.items c.push_line-7.new.text.items c.push_line-8.new.text.items c.push_line-9.new.text.items
    _ _ _ _ _ _ _ _ _
    c.in_ok-push_line.ensures c.in_ok-push_line-2.ensures (c.in_ok-push_line-3.ensures
    ∙ ap (λ v. c.push_line-2.new.text.items ++ measure_line (codes "measure Tmax") v) c.tardiness.ensures) c.in_ok-push_line-4.ensures c.in_ok-push_line-5.ensures c.in_ok-push_line-6.ensures c.in_ok-push_line-7.ensures c.in_ok-push_line-8.ensures c.in_ok-push_line-9.ensures
