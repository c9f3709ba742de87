use Rattle.std.proofs.Common.{◌∷◌, ◌++◌, ap, ◌∙◌}
use Rattle.tf_assess.specs.Measures.{value_word}
use Rattle.tf_assess.proofs.Measuring.{nine_listed}
use Rattle.tf_assess.proofs.measures.push_all_values.Goals as goal

pub returns : goal.returns
returns g c =
    nine_listed c.args.text.now.items c.push_value.new.text.items c.push_value-2.new.text.items c.push_value-3.new.text.items c.push_value-4.new.text.items c.push_value-5.new.text.items c.push_value-6.new.text.items c.push_value-7.new.text.items c.push_value-8.new.text.items c.push_value-9.new.text.items
    _ _ _ _ _ _ _ _ _
    c.in_ok-push_value.ensures c.in_ok-push_value-2.ensures (c.in_ok-push_value-3.ensures
    ∙ ap (λ v. c.push_value-2.new.text.items ++ 32 ∷ value_word v) c.tardiness.ensures) c.in_ok-push_value-4.ensures c.in_ok-push_value-5.ensures c.in_ok-push_value-6.ensures c.in_ok-push_value-7.ensures c.in_ok-push_value-8.ensures c.in_ok-push_value-9.ensures
