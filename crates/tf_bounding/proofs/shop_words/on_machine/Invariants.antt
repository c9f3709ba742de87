use Rattle.std.proofs.Common.{◌≡◌}
use Rattle.tf_bounding.specs.ShopWords.{on_machine}
use Rattle.tf_bounding.proofs.shop_words.on_machine.Given as goal

abbrev pub invariant-loop-j : goal.invariant-loop-j
invariant-loop-j g l = l.all.items ≡ on_machine l.times l.j l.machines l.i
