use Rattle.std.proofs.Common.{◌≡◌, length}
use Rattle.tf_words.specs.Words.{lines}
use Rattle.tf_bounding.specs.ShopWords.{behind, behind_sizes, is_sizes_line}
use Rattle.tf_bounding.proofs.shop_words.behind_sizes.Given as goal

abbrev pub invariant-loop-rest : goal.invariant-loop-rest
invariant-loop-rest l =
    behind is_sizes_line (lines l.rest) ≡ behind_sizes l.name (lines l.fn.text)

abbrev pub decreases-loop-rest : goal.decreases-loop-rest
decreases-loop-rest l = length l.rest
