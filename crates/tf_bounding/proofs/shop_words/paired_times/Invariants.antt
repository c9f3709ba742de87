use Rattle.std.proofs.Common.{◌≡◌, ◌*◌, drop}
use Rattle.tf_words.specs.Words.{words}
use Rattle.tf_bounding.specs.ShopWords.{paired_times}
use Rattle.tf_bounding.proofs.shop_words.paired_times.Given as goal

abbrev pub invariant-loop : goal.invariant-loop
invariant-loop g l =
    (l.times.items ≡ paired_times (words l.fn.text) l.counter)
    × (words l.rest ≡ drop (2 * l.counter) (words l.fn.text))
