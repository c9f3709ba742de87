use Rattle.std.proofs.Common.{◌++◌, ◌∷◌, [], ◌+◌, ◌*◌, ap, sym, ◌∙◌}
use Rattle.tf_words.specs.Words.{words}
use Rattle.tf_bounding.specs.ShopWords.{paired_times, time_at}
use Rattle.tf_bounding.proofs.ShopPlaces.{behind_pairs, pair_more, second_behind}
use Rattle.tf_bounding.proofs.shop_words.paired_times.Goals as goal

pub loop-preserved : goal.loop-preserved
loop-preserved g c =
    let ws = words c.args.text.now in
    let rest = words c.loop.rest.now in (
      c.in_ok-push.ensures.items
          ∙ ap (λ xs. xs ++ c.second_time-time.result.0 ∷ []) c.loop.invariant.0
          ∙ ap (λ t. paired_times ws c.loop.counter ++ t ∷ [])
          (c.second_time-time.ensures.time ∙ second_behind ws rest c.loop.counter c.loop.invariant.1)
          ∙ sym (pair_more ws c.loop.counter),
      behind_pairs ws rest (words c.second_time-time.result.1.now) c.loop.counter
          c.loop.invariant.1 c.second_time-time.ensures.words,
    )
