use Rattle.std.proofs.Common.{◌≡◌, ℕ, ◌+◌, ◌*◌, ◌∷◌, [], ◌++◌, List, length, map, ap, sym, ◌∙◌, arith}
use Rattle.std.specs.List.{range_with_len}
use Rattle.std.proofs.lemmas.List.FromFn.{length-map-range_with_len, map-range_with_len_more}
use Rattle.tf_words.specs.Words.{words}
use Rattle.tf_bounding.specs.ShopTimes.{times_on}
use Rattle.tf_bounding.specs.ShopWords.{on_machine, paired_times, time_at}
use Rattle.tf_bounding.proofs.ShopTimesSaid.{times_said}
use Rattle.tf_bounding.proofs.shop_words.times_by_machine.Goals as goal

pub overflow_mul-jobs : goal.overflow_mul-jobs
overflow_mul-jobs g c = omega (arith, c.requires.small)

pub on_machine-requires-clause-length : goal.on_machine-requires-clause-length
on_machine-requires-clause-length g c =
    let count = c.args.sizes.0 * c.args.sizes.1 in
    ap length (c.deref.ensures.value ∙ c.in_ok-times.ensures)
    ∙ length-map-range_with_len (λ i. time_at (words c.behind_sizes.result.now) (2 * i + 1)) 0 count

pub loop-i-preserved : goal.loop-i-preserved
loop-i-preserved g c =
    let on : ℕ → List ℕ = times_on c.args.name.now c.args.sizes.1 c.args.text.now in
    let said : c.new.result ≡ on c.loop-i.i =
    c.new.ensures ∙ c.in_ok-on_machine.ensures
    ∙ ap (λ times. on_machine times c.args.sizes.0 c.args.sizes.1 c.loop-i.i)
    (c.deref.ensures.value ∙ c.in_ok-times.ensures)
    ∙ times_said c.args.name.now c.args.text.now c.args.sizes.0 c.args.sizes.1 c.requires.has
    c.behind_sizes.result.now c.behind_sizes.ensures c.loop-i.i c.loop-i-test.true in
    c.in_ok-push.ensures.items ∙ ap (λ x. c.loop-i.all.items ++ x ∷ []) said
    ∙ ap (λ xs. xs ++ on c.loop-i.i ∷ []) c.loop-i.invariant
    ∙ sym (map-range_with_len_more on 0 c.loop-i.i c.loop-i.i (omega arith))
