use Rattle.std.proofs.Common.{◌++◌, ◌∷◌, [], ◌+◌, ◌*◌, get_or, ap, sym, ◌∙◌}
use Rattle.tf_bounding.proofs.ShopPlaces.{one_more}
use Rattle.tf_bounding.proofs.shop_words.on_machine.Goals as goal

pub loop-j-preserved : goal.loop-j-preserved
loop-j-preserved g c =
    let time = get_or c.args.times.now (c.loop-j.j * c.args.sizes.1 + c.args.i) 0 in
    c.in_ok-push.ensures.items ∙ ap (λ xs. xs ++ time ∷ []) c.loop-j.invariant
    ∙ sym (one_more c.args.times.now c.loop-j.j c.args.sizes.1 c.args.i)
