use Rattle.std.proofs.Common.{[], ◌∷◌, codes}
use Rattle.std.specs.Fmt.{decimal}
use Rattle.tf_evaluate.proofs.Written.{words_then}
use Rattle.tf_evaluate.proofs.writing.push_share.Goals as goal

pub returns : goal.returns
returns g c =
    words_then _ _ _ (c.args.by.now ∷ decimal c.args.machines ∷ [])
    (codes "machines, rounded up" ∷ []) c.in_ok-push_quantity.ensures
    c.in_ok-push_phrase.ensures
