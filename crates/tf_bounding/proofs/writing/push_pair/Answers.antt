use Rattle.std.proofs.Common.{◌∷◌, codes, map}
use Rattle.std.specs.Fmt.{decimal}
use Rattle.tf_bounding.specs.BoundText.{which_word}
use Rattle.tf_bounding.proofs.Written.{one_more, line_written, only_line}
use Rattle.tf_bounding.proofs.writing.push_pair.Goals as goal

pub returns : goal.returns
returns g c =
    let side = map decimal c.args.side.now in
    let delta = decimal c.args.delta ∷ side in
    let which = which_word c.args.by_first ∷ delta in
    let second = decimal c.args.second ∷ which in
    only_line _ _ (codes "pair" ∷ decimal c.args.first ∷ second)
    (line_written _ _ _ _ _ (decimal c.args.first ∷ second)
    c.in_ok-extend_from_slice.ensures.items
    (one_more _ _ _ _ second c.in_ok-push_number.ensures
    (one_more _ _ _ _ which c.in_ok-push_number-2.ensures
    (one_more _ _ _ _ delta c.in_ok-push_which.ensures
    (one_more _ _ _ _ side c.in_ok-push_number-3.ensures c.in_ok-push_jobs.ensures))))
    c.in_ok-push.ensures.items)
