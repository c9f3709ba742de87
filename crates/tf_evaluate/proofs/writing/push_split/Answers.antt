use Rattle.std.proofs.Common.{List, ℕ, [], ◌∷◌, ◌++◌, codes}
use Rattle.std.specs.Fmt.{decimal}
use Rattle.tf_evaluate.proofs.Written.{words_then}
use Rattle.tf_evaluate.proofs.writing.push_split.Goals as goal

pub returns : goal.returns
returns g c =
    let first : List (List ℕ) = codes "total processing time of the side on machine 1" ∷ decimal c.args.side ∷ [] in
    let second : List (List ℕ) = codes "+ of the others on machine 2" ∷ decimal c.args.others ∷ [] in
    let third : List (List ℕ) = codes "+ delta" ∷ decimal c.args.delta ∷ [] in
    words_then _ _ _ (first ++ second) third
    (words_then _ _ _ first second
    c.in_ok-push_quantity.ensures c.in_ok-push_quantity-2.ensures)
    c.in_ok-push_quantity-3.ensures
