use Rattle.std.proofs.Common.{List, ℕ, [], ◌∷◌, ◌++◌, codes, ap, ◌∙◌}
use Rattle.std.specs.Fmt.{decimal}
use Rattle.std.specs.List.{flat_map}
use Rattle.tf_evaluate.proofs.Written.{words_then}
use Rattle.tf_evaluate.proofs.writing.push_shop_times.Goals as goal

pub returns : goal.returns
returns g c =
    let first : List (List ℕ) = codes "processing time of job" ∷ decimal c.args.job ∷ [] in
    let second : List (List ℕ) = codes "on machine 1" ∷ decimal c.args.first ∷ [] in
    let third : List (List ℕ) = codes "+ on machine 2" ∷ decimal c.args.second ∷ [] in
    words_then _ _ _ (first ++ second) third
    (words_then _ _ _ first second
    (c.in_ok-push_quantity.ensures
    ∙ ap (λ n. c.args.text.now.items
    ++ flat_map (λ word. 32 ∷ word) (codes "processing time of job" ∷ decimal n ∷ []))
    c.get.ensures.value) c.in_ok-push_quantity-2.ensures)
    c.in_ok-push_quantity-3.ensures
