use Rattle.std.proofs.Common.{List, ℕ, [], ◌∷◌, ◌++◌, codes, ap, ◌∙◌, rules, SFits}
use Rattle.std.specs.Fmt.{decimal, signed_decimal}
use Rattle.std.specs.List.{flat_map}
use Rattle.std.specs.Int.{w64}
use Rattle.std.proofs.lemmas.Int.{to_z-of_z}
use Rattle.tf_evaluate.proofs.Written.{words_then}
use Rattle.tf_evaluate.proofs.writing.push_window.Goals as goal

pub returns : goal.returns
returns g c =
    let fits : SFits w64 c.args.due = search rules in
    let first : List (List ℕ) = codes "least release date" ∷ decimal c.args.release ∷ [] in
    let second : List (List ℕ) = codes "+ total processing time" ∷ decimal c.args.work ∷ [] in
    let third : List (List ℕ) = codes "- greatest due date" ∷ signed_decimal c.args.due ∷ [] in
    words_then _ _ _ (first ++ second) third
    (words_then _ _ _ first second
    c.in_ok-push_quantity.ensures c.in_ok-push_quantity-2.ensures)
    (c.in_ok-push_quantity-3.ensures
    ∙ ap (λ z. c.push_quantity-2.new.text.items
    ++ flat_map (λ word. 32 ∷ word) (codes "- greatest due date" ∷ signed_decimal z ∷ []))
    (to_z-of_z w64 c.args.due fits))
