use Rattle.std.proofs.Common.{◌≡◌, ◌∷◌, ◌++◌, ℤ, List, ℕ, codes, map, ap, ◌∙◌, SFits, w64, rules}
use Rattle.std.proofs.lemmas.Int.{to_z-of_z}
use Rattle.std.specs.Fmt.{decimal, signed_decimal}
use Rattle.tf_bounding.proofs.Written.{one_more, line_written, only_line}
use Rattle.tf_bounding.proofs.writing.push_parts.Goals as goal

pub returns : goal.returns
returns g c =
    let jobs = map decimal c.args.jobs.now in
    let late = signed_decimal c.args.late ∷ jobs in
    let until = decimal c.args.until ∷ late in
    let fits : SFits w64 c.args.late = search rules in
    let said : List ℕ = c.push_number-2.new.text.items in
    let third : c.push_number-3.new.text.items ≡ said ++ 32 ∷ signed_decimal c.args.late =
    c.in_ok-push_number-3.ensures
    ∙ ap (λ (z : ℤ). said ++ 32 ∷ signed_decimal z) (to_z-of_z w64 c.args.late fits) in
    only_line _ _ (codes "parts" ∷ decimal c.args.from ∷ until)
    (line_written _ _ _ _ _ (decimal c.args.from ∷ until)
    c.in_ok-extend_from_slice.ensures.items
    (one_more _ _ _ _ until c.in_ok-push_number.ensures
    (one_more _ _ _ _ late c.in_ok-push_number-2.ensures
    (one_more _ _ _ _ jobs third c.in_ok-push_jobs.ensures)))
    c.in_ok-push.ensures.items)
