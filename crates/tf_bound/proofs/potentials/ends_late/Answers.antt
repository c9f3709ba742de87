use Rattle.std.proofs.Common.{◌≡◌, ℕ, ℤ, pos, ◌+ℤ◌, ◌-ℤ◌, int_lt, List, SFits, to_z, of_z, ap, ◌∙◌, rules}
use Rattle.std.specs.Int.{w64}
use Rattle.std.proofs.lemmas.Int.{to_z-of_z}
use Rattle.tf_posed.specs.ProblemData.{problem_due}
use Rattle.tf_problem.specs.ProblemBounds.{problem_work}
use Rattle.tf_problem.specs.Potentials.{potential_of_end, potential_after}
use Rattle.tf_bound.proofs.potentials.ends_late.Goals as goal

pub returns : goal.returns
returns g c =
    let k = c.args.task.now in
    let p : List ℤ = c.args.numbers.now in
    let j : ℕ = c.args.job in
    let rest_fits : SFits w64 c.rest_of-rest.result = search rules in
    let due_fits : SFits w64 c.due.result = search rules in
    let after_fits : SFits w64 c.after.result = search rules in
    let end_fits : SFits w64 c.of_end.result = search rules in
    let due : ℤ = to_z w64 (of_z w64 c.due.result) in
    let after : ℤ = to_z w64 (of_z w64 c.after.result) in
    let end : ℤ = to_z w64 (of_z w64 c.of_end.result) in
    let most : ℤ = pos (problem_work k j) -ℤ problem_due k j in
    let due_is : due ≡ problem_due k j = to_z-of_z w64 c.due.result due_fits ∙ c.due.ensures.value in
    let rest_is : to_z w64 (of_z w64 c.rest_of-rest.result) ≡ most =
    to_z-of_z w64 c.rest_of-rest.result rest_fits ∙ c.rest_of-rest.ensures
    ∙ ap (λ (n : ℕ). pos n -ℤ due) c.work.ensures.value
    ∙ ap (λ (z : ℤ). pos (problem_work k j) -ℤ z) due_is in
    let after_is : after ≡ potential_after p j =
    to_z-of_z w64 c.after.result after_fits ∙ c.after.ensures in
    let end_is : end ≡ potential_of_end p = to_z-of_z w64 c.of_end.result end_fits ∙ c.of_end.ensures in
    c.is_beyond.ensures
    ∙ ap (λ (z : ℤ). int_lt z (after +ℤ end)) rest_is
    ∙ ap (λ (z : ℤ). int_lt most (z +ℤ end)) after_is
    ∙ ap (λ (z : ℤ). int_lt most (potential_after p j +ℤ z)) end_is
