use Rattle.std.proofs.Common.{◌≡◌, ◌&&◌, Bool, ℕ, ℤ, SFits, length, to_z, of_z, refl, sym, ap, ◌∙◌, subst, arith, rules}
use Rattle.std.specs.Int.{w128}
use Rattle.std.proofs.lemmas.Bool.{and_parts}
use Rattle.std.proofs.lemmas.Int.{to_z-of_z}
use Rattle.std.proofs.lemmas.List.FromFn.{length-range_with_len}
use Rattle.tf_problem.specs.ProblemBounds.{is_max_goal}
use Rattle.tf_posed.specs.ProblemCost.{IsLowerBound}
use Rattle.tf_problem.specs.Split.{split_value}
use Rattle.tf_bound.specs.Split.{marked}
use Rattle.tf_bound.proofs.Sound.{sound}
use Rattle.tf_bound.proofs.split.marked_bound.Goals as goal

pub span-requires-clause-some : goal.span-requires-clause-some
span-requires-clause-some g c =
    let k = c.args.task.now in
    omega (
      arith,
      ap length (c.deref.ensures.value ∙ c.in_ok-jobs.ensures.jobs),
      length-range_with_len 1 (length k.jobs),
      c.all_jobs.ensures.sized.some_job,
    )

pub returns-clause-bound : goal.returns-clause-bound
returns-clause-bound g c =
    let k = c.args.task.now in
    let pair = c.args.pair in
    let side : ℕ → Bool = marked c.args.marks.now in
    let kinds = (and_parts _ (k.problem.prmu && is_max_goal k.problem.goal) c.requires.kind).1 in
    let both = and_parts k.problem.prmu (is_max_goal k.problem.goal) kinds in
    let fits : SFits w128 c.span.result = search rules in
    let value : to_z w128 (of_z w128 c.span.result)
    ≡ split_value k pair.first pair.second side pair.delta =
    to_z-of_z w128 c.span.result fits ∙ c.span.ensures in
    subst (λ (b : ℤ). IsLowerBound k b) (sym value)
    (c.split_law.ensures k (sound k c.all_jobs.ensures.sized) c.requires.pair.flow both.0 both.1
    pair.first pair.second c.requires.pair.before c.requires.pair.within side pair.delta pair.by_first
    (record { sides = c.in_default.ensures.kept; reached = c.if-not-is_reached.ensures.some refl }))
