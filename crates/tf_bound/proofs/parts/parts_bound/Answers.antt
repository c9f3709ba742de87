use Rattle.std.proofs.Common.{◌≡◌, ◌*◌, ◌-◌, List, ℕ, ℤ, SFits, sum_by, to_z, of_z, refl, sym, ap, ◌∙◌, subst, arith, rules}
use Rattle.std.specs.Int.{w128}
use Rattle.std.proofs.lemmas.Int.{to_z-of_z}
use Rattle.tf_posed.specs.ProblemCost.{IsLowerBound}
use Rattle.tf_problem.specs.Parts.{part_of, IsMoreThanRoom}
use Rattle.tf_bound.proofs.Sound.{sound}
use Rattle.tf_bound.proofs.parts.parts_bound.Goals as goal

pub returns-clause-bound : goal.returns-clause-bound
returns-clause-bound g c =
    let k = c.args.task.now in
    let from : ℕ = c.args.interval.from in
    let until : ℕ = c.args.interval.until in
    let late : ℤ = c.args.interval.late in
    let jobs : List ℕ = c.args.jobs.now in
    let kind = c.if-not-takes_windows.ensures in
    let told = c.in_ok-judge_list.ensures in
    let fits : SFits w128 c.from-3.result = search rules in
    let value : to_z w128 (of_z w128 c.from-3.result) ≡ late =
    to_z-of_z w128 c.from-3.result fits ∙ search rules in
    let room : c.from.result * c.from-2.result ≡ k.machines * (until - from) =
    ap (λ n. n * c.from-2.result) (c.from.ensures ∙ c.machines.ensures.value)
    ∙ ap (λ n. k.machines * n) (c.from-2.ensures ∙ c.length.ensures) in
    let work : c.parts_of.result ≡ sum_by (part_of k from until late) jobs = c.parts_of.ensures.value in
    let much : IsMoreThanRoom k from until late jobs =
    omega (arith, room, work, c.if-parts_of-room.false) in
    subst (λ (b : ℤ). IsLowerBound k b) (sym value)
    (c.parts_law.ensures k (sound k c.judge_list.ensures.sized) (kind.alike refl) (kind.goal refl) jobs
    told.distinct told.known from until late much)
