use Rattle.std.proofs.Common.{◌≡◌, Bool, true, false, not, refl, MatchOption, ℕ, ◌<◌, ℤ, List, length, IsTrue, sym, ap, ◌∙◌, subst, arith}
use Rattle.tf_model.specs.declared.problem.Problem.{Problem}
use Rattle.tf_posed.specs.ProblemData.{ProblemData}
use Rattle.tf_posed.specs.ProblemCost.{IsLowerBound}
use Rattle.tf_bound.specs.Along.{AreWithin}
use Rattle.tf_bound.specs.Judged.{AreHeads, AreMovedDues, AreDuesWithin, IsPushedTask}
use Rattle.tf_bound.specs.Sized.{IsSized}
use Rattle.tf_bound.proofs.Dates.{match_found, match_weaker}
use Rattle.tf_bound.proofs.PushedDates.{dues_within, releases_within, moved_len, moved_serve, only_pushed}
use Rattle.tf_bound.proofs.Sound.{sound}
use Rattle.tf_bound.proofs.Steps.{not_zero}
use Rattle.tf_bound.proofs.pushed.pushed_task.Goals as goal

kept : (b : Bool) → not b ≡ false → IsTrue b
kept true h = refl
kept false h = sym h

pub returns-in_default-clause-pushed : goal.returns-in_default-clause-pushed
returns-in_default-clause-pushed g c other is =
    let k = c.args.task.now in
    let none = subst (λ found. MatchOption found
    ((r : List ℕ) → AreHeads k r → AreWithin r → ⊥) (λ dates. AreHeads k dates.items)) c.in_default.is
    c.in_ok-releases.ensures in
    none is.r is.heads
    (releases_within k c.problem.ensures.sized is.r is.d (subst IsSized is.is is.sized) is.heads.len)

pub returns-in_default-2-clause-pushed : goal.returns-in_default-2-clause-pushed
returns-in_default-2-clause-pushed g c other is =
    let k = c.args.task.now in
    let none = subst (λ found. MatchOption found
    ((d : List ℤ) → AreMovedDues k d → AreDuesWithin d → ⊥)
    (λ dues. AreMovedDues k dues.items × AreDuesWithin dues.items)) c.in_default-2.is
    c.in_ok-dues.ensures in
    none is.d is.dues
    (dues_within k c.problem.ensures.sized is.r is.d (subst IsSized is.is is.sized)
    (moved_len k is.d is.dues))

pub returns-clause-pushed : goal.returns-clause-pushed
returns-clause-pushed g c =
    let k = c.args.task.now in
    let moved : IsTrue k.problem.prec =
    ap (λ (p : Problem). p.prec) (sym c.problem.ensures.value)
    ∙ kept c.problem.result.prec c.if-not-problem.false in
    let some_arc : 0 < length k.arcs =
    omega (
      arith,
      not_zero (length c.arcs.result.now) (sym c.if-is_empty.ensures),
      ap length c.arcs.ensures.value,
    ) in
    let r : List ℕ = c.deref-3.result.now in
    let d : List ℤ = c.deref-4.result.now in
    let heads : AreHeads k r = subst (AreHeads k) (sym c.deref-3.ensures.value)
    (subst (λ found. MatchOption found ((s : List ℕ) → AreHeads k s → AreWithin s → ⊥)
    (λ dates. AreHeads k dates.items)) c.in-Some.is c.in_ok-releases.ensures) in
    let found = subst (λ found. MatchOption found
    ((e : List ℤ) → AreMovedDues k e → AreDuesWithin e → ⊥)
    (λ dues. AreMovedDues k dues.items × AreDuesWithin dues.items)) c.in-Some-2.is
    c.in_ok-dues.ensures in
    let dues : AreMovedDues k d = subst (AreMovedDues k) (sym c.deref-4.ensures.value) found.0 in
    let within : AreDuesWithin d = subst AreDuesWithin (sym c.deref-4.ensures.value) found.1 in
    match_weaker c.with_dates.result _ _ _ _
    (λ not_sized. only_pushed k c.problem.ensures.sized r d heads dues within not_sized)
    (λ other its. record {
      moved = moved;
      some_arc = some_arc;
      r = r;
      d = d;
      heads = heads;
      dues = dues;
      is = its.0;
      sized = its.1;
    })
    c.with_dates.ensures

pub returns-clause-bound : goal.returns-clause-bound
returns-clause-bound g c =
    let k = c.args.task.now in
    match_found c.with_dates.result ((other : ProblemData) → IsPushedTask k other → ⊥)
    (IsPushedTask k) _
    (λ other is b bound.
    c.pushed_law.ensures k (sound k c.problem.ensures.sized) is.moved is.r is.heads.least is.d
    (moved_serve k is.d is.dues) b (subst (λ (o : ProblemData). IsLowerBound o b) is.is bound))
    (returns-clause-pushed g c)
