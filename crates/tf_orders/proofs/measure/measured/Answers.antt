use Rattle.std.proofs.Common.{None, MatchResult, ℤ, rules, refl, sym, subst, SFits, w64, to_z, of_z}
use Rattle.std.proofs.lemmas.Int.{to_z-of_z}
use Rattle.tf_engine.specs.Faults.{stop_of}
use Rattle.tf_engine.proofs.Unread.{err_is}
use Rattle.tf_evaluate.specs.EvaluationData.{OptimumData}
use Rattle.tf_evaluate.specs.Evaluating.{IsOptimum}
use Rattle.tf_orders.specs.OrderParts.{IsUnmeasured, Measures}
use Rattle.tf_orders.proofs.measure.measured.Goals as goal

pub returns-in_err-check_feasible-in-Unsolved : goal.returns-in_err-check_feasible-in-Unsolved
returns-in_err-check_feasible-in-Unsolved g c =
    err_is (λ r. MatchResult r (Measures c.args.detail c.args.aids.offered None c.args.posed)
    (λ e. IsUnmeasured c.args.posed (stop_of e)))
    c.in_err-check_feasible-in-Unsolved.field-0.0 _
    c.from_residual-in_err-check_feasible-in-Unsolved.ensures.1
    (rw c.in-Unsolved.is c.in_err-check_feasible-in-Unsolved.ensures)

pub returns-in_ok-best-in-Solved : goal.returns-in_ok-best-in-Solved
returns-in_ok-best-in-Solved g c =
    let found = c.best.inside in
    let task = c.in-Solved.asked.task in
    let fits : SFits w64 found.best = search rules in
    let optimum : IsOptimum c.args.detail task found.best found.steps.items =
    subst (λ (o : OptimumData). IsOptimum c.args.detail task o.best o.steps) (sym c.best.view_is)
    c.in_ok-best-in-Solved.ensures.shown in
    rw c.in-Solved.is (
      to_z w64 (of_z w64 found.best),
      found.steps,
      refl,
      subst (λ (z : ℤ). IsOptimum c.args.detail task z found.steps.items)
          (sym (to_z-of_z w64 found.best fits)) optimum,
    )
