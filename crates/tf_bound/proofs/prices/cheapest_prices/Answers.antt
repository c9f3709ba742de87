use Rattle.std.proofs.Common.{◌≡◌, false, ℕ, ◌+◌, ◌*◌, ◌≤◌, ◌++◌, ◌∷◌, [], length, All, List, sym, ap, ◌∙◌, inr, subst, arith}
use Rattle.std.proofs.lemmas.List.{length_push}
use Rattle.std.proofs.lemmas.List.Elements.{All-push}
use Rattle.tf_model.specs.Limit.{limit}
use Rattle.tf_problem.specs.ProblemBounds.{numerator}
use Rattle.tf_posed.specs.ProblemData.{IsProblemJob}
use Rattle.tf_bound.specs.Faulted.{is_dear}
use Rattle.tf_bound.specs.Prices.{IsCheapestFor, IsPaidFor}
use Rattle.tf_bound.proofs.Firsts.{any_found, no_found, up_to_more}
use Rattle.tf_bound.proofs.Steps.{numerators_more}
use Rattle.tf_bound.proofs.Conditions.{is_large, not_large}
use Rattle.tf_bound.proofs.prices.cheapest_prices.Goals as goal

pub returns-in_default-cheapest_of-clause-fault : goal.returns-in_default-cheapest_of-clause-fault
returns-in_default-cheapest_of-clause-fault g c =
    let k = c.args.task.now in
    let job : IsProblemJob k c.at.result = (
      omega (arith, c.at.ensures),
      omega (arith, c.at.ensures, c.loop-k-test.true, c.len-k-end.ensures.value),
    ) in
    inr (is_large _ (any_found k (is_dear k c.args.q c.args.prices.now) c.at.result job
    (sym c.in_default-cheapest_of.ensures.dear)))

pub returns-clause-fault : goal.returns-clause-fault
returns-clause-fault g c =
    not_large _ (no_found c.args.task.now (is_dear c.args.task.now c.args.q c.args.prices.now)
    (λ j job. c.loop-k.invariant.none j job.0
    (omega (arith, job.1, c.len-k-end.ensures.value, c.loop-k-test.false))))

pub loop-k-preserved : goal.loop-k-preserved
loop-k-preserved g c =
    let k = c.args.task.now in
    let q = c.args.q in
    let prices = c.args.prices.now in
    let old = c.loop-k.cheapest.items in
    let x : ℕ = c.in-Some.found.price in
    let is : c.push.new.self.items ≡ old ++ x ∷ [] = c.in-Ok-push.ensures.items in
    record {
      len = ap length is ∙ length_push old x ∙ ap (λ n. n + 1) c.loop-k.invariant.len;
      none = up_to_more (λ j. is_dear k q prices j ≡ false) c.loop-k.k c.at.result c.at.ensures
          c.loop-k.invariant.none (sym c.in-Some.ensures.dear);
      cheapest = λ j low high.
          subst (λ (v : List ℕ). IsCheapestFor k q prices j (numerator v j)) (sym is)
          (numerators_more (IsCheapestFor k q prices) old x c.loop-k.k c.at.result
          c.loop-k.invariant.len c.at.ensures c.loop-k.invariant.cheapest
          c.in-Some.ensures.cheapest j low high);
      reached = λ j low high.
          subst (λ (v : List ℕ). IsPaidFor k q prices j (numerator v j)) (sym is)
          (numerators_more (IsPaidFor k q prices) old x c.loop-k.k c.at.result
          c.loop-k.invariant.len c.at.ensures c.loop-k.invariant.reached
          c.in-Some.ensures.reached j low high);
      small = subst (λ (v : List ℕ). All (λ y. y ≤ 2 * limit) v) (sym is)
          (All-push (λ y. y ≤ 2 * limit) old x c.loop-k.invariant.small c.in-Some.ensures.small);
    }

pub returns-clause-cheapest : goal.returns-clause-cheapest
returns-clause-cheapest g c =
    (c.cheapest_law.ensures c.args.task.now).up_to_last c.args.q c.args.prices.now
    c.loop-k.cheapest.items
    (λ j job s low high.
    c.loop-k.invariant.cheapest j job.0
    (omega (arith, job.1, c.len-k-end.ensures.value, c.loop-k-test.false)) s low high)

pub returns-clause-reached : goal.returns-clause-reached
returns-clause-reached g c = λ j job.
    c.loop-k.invariant.reached j job.0
    (omega (arith, job.1, c.len-k-end.ensures.value, c.loop-k-test.false))
