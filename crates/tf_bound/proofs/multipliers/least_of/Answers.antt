use Rattle.std.proofs.Common.{◌≡◌, false, ℕ, ◌<◌, ◌^◌, nat_le, ap, inr, ◌∙◌, arith}
use Rattle.std.proofs.lemmas.Bool.{le-leb}
use Rattle.std.proofs.lemmas.Bool.Decides.{nat_tests}
use Rattle.tf_model.specs.Bounds.{pairs_value}
use Rattle.tf_check.specs.Ratio.{completions_from}
use Rattle.tf_check.proofs.RatioOrder.{completions-by_ratio}
use Rattle.tf_problem.specs.ProblemBounds.{arcs_gain, numerator}
use Rattle.tf_problem.specs.Relaxed.{weighed_task}
use Rattle.tf_bound.specs.Faulted.{come_to, first_start, least_by, timed_machine, waits_from}
use Rattle.tf_bound.proofs.Conditions.{is_large, not_large}
use Rattle.tf_bound.proofs.multipliers.least_of.Goals as goal

pub first_start-first-requires-clause-jobs : goal.first_start-first-requires-clause-jobs
first_start-first-requires-clause-jobs g c = c.deref.ensures.value ∙ c.in_ok-numbers.ensures.jobs

pub returns-in_default-clause-fault : goal.returns-in_default-clause-fault
returns-in_default-clause-fault g c =
    let k = c.args.task.now in
    let a : ℕ = c.args.machine in
    let u : ℕ → ℕ = numerator c.args.u.now in
    let l = c.args.l.now in
    inr (is_large _ (le-leb (2 ^ 128) (least_by k a u l)
    (omega (
      arith,
      c.in_default.ensures,
      ap (λ f. waits_from k a f u) c.first_start-first.ensures,
    ))))

pub returns-in-Some-weighted_least-clause-fault : goal.returns-in-Some-weighted_least-clause-fault
returns-in-Some-weighted_least-clause-fault g c =
    let k = c.args.task.now in
    let a : ℕ = c.args.machine in
    let u : ℕ → ℕ = numerator c.args.u.now in
    let l = c.args.l.now in
    let pairs : completions_from 0 c.deref-2.result.now ≡ pairs_value (weighed_task k (timed_machine k a) u) =
    ap (completions_from 0) c.deref-2.ensures.value
    ∙ completions-by_ratio (weighed_task k (timed_machine k a) u) c.in_ok-jobs.jobs.items
    c.in_ok-jobs.ensures.jobs in
    let waits : c.in-Some.waits ≡ waits_from k a (first_start k a) u =
    c.in-Some.ensures ∙ ap (λ f. waits_from k a f u) c.first_start-first.ensures in
    let value : c.in-Some-weighted_least.least ≡ least_by k a u l =
    c.in-Some-weighted_least.ensures
    ∙ ap (λ n. come_to k n c.in-Some.waits (arcs_gain k l)) pairs
    ∙ ap (λ n. come_to k (pairs_value (weighed_task k (timed_machine k a) u)) n (arcs_gain k l)) waits in
    not_large _ (small (2 ^ 128) (least_by k a u l) (omega (arith, value)))
  where
    small : (a b : ℕ) → b < a → nat_le a b ≡ false
    small a b h = grind (arith, nat_tests)

pub returns-in-Some-weighted_least-clause-value : goal.returns-in-Some-weighted_least-clause-value
returns-in-Some-weighted_least-clause-value g c =
    let k = c.args.task.now in
    let a : ℕ = c.args.machine in
    let u : ℕ → ℕ = numerator c.args.u.now in
    let l = c.args.l.now in
    let pairs : completions_from 0 c.deref-2.result.now ≡ pairs_value (weighed_task k (timed_machine k a) u) =
    ap (completions_from 0) c.deref-2.ensures.value
    ∙ completions-by_ratio (weighed_task k (timed_machine k a) u) c.in_ok-jobs.jobs.items
    c.in_ok-jobs.ensures.jobs in
    let waits : c.in-Some.waits ≡ waits_from k a (first_start k a) u =
    c.in-Some.ensures ∙ ap (λ f. waits_from k a f u) c.first_start-first.ensures in
    c.in-Some-weighted_least.ensures
    ∙ ap (λ n. come_to k n c.in-Some.waits (arcs_gain k l)) pairs
    ∙ ap (λ n. come_to k (pairs_value (weighed_task k (timed_machine k a) u)) n (arcs_gain k l)) waits

pub returns-clause-fault : goal.returns-clause-fault
returns-clause-fault g c =
    let k = c.args.task.now in
    let a : ℕ = c.args.machine in
    let u : ℕ → ℕ = numerator c.args.u.now in
    let l = c.args.l.now in
    let pairs : completions_from 0 c.deref-2.result.now ≡ pairs_value (weighed_task k (timed_machine k a) u) =
    ap (completions_from 0) c.deref-2.ensures.value
    ∙ completions-by_ratio (weighed_task k (timed_machine k a) u) c.in_ok-jobs.jobs.items
    c.in_ok-jobs.ensures.jobs in
    let waits : c.in-Some.waits ≡ waits_from k a (first_start k a) u =
    c.in-Some.ensures ∙ ap (λ f. waits_from k a f u) c.first_start-first.ensures in
    let value : come_to k (completions_from 0 c.deref-2.result.now) c.in-Some.waits (arcs_gain k l)
    ≡ least_by k a u l =
    ap (λ n. come_to k n c.in-Some.waits (arcs_gain k l)) pairs
    ∙ ap (λ n. come_to k (pairs_value (weighed_task k (timed_machine k a) u)) n (arcs_gain k l)) waits in
    inr (is_large _ (le-leb (2 ^ 128) (least_by k a u l) (omega (arith, c.in-None.ensures, value))))
