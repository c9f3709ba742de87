use Rattle.std.proofs.Common.{◌≡◌, ℕ, ◌+◌, ◌-◌, ◌<◌, ◌≤◌, length, slice_index, refl, ap, inr, ◌∙◌, arith}
use Rattle.std.proofs.lemmas.Bool.{lt-ltb}
use Rattle.std.proofs.lemmas.List.{get_or_default}
use Rattle.tf_posed.specs.ProblemData.{IsProblemJob}
use Rattle.tf_problem.specs.ProblemBounds.{arcs_from, arcs_to, moved, numerator}
use Rattle.tf_bound.specs.Faulted.{is_overdrawn}
use Rattle.tf_bound.proofs.Dates.{jobs_more}
use Rattle.tf_bound.proofs.Faults.{not_lt}
use Rattle.tf_bound.proofs.Firsts.{first_found, none_found, up_to_more}
use Rattle.tf_bound.proofs.arc_multipliers.moved_multipliers.Goals as goal

pub returns-then-index-has-clause-fault : goal.returns-then-index-has-clause-fault
returns-then-index-has-clause-fault g c =
    let k = c.args.task.now in
    let v = c.args.v.now in
    let l = c.args.l.now in
    let n : ℕ = c.loop-k.k in
    let x : ℕ = c.at.result in
    let job : IsProblemJob k x = (
      omega (arith, c.at.ensures),
      omega (arith, c.at.ensures, c.loop-k-test.true, c.len-k-end.ensures.value),
    ) in
    let back : n ≡ x - 1 = omega (arith, c.at.ensures) in
    let from = c.in_ok-from.ensures.sums in
    let to = c.in_ok-to.ensures.sums in
    let given : c.index.result.now ≡ arcs_from k l x =
    c.index.ensures
    ∙ get_or_default c.in_ok-from.from.items n _ 0 (omega (arith, from.len, c.at.ensures, job.1))
    ∙ ap (slice_index c.in_ok-from.from.items) back ∙ from.each x job in
    let taken : c.index-in-loop-k.result.now ≡ arcs_to k l x =
    c.index-in-loop-k.ensures
    ∙ get_or_default c.in_ok-to.to.items n _ 0 (omega (arith, to.len, c.at.ensures, job.1))
    ∙ ap (slice_index c.in_ok-to.to.items) back ∙ to.each x job in
    let own : c.from.result ≡ numerator v x = c.from.ensures ∙ ap (slice_index v) back in
    inr (first_found k (is_overdrawn k v l) x job
    (λ j low lt. not_lt (numerator v j + arcs_from k l j) (arcs_to k l j)
    (c.loop-k.invariant.enough j low (omega (arith, lt, c.at.ensures))))
    (lt-ltb (numerator v x + arcs_from k l x) (arcs_to k l x)
    (omega (arith, own, given, taken, c.if-index-has.true))))

pub loop-k-preserved : goal.loop-k-preserved
loop-k-preserved g c =
    let k = c.args.task.now in
    let v = c.args.v.now in
    let l = c.args.l.now in
    let n : ℕ = c.loop-k.k in
    let in' : n < length k.jobs = omega (arith, c.loop-k-test.true, c.len-k-end.ensures.value) in
    let job : IsProblemJob k (n + 1) = (omega arith, omega (arith, in')) in
    let back : n ≡ n + 1 - 1 = omega arith in
    let from = c.in_ok-from.ensures.sums in
    let to = c.in_ok-to.ensures.sums in
    let given : c.index.result.now ≡ arcs_from k l (n + 1) =
    c.index.ensures
    ∙ get_or_default c.in_ok-from.from.items n _ 0 (omega (arith, from.len, in'))
    ∙ ap (slice_index c.in_ok-from.from.items) back ∙ from.each (n + 1) job in
    let taken : c.index-in-loop-k.result.now ≡ arcs_to k l (n + 1) =
    c.index-in-loop-k.ensures
    ∙ get_or_default c.in_ok-to.to.items n _ 0 (omega (arith, to.len, in'))
    ∙ ap (slice_index c.in_ok-to.to.items) back ∙ to.each (n + 1) job in
    let taken_too : c.index-in-loop-k-2.result.now ≡ arcs_to k l (n + 1) =
    c.index-in-loop-k-2.ensures
    ∙ get_or_default c.in_ok-to.to.items n _ 0 (omega (arith, to.len, in'))
    ∙ ap (slice_index c.in_ok-to.to.items) back ∙ to.each (n + 1) job in
    let own : c.from.result ≡ numerator v (n + 1) = c.from.ensures ∙ ap (slice_index v) back in
    let here : c.from.result + c.index.result.now - c.index-in-loop-k-2.result.now ≡ moved k v l (n + 1) =
    omega (arith, own, given, taken_too) in
    record {
      items = jobs_more (moved k v l) c.loop-k.moved.items c.push.new.self.items _ n (n + 1)
          c.in-Ok-push.ensures.items c.loop-k.invariant.items here refl;
      enough = up_to_more (λ j. arcs_to k l j ≤ numerator v j + arcs_from k l j) n (n + 1) refl
          c.loop-k.invariant.enough (omega (arith, own, given, taken, c.if-index-has.false));
    }

pub returns-clause-fault : goal.returns-clause-fault
returns-clause-fault g c =
    let k = c.args.task.now in
    let v = c.args.v.now in
    let l = c.args.l.now in
    none_found k (is_overdrawn k v l)
    (λ j job. not_lt (numerator v j + arcs_from k l j) (arcs_to k l j)
    (c.loop-k.invariant.enough j job.0
    (omega (arith, job.1, c.len-k-end.ensures.value, c.loop-k-test.false, c.loop-k.auto.k-end))))
