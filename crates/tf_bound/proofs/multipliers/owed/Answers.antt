use Rattle.std.proofs.Common.{◌≡◌, ◌||◌, false, ℕ, ℤ, pos, ◌+ℤ◌, ◌*ℤ◌, slice_index, length, SFits, to_z, of_z, ap, sym, ◌∙◌, arith, rules}
use Rattle.std.specs.Int.{w64, w128}
use Rattle.std.proofs.lemmas.Int.{to_z-of_z}
use Rattle.tf_posed.specs.ProblemData.{IsProblemJob}
use Rattle.tf_bound.specs.Faulted.{is_wide, owed_due, owed_to}
use Rattle.tf_bound.proofs.Firsts.{any_found, no_found, up_to_more}
use Rattle.tf_bound.proofs.Weighed.{owed_step}
use Rattle.tf_bound.proofs.multipliers.owed.Goals as goal

pub loop-k-preserved : goal.loop-k-preserved
loop-k-preserved g c =
    let k = c.args.task.now in
    let v = c.args.v.now in
    let x : ℕ = c.at.result in
    let sum : ℤ = to_z w128 c.loop-k.sum-bits in
    let its : ℤ = to_z w128 (of_z w128 c.from.result) in
    let fits : SFits w128 c.in_ok-sum.sum = search rules in
    let its_fits : SFits w128 c.from.result = search rules in
    let due_fits : SFits w64 c.due.result = search rules in
    let step = owed_step k v c.loop-k.k x sum its c.at.ensures c.loop-k.invariant.sum
    (to_z-of_z w128 c.from.result its_fits ∙ c.from.ensures ∙ to_z-of_z w64 c.due.result due_fits
    ∙ c.due.ensures.value) in
    record {
      sum = to_z-of_z w128 c.in_ok-sum.sum fits ∙ c.in_ok-sum.ensures.value ∙ step.1
          ∙ ap (owed_to k v) c.at.ensures;
      narrow = up_to_more
          (λ j. (is_wide (owed_due k v j) || is_wide (owed_to k v j)) ≡ false)
          c.loop-k.k x c.at.ensures c.loop-k.invariant.narrow
          (sym (c.in_ok-sum.ensures.wide
          ∙ ap (λ z. is_wide z || is_wide (sum +ℤ (pos (slice_index v c.loop-k.k) *ℤ its))) step.0
          ∙ ap (λ z. is_wide (owed_due k v x) || is_wide z) step.1));
    }

pub returns-in_err-sum-clause-wide : goal.returns-in_err-sum-clause-wide
returns-in_err-sum-clause-wide g c =
    let k = c.args.task.now in
    let v = c.args.v.now in
    let x : ℕ = c.at.result in
    let sum : ℤ = to_z w128 c.loop-k.sum-bits in
    let its : ℤ = to_z w128 (of_z w128 c.from.result) in
    let its_fits : SFits w128 c.from.result = search rules in
    let due_fits : SFits w64 c.due.result = search rules in
    let step = owed_step k v c.loop-k.k x sum its c.at.ensures c.loop-k.invariant.sum
    (to_z-of_z w128 c.from.result its_fits ∙ c.from.ensures ∙ to_z-of_z w64 c.due.result due_fits
    ∙ c.due.ensures.value) in
    let job : IsProblemJob k x = (
      omega (arith, c.at.ensures),
      omega (arith, c.at.ensures, c.loop-k-test.true, c.len-k-end.ensures.value),
    ) in
    rw c.from_residual.ensures
    (sym (any_found k (λ j. is_wide (owed_due k v j) || is_wide (owed_to k v j)) x job
    (sym (c.in_err-sum.ensures.wide
    ∙ ap (λ z. is_wide z || is_wide (sum +ℤ (pos (slice_index v c.loop-k.k) *ℤ its))) step.0
    ∙ ap (λ z. is_wide (owed_due k v x) || is_wide z) step.1))))

pub returns-clause-wide : goal.returns-clause-wide
returns-clause-wide g c =
    let k = c.args.task.now in
    let v = c.args.v.now in
    sym (no_found k (λ j. is_wide (owed_due k v j) || is_wide (owed_to k v j))
    (λ j job. c.loop-k.invariant.narrow j job.0
    (omega (arith, job.1, c.len-k-end.ensures.value, c.loop-k-test.false))))

pub returns-clause-value : goal.returns-clause-value
returns-clause-value g c =
    let k = c.args.task.now in
    let all : c.loop-k.k ≡ length k.jobs =
    omega (arith, c.len-k-end.ensures.value, c.loop-k-test.false, c.loop-k.auto.k-end) in
    c.loop-k.invariant.sum ∙ ap (owed_to k c.args.v.now) all
