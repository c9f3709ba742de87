use Rattle.std.proofs.Common.{◌≡◌, ◌-◌, ℕ, ℤ, pos, List, SFits, ap, length, map, slice_index_or, ◌∙◌, arith, rules}
use Rattle.std.specs.Int.{w64}
use Rattle.std.specs.List.{range_with_len}
use Rattle.std.proofs.lemmas.Int.{to_z-of_z}
use Rattle.std.proofs.lemmas.List.FromFn.{get_or-map-range_with_len, length-map-range_with_len}
use Rattle.tf_posed.specs.ProblemData.{problem_job}
use Rattle.tf_bound.specs.Judged.{AreKeptDues}
use Rattle.tf_bound.proofs.Dates.{jobs_more}
use Rattle.tf_bound.proofs.PushedDates.{kept_within}
use Rattle.tf_bound.proofs.pushed.own_dues.Goals as goal

pub loop-k-preserved : goal.loop-k-preserved
loop-k-preserved g c =
    let k = c.args.task.now in
    let due : ℤ = c.own_due.result in
    let fits : SFits w64 due = search rules in
    let here = to_z-of_z w64 due fits ∙ c.own_due.ensures in
    jobs_more (λ j. (problem_job k j).due) c.loop-k.dues.items c.push.new.self.items _ c.loop-k.k
    c.at.result c.in_ok-push.ensures.items c.loop-k.invariant here c.at.ensures

pub returns : goal.returns
returns g c =
    let k = c.args.task.now in
    let d : List ℤ = c.loop-k.dues.items in
    let own : ℕ → ℤ = λ j. (problem_job k j).due in
    let all : c.loop-k.k ≡ length k.jobs =
    omega (arith, c.len-k-end.ensures.value, c.loop-k-test.false, c.loop-k.auto.k-end) in
    let is : d ≡ map own (range_with_len 1 (length k.jobs)) =
    c.loop-k.invariant ∙ ap (λ n. map own (range_with_len 1 n)) all in
    let kept : AreKeptDues k d = record {
      len = ap length is ∙ length-map-range_with_len own 1 (length k.jobs);
      own = λ j job. ap (λ l. slice_index_or l (j - 1) (pos 0)) is
          ∙ get_or-map-range_with_len own 1 (length k.jobs) (j - 1) j (pos 0)
          (omega (arith, job.0, job.1)) (omega (arith, job.0));
    } in
    record { kept = kept; within = kept_within k c.len-k-end.ensures.sized d kept }
