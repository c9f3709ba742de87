use Rattle.std.proofs.Common.{◌≡◌, ℕ, ◌-◌, ℤ, pos, List, SFits, ap, get_or, length, map, ◌∙◌, arith, rules}
use Rattle.std.specs.Int.{w64}
use Rattle.std.specs.List.{range_with_len}
use Rattle.std.proofs.lemmas.Int.{to_z-of_z}
use Rattle.tf_posed.specs.ProblemData.{ProblemJobData, problem_job}
use Rattle.tf_problem.specs.Pushed.{pushed_job}
use Rattle.tf_bound.proofs.Dates.{jobs_more}
use Rattle.tf_bound.proofs.pushed.jobs_with.Goals as goal

pub loop-k-preserved : goal.loop-k-preserved
loop-k-preserved g c =
    let k = c.args.task.now in
    let r : List ℕ = c.args.releases.now in
    let d : List ℤ = c.args.dues.now in
    let n : ℕ = c.loop-k.k in
    let due : ℤ = get_or d n (pos 0) in
    let fits : SFits w64 due = search rules in
    let place : n ≡ c.at.result - 1 = omega (arith, c.at.ensures) in
    let with_dates : ProblemJobData → ℕ → ℤ → ProblemJobData =
    λ x release its. record x { release = release; due = its } in
    let here : c.in_ok-job.job ≡ pushed_job k r d c.at.result =
    c.in_ok-job.ensures
    ∙ ap (with_dates c.job.result.now (get_or r n 0)) (to_z-of_z w64 due fits)
    ∙ ap (λ x. with_dates x (get_or r n 0) due) c.job.ensures.value
    ∙ ap (λ i. with_dates (problem_job k c.at.result) (get_or r i 0) (get_or d i (pos 0))) place in
    jobs_more (pushed_job k r d) c.loop-k.jobs.items c.push.new.self.items c.in_ok-job.job n
    c.at.result c.in_ok-push.ensures.items c.loop-k.invariant here c.at.ensures

pub returns : goal.returns
returns g c =
    let all : c.loop-k.k ≡ length c.args.task.now.jobs =
    omega (arith, c.len-k-end.ensures.value, c.loop-k-test.false, c.loop-k.auto.k-end) in
    c.loop-k.invariant
    ∙ ap (λ n. map (pushed_job c.args.task.now c.args.releases.now c.args.dues.now)
    (range_with_len 1 n)) all
