use Rattle.std.proofs.Common.{◌≡◌, ◌<◌, ℕ, List, Ok, length, true, inl, sym, ap, ◌∙◌, arith, rules}
use Rattle.std.proofs.lemmas.Bool.Decides.{nat_tests}
use Rattle.std.proofs.lemmas.Int.{to_z-of_z}
use mir.Syntax.{w128}
use mir.Val.{SFits}
use Rattle.tf_model.specs.SchedulingTask.{SchedulingTask}
use Rattle.tf_check.specs.Bound.{last_of_bound}
use Rattle.tf_check.specs.Kinds.{takes_last_of}
use Rattle.tf_check.proofs.Followed.{last_of_given}
use Rattle.tf_check.proofs.JobLists.{times_within}
use Rattle.tf_check.proofs.last_of.LastOfEvidence.bound.Goals as goal

pub work_of-requires-clause-work : goal.work_of-requires-clause-work
work_of-requires-clause-work g c =
    times_within c.args.task.now c.class.ensures.sound c.as_slice-jobs.result.now
    c.in_ok-set.ensures.judged

pub cheapest_free-requires-clause-end : goal.cheapest_free-requires-clause-end
cheapest_free-requires-clause-end g c =
    omega (
      arith,
      c.work_of.ensures,
      times_within c.args.task.now c.class.ensures.sound c.as_slice-jobs.result.now
          c.in_ok-set.ensures.judged,
    )

pub returns-in-Some : goal.returns-in-Some
returns-in-Some g c =
    let k : SchedulingTask = c.args.task.now in
    let jobs : List ℕ = c.as_slice-jobs.result.now in
    let class : takes_last_of k.class ≡ true = ap takes_last_of (sym c.class.ensures.class)
    ∙ sym c.takes_last_of.ensures ∙ c.if-not-takes_last_of.false in
    let some : 0 < length jobs = grind (arith, nat_tests) in
    let small : SFits w128 c.in-Some.value = search rules in
    let given : last_of_bound k jobs ≡ Ok c.in-Some.value =
    last_of_given k jobs c.work_of.result c.in-Some.value class c.in_ok-set.ensures.judged some
    c.work_of.ensures (sym c.cheapest_free.ensures ∙ c.in-Some.is) in
    inl (ap Ok (to_z-of_z w128 c.in-Some.value small) ∙ sym given
    ∙ ap (last_of_bound k) c.as_slice-jobs.ensures)
