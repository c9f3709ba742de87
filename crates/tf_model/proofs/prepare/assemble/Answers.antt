use Rattle.std.specs.Prelude.{IfOk}
use Rattle.std.specs.Result.{result_ok}
use Rattle.std.proofs.Common.{◌≡◌, ℕ, ◌+◌, ◌++◌, List, [], ◌∷◌, Some, Result, Ok, Err, take, ap, sym, ◌∙◌, subst}
use Rattle.std.proofs.lemmas.List.{take_all, take_more}
use Rattle.tf_model.specs.JobFields.{JobFields}
use Rattle.tf_model.specs.TaskBuilder.{HasTaken}
use Rattle.tf_model.proofs.prepare.assemble.Goals as goal

-- what is known of what a call made
made_is : {X E Y : Type 0} (f : X → Y) (r : Result X E) (x : X) (y : Y) → Some x ≡ result_ok r
    → IfOk r (λ made. f made ≡ y) → f x ≡ y
made_is f (Ok made) x y is same = cc
made_is f (Err e) x y is same = cc

pub loop-job-init : goal.loop-job-init
loop-job-init g c =
    subst (λ count. HasTaken c.args.problem.now c.args.machines count c.in_ok-builder.builder [])
    c.machines.ensures.value c.in_ok-builder.ensures

pub loop-job-preserved : goal.loop-job-preserved
loop-job-preserved g c =
    let jobs : List JobFields = c.jobs-jobs.result.now in
    let i : ℕ = c.loop-job.job-index in
    let item : JobFields = c.job-item.result in
    let copy : c.in_ok-job.job ≡ item =
    made_is (λ x. x) c.copied.result _ item (sym c.in_ok-job.was ∙ c.ok.ensures.value) c.copied.ensures in
    let next : take i jobs ++ c.in_ok-job.job ∷ [] ≡ take (i + 1) jobs =
    ap (λ x. take i jobs ++ x ∷ []) (copy ∙ c.job-item.is)
    ∙ sym (take_more jobs i item c.loop-job-test.true) in
    subst (HasTaken c.args.problem.now c.args.machines c.args.instance.now.machines c.push.new.self)
    next (c.in_ok-push.ensures c.args.problem.now c.args.machines c.args.instance.now.machines
    (take i jobs) c.loop-job.invariant)

pub finish-requires : goal.finish-requires
finish-requires g c = (
  c.args.problem.now,
  c.args.machines,
  c.args.instance.now,
  subst (HasTaken c.args.problem.now c.args.machines c.args.instance.now.machines c.loop-job.builder)
      (take_all c.loop-job.job-index c.jobs-jobs.result.now c.loop-job-test.false
      ∙ c.jobs-jobs.ensures.value) c.loop-job.invariant,
  sym (made_is (λ v. v.items) c.from_slice.result _ _ (sym c.in_ok-arcs.was ∙ c.ok-2.ensures.value)
      c.from_slice.ensures.items ∙ c.arcs.ensures.value),
  c.jobs-jobs.ensures.sound,
)

pub returns : goal.returns
returns g c =
    c.finish.ensures c.args.problem.now c.args.machines c.args.instance.now
    (subst (HasTaken c.args.problem.now c.args.machines c.args.instance.now.machines c.loop-job.builder)
    (take_all c.loop-job.job-index c.jobs-jobs.result.now c.loop-job-test.false
    ∙ c.jobs-jobs.ensures.value) c.loop-job.invariant)
    (sym (made_is (λ v. v.items) c.from_slice.result _ _ (sym c.in_ok-arcs.was ∙ c.ok-2.ensures.value)
    c.from_slice.ensures.items ∙ c.arcs.ensures.value))
