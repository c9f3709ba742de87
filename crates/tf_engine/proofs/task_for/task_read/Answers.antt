use Rattle.std.proofs.Common.{◌≡◌, ℕ, List, Option, Result, sym, subst, ap, rules}
use Rattle.tf_model.specs.SchedulingTask.{SchedulingTask}
use Rattle.tf_model.specs.declared.problem.Problem.{Problem}
use Rattle.tf_text.specs.declared.counted.Counted.{Counted}
use Rattle.tf_engine.specs.declared.fault.RunFault.{RunFault}
use Rattle.tf_engine.specs.Faults.{ByTask}
use Rattle.tf_engine.specs.FormData.{FormData, InWt, InFlow}
use Rattle.tf_engine.specs.Parts.{ReadsTo, instance_said, prepared_said, task_said}
use Rattle.tf_engine.specs.Refusal.{refused_by, task_in}
use Rattle.tf_engine.specs.RequestData.{RequestData}
use Rattle.tf_engine.proofs.ReadThrough.{reads_on, reads_then, reads_refused, unprepared}
use Rattle.tf_engine.proofs.Unread.{err_is}
use Rattle.tf_engine.proofs.task_for.task_read.Goals as goal

-- what a text of the request's form says is what it says to the request
said_in : {A T : Type 0} {remaining : T → Option (List ℕ)} {old new : Counted T}
    {result : Result SchedulingTask (RunFault A)} (request : RequestData) (problem : Problem)
    (form : FormData) (machines : Option ℕ) → request.form ≡ form → request.machines ≡ machines
    → ReadsTo (task_said form problem machines) remaining old new result
    → ReadsTo (task_in request problem) remaining old new result
said_in {remaining = remaining} {old = old} {new = new} {result = result} request problem form
    machines its_form its_machines reads =
    subst (λ n. ReadsTo (task_said request.form problem n) remaining old new result)
    (sym its_machines)
    (subst (λ f. ReadsTo (task_said f problem machines) remaining old new result) (sym its_form)
    reads)

pub returns-in_err-numbers-in-Wt : goal.returns-in_err-numbers-in-Wt
returns-in_err-numbers-in-Wt g c =
    let form = InWt c.in-Wt.jobs c.in-Wt.index in
    let machines = c.request.inside.machines in
    said_in c.args.request.now c.args.problem.now form machines (search rules) (search rules)
    (err_is (ReadsTo (task_said form c.args.problem.now machines) _ _ _) _ _
    c.from_residual.ensures.1
    (reads_on (prepared_said c.args.problem.now machines) (instance_said form) _ _ _ _
    c.in_err-numbers-in-Wt.ensures))

pub returns-in_err-into_task-in-Wt : goal.returns-in_err-into_task-in-Wt
returns-in_err-into_task-in-Wt g c =
    let form = InWt c.in-Wt.jobs c.in-Wt.index in
    let machines = c.request.inside.machines in
    said_in c.args.request.now c.args.problem.now form machines (search rules) (search rules)
    (err_is (ReadsTo (task_said form c.args.problem.now machines) _ _ _) _ _
    c.from_residual-in_err-into_task-in-Wt.ensures.1
    (reads_refused (prepared_said c.args.problem.now machines) (instance_said form) _ _ _ _ _
    c.in_ok-numbers-in-Wt.ensures
    (unprepared g.row.A.Denot _ c.in_err-into_task-in-Wt.field-0.0
    c.in_err-into_task-in-Wt.ensures)))

pub returns-in_ok-into_task-in-Wt : goal.returns-in_ok-into_task-in-Wt
returns-in_ok-into_task-in-Wt g c =
    let form = InWt c.in-Wt.jobs c.in-Wt.index in
    let machines = c.request.inside.machines in
    said_in c.args.request.now c.args.problem.now form machines (search rules) (search rules)
    (reads_then (prepared_said c.args.problem.now machines) (instance_said form) _ _ _ _ _
    c.in_ok-numbers-in-Wt.ensures (ap (refused_by ByTask) c.in_ok-into_task-in-Wt.ensures))

pub returns-in_err-numbers-in-Flow : goal.returns-in_err-numbers-in-Flow
returns-in_err-numbers-in-Flow g c =
    let form = InFlow c.as_bytes.result.now c.in-Flow.pair in
    let machines = c.request.inside.machines in
    said_in c.args.request.now c.args.problem.now form machines (search rules) (search rules)
    (err_is (ReadsTo (task_said form c.args.problem.now machines) _ _ _) _ _
    c.from_residual-in_err-numbers-in-Flow.ensures.1
    (reads_on (prepared_said c.args.problem.now machines) (instance_said form) _ _ _ _
    c.in_err-numbers-in-Flow.ensures))

pub returns-in_err-into_task-in-Flow : goal.returns-in_err-into_task-in-Flow
returns-in_err-into_task-in-Flow g c =
    let form = InFlow c.as_bytes.result.now c.in-Flow.pair in
    let machines = c.request.inside.machines in
    said_in c.args.request.now c.args.problem.now form machines (search rules) (search rules)
    (err_is (ReadsTo (task_said form c.args.problem.now machines) _ _ _) _ _
    c.from_residual-in_err-into_task-in-Flow.ensures.1
    (reads_refused (prepared_said c.args.problem.now machines) (instance_said form) _ _ _ _ _
    c.in_ok-numbers-in-Flow.ensures
    (unprepared g.row.A.Denot _ c.in_err-into_task-in-Flow.field-0.0
    c.in_err-into_task-in-Flow.ensures)))

pub returns-in_ok-into_task-in-Flow : goal.returns-in_ok-into_task-in-Flow
returns-in_ok-into_task-in-Flow g c =
    let form = InFlow c.as_bytes.result.now c.in-Flow.pair in
    let machines = c.request.inside.machines in
    said_in c.args.request.now c.args.problem.now form machines (search rules) (search rules)
    (reads_then (prepared_said c.args.problem.now machines) (instance_said form) _ _ _ _ _
    c.in_ok-numbers-in-Flow.ensures (ap (refused_by ByTask) c.in_ok-into_task-in-Flow.ensures))
