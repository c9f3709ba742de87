use Rattle.std.proofs.Common.{◌≡◌, ◌-◌, ◌≤◌, pos, max, sum_by, ap, sym, ◌∙◌, arith, Ok}
use Rattle.tf_model.specs.Limit.{limit}
use Rattle.tf_model.specs.SchedulingTask.{all_jobs, time_of, time_on}
use Rattle.tf_check.specs.Bound.{bound_by}
use Rattle.tf_check.specs.Certificate.{claim_of}
use Rattle.tf_check.proofs.Given.{open_takes_machine, open_takes_one_job, machine_given, one_job_given}
use Rattle.tf_multi.specs.OpenShop.{machine_time, open_claim}
use Rattle.tf_multi.proofs.Numbers.{cast_value}
use Rattle.tf_multi.proofs.OpenShop.{first_claim, second_claim, job_claim, led_schedule, led_accepted}
use Rattle.tf_multi.proofs.open_two.open_two.Goals as goal
use Rattle.tf_multi.proofs.open_two.open_two.Goals.{then-first-value, else-first-value+then-second-value, else-first-value+else-second-value}

pub returns-clause-schedule : goal.returns-clause-schedule
returns-clause-schedule g c =
    rw c.new.ensures
    (led_schedule _ c.in_ok-pieces.ensures.sound c.requires.shop c.requires.any_order _
    c.leader-leader.ensures _
    c.in_ok-pieces.ensures.kept c.in_ok-pieces.ensures.in_order)

pub returns-clause-accepted : goal.returns-clause-accepted
returns-clause-accepted g c =
    let task = c.args.task.now in
    let v = c.max-value.result in
    let l = c.first_longest-longest.result in
    let first : c.work_on-first.result ≡ machine_time task 1 = c.work_on-first.ensures.value
    ∙ ap (λ m. sum_by (λ j. time_on task j (m - 1)) (all_jobs task)) c.machine_of.ensures in
    let second : c.work_on-second.result ≡ machine_time task 2 = c.work_on-second.ensures.value
    ∙ ap (λ m. sum_by (λ j. time_on task j (m - 1)) (all_jobs task)) c.machine_of-2.ensures in
    let value : v ≡ max (max (machine_time task 1) (machine_time task 2)) (time_of task l) =
    omega (arith, c.max-value.ensures, c.max.ensures, first, second, c.time.ensures.value) in
    let within : v ≤ limit =
    omega (
      arith,
      c.max-value.ensures,
      c.max.ensures,
      c.work_on-first.ensures.small,
      c.work_on-second.ensures.small,
      c.time.ensures.small,
    ) in
    let by_machine = open_takes_machine task.class c.requires.shop c.requires.any_order in
    let by_job = open_takes_one_job task.class c.requires.shop c.requires.any_order in
    let bounded : bound_by (claim_of c.if-first-value.certificate) task ≡ Ok (pos v) =
    elim c.if-first-value.branch [
      | then-first-value w ↦ rw (w.certificate-is, w.machine_of-then-first-value.ensures)
          (machine_given task 1 by_machine (omega arith) (omega arith)
          ∙ ap (λ n. Ok (pos n)) (sym first ∙ w.if-first-value.true))
      | else-first-value+then-second-value w ↦ rw
          (w.certificate-is, w.machine_of-then-second-value.ensures)
          (machine_given task 2 by_machine (omega arith) (omega arith)
          ∙ ap (λ n. Ok (pos n)) (sym second ∙ w.if-second-value.true))
      | else-first-value+else-second-value w ↦ rw w.certificate-is
          (one_job_given task l by_job c.first_longest-longest.ensures.job
          ∙ ap (λ n. Ok (pos n))
          (omega (arith, value, first, second, w.if-first-value.false, w.if-second-value.false)))
    ] in
    rw (c.new.ensures, cast_value v within)
    (led_accepted task c.in_ok-pieces.ensures.sound c.requires.shop c.requires.any_order _
    c.leader-leader.ensures _
    c.in_ok-pieces.ensures.kept l v
    (λ j job. c.first_longest-longest.ensures.longest j job) value _ bounded)

pub returns-clause-rule : goal.returns-clause-rule
returns-clause-rule g c =
    let task = c.args.task.now in
    let v = c.max-value.result in
    let l = c.first_longest-longest.result in
    let first : c.work_on-first.result ≡ machine_time task 1 = c.work_on-first.ensures.value
    ∙ ap (λ m. sum_by (λ j. time_on task j (m - 1)) (all_jobs task)) c.machine_of.ensures in
    let second : c.work_on-second.result ≡ machine_time task 2 = c.work_on-second.ensures.value
    ∙ ap (λ m. sum_by (λ j. time_on task j (m - 1)) (all_jobs task)) c.machine_of-2.ensures in
    let value : v ≡ max (max (machine_time task 1) (machine_time task 2)) (time_of task l) =
    omega (arith, c.max-value.ensures, c.max.ensures, first, second, c.time.ensures.value) in
    let claim : claim_of c.if-first-value.certificate ≡ open_claim task l v =
    elim c.if-first-value.branch [
      | then-first-value w ↦ rw (w.certificate-is, w.machine_of-then-first-value.ensures)
          (first_claim task l v (sym first ∙ w.if-first-value.true))
      | else-first-value+then-second-value w ↦ rw
          (w.certificate-is, w.machine_of-then-second-value.ensures)
          (second_claim task l v (λ e. w.if-first-value.false (first ∙ e))
          (sym second ∙ w.if-second-value.true))
      | else-first-value+else-second-value w ↦ rw w.certificate-is
          (job_claim task l v (λ e. w.if-first-value.false (first ∙ e))
          (λ e. w.if-second-value.false (second ∙ e)))
    ] in
    record {
      leader = c.leader-leader.result;
      leads = c.leader-leader.ensures;
      are = rw c.new.ensures c.in_ok-pieces.ensures.kept;
      longest = l;
      is_longest = c.first_longest-longest.ensures;
      certificate = claim ∙ ap (open_claim task l) value;
    }
