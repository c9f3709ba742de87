use Rattle.std.proofs.Common.{rules, length, subst, ◌∙◌, arith, SFits}
use Rattle.std.specs.Int.{w128}
use Rattle.std.proofs.lemmas.Int.{to_z-of_z}
use Rattle.tf_posed.specs.Agreement.{posed}
use Rattle.tf_posed.proofs.Conditions.{size}
use Rattle.tf_schedule.specs.Lanes.{HasLanes}
use Rattle.tf_schedule.specs.ProblemJudged.{FitsBy, IsJudgedBy}
use Rattle.tf_schedule.proofs.Busy.{stop_within}
use Rattle.tf_schedule.proofs.ClassMisfit.{all_known, first_of_class, fits_class}
use Rattle.tf_schedule.proofs.OnLanes.{stop_is}
use Rattle.tf_schedule.proofs.judge.judge.Goals.{in-Some, in-None}
use Rattle.tf_schedule.proofs.judge.judge.Goals as goal

pub cost_in-requires : goal.cost_in-requires
cost_in-requires g c = record {
  stops = λ j job. omega (
    arith,
    stop_is (length (posed c.args.task.now).jobs) c.args.schedule.now
        c.in_ok-misfit.field-0.jobs c.in_ok-misfit.ensures.jobs j job.0
        (omega (arith, job.1, size c.args.task.now)),
    stop_within c.args.schedule.now c.in_ok-misfit.ensures.schedule.sound j,
  );
}

pub returns : goal.returns
returns g c =
    let k = c.args.task.now in
    let ps = c.args.schedule.now in
    let judged = c.in_ok-misfit.ensures in
    let has : HasLanes (length k.jobs) ps c.in_ok-misfit.field-0.jobs =
    subst (λ n. HasLanes n ps c.in_ok-misfit.field-0.jobs) (size k) judged.jobs in
    record {
      fit = elim c.match-misfit.branch [
        | in-Some w ↦
            rw (w.fit-is, w.of_class.ensures)
            (first_of_class k c.class-class.ensures.sound ps w.in-Some.misfit
            (subst (IsJudgedBy (posed k) ps) w.in-Some.is judged.fit))
        | in-None w ↦
            let by : FitsBy (posed k) ps = subst (IsJudgedBy (posed k) ps) w.in-None.is judged.fit in
            let fits : SFits w128 w.cost_in.result = search rules in
            rw w.fit-is (fits_class k c.class-class.ensures.sound ps by _
            (to_z-of_z w128 w.cost_in.result fits
            ∙ w.cost_in.ensures ps judged.schedule (all_known k ps by.known) has))
      ];
      lanes = has;
      schedule = judged.schedule;
    }
