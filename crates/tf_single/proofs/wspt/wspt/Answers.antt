use Rattle.std.proofs.Common.{ap, ◌∙◌, arith}
use Rattle.std.proofs.lemmas.Int.{to_z_pos}
use mir.Syntax.{w64}
use Rattle.tf_schedule.specs.SemiActive.{laid}
use Rattle.tf_schedule.specs.Sequence.{in_sequence}
use Rattle.tf_check.proofs.RatioOrder.{in_known, in_work_within}
use Rattle.tf_single.proofs.Sequence.{ratio_schedule, ratio_accepted}
use Rattle.tf_single.proofs.wspt.wspt.Goals as goal

pub in_sequence-requires-clause-known : goal.in_sequence-requires-clause-known
in_sequence-requires-clause-known g c =
    rw c.deref-2.ensures.value (in_known _ _ c.in_ok-jobs.ensures.by_ratio)

pub in_sequence-requires-clause-total : goal.in_sequence-requires-clause-total
in_sequence-requires-clause-total g c =
    rw c.deref-2.ensures.value
    (in_work_within _ _ c.in_ok-jobs.ensures.by_ratio c.jobs_by_ratio.ensures.sound)

pub returns-clause-schedule : goal.returns-clause-schedule
returns-clause-schedule g c =
    rw (c.new.ensures, c.in_ok-pieces.ensures, c.deref-2.ensures.value)
    (ratio_schedule _ _ c.jobs_by_ratio.ensures.sound c.requires.sum c.requires.single
    c.in_ok-jobs.ensures.by_ratio)

pub returns-clause-accepted : goal.returns-clause-accepted
returns-clause-accepted g c =
    rw (
      c.new.ensures,
      c.in_ok-pieces.ensures,
      c.deref-2.ensures.value,
      to_z_pos w64 c.weighted_completions-value.result
          (omega (arith, c.weighted_completions-value.ensures.small)),
      c.weighted_completions-value.ensures.value,
      c.deref.ensures.value,
    )
    (ratio_accepted _ _ c.jobs_by_ratio.ensures.sound c.requires.sum c.requires.single
    c.in_ok-jobs.ensures.by_ratio)

pub returns-clause-rule : goal.returns-clause-rule
returns-clause-rule g c = record {
  jobs = c.in_ok-jobs.ensures.by_ratio.jobs;
  by_ratio = c.in_ok-jobs.ensures.by_ratio.by_ratio;
  are = c.new.ensures ∙ c.in_ok-pieces.ensures
      ∙ ap (λ js. laid (in_sequence c.args.task.now js))
      (c.deref-2.ensures.value ∙ c.in_ok-jobs.ensures.by_ratio.are);
}
