use Rattle.std.proofs.Common.{reverse, ◌∙◌, ap, arith}
use Rattle.std.proofs.lemmas.Int.{to_z_pos}
use mir.Syntax.{w64}
use Rattle.tf_model.specs.SchedulingTask.{time_of}
use Rattle.tf_schedule.specs.SemiActive.{laid}
use Rattle.tf_check.specs.Claim.{ByRanks}
use Rattle.tf_check.proofs.RatioOrder.{all_in}
use Rattle.tf_multi.specs.Dealing.{dealt}
use Rattle.tf_multi.proofs.DealtRound.{dealt_schedule, ratio_known, ratio_limit, ratio_accepted}
use Rattle.tf_multi.proofs.spt.spt.Goals as goal

pub dealt-requires : goal.dealt-requires
dealt-requires g c =
    rw c.deref.ensures.value (all_in _ _ c.in_ok-jobs.ensures.by_ratio)

pub ranked_times-value-requires-clause-known : goal.ranked_times-value-requires-clause-known
ranked_times-value-requires-clause-known g c =
    rw (c.deref-2.ensures.value, c.reversed-longest_first.ensures)
    (ratio_known _ _ c.in_ok-pieces.ensures.sound c.requires.sum c.requires.parallel
    c.in_ok-jobs.ensures.by_ratio)

pub ranked_times-value-requires-clause-value : goal.ranked_times-value-requires-clause-value
ranked_times-value-requires-clause-value g c =
    rw (c.deref-2.ensures.value, c.reversed-longest_first.ensures)
    (ratio_limit _ _ c.in_ok-pieces.ensures.sound c.requires.sum c.requires.parallel
    c.in_ok-jobs.ensures.by_ratio)

pub returns-clause-schedule : goal.returns-clause-schedule
returns-clause-schedule g c =
    rw (c.new.ensures, c.in_ok-pieces.ensures.laid, c.deref.ensures.value)
    (dealt_schedule _ _ c.in_ok-pieces.ensures.sound (all_in _ _ c.in_ok-jobs.ensures.by_ratio))

pub returns-clause-accepted : goal.returns-clause-accepted
returns-clause-accepted g c =
    rw (
      c.new.ensures,
      c.in_ok-pieces.ensures.laid,
      c.new-2.ensures,
      to_z_pos w64 c.ranked_times-value.result
          (omega (arith, c.ranked_times-value.ensures.small)),
      c.ranked_times-value.ensures.value,
      c.deref-2.ensures.value,
      c.reversed-longest_first.ensures,
      c.deref.ensures.value,
    )
    (ratio_accepted _ _ c.in_ok-pieces.ensures.sound c.requires.sum c.requires.parallel
    c.in_ok-jobs.ensures.by_ratio)

pub returns-clause-certificate : goal.returns-clause-certificate
returns-clause-certificate g c =
    record {
      jobs = c.in_ok-jobs.ensures.by_ratio.jobs;
      by_ratio = c.in_ok-jobs.ensures.by_ratio.by_ratio;
      is = ap ByRanks (c.new-2.ensures ∙ c.reversed-longest_first.ensures
          ∙ ap reverse c.in_ok-jobs.ensures.by_ratio.are);
    }

pub returns-clause-rule : goal.returns-clause-rule
returns-clause-rule g c =
    record {
      jobs = c.in_ok-jobs.ensures.by_ratio.jobs;
      by_ratio = c.in_ok-jobs.ensures.by_ratio.by_ratio;
      are = c.new.ensures ∙ c.in_ok-pieces.ensures.laid
          ∙ ap (λ js. laid (dealt (time_of c.args.task.now) c.args.task.now.machines
          c.args.task.now.machines js))
          (c.deref.ensures.value ∙ c.in_ok-jobs.ensures.by_ratio.are);
    }
