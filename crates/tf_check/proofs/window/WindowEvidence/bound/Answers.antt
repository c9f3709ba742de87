use Rattle.std.proofs.Common.{◌≡◌, true, sym, ap, ◌∙◌}
use Rattle.tf_check.specs.Kinds.{takes_window}
use Rattle.tf_check.proofs.JobLists.{times_within, window_facts}
use Rattle.tf_check.proofs.window.WindowEvidence.bound.Goals as goal

pub span-requires-clause-due : goal.span-requires-clause-due
span-requires-clause-due g c =
    let is : takes_window c.args.task.now.class ≡ true =
    ap takes_window (sym c.class.ensures.class) ∙ sym c.takes_window.ensures
    ∙ c.if-not-takes_window.false in
    (window_facts c.args.task.now.class is).0

pub span-requires-clause-released : goal.span-requires-clause-released
span-requires-clause-released g c =
    let is : takes_window c.args.task.now.class ≡ true =
    ap takes_window (sym c.class.ensures.class) ∙ sym c.takes_window.ensures
    ∙ c.if-not-takes_window.false in
    (window_facts c.args.task.now.class is).1

pub span-requires-clause-work : goal.span-requires-clause-work
span-requires-clause-work g c =
    times_within c.args.task.now c.class.ensures.sound c.as_slice-jobs.result.now
    c.in_ok-judge_list.ensures.judged
