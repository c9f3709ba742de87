use Rattle.std.proofs.Common.{◌≡◌, ◌++◌, ◌-◌}
use Rattle.std.specs.List.{range_with_len}
use Rattle.tf_text.proofs.answer.job_words.push_run.Given as goal

-- the jobs so far are added
abbrev pub invariant-loop-number : goal.invariant-loop-number
invariant-loop-number g l =
    l.jobs.items ≡ l.fn.jobs.items ++ range_with_len l.fn.run.first (l.number - l.fn.run.first)
