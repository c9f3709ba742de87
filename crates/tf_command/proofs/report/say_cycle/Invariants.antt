use Rattle.std.proofs.Common.{◌++◌, ◌∷◌, codes, take}
use Rattle.std.specs.List.{flat_map}
use Rattle.std.specs.Fmt.{decimal}
use Rattle.tf_command.specs.Wrote.{Gathers}
use Rattle.tf_command.proofs.report.say_cycle.Given as goal

-- the jobs so far are gathered
abbrev pub invariant-loop-job : goal.invariant-loop-job
invariant-loop-job g l =
    Gathers g.W.Write.contents l.fn.writer l.writer l.line.bytes.items
    (codes "threefield: refused: Cycle" ++ flat_map (λ job. 32 ∷ decimal job) (take l.job-index l.jobs))
