use Rattle.std.proofs.Common.{◌≡◌, ◌∷◌, ◌++◌, map, take}
use Rattle.std.specs.List.{flat_map}
use Rattle.std.specs.Fmt.{decimal}
use Rattle.tf_bounding.proofs.writing.push_jobs.Given as goal

-- the jobs so far are written
abbrev pub invariant-loop-job : goal.invariant-loop-job
invariant-loop-job g l =
    l.text.items ≡ l.fn.text.items
    ++ flat_map (λ word. 32 ∷ word) (map decimal (take l.job-index l.jobs))
