use Rattle.std.proofs.Common.{◌≡◌, ◌+◌}
use Rattle.tf_problem.specs.ProblemBounds.{arcs_gain, problem_work}
use Rattle.tf_bound.proofs.ArcSums.{over_from}
use Rattle.tf_bound.proofs.arc_multipliers.gain_of.Given as goal

abbrev pub invariant-loop-i : goal.invariant-loop-i
invariant-loop-i g l =
    l.gain + over_from (λ arc. problem_work l.task arc.1) l.arcs l.l l.i ≡ arcs_gain l.task l.l
