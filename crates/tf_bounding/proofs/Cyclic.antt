-- A refusal for the sake of a cycle of the arcs.
use Rattle.std.proofs.Common.{◌≡◌, false, refl}
use Rattle.tf_posed.specs.ProblemData.{ProblemData}
use Rattle.tf_engine.specs.Faults.{Stop, Refuses, Fails, Wants, is_on_instance}
use Rattle.tf_engine.specs.Parts.{StopsBy}
use Rattle.tf_bounding.specs.Feasible.{IsCyclicTask}

-- it has nothing to do with the instance's text
pub cyclic_later : (k : ProblemData) (s : Stop) → StopsBy (IsCyclicTask k) s
    → is_on_instance s ≡ false
cyclic_later k (Refuses refused) (jobs, is, cycle) = rw is refl
cyclic_later k Fails h = absurd h
cyclic_later k Wants h = refl
