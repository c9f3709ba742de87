-- Why a task has no plan.
use Rattle.std.proofs.Common.{ℕ, List, inl, inr, arith}
use Rattle.std.proofs.lemmas.Int.{ints}
use Rattle.tf_posed.specs.ProblemData.{ProblemData}
use Rattle.tf_engine.specs.Faults.{Refused, Stop, Refuses, Fails, Wants}
use Rattle.tf_engine.specs.Parts.{StopsBy}
use Rattle.tf_engine.specs.RequestData.{RequestData}
use Rattle.tf_bounding.specs.Feasible.{IsCyclicTask}
use Rattle.tf_bounding.specs.RunBounding.{IsRefusedBound}
use Rattle.tf_plan.specs.Plan.{IsTooDear}
use Rattle.tf_planning.specs.Planning.{IsBeyondAnswers, StopsPlanning}
use Rattle.tf_planning.specs.RunPlanning.{IsRefusedPlan}

-- what makes no task of a problem makes no plan
pub untasked : (request : RequestData) (text : List ℕ) (refused : Refused)
    → IsRefusedBound request text refused → IsRefusedPlan request text refused
untasked request text refused (inl h) = inl h
untasked request text refused (inr (same, (task, is, large))) = inr (task, is, inr (same, inl large))

-- a cost of 2^127 or more is beyond any answer
pub dear_stops : (k : ProblemData) → IsTooDear k → IsBeyondAnswers k
dear_stops k dear = record {
  rows = dear.rows;
  fits = dear.fits;
  beyond = inr (omega (arith, ints, dear.dear));
}

-- a cycle of the arcs is why there is no plan
pub cyclic_stops : (k : ProblemData) (s : Stop) → StopsBy (IsCyclicTask k) s → StopsPlanning k s
cyclic_stops k (Refuses refused) h = inl h
cyclic_stops k Fails h = h
cyclic_stops k Wants h = h
