-- What is known of a bound that a search found.
use Rattle.tf_posed.specs.ProblemData.{ProblemData}
use Rattle.tf_posed.specs.ProblemCost.{IsLowerBound}
use Rattle.tf_bound.specs.Certified.{IsBoundBy, IsValueOn}
use Rattle.tf_search.specs.declared.strongest.Found.{Found}

-- the certificate has the value, and no timetable that fits costs less
pub record IsFound {A : Type 0} (k : ProblemData) (found : Found A) : Type 0 where
  pub value : IsBoundBy k found.certificate found.value
  pub bound : IsLowerBound k found.value

-- the same on the task as it is, whatever its arcs
pub record IsFoundOn {A : Type 0} (k : ProblemData) (found : Found A) : Type 0 where
  pub value : IsValueOn k found.certificate found.value
  pub bound : IsLowerBound k found.value
