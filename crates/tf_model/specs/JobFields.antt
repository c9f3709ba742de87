-- What an instance says of a job.
use Rattle.std.specs.Prelude.{ℤ, Option}
use Rattle.tf_model.specs.Steps.{Steps}
use Rattle.tf_model.specs.declared.job.Times.{Times}

pub record JobFields : Type 0 where
  pub times : Times
  pub weight : Option ℤ
  pub due : Option ℤ
  pub release : Option ℤ
  pub cost : Option Steps
