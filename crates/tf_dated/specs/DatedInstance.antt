-- The instance whose dates are marked: its table may have routes, and a shop file is read as one of
-- job shops, since the problem is not known before the answer is read.
use Rattle.std.specs.Prelude.{ℕ, List, None, Some, Result, Ok}
use Rattle.tf_model.specs.InstanceData.{InstanceData}
use Rattle.tf_model.specs.Outcome.{◌>>=◌}
use Rattle.tf_routes.specs.RoutedData.{RoutedData}
use Rattle.tf_engine.specs.Faults.{Refused}
use Rattle.tf_engine.specs.FormData.{FormData, InTable, InWt, InFlow}
use Rattle.tf_engine.specs.Parts.{instance_said}
use Rattle.tf_bounding.specs.ShopTimes.{job_shop_said, table_said}

-- an instance without the routes that were read with it
abbrev pub without_routes : Result RoutedData Refused → Result InstanceData Refused
without_routes said = said >>= λ r. Ok r.instance

-- the instance that a text of this form holds
abbrev pub dated_said : FormData → List ℕ → Result InstanceData Refused
dated_said InTable text = without_routes (table_said text)
dated_said (InWt jobs index) text = instance_said (InWt jobs index) text
dated_said (InFlow name (Some pair)) text = instance_said (InFlow name (Some pair)) text
dated_said (InFlow name None) text = without_routes (job_shop_said name text)
