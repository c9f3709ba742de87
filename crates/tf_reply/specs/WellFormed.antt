-- Which requests are well formed: their numbers are in range, as on the command line, the texts are
-- as long as they say, and what is read as text is text.
use Rattle.std.specs.Prelude.{ℕ, ◌+◌, ◌≤◌, List, length, IfSome, IsUtf8, ⊤}
use Rattle.tf_model.specs.Limit.{most_jobs, most_machines}
use Rattle.tf_text.specs.Chart.{most_columns}
use Rattle.tf_engine.specs.FormData.{FormData, InTable, InWt, InFlow}
use Rattle.tf_engine.specs.RequestData.{RequestData}
use Rattle.tf_reply.specs.declared.asking.Asking.{Asking}
use Rattle.tf_reply.specs.Asked.{flagged, layout_said, request_in}

-- the most steps of the search for prices
abbrev pub most_steps : ℕ
most_steps = 1000000

-- a number of this range
abbrev pub IsWithin : ℕ → ℕ → ℕ → Type 0
IsWithin least most number = (least ≤ number) × (number ≤ most)

-- a weighted tardiness file has a number of jobs, and its instances are counted from 1; a flow shop
-- has a name, and its machines are counted from 0
abbrev pub IsAllowedForm : FormData → Type 0
IsAllowedForm InTable = ⊤
IsAllowedForm (InWt jobs index) = IsWithin 1 most_jobs jobs × (1 ≤ index)
IsAllowedForm (InFlow name pair) =
    IsUtf8 name × IfSome pair (λ two. (two.0 ≤ most_machines) × (two.1 ≤ most_machines))

-- the number of machines may be absent
pub record IsAllowed (request : RequestData) : Type 0 where
  pub problem : IsUtf8 request.problem
  pub machines : IfSome request.machines (IsWithin 1 most_machines)
  pub form : IsAllowedForm request.form

-- the texts that come before the answer are there, and what they and the numbers ask for is allowed
pub record IsWellFormed (asking : Asking) (bytes : List ℕ) : Type 0 where
  pub texts : asking.problem + asking.name + asking.instance ≤ length bytes
  pub request : IsAllowed (request_in asking bytes (layout_said asking.version))

-- the steps of the search for prices may be absent
abbrev pub HasAllowedSteps : Asking → Type 0
HasAllowedSteps asking =
    IfSome (flagged asking.has_steps asking.steps) (IsWithin 1 most_steps)

-- a chart has some columns
abbrev pub HasAllowedColumns : Asking → Type 0
HasAllowedColumns asking = IsWithin 1 most_columns asking.columns
