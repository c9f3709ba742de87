-- The form of an instance text as definitions see it, which has no allocator.
use Rattle.std.specs.Prelude.{ℕ, List, Option}
use Rattle.tf_engine.specs.declared.request.Form.{Form}
use Rattle.tf_engine.specs.declared.request.Form.TheVariants.{Table, Wt, Flow}

pub data FormData : Type 0 where
  InTable : FormData
  InWt : ℕ → ℕ → FormData  -- the number of jobs, and which instance
  InFlow : List ℕ → Option (ℕ × ℕ) → FormData  -- the name, and the two machines if they are named

abbrev pub form_of : {A : Type 0} → Form A → FormData
form_of Table = InTable
form_of (Wt jobs index) = InWt jobs index
form_of (Flow name pair) = InFlow name pair
