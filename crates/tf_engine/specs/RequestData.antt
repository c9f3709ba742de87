-- What a run is asked for.
use Rattle.std.specs.Prelude.{ℕ, List, Option}
use Rattle.tf_text.specs.declared.answer.layout.Layout.{Layout}
use Rattle.tf_engine.specs.FormData.{FormData}

pub record RequestData : Type 0 where
  pub problem : List ℕ  -- the bytes of the problem line
  pub form : FormData
  pub machines : Option ℕ  -- the number that the caller gives
  pub layout : Layout  -- the version of the answer text that is written
