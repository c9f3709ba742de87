-- What is said of a text.
use Rattle.std.specs.Prelude.{ℕ, List, Result}
use Rattle.tf_model.specs.InstanceData.{InstanceData}
use Rattle.tf_words.specs.Words.{Word}
use Rattle.tf_read.specs.declared.fault.ReadFault.{ReadFault}

-- the instance or the fault that all words of a text say
abbrev pub Says : Type 0
Says = List Word → Result InstanceData ReadFault

-- the same of its bytes
abbrev pub TextSays : Type 0
TextSays = List ℕ → Result InstanceData ReadFault
