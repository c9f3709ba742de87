-- A number of machines that a class takes.
use Rattle.std.specs.Prelude.{◌≡◌, ℕ, Ok, if◌then◌else◌}
use Rattle.tf_model.specs.declared.class.Class.{Class}
use Rattle.tf_model.specs.ClassTable.{is_single}
use Rattle.tf_model.specs.Prepare.{count_for}

abbrev pub IsCountFor : Class → ℕ → Type 0
IsCountFor class m = (if is_single class then Ok 1 else count_for class m) ≡ Ok m
