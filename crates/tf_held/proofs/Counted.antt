-- Evaluations for a shop of as many machines as their file has.
use Rattle.std.proofs.Common.{◌≡◌, ℕ, Bool, List, Some, IfSome, sym, subst}
use Rattle.tf_text.specs.Counted.{DeviceUse}
use Rattle.tf_text.specs.Input.{IsTextOf}
use Rattle.tf_asked.specs.declared.options.Options.{Options}
use Rattle.tf_asked.specs.declared.options.Work.{Work as Asking}
use Rattle.tf_command.specs.Performing.{Performs}
use Rattle.tf_command.specs.Unread.{Texts}
use Rattle.tf_held.specs.Shops.{EndsShop, IsLineFor, IsUnder, evaluated, texts_with, with_options}

-- the work was done over the instance that was read, under the line that is for it
pub over_file : (texts : Texts) (work done : Asking) (options : Options)
    (file instance line : List ℕ) (writer : DeviceUse) (says : Bool → List ℕ → Type 0) (status : ℕ)
    → evaluated work ≡ Some options → IsTextOf (texts options.input.now) file → instance ≡ file
    → IsLineFor options instance line
    → IfSome (evaluated work) (λ asked. (other : Options)
    × IsUnder asked line other × (done ≡ with_options work other))
    → Performs (texts_with options.input.now instance texts) done writer says status
    → EndsShop texts work options writer says status
over_file texts work done options file instance line writer says status asks is_file is wanted under
    performs =
    let found = rw asks at under in
    record {
      instance = instance;
      is_file = subst (λ (text : List ℕ). IsTextOf (texts options.input.now) text) (sym is) is_file;
      other = found.0;
      counted = (line, wanted, found.1);
      done = subst (λ (asking : Asking). Performs (texts_with options.input.now instance texts) asking
          writer says status) found.2 performs;
    }
