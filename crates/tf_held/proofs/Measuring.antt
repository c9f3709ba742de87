-- Evaluations over an instance and an answer that were read.
use Rattle.std.proofs.Common.{◌≡◌, ℕ, List, subst}
use Rattle.tf_asked.specs.declared.options.Options.{Options}
use Rattle.tf_command.specs.Unread.{Texts}
use Rattle.tf_held.specs.declared.measured.Answered.{Answered}
use Rattle.tf_held.specs.declared.measured.Done.{Done}
use Rattle.tf_held.specs.Done.{IsDone, IsDoneCounted}
use Rattle.tf_held.specs.Measured.{answer_of, answered_with, options_of, texts_read}
use Rattle.tf_held.specs.Shops.{IsLineFor, IsUnder, texts_with}

-- the evaluation was done over both texts that were read, under the line that is for the instance
pub over_read : (texts : Texts) (instance answer name line : List ℕ) (answered under : Answered)
    (options again : Options) (d : Done)
    → options ≡ options_of answered → again ≡ options_of answered → name ≡ answer_of answered
    → IsLineFor options instance line
    → (other : Options) × IsUnder (options_of answered) line other
    × (under ≡ answered_with answered other)
    → IsDone (texts_with again.input.now instance (texts_with name answer texts)) under d
    → IsDoneCounted texts instance answer answered d
over_read texts instance answer name line answered under options again d is same named wanted by
    done =
    record {
      other = by.0;
      counted = (line, subst (λ (o : Options). IsLineFor o instance line) is wanted, by.1);
      over = subst (λ (a : Answered). IsDone (texts_read texts instance answer answered) a d) by.2
          (subst (λ (n : List ℕ). IsDone (texts_with (options_of answered).input.now instance
          (texts_with n answer texts)) under d) named
          (subst (λ (o : Options). IsDone (texts_with o.input.now instance
          (texts_with name answer texts)) under d) same done));
    }
