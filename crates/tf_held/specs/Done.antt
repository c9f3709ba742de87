-- What an evaluation wrote, before its measures are put in.
use Rattle.std.specs.Prelude.{◌≡◌, ℕ, false, List, []}
use Rattle.tf_text.specs.Counted.{inner_of, has_failed, use_of}
use Rattle.tf_text.specs.declared.answer.layout.Layout.TheVariants.{Two}
use Rattle.tf_asked.specs.Asking.{requested}
use Rattle.tf_asked.specs.declared.options.Options.{Options}
use Rattle.tf_command.specs.Ending.{SaysLine}
use Rattle.tf_command.specs.Formatted.{Memory, held}
use Rattle.tf_command.specs.Performing.{Performs}
use Rattle.tf_command.specs.Unread.{Texts}
use Rattle.tf_held.specs.declared.measured.Answered.{Answered}
use Rattle.tf_held.specs.declared.measured.Done.{Done}
use Rattle.tf_held.specs.Measured.{answered_with, options_of, texts_read, work_of}
use Rattle.tf_held.specs.Shops.{IsCountedBy}

-- the evaluation was done over these texts with its output in memory, and this is what it was asked
-- for and what it wrote
pub record IsDone (texts : Texts) (answered : Answered) (d : Done) : Type 0 where
  pub request : d.request ≡ requested (options_of answered) Two
  pub before : Memory
  pub after : Memory
  pub blank : (inner_of before.writer).items ≡ []
  pub silent : (inner_of before.errors).items ≡ []
  pub done : Performs texts (work_of answered) (use_of held before.writer after.writer)
      (λ explain. SaysLine held explain before.errors after.errors) d.status
  pub whole : has_failed after.writer ≡ false
  pub told : has_failed after.errors ≡ false
  pub output : d.output.items ≡ (inner_of after.writer).items
  pub errors : d.errors.items ≡ (inner_of after.errors).items

-- the same over an instance and an answer that were read, for a shop of as many machines as the
-- instance says, where their number is wanted
pub record IsDoneCounted (texts : Texts) (instance answer : List ℕ) (answered : Answered) (d : Done)
    : Type 0 where
  pub other : Options
  pub counted : IsCountedBy (options_of answered) instance other
  pub over : IsDone (texts_read texts instance answer answered) (answered_with answered other) d
