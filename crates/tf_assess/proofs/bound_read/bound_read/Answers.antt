use Rattle.std.proofs.Common.{Err, ap, ◌∙◌}
use Rattle.tf_text.specs.Input.{is_device}
use Rattle.tf_assess.proofs.BoundRead.{unread_failing, unread_wanting, unread_too_long}
use Rattle.tf_assess.proofs.bound_read.bound_read.Goals as goal

pub returns-in-Err-TooLong-clause-read : goal.returns-in-Err-TooLong-clause-read
returns-in-Err-TooLong-clause-read g c =
    unread_too_long _ (c.in-Err-TooLong.ensures.too_long (ap Err c.in-Err-TooLong.field-0-is))

pub returns-in-Err-Device-clause-read : goal.returns-in-Err-Device-clause-read
returns-in-Err-Device-clause-read g c =
    unread_failing _ (c.in-Err-Device.ensures.device ∙ ap is_device c.in-Err-Device.field-0-is)

pub returns-in-Err-OutOfMemory-clause-read : goal.returns-in-Err-OutOfMemory-clause-read
returns-in-Err-OutOfMemory-clause-read g c = unread_wanting _
