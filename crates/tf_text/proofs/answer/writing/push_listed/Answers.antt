use Rattle.std.proofs.Common.{refl}
use Rattle.std.proofs.lemmas.Result.{on_ok_weaker}
use Rattle.tf_text.proofs.Written.{jobs_written}
use Rattle.tf_text.proofs.answer.writing.push_listed.Goals as goal

pub returns : goal.returns
returns g c =
    on_ok_weaker _ (jobs_written c.args.layout _ _ _ _ _ _ refl
    c.in_ok-extend_from_slice.ensures.items) c.push_jobs.ensures
