use Rattle.std.proofs.Common.{◌∷◌, map}
use Rattle.std.specs.Fmt.{decimal}
use Rattle.tf_bounding.proofs.Written.{line_written, only_line}
use Rattle.tf_bounding.proofs.writing.push_listed.Goals as goal

pub returns : goal.returns
returns g c =
    only_line _ _ (c.args.word.now ∷ map decimal c.args.jobs.now)
    (line_written _ _ _ _ _ _ c.in_ok-extend_from_slice.ensures.items c.in_ok-push_jobs.ensures
    c.in_ok-push.ensures.items)
