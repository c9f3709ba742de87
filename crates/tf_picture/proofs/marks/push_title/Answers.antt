use Rattle.std.proofs.Common.{◌≡◌, rules}
use Rattle.tf_picture.proofs.marks.push_title.Goals as goal

pub returns : goal.returns
returns g c =
    let job : c.from.result ≡ c.args.piece.now.job = search rules in
    rw (job, c.date_name.ensures) at c.push_parts.ensures
