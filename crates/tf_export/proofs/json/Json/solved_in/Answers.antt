use Rattle.tf_export.proofs.Adding.{both}
use Rattle.tf_export.proofs.json.Json.solved_in.Goals as goal

pub returns : goal.returns
returns c =
    both c.args.self.now c.line_members.new.self c.optimum.new.self _ _
    c.in_ok-line_members.ensures c.in_ok-optimum.ensures
