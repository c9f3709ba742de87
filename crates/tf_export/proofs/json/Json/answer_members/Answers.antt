use Rattle.tf_export.proofs.Adding.{both}
use Rattle.tf_export.proofs.json.Json.answer_members.Goals as goal

pub returns : goal.returns
returns c =
    both c.args.self.now c.members_behind.new.self c.parts_array.new.self _ _
    c.in_ok-members_behind.ensures c.in_ok-parts_array.ensures
