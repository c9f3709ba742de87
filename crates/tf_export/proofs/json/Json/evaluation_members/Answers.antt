use Rattle.tf_export.proofs.Adding.{both}
use Rattle.tf_export.proofs.json.Json.evaluation_members.Goals as goal

pub returns : goal.returns
returns c =
    both c.args.self.now c.members_behind.new.self c.parts_array-2.new.self _ _
    c.in_ok-members_behind.ensures
    (both c.members_behind.new.self c.unknown.new.self c.parts_array-2.new.self _ _
    c.in_ok-unknown.ensures
    (both c.unknown.new.self c.parts_array.new.self c.parts_array-2.new.self _ _
    c.in_ok-parts_array.ensures c.in_ok-parts_array-2.ensures))
