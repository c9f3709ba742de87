use Rattle.std.proofs.Common.{◌≡◌, ◌∷◌, length}
use Rattle.tf_words.specs.WordParts.{later_parts}
use Rattle.tf_model.specs.Limit.{most_machines}
use Rattle.tf_routes.specs.Marks.{AreMarks}
use Rattle.tf_routes.specs.RoutedTable.{route_at, steps_at}
use Rattle.tf_routes.proofs.routed_table.route_at.Given as goal

-- the steps so far, their machines marked, and the parts that are left
abbrev pub invariant-loop-marks : goal.invariant-loop-marks
invariant-loop-marks g l = record {
  marks : AreMarks l.steps.items l.marks.items;
  count : length l.marks.items ≡ most_machines;
  same : steps_at l.steps.items l.line (l.part ∷ later_parts l.rest) ≡ route_at l.line l.value;
}

abbrev pub decreases-loop-marks : goal.decreases-loop-marks
decreases-loop-marks g l = length l.rest
