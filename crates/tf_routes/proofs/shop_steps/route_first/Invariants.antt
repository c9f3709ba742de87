use Rattle.std.proofs.Common.{◌≡◌, ◌-◌, length, []}
use Rattle.tf_routes.specs.JobShop.{route_first}
use Rattle.tf_routes.specs.Marks.{AreMarks}
use Rattle.tf_routes.specs.TextLeft.{words_of}
use Rattle.tf_routes.proofs.shop_steps.route_first.Given as goal

-- the steps so far, their machines marked, and those that are left
abbrev pub invariant-loop : goal.invariant-loop
invariant-loop g l = record {
  marks : AreMarks l.steps.items l.marks.items;
  count : length l.marks.items ≡ l.machines;
  same : route_first l.machines (l.machines - l.counter) l.steps.items (words_of l.rest)
      ≡ route_first l.machines l.machines [] (words_of l.words);
}
