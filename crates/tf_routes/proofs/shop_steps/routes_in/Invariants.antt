use Rattle.std.proofs.Common.{◌≡◌, ◌-◌, []}
use Rattle.tf_routes.specs.JobShop.{routes_in}
use Rattle.tf_routes.specs.TextLeft.{words_of}
use Rattle.tf_routes.proofs.shop_steps.routes_in.Given as goal

-- the routes so far, and those that are left
abbrev pub invariant-loop : goal.invariant-loop
invariant-loop g l =
    routes_in l.machines (l.jobs - l.counter) l.routes.items (words_of l.rest)
    ≡ routes_in l.machines l.jobs [] (words_of l.words)
