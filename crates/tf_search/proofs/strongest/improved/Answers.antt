use Rattle.std.proofs.Common.{⊎_elim}
use Rattle.tf_search.proofs.strongest.improved.Goals as goal

pub returns : goal.returns
returns g c k one other =
    let there = rw c.in_ok-found.was at other in
    ⊎_elim (λ e. rw e one) (λ e. rw e there) c.better.ensures
