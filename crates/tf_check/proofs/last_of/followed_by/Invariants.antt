use Rattle.tf_check.proofs.Followed.{IsFollowedBy}
use Rattle.tf_check.proofs.last_of.followed_by.Given as goal

-- the marks of those with a successor by the arcs so far
abbrev pub invariant-loop-before : goal.invariant-loop-before
invariant-loop-before g l =
    IsFollowedBy l.task l.jobs l.before-items l.before-index l.followed.items
