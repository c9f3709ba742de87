use Rattle.tf_listing.proofs.listing.push_lines.Goals as goal

pub returns-in-Solved : goal.returns-in-Solved
returns-in-Solved g c = rw c.in-Solved.is c.push_solved.ensures

pub returns-in-Bounded : goal.returns-in-Bounded
returns-in-Bounded g c = rw c.in-Bounded.is c.push_bounded.ensures
