use Rattle.tf_assess.proofs.placed.first_placed.Goals as goal

pub returns-in-Some : goal.returns-in-Some
returns-in-Some g c = λ ps sorted.
    let placed = rw c.in-Some.is at (c.in_ok-placed.ensures ps sorted) in
    placed.0
