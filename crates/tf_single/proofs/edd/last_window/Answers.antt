use Rattle.std.proofs.Common.{get_or, ap, rules}
use Rattle.std.proofs.lemmas.Int.{to_z-of_z}
use mir.Syntax.{w64}
use Rattle.tf_single.proofs.Solved.{end_limit, end_reached, solved_window, solved_value}
use Rattle.tf_single.proofs.Turns.{in_turn}
use Rattle.tf_single.proofs.edd.last_window.Goals as goal

pub latest-latest-requires-clause-limit : goal.latest-latest-requires-clause-limit
latest-latest-requires-clause-limit g c =
    end_limit _ c.requires.sound c.requires.class _ c.requires.timeline _ c.requires.ends

pub stretch_start-start-requires-clause-turns : goal.stretch_start-start-requires-clause-turns
stretch_start-start-requires-clause-turns g c =
    in_turn _ _ (λ _. 0) c.requires.timeline.now c.requires.timeline.progress

pub stretch_start-start-requires-clause-reached : goal.stretch_start-start-requires-clause-reached
stretch_start-start-requires-clause-reached g c =
    rw c.place.ensures.value
    (end_reached _ c.requires.sound c.requires.class _ c.requires.timeline _ c.requires.ends _
    c.latest-latest.ensures.job)

pub lateness-requires-clause-limit : goal.lateness-requires-clause-limit
lateness-requires-clause-limit g c =
    end_limit _ c.requires.sound c.requires.class _ c.requires.timeline _ c.requires.ends _
    c.latest-latest.ensures.job

pub returns-clause-window : goal.returns-clause-window
returns-clause-window g c =
    rw c.new.ensures
    (solved_window _ c.requires.sound c.requires.class _ c.requires.timeline _ c.requires.ends _
    c.latest-latest.ensures _ (ap (λ n. get_or c.args.ends.now n 0) c.place.ensures.value) _
    (rw (to_z-of_z w64 c.due.result (search rules), c.due.ensures) at c.stretch_start-start.ensures)
    _ c.in_ok-jobs.ensures)

pub returns-clause-value : goal.returns-clause-value
returns-clause-value g c =
    rw (c.new.ensures, to_z-of_z w64 c.lateness.result (search rules), c.lateness.ensures)
    (solved_value _ c.requires.sound c.requires.class _ c.requires.timeline _ c.requires.ends _
    c.latest-latest.ensures _ (ap (λ n. get_or c.args.ends.now n 0) c.place.ensures.value) _
    (rw (to_z-of_z w64 c.due.result (search rules), c.due.ensures) at c.stretch_start-start.ensures)
    _ c.in_ok-jobs.ensures)
