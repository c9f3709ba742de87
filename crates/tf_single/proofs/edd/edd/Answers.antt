use Rattle.std.proofs.Common.{sym, subst, rules}
use Rattle.std.proofs.lemmas.Int.{to_z-of_z}
use mir.Syntax.{w64}
use Rattle.tf_check.proofs.Best.{accepted-best_drawing}
use Rattle.tf_single.specs.Ends.{AreInTurn}
use Rattle.tf_single.proofs.Solved.{drawn, solved_accepted, solved_rule}
use Rattle.tf_single.proofs.Turns.{in_turn}
use Rattle.tf_single.proofs.edd.edd.Goals as goal

pub completions-requires-clause-turns : goal.completions-requires-clause-turns
completions-requires-clause-turns g c =
    let timeline = c.in_ok-pieces.ensures.timeline in
    subst (AreInTurn c.args.task.now) (sym c.deref.ensures.value)
    (in_turn c.args.task.now c.in_ok-pieces.pieces.items (λ _. 0) timeline.now timeline.progress)

pub returns-clause-draws : goal.returns-clause-draws
returns-clause-draws g c =
    rw c.new.ensures
    (drawn _ c.in_ok-pieces.ensures.sound c.requires _ c.in_ok-pieces.ensures.timeline)

pub returns-clause-accepted : goal.returns-clause-accepted
returns-clause-accepted g c =
    let window = rw c.deref-2.ensures.value at c.in_ok-window.ensures.window in
    rw (c.new.ensures, to_z-of_z w64 c.in_ok-window.value (search rules))
    (solved_accepted _ c.in_ok-pieces.ensures.sound c.requires _ c.in_ok-pieces.ensures.timeline _
    window _ c.in_ok-window.ensures.value)

pub returns-clause-best : goal.returns-clause-best
returns-clause-best g c =
    accepted-best_drawing c.args.task.now _ c.in_ok-pieces.ensures.sound
    (returns-clause-accepted g c)

pub returns-clause-rule : goal.returns-clause-rule
returns-clause-rule g c =
    let window = rw c.deref-2.ensures.value at c.in_ok-window.ensures.window in
    rw c.new.ensures
    (solved_rule _ c.in_ok-pieces.ensures.sound c.requires _ c.in_ok-pieces.ensures.timeline _
    window _ c.in_ok-window.ensures.value)

pub returns-clause-few : goal.returns-clause-few
returns-clause-few g c = rw c.new.ensures c.in_ok-pieces.ensures.few
