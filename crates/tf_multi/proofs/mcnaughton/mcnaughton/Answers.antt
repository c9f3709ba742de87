use Rattle.std.proofs.Common.{◌≡◌, ◌≤◌, pos, ap, sym, ◌∙◌, arith, rules, Ok}
use Rattle.tf_model.specs.Limit.{limit}
use Rattle.tf_check.specs.Bound.{bound_by}
use Rattle.tf_check.specs.Certificate.{claim_of}
use Rattle.tf_check.proofs.Best.{accepted-best_drawing}
use Rattle.tf_multi.proofs.Numbers.{cast_value}
use Rattle.tf_multi.proofs.Shortest.{value_room, value_within, load_bounds, one_job_bounds, filled_draws, filled_accepted}
use Rattle.tf_multi.proofs.mcnaughton.mcnaughton.Goals as goal
use Rattle.tf_multi.proofs.mcnaughton.mcnaughton.Goals.{then-load-value, else-load-value}

pub fill-requires-clause-within : goal.fill-requires-clause-within
fill-requires-clause-within g c =
    value_within _ c.load-load.ensures.sound c.requires _ _ _ _ c.load-load.ensures.value
    c.first_longest-longest.ensures.job c.time.ensures.value c.max-value.ensures

pub fill-requires-clause-room : goal.fill-requires-clause-room
fill-requires-clause-room g c =
    value_room _ c.load-load.ensures.sound c.requires _ _ _ _ c.load-load.ensures.value
    c.first_longest-longest.ensures.job c.time.ensures.value c.max-value.ensures

pub overflow_cast-result : goal.overflow_cast-result
overflow_cast-result g c =
    let within : c.max-value.result ≤ limit =
    value_within _ c.load-load.ensures.sound c.requires _ _ _ _ c.load-load.ensures.value
    c.first_longest-longest.ensures.job c.time.ensures.value c.max-value.ensures in
    search rules

pub returns-clause-draws : goal.returns-clause-draws
returns-clause-draws g c =
    let room = value_room _ c.load-load.ensures.sound c.requires _ _ _ _ c.load-load.ensures.value
    c.first_longest-longest.ensures.job c.time.ensures.value c.max-value.ensures in
    rw c.new.ensures
    (filled_draws _ c.load-load.ensures.sound c.requires _ _ _ _ room c.in_ok-pieces.ensures.filled.2)

pub returns-clause-accepted : goal.returns-clause-accepted
returns-clause-accepted g c =
    let room = value_room _ c.load-load.ensures.sound c.requires _ _ _ _ c.load-load.ensures.value
    c.first_longest-longest.ensures.job c.time.ensures.value c.max-value.ensures in
    let within =
    value_within _ c.load-load.ensures.sound c.requires _ _ _ _ c.load-load.ensures.value
    c.first_longest-longest.ensures.job c.time.ensures.value c.max-value.ensures in
    let bounded : bound_by (claim_of c.if-load-value.certificate) c.args.task.now
    ≡ Ok (pos c.max-value.result) =
    elim c.if-load-value.branch [
      | then-load-value w ↦ rw w.certificate-is
          (load_bounds _ c.load-load.ensures.sound c.requires
          ∙ ap (λ n. Ok (pos n)) (sym c.load-load.ensures.value ∙ w.if-load-value.true))
      | else-load-value w ↦ rw w.certificate-is
          (one_job_bounds _ c.load-load.ensures.sound c.requires _
          c.first_longest-longest.ensures.job
          ∙ ap (λ n. Ok (pos n)) (omega arith))
    ] in
    rw (c.new.ensures, cast_value c.max-value.result within)
    (filled_accepted _ c.load-load.ensures.sound c.requires _ _ _ _ room c.in_ok-pieces.ensures.filled.2 _
    bounded)

pub returns-clause-best : goal.returns-clause-best
returns-clause-best g c =
    accepted-best_drawing _ _ c.load-load.ensures.sound (returns-clause-accepted g c)

pub returns-clause-rule : goal.returns-clause-rule
returns-clause-rule g c =
    let within =
    value_within _ c.load-load.ensures.sound c.requires _ _ _ _ c.load-load.ensures.value
    c.first_longest-longest.ensures.job c.time.ensures.value c.max-value.ensures in
    record {
      length = c.max-value.result;
      is_value = cast_value c.max-value.result within;
      are = rw c.new.ensures c.in_ok-pieces.ensures.wrapped;
    }
