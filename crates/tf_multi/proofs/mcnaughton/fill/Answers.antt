use Rattle.std.proofs.Common.{◌≡◌, ℕ, ◌+◌, ◌-◌, List, ◌∷◌, ◌++◌, length, sym, ap, ◌∙◌, subst, arith}
use Rattle.std.specs.List.{range_with_len}
use Rattle.tf_schedule.specs.declared.piece.Piece.{Piece}
use Rattle.tf_model.specs.SchedulingTask.{time_of}
use Rattle.tf_multi.specs.Fill.{IsFilled}
use Rattle.tf_multi.specs.Wrapped.{wrapped}
use Rattle.tf_multi.proofs.Filling.{front_in_range, sum_by_range_le}
use Rattle.tf_multi.proofs.Wrapping.{jobs_from, none_from}
use Rattle.tf_multi.proofs.mcnaughton.fill.Goals as goal

pub place-requires-clause-machine : goal.place-requires-clause-machine
place-requires-clause-machine g c =
    omega (
      arith,
      front_in_range c.args.value (time_of c.args.task.now) c.loop-k.k _ _ _
          c.args.task.now.machines c.len.ensures.sound.some_machine
          (omega (
            arith,
            c.requires.room,
            sum_by_range_le (time_of c.args.task.now) 1 c.loop-k.k (length c.args.task.now.jobs)
                (omega arith),
          )) c.loop-k.invariant.filled,
      c.len.ensures.sound.few_machines,
    )

pub place-requires-clause-filled : goal.place-requires-clause-filled
place-requires-clause-filled g c =
    let before : c.loop-k.k ≡ c.at.result - 1 = omega arith in
    subst (λ n. IsFilled c.args.value (time_of c.args.task.now) n c.loop-k.pieces.items
    c.loop-k.front.machine c.loop-k.front.at) before c.loop-k.invariant.filled

pub loop-k-preserved : goal.loop-k-preserved
loop-k-preserved g c =
    let n : ℕ = length c.args.task.now.jobs in
    let k : ℕ = c.loop-k.k in
    let js : List ℕ = range_with_len (k + 1 + 1) (n - (k + 1)) in
    let pieces : List Piece = c.loop-k.pieces.items in
    let placed = wrapped c.args.value (time_of c.args.task.now) c.loop-k.front.machine
    c.loop-k.front.at in
    record {
      filled = subst (λ j. IsFilled c.args.value (time_of c.args.task.now) j
          c.place.new.pieces.items c.in_ok-front.front.machine c.in_ok-front.front.at) c.at.ensures
          c.in_ok-front.ensures.filled;
      wrapped = sym (c.in_ok-front.ensures.wrapped js)
          ∙ ap (λ (j : ℕ). pieces ++ placed (j ∷ js)) c.at.ensures
          ∙ ap (λ (xs : List ℕ). pieces ++ placed xs)
          (sym (jobs_from k n (omega (arith, c.loop-k-test.true, c.len-k-end.ensures.value))))
          ∙ c.loop-k.invariant.wrapped;
    }

pub returns-clause-wrapped : goal.returns-clause-wrapped
returns-clause-wrapped g c =
    none_from c.args.value (time_of c.args.task.now) c.loop-k.front.machine c.loop-k.front.at
    c.loop-k.k (length c.args.task.now.jobs) c.loop-k.pieces.items _
    (omega (arith, c.loop-k-test.false, c.len-k-end.ensures.value)) c.loop-k.invariant.wrapped
