use Rattle.std.proofs.Common.{◌≡◌, ℕ, ◌+◌, ◌-◌, ◌*◌, ◌<◌, length, sym, ap, ◌∙◌, arith}
use Rattle.tf_model.specs.SchedulingTask.{job_data}
use Rattle.tf_schedule.specs.Amounts.{last_stop}
use Rattle.tf_schedule.specs.Cost.{known_pieces}
use Rattle.tf_schedule.specs.Stops.{total_to}
use Rattle.tf_schedule.proofs.Costing.{total_more, total_fits, stops_within}
use Rattle.tf_schedule.proofs.cost.with_block.Goals as goal

product : (r w w' c c' s t u : ℕ) → r ≡ w * c → w ≡ w' → c ≡ c' → s ≡ t → u ≡ t + w' * c'
    → s + r ≡ u
product r w w' c c' s t u d e f h i =
    ap (λ x. s + x) (d ∙ ap (λ x. x * c) e ∙ ap (λ x. w' * x) f) ∙ ap (λ x. x + w' * c') h ∙ sym i

-- the sum with the job of this turn
more : (g : _) (c : goal.After-weighted-sum g)
    → c.loop-i.sum + c.weighted-sum.result
    ≡ total_to c.args.task.now (known_pieces c.args.task.now c.args.pieces.now) (c.loop-i.i + 1)
more g c =
    let k = c.args.task.now in
    let qs = known_pieces k c.args.pieces.now in
    let i = c.loop-i.i in
    let here : c.args.first + (i - c.args.first) + 1 ≡ i + 1 = omega (arith, c.loop-i.auto.i) in
    product c.weighted-sum.result (job_data k c.at.result).weight (job_data k (i + 1)).weight _
    (last_stop qs (i + 1)) c.loop-i.sum (total_to k qs i) (total_to k qs (i + 1))
    c.weighted-sum.ensures (ap (λ j. (job_data k j).weight) c.at.ensures)
    (c.requires.stops (i - c.args.first)
    (omega (arith, c.loop-i-test.true, c.min-end.ensures, c.loop-i.auto.i))
    ∙ ap (last_stop qs) here)
    c.loop-i.invariant
    (total_more k (last_stop qs) i)

pub overflow_add-sum : goal.overflow_add-sum
overflow_add-sum g c =
    let inside : c.loop-i.i < length c.args.task.now.jobs =
    omega (arith, c.loop-i-test.true, c.min-end.ensures, c.len.ensures.value) in
    let fits = total_fits c.args.task.now
    (last_stop (known_pieces c.args.task.now c.args.pieces.now)) c.requires.task c.requires.class
    (stops_within c.args.task.now c.args.pieces.now c.requires.sound) (c.loop-i.i + 1)
    (omega (arith, inside)) in
    omega (arith, more g c, fits)

pub loop-i-preserved : goal.loop-i-preserved
loop-i-preserved g c = more g c
