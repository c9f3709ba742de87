use mir.Val.{SFits}
use mir.Syntax.{w128}
use Rattle.std.proofs.Common.{rules, ◌≡◌, ◌*◌, ◌<◌, ◌≤◌, ℕ, ℤ, ◌≤ℤ◌, pos, List, length, get_or, sym, ap, subst, ◌∙◌, arith, IsTrue}
use Rattle.std.specs.Bool.{IsFalse}
use Rattle.std.specs.List.{All}
use Rattle.std.proofs.lemmas.Int.{ints, to_z_pos, to_z-of_z}
use Rattle.tf_model.specs.ClassTable.{is_sum}
use Rattle.tf_model.specs.Cost.{cost, greatest_price, price}
use Rattle.tf_model.specs.SchedulingTask.{SchedulingTask, IsJob, job_data}
use Rattle.tf_model.specs.Timetable.{completion}
use Rattle.tf_model.proofs.Costs.{price-le-greatest, greatest_price_reached}
use Rattle.tf_schedule.specs.declared.piece.Piece.{Piece}
use Rattle.tf_schedule.specs.Drawing.{drawing}
use Rattle.tf_schedule.specs.Lanes.{LanesData, HasLanes, stop_in}
use Rattle.tf_schedule.specs.Misfit.{IsKnown}
use Rattle.tf_schedule.specs.Schedule.{IsSchedule}
use Rattle.tf_schedule.specs.Stops.{total_of}
use Rattle.tf_schedule.proofs.Costing.{same_both, total_fits}
use Rattle.tf_schedule.proofs.Counting.{sum_range-same}
use Rattle.tf_schedule.proofs.Drawing.{completion-drawing}
use Rattle.tf_schedule.proofs.OnLanes.{stop_is}
use Rattle.tf_schedule.proofs.Prices.{sum_cost, other_cost}
use Rattle.tf_schedule.proofs.Times.{sound_times}
use Rattle.tf_schedule.proofs.cost.cost_in.Goals as goal

module _ (k : SchedulingTask) (ps : List Piece) (schedule : IsSchedule ps)
    (known : All (IsKnown k) ps) (l : LanesData)
    (has : HasLanes (length k.jobs) ps l) where
  -- a job completes at its last stop by the table
  ends : (j : ℕ) → 1 ≤ j → j ≤ length k.jobs → stop_in l j ≡ completion (drawing k.machines ps) j
  ends j low high =
      stop_is (length k.jobs) ps l has j low high
      ∙ sym (completion-drawing k.machines ps j schedule.none_twice (λ i d h. (known i d h).1)
      (λ i d h. sound_times (get_or ps i d) (schedule.sound i d h)) low)

  sum_is : IsTrue (is_sum k.class) → (total : ℕ) → total ≡ total_of k (stop_in l) (length k.jobs)
      → pos total ≡ cost k (drawing k.machines ps)
  sum_is sum total is =
      ap pos (is ∙ sum_range-same (λ j. (job_data k j).weight * stop_in l j)
      (λ j. (job_data k j).weight * completion (drawing k.machines ps) j) 1 (length k.jobs)
      (λ j low high. ap (λ c. (job_data k j).weight * c) (ends j low (omega (arith, high)))))
      ∙ sym (sum_cost k (drawing k.machines ps) sum)

  greatest_is : IsFalse (is_sum k.class) → 1 ≤ length k.jobs → (v : ℤ)
      → ((j : ℕ) → IsJob k j → price k j (stop_in l j) ≤ℤ v)
      → (j : ℕ) × IsJob k j × (v ≡ price k j (stop_in l j)) → v ≡ cost k (drawing k.machines ps)
  greatest_is other some v all (j, job, reached) =
      let rows = drawing k.machines ps in
      let (i, job_i, at) = greatest_price_reached k rows some in
      let below : v ≤ℤ greatest_price k rows =
      subst (λ (z : ℤ). z ≤ℤ greatest_price k rows)
      (sym (reached ∙ ap (price k j) (ends j job.0 job.1))) (price-le-greatest k rows j job) in
      let above : greatest_price k rows ≤ℤ v =
      subst (λ (z : ℤ). z ≤ℤ v) (sym (at ∙ ap (price k i) (sym (ends i job_i.0 job_i.1)))) (all i job_i) in
      same_both v (greatest_price k rows) below above ∙ sym (other_cost k rows other)

is_sum_class : (g : _) (c : goal.After-total_by g) → IsTrue (is_sum c.args.task.now.class)
is_sum_class g c =
    ap is_sum (sym c.class.ensures.class) ∙ sym c.is_sum.ensures ∙ c.if-is_sum.true

total_is : (g : _) (c : goal.After-total_by g)
    → c.total_by.result
    ≡ total_of c.args.task.now (stop_in c.args.lanes.now) (length c.args.task.now.jobs)
total_is g c = rw c.extents.ensures at c.total_by.ensures

small : (g : _) (c : goal.After-total_by g)
    → c.total_by.result ≤ 16000000000000000000000000000000000000
small g c =
    omega (
      arith,
      total_is g c,
      total_fits c.args.task.now (stop_in c.args.lanes.now) c.class.ensures.sound (is_sum_class g c)
          c.requires.stops (length c.args.task.now.jobs) (omega arith),
    )

pub overflow_cast-result : goal.overflow_cast-result
overflow_cast-result g c = omega (arith, ints, small g c)

pub returns-then-is_sum : goal.returns-then-is_sum
returns-then-is_sum g c ps schedule known has =
    let low : c.total_by.result < 170141183460469231731687303715884105728 =
    omega (arith, small g c) in
    to_z_pos w128 c.total_by.result low
    ∙ sum_is c.args.task.now ps schedule known c.args.lanes.now has (is_sum_class g c)
    c.total_by.result (total_is g c)

pub returns-else-is_sum : goal.returns-else-is_sum
returns-else-is_sum g c ps schedule known has =
    let other : IsFalse (is_sum c.args.task.now.class) = ap is_sum (sym c.class.ensures.class)
    ∙ sym c.is_sum.ensures ∙ c.if-is_sum.false in
    let fits : SFits w128 c.greatest_by.result = search rules in
    to_z-of_z w128 c.greatest_by.result fits
    ∙ greatest_is c.args.task.now ps schedule known c.args.lanes.now has other
    c.class.ensures.sound.some_job c.greatest_by.result
    (rw c.extents-else-is_sum.ensures at c.greatest_by.ensures.all)
    (rw c.extents-else-is_sum.ensures at c.greatest_by.ensures.reached)
