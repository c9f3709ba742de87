-- Johnson's rule: the split at the turning place reaches the end of the line, and so the answer is
-- accepted.
use Rattle.std.proofs.Common.{IsTrue, ◌≡◌, ◌≢◌, ℕ, ◌+◌, ◌<◌, ◌≤◌, pos, true, false, Ok, List, length, get_or, take, drop, refl, sym, ap, ◌∙◌, arith}
use Rattle.std.specs.List.{AllPairs, sum_by}
use Rattle.std.specs.List.Sorted.{IsPermutation}
use Rattle.std.proofs.lemmas.Int.{ints}
use Rattle.std.proofs.lemmas.List.{take-append-drop}
use Rattle.std.proofs.lemmas.List.Sums.{sum_by_more, sum_by-append, sum_by-take-le}
use Rattle.tf_model.specs.ClassTable.{is_flow}
use Rattle.tf_model.specs.Cost.{cost}
use Rattle.tf_model.specs.Limit.{limit}
use Rattle.tf_model.specs.SchedulingTask.{SchedulingTask, all_jobs}
use Rattle.tf_model.specs.Sound.{IsSound}
use Rattle.tf_model.proofs.Classes.{flow_is_shop, shop_by_makespan}
use Rattle.tf_schedule.specs.declared.semi_active.Operation.{Operation}
use Rattle.tf_schedule.specs.Drawing.{drawing, greatest_stop}
use Rattle.tf_schedule.specs.Schedule.{IsSchedule}
use Rattle.tf_schedule.specs.SemiActive.{laid}
use Rattle.tf_schedule.proofs.LaidFits.{IsListed, laid_cost}
use Rattle.tf_model.proofs.Sums.{sum_by-plus}
use Rattle.std.proofs.lemmas.List.Sorted.{IsPermutation-refl, sum_by-IsPermutation}
use Rattle.tf_check.specs.Accepted.{IsAccepted}
use Rattle.tf_check.specs.Bound.{bound_by, split_bound}
use Rattle.tf_check.specs.Claim.{Claim}
use Rattle.tf_check.proofs.Given.{flow_takes_split}
use Rattle.tf_check.proofs.LaidAccepted.{laid_accepted}
use Rattle.tf_multi.specs.Johnson.{MayPrecede, line_end}
use Rattle.tf_multi.specs.TwoMachines.{time_at, in_line}
use Rattle.tf_multi.proofs.FlowShop.{ByMachine, flow_listed, flow_fits, flow_stop, flow_schedule}
use Rattle.tf_multi.proofs.Numbers.{apart_in_order}
use Rattle.tf_multi.proofs.Splitting.{split_first, split_second}
use Rattle.tf_multi.proofs.Turning.{firsts, seconds}

-- ---- the split

sum_parts : (f : ℕ → ℕ) (s : ℕ) (xs : List ℕ)
    → sum_by f (take s xs) + sum_by f (drop s xs) ≡ sum_by f xs
sum_parts f s xs = sym (sum_by-append f (take s xs) (drop s xs))
    ∙ ap (sum_by f) (take-append-drop s xs)

sum_next : (f : ℕ → ℕ) (s x : ℕ) (xs : List ℕ) → s < length xs → x ≡ get_or xs s x
    → sum_by f (take (s + 1) xs) ≡ sum_by f (take s xs) + f x
sum_next f s x xs h is = sum_by_more f xs s x h ∙ ap (λ y. sum_by f (take s xs) + f y) (sym is)

module _ (task : SchedulingTask) (flow : IsTrue (is_flow task.class)) (order : List ℕ)
    (whole : IsPermutation (all_jobs task) order)
    (in_order : AllPairs (MayPrecede (time_at task)) order)
    (end late x : ℕ) (h : late < length order) (is : x ≡ get_or order late x)
    (ends : end + seconds (time_at task) (take late order)
    ≡ firsts (time_at task) (take (late + 1) order) + seconds (time_at task) order) where
  first_next : firsts (time_at task) (take (late + 1) order)
      ≡ firsts (time_at task) (take late order) + time_at task x 1
  first_next = sum_next (λ j. time_at task j 1) late x order h is

  second_next : seconds (time_at task) (take (late + 1) order)
      ≡ seconds (time_at task) (take late order) + time_at task x 2
  second_next = sum_next (λ j. time_at task j 2) late x order h is

  -- the job at the place is no longer than the line
  pub turn_within : time_at task x 1 + time_at task x 2 ≤ end
  turn_within = omega (
    arith,
    ends,
    first_next,
    second_next,
    sum_by-take-le (λ j. time_at task j 2) order (late + 1),
  )

  pub certified_first : (side : List ℕ) → IsPermutation (take late order) side
      → time_at task x 1 ≤ time_at task x 2
      → split_bound task side (pos (time_at task x 1)) true ≡ Ok (pos end)
  certified_first side is_side short =
      let value : firsts (time_at task) (take late order) + seconds (time_at task) (drop late order)
      + time_at task x 1 ≡ end =
      omega (arith, ends, sum_parts (λ j. time_at task j 2) late order, first_next) in
      split_first task order side (flow_takes_split task.class flow) whole in_order late is_side x h
      is short
      ∙ ap (λ v. Ok (pos v)) value

  pub certified_second : (side : List ℕ) → IsPermutation (take (late + 1) order) side
      → time_at task x 2 < time_at task x 1
      → split_bound task side (pos (time_at task x 2)) false ≡ Ok (pos end)
  certified_second side is_side long =
      let value : firsts (time_at task) (take (late + 1) order) + seconds (time_at task)
      (drop (late + 1) order) + time_at task x 2 ≡ end =
      omega (arith, ends, sum_parts (λ j. time_at task j 2) (late + 1) order, second_next) in
      split_second task order side (flow_takes_split task.class flow) whole in_order (late + 1)
      is_side late x refl h is long
      ∙ ap (λ v. Ok (pos v)) value

-- ---- the answer

module _ (task : SchedulingTask) (sound : IsSound task) (flow : IsTrue (is_flow task.class))
    (order : List ℕ)
    (whole : IsPermutation (all_jobs task) order) where
  apart : AllPairs (λ i j. i ≢ j) order
  apart = apart_in_order task order whole

  abbrev os : List Operation
  os = in_line (time_at task) order

  listed : IsListed ByMachine task os
  listed = flow_listed task sound flow order whole apart

  -- the work on both machines is within the limit
  pub line_total : firsts (time_at task) order + seconds (time_at task) order ≤ limit
  line_total = omega (
    arith,
    sum_by-plus (λ j. time_at task j 1) (λ j. time_at task j 2) order,
    sum_by-IsPermutation (λ j. time_at task j 1 + time_at task j 2) (all_jobs task) order whole,
    sound.total,
  )

  pub line_schedule : IsSchedule (laid os)
  line_schedule = flow_schedule task sound flow order whole apart

  -- a certificate that shows the end of the line
  pub line_accepted : AllPairs (MayPrecede (time_at task)) order → (v : ℕ) → v ≡ line_end (time_at task) 0 0 order → (claim : Claim)
      → bound_by claim task ≡ Ok (pos v)
      → IsAccepted task (record { pieces = laid os; value = pos v; certificate = claim })
  line_accepted in_order v is claim bounded =
      let stop = flow_stop task sound flow order whole apart in_order in
      let price : cost task (drawing task.machines (laid os)) ≡ pos (greatest_stop (laid os)) =
      laid_cost ByMachine task os sound listed
      (shop_by_makespan task.class (flow_is_shop task.class flow)) in
      laid_accepted ByMachine task os sound listed (laid os) (IsPermutation-refl (laid os))
      (flow_fits task sound flow order whole apart) (pos v) claim bounded
      (omega (arith, ints, price, stop, is))
