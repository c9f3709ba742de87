-- Where the makespan is the objective, a timetable costs its makespan.
use Rattle.std.proofs.Common.{◌≡◌, ℕ, ◌≤◌, pos, ◌≤ℤ◌, List, [], ◌∷◌, length, map, refl, ap, ◌∙◌, arith}
use Rattle.std.specs.List.{All}
use Rattle.std.proofs.lemmas.Int.{ints}
use Rattle.std.proofs.lemmas.List.Elements.{All-contains, All-tail}
use Rattle.std.proofs.lemmas.List.FromFn.{length-range_with_len}
use Rattle.tf_model.specs.Cost.{Makespan, objective_of, price_by, cost, cost_by}
use Rattle.tf_model.specs.SchedulingTask.{SchedulingTask, IsJob, all_jobs}
use Rattle.tf_model.specs.Sound.{IsSound}
use Rattle.tf_model.specs.Timetable.{Timetable, completion}
use Rattle.tf_model.specs.Prepare.{greatest_of}
use Rattle.tf_model.proofs.Costs.{All-all_jobs, greatest_price_reached}
use Rattle.tf_model.proofs.Loads.{price-le-cost, latest}
use Rattle.tf_schedule.proofs.Drawing.{makespan, greatest_of_range_ge}

greatest_of-map-le : (f : ℕ → ℕ) (v : ℕ) (xs : List ℕ) → All (λ x. f x ≤ v) xs
    → greatest_of (map f xs) ≤ v
greatest_of-map-le f v [] all = omega arith
greatest_of-map-le f v (x ∷ xs) all =
    omega (
      arith,
      all 0 x (omega arith),
      greatest_of-map-le f v xs (All-tail (λ y. f y ≤ v) x xs all),
    )

pub cost-makespan : (task : SchedulingTask) → IsSound task → objective_of task.class ≡ Makespan
    → (rows : Timetable) → cost task rows ≡ pos (makespan (length task.jobs) rows)
cost-makespan task sound by_makespan rows =
    let n : ℕ = length task.jobs in
    let most = greatest_price_reached task rows sound.some_job in
    let j : ℕ = most.0 in
    let dearest : cost task rows ≡ pos (completion rows j) =
    ap (λ o. cost_by o task rows) by_makespan ∙ most.2
    ∙ ap (λ o. price_by o task j (completion rows j)) by_makespan in
    let above : completion rows j ≤ makespan n rows =
    greatest_of_range_ge (completion rows) j 1 n most.1.0 (omega (arith, most.1.1)) in
    let last = latest rows (all_jobs task)
    (omega (arith, length-range_with_len 1 n, sound.some_job)) in
    let below : makespan n rows ≤ completion rows last.0 =
    greatest_of-map-le (completion rows) (completion rows last.0) (all_jobs task) last.2 in
    let priced : pos (completion rows last.0) ≤ℤ cost task rows =
    price-le-cost task rows last.0 Makespan by_makespan refl
    (All-contains (IsJob task) (all_jobs task) last.0
    (All-all_jobs task (IsJob task) (λ i h. h)) last.1) in
    omega (arith, ints)
