-- The bound by some jobs on one machine, the only one or one of a shop.
use Rattle.std.proofs.Common.{ℕ, ◌+◌, ◌-◌, ◌*◌, ◌≤◌, ◌<◌, List, ◌==◌, length, get_or, slice_index, slice_index_or, take, drop, cond, arith, sum_by, All, Contains, ℤ, pos, ◌+ℤ◌, ◌-ℤ◌, ◌≤ℤ◌, IsTrue, length-take, length-drop}
use Rattle.std.proofs.lemmas.Int.{ints}
use Rattle.std.proofs.lemmas.List.Elements.{All-contains}
use Rattle.tf_model.specs.Timetable.{Row, Timetable, units, completion}
use Rattle.tf_model.proofs.Sums.{sum_by_le_all}
use Rattle.tf_model.proofs.Work.{IsDistinct, work-le-rows}
use Rattle.tf_model.proofs.Split.{take_cell}
use Rattle.tf_check.specs.Bound.{least_number, least}
use Rattle.tf_posed.specs.ProblemData.{ProblemData, IsProblemSound, IsProblemJob, problem_time_on, problem_due}
use Rattle.tf_posed.specs.FitsProblem.{FitsProblem}
use Rattle.tf_posed.specs.ProblemCost.{problem_cost, IsLowerBound}
use Rattle.tf_problem.specs.ProblemBounds.{head, tail, machine_value, is_by_machine, is_max_goal}
use Rattle.tf_problem.proofs.ProblemLists.{units_before, units_from, last_by}
use Rattle.tf_problem.proofs.Least.{least_number-le, least-le, late-le-cost}
use Rattle.tf_problem.proofs.Routes.{units-on, head-le-row, tail-after-row, route-le-completion}

module _ (k : ProblemData) (sound : IsProblemSound k) (by : IsTrue (is_by_machine k.problem.env)) where
  -- some job of a list completes only after the least head, all their time on the machine, and its
  -- tail
  pub machine-le-last : (rows : Timetable) → FitsProblem k rows → (a : ℕ) → a < k.machines
      → (jobs : List ℕ) → IsDistinct jobs → All (IsProblemJob k) jobs → 0 < length jobs
      → (r : ℕ) → All (λ j. r ≤ head k a j) jobs
      → (l : ℕ) × Contains jobs l
      × (r + sum_by (λ j. problem_time_on k j a) jobs + tail k a l ≤ completion rows l)
  machine-le-last rows fits a in' jobs distinct known some r early =
      let over : ℕ → ℕ = λ j. completion rows j - tail k a j in
      let last = last_by over jobs some in
      let l : ℕ = last.0 in
      let e : ℕ = over l in
      let part : Timetable = drop r (take e rows) in
      let at : ℕ → Row → ℕ = λ j row. cond (slice_index row a == j) 1 0 in
      let work : sum_by (λ j. sum_by (at j) part) jobs ≤ length part * 1 =
      work-le-rows at 1 jobs part (λ t d h. distinct (slice_index (slice_index_or part t d) a)) in
      let each : All (λ j. problem_time_on k j a ≤ sum_by (at j) part) jobs =
      λ i d h. within e (get_or jobs i d) (known i d h) (early i d h) (last.2 i d h) in
      let asked : sum_by (λ j. problem_time_on k j a) jobs ≤ sum_by (λ j. sum_by (at j) part) jobs =
      sum_by_le_all (λ j. problem_time_on k j a) (λ j. sum_by (at j) part) jobs each in
      let whole : (j : ℕ) → IsProblemJob k j → head k a j + tail k a j ≤ completion rows j =
      λ j h. omega (arith, route-le-completion k sound rows fits by j h a) in
      let job : IsProblemJob k l = All-contains (IsProblemJob k) jobs l known last.1 in
      let early_l : r ≤ head k a l = All-contains (λ j. r ≤ head k a j) jobs l early last.1 in (
        l,
        last.1,
        omega (
          arith,
          work,
          asked,
          length-drop r (take e rows),
          length-take e rows,
          whole l job,
          early_l,
        ),
      )
    where
      within : (e j : ℕ) → IsProblemJob k j → r ≤ head k a j → completion rows j - tail k a j ≤ e
          → problem_time_on k j a ≤ units (drop r (take e rows)) j a
      within e j h from to =
          omega (
            arith,
            units-on k sound rows fits by j h a in',
            units_before rows j a e
                (λ s c. omega (
                  arith,
                  to,
                  tail-after-row k sound rows fits by j h a s in' c,
                )),
            units_from (take e rows) j a r
                (λ s c. omega (
                  arith,
                  from,
                  head-le-row k sound rows fits by j h a s in'
                      (take_cell e rows s a j h.0 c),
                )),
          )

  -- the makespan, or the greatest lateness
  pub machine-bound : IsTrue (is_max_goal k.problem.goal) → (a : ℕ) → a < k.machines
      → (jobs : List ℕ) → IsDistinct jobs → All (IsProblemJob k) jobs → 0 < length jobs
      → IsLowerBound k (machine_value k a jobs)
  machine-bound max a in' jobs distinct known some rows fits =
      let r : ℕ = least_number (head k a) jobs in
      let f : ℕ → ℤ = λ j. pos (tail k a j) -ℤ problem_due k j in
      let last = machine-le-last rows fits a in' jobs distinct known some r
      (least_number-le (head k a) jobs) in
      let l : ℕ = last.0 in
      let p : ℕ = sum_by (λ j. problem_time_on k j a) jobs in
      let job : IsProblemJob k l = All-contains (IsProblemJob k) jobs l known last.1 in
      let rest : least f jobs ≤ℤ f l =
      All-contains (λ j. least f jobs ≤ℤ f j) jobs l (least-le f jobs) last.1 in
      chain (r + p) (tail k a l) (problem_due k l) (least f jobs) (problem_cost k rows) rest
      (late-le-cost k rows max l job (r + p + tail k a l) last.2)
    where
      chain : (w t : ℕ) (d m o : ℤ) → m ≤ℤ (pos t -ℤ d) → (pos (w + t) -ℤ d) ≤ℤ o
          → (pos w +ℤ m) ≤ℤ o
      chain w t d m o p s = omega (arith, ints)
