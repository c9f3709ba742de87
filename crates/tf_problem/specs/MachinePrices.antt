-- The bound of sums by prices of the rows on one machine of a shop, where no job is preempted.
use Rattle.std.specs.Prelude.{ℕ, ◌+◌, ◌-◌, ◌*◌, ◌≤◌, ◌<◌, max, ℤ, pos, ◌-ℤ◌, List, length, sum, IsTrue, IsFalse}
use Rattle.std.specs.List.{range_with_len, sum_by}
use Rattle.tf_model.specs.ClassTable.{is_shop_env}
use Rattle.tf_check.specs.Bound.{least_number}
use Rattle.tf_posed.specs.ProblemData.{ProblemData, IsProblemSound, problem_jobs, problem_time_on, problem_release}
use Rattle.tf_posed.specs.ProblemCost.{penalty, IsLowerBound}
use Rattle.tf_problem.specs.ProblemBounds.{is_sum_goal, head, tail, problem_work, price_of_rows, share_up}

-- When a job completes at the earliest, if it starts on machine a in row s: after its time there and
-- its tail, and not before its time on all machines.
abbrev pub end_from : ProblemData → ℕ → ℕ → ℕ → ℕ
end_from k a j s =
    max (s + problem_time_on k j a + tail k a j) (problem_release k j + problem_work k j)

-- what it then costs: q times what it adds to the objective, and the prices of its rows on the machine
abbrev pub price_from : ProblemData → ℕ → ℕ → List ℕ → ℕ → ℕ → ℕ
price_from k a q prices j s =
    q * penalty k.problem.goal k j (end_from k a j s) + price_of_rows prices s (problem_time_on k j a)

-- The least of them from its head on. A start after the first one without a price costs no less.
abbrev pub cheapest_from : ProblemData → ℕ → ℕ → List ℕ → ℕ → ℕ
cheapest_from k a q prices j =
    least_number (price_from k a q prices j)
    (range_with_len (head k a j) (length prices - head k a j + 1))

-- what the jobs cost at least, less all prices, over q
abbrev pub machine_prices_value : ProblemData → ℕ → ℕ → List ℕ → ℤ
machine_prices_value k a q prices =
    share_up (pos (sum_by (cheapest_from k a q prices) (problem_jobs k)) -ℤ pos (sum prices)) q

-- any sum over the jobs of a shop, where none is preempted, whatever the conditions
abbrev pub MachinePricesLaw : Type 0
MachinePricesLaw = (k : ProblemData) → IsProblemSound k → IsTrue (is_shop_env k.problem.env)
    → IsFalse k.problem.prmp → IsTrue (is_sum_goal k.problem.goal) → (a : ℕ) → a < k.machines
    → (q : ℕ) → 1 ≤ q → (prices : List ℕ) → IsLowerBound k (machine_prices_value k a q prices)
