-- What a start on one machine of a shop costs, by the job's numbers.
use Rattle.std.specs.Prelude.{ℕ, ◌+◌, ◌-◌, ◌*◌, Bool, ℤ, List, length, max}
use Rattle.std.specs.List.{range_with_len}
use Rattle.tf_check.specs.Bound.{least_number}
use Rattle.tf_problem.specs.ProblemBounds.{price_of_rows}
use Rattle.tf_bound.specs.RowSums.{late_steps}

-- when a job completes at the earliest that starts there in row s
abbrev pub visit_end : ℕ → ℕ → ℕ → ℕ → ℕ
visit_end time tail earliest s = max (s + time + tail) earliest

-- how often it then pays its slope, and the prices of its rows
abbrev pub visit_price : List ℕ → ℕ → ℕ → ℕ → Bool → ℕ → ℤ → ℕ → ℕ
visit_price prices time tail earliest by_unit slope due s =
    slope * late_steps by_unit due (visit_end time tail earliest s) + price_of_rows prices s time

-- the least of them from its head on
abbrev pub cheapest_visit : List ℕ → ℕ → ℕ → ℕ → ℕ → Bool → ℕ → ℤ → ℕ
cheapest_visit prices head time tail earliest by_unit slope due =
    least_number (visit_price prices time tail earliest by_unit slope due)
    (range_with_len head (length prices - head + 1))
