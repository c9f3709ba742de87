-- What a job adds to a sum, as its weight so many times.
use Rattle.std.proofs.Common.{◌≡◌, Bool, false, ℕ, ◌+◌, ◌*◌, ◌^◌, ◌≤◌, ℤ, ◌||◌, nat_le, nat_lt, List, refl, sym, ap, ◌∙◌, arith, IsTrue}
use Rattle.std.proofs.lemmas.Bool.{false≢true, le-ltb}
use Rattle.tf_model.specs.Limit.{limit}
use Rattle.tf_model.specs.declared.problem.Goal.{Goal}
use Rattle.tf_model.specs.declared.problem.Goal.TheVariants as goals
use Rattle.tf_posed.specs.ProblemData.{ProblemData, problem_job, problem_time, problem_weight, problem_due, weight_by, due_by}
use Rattle.tf_posed.specs.ProblemCost.{penalty}
use Rattle.tf_problem.specs.ProblemBounds.{is_sum_goal, price_of_rows, start_price}
use Rattle.tf_bound.specs.RowSums.{late_steps}
use Rattle.tf_bound.specs.Faulted.{is_dear, last_start}
use Rattle.tf_bound.specs.Prices.{is_by_unit}

one_time : (x : ℕ) → x ≡ 1 * x
one_time x = omega arith

from_zero : (c : ℕ) → c ≡ c + 0
from_zero c = omega arith

-- in any sum over the jobs
pub penalty_is : (g : Goal) → IsTrue (is_sum_goal g) → (k : ProblemData) (j c : ℕ)
    → penalty g k j c ≡ weight_by g k j * late_steps (is_by_unit g) (due_by g k j) c
penalty_is goals.Cmax h k j c = absurd (false≢true h)
penalty_is goals.Lmax h k j c = absurd (false≢true h)
penalty_is goals.Hmax h k j c = absurd (false≢true h)
penalty_is goals.SumC h k j c = from_zero c ∙ one_time (c + 0)
penalty_is goals.SumWC h k j c = ap (λ x. (problem_job k j).weight * x) (from_zero c)
penalty_is goals.SumT h k j c = one_time (late_steps (is_by_unit goals.SumT) (due_by goals.SumT k j) c)
penalty_is goals.SumWT h k j c = refl
penalty_is goals.SumU h k j c = one_time (late_steps (is_by_unit goals.SumU) (due_by goals.SumU k j) c)
penalty_is goals.SumWU h k j c = refl

-- what a start costs by the job's numbers is what it costs the job
pub start_is : (k : ProblemData) (q : ℕ) (prices : List ℕ) (j : ℕ)
    → IsTrue (is_sum_goal k.problem.goal) → (time : ℕ) (by_unit : Bool) (slope : ℕ) (due : ℤ)
    → time ≡ problem_time k j → by_unit ≡ is_by_unit k.problem.goal → slope ≡ q * problem_weight k j
    → due ≡ problem_due k j → (s : ℕ)
    → slope * late_steps by_unit due (s + time) + price_of_rows prices s time
    ≡ start_price k q prices j s
start_is k q prices j sums time by_unit slope due lasts unit slopes dues s =
    let w : ℕ = problem_weight k j in
    let p : ℕ = problem_time k j in
    let steps : late_steps by_unit due (s + time)
    ≡ late_steps (is_by_unit k.problem.goal) (problem_due k j) (s + p) =
    ap (λ b. late_steps b due (s + time)) unit
    ∙ ap (λ d. late_steps (is_by_unit k.problem.goal) d (s + time)) dues
    ∙ ap (λ t. late_steps (is_by_unit k.problem.goal) (problem_due k j) (s + t)) lasts in
    let pays : q * penalty k.problem.goal k j (s + p)
    ≡ q * (w * late_steps (is_by_unit k.problem.goal) (problem_due k j) (s + p)) =
    ap (λ x. q * x) (penalty_is k.problem.goal sums k j (s + p)) in
    let same : slope * late_steps by_unit due (s + time)
    ≡ q * w * late_steps (is_by_unit k.problem.goal) (problem_due k j) (s + p) =
    ap (λ x. x * late_steps by_unit due (s + time)) slopes ∙ ap (λ x. q * w * x) steps in
    omega (arith, pays, same, ap (λ t. price_of_rows prices s t) lasts)

-- whether a job is dear, by its numbers, where it completes within the limit from its last start
pub dear_is : (k : ProblemData) (q : ℕ) (prices : List ℕ) (j : ℕ)
    → IsTrue (is_sum_goal k.problem.goal) → (time last weight : ℕ) (by_unit : Bool) (due : ℤ)
    → time ≡ problem_time k j → last ≡ last_start k prices j → weight ≡ problem_weight k j
    → by_unit ≡ is_by_unit k.problem.goal → due ≡ problem_due k j → last + time ≤ limit
    → (nat_le (2 ^ 64) (q * weight)
    || nat_lt limit (q * weight * late_steps by_unit due (last + time)))
    ≡ is_dear k q prices j
dear_is k q prices j sums time last weight by_unit due lasts at weighs unit dues within =
    let w : ℕ = problem_weight k j in
    let end : ℕ = last_start k prices j + problem_time k j in
    let pay : ℕ = q * penalty k.problem.goal k j end in
    let dear : Bool = nat_le (2 ^ 64) (q * w) || nat_lt limit pay in
    let late : late_steps by_unit due (last + time)
    ≡ late_steps (is_by_unit k.problem.goal) (problem_due k j) end = cc in
    let pays : pay
    ≡ q * (w * late_steps (is_by_unit k.problem.goal) (problem_due k j) end) =
    ap (λ x. q * x) (penalty_is k.problem.goal sums k j end) in
    let steps : q * w * late_steps by_unit due (last + time) ≡ pay =
    ap (λ x. q * w * x) late ∙ omega (arith, pays) in
    let over : nat_lt limit end ≡ false = le-ltb limit end (omega (arith, within, lasts, at)) in
    ap (λ x. nat_le (2 ^ 64) (q * x)
    || nat_lt limit (q * x * late_steps by_unit due (last + time))) weighs
    ∙ ap (λ n. nat_le (2 ^ 64) (q * w) || nat_lt limit n) steps
    ∙ ap (λ t. t || dear) (sym over)
