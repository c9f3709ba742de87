-- Sums of prices between two rows, and what rises with the completion.
use Rattle.std.proofs.Common.{◌≡◌, Bool, true, false, ℕ, ◌+◌, ◌*◌, ◌≤◌, ◌<◌, List, length, sum, min, slice_index, set, take, drop, sym, ap, ◌∙◌, ⊎_elim, arith, ℤ}
use Rattle.std.proofs.Math.Seq.{take-add}
use Rattle.std.proofs.lemmas.Bool.{cases_lt}
use Rattle.std.proofs.lemmas.List.{take_all, get_or-set_same, get_or-set_other}
use Rattle.std.proofs.lemmas.List.Sums.{sum_by-append, sum_by-take-le}
use Rattle.tf_model.specs.Limit.{limit}
use Rattle.tf_problem.specs.ProblemBounds.{price_of_rows}
use Rattle.tf_problem.proofs.Rising.{late-rises, unit-rises}
use Rattle.tf_bound.specs.RowSums.{AreSums, late_steps}

-- the prices of n rows from row s on lie between two sums
pub between : (prices : List ℕ) (s n : ℕ)
    → sum (take s prices) + price_of_rows prices s n ≡ sum (take (s + n) prices)
between prices s n =
    sym (sum_by-append (λ x. x) (take s prices) (take n (drop s prices)))
    ∙ sym (ap sum (take-add s n prices))

-- the sum before a row, where rows past the prices have the whole sum
pub sum_before : (prices sums : List ℕ) → AreSums prices sums → (t m : ℕ)
    → m ≡ min t (length prices) → slice_index sums m ≡ sum (take t prices)
sum_before prices sums are t m is =
    ⊎_elim
    (λ past. are.at m (omega arith)
    ∙ ap sum (take_all m prices (omega arith) ∙ sym (take_all t prices (omega arith))))
    (λ within. are.at m (omega arith) ∙ ap (λ z. sum (take z prices)) (omega arith))
    (cases_lt (length prices) t)

-- no job gets cheaper by being late
pub late_steps-rises : (by_unit : Bool) (due : ℤ) (c e : ℕ) → c ≤ e
    → late_steps by_unit due c ≤ late_steps by_unit due e
late_steps-rises true due c e le = unit-rises c e due le
late_steps-rises false due c e le = late-rises c e due le

-- the prices of a job's rows are the difference of two sums, which are within the limit
pub of_rows : (prices sums : List ℕ) → AreSums prices sums → (s n a b : ℕ)
    → a ≡ min s (length prices) → b ≡ min (s + n) (length prices)
    → (slice_index sums a + price_of_rows prices s n ≡ slice_index sums b)
    × (slice_index sums b ≤ limit)
of_rows prices sums are s n a b first last =
    let from : slice_index sums a ≡ sum (take s prices) = sum_before prices sums are s a first in
    let to : slice_index sums b ≡ sum (take (s + n) prices) =
    sum_before prices sums are (s + n) b last in (
      omega (arith, from, to, between prices s n),
      omega (arith, to, sum_by-take-le (λ x. x) prices (s + n), are.small),
    )

-- with one sum more
pub sums_more : (prices sums : List ℕ) (row total : ℕ) → row < length prices
    → length sums ≡ length prices + 1 → total ≡ sum (take (row + 1) prices)
    → ((t : ℕ) → t ≤ row → slice_index sums t ≡ sum (take t prices))
    → (t : ℕ) → t ≤ row + 1 → slice_index (set sums (row + 1) total) t ≡ sum (take t prices)
sums_more prices sums row total lt len is before t le =
    ⊎_elim
    (λ early. get_or-set_other sums (row + 1) t total 0 (λ e. omega (arith, e, early))
    ∙ before t (omega arith))
    (λ last.
    let same : t ≡ row + 1 = omega (arith, le, last) in
    ap (slice_index (set sums (row + 1) total)) same
    ∙ get_or-set_same sums (row + 1) total 0 (omega (arith, len, lt)) ∙ is
    ∙ sym (ap (λ n. sum (take n prices)) same))
    (cases_lt t (row + 1))

-- what a start costs
abbrev pub paid_at : List ℕ → ℕ → Bool → ℕ → ℤ → ℕ → ℕ
paid_at prices time by_unit slope due s =
    slope * late_steps by_unit due (s + time) + price_of_rows prices s time

-- with one start more
pub one_more : (P : ℕ → ℕ) (low start old best here : ℕ)
    → ((s : ℕ) → low ≤ s → s < start → old ≤ P s) → best ≤ old → best ≤ here → here ≡ P start
    → (s : ℕ) → low ≤ s → s < start + 1 → best ≤ P s
one_more P low start old best here so_far falls within is s from below =
    ⊎_elim
    (λ before. omega (arith, so_far s from before, falls))
    (λ last. let same : start ≡ s = omega arith in omega (arith, within, is, ap P same))
    (cases_lt s start)
