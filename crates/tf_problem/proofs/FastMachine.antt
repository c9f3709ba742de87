-- Weighted completions on identical machines against one machine that is as fast as all of them
-- (Eastman, Even and Isaacs 1964), with preemption.
use Rattle.std.proofs.Common.{◌≡◌, ℕ, ◌+◌, ◌*◌, min, ◌≤◌, List, [], ◌∷◌, ◌==◌, cond, ap, ◌∙◌, ⊎_elim, arith, sum_by, All, Contains, mul-le-mul_left, mul-le-mul_right}
use Rattle.std.proofs.lemmas.Bool.{eq-eqb, ne_eqb, cases_eq, cases_lt}
use Rattle.std.proofs.lemmas.List.Elements.{All-head, All-tail, All-weaker, All-contains_itself}
use Rattle.std.proofs.lemmas.Map.Made.{Contains-tail}
use Rattle.tf_model.specs.Timetable.{Timetable, cells_of, all_units, completion}
use Rattle.tf_model.specs.Bounds.{pair_sum}
use Rattle.tf_model.proofs.Sums.{sum_by_le_all, sum_by-plus, sum_by-times, sum_by-zero_terms}
use Rattle.tf_model.proofs.PairSums.{sum_by-square, pair_sum_le}
use Rattle.tf_problem.proofs.Middles.{middles, met, met-two, met-le-middles, middles-le-completion}

-- ---- products

abbrev product : (ℕ → ℕ) → List ℕ → ℕ
product f [] = 1
product f (x ∷ xs) = f x * product f xs

-- the product over all but one
abbrev without : (ℕ → ℕ) → List ℕ → ℕ → ℕ
without f [] j = 1
without f (x ∷ xs) j = cond (x == j) (product f xs) (f x * without f xs j)

without-says : (f : ℕ → ℕ) (xs : List ℕ) (j : ℕ) → Contains xs j
    → without f xs j * f j ≡ product f xs
without-says f [] j at = absurd (omega (arith, at.1))
without-says f (x ∷ xs) j at =
    ⊎_elim
    (λ same.
    ap (λ t. cond t (product f xs) (f x * without f xs j) * f j) (eq-eqb x j same)
    ∙ swap (product f xs) (f j) (f x) (ap f same))
    (λ differ.
    ap (λ t. cond t (product f xs) (f x * without f xs j) * f j) (ne_eqb x j differ)
    ∙ more (f x) (without f xs j) (f j) (product f xs)
    (without-says f xs j (Contains-tail x xs j differ at)))
    (cases_eq x j)
  where
    swap : (a b c : ℕ) → c ≡ b → a * b ≡ c * a
    swap a b c e = omega (arith, ap (λ y. a * y) e)

    more : (a b c d : ℕ) → b * c ≡ d → a * b * c ≡ a * d
    more a b c d e = omega (arith, ap (λ y. a * y) e)

times_some : (a b : ℕ) → 1 ≤ a → 1 ≤ b → 1 ≤ a * b
times_some a b h i = let up : a * 1 ≤ a * b = mul-le-mul_left a i in omega (arith, up)

product_some : (f : ℕ → ℕ) (xs : List ℕ) → All (λ x. 1 ≤ f x) xs → 1 ≤ product f xs
product_some f [] all = omega arith
product_some f (x ∷ xs) all =
    times_some (f x) (product f xs) (All-head (λ y. 1 ≤ f y) x xs all)
    (product_some f xs (All-tail (λ y. 1 ≤ f y) x xs all))

cancel : (d a b : ℕ) → 1 ≤ d → d * a ≤ d * b → a ≤ b
cancel d a b some le =
    ⊎_elim
    (λ more. let up : d * (b + 1) ≤ d * a = mul-le-mul_left d (omega (arith, more)) in
    absurd (omega (arith, up)))
    (λ h. h)
    (cases_lt b a)

pair_sum-times : (d : ℕ) (g : ℕ → ℕ → ℕ) (xs : List ℕ)
    → pair_sum (λ j i. d * g j i) xs ≡ d * pair_sum g xs
pair_sum-times d g [] = omega arith
pair_sum-times d g (x ∷ xs) =
    let rest = pair_sum-times d g xs in
    let here : sum_by (λ i. d * g x i) xs ≡ d * sum_by (g x) xs = sum_by-times d (g x) xs in
    omega (arith, rest, here)

-- ---- two jobs

ratio-le : (u w p r e g d : ℕ) → e * p ≡ d → g * r ≡ d → 1 ≤ p → 1 ≤ r → u * r ≤ w * p
    → u * e ≤ w * g
ratio-le u w p r e g d ep gr some one le =
    ⊎_elim
    (λ more.
    let up : (w * g + 1) * (p * r) ≤ u * e * (p * r) = mul-le-mul_right (p * r) (omega (arith, more)) in
    let left : w * p * (g * r) ≡ w * p * d = ap (λ x. w * p * x) gr in
    let right : u * r * (e * p) ≡ u * r * d = ap (λ x. u * r * x) ep in
    let both : u * r * d ≤ w * p * d = mul-le-mul_right d le in
    absurd (omega (arith, up, left, right, both, times_some p r some one)))
    (λ h. h)
    (cases_lt (w * g) (u * e))

one_side : (u w p r e g d x y : ℕ) → e * p ≡ d → g * r ≡ d → 1 ≤ p → 1 ≤ r
    → x + y ≡ 2 * (r * p) → u * r ≤ w * p → 2 * d * (u * r) ≤ u * e * x + w * g * y
one_side u w p r e g d x y ep gr some one both le =
    let up : u * e * y ≤ w * g * y = mul-le-mul_right y (ratio-le u w p r e g d ep gr some one le) in
    let all : u * e * (x + y) ≡ u * e * (2 * (r * p)) = ap (λ z. u * e * z) both in
    let at : u * r * (e * p) ≡ u * r * d = ap (λ z. u * r * z) ep in
    omega (arith, up, all, at)

-- of two jobs the one of the lesser ratio of weight to time meets, weighed so, as much as both together
pair-meets : (u w p r e g d x y : ℕ) → e * p ≡ d → g * r ≡ d → 1 ≤ p → 1 ≤ r
    → x + y ≡ 2 * (r * p) → 2 * d * min (u * r) (w * p) ≤ u * e * x + w * g * y
pair-meets u w p r e g d x y ep gr some one both =
    ⊎_elim
    (λ more. let is : min (u * r) (w * p) ≡ w * p = omega (arith, more) in
    omega (
      arith,
      ap (λ z. 2 * d * z) is,
      one_side w u r p g e d y x gr ep one some (omega (arith, both)) (omega (arith, more)),
    ))
    (λ le. let is : min (u * r) (w * p) ≡ u * r = omega (arith, le) in
    omega (arith, ap (λ z. 2 * d * z) is, one_side u w p r e g d x y ep gr some one both le))
    (cases_lt (w * p) (u * r))

-- ---- all jobs

pub record IsDone (rows : Timetable) (p : ℕ → ℕ) (j : ℕ) : Type 0 where
  pub units : all_units rows j ≡ p j
  pub some : 1 ≤ p j
  pub once : All (λ row. cells_of j row ≤ 1) rows

module _ (m : ℕ) (jobs : List ℕ) (rows : Timetable) (p : ℕ → ℕ)
    (room : All (λ row. sum_by (λ i. cells_of i row) jobs ≤ m) rows)
    (all : (j : ℕ) → Contains jobs j → IsDone rows p j) (u : ℕ → ℕ) where
  abbrev d : ℕ
  d = product p jobs

  abbrev e : ℕ → ℕ
  e = without p jobs

  abbrev f : ℕ → ℕ → ℕ
  f j i = u j * e j * met 0 rows j i

  job-meets : (j : ℕ) → Contains jobs j
      → sum_by (f j) jobs + m * d * (u j * p j) ≤ 2 * m * d * (u j * completion rows j)
  job-meets j at =
      let its : IsDone rows p j = all j at in
      let meets : sum_by (met 0 rows j) jobs ≤ m * middles 0 rows j =
      met-le-middles m jobs rows room (λ _. 0) 0 (omega (arith, sum_by-zero_terms jobs)) j in
      by_time (u j) (e j) (p j) (completion rows j) (middles 0 rows j) (sum_by (met 0 rows j) jobs) d
      (sum_by (f j) jobs) (without-says p jobs j at) meets
      (ends (all_units rows j) (p j) its.units (middles-le-completion rows j its.once 0))
      (sum_by-times (u j * e j) (met 0 rows j) jobs)
    where
      ends : (t q : ℕ) → t ≡ q
          → middles 0 rows j + t * t ≤ 2 * (t * (0 + completion rows j))
          → middles 0 rows j + q * q ≤ 2 * (q * completion rows j)
      ends t q is h =
          omega (arith, h, ap (λ x. x * x) is, ap (λ x. x * completion rows j) is)

      by_time : (u e p c n s d a : ℕ) → e * p ≡ d → s ≤ m * n → n + p * p ≤ 2 * (p * c)
          → a ≡ u * e * s → a + m * d * (u * p) ≤ 2 * m * d * (u * c)
      by_time u e p c n s d a ep meets ends is =
          let whole : m * (n + p * p) ≤ m * (2 * (p * c)) = mul-le-mul_left m ends in
          let up : u * e * (s + m * (p * p)) ≤ u * e * (m * (2 * (p * c))) =
          mul-le-mul_left (u * e) (omega (arith, whole, meets)) in
          omega (
            arith,
            is,
            up,
            ap (λ x. u * m * p * x) ep,
            ap (λ x. u * m * c * x) ep,
          )

  self-meets : (j : ℕ) → Contains jobs j → d * (u j * p j) ≤ f j j
  self-meets j at =
      by_time (u j) (e j) (p j) (all_units rows j) d (met 0 rows j j) (without-says p jobs j at)
      (all j at).units (met-two rows j j)
    where
      by_time : (u e p t d x : ℕ) → e * p ≡ d → t ≡ p → x + x ≡ 2 * (t * t)
          → d * (u * p) ≤ u * e * x
      by_time u e p t d x ep is both =
          let at : x ≡ p * p = omega (arith, both, ap (λ y. y * y) is) in
          omega (arith, ap (λ y. u * e * y) at, ap (λ y. u * p * y) ep)

  two-meet : (j i : ℕ) → Contains jobs j → Contains jobs i
      → 2 * d * min (u j * p i) (u i * p j) ≤ f j i + f i j
  two-meet j i at in' =
      pair-meets (u j) (u i) (p j) (p i) (e j) (e i) d (met 0 rows j i) (met 0 rows i j)
      (without-says p jobs j at) (without-says p jobs i in') (all j at).some (all i in').some
      (times (all_units rows i) (all_units rows j) (p i) (p j) (met 0 rows j i + met 0 rows i j)
      (all i in').units (all j at).units (met-two rows j i))
    where
      times : (a b q r x : ℕ) → a ≡ q → b ≡ r → x ≡ 2 * (a * b) → x ≡ 2 * (q * r)
      times a b q r x g h is = omega (arith, is, ap (λ y. y * b) g, ap (λ y. q * y) h)

  -- weighted completions on m machines are at least those on one machine that is m times as fast, and
  -- (m - 1) / (2 m) of the weighted times; here times 2 m
  pub fast-le-weighted :
      2 * pair_sum (λ j i. min (u j * p i) (u i * p j)) jobs + (m + 1) * sum_by (λ j. u j * p j) jobs
      ≤ 2 * m * sum_by (λ j. u j * completion rows j) jobs
  fast-le-weighted =
      let in' : All (Contains jobs) jobs = All-contains_itself jobs in
      let least : ℕ → ℕ → ℕ = λ j i. min (u j * p i) (u i * p j) in
      let each : sum_by (λ j. sum_by (f j) jobs + m * d * (u j * p j)) jobs
      ≤ sum_by (λ j. 2 * m * d * (u j * completion rows j)) jobs =
      sum_by_le_all (λ j. sum_by (f j) jobs + m * d * (u j * p j))
      (λ j. 2 * m * d * (u j * completion rows j)) jobs
      (All-weaker (Contains jobs)
      (λ j. sum_by (f j) jobs + m * d * (u j * p j) ≤ 2 * m * d * (u j * completion rows j)) job-meets jobs
      in') in
      let own : sum_by (λ j. d * (u j * p j)) jobs ≤ sum_by (λ j. f j j) jobs =
      sum_by_le_all (λ j. d * (u j * p j)) (λ j. f j j) jobs
      (All-weaker (Contains jobs) (λ j. d * (u j * p j) ≤ f j j) self-meets jobs in') in
      let pairs : pair_sum (λ j i. 2 * d * least j i) jobs ≤ pair_sum (λ j i. f j i + f i j) jobs =
      pair_sum_le (Contains jobs) (λ j i. 2 * d * least j i) (λ j i. f j i + f i j) two-meet jobs in' in
      let some : 1 ≤ d =
      product_some p jobs (All-weaker (Contains jobs) (λ j. 1 ≤ p j) (λ j h. (all j h).some) jobs in') in
      cancel d
      (2 * pair_sum least jobs + (m + 1) * sum_by (λ j. u j * p j) jobs)
      (2 * m * sum_by (λ j. u j * completion rows j) jobs) some
      (omega (
        arith,
        each,
        own,
        pairs,
        sum_by-square f jobs,
        pair_sum-times (2 * d) least jobs,
        sum_by-plus (λ j. sum_by (f j) jobs) (λ j. m * d * (u j * p j)) jobs,
        sum_by-times (m * d) (λ j. u j * p j) jobs,
        sum_by-times d (λ j. u j * p j) jobs,
        sum_by-times (2 * m * d) (λ j. u j * completion rows j) jobs,
      ))
