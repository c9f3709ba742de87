-- A job of a flow shop that waits nowhere: it stands in all rows of its time before its completion, on
-- each machine right after its time on those before. So of two jobs the one that begins later begins
-- later by their delay.
use Rattle.std.proofs.Common.{◌≡◌, ◌≢◌, Bool, ℕ, zero, suc, ◌+◌, ◌-◌, ◌≤◌, ◌<◌, max, List, [], ◌∷◌, ◌==◌, length, map, get_or, slice_index, slice_index_or, cond, refl, sym, ap, ◌∙◌, ⊎_elim, arith, sum_by, All, IsTrue}
use Rattle.std.specs.List.{fold, range_with_len}
use Rattle.std.proofs.lemmas.Bool.{eq-eqb, or_right, cases_lt}
use Rattle.std.proofs.lemmas.List.Sums.{sum_by-cons, get_or-le-sum_by}
use Rattle.std.proofs.lemmas.List.FromFn.{length-range_with_len, get_or-range_with_len}
use Rattle.std.proofs.lemmas.List.Elements.{All-head, All-tail}
use Rattle.tf_model.specs.Timetable.{Row, Timetable, cell, cells_of, units, completion}
use Rattle.tf_model.specs.ClassTable.{is_single_env, is_shop_env, is_flow_env}
use Rattle.tf_model.proofs.Sums.{sum_by_le_all, sum_by-swap}
use Rattle.tf_model.proofs.Units.{cell-le-cells_of, cell_with, cell_at_completion, completion-le-row}
use Rattle.tf_posed.specs.ProblemData.{ProblemData, IsProblemSound, IsProblemJob, problem_time_on, time_over}
use Rattle.tf_posed.specs.FitsProblem.{FitsProblem}
use Rattle.tf_problem.specs.ProblemBounds.{is_by_machine}
use Rattle.tf_problem.specs.Potentials.{start_delay}
use Rattle.tf_problem.proofs.ProblemLists.{range-append, cell_width}
use Rattle.tf_problem.proofs.RouteLists.{range-apart, range-below}
use Rattle.tf_problem.proofs.Routes.{flow_shop, units-on, over-le-rows, total-le-completion}
use Rattle.tf_problem.proofs.FlowRoutes.{on-flow}

abbrev as_one : Bool → ℕ
as_one t = cond t 1 0

-- ---- rows that all have a job

-- whether a row has the job on one of m machines
abbrev on_some : ℕ → ℕ → Row → ℕ
on_some m j row = sum_by (λ i. as_one (slice_index row i == j)) (range_with_len 0 m)

on-one : (m j i : ℕ) (row : Row) → i < m → slice_index row i ≡ j → 1 ≤ on_some m j row
on-one m j i row lt e =
    let is : get_or (range_with_len 0 m) i 0 ≡ i = get_or-range_with_len 0 m i 0 lt ∙ omega arith in
    omega (
      arith,
      get_or-le-sum_by (λ x. as_one (slice_index row x == j)) (range_with_len 0 m) i 0
          (omega (arith, lt, length-range_with_len 0 m)),
      ap (λ x. as_one (slice_index row x == j)) is,
      ap as_one (eq-eqb (slice_index row i) j e),
    )

-- n rows that all have the job are so many of those that have it
rows-le-sum : (m j : ℕ) → 1 ≤ j → (rows : Timetable) (s n : ℕ)
    → ((t : ℕ) → s ≤ t → t < s + n → (i : ℕ) × (i < m) × (cell rows t i ≡ j))
    → n ≤ sum_by (on_some m j) rows
rows-le-sum m j some rows s zero has = omega arith
rows-le-sum m j some [] s (suc n) has =
    let at = has s (omega arith) (omega arith) in absurd (omega (arith, some, at.2))
rows-le-sum m j some (row ∷ rows) (suc s) (suc n) has =
    omega (
      arith,
      sum_by-cons (on_some m j) row rows,
      rows-le-sum m j some rows s (suc n)
          (λ t low high. has (suc t) (omega (arith, low)) (omega (arith, high))),
    )
rows-le-sum m j some (row ∷ rows) zero (suc n) has =
    let at = has 0 (omega arith) (omega arith) in
    omega (
      arith,
      sum_by-cons (on_some m j) row rows,
      on-one m j at.0 row at.1 at.2,
      rows-le-sum m j some rows 0 n
          (λ t low high. has (suc t) (omega (arith, low)) (omega (arith, high))),
    )

-- ---- the rows of a job

-- one machine more
over-more : (k : ProblemData) (j a : ℕ)
    → time_over k j 0 (suc a) ≡ time_over k j 0 a + problem_time_on k j a
over-more k j a =
    omega (
      arith,
      range-append (problem_time_on k j) 0 a 1,
      sum_by-cons (problem_time_on k j) (0 + a) [],
      ap (problem_time_on k j) (none a),
      ap (λ n. sum_by (problem_time_on k j) (range_with_len 0 n)) (more a),
    )
  where
    none : (a : ℕ) → 0 + a ≡ a
    none a = omega arith

    more : (a : ℕ) → a + 1 ≡ suc a
    more a = omega arith

-- more machines take no less time
over-rises : (k : ProblemData) (j a b : ℕ) → a ≤ b → time_over k j 0 a ≤ time_over k j 0 b
over-rises k j a b le =
    omega (
      arith,
      range-append (problem_time_on k j) 0 a (b - a),
      ap (λ n. sum_by (problem_time_on k j) (range_with_len 0 n)) (whole a b le),
    )
  where
    whole : (a b : ℕ) → a ≤ b → a + (b - a) ≡ b
    whole a b le = omega (arith, le)

-- the first row of a job that waits nowhere
abbrev pub start : ProblemData → Timetable → ℕ → ℕ
start k rows j = completion rows j - time_over k j 0 k.machines

module _ (k : ProblemData) (sound : IsProblemSound k) (flow : IsTrue (is_flow_env k.problem.env))
    (no_wait : IsTrue k.problem.nwt) (rows : Timetable) (fits : FitsProblem k rows) where
  by : IsTrue (is_by_machine k.problem.env)
  by = or_right (is_single_env k.problem.env) (is_shop_env k.problem.env)
      (flow_shop k.problem.env flow)

  module _ (j : ℕ) (job : IsProblemJob k j) where
    abbrev m : ℕ
    m = k.machines

    abbrev c : ℕ
    c = completion rows j

    abbrev w : ℕ
    w = time_over k j 0 k.machines

    on_machine : (t i : ℕ) → cell rows t i ≡ j → i < k.machines
    on_machine t i e = cell_width k.machines rows fits.width t i j job.0 e

    -- no row between two with the job is without it
    between : (s t u a b : ℕ) → s ≤ t → t ≤ u → cell rows s a ≡ j → cell rows u b ≡ j
        → (i : ℕ) × (cell rows t i ≡ j)
    between = fits.without_wait no_wait j job.0 job.1

    -- some machine has it in each row of its time before its completion
    stands : (t : ℕ) → c - w ≤ t → t < c → (i : ℕ) × (cell rows t i ≡ j)
    stands t low high =
        ⊎_elim
        (λ has. cell_with j (slice_index_or rows t []) has)
        (λ none. absurd (by_end c refl none))
        (cases_lt 0 (cells_of j (slice_index_or rows t [])))
      where
        has-not : (i : ℕ) → cells_of j (slice_index_or rows t []) ≤ 0 → cell rows t i ≡ j → ⊥
        has-not i none e =
            omega (
              arith,
              none,
              cell-le-cells_of j job.0 i (slice_index_or rows t []),
              ap as_one (eq-eqb (slice_index (slice_index_or rows t []) i) j e),
            )

        by_end : (e : ℕ) → c ≡ e → cells_of j (slice_index_or rows t []) ≤ 0 → ⊥
        by_end zero is none = absurd (omega (arith, is, high))
        by_end (suc e) is none =
            let last = cell_at_completion j rows e is in
            let after : (s i : ℕ) → cell rows s i ≡ j → t + 1 ≤ s =
            λ s i at.
            ⊎_elim
            (λ later. omega (arith, later))
            (λ before.
            let here = between s t e i last.0 before (omega (arith, is, high)) at last.1 in
            absurd (has-not here.0 none here.1))
            (cases_lt t s) in
            omega (
              arith,
              is,
              low,
              high,
              total-le-completion k sound rows fits by j job,
              over-le-rows k sound rows fits by j job (range_with_len 0 k.machines)
                  (range-apart 0 k.machines) (range-below k.machines) (t + 1) c
                  (λ p d h s at. (
                    after s (slice_index_or (range_with_len 0 k.machines) p d) at,
                    completion-le-row j job.0 rows s
                        (slice_index_or (range_with_len 0 k.machines) p d) at,
                  )),
            )

    -- and none before
    first : (t a : ℕ) → cell rows t a ≡ j → c - w ≤ t
    first t a e =
        ⊎_elim (λ early. absurd (by_end c refl early)) (λ le. le) (cases_lt t (c - w))
      where
        units-le : sum_by (units rows j) (range_with_len 0 k.machines) ≤ w
        units-le =
            sum_by_le_all (units rows j) (problem_time_on k j) (range_with_len 0 k.machines)
            (λ p d h.
            let i : ℕ = slice_index_or (range_with_len 0 k.machines) p d in
            omega (arith, units-on k sound rows fits by j job i (range-below k.machines p d h)))

        by_end : (e : ℕ) → c ≡ e → t < c - w → ⊥
        by_end zero is early = absurd (omega (arith, is, early))
        by_end (suc l) is early =
            let last = cell_at_completion j rows l is in
            let many : c - t ≤ sum_by (on_some k.machines j) rows =
            rows-le-sum k.machines j job.0 rows t (c - t)
            (λ r low high.
            let here = between t r l a last.0 low (omega (arith, is, early, high)) e last.1 in
            (here.0, on_machine r here.0 here.1, here.1)) in
            omega (
              arith,
              early,
              many,
              units-le,
              sum_by-swap (λ i row. as_one (slice_index row i == j)) (range_with_len 0 k.machines) rows,
            )

    -- its time on the machines before the one on which it stands is over
    over-before : (t b : ℕ) → cell rows t b ≡ j → (c - w) + time_over k j 0 b ≤ t
    over-before t b e =
        omega (
          arith,
          first t b e,
          over-le-rows k sound rows fits by j job (range_with_len 0 b) (range-apart 0 b)
              (λ p d h. omega (arith, h, on_machine t b e, length-range_with_len 0 b, at p d h)) (c - w) t
              (λ p d h s has.
              let i : ℕ = slice_index_or (range_with_len 0 b) p d in (
                first s i has,
                on-flow k sound flow rows fits j job i b s t
                    (omega (arith, h, length-range_with_len 0 b, at p d h)) (on_machine t b e) has e,
              )),
        )
      where
        at : (p d : ℕ) → p < length (range_with_len 0 b)
            → slice_index_or (range_with_len 0 b) p d ≡ 0 + p
        at p d h = get_or-range_with_len 0 b p d (omega (arith, h, length-range_with_len 0 b))

    -- its time on this machine and those before is not
    over-behind : (t b : ℕ) → cell rows t b ≡ j → t < (c - w) + time_over k j 0 (suc b)
    over-behind t b e =
        let n : ℕ = k.machines - suc b in
        let in' : b < k.machines = on_machine t b e in
        omega (
          arith,
          completion-le-row j job.0 rows t b e,
          total-le-completion k sound rows fits by j job,
          range-append (problem_time_on k j) 0 (suc b) n,
          lengths (suc b + n) k.machines (omega (arith, in')),
          over-le-rows k sound rows fits by j job (range_with_len (0 + suc b) n)
              (range-apart (0 + suc b) n)
              (λ p d h. omega (arith, h, length-range_with_len (0 + suc b) n, at n p d h)) (t + 1) c
              (λ p d h s has.
              let i : ℕ = slice_index_or (range_with_len (0 + suc b) n) p d in
              let after : t < s =
              on-flow k sound flow rows fits j job b i t s (omega (arith, at n p d h))
              (on_machine s i has) e has in (
                omega (arith, after),
                completion-le-row j job.0 rows s i has,
              )),
        )
      where
        at : (n p d : ℕ) → p < length (range_with_len (0 + suc b) n)
            → slice_index_or (range_with_len (0 + suc b) n) p d ≡ 0 + suc b + p
        at n p d h =
            get_or-range_with_len (0 + suc b) n p d
            (omega (arith, h, length-range_with_len (0 + suc b) n))

        lengths : (n l : ℕ) → n ≡ l
            → sum_by (problem_time_on k j) (range_with_len 0 n)
            ≡ sum_by (problem_time_on k j) (range_with_len 0 l)
        lengths n l e = ap (λ x. sum_by (problem_time_on k j) (range_with_len 0 x)) e

    -- it stands on each machine right after its time on those before
    stands-on : (a t : ℕ) → a < k.machines → (c - w) + time_over k j 0 a ≤ t
        → t < (c - w) + time_over k j 0 (suc a) → cell rows t a ≡ j
    stands-on a t in' low high =
        let here = stands t (omega (arith, low)) (omega (
          arith,
          high,
          over-rises k j (suc a) k.machines (omega (arith, in')),
          total-le-completion k sound rows fits by j job,
        )) in
        let b : ℕ = here.0 in
        let same : b ≡ a =
        ⊎_elim
        (λ less.
        absurd
        (omega (
          arith,
          low,
          over-behind t b here.1,
          over-rises k j (suc b) a (omega (arith, less)),
        )))
        (λ no_less.
        ⊎_elim
        (λ more.
        absurd
        (omega (
          arith,
          high,
          over-before t b here.1,
          over-rises k j (suc a) b (omega (arith, more)),
        )))
        (λ no_more. omega (arith, no_less, no_more))
        (cases_lt a b))
        (cases_lt b a) in
        sym (ap (cell rows t) same) ∙ here.1

  -- ---- two jobs

  -- of two jobs, of which the second has time on each machine, the one that begins no earlier comes to
  -- each machine only when the other has left it
  pub leaves-first : (i j : ℕ) → IsProblemJob k i → IsProblemJob k j → i ≢ j
      → ((a : ℕ) → a < k.machines → 1 ≤ problem_time_on k j a)
      → start k rows i ≤ start k rows j → (a : ℕ) → a < k.machines
      → start k rows i + time_over k i 0 (suc a) ≤ start k rows j + time_over k j 0 a
  leaves-first i j job_i job_j apart some le = leaves
    where
      leaves-by : (a : ℕ) → a < k.machines
          → start k rows i + time_over k i 0 a ≤ start k rows j + time_over k j 0 a
          → start k rows i + time_over k i 0 (suc a) ≤ start k rows j + time_over k j 0 a
      leaves-by a in' behind =
          ⊎_elim
          (λ early.
          let t : ℕ = start k rows j + time_over k j 0 a in
          let of_i : cell rows t a ≡ i = stands-on i job_i a t in' behind early in
          let of_j : cell rows t a ≡ j =
          stands-on j job_j a t in' (omega arith) (omega (arith, some a in', over-more k j a)) in
          absurd (apart (sym of_i ∙ of_j)))
          (λ late. late)
          (cases_lt (start k rows j + time_over k j 0 a) (start k rows i + time_over k i 0 (suc a)))

      leaves : (a : ℕ) → a < k.machines
          → start k rows i + time_over k i 0 (suc a) ≤ start k rows j + time_over k j 0 a
      leaves zero in' = leaves-by zero in' (omega (arith, le))
      leaves (suc a) in' =
          leaves-by (suc a) in'
          (omega (arith, leaves a (omega (arith, in')), over-rises k j a (suc a) (omega arith)))

  -- so it begins later by the delay of the two
  pub delayed : (i j : ℕ) → IsProblemJob k i → IsProblemJob k j → i ≢ j
      → ((a : ℕ) → a < k.machines → 1 ≤ problem_time_on k j a)
      → start k rows i ≤ start k rows j
      → start k rows i + start_delay k i j ≤ start k rows j
  delayed i j job_i job_j apart some le =
      let late : ℕ → ℕ = λ a. time_over k i 0 (a + 1) - time_over k j 0 a in
      omega (
        arith,
        le,
        fold-max-le late (range_with_len 0 k.machines) 0 (start k rows j - start k rows i) (omega arith)
            (λ p d h.
            let a : ℕ = slice_index_or (range_with_len 0 k.machines) p d in
            omega (
              arith,
              ap (time_over k i 0) (more a),
              leaves-first i j job_i job_j apart some le a (range-below k.machines p d h),
            )),
      )
    where
      more : (a : ℕ) → a + 1 ≡ suc a
      more a = omega arith

      fold-max-le : (f : ℕ → ℕ) (xs : List ℕ) (a d : ℕ) → a ≤ d → All (λ x. f x ≤ d) xs
          → fold max a (map f xs) ≤ d
      fold-max-le f [] a d le all = le
      fold-max-le f (x ∷ xs) a d le all =
          fold-max-le f xs (max a (f x)) d (omega (arith, le, All-head (λ x. f x ≤ d) x xs all))
          (All-tail (λ x. f x ≤ d) x xs all)
