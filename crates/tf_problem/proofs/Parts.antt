-- The bound by the work that some jobs have to do in one interval.
use Rattle.std.proofs.Common.{◌≡◌, Bool, true, false, ℕ, zero, suc, ◌+◌, ◌-◌, ◌*◌, ◌≤◌, ◌<◌, min, max, List, [], ◌∷◌, length, get_or, slice_index_or, take, drop, cond, refl, ⊎_elim, ◌⊎◌, inl, inr, arith, sum_by, All, ℤ, pos, negsuc, ◌+ℤ◌, ◌-ℤ◌, ◌≤ℤ◌, IsTrue, IsFalse, length-take, length-drop, mul-le-mul_right}
use Rattle.std.proofs.lemmas.Int.{ints}
use Rattle.std.proofs.lemmas.Bool.{cases_lt}
use Rattle.std.proofs.lemmas.List.Sums.{sum_by-cons, sum_by-le, sum_by-take-drop}
use Rattle.std.proofs.lemmas.List.Elements.{All-weaker, All-take, All-drop}
use Rattle.tf_model.specs.Distinct.{IsDistinct}
use Rattle.tf_model.specs.Whole.{as_time}
use Rattle.tf_model.specs.Timetable.{Row, Timetable, cells_of, all_units, completion}
use Rattle.tf_model.proofs.Sums.{sum_by_le_all}
use Rattle.tf_model.proofs.Units.{sum_by-take-completion}
use Rattle.tf_model.proofs.Work.{cells-le-length, work-le-rows}
use Rattle.tf_model.proofs.Split.{take_cell}
use Rattle.tf_posed.specs.ProblemData.{ProblemData, IsProblemSound, IsProblemJob, problem_time, problem_release, problem_due}
use Rattle.tf_posed.specs.FitsProblem.{FitsProblem}
use Rattle.tf_posed.specs.ProblemCost.{problem_cost, IsLowerBound}
use Rattle.tf_problem.specs.ProblemBounds.{is_alike, is_max_goal}
use Rattle.tf_problem.specs.Parts.{part_within, part_unbroken, part_of, IsMoreThanRoom}
use Rattle.tf_problem.proofs.ProblemLists.{cells_from}
use Rattle.tf_problem.proofs.Relaxing.{problem_release-le-row}
use Rattle.tf_problem.proofs.Least.{late-le-cost}
use Rattle.tf_problem.proofs.Windows.{alike_no_shop, units-le-rows, one_time-le-completion}
use Rattle.tf_problem.proofs.Prices.{stands-in}

-- the first rows of some of the rows are no more than the first rows of all
pub takes-le : (f : Row → ℕ) (rows : Timetable) (b c : ℕ)
    → sum_by f (take b (take c rows)) ≤ sum_by f (take b rows)
takes-le f rows zero c = omega arith
takes-le f [] (suc b) zero = omega arith
takes-le f [] (suc b) (suc c) = omega arith
takes-le f (row ∷ rows) (suc b) zero = omega arith
takes-le f (row ∷ rows) (suc b) (suc c) =
    omega (
      arith,
      sum_by-cons f row (take b (take c rows)),
      sum_by-cons f row (take b rows),
      takes-le f rows b c,
    )

pub at_least_or_below : (l o : ℤ) → (l ≤ℤ o) ⊎ ((o +ℤ pos 1) ≤ℤ l)
at_least_or_below (pos n) (pos m) =
    ⊎_elim (λ lt. inr (omega (arith, ints))) (λ le. inl (omega (arith, ints))) (cases_lt m n)
at_least_or_below (pos n) (negsuc m) = inr (omega (arith, ints))
at_least_or_below (negsuc n) (pos m) = inl (omega (arith, ints))
at_least_or_below (negsuc n) (negsuc m) =
    ⊎_elim (λ lt. inr (omega (arith, ints))) (λ le. inl (omega (arith, ints))) (cases_lt n m)

-- what a job that is not late by l does behind b at most
pub behind-le : (c b : ℕ) (d l o : ℤ) → (pos c -ℤ d) ≤ℤ o → (o +ℤ pos 1) ≤ℤ l
    → c - b ≤ as_time (((d +ℤ l) -ℤ pos 1) -ℤ pos b)
behind-le c b d l o late below = by (((d +ℤ l) -ℤ pos 1) -ℤ pos b) (omega (arith, ints))
  where
    by : (z : ℤ) → (pos c -ℤ pos b) ≤ℤ z → c - b ≤ as_time z
    by (pos n) h = omega (arith, ints)
    by (negsuc n) h = omega (arith, ints)

module _ (k : ProblemData) (sound : IsProblemSound k) (alike : IsTrue (is_alike k.problem.env))
    (rows : Timetable) (fits : FitsProblem k rows) where
  -- before a job's first row there is none of it, and its rows have at most one of it
  before-le : (j : ℕ) → IsProblemJob k j → (a b : ℕ)
      → all_units (take a (take b rows)) j ≤ a - problem_release k j
  before-le j h a b =
      let r : ℕ = problem_release k j in
      let part : Timetable = take a (take b rows) in
      omega (
        arith,
        cells_from part j r
            (λ s i e. problem_release-le-row k rows fits j h s i
            (take_cell b rows s i j h.0 (take_cell a (take b rows) s i j h.0 e))),
        sum_by-le (cells_of j) 1 (drop r part)
            (All-drop (λ row. cells_of j row ≤ 1) r part
            (All-take (λ row. cells_of j row ≤ 1) a (take b rows)
            (All-take (λ row. cells_of j row ≤ 1) b rows (fits.single_place j h.0 h.1)))),
        length-drop r part,
        length-take a (take b rows),
      )

  -- a job's time is done before a, from a to b, or from b to its completion
  time-le-parts : (j : ℕ) → IsProblemJob k j → (a b : ℕ)
      → problem_time k j
      ≤ (a - problem_release k j) + all_units (drop a (take b rows)) j + (completion rows j - b)
  time-le-parts j h a b =
      let c : ℕ = completion rows j in
      omega (
        arith,
        (fits.amount j h.0 h.1).in_all (alike_no_shop k alike),
        sum_by-take-completion (cells_of j) j (λ row. omega arith) rows c (omega arith),
        sum_by-take-drop (cells_of j) (take c rows) b,
        takes-le (cells_of j) rows b c,
        units-le-rows k sound alike rows fits j h b c,
        sum_by-take-drop (cells_of j) (take b rows) a,
        before-le j h a b,
      )

  -- so where no job is late by l, each has its part between a and b
  pub part-le-units : (j : ℕ) → IsProblemJob k j → (a b : ℕ) (l o : ℤ)
      → (pos (completion rows j) -ℤ problem_due k j) ≤ℤ o → (o +ℤ pos 1) ≤ℤ l
      → part_within k a b l j ≤ all_units (drop a (take b rows)) j
  part-le-units j h a b l o late below =
      omega (
        arith,
        time-le-parts j h a b,
        behind-le (completion rows j) b (problem_due k j) l o late below,
      )

-- Parts of any kind: where no job is late by l, each has its part between a and b, and the machines
-- have no room for all parts.
pub too-much-bound : (k : ProblemData) → IsTrue (is_max_goal k.problem.goal) → (jobs : List ℕ)
    → IsDistinct jobs → All (IsProblemJob k) jobs → (a b : ℕ) (l : ℤ) (part : ℕ → ℕ)
    → k.machines * (b - a) < sum_by part jobs
    → ((rows : Timetable) → FitsProblem k rows → (j : ℕ) → IsProblemJob k j → (o : ℤ)
    → (pos (completion rows j) -ℤ problem_due k j) ≤ℤ o → (o +ℤ pos 1) ≤ℤ l
    → part j ≤ all_units (drop a (take b rows)) j)
    → IsLowerBound k l
too-much-bound k max jobs distinct known a b l part much has rows fits =
    ⊎_elim (λ le. le) (λ below. absurd (full below)) (at_least_or_below l (problem_cost k rows))
  where
    full : (problem_cost k rows +ℤ pos 1) ≤ℤ l → ⊥
    full below =
        let between : Timetable = drop a (take b rows) in
        let room : All (λ row. sum_by (λ j. cells_of j row) jobs ≤ k.machines) rows =
        All-weaker (λ row. length row ≡ k.machines)
        (λ row. sum_by (λ j. cells_of j row) jobs ≤ k.machines)
        (λ row w. omega (arith, cells-le-length jobs distinct row)) rows fits.width in
        let work : sum_by (λ j. all_units between j) jobs ≤ length between * k.machines =
        work-le-rows cells_of k.machines jobs between
        (All-drop (λ row. sum_by (λ j. cells_of j row) jobs ≤ k.machines) a (take b rows)
        (All-take (λ row. sum_by (λ j. cells_of j row) jobs ≤ k.machines) b rows room)) in
        let asked : sum_by part jobs ≤ sum_by (λ j. all_units between j) jobs =
        sum_by_le_all part (λ j. all_units between j) jobs
        (λ i d h. has rows fits (get_or jobs i d) (known i d h) (problem_cost k rows)
        (late-le-cost k rows max (get_or jobs i d) (known i d h) (completion rows (get_or jobs i d))
        (omega arith)) below) in
        let short : length between ≤ b - a =
        omega (arith, length-drop a (take b rows), length-take b rows) in
        let wide : length between * k.machines ≤ (b - a) * k.machines =
        mul-le-mul_right k.machines short in
        omega (arith, much, asked, work, wide)

-- ---- jobs that are not preempted

-- a job that stands in the rows from s to c has those from a to b of them
stands-units : (j : ℕ) (rows : Timetable) (a b s c : ℕ)
    → ((t : ℕ) → s ≤ t → t < c → 1 ≤ cells_of j (slice_index_or rows t []))
    → min b c - max a s ≤ all_units (drop a (take b rows)) j
stands-units j rows a zero s c stands = omega arith
stands-units j [] a (suc b) s c stands =
    ⊎_elim
    (λ some. absurd (omega (arith, some, stands (max a s) (omega arith) (omega arith))))
    (λ none. omega (arith, none))
    (cases_lt (max a s) (min (suc b) c))
stands-units j (row ∷ rows) (suc a) (suc b) s c stands =
    omega (
      arith,
      stands-units j rows a b (s - 1) (c - 1)
          (λ t low high. stands (suc t) (omega arith) (omega arith)),
    )
stands-units j (row ∷ rows) zero (suc b) zero zero stands = omega arith
stands-units j (row ∷ rows) zero (suc b) zero (suc c) stands =
    omega (
      arith,
      sum_by-cons (cells_of j) row (take b rows),
      stands 0 (omega arith) (omega arith),
      stands-units j rows 0 b 0 c (λ t low high. stands (suc t) (omega arith) (omega arith)),
    )
stands-units j (row ∷ rows) zero (suc b) (suc s) c stands =
    omega (
      arith,
      sum_by-cons (cells_of j) row (take b rows),
      stands-units j rows 0 b s (c - 1)
          (λ t low high. stands (suc t) (omega arith) (omega arith)),
    )

unbroken-le-units : (k : ProblemData) → IsProblemSound k → IsTrue (is_alike k.problem.env)
    → IsFalse k.problem.prmp → (rows : Timetable) → FitsProblem k rows → (j : ℕ) → IsProblemJob k j
    → (a b : ℕ) (l o : ℤ) → (pos (completion rows j) -ℤ problem_due k j) ≤ℤ o
    → (o +ℤ pos 1) ≤ℤ l → part_unbroken k a b l j ≤ all_units (drop a (take b rows)) j
unbroken-le-units k sound alike whole rows fits j h a b l o late below =
    let c : ℕ = completion rows j in
    let p : ℕ = problem_time k j in
    omega (
      arith,
      one_time-le-completion k sound alike rows fits j h,
      behind-le c b (problem_due k j) l o late below,
      stands-units j rows a b (c - p) c
          (λ t low high. stands-in k sound alike whole rows fits j h t low high),
    )

-- one machine or identical machines in parallel, whatever the conditions: the makespan or the
-- maximum lateness
pub parts-bound : (k : ProblemData) → IsProblemSound k → IsTrue (is_alike k.problem.env)
    → IsTrue (is_max_goal k.problem.goal) → (jobs : List ℕ) → IsDistinct jobs
    → All (IsProblemJob k) jobs → (a b : ℕ) (l : ℤ) → IsMoreThanRoom k a b l jobs
    → IsLowerBound k l
parts-bound k sound alike most jobs distinct known a b l much =
    too-much-bound k most jobs distinct known a b l (part_of k a b l) much has
  where
    has : (rows : Timetable) → FitsProblem k rows → (j : ℕ) → IsProblemJob k j → (o : ℤ)
        → (pos (completion rows j) -ℤ problem_due k j) ≤ℤ o → (o +ℤ pos 1) ≤ℤ l
        → part_of k a b l j ≤ all_units (drop a (take b rows)) j
    has rows fits j h o late below = by k.problem.prmp refl
      where
        by : (t : Bool) → k.problem.prmp ≡ t
            → cond t (part_within k a b l j) (max (part_within k a b l j) (part_unbroken k a b l j))
            ≤ all_units (drop a (take b rows)) j
        by true e = part-le-units k sound alike rows fits j h a b l o late below
        by false e =
            omega (
              arith,
              part-le-units k sound alike rows fits j h a b l o late below,
              unbroken-le-units k sound alike e rows fits j h a b l o late below,
            )
