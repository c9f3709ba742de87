-- Jobs dealt round the machines, each before the longer ones: the completions come to the bound.
use Rattle.std.proofs.Common.{◌≡◌, Bool, ℕ, zero, suc, ◌+◌, ◌*◌, ◌==◌, ◌≤◌, ◌<◌, List, [], ◌∷◌, ◌++◌, length, get_or, slice_index, cond, refl, sym, ap, ◌∙◌, subst, ⊎_elim, arith, sum_by, count_by, All, ℤ, pos, ◌≤ℤ◌, IsTrue, IsFalse, mul-le-mul_left, mul-le-mul_right}
use Rattle.std.specs.Int.{div_ceil}
use Rattle.std.specs.List.{AllPairs}
use Rattle.std.specs.List.Sorted.{IsPermutation}
use Rattle.std.proofs.lemmas.Int.{ints}
use Rattle.std.proofs.lemmas.Grind.{div_ceil_times}
use Rattle.std.proofs.lemmas.Bool.{false≢true, true≢false, cases_lt, ne_eqb}
use Rattle.std.proofs.lemmas.List.Sorted.{sum_by-IsPermutation, All-permutation}
use Rattle.std.proofs.lemmas.List.Sums.{sum_by-cons, sum_by-append, get_or-le-sum_by, sum_by-le}
use Rattle.std.proofs.lemmas.List.Elements.{All-weaker, All-cons, All-nil, All-head, All-tail, All-append}
use Rattle.tf_model.specs.declared.problem.Env.{Env}
use Rattle.tf_model.specs.declared.problem.Env.TheVariants.{Flow, JobShop}
use Rattle.tf_model.specs.declared.problem.Goal.TheVariants as goals
use Rattle.tf_model.specs.ClassTable.{is_shop_env}
use Rattle.tf_model.specs.Distinct.{IsDistinct}
use Rattle.tf_model.specs.Timetable.{Row, Timetable, cells_of, units, all_units, completion}
use Rattle.tf_model.proofs.Sums.{sum_by_le_all, sum_by-swap, sum_by-same, sum_by-plus, sum_by-times, sum_by-zero_terms}
use Rattle.tf_model.proofs.Units.{completion_cases, cell-le-cells_of}
use Rattle.tf_model.proofs.Loads.{once}
use Rattle.tf_model.proofs.RankSums.{ranked}
use Rattle.tf_posed.specs.ProblemData.{ProblemData, IsProblemSound, IsProblemJob, problem_jobs, problem_time, route_by}
use Rattle.tf_posed.specs.FitsProblem.{FitsProblem, VisitsFirst}
use Rattle.tf_posed.specs.ProblemCost.{problem_cost, problem_cost_by, IsLowerBound, IsProblemBest}
use Rattle.tf_problem.specs.ProblemBounds.{is_alike}
use Rattle.tf_posed.proofs.Conditions.{All-problem_jobs}
use Rattle.tf_problem.proofs.ProblemLists.{units-one}
use Rattle.tf_problem.proofs.Windows.{alike_no_shop}
use Rattle.tf_problem.specs.Ranks.{rank_value, IsFalling}
use Rattle.tf_problem.proofs.Ranks.{rank-bound, rank_value_from}
use Rattle.tf_problem.proofs.InTurn.{in_turn, in_turn-all, in_turn-units, block, block-completion, none-in_turn, row-completion, flip}
use Rattle.tf_problem.proofs.KeptBest.{once-own}

abbrev as_one : Bool → ℕ
as_one t = cond t 1 0

-- the jobs of a machine, in the order in which it processes them
abbrev Lane : Type 0
Lane = List ℕ

-- each job is put before those of the machine whose turn it is
deal : List Lane → List ℕ → List Lane
deal lanes [] = lanes
deal [] (j ∷ jobs) = []
deal (l ∷ lanes) (j ∷ jobs) = deal (lanes ++ ((j ∷ l) ∷ [])) jobs

empties : ℕ → List Lane
empties zero = []
empties (suc m) = [] ∷ empties m

empties-length : (m : ℕ) → length (empties m) ≡ m
unfolding empties
empties-length zero = refl
empties-length (suc m) = ap suc (empties-length m)

empties-sum : (f : Lane → ℕ) (m : ℕ) → f [] ≡ 0 → sum_by f (empties m) ≡ 0
unfolding empties
empties-sum f zero h = refl
empties-sum f (suc m) h = omega (arith, sum_by-cons f [] (empties m), h, empties-sum f m h)

snoc-length : (lanes : List Lane) (l : Lane) → length (lanes ++ (l ∷ [])) ≡ suc (length lanes)
snoc-length [] l = refl
snoc-length (x ∷ lanes) l = ap suc (snoc-length lanes l)

snoc-sum : (f : Lane → ℕ) (lanes : List Lane) (l : Lane)
    → sum_by f (lanes ++ (l ∷ [])) ≡ sum_by f lanes + f l
snoc-sum f lanes l = omega (arith, sum_by-append f lanes (l ∷ []), sum_by-cons f l [])

deal-length : (lanes : List Lane) (jobs : List ℕ) → length (deal lanes jobs) ≡ length lanes
unfolding deal
deal-length lanes [] = refl
deal-length [] (j ∷ jobs) = refl
deal-length (l ∷ lanes) (j ∷ jobs) =
    deal-length (lanes ++ ((j ∷ l) ∷ [])) jobs ∙ snoc-length lanes (j ∷ l)

-- no job is lost
deal-sum : (f : ℕ → ℕ) (lanes : List Lane) (jobs : List ℕ) → 1 ≤ length lanes
    → sum_by (sum_by f) (deal lanes jobs) ≡ sum_by (sum_by f) lanes + sum_by f jobs
unfolding deal
deal-sum f lanes [] some = omega arith
deal-sum f [] (j ∷ jobs) some = absurd (omega (arith, some))
deal-sum f (l ∷ lanes) (j ∷ jobs) some =
    omega (
      arith,
      deal-sum f (lanes ++ ((j ∷ l) ∷ [])) jobs (omega (arith, snoc-length lanes (j ∷ l))),
      snoc-sum (sum_by f) lanes (j ∷ l),
      sum_by-cons (sum_by f) l lanes,
      sum_by-cons f j l,
      sum_by-cons f j jobs,
    )

deal-all : (P : ℕ → Type 0) (lanes : List Lane) (jobs : List ℕ) → All (All P) lanes → All P jobs
    → All (All P) (deal lanes jobs)
unfolding deal
deal-all P lanes [] all all' = all
deal-all P [] (j ∷ jobs) all all' = All-nil (All P)
deal-all P (l ∷ lanes) (j ∷ jobs) all all' =
    deal-all P (lanes ++ ((j ∷ l) ∷ [])) jobs
    (All-append (All P) lanes ((j ∷ l) ∷ []) (All-tail (All P) l lanes all)
    (All-cons (All P) (j ∷ l) []
    (All-cons P j l (All-head P j jobs all') (All-head (All P) l lanes all)) (All-nil (All P))))
    (All-tail P j jobs all')

empties-all : (P : ℕ → Type 0) (m : ℕ) → All (All P) (empties m)
unfolding empties
empties-all P zero = All-nil (All P)
empties-all P (suc m) = All-cons (All P) [] (empties m) (All-nil P) (empties-all P m)

-- ---- what a lane costs

module _ (p : ℕ → ℕ) where
  lane_cost : Lane → ℕ
  lane_cost [] = 0
  lane_cost (j ∷ l) = p j * suc (length l) + lane_cost l

  module _ (m : ℕ) (h : 1 ≤ m) where
    -- the lanes are of even length behind i jobs
    abbrev AreEven : ℕ → List Lane → Type 0
    AreEven i [] = Unit {0}
    AreEven i (l ∷ lanes) = (length l * m ≤ i) × AreEven (i + 1) lanes

    snoc-even : (i : ℕ) (lanes : List Lane) (l : Lane) → AreEven i lanes
        → length l * m ≤ i + length lanes → AreEven i (lanes ++ (l ∷ []))
    snoc-even i [] l even le = (omega (arith, le), tt)
    snoc-even i (x ∷ lanes) l even le =
        (even.0, snoc-even (i + 1) lanes l even.1 (omega (arith, le)))

    empties-even : (i n : ℕ) → AreEven i (empties n)
    unfolding empties
    empties-even i zero = tt
    empties-even i (suc n) = (omega arith, empties-even (i + 1) n)

    deal-cost : (i : ℕ) (lanes : List Lane) (jobs : List ℕ) → length lanes ≡ m → AreEven i lanes
        → sum_by lane_cost (deal lanes jobs) ≤ sum_by lane_cost lanes + ranked m p i jobs
    unfolding deal lane_cost
    deal-cost i lanes [] size even = omega arith
    deal-cost i [] (j ∷ jobs) size even = omega arith
    deal-cost i (l ∷ lanes) (j ∷ jobs) size even =
        let n : ℕ = suc (length l) in
        let d : ℕ = div_ceil (i + 1) m in
        let room : n ≤ d =
        ⊎_elim
        (λ short. let le : d * m ≤ length l * m = mul-le-mul_right m (below d (length l) short) in
        absurd (omega (arith, le, even.0, div_ceil_times (i + 1) m h)))
        (λ le. le)
        (cases_lt d n) in
        let times : p j * n ≤ p j * d = mul-le-mul_left (p j) room in
        omega (
          arith,
          times,
          deal-cost (i + 1) (lanes ++ ((j ∷ l) ∷ []))
              jobs (snoc-length lanes (j ∷ l) ∙ size)
              (snoc-even (i + 1) lanes (j ∷ l) even.1 (omega (arith, even.0, size))),
          snoc-sum lane_cost lanes (j ∷ l),
          sum_by-cons lane_cost l lanes,
        )
      where
        below : (d n : ℕ) → d < suc n → d ≤ n
        below d n lt = omega arith

  -- the completions of the jobs of a lane, in turn, are at most that
  lane-completions : (l : Lane) (jobs : List ℕ) → IsDistinct jobs
      → sum_by (completion (in_turn p l)) jobs ≤ lane_cost l
  unfolding lane_cost in_turn
  lane-completions [] jobs distinct = omega (arith, sum_by-zero_terms jobs)
  lane-completions (c ∷ l) jobs distinct =
      let rows : Timetable = in_turn p l in
      let n : ℕ → ℕ = λ j. count_by (λ x. j == x) (c ∷ l) in
      let each : (j : ℕ) → completion (block (p c) c rows) j ≤ completion rows j + p c * n j =
      λ j. ⊎_elim
      (λ in'. let one : p c * 1 ≤ p c * n j = mul-le-mul_left (p c) in' in
      omega (arith, one, block-completion (p c) c j rows))
      (λ out. omega (arith, none-in_turn p (c ∷ l) j (omega (arith, out))))
      (cases_lt 0 (n j)) in
      let few : sum_by (λ x. sum_by (λ j. as_one (j == x)) jobs) (c ∷ l) ≤ length (c ∷ l) * 1 =
      sum_by-le (λ x. sum_by (λ j. as_one (j == x)) jobs) 1 (c ∷ l)
      (λ i e lt. omega (
        arith,
        distinct (get_or (c ∷ l) i e),
        sum_by-same (λ j. as_one (j == get_or (c ∷ l) i e)) (λ j. as_one (get_or (c ∷ l) i e == j)) jobs
            (λ j. flip j (get_or (c ∷ l) i e)),
      )) in
      let times : p c * sum_by n jobs ≤ p c * length (c ∷ l) =
      mul-le-mul_left (p c) (omega (arith, few, sum_by-swap (λ j x. as_one (j == x)) jobs (c ∷ l))) in
      omega (
        arith,
        lane-completions l jobs distinct,
        sum_by_le_all (completion (block (p c) c rows)) (λ j. completion rows j + p c * n j) jobs
            (λ i e lt. each (get_or jobs i e)),
        sum_by-plus (completion rows) (λ j. p c * n j) jobs,
        sum_by-times (p c) n jobs,
        times,
      )

-- ---- lanes side by side

zeros : ℕ → Row
zeros zero = []
zeros (suc w) = 0 ∷ zeros w

zeros-length : (w : ℕ) → length (zeros w) ≡ w
unfolding zeros
zeros-length zero = refl
zeros-length (suc w) = ap suc (zeros-length w)

zeros-cells : (j w : ℕ) → 1 ≤ j → cells_of j (zeros w) ≡ 0
unfolding zeros
zeros-cells j zero some = refl
zeros-cells j (suc w) some =
    omega (
      arith,
      sum_by-cons (λ x. cond (x == j) 1 0) 0 (zeros w),
      ap as_one (ne_eqb 0 j (λ e. omega (arith, e, some))),
      zeros-cells j w some,
    )

zeros-all : (P : ℕ → Type 0) (w : ℕ) → P 0 → All P (zeros w)
unfolding zeros
zeros-all P zero idle = All-nil P
zeros-all P (suc w) idle = All-cons P 0 (zeros w) idle (zeros-all P w idle)

-- the first cells of a timetable's rows before the rows of another of w machines
join : ℕ → Timetable → Timetable → Timetable
join w [] [] = []
join w [] (row ∷ rows) = (0 ∷ row) ∷ join w [] rows
join w (one ∷ lane) [] = (slice_index one 0 ∷ zeros w) ∷ join w lane []
join w (one ∷ lane) (row ∷ rows) = (slice_index one 0 ∷ row) ∷ join w lane rows

join-all : (P : ℕ → Type 0) (Q R : Row → Type 0) (w : ℕ)
    → ((c : ℕ) (row : Row) → P c → Q row → R (c ∷ row)) → P 0 → Q (zeros w)
    → (lane rows : Timetable) → All (λ one. P (slice_index one 0)) lane → All Q rows
    → All R (join w lane rows)
unfolding join
join-all P Q R w both idle empty [] [] all all' = All-nil R
join-all P Q R w both idle empty [] (row ∷ rows) all all' =
    All-cons R (0 ∷ row) (join w [] rows) (both 0 row idle (All-head Q row rows all'))
    (join-all P Q R w both idle empty [] rows all (All-tail Q row rows all'))
join-all P Q R w both idle empty (one ∷ lane) [] all all' =
    All-cons R (slice_index one 0 ∷ zeros w) (join w lane [])
    (both (slice_index one 0) (zeros w) (All-head (λ one. P (slice_index one 0)) one lane all) empty)
    (join-all P Q R w both idle empty lane []
    (All-tail (λ one. P (slice_index one 0)) one lane all) all')
join-all P Q R w both idle empty (one ∷ lane) (row ∷ rows) all all' =
    All-cons R (slice_index one 0 ∷ row) (join w lane rows)
    (both (slice_index one 0) row (All-head (λ one. P (slice_index one 0)) one lane all)
    (All-head Q row rows all'))
    (join-all P Q R w both idle empty lane rows
    (All-tail (λ one. P (slice_index one 0)) one lane all) (All-tail Q row rows all'))

cells-cons : (j c : ℕ) (row : Row) → cells_of j (c ∷ row) ≡ as_one (c == j) + cells_of j row
cells-cons j c row = sum_by-cons (λ x. cond (x == j) 1 0) c row

idle-cell : (j : ℕ) → 1 ≤ j → as_one (0 == j) ≡ 0
idle-cell j some = ap as_one (ne_eqb 0 j (λ e. omega (arith, e, some)))

join-units : (w j : ℕ) (lane rows : Timetable) → 1 ≤ j
    → all_units (join w lane rows) j ≡ units lane j 0 + all_units rows j
unfolding join
join-units w j [] [] some = refl
join-units w j [] (row ∷ rows) some =
    omega (
      arith,
      sum_by-cons (cells_of j) (0 ∷ row) (join w [] rows),
      sum_by-cons (cells_of j) row rows,
      cells-cons j 0 row,
      idle-cell j some,
      join-units w j [] rows some,
    )
join-units w j (one ∷ lane) [] some =
    omega (
      arith,
      sum_by-cons (cells_of j) (slice_index one 0 ∷ zeros w) (join w lane []),
      sum_by-cons (λ r. cond (slice_index r 0 == j) 1 0) one lane,
      cells-cons j (slice_index one 0) (zeros w),
      zeros-cells j w some,
      join-units w j lane [] some,
    )
join-units w j (one ∷ lane) (row ∷ rows) some =
    omega (
      arith,
      sum_by-cons (cells_of j) (slice_index one 0 ∷ row) (join w lane rows),
      sum_by-cons (cells_of j) row rows,
      sum_by-cons (λ r. cond (slice_index r 0 == j) 1 0) one lane,
      cells-cons j (slice_index one 0) row,
      join-units w j lane rows some,
    )

-- a row is empty of the job, or the completion is behind it
before-end : (j d : ℕ) (row : Row) (rows : Timetable) → completion (row ∷ rows) j ≤ suc d
    → completion rows j ≤ d
before-end j d row rows le =
    ⊎_elim (λ none. omega (arith, none.1)) (λ some. omega (arith, some.1, le)) (completion_cases j row rows)

none-there : (j : ℕ) (row : Row) (rows : Timetable) → completion (row ∷ rows) j ≤ 0
    → (cells_of j row ≡ 0) × (completion rows j ≤ 0)
none-there j row rows le =
    ⊎_elim (λ none. (none.0, omega (arith, none.1))) (λ some. absurd (omega (arith, some.1, le)))
    (completion_cases j row rows)

no-row : (j : ℕ) (row : Row) (rows : Timetable) → cells_of j row ≡ 0 → completion rows j ≤ 0
    → completion (row ∷ rows) j ≤ 0
no-row j row rows none le =
    ⊎_elim (λ no. omega (arith, no.2))
    (λ some. ⊎_elim (λ here. absurd (omega (arith, here, none))) (λ later. absurd (omega (arith, later, le)))
    some.0)
    (completion_cases j row rows)

join-completion : (w j d : ℕ) (lane rows : Timetable) → 1 ≤ j → completion lane j ≤ d
    → completion rows j ≤ d → completion (join w lane rows) j ≤ d
unfolding join
join-completion w j d [] [] some le le' = omega arith
join-completion w j zero [] (row ∷ rows) some le le' =
    let at = none-there j row rows le' in
    no-row j (0 ∷ row) (join w [] rows) (omega (arith, cells-cons j 0 row, idle-cell j some, at.0))
    (join-completion w j zero [] rows some le at.1)
join-completion w j (suc d) [] (row ∷ rows) some le le' =
    omega (
      arith,
      row-completion j (0 ∷ row) (join w [] rows),
      join-completion w j d [] rows some (omega arith) (before-end j d row rows le'),
    )
join-completion w j zero (one ∷ lane) [] some le le' =
    let at = none-there j one lane le in
    no-row j (slice_index one 0 ∷ zeros w) (join w lane [])
    (omega (
      arith,
      cells-cons j (slice_index one 0) (zeros w),
      zeros-cells j w some,
      cell-le-cells_of j some 0 one,
      at.0,
    ))
    (join-completion w j zero lane [] some at.1 le')
join-completion w j (suc d) (one ∷ lane) [] some le le' =
    omega (
      arith,
      row-completion j (slice_index one 0 ∷ zeros w) (join w lane []),
      join-completion w j d lane [] some (before-end j d one lane le) (omega arith),
    )
join-completion w j zero (one ∷ lane) (row ∷ rows) some le le' =
    let at = none-there j one lane le in
    let at' = none-there j row rows le' in
    no-row j (slice_index one 0 ∷ row) (join w lane rows)
    (omega (
      arith,
      cells-cons j (slice_index one 0) row,
      cell-le-cells_of j some 0 one,
      at.0,
      at'.0,
    ))
    (join-completion w j zero lane rows some at.1 at'.1)
join-completion w j (suc d) (one ∷ lane) (row ∷ rows) some le le' =
    omega (
      arith,
      row-completion j (slice_index one 0 ∷ row) (join w lane rows),
      join-completion w j d lane rows some (before-end j d one lane le) (before-end j d row rows le'),
    )

-- ---- all lanes

module _ (p : ℕ → ℕ) where
  beside : List Lane → Timetable
  beside [] = []
  beside (l ∷ lanes) = join (length lanes) (in_turn p l) (beside lanes)

  beside-all : (P : ℕ → Type 0) → P 0 → (lanes : List Lane) → All (All P) lanes
      → All (λ row. All P row) (beside lanes)
  unfolding beside
  beside-all P idle [] all = All-nil (λ row. All P row)
  beside-all P idle (l ∷ lanes) all =
      join-all P (λ row. All P row) (λ row. All P row) (length lanes) (λ c row here rest. All-cons P c row here rest)
      idle (zeros-all P (length lanes) idle) (in_turn p l) (beside lanes)
      (in_turn-all (λ one. P (slice_index one 0)) p l (All-head (All P) l lanes all))
      (beside-all P idle lanes (All-tail (All P) l lanes all))

  beside-width : (lanes : List Lane) → All (λ row. length row ≡ length lanes) (beside lanes)
  unfolding beside
  beside-width [] = All-nil (λ row. length row ≡ 0)
  beside-width (l ∷ lanes) =
      let w : ℕ = length lanes in
      join-all (λ c. 0 ≤ c) (λ row. length row ≡ w) (λ row. length row ≡ suc w) w
      (λ c row _ e. ap suc e) (omega arith) (zeros-length w) (in_turn p l) (beside lanes)
      (λ n d h. omega arith) (beside-width lanes)

  -- a row has a job as often as the lanes at most
  beside-cells : (j : ℕ) → 1 ≤ j → (lanes : List Lane)
      → All (λ row. cells_of j row ≤ sum_by (count_by (λ c. j == c)) lanes) (beside lanes)
  unfolding beside
  beside-cells j some [] = All-nil (λ row. cells_of j row ≤ 0)
  beside-cells j some (l ∷ lanes) =
      let w : ℕ = length lanes in
      let a : ℕ = count_by (λ c. j == c) l in
      let b : ℕ = sum_by (count_by (λ c. j == c)) lanes in
      join-all (λ c. as_one (c == j) ≤ a) (λ row. cells_of j row ≤ b)
      (λ row. cells_of j row ≤ sum_by (count_by (λ c. j == c)) (l ∷ lanes)) w
      (λ c row here rest. omega (
        arith,
        here,
        rest,
        cells-cons j c row,
        sum_by-cons (count_by (λ c. j == c)) l lanes,
      ))
      (omega (arith, idle-cell j some)) (omega (arith, zeros-cells j w some)) (in_turn p l) (beside lanes)
      (in_turn-all (λ one. as_one (slice_index one 0 == j) ≤ a) p l
      (λ n d h. omega (
        arith,
        get_or-le-sum_by (λ c. as_one (j == c)) l n d h,
        flip (get_or l n d) j,
      )))
      (beside-cells j some lanes)

  beside-units : (j : ℕ) → 1 ≤ j → (lanes : List Lane)
      → all_units (beside lanes) j ≡ p j * sum_by (count_by (λ c. j == c)) lanes
  unfolding beside
  beside-units j some [] = omega arith
  beside-units j some (l ∷ lanes) =
      omega (
        arith,
        join-units (length lanes) j (in_turn p l) (beside lanes) some,
        units-one (in_turn p l) (in_turn-all (λ row. length row ≡ 1) p l (λ n d h. refl)) j,
        in_turn-units p l j,
        beside-units j some lanes,
        ap (λ n. p j * n) (sum_by-cons (count_by (λ c. j == c)) l lanes),
      )

  beside-completion : (j : ℕ) → 1 ≤ j → (lanes : List Lane)
      → completion (beside lanes) j ≤ sum_by (λ l. completion (in_turn p l) j) lanes
  unfolding beside
  beside-completion j some [] = omega arith
  beside-completion j some (l ∷ lanes) =
      let c : ℕ = sum_by (λ l. completion (in_turn p l) j) (l ∷ lanes) in
      let sums : c ≡ completion (in_turn p l) j + sum_by (λ l. completion (in_turn p l) j) lanes =
      sum_by-cons (λ l. completion (in_turn p l) j) l lanes in
      join-completion (length lanes) j c (in_turn p l) (beside lanes) some (omega (arith, sums))
      (omega (arith, sums, beside-completion j some lanes))

-- ---- the task

no_cost : (p : ℕ → ℕ) → lane_cost p [] ≡ 0
unfolding lane_cost
no_cost p = refl

route_alike : (e : Env) → IsTrue (is_alike e) → (k : ProblemData) (j : ℕ) → route_by e k j ≡ []
route_alike Flow h k j = absurd (false≢true h)
route_alike JobShop h k j = absurd (false≢true h)
route_alike _ h k j = refl

pub rank-best : (k : ProblemData) → IsProblemSound k → IsTrue (is_alike k.problem.env)
    → k.problem.goal ≡ goals.SumC → IsTrue k.problem.prmp → IsFalse k.problem.release
    → IsFalse k.problem.prec → IsFalse k.problem.prmu → IsFalse k.problem.nwt → (jobs : List ℕ)
    → IsPermutation (problem_jobs k) jobs → IsFalling k jobs
    → (rows : Timetable) × IsProblemBest k rows (pos (rank_value k jobs))
rank-best k sound alike goal broken unreleased unordered free waits jobs moved falling =
    let p : ℕ → ℕ = problem_time k in
    let m : ℕ = k.machines in
    let known : All (IsProblemJob k) jobs =
    All-permutation (IsProblemJob k) (problem_jobs k) jobs moved
    (All-problem_jobs k (IsProblemJob k) (λ j h. h)) in
    let distinct : IsDistinct jobs =
    λ c. omega (
      arith,
      once 1 (length k.jobs) c,
      sum_by-IsPermutation (λ j. cond (c == j) 1 0) (problem_jobs k) jobs moved,
    ) in
    let lanes : List Lane = deal (empties m) jobs in
    let size : length lanes ≡ m = deal-length (empties m) jobs ∙ empties-length m in
    let own : (j : ℕ) → IsProblemJob k j → sum_by (count_by (λ c. j == c)) lanes ≡ 1 =
    λ j h. omega (
      arith,
      deal-sum (λ c. as_one (j == c)) (empties m) jobs (omega (arith, empties-length m, sound.some_machine)),
      empties-sum (count_by (λ c. j == c)) m refl,
      sum_by-IsPermutation (λ c. cond (j == c) 1 0) (problem_jobs k) jobs moved,
      once-own k j h,
    ) in
    let rows : Timetable = beside p lanes in
    let no_shop : IsFalse (is_shop_env k.problem.env) = alike_no_shop k alike in
    let fits : FitsProblem k rows = record {
      width = subst (λ w. All (λ row. length row ≡ w) rows) size (beside-width p lanes);
      jobs_only = beside-all p (λ j. j ≤ length k.jobs) (omega arith) lanes
          (deal-all (λ j. j ≤ length k.jobs) (empties m) jobs (empties-all (λ j. j ≤ length k.jobs) m)
          (All-weaker (IsProblemJob k) (λ j. j ≤ length k.jobs) (λ j h. h.1) jobs known));
      single_place = λ j low high.
          All-weaker (λ row. cells_of j row ≤ sum_by (count_by (λ c. j == c)) lanes)
          (λ row. cells_of j row ≤ 1) (λ row h. omega (arith, h, own j (low, high))) rows
          (beside-cells p j low lanes);
      amount = λ j low high. record {
        in_all = λ _. beside-units p j low lanes ∙ ap (λ n. p j * n) (own j (low, high)) ∙ omega arith;
        on_each = λ shop. absurd (true≢false (sym shop ∙ no_shop));
      };
      unbroken = λ e. absurd (true≢false (sym broken ∙ e));
      released = λ e. absurd (true≢false (sym e ∙ unreleased));
      in_order = λ e. absurd (true≢false (sym e ∙ unordered));
      on_route = λ j low high.
          subst (AllPairs (VisitsFirst rows j)) (sym (route_alike k.problem.env alike k j))
          (λ i n d lt h. absurd (omega arith));
      one_order = λ e. absurd (true≢false (sym e ∙ free));
      without_wait = λ e. absurd (true≢false (sym e ∙ waits));
    } in
    let c : ℕ → ℕ = completion rows in
    let each : sum_by c jobs ≤ sum_by (λ j. sum_by (λ l. completion (in_turn p l) j) lanes) jobs =
    sum_by_le_all c (λ j. sum_by (λ l. completion (in_turn p l) j) lanes) jobs
    (All-weaker (IsProblemJob k) (λ j. c j ≤ sum_by (λ l. completion (in_turn p l) j) lanes)
    (λ j h. beside-completion p j h.0 lanes) jobs known) in
    let lanes-cost : sum_by (λ l. sum_by (completion (in_turn p l)) jobs) lanes
    ≤ sum_by (lane_cost p) lanes =
    sum_by_le_all (λ l. sum_by (completion (in_turn p l)) jobs) (lane_cost p) lanes
    (λ i e lt. lane-completions p (get_or lanes i e) jobs distinct) in
    let all : sum_by c (problem_jobs k) ≤ rank_value k jobs =
    omega (
      arith,
      each,
      sum_by-swap (λ j l. completion (in_turn p l) j) jobs lanes,
      lanes-cost,
      deal-cost p m sound.some_machine 0 (empties m) jobs (empties-length m)
          (empties-even p m sound.some_machine 0 m),
      empties-sum (lane_cost p) m (no_cost p),
      rank_value_from k 0 jobs,
      sum_by-IsPermutation c (problem_jobs k) jobs moved,
    ) in
    let least : IsLowerBound k (pos (rank_value k jobs)) =
    rank-bound k sound alike goal jobs distinct known falling in
    let cost : problem_cost k rows ≡ pos (sum_by c (problem_jobs k)) =
    ap (λ g. problem_cost_by g k rows) goal in (
      rows,
      record {
        fits = fits;
        value = equal (problem_cost k rows) (sum_by c (problem_jobs k)) (rank_value k jobs) cost all
            (least rows fits);
        least = least;
      },
    )
  where
    equal : (z : ℤ) (a b : ℕ) → z ≡ pos a → a ≤ b → pos b ≤ℤ z → z ≡ pos b
    equal z a b is le ge = is ∙ ap pos (omega (arith, ints, is, le, ge))
