-- The timetable that always works on the shortest has the completions of the bound.
use Rattle.std.proofs.Common.{◌≡◌, ◌≢◌, Bool, true, false, ℕ, ◌+◌, ◌-◌, ◌*◌, ◌==◌, nat_lt, nat_le, ◌≤◌, ◌<◌, ◌⊎◌, inl, inr, sum, List, [], ◌∷◌, length, get_or, cond, refl, sym, ap, ◌∙◌, subst, ⊎_elim, arith, sum_by, count_by, All, ℤ, pos, ◌≤ℤ◌, IsTrue, IsFalse}
use Rattle.std.specs.List.{AllPairs}
use Rattle.std.specs.List.Sorted.{IsPermutation}
use Rattle.std.proofs.lemmas.Int.{ints}
use Rattle.std.proofs.lemmas.Bool.{true≢false, or_left, cases_lt, cases_eq, eq-eqb, ne_eqb, leb-true, leb-false}
use Rattle.std.proofs.lemmas.List.Sorted.{sum_by-IsPermutation, All-permutation}
use Rattle.tf_model.specs.declared.problem.Goal.TheVariants as goals
use Rattle.tf_model.specs.ClassTable.{is_single_env, is_parallel_env, is_shop_env}
use Rattle.tf_model.specs.Distinct.{IsDistinct}
use Rattle.tf_model.proofs.Loads.{once}
use Rattle.tf_posed.specs.ProblemData.{ProblemData, IsProblemSound, IsProblemJob, problem_jobs, problem_job, problem_time, problem_release}
use Rattle.tf_posed.specs.FitsProblem.{FitsProblem, VisitsFirst}
use Rattle.tf_posed.specs.ProblemCost.{problem_cost, problem_cost_by, IsLowerBound, IsProblemBest}
use Rattle.tf_posed.proofs.Conditions.{All-problem_jobs}
use Rattle.tf_problem.proofs.Windows.{alike_no_shop}
use Rattle.tf_problem.proofs.KeptBest.{once-own, route_none}
use Rattle.tf_problem.proofs.Shortest.{shortest-bound}
use Rattle.std.proofs.lemmas.List.Sums.{sum_by-cons}
use Rattle.std.proofs.lemmas.List.Elements.{All-weaker, All-cons, All-nil, All-head, All-tail}
use Rattle.tf_model.specs.Timetable.{Row, Timetable, cell, cells_of, all_units, completion}
use Rattle.tf_model.proofs.Sums.{sum_by_le_all, sum_by-same}
use Rattle.tf_problem.specs.Kept.{put, IsRisingBy}
use Rattle.tf_problem.specs.Shortest.{remaining, completions, shortest_first, shortest_value}
use Rattle.tf_problem.proofs.InTurn.{one_cell-le, block, block-all, block-units, block-completion, none-block, block-here, block-behind, only, flip}

abbrev as_one : Bool → ℕ
as_one t = cond t 1 0

-- a job and the time that it still needs
abbrev Need : Type 0
Need = ℕ × ℕ

abbrev times_of : List Need → List ℕ
times_of [] = []
times_of (b ∷ bs) = b.1 ∷ times_of bs

-- how often the job is among them
abbrev times_in : ℕ → List Need → ℕ
times_in c bs = sum_by (λ b. as_one (c == b.0)) bs

put_need : Need → List Need → List Need
put_need q [] = q ∷ []
put_need q (b ∷ bs) = cond (nat_lt b.1 q.1) (b ∷ put_need q bs) (q ∷ b ∷ bs)

left_needs : ℕ → List Need → List Need
left_needs d [] = []
left_needs d (b ∷ bs) = cond (nat_le b.1 d) (left_needs (d - b.1) bs) ((b.0, b.1 - d) ∷ bs)

-- d rows, and then rows
work : ℕ → List Need → Timetable → Timetable
work d [] rows = block d 0 rows
work d (b ∷ bs) rows = cond (nat_le b.1 d) (block b.1 b.0 (work (d - b.1) bs rows)) (block d b.0 rows)

-- ---- lists of needs

put-times : (q : Need) (bs : List Need) → times_of (put_need q bs) ≡ put q.1 (times_of bs)
unfolding put_need
put-times q [] = refl
put-times q (b ∷ bs) = by (nat_lt b.1 q.1) (put-times q bs)
  where
    by : (t : Bool) → times_of (put_need q bs) ≡ put q.1 (times_of bs)
        → times_of (cond t (b ∷ put_need q bs) (q ∷ b ∷ bs))
        ≡ cond t (b.1 ∷ put q.1 (times_of bs)) (q.1 ∷ b.1 ∷ times_of bs)
    by true e = ap (λ xs. b.1 ∷ xs) e
    by false e = refl

remaining-times : (d : ℕ) (bs : List Need) → times_of (left_needs d bs) ≡ remaining d (times_of bs)
unfolding left_needs
remaining-times d [] = refl
remaining-times d (b ∷ bs) = by (nat_le b.1 d) (remaining-times (d - b.1) bs)
  where
    by : (t : Bool) → times_of (left_needs (d - b.1) bs) ≡ remaining (d - b.1) (times_of bs)
        → times_of (cond t (left_needs (d - b.1) bs) ((b.0, b.1 - d) ∷ bs))
        ≡ cond t (remaining (d - b.1) (times_of bs)) ((b.1 - d) ∷ times_of bs)
    by true e = e
    by false e = refl

put-sum : (f : Need → ℕ) (q : Need) (bs : List Need) → sum_by f (put_need q bs) ≡ f q + sum_by f bs
unfolding put_need
put-sum f q [] = omega (arith, sum_by-cons f q [])
put-sum f q (b ∷ bs) = by (nat_lt b.1 q.1) (put-sum f q bs)
  where
    by : (t : Bool) → sum_by f (put_need q bs) ≡ f q + sum_by f bs
        → sum_by f (cond t (b ∷ put_need q bs) (q ∷ b ∷ bs)) ≡ f q + sum_by f (b ∷ bs)
    by true e = omega (arith, e, sum_by-cons f b (put_need q bs), sum_by-cons f b bs)
    by false e = omega (arith, sum_by-cons f q (b ∷ bs))

put-all : (P : ℕ → Type 0) (q : Need) (bs : List Need) → P q.0 → All (λ b. P b.0) bs
    → All (λ b. P b.0) (put_need q bs)
unfolding put_need
put-all P q [] here all = All-cons (λ b. P b.0) q [] here all
put-all P q (b ∷ bs) here all =
    by (nat_lt b.1 q.1) (put-all P q bs here (All-tail (λ b. P b.0) b bs all))
  where
    by : (t : Bool) → All (λ b. P b.0) (put_need q bs)
        → All (λ b. P b.0) (cond t (b ∷ put_need q bs) (q ∷ b ∷ bs))
    by true rest = All-cons (λ b. P b.0) b (put_need q bs) (All-head (λ b. P b.0) b bs all) rest
    by false rest = All-cons (λ b. P b.0) q (b ∷ bs) here all

remaining-all : (P : ℕ → Type 0) (d : ℕ) (bs : List Need) → All (λ b. P b.0) bs
    → All (λ b. P b.0) (left_needs d bs)
unfolding left_needs
remaining-all P d [] all = all
remaining-all P d (b ∷ bs) all =
    by (nat_le b.1 d) (remaining-all P (d - b.1) bs (All-tail (λ b. P b.0) b bs all))
  where
    by : (t : Bool) → All (λ b. P b.0) (left_needs (d - b.1) bs)
        → All (λ b. P b.0) (cond t (left_needs (d - b.1) bs) ((b.0, b.1 - d) ∷ bs))
    by true rest = rest
    by false rest =
        All-cons (λ b. P b.0) (b.0, b.1 - d) bs (All-head (λ b. P b.0) b bs all)
        (All-tail (λ b. P b.0) b bs all)

remaining-in : (c d : ℕ) (bs : List Need) → times_in c (left_needs d bs) ≤ times_in c bs
unfolding left_needs
remaining-in c d [] = omega arith
remaining-in c d (b ∷ bs) = by (nat_le b.1 d) (remaining-in c (d - b.1) bs)
  where
    by : (t : Bool) → times_in c (left_needs (d - b.1) bs) ≤ times_in c bs
        → times_in c (cond t (left_needs (d - b.1) bs) ((b.0, b.1 - d) ∷ bs)) ≤ times_in c (b ∷ bs)
    by true h = omega (arith, h, sum_by-cons (λ b. as_one (c == b.0)) b bs)
    by false h =
        omega (
          arith,
          sum_by-cons (λ b. as_one (c == b.0)) b bs,
          sum_by-cons (λ b. as_one (c == b.0)) (b.0, b.1 - d) bs,
        )

-- in all the time nothing remains
remaining-none : (d : ℕ) (bs : List Need) → sum (times_of bs) ≤ d → left_needs d bs ≡ []
unfolding left_needs
remaining-none d [] h = refl
remaining-none d (b ∷ bs) h =
    by (nat_le b.1 d) refl
    (remaining-none (d - b.1) bs (omega (arith, h, sum_by-cons (λ y. y) b.1 (times_of bs))))
  where
    by : (t : Bool) → nat_le b.1 d ≡ t → left_needs (d - b.1) bs ≡ []
        → cond t (left_needs (d - b.1) bs) ((b.0, b.1 - d) ∷ bs) ≡ []
    by true e rest = rest
    by false e rest = absurd (omega (arith, h, leb-false b.1 d e, sum_by-cons (λ y. y) b.1 (times_of bs)))

-- ---- rows of work

work-all : (P : Row → Type 0) (d : ℕ) (bs : List Need) (rows : Timetable) → P (0 ∷ [])
    → All (λ b. P (b.0 ∷ [])) bs → All P rows → All P (work d bs rows)
unfolding work
work-all P d [] rows idle all rest = block-all P d 0 rows idle rest
work-all P d (b ∷ bs) rows idle all rest =
    by (nat_le b.1 d) (work-all P (d - b.1) bs rows idle (All-tail (λ b. P (b.0 ∷ [])) b bs all) rest)
  where
    here : P (b.0 ∷ [])
    here = All-head (λ b. P (b.0 ∷ [])) b bs all

    by : (t : Bool) → All P (work (d - b.1) bs rows)
        → All P (cond t (block b.1 b.0 (work (d - b.1) bs rows)) (block d b.0 rows))
    by true further = block-all P b.1 b.0 (work (d - b.1) bs rows) here further
    by false further = block-all P d b.0 rows here rest

work-completion : (d j : ℕ) (bs : List Need) (rows : Timetable)
    → completion (work d bs rows) j ≤ d + completion rows j
unfolding work
work-completion d j [] rows = block-completion d 0 j rows
work-completion d j (b ∷ bs) rows = by (nat_le b.1 d) refl (work-completion (d - b.1) j bs rows)
  where
    by : (t : Bool) → nat_le b.1 d ≡ t
        → completion (work (d - b.1) bs rows) j ≤ d - b.1 + completion rows j
        → completion (cond t (block b.1 b.0 (work (d - b.1) bs rows)) (block d b.0 rows)) j
        ≤ d + completion rows j
    by true e rest =
        omega (arith, rest, leb-true b.1 d e, block-completion b.1 b.0 j (work (d - b.1) bs rows))
    by false e rest = block-completion d b.0 j rows

differs : (c : ℕ) (b : Need) (bs : List Need) → times_in c (b ∷ bs) ≡ 0 → b.0 ≢ c
differs c b bs none same =
    omega (arith, none, sum_by-cons (λ b. as_one (c == b.0)) b bs, ap as_one (eq-eqb c b.0 (sym same)))

work-none : (d c : ℕ) (bs : List Need) (rows : Timetable) → 1 ≤ c → times_in c bs ≡ 0
    → completion rows c ≡ 0 → completion (work d bs rows) c ≡ 0
unfolding work
work-none d c [] rows some none rest = none-block d 0 c rows (λ e. omega (arith, e, some)) rest
work-none d c (b ∷ bs) rows some none rest =
    by (nat_le b.1 d)
    (work-none (d - b.1) c bs rows some
    (omega (arith, none, sum_by-cons (λ b. as_one (c == b.0)) b bs)) rest)
  where
    by : (t : Bool) → completion (work (d - b.1) bs rows) c ≡ 0
        → completion (cond t (block b.1 b.0 (work (d - b.1) bs rows)) (block d b.0 rows)) c ≡ 0
    by true further =
        none-block b.1 b.0 c (work (d - b.1) bs rows) (differs c b bs none) further
    by false further = none-block d b.0 c rows (differs c b bs none) rest

-- the time of a job among them
abbrev need_of : ℕ → List Need → ℕ
need_of j bs = sum_by (λ b. b.1 * as_one (j == b.0)) bs

work-units : (d j : ℕ) (bs : List Need) (rows : Timetable) → 1 ≤ j
    → all_units (work d bs rows) j + need_of j (left_needs d bs) ≡ need_of j bs + all_units rows j
unfolding work left_needs
work-units d j [] rows some =
    omega (
      arith,
      block-units d 0 j rows,
      ap (λ t. d * as_one t) (ne_eqb 0 j (λ e. omega (arith, e, some))),
    )
work-units d j (b ∷ bs) rows some = by (nat_le b.1 d) refl (work-units (d - b.1) j bs rows some)
  where
    x : ℕ
    x = as_one (j == b.0)

    by : (t : Bool) → nat_le b.1 d ≡ t
        → all_units (work (d - b.1) bs rows) j + need_of j (left_needs (d - b.1) bs)
        ≡ need_of j bs + all_units rows j
        → all_units (cond t (block b.1 b.0 (work (d - b.1) bs rows)) (block d b.0 rows)) j
        + need_of j (cond t (left_needs (d - b.1) bs) ((b.0, b.1 - d) ∷ bs))
        ≡ need_of j (b ∷ bs) + all_units rows j
    by true e rest =
        omega (
          arith,
          rest,
          block-units b.1 b.0 j (work (d - b.1) bs rows),
          ap (λ y. b.1 * y) (flip b.0 j),
          sum_by-cons (λ b. b.1 * as_one (j == b.0)) b bs,
        )
    by false e rest =
        omega (
          arith,
          block-units d b.0 j rows,
          ap (λ y. d * y) (flip b.0 j),
          sum_by-cons (λ b. b.1 * as_one (j == b.0)) b bs,
          sum_by-cons (λ b. b.1 * as_one (j == b.0)) (b.0, b.1 - d) bs,
          ap (λ y. y * x) (parts b.1 d (omega (arith, leb-false b.1 d e))),
        )
      where
        parts : (a d : ℕ) → d ≤ a → a ≡ d + (a - d)
        parts a d le = omega arith

-- a cell of work is of one of the jobs, or lies behind it
work-cell : (P : ℕ → Type 0) (d : ℕ) (bs : List Need) (rows : Timetable) → All (λ b. P b.0) bs
    → (t i j : ℕ) → 1 ≤ j → cell (work d bs rows) t i ≡ j
    → P j ⊎ ((d ≤ t) × (cell rows (t - d) i ≡ j))
unfolding work
work-cell P d [] rows all t i j some e =
    ⊎_elim
    (λ early. absurd (omega (arith, some, only 0 i j some (sym (block-here d 0 t i rows early) ∙ e))))
    (λ late. inr (late, behind d 0 rows t i late ∙ e))
    (cases_lt t d)
  where
    behind : (n c : ℕ) (rows : Timetable) (t i : ℕ) → n ≤ t
        → cell rows (t - n) i ≡ cell (block n c rows) t i
    behind n c rows t i le =
        sym (block-behind n c (t - n) i rows) ∙ ap (λ u. cell (block n c rows) u i) (back n t le)
      where
        back : (n t : ℕ) → n ≤ t → n + (t - n) ≡ t
        back n t le = omega arith
work-cell P d (b ∷ bs) rows all t i j some e =
    by (nat_le b.1 d) refl e
    (λ u at. work-cell P (d - b.1) bs rows (All-tail (λ b. P b.0) b bs all) u i j some at)
  where
    behind : (n c : ℕ) (rows : Timetable) (t i : ℕ) → n ≤ t
        → cell rows (t - n) i ≡ cell (block n c rows) t i
    behind n c rows t i le =
        sym (block-behind n c (t - n) i rows) ∙ ap (λ u. cell (block n c rows) u i) (back n t le)
      where
        back : (n t : ℕ) → n ≤ t → n + (t - n) ≡ t
        back n t le = omega arith

    its : (n : ℕ) (rows : Timetable) → t < n → cell (block n b.0 rows) t i ≡ j → P j
    its n rows early at =
        subst P (only b.0 i j some (sym (block-here n b.0 t i rows early) ∙ at))
        (All-head (λ b. P b.0) b bs all)

    by : (c : Bool) → nat_le b.1 d ≡ c
        → cell (cond c (block b.1 b.0 (work (d - b.1) bs rows)) (block d b.0 rows)) t i ≡ j
        → ((u : ℕ) → cell (work (d - b.1) bs rows) u i ≡ j
        → P j ⊎ ((d - b.1 ≤ u) × (cell rows (u - (d - b.1)) i ≡ j)))
        → P j ⊎ ((d ≤ t) × (cell rows (t - d) i ≡ j))
    by true is at further =
        ⊎_elim (λ early. inl (its b.1 (work (d - b.1) bs rows) early at))
        (λ late.
        ⊎_elim (λ its'. inl its')
        (λ past. inr (
          omega (arith, past.0, late),
          ap (λ u. cell rows u i) (same b.1 d t late (leb-true b.1 d is) past.0) ∙ past.1,
        ))
        (further (t - b.1) (behind b.1 b.0 (work (d - b.1) bs rows) t i late ∙ at)))
        (cases_lt t b.1)
      where
        same : (a d t : ℕ) → a ≤ t → a ≤ d → d - a ≤ t - a → t - d ≡ t - a - (d - a)
        same a d t h1 h2 h3 = omega arith
    by false is at further =
        ⊎_elim (λ early. inl (its d rows early at))
        (λ late. inr (late, behind d b.0 rows t i late ∙ at)) (cases_lt t d)

-- the completions of those that end, and those of the others later
work-cost : (now d : ℕ) (bs : List Need) (rows : Timetable) → ((c : ℕ) → times_in c bs ≤ 1)
    → All (λ b. 1 ≤ b.0) bs
    → ((c : ℕ) → 1 ≤ c → 1 ≤ times_in c bs → times_in c (left_needs d bs) ≡ 0 → completion rows c ≡ 0)
    → sum_by (λ b. now + completion (work d bs rows) b.0) bs
    ≤ completions now d (times_of bs) + sum_by (λ b. now + d + completion rows b.0) (left_needs d bs)
unfolding work left_needs
work-cost now d [] rows distinct some ended = omega arith
work-cost now d (b ∷ bs) rows distinct some ended =
    by (nat_le b.1 d) refl
    (λ h. work-cost (now + b.1) (d - b.1) bs rows
    (λ c. omega (arith, distinct c, sum_by-cons (λ b. as_one (c == b.0)) b bs))
    (All-tail (λ b. 1 ≤ b.0) b bs some) h)
    ended
  where
    its : 1 ≤ b.0
    its = All-head (λ b. 1 ≤ b.0) b bs some

    by : (t : Bool) → nat_le b.1 d ≡ t
        → (((c : ℕ) → 1 ≤ c → 1 ≤ times_in c bs → times_in c (left_needs (d - b.1) bs) ≡ 0
        → completion rows c ≡ 0)
        → sum_by (λ q. now + b.1 + completion (work (d - b.1) bs rows) q.0) bs
        ≤ completions (now + b.1) (d - b.1) (times_of bs)
        + sum_by (λ q. now + b.1 + (d - b.1) + completion rows q.0) (left_needs (d - b.1) bs))
        → ((c : ℕ) → 1 ≤ c → 1 ≤ times_in c (b ∷ bs)
        → times_in c (cond t (left_needs (d - b.1) bs) ((b.0, b.1 - d) ∷ bs)) ≡ 0
        → completion rows c ≡ 0)
        → sum_by (λ q. now
        + completion (cond t (block b.1 b.0 (work (d - b.1) bs rows)) (block d b.0 rows)) q.0) (b ∷ bs)
        ≤ cond t (now + b.1 + completions (now + b.1) (d - b.1) (times_of bs)) 0
        + sum_by (λ q. now + d + completion rows q.0)
        (cond t (left_needs (d - b.1) bs) ((b.0, b.1 - d) ∷ bs))
    by true is further ended =
        let after : Timetable = work (d - b.1) bs rows in
        let alone : times_in b.0 bs ≡ 0 =
        omega (
          arith,
          distinct b.0,
          sum_by-cons (λ q. as_one (b.0 == q.0)) b bs,
          ap as_one (eq-eqb b.0 b.0 refl),
        ) in
        let over : completion rows b.0 ≡ 0 =
        ended b.0 its
        (omega (
          arith,
          sum_by-cons (λ q. as_one (b.0 == q.0)) b bs,
          ap as_one (eq-eqb b.0 b.0 refl),
        ))
        (omega (arith, remaining-in b.0 (d - b.1) bs, alone)) in
        let none : completion after b.0 ≡ 0 = work-none (d - b.1) b.0 bs rows its alone over in
        let rest = further
        (λ c h at none. ended c h (omega (arith, at, sum_by-cons (λ q. as_one (c == q.0)) b bs)) none) in
        let each : sum_by (λ q. now + completion (block b.1 b.0 after) q.0) bs
        ≤ sum_by (λ q. now + b.1 + completion after q.0) bs =
        sum_by_le_all (λ q. now + completion (block b.1 b.0 after) q.0)
        (λ q. now + b.1 + completion after q.0) bs
        (λ i e lt. omega (arith, block-completion b.1 b.0 (get_or bs i e).0 after)) in
        omega (
          arith,
          rest,
          each,
          none,
          block-completion b.1 b.0 b.0 after,
          sum_by-cons (λ q. now + completion (block b.1 b.0 after) q.0) b bs,
          sum_by-same (λ q. now + b.1 + (d - b.1) + completion rows q.0)
              (λ q. now + d + completion rows q.0) (left_needs (d - b.1) bs)
              (λ q. omega (arith, leb-true b.1 d is)),
        )
    by false is further ended =
        omega (
          arith,
          sum_by-cons (λ q. now + completion (block d b.0 rows) q.0) b bs,
          sum_by-cons (λ q. now + d + completion rows q.0) (b.0, b.1 - d) bs,
          block-completion d b.0 b.0 rows,
          sum_by_le_all (λ q. now + completion (block d b.0 rows) q.0)
              (λ q. now + d + completion rows q.0) bs
              (λ i e lt. omega (arith, block-completion d b.0 (get_or bs i e).0 rows)),
        )

-- ---- jobs that are released

module _ (p r : ℕ → ℕ) where
  run : ℕ → List Need → List ℕ → Timetable
  run now bs [] = work (sum (times_of bs)) bs []
  run now bs (j ∷ jobs) =
      work (r j - now) bs (run (r j) (put_need (j, p j) (left_needs (r j - now) bs)) jobs)

  abbrev next : ℕ → List Need → ℕ → List Need
  next now bs j = put_need (j, p j) (left_needs (r j - now) bs)

  next-in : (now c j : ℕ) (bs : List Need)
      → times_in c (next now bs j) ≡ as_one (c == j) + times_in c (left_needs (r j - now) bs)
  next-in now c j bs = put-sum (λ b. as_one (c == b.0)) (j, p j) (left_needs (r j - now) bs)

  run-all : (P : Row → Type 0) (now : ℕ) (bs : List Need) (jobs : List ℕ) → P (0 ∷ [])
      → All (λ b. P (b.0 ∷ [])) bs → All (λ c. P (c ∷ [])) jobs → All P (run now bs jobs)
  unfolding run
  run-all P now bs [] idle all all' =
      work-all P (sum (times_of bs)) bs [] idle all (All-nil P)
  run-all P now bs (j ∷ jobs) idle all all' =
      work-all P (r j - now) bs (run (r j) (next now bs j) jobs) idle all
      (run-all P (r j) (next now bs j) jobs idle
      (put-all (λ c. P (c ∷ [])) (j, p j) (left_needs (r j - now) bs)
      (All-head (λ c. P (c ∷ [])) j jobs all')
      (remaining-all (λ c. P (c ∷ [])) (r j - now) bs all))
      (All-tail (λ c. P (c ∷ [])) j jobs all'))

  run-none : (now c : ℕ) (bs : List Need) (jobs : List ℕ) → 1 ≤ c → times_in c bs ≡ 0
      → count_by (λ j. c == j) jobs ≡ 0 → completion (run now bs jobs) c ≡ 0
  unfolding run
  run-none now c bs [] some none none' = work-none (sum (times_of bs)) c bs [] some none refl
  run-none now c bs (j ∷ jobs) some none none' =
      work-none (r j - now) c bs (run (r j) (next now bs j) jobs) some none
      (run-none (r j) c (next now bs j) jobs some
      (omega (
        arith,
        next-in now c j bs,
        remaining-in c (r j - now) bs,
        none,
        none',
        sum_by-cons (λ i. cond (c == i) 1 0) j jobs,
      ))
      (omega (arith, none', sum_by-cons (λ i. cond (c == i) 1 0) j jobs)))

  run-units : (now j : ℕ) (bs : List Need) (jobs : List ℕ) → 1 ≤ j
      → all_units (run now bs jobs) j ≡ need_of j bs + p j * count_by (λ c. j == c) jobs
  unfolding run
  run-units now j bs [] some =
      omega (
        arith,
        work-units (sum (times_of bs)) j bs [] some,
        ap (need_of j) (remaining-none (sum (times_of bs)) bs (omega arith)),
      )
  run-units now j bs (i ∷ jobs) some =
      omega (
        arith,
        work-units (r i - now) j bs (run (r i) (next now bs i) jobs) some,
        run-units (r i) j (next now bs i) jobs some,
        put-sum (λ b. b.1 * as_one (j == b.0)) (i, p i) (left_needs (r i - now) bs),
        ap (λ n. p j * n) (sum_by-cons (λ c. cond (j == c) 1 0) i jobs),
        same,
      )
    where
      same : p i * as_one (j == i) ≡ p j * as_one (j == i)
      same =
          ⊎_elim (λ is. ap (λ x. p x * as_one (j == i)) (sym is))
          (λ differ.
          omega (
            arith,
            ap (λ t. p i * as_one t) (ne_eqb j i differ),
            ap (λ t. p j * as_one t) (ne_eqb j i differ),
          ))
          (cases_eq j i)

  run-released : (now : ℕ) (bs : List Need) (jobs : List ℕ) → All (λ b. r b.0 ≤ now) bs
      → IsRisingBy r now jobs → (t i j : ℕ) → 1 ≤ j → cell (run now bs jobs) t i ≡ j → r j ≤ now + t
  unfolding run
  run-released now bs [] early rising t i j some e =
      ⊎_elim (λ its. omega (arith, its)) (λ past. absurd (omega (arith, some, past.1)))
      (work-cell (λ c. r c ≤ now) (sum (times_of bs)) bs [] early t i j some e)
  run-released now bs (k ∷ jobs) early rising t i j some e =
      ⊎_elim (λ its. omega (arith, its))
      (λ past.
      omega (
        arith,
        rising.0,
        past.0,
        run-released (r k) (next now bs k) jobs
            (put-all (λ c. r c ≤ r k) (k, p k) (left_needs (r k - now) bs) (omega arith)
            (remaining-all (λ c. r c ≤ r k) (r k - now) bs
            (All-weaker (λ b. r b.0 ≤ now) (λ b. r b.0 ≤ r k) (λ b h. omega (arith, h, rising.0)) bs early)))
            rising.1 (t - (r k - now)) i j some past.1,
      ))
      (work-cell (λ c. r c ≤ now) (r k - now) bs (run (r k) (next now bs k) jobs) early t i j some e)

  run-cost : (now : ℕ) (bs : List Need) (jobs : List ℕ)
      → ((c : ℕ) → times_in c bs + count_by (λ j. c == j) jobs ≤ 1) → All (λ b. 1 ≤ b.0) bs
      → All (λ j. 1 ≤ j) jobs → IsRisingBy r now jobs
      → sum_by (λ b. now + completion (run now bs jobs) b.0) bs
      + sum_by (λ j. now + completion (run now bs jobs) j) jobs
      ≤ shortest_first p r now (times_of bs) jobs
  unfolding run
  run-cost now bs [] distinct some some' rising =
      let d : ℕ = sum (times_of bs) in
      omega (
        arith,
        work-cost now d bs [] (λ c. omega (arith, distinct c)) some (λ c _ _ _. refl),
        ap (sum_by (λ b. now + d + completion [] b.0)) (remaining-none d bs (omega arith)),
      )
  run-cost now bs (j ∷ jobs) distinct some some' rising =
      let d : ℕ = r j - now in
      let is : now + d ≡ r j = omega (arith, rising.0) in
      let after : List Need = next now bs j in
      let rows : Timetable = run (r j) after jobs in
      let its : 1 ≤ j = All-head (λ j. 1 ≤ j) j jobs some' in
      let tail : (c : ℕ) → count_by (λ i. c == i) (j ∷ jobs) ≡ as_one (c == j) + count_by (λ i. c == i) jobs =
      λ c. sum_by-cons (λ i. cond (c == i) 1 0) j jobs in
      let rest = run-cost (r j) after jobs
      (λ c. omega (arith, distinct c, tail c, next-in now c j bs, remaining-in c d bs))
      (put-all (λ c. 1 ≤ c) (j, p j) (left_needs d bs) its (remaining-all (λ c. 1 ≤ c) d bs some))
      (All-tail (λ j. 1 ≤ j) j jobs some') rising.1 in
      let here = work-cost now d bs rows (λ c. omega (arith, distinct c)) some
      (λ c h in' none. run-none (r j) c after jobs h
      (omega (arith, distinct c, in', none, tail c, next-in now c j bs))
      (omega (arith, distinct c, in', tail c))) in
      let later : sum_by (λ i. now + completion (work d bs rows) i) (j ∷ jobs)
      ≤ sum_by (λ i. r j + completion rows i) (j ∷ jobs) =
      sum_by_le_all (λ i. now + completion (work d bs rows) i) (λ i. r j + completion rows i) (j ∷ jobs)
      (λ i e lt. omega (arith, is, work-completion d (get_or (j ∷ jobs) i e) bs rows)) in
      let times : times_of after ≡ put (p j) (remaining d (times_of bs)) =
      put-times (j, p j) (left_needs d bs) ∙ ap (put (p j)) (remaining-times d bs) in
      omega (
        arith,
        rest,
        here,
        later,
        ap (λ ts. shortest_first p r (r j) ts jobs) times,
        sum_by-cons (λ i. r j + completion rows i) j jobs,
        put-sum (λ b. r j + completion rows b.0) (j, p j) (left_needs d bs),
        sum_by-same (λ b. now + d + completion rows b.0) (λ b. r j + completion rows b.0) (left_needs d bs)
            (λ b. omega (arith, is)),
      )

-- ---- the task

module _ (k : ProblemData) (sound : IsProblemSound k) (single : IsTrue (is_single_env k.problem.env))
    (broken : IsTrue k.problem.prmp) (unordered : IsFalse k.problem.prec)
    (free : IsFalse k.problem.prmu) (waits : IsFalse k.problem.nwt) (jobs : List ℕ)
    (own : (j : ℕ) → IsProblemJob k j → count_by (λ c. j == c) jobs ≡ 1)
    (known : All (IsProblemJob k) jobs) (rising : IsRisingBy (problem_release k) 0 jobs) where
  abbrev shortest_rows : Timetable
  shortest_rows = run (problem_time k) (problem_release k) 0 [] jobs

  no_shop : IsFalse (is_shop_env k.problem.env)
  no_shop = alike_no_shop k (or_left (is_single_env k.problem.env) (is_parallel_env k.problem.env) single)

  all-rows : (P : Row → Type 0) → P (0 ∷ []) → All (λ c. P (c ∷ [])) jobs → All P shortest_rows
  all-rows P idle all =
      run-all (problem_time k) (problem_release k) P 0 [] jobs idle (All-nil (λ b. P (b.0 ∷ []))) all

  fits-shortest : FitsProblem k shortest_rows
  fits-shortest = record {
    width = all-rows (λ row. length row ≡ k.machines) (sym (sound.single single))
        (λ n d h. sym (sound.single single));
    jobs_only = all-rows (λ row. All (λ j. j ≤ length k.jobs) row)
        (All-cons (λ j. j ≤ length k.jobs) 0 [] (omega arith) (All-nil (λ j. j ≤ length k.jobs)))
        (All-weaker (IsProblemJob k) (λ c. All (λ j. j ≤ length k.jobs) (c ∷ []))
        (λ c h. All-cons (λ j. j ≤ length k.jobs) c [] h.1 (All-nil (λ j. j ≤ length k.jobs))) jobs known);
    single_place = λ j low high.
        all-rows (λ row. cells_of j row ≤ 1) (one_cell-le j 0) (λ n d h. one_cell-le j (get_or jobs n d));
    amount = λ j low high. record {
      in_all = λ _.
          omega (
            arith,
            run-units (problem_time k) (problem_release k) 0 j [] jobs low,
            ap (λ n. problem_time k j * n) (own j (low, high)),
          );
      on_each = λ shop. absurd (true≢false (sym shop ∙ no_shop));
    };
    unbroken = λ e. absurd (true≢false (sym broken ∙ e));
    released = λ e j low high t i at.
        omega (
          arith,
          run-released (problem_time k) (problem_release k) 0 [] jobs
              (All-nil (λ b. problem_release k b.0 ≤ 0)) rising t i j low at,
          ap (λ b. cond b (problem_job k j).release 0) e,
        );
    in_order = λ e. absurd (true≢false (sym e ∙ unordered));
    on_route = λ j low high.
        subst (AllPairs (VisitsFirst shortest_rows j)) (sym (route_none k.problem.env single k j))
        (λ i n d lt h. absurd (omega arith));
    one_order = λ e. absurd (true≢false (sym e ∙ free));
    without_wait = λ e. absurd (true≢false (sym e ∙ waits));
  }

pub shortest-best : (k : ProblemData) → IsProblemSound k → IsTrue (is_single_env k.problem.env)
    → k.problem.goal ≡ goals.SumC → IsTrue k.problem.prmp → IsFalse k.problem.prec
    → IsFalse k.problem.prmu → IsFalse k.problem.nwt → (jobs : List ℕ)
    → IsPermutation (problem_jobs k) jobs → IsRisingBy (problem_release k) 0 jobs
    → (rows : Timetable) × IsProblemBest k rows (pos (shortest_value k jobs))
shortest-best k sound single goal broken unordered free waits jobs moved rising =
    let p : ℕ → ℕ = problem_time k in
    let r : ℕ → ℕ = problem_release k in
    let known : All (IsProblemJob k) jobs =
    All-permutation (IsProblemJob k) (problem_jobs k) jobs moved
    (All-problem_jobs k (IsProblemJob k) (λ j h. h)) in
    let distinct : IsDistinct jobs =
    λ c. omega (
      arith,
      once 1 (length k.jobs) c,
      sum_by-IsPermutation (λ j. cond (c == j) 1 0) (problem_jobs k) jobs moved,
    ) in
    let own : (j : ℕ) → IsProblemJob k j → count_by (λ c. j == c) jobs ≡ 1 =
    λ j h. sum_by-IsPermutation (λ c. cond (j == c) 1 0) (problem_jobs k) jobs moved ∙ once-own k j h in
    let rows : Timetable = run p r 0 [] jobs in
    let fits : FitsProblem k rows =
    fits-shortest k sound single broken unordered free waits jobs own known rising in
    let all : sum_by (completion rows) (problem_jobs k) ≤ shortest_value k jobs =
    omega (
      arith,
      run-cost p r 0 [] jobs (λ c. omega (arith, distinct c)) (All-nil (λ b. 1 ≤ b.0))
          (All-weaker (IsProblemJob k) (λ j. 1 ≤ j) (λ j h. h.0) jobs known) rising,
      sum_by-same (λ j. 0 + completion rows j) (completion rows) jobs (λ j. omega arith),
      sum_by-IsPermutation (completion rows) (problem_jobs k) jobs moved,
    ) in
    let least : IsLowerBound k (pos (shortest_value k jobs)) =
    shortest-bound k sound single goal jobs distinct known rising in
    let cost : problem_cost k rows ≡ pos (sum_by (completion rows) (problem_jobs k)) =
    ap (λ g. problem_cost_by g k rows) goal in (
      rows,
      record {
        fits = fits;
        value = equal (problem_cost k rows) (sum_by (completion rows) (problem_jobs k)) (shortest_value k jobs)
            cost all (least rows fits);
        least = least;
      },
    )
  where
    equal : (z : ℤ) (a b : ℕ) → z ≡ pos a → a ≤ b → pos b ≤ℤ z → z ≡ pos b
    equal z a b is le ge = is ∙ ap pos (omega (arith, ints, is, le, ge))
