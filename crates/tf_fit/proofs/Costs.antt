-- What a timetable costs, by the last stops of its jobs.
use Rattle.std.proofs.Common.{◌≡◌, ℕ, zero, suc, ◌+◌, ◌≤◌, true, false, ℤ, pos, List, [], ◌∷◌, length, get_or, map, refl, sym, ap, ◌∙◌, arith}
use Rattle.std.specs.Int.{int_max}
use Rattle.std.specs.List.{All, fold, sum_by, range_with_len}
use Rattle.std.proofs.lemmas.Bool.{false≢true, true≢false}
use Rattle.std.proofs.lemmas.List.Elements.{All-head, All-tail}
use Rattle.std.proofs.lemmas.List.FromFn.{map-range_with_len_more}
use Rattle.std.proofs.lemmas.List.Sums.{sum_by-cons, fold_push}
use Rattle.tf_model.specs.declared.problem.Goal.{Goal}
use Rattle.tf_model.specs.declared.problem.Goal.TheVariants as goals
use Rattle.tf_model.specs.Cost.{greatest}
use Rattle.tf_model.specs.Timetable.{completion}
use Rattle.tf_model.proofs.Sums.{sum_by-same_all}
use Rattle.tf_posed.specs.ProblemData.{ProblemData, IsProblemJob, problem_jobs}
use Rattle.tf_problem.specs.ProblemBounds.{is_max_goal}
use Rattle.tf_posed.specs.ProblemCost.{lateness, penalty, problem_cost_by}
use Rattle.tf_posed.proofs.Conditions.{All-problem_jobs}
use Rattle.tf_schedule.specs.declared.piece.Piece.{Piece}
use Rattle.tf_schedule.specs.Drawing.{drawing}
use Rattle.tf_schedule.specs.Lanes.{LanesData, HasLanes, stop_in}
use Rattle.tf_schedule.specs.Schedule.{IsSchedule}
use Rattle.tf_schedule.proofs.Drawing.{completion-drawing}
use Rattle.tf_schedule.proofs.OnLanes.{stop_is}
use Rattle.tf_schedule.proofs.Times.{sound_times}
use Rattle.tf_fit.specs.CostBy.{price_at, sum_at, cost_at}
use Rattle.tf_schedule.specs.ProblemMisfit.{IsKnownTo}

-- ---- what the objective is

pub max_cost : (g : Goal) (k : ProblemData) (at : ℕ → ℕ) → is_max_goal g ≡ true
    → greatest (λ j. price_at g k j (at j)) (problem_jobs k) ≡ cost_at g k at
max_cost goals.Cmax k at h = refl
max_cost goals.Lmax k at h = refl
max_cost _ k at h = absurd (false≢true h)

pub sum_cost : (g : Goal) (k : ProblemData) (at : ℕ → ℕ) → is_max_goal g ≡ false
    → pos (sum_at g k at (length k.jobs)) ≡ cost_at g k at
sum_cost goals.Cmax k at h = absurd (true≢false h)
sum_cost goals.Lmax k at h = absurd (true≢false h)
sum_cost _ k at h = refl

-- ---- the greatest, as it is found

pub greatest_more : (f : ℕ → ℤ) (a : ℤ) (k : ℕ)
    → fold int_max a (map f (range_with_len 1 (k + 1)))
    ≡ int_max (fold int_max a (map f (range_with_len 1 k))) (f (k + 1))
greatest_more f a k =
    ap (fold int_max a) (map-range_with_len_more f 1 k (k + 1) (omega arith))
    ∙ fold_push int_max a (map f (range_with_len 1 k)) (f (k + 1))

pub greatest_range : (f : ℕ → ℤ) (n : ℕ) → 1 ≤ n
    → fold int_max (f 1) (map f (range_with_len 1 n)) ≡ greatest f (range_with_len 1 n)
greatest_range f zero h = absurd (omega (arith, h))
greatest_range f (suc n) h = refl

-- ---- the sum, as it is found

sum_more_from : (f : ℕ → ℕ) (a n : ℕ)
    → sum_by f (range_with_len a (n + 1)) ≡ sum_by f (range_with_len a n) + f (a + n)
sum_more_from f a zero = omega (
  arith,
  sum_by-cons f a [],
  ap f (let e : a ≡ a + 0 = omega arith in e),
)
sum_more_from f a (suc n) =
    omega (
      arith,
      ap (λ x. sum_by f (range_with_len a x)) (let e : suc n + 1 ≡ suc (n + 1) = omega arith in e),
      sum_by-cons f a (range_with_len (a + 1) (n + 1)),
      sum_by-cons f a (range_with_len (a + 1) n),
      sum_more_from f (a + 1) n,
      ap f (let e : a + 1 + n ≡ a + suc n = omega arith in e),
    )

sum_le_from : (f : ℕ → ℕ) (a m n : ℕ) → m ≤ n
    → sum_by f (range_with_len a m) ≤ sum_by f (range_with_len a n)
sum_le_from f a zero n h = omega arith
sum_le_from f a (suc m) zero h = absurd (omega arith)
sum_le_from f a (suc m) (suc n) h =
    omega (
      arith,
      sum_by-cons f a (range_with_len (a + 1) m),
      sum_by-cons f a (range_with_len (a + 1) n),
      sum_le_from f (a + 1) m n (omega arith),
    )

pub sum_at_more : (g : Goal) (k : ProblemData) (at : ℕ → ℕ) (n j c : ℕ) → j ≡ n + 1 → c ≡ at j
    → sum_at g k at (n + 1) ≡ sum_at g k at n + penalty g k j c
sum_at_more g k at n j c is e =
    sum_more_from (λ i. penalty g k i (at i)) 1 n
    ∙ ap (λ i. sum_at g k at n + penalty g k i (at i)) (let h : 1 + n ≡ j = omega (arith, is) in h)
    ∙ ap (λ t. sum_at g k at n + penalty g k j t) (sym e)

pub sum_at_le : (g : Goal) (k : ProblemData) (at : ℕ → ℕ) (m n : ℕ) → m ≤ n
    → sum_at g k at m ≤ sum_at g k at n
sum_at_le g k at m n h = sum_le_from (λ i. penalty g k i (at i)) 1 m n h

-- ---- what the drawing costs

map_same : (f g : ℕ → ℤ) (xs : List ℕ) → All (λ x. f x ≡ g x) xs → map f xs ≡ map g xs
map_same f g [] same = refl
map_same f g (x ∷ xs) same =
    ap (λ y. y ∷ map f xs) (All-head (λ y. f y ≡ g y) x xs same)
    ∙ ap (λ ys. g x ∷ ys) (map_same f g xs (All-tail (λ y. f y ≡ g y) x xs same))

greatest_same : (f g : ℕ → ℤ) (xs : List ℕ) → All (λ x. f x ≡ g x) xs → greatest f xs ≡ greatest g xs
greatest_same f g [] same = refl
greatest_same f g (x ∷ xs) same =
    ap (λ ys. fold int_max (f x) ys) (map_same f g (x ∷ xs) same)
    ∙ ap (λ y. fold int_max y (map g (x ∷ xs))) (All-head (λ y. f y ≡ g y) x xs same)

module _ (k : ProblemData) (ps : List Piece) (schedule : IsSchedule ps)
    (known : All (IsKnownTo k) ps) (l : LanesData) (has : HasLanes (length k.jobs) ps l) where
  abbrev ended : ℕ → ℕ
  ended = completion (drawing k.machines ps)

  -- a job completes at its last stop
  ends : (j : ℕ) → IsProblemJob k j → stop_in l j ≡ ended j
  ends j job =
      stop_is (length k.jobs) ps l has j job.0 job.1
      ∙ sym (completion-drawing k.machines ps j schedule.none_twice (λ i d h. (known i d h).1)
      (λ i d h. sound_times (get_or ps i d) (schedule.sound i d h)) job.0)

  sums : (g : Goal) → pos (sum_at g k (stop_in l) (length k.jobs))
      ≡ pos (sum_by (λ j. penalty g k j (ended j)) (problem_jobs k))
  sums g =
      ap pos (sum_by-same_all (λ j. penalty g k j (stop_in l j)) (λ j. penalty g k j (ended j))
      (problem_jobs k)
      (All-problem_jobs k (λ j. penalty g k j (stop_in l j) ≡ penalty g k j (ended j))
      (λ j job. ap (penalty g k j) (ends j job))))

  greatests : (price : ℕ → ℕ → ℤ) → greatest (λ j. price j (stop_in l j)) (problem_jobs k)
      ≡ greatest (λ j. price j (ended j)) (problem_jobs k)
  greatests price =
      greatest_same (λ j. price j (stop_in l j)) (λ j. price j (ended j)) (problem_jobs k)
      (All-problem_jobs k (λ j. price j (stop_in l j) ≡ price j (ended j))
      (λ j job. ap (price j) (ends j job)))

  pub drawn_cost : (g : Goal) → cost_at g k (stop_in l) ≡ problem_cost_by g k (drawing k.machines ps)
  drawn_cost goals.Cmax = greatests (λ j c. pos c)
  drawn_cost goals.Lmax = greatests (lateness k)
  drawn_cost goals.Hmax = sums goals.Hmax
  drawn_cost goals.SumC = sums goals.SumC
  drawn_cost goals.SumWC = sums goals.SumWC
  drawn_cost goals.SumT = sums goals.SumT
  drawn_cost goals.SumWT = sums goals.SumWT
  drawn_cost goals.SumU = sums goals.SumU
  drawn_cost goals.SumWU = sums goals.SumWU
