-- Timetables that are over by the horizon.
use Rattle.std.proofs.Common.{◌≡◌, Bool, true, false, ℕ, ◌≤◌, ◌<◌, max, List, [], ◌∷◌, ◌==◌, length, get_or, slice_index, slice_index_or, map, cond, refl, sym, ap, ◌∙◌, ⊎_elim, arith, sum_by, All, ℤ, pos, ◌-ℤ◌, ◌≤ℤ◌}
use Rattle.std.specs.List.{fold, range_with_len}
use Rattle.std.proofs.lemmas.Int.{ints}
use Rattle.std.proofs.lemmas.Bool.{eq-eqb}
use Rattle.std.proofs.lemmas.List.Sums.{get_or-le-sum_by}
use Rattle.std.proofs.lemmas.List.Elements.{All-cons, All-nil, All-contains}
use Rattle.std.proofs.lemmas.List.FromFn.{length-range_with_len, get_or-range_with_len}
use Rattle.tf_model.specs.declared.problem.Goal.{Goal}
use Rattle.tf_model.specs.declared.problem.Goal.TheVariants as goals
use Rattle.tf_model.specs.ClassTable.{is_shop_env}
use Rattle.tf_model.specs.Timetable.{Row, Timetable, cells_of, units, completion}
use Rattle.tf_model.specs.Cost.{greatest}
use Rattle.tf_model.proofs.Sums.{sum_by_le_all, sum_by-swap, sum_by-same_all}
use Rattle.tf_model.proofs.Units.{cell-le-cells_of}
use Rattle.tf_posed.specs.ProblemData.{ProblemData, IsProblemSound, IsProblemJob, problem_jobs, problem_job, problem_time, problem_time_on, time_over, problem_release}
use Rattle.tf_posed.specs.FitsProblem.{FitsProblem}
use Rattle.tf_posed.specs.ProblemCost.{problem_cost, problem_cost_by, lateness, penalty, IsLowerBound}
use Rattle.tf_problem.specs.ProblemBounds.{problem_work, last_release, horizon}
use Rattle.tf_posed.proofs.Conditions.{All-problem_jobs}
use Rattle.tf_problem.proofs.Relaxing.{at-le-greatest, greatest_reached}
use Rattle.tf_problem.proofs.Least.{of_map, Contains-problem_jobs}
use Rattle.tf_problem.proofs.Rising.{penalty-rises}
use Rattle.tf_problem.proofs.Thinned.{is_idle, thinned, IsThinned, thinned-is, All-thinned, sum_by-thinned, length-thinned, idle-none, busy-cell, order-back, order-on, completion-thinned}

abbrev as_one : Bool → ℕ
as_one t = cond t 1 0

-- the other timetable fits too, is over by the horizon, and costs no more
record IsShorter (k : ProblemData) (rows other : Timetable) : Type 0 where
  pub fits : FitsProblem k other
  pub cost : problem_cost k other ≤ℤ problem_cost k rows
  pub within : length other ≤ horizon k

-- ---- release dates

fold-max-ge : (a : ℕ) (xs : List ℕ) → (a ≤ fold max a xs) × All (λ x. x ≤ fold max a xs) xs
fold-max-ge a [] = (omega arith, All-nil (λ x. x ≤ a))
fold-max-ge a (x ∷ xs) =
    let rest = fold-max-ge (max a x) xs in (
      omega (arith, rest.0),
      All-cons (λ y. y ≤ fold max (max a x) xs) x xs (omega (arith, rest.0)) rest.1,
    )

pub release-le-last : (k : ProblemData) (j : ℕ) → IsProblemJob k j → problem_release k j ≤ last_release k
release-le-last k j h =
    All-contains (λ i. problem_release k i ≤ last_release k) (problem_jobs k) j
    (of_map (λ x. x ≤ last_release k) (problem_release k) (problem_jobs k)
    (fold-max-ge 0 (map (problem_release k) (problem_jobs k))).1) (Contains-problem_jobs k j h)

-- ---- costs

greatest-rises : (k : ProblemData) → 1 ≤ length k.jobs → (f g : ℕ → ℤ)
    → ((j : ℕ) → IsProblemJob k j → f j ≤ℤ g j)
    → greatest f (problem_jobs k) ≤ℤ greatest g (problem_jobs k)
greatest-rises k some f g le =
    let top = greatest_reached f (length k.jobs) some in
    chain (greatest f (problem_jobs k)) (f top.0) (g top.0) (greatest g (problem_jobs k)) top.2
    (le top.0 top.1) (at-le-greatest k g top.0 top.1)
  where
    chain : (a b c d : ℤ) → a ≡ b → b ≤ℤ c → c ≤ℤ d → a ≤ℤ d
    chain a b c d p q s = omega (arith, ints)

-- costs are regular: where no job completes later, they are no greater
pub cost-rises : (k : ProblemData) → 1 ≤ length k.jobs → (other rows : Timetable)
    → ((j : ℕ) → IsProblemJob k j → completion other j ≤ completion rows j)
    → problem_cost k other ≤ℤ problem_cost k rows
cost-rises k some other rows le = by k.problem.goal
  where
    sums : (g : Goal)
        → sum_by (λ j. penalty g k j (completion other j)) (problem_jobs k)
        ≤ sum_by (λ j. penalty g k j (completion rows j)) (problem_jobs k)
    sums g =
        sum_by_le_all (λ j. penalty g k j (completion other j))
        (λ j. penalty g k j (completion rows j)) (problem_jobs k)
        (All-problem_jobs k (λ j. penalty g k j (completion other j) ≤ penalty g k j (completion rows j))
        (λ j h. penalty-rises g k j (completion other j) (completion rows j) (le j h)))

    later : (c e : ℕ) (d : ℤ) → c ≤ e → (pos c -ℤ d) ≤ℤ (pos e -ℤ d)
    later c e d h = omega (arith, ints)

    by : (g : Goal) → problem_cost_by g k other ≤ℤ problem_cost_by g k rows
    by goals.Cmax =
        greatest-rises k some (λ j. pos (completion other j)) (λ j. pos (completion rows j))
        (λ j h. let e = le j h in omega (arith, ints, e))
    by goals.Lmax =
        greatest-rises k some (λ j. lateness k j (completion other j))
        (λ j. lateness k j (completion rows j))
        (λ j h. later (completion other j) (completion rows j) (problem_job k j).due (le j h))
    by goals.Hmax = let e = sums goals.Hmax in omega (arith, ints, e)
    by goals.SumC = let e = sums goals.SumC in omega (arith, ints, e)
    by goals.SumWC = let e = sums goals.SumWC in omega (arith, ints, e)
    by goals.SumT = let e = sums goals.SumT in omega (arith, ints, e)
    by goals.SumWT = let e = sums goals.SumWT in omega (arith, ints, e)
    by goals.SumU = let e = sums goals.SumU in omega (arith, ints, e)
    by goals.SumWU = let e = sums goals.SumWU in omega (arith, ints, e)

-- ---- rows left out

-- an idle row has no unit of a job
idle-no_unit : (j i : ℕ) → 1 ≤ j → (row : Row) → is_idle row ≡ true → as_one (slice_index row i == j) ≡ 0
idle-no_unit j i some row h = omega (arith, cell-le-cells_of j some i row, idle-none j some row h)

module _ (k : ProblemData) (sound : IsProblemSound k) (rows : Timetable) (fits : FitsProblem k rows) where
  abbrev r : ℕ
  r = last_release k

  abbrev other : Timetable
  other = thinned r rows

  is : IsThinned r rows other
  is = thinned-is r rows

  thinned-fits : FitsProblem k other
  thinned-fits = record {
    width = All-thinned (λ row. length row ≡ k.machines) r rows fits.width;
    jobs_only = All-thinned (λ row. All (λ j. j ≤ length k.jobs) row) r rows fits.jobs_only;
    single_place = λ j low high.
        All-thinned (λ row. cells_of j row ≤ 1) r rows (fits.single_place j low high);
    amount = λ j low high. record {
      in_all = λ plain. sum_by-thinned (cells_of j) (idle-none j low) r rows
          ∙ (fits.amount j low high).in_all plain;
      on_each = λ shop i in'.
          sum_by-thinned (λ row. as_one (slice_index row i == j)) (idle-no_unit j i low) r rows
          ∙ (fits.amount j low high).on_each shop i in';
    };
    unbroken = λ whole j low high. let its = fits.unbroken whole j low high in
        record {
          no_gap = λ i s t u le1 le2 p q.
              is.same t i
              ∙ its.no_gap i (is.from s) (is.from t) (is.from u) (order-on r rows other is s t le1)
              (order-on r rows other is t u le2) (sym (is.same s i) ∙ p) (sym (is.same u i) ∙ q);
          one_machine = λ plain s t a b p q.
              its.one_machine plain (is.from s) (is.from t) a b (sym (is.same s a) ∙ p)
              (sym (is.same t b) ∙ q);
        };
    released = λ dated j low high t i e.
        ⊎_elim
        (λ at. omega (
          arith,
          fits.released dated j low high (is.from t) i (sym (is.same t i) ∙ e),
          at,
        ))
        (λ past. omega (
          arith,
          past,
          release-le-last k j (low, high),
          ap (λ b. cond b (problem_job k j).release 0) dated,
        ))
        (is.early t);
    in_order = λ prec n d h s t a b p q.
        order-back r rows other is s t
        (fits.in_order prec n d h (is.from s) (is.from t) a b (sym (is.same s a) ∙ p)
        (sym (is.same t b) ∙ q));
    on_route = λ j low high m n d lt in' s t p q.
        order-back r rows other is s t
        (fits.on_route j low high m n d lt in' (is.from s) (is.from t) (sym (is.same s _) ∙ p)
        (sym (is.same t _) ∙ q));
    one_order = λ prmu. let own = fits.one_order prmu in (
      own.0,
      own.1,
      λ m n d lt in' a s t p q.
          order-back r rows other is s t
          (own.2 m n d lt in' a (is.from s) (is.from t) (sym (is.same s a) ∙ p)
          (sym (is.same t a) ∙ q)),
    );
    without_wait = λ nwt j low high s t u a b le1 le2 p q.
        let at = fits.without_wait nwt j low high (is.from s) (is.from t) (is.from u) a b
        (order-on r rows other is s t le1) (order-on r rows other is t u le2)
        (sym (is.same s a) ∙ p) (sym (is.same u b) ∙ q) in
        (at.0, is.same t at.0 ∙ at.1);
  }

  -- where a measure of a job in a row sees each of its cells, and in all rows no more than its work
  within-by : (f : ℕ → Row → ℕ)
      → ((row : Row) → length row ≡ k.machines → (i c : ℕ) → i < length row → 1 ≤ c
      → slice_index row i ≡ c → 1 ≤ f c row)
      → ((j : ℕ) → IsProblemJob k j → sum_by (f j) rows ≤ problem_work k j)
      → length other ≤ horizon k
  within-by f sees small =
      omega (
        arith,
        length-thinned (λ row. sum_by (λ j. f j row) (problem_jobs k)) r rows busy,
        sum_by-swap f (problem_jobs k) rows,
        sum_by_le_all (λ j. sum_by (f j) rows) (problem_work k) (problem_jobs k)
            (All-problem_jobs k (λ j. sum_by (f j) rows ≤ problem_work k j) small),
      )
    where
      busy : All (λ row. is_idle row ≡ false → 1 ≤ sum_by (λ j. f j row) (problem_jobs k)) rows
      busy t d h idle =
          let row : Row = slice_index_or rows t d in
          let at = busy-cell row idle in
          let c : ℕ = slice_index row at.0 in
          let job : IsProblemJob k c = (at.2, fits.jobs_only t d h at.0 0 at.1) in
          let in' = Contains-problem_jobs k c job in
          omega (
            arith,
            sees row (fits.width t d h) at.0 c at.1 at.2 refl,
            get_or-le-sum_by (λ j. f j row) (problem_jobs k) in'.0 c in'.1,
            ap (λ j. f j row) in'.2,
          )

  within : length other ≤ horizon k
  within = by (is_shop_env k.problem.env) refl
    where
      below : (n d : ℕ) → n < length (range_with_len 0 k.machines)
          → get_or (range_with_len 0 k.machines) n d < k.machines
      below n d in' =
          let lt : n < k.machines = omega (arith, length-range_with_len 0 k.machines) in
          omega (arith, get_or-range_with_len 0 k.machines n d lt)

      by : (b : Bool) → is_shop_env k.problem.env ≡ b → length other ≤ horizon k
      by false plain =
          within-by cells_of
          (λ row w i c in' some e.
          omega (arith, cell-le-cells_of c some i row, ap as_one (eq-eqb (slice_index row i) c e)))
          (λ j h.
          omega (
            arith,
            (fits.amount j h.0 h.1).in_all plain,
            ap (λ s. cond s (time_over k j 0 k.machines) (problem_time k j)) plain,
          ))
      by true shop =
          within-by (λ j row. sum_by (λ i. as_one (slice_index row i == j)) (range_with_len 0 k.machines))
          (λ row w i c in' some e.
          let is : get_or (range_with_len 0 k.machines) i 0 ≡ i =
          get_or-range_with_len 0 k.machines i 0 (omega arith) ∙ omega arith in
          omega (
            arith,
            get_or-le-sum_by (λ i. as_one (slice_index row i == c)) (range_with_len 0 k.machines) i 0
                (omega (arith, length-range_with_len 0 k.machines)),
            ap (λ x. as_one (slice_index row x == c)) is,
            ap as_one (eq-eqb (slice_index row i) c e),
          ))
          (λ j h.
          omega (
            arith,
            sum_by-swap (λ i row. as_one (slice_index row i == j)) (range_with_len 0 k.machines) rows,
            sum_by-same_all (λ i. units rows j i) (problem_time_on k j) (range_with_len 0 k.machines)
                (λ n d in'. (fits.amount j h.0 h.1).on_each shop
                (get_or (range_with_len 0 k.machines) n d) (below n d in')),
            ap (λ s. cond s (time_over k j 0 k.machines) (problem_time k j)) shop,
          ))

  shorter : IsShorter k rows other
  shorter = record {
    fits = thinned-fits;
    cost = cost-rises k sound.some_job other rows
        (λ j h. completion-thinned r rows other is j h.0);
    within = within;
  }

shorter-law : (k : ProblemData) → IsProblemSound k → (rows : Timetable) → FitsProblem k rows
    → (other : Timetable) × IsShorter k rows other
shorter-law k sound rows fits = (thinned (last_release k) rows, shorter k sound rows fits)

pub horizon-law : (k : ProblemData) → IsProblemSound k → (b : ℤ)
    → ((rows : Timetable) → FitsProblem k rows → length rows ≤ horizon k → b ≤ℤ problem_cost k rows)
    → IsLowerBound k b
horizon-law k sound b bound rows fits =
    let at = shorter-law k sound rows fits in
    chain b (problem_cost k at.0) (problem_cost k rows) (bound at.0 at.1.fits at.1.within) at.1.cost
  where
    chain : (a b c : ℤ) → a ≤ℤ b → b ≤ℤ c → a ≤ℤ c
    chain a b c p q = omega (arith, ints)
