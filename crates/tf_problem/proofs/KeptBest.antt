-- The jobs that are kept, by due date, and then the others: as few are late as are crossed out.
use Rattle.std.proofs.Common.{◌≡◌, Bool, true, false, ℕ, ◌+◌, ◌-◌, ◌*◌, ◌==◌, ◌≤◌, int_lt, sum, List, [], ◌∷◌, ◌++◌, length, cond, refl, sym, ap, ◌∙◌, subst, arith, sum_by, count_by, All, ℤ, pos, negsuc, ◌≤ℤ◌, IsTrue, IsFalse, get_or, mul-le-mul_left}
use Rattle.std.specs.List.{AllPairs}
use Rattle.std.specs.List.Sorted.{IsPermutation}
use Rattle.std.proofs.lemmas.Int.{ints}
use Rattle.std.proofs.lemmas.Bool.{false≢true, true≢false, eq-eqb, or_left}
use Rattle.std.proofs.lemmas.List.Sums.{sum_by-cons, sum_by-append, get_or-le-sum_by}
use Rattle.std.proofs.lemmas.List.Sorted.{sum_by-IsPermutation, All-permutation}
use Rattle.std.proofs.lemmas.List.Elements.{All-weaker, All-cons, All-nil, All-head, All-tail, All-append}
use Rattle.std.proofs.lemmas.List.FromFn.{length-range_with_len, get_or-range_with_len}
use Rattle.tf_model.specs.declared.problem.Env.{Env}
use Rattle.tf_model.specs.declared.problem.Env.TheVariants.{Flow, JobShop}
use Rattle.tf_model.specs.declared.problem.Goal.TheVariants as goals
use Rattle.tf_model.specs.ClassTable.{is_single_env, is_parallel_env, is_shop_env}
use Rattle.tf_model.specs.Distinct.{IsDistinct}
use Rattle.tf_model.specs.Whole.{as_time}
use Rattle.tf_model.specs.Timetable.{Timetable, cells_of, completion}
use Rattle.tf_model.proofs.Loads.{once}
use Rattle.tf_check.specs.Bound.{least_number}
use Rattle.tf_posed.specs.ProblemData.{ProblemData, IsProblemSound, IsProblemJob, problem_jobs, problem_job, problem_time, problem_release, route_by}
use Rattle.tf_posed.specs.FitsProblem.{FitsProblem, VisitsFirst}
use Rattle.tf_posed.specs.ProblemCost.{problem_cost, problem_cost_by, unit_penalty, IsLowerBound, IsProblemBest}
use Rattle.tf_problem.specs.ProblemBounds.{is_alike}
use Rattle.tf_posed.proofs.Conditions.{All-problem_jobs}
use Rattle.tf_problem.proofs.Windows.{alike_no_shop}
use Rattle.tf_problem.specs.Kept.{IsRisingBy, due_time, room_by_due, kept_value}
use Rattle.tf_problem.proofs.Kept.{kept-bound}
use Rattle.tf_problem.proofs.Reached.{Part-none, AreTimely, Reached, reached}
use Rattle.tf_problem.proofs.InTurn.{block, in_turn, in_turn-all, one_cell-le, in_turn-units, block-completion, none-in_turn, in_turn-first, in_turn-no_gap}

abbrev as_one : Bool → ℕ
as_one t = cond t 1 0

-- ---- the jobs that are marked, and the others

unfoldable pub chosen : List Bool → List ℕ → List ℕ
chosen [] jobs = []
chosen (b ∷ marks) [] = []
chosen (b ∷ marks) (j ∷ jobs) = cond b (j ∷ chosen marks jobs) (chosen marks jobs)

unfoldable pub others : List Bool → List ℕ → List ℕ
others [] jobs = []
others (b ∷ marks) [] = []
others (b ∷ marks) (j ∷ jobs) = cond b (others marks jobs) (j ∷ others marks jobs)

chosen-all : (P : ℕ → Type 0) (marks : List Bool) (jobs : List ℕ) → All P jobs
    → All P (chosen marks jobs) × All P (others marks jobs)
unfolding chosen others
chosen-all P [] jobs all = (All-nil P, All-nil P)
chosen-all P (b ∷ marks) [] all = (All-nil P, All-nil P)
chosen-all P (true ∷ marks) (j ∷ jobs) all =
    let rest = chosen-all P marks jobs (All-tail P j jobs all) in
    (All-cons P j (chosen marks jobs) (All-head P j jobs all) rest.0, rest.1)
chosen-all P (false ∷ marks) (j ∷ jobs) all =
    let rest = chosen-all P marks jobs (All-tail P j jobs all) in
    (rest.0, All-cons P j (others marks jobs) (All-head P j jobs all) rest.1)

module _ (p room : ℕ → ℕ) where
  pub chosen-sum : (f : ℕ → ℕ) (w : ℕ) (marks : List Bool) (jobs : List ℕ) → AreTimely p room w marks jobs
      → sum_by f (chosen marks jobs) + sum_by f (others marks jobs) ≡ sum_by f jobs
  unfolding chosen others AreTimely
  chosen-sum f w [] [] timely = refl
  chosen-sum f w [] (j ∷ jobs) timely = absurd timely
  chosen-sum f w (b ∷ marks) [] timely = absurd timely
  chosen-sum f w (true ∷ marks) (j ∷ jobs) timely =
      omega (
        arith,
        chosen-sum f (w + p j) marks jobs timely.1,
        sum_by-cons f j (chosen marks jobs),
        sum_by-cons f j jobs,
      )
  chosen-sum f w (false ∷ marks) (j ∷ jobs) timely =
      omega (
        arith,
        chosen-sum f (w + 0) marks jobs timely.1,
        sum_by-cons f j (others marks jobs),
        sum_by-cons f j jobs,
      )

  others-length : (w : ℕ) (marks : List Bool) (jobs : List ℕ) → AreTimely p room w marks jobs
      → length (others marks jobs) + sum_by as_one marks ≡ length jobs
  unfolding others AreTimely
  others-length w [] [] timely = refl
  others-length w [] (j ∷ jobs) timely = absurd timely
  others-length w (b ∷ marks) [] timely = absurd timely
  others-length w (true ∷ marks) (j ∷ jobs) timely =
      omega (arith, others-length (w + p j) marks jobs timely.1, sum_by-cons as_one true marks)
  others-length w (false ∷ marks) (j ∷ jobs) timely =
      omega (arith, others-length (w + 0) marks jobs timely.1, sum_by-cons as_one false marks)

  -- each is over by its own room when they run in turn behind w
  abbrev AreOver : ℕ → List ℕ → Type 0
  AreOver w [] = Unit {0}
  AreOver w (j ∷ jobs) = (w + p j ≤ room j) × AreOver (w + p j) jobs

  chosen-over : (w v : ℕ) (marks : List Bool) (jobs : List ℕ) → w ≡ v → AreTimely p room w marks jobs
      → AreOver v (chosen marks jobs)
  unfolding chosen AreTimely
  chosen-over w v [] jobs is timely = tt
  chosen-over w v (b ∷ marks) [] is timely = tt
  chosen-over w v (true ∷ marks) (j ∷ jobs) is timely =
      (omega (arith, timely.0 refl, is), chosen-over (w + p j) (v + p j) marks jobs (omega (arith, is)) timely.1)
  chosen-over w v (false ∷ marks) (j ∷ jobs) is timely =
      chosen-over (w + 0) v marks jobs (omega (arith, is)) timely.1

  over-in_turn : (w : ℕ) (jobs rest : List ℕ) → AreOver w jobs → All (λ j. 1 ≤ p j) jobs
      → ((c : ℕ) → count_by (λ j. c == j) (jobs ++ rest) ≤ 1)
      → All (λ j. (w + completion (in_turn p (jobs ++ rest)) j ≤ room j) × (1 ≤ room j)) jobs
  unfolding in_turn
  over-in_turn w [] rest over some distinct =
      All-nil (λ j. (w + completion (in_turn p rest) j ≤ room j) × (1 ≤ room j))
  over-in_turn w (j ∷ jobs) rest over some distinct =
      let rows : Timetable = in_turn p (jobs ++ rest) in
      let none : completion rows j ≡ 0 =
      none-in_turn p (jobs ++ rest) j
      (omega (
        arith,
        distinct j,
        sum_by-cons (λ c. cond (j == c) 1 0) j (jobs ++ rest),
        ap as_one (eq-eqb j j refl),
      )) in
      All-cons (λ i. (w + completion (block (p j) j rows) i ≤ room i) × (1 ≤ room i)) j jobs (
        omega (arith, over.0, none, block-completion (p j) j j rows),
        omega (arith, over.0, All-head (λ i. 1 ≤ p i) j jobs some),
      )
      (All-weaker (λ i. (w + p j + completion rows i ≤ room i) × (1 ≤ room i))
      (λ i. (w + completion (block (p j) j rows) i ≤ room i) × (1 ≤ room i))
      (λ i h. (omega (arith, h.0, block-completion (p j) j i rows), h.1)) jobs
      (over-in_turn (w + p j) jobs rest over.1 (All-tail (λ i. 1 ≤ p i) j jobs some)
      (λ c. omega (arith, distinct c, sum_by-cons (λ i. cond (c == i) 1 0) j (jobs ++ rest)))))

-- ---- the task

pub route_none : (e : Env) → IsTrue (is_single_env e) → (k : ProblemData) (j : ℕ) → route_by e k j ≡ []
route_none Flow h k j = absurd (false≢true h)
route_none JobShop h k j = absurd (false≢true h)
route_none _ h k j = refl

rising-as : (f g : ℕ → ℕ) (s t : ℕ) (xs : List ℕ) → ((j : ℕ) → t ≤ f j → s ≤ g j)
    → ((i j : ℕ) → f i ≤ f j → g i ≤ g j) → IsRisingBy f t xs → IsRisingBy g s xs
rising-as f g s t [] from after rising = tt
rising-as f g s t (x ∷ xs) from after rising =
    (from x rising.0, rising-as f g (g x) (f x) xs (after x) after rising.1)

in-time : (c : ℕ) (d : ℤ) → 1 ≤ as_time d → c ≤ as_time d → ◌≡◌ {A = ℕ} (cond (int_lt d (pos c)) 1 0) 0
in-time c (negsuc n) some le = absurd (omega (arith, some))
in-time c (pos n) some le = by (int_lt (pos n) (pos c)) refl
  where
    over : (n c : ℕ) → c ≤ n → int_lt (pos n) (pos c) ≡ true → ⊥
    over n c le h = grind (arith, ints)

    by : (b : Bool) → int_lt (pos n) (pos c) ≡ b → ◌≡◌ {A = ℕ} (cond b 1 0) 0
    by true e = absurd (over n c le e)
    by false e = refl

sum-ones : {A : Type 0} (f : A → ℕ) (xs : List A) → ((x : A) → f x ≤ 1) → sum_by f xs ≤ length xs
sum-ones f [] small = omega arith
sum-ones f (x ∷ xs) small = omega (arith, sum_by-cons f x xs, small x, sum-ones f xs small)

pub sum-none : (f : ℕ → ℕ) (xs : List ℕ) → All (λ x. f x ≡ 0) xs → sum_by f xs ≡ 0
sum-none f [] all = refl
sum-none f (x ∷ xs) all =
    omega (
      arith,
      sum_by-cons f x xs,
      All-head (λ x. f x ≡ 0) x xs all,
      sum-none f xs (All-tail (λ x. f x ≡ 0) x xs all),
    )

-- each job is once among the jobs
pub once-own : (k : ProblemData) (j : ℕ) → IsProblemJob k j → count_by (λ c. j == c) (problem_jobs k) ≡ 1
once-own k j h =
    let i : ℕ = j - 1 in
    let here : get_or (problem_jobs k) i 0 ≡ j =
    get_or-range_with_len 1 (length k.jobs) i 0 (omega (arith, h.0, h.1))
    ∙ omega (arith, h.0) in
    omega (
      arith,
      once 1 (length k.jobs) j,
      get_or-le-sum_by (λ c. cond (j == c) 1 0) (problem_jobs k) i 0
          (omega (arith, h.0, h.1, length-range_with_len 1 (length k.jobs))),
      ap as_one (eq-eqb j (get_or (problem_jobs k) i 0) (sym here)),
    )

module _ (k : ProblemData) (sound : IsProblemSound k) (single : IsTrue (is_single_env k.problem.env))
    (unreleased : IsFalse k.problem.release) (unordered : IsFalse k.problem.prec)
    (free : IsFalse k.problem.prmu) (waits : IsFalse k.problem.nwt) (order : List ℕ)
    (own : (j : ℕ) → IsProblemJob k j → count_by (λ c. j == c) order ≡ 1)
    (distinct : IsDistinct order) (known : All (IsProblemJob k) order) where
  abbrev p : ℕ → ℕ
  p = problem_time k

  no_shop : IsFalse (is_shop_env k.problem.env)
  no_shop = alike_no_shop k (or_left (is_single_env k.problem.env) (is_parallel_env k.problem.env) single)

  fits-in_turn : FitsProblem k (in_turn p order)
  fits-in_turn = record {
    width = in_turn-all (λ row. length row ≡ k.machines) p order
        (λ n d h. sym (sound.single single));
    jobs_only = in_turn-all (λ row. All (λ j. j ≤ length k.jobs) row) p order
        (All-weaker (IsProblemJob k) (λ c. All (λ j. j ≤ length k.jobs) (c ∷ []))
        (λ c h. All-cons (λ j. j ≤ length k.jobs) c [] h.1 (All-nil (λ j. j ≤ length k.jobs))) order known);
    single_place = λ j low high.
        in_turn-all (λ row. cells_of j row ≤ 1) p order (λ n d h. one_cell-le j (get_or order n d));
    amount = λ j low high. record {
      in_all = λ _. in_turn-units p order j ∙ ap (λ n. p j * n) (own j (low, high)) ∙ omega arith;
      on_each = λ shop. absurd (true≢false (sym shop ∙ no_shop));
    };
    unbroken = λ _ j low high. record {
      no_gap = λ i s t u le1 le2 at end. in_turn-no_gap p order distinct i s t u j low le1 le2 at end;
      one_machine = λ _ s t a b e f.
          in_turn-first p order s a j low e ∙ sym (in_turn-first p order t b j low f);
    };
    released = λ e. absurd (true≢false (sym e ∙ unreleased));
    in_order = λ e. absurd (true≢false (sym e ∙ unordered));
    on_route = λ j low high.
        subst (AllPairs (VisitsFirst (in_turn p order) j)) (sym (route_none k.problem.env single k j))
        (λ i n d lt h. absurd (omega arith));
    one_order = λ e. absurd (true≢false (sym e ∙ free));
    without_wait = λ e. absurd (true≢false (sym e ∙ waits));
  }

-- a timetable of all jobs in which the jobs that are marked are on time
pub record Played (k : ProblemData) (marks : List Bool) (jobs : List ℕ) : Type 0 where
  pub rows : Timetable
  pub fits : FitsProblem k rows
  pub early : All (λ j. unit_penalty k j (completion rows j) ≡ 0) (chosen marks jobs)

pub played : (k : ProblemData) → IsProblemSound k → IsTrue (is_single_env k.problem.env)
    → IsFalse k.problem.release → IsFalse k.problem.prec
    → IsFalse k.problem.prmu → IsFalse k.problem.nwt → (jobs : List ℕ)
    → IsPermutation (problem_jobs k) jobs → (w : ℕ) → w ≡ 0 → (marks : List Bool)
    → AreTimely (problem_time k) (room_by_due k jobs) w marks jobs → Played k marks jobs
played k sound single unreleased unordered free waits jobs moved w nothing marks timely =
    let n : ℕ = length k.jobs in
    let p : ℕ → ℕ = problem_time k in
    let room : ℕ → ℕ = room_by_due k jobs in
    let r : ℕ = least_number (problem_release k) jobs in
    let alike : IsTrue (is_alike k.problem.env) =
    or_left (is_single_env k.problem.env) (is_parallel_env k.problem.env) single in
    let known : All (IsProblemJob k) jobs =
    All-permutation (IsProblemJob k) (problem_jobs k) jobs moved
    (All-problem_jobs k (IsProblemJob k) (λ j h. h)) in
    let distinct : IsDistinct jobs =
    λ c. omega (
      arith,
      once 1 n c,
      sum_by-IsPermutation (λ j. cond (c == j) 1 0) (problem_jobs k) jobs moved,
    ) in
    let first : List ℕ = chosen marks jobs in
    let last : List ℕ = others marks jobs in
    let order : List ℕ = first ++ last in
    let counts : (f : ℕ → ℕ) → sum_by f order ≡ sum_by f jobs =
    λ f. sum_by-append f first last ∙ chosen-sum p room f w marks jobs timely in
    let own : (j : ℕ) → IsProblemJob k j → count_by (λ c. j == c) order ≡ 1 =
    λ j h. counts (λ c. cond (j == c) 1 0)
    ∙ sum_by-IsPermutation (λ c. cond (j == c) 1 0) (problem_jobs k) jobs moved ∙ once-own k j h in
    let apart : IsDistinct order =
    λ c. omega (arith, distinct c, counts (λ j. cond (c == j) 1 0)) in
    let parts = chosen-all (IsProblemJob k) marks jobs known in
    let rows : Timetable = in_turn p order in
    let c : ℕ → ℕ = completion rows in
    let u : ℕ → ℕ = λ j. unit_penalty k j (c j) in
    let over : All (λ j. (0 + c j ≤ room j) × (1 ≤ room j)) first =
    over-in_turn p room 0 first last
    (chosen-over p room w 0 marks jobs nothing timely)
    (All-weaker (IsProblemJob k) (λ j. 1 ≤ p j)
    (λ j h. (sound.one_time (alike_no_shop k alike) j h).1) first parts.0)
    apart in
    let within : (j : ℕ) → room j ≤ due_time k j =
    λ j. omega (arith, ap (λ m. m * (due_time k j - r)) (sound.single single)) in
    record {
      rows = rows;
      fits = fits-in_turn k sound single unreleased unordered free waits order own apart
          (All-append (IsProblemJob k) first last parts.0 parts.1);
      early = All-weaker (λ j. (0 + c j ≤ room j) × (1 ≤ room j)) (λ j. u j ≡ 0)
          (λ j h. in-time (c j) (problem_job k j).due (omega (arith, h.1, within j))
          (omega (arith, h.0, within j)))
          first over;
    }

pub kept-best : (k : ProblemData) → IsProblemSound k → IsTrue (is_single_env k.problem.env)
    → k.problem.goal ≡ goals.SumU → IsFalse k.problem.release → IsFalse k.problem.prec
    → IsFalse k.problem.prmu → IsFalse k.problem.nwt → (jobs : List ℕ)
    → IsPermutation (problem_jobs k) jobs → IsRisingBy (due_time k) 0 jobs
    → (rows : Timetable) × IsProblemBest k rows (pos (kept_value k jobs))
kept-best k sound single goal unreleased unordered free waits jobs moved rising =
    let n : ℕ = length k.jobs in
    let p : ℕ → ℕ = problem_time k in
    let room : ℕ → ℕ = room_by_due k jobs in
    let r : ℕ = least_number (problem_release k) jobs in
    let alike : IsTrue (is_alike k.problem.env) =
    or_left (is_single_env k.problem.env) (is_parallel_env k.problem.env) single in
    let known : All (IsProblemJob k) jobs =
    All-permutation (IsProblemJob k) (problem_jobs k) jobs moved
    (All-problem_jobs k (IsProblemJob k) (λ j h. h)) in
    let distinct : IsDistinct jobs =
    λ c. omega (
      arith,
      once 1 n c,
      sum_by-IsPermutation (λ j. cond (c == j) 1 0) (problem_jobs k) jobs moved,
    ) in
    let late : IsRisingBy room 0 jobs =
    rising-as (due_time k) room 0 0 jobs (λ j h. omega arith)
    (λ i j le. mul-le-mul_left k.machines (less (due_time k i) (due_time k j) r le)) rising in
    let at : Reached p room [] jobs = reached p room 0 [] jobs tt (omega arith) late in
    let nothing : at.stay ≡ [] = Part-none at.part in
    let first : List ℕ = chosen at.marks jobs in
    let last : List ℕ = others at.marks jobs in
    let it : Played k at.marks jobs =
    played k sound single unreleased unordered free waits jobs moved (sum at.stay) (ap sum nothing)
    at.marks at.timely in
    let rows : Timetable = it.rows in
    let c : ℕ → ℕ = completion rows in
    let u : ℕ → ℕ = λ j. unit_penalty k j (c j) in
    let none : sum_by u first ≡ 0 = sum-none u first it.early in
    let some : sum_by u last ≤ length last = sum-ones u last (λ j. at_most (int_lt (problem_job k j).due (pos (c j)))) in
    let all : sum_by u (problem_jobs k) ≤ kept_value k jobs =
    omega (
      arith,
      none,
      some,
      chosen-sum p room u (sum at.stay) at.marks jobs at.timely,
      sum_by-IsPermutation u (problem_jobs k) jobs moved,
      others-length p room (sum at.stay) at.marks jobs at.timely,
      at.many,
      ap length nothing,
    ) in
    let least : IsLowerBound k (pos (kept_value k jobs)) =
    kept-bound k sound alike goal jobs distinct known rising in
    let cost : problem_cost k rows ≡ pos (sum_by u (problem_jobs k)) =
    ap (λ g. problem_cost_by g k rows) goal in
    let bound : pos (kept_value k jobs) ≤ℤ problem_cost k rows = least rows it.fits in (
      rows,
      record {
        fits = it.fits;
        value = equal (problem_cost k rows) (sum_by u (problem_jobs k)) (kept_value k jobs) cost all bound;
        least = least;
      },
    )
  where
    less : (a b r : ℕ) → a ≤ b → a - r ≤ b - r
    less a b r h = omega arith

    at_most : (t : Bool) → cond t 1 0 ≤ 1
    at_most true = omega arith
    at_most false = omega arith

    equal : (z : ℤ) (a b : ℕ) → z ≡ pos a → a ≤ b → pos b ≤ℤ z → z ≡ pos b
    equal z a b is le ge = is ∙ ap pos (omega (arith, ints, is, le, ge))
