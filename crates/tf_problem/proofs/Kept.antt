-- As many jobs are late as are crossed out.
use Rattle.std.proofs.Common.{◌≡◌, Bool, true, false, not, ℕ, suc, ◌+◌, ◌-◌, ◌*◌, ◌≤◌, ◌==◌, int_lt, List, [], ◌∷◌, length, get_or, take, drop, cond, refl, sym, ap, subst, arith, sum_by, count_by, All, ℤ, pos, negsuc, ◌≤ℤ◌, IsTrue, mul-le-mul_left, length-take, length-drop}
use Rattle.std.proofs.lemmas.Int.{ints}
use Rattle.std.proofs.lemmas.List.Sums.{sum_by-cons}
use Rattle.std.proofs.lemmas.List.Elements.{All-weaker, All-take, All-drop, All-cons, All-nil, All-head, All-tail}
use Rattle.tf_model.specs.declared.problem.Goal.TheVariants as goals
use Rattle.tf_model.specs.Distinct.{IsDistinct}
use Rattle.tf_model.specs.Whole.{as_time}
use Rattle.tf_model.specs.Timetable.{Timetable, cells_of, all_units, completion}
use Rattle.tf_model.proofs.Sums.{sum_by_le_all}
use Rattle.tf_model.proofs.Work.{cells-le-length, work-le-rows}
use Rattle.tf_check.specs.Bound.{least_number}
use Rattle.tf_posed.specs.ProblemData.{ProblemData, IsProblemSound, IsProblemJob, problem_jobs, problem_job, problem_time, problem_release}
use Rattle.tf_posed.specs.FitsProblem.{FitsProblem}
use Rattle.tf_posed.specs.ProblemCost.{problem_cost, problem_cost_by, unit_penalty, IsLowerBound}
use Rattle.tf_problem.specs.ProblemBounds.{is_alike}
use Rattle.tf_problem.proofs.Relaxing.{problem_release-le-row}
use Rattle.tf_problem.proofs.Least.{least_number-le}
use Rattle.tf_problem.proofs.ProblemLists.{sum_by-le-jobs}
use Rattle.tf_problem.proofs.Windows.{cells-between}
use Rattle.tf_problem.specs.Kept.{put, within_room, kept_by, IsRisingBy, due_time, room_by_due, kept, kept_value}
use Rattle.tf_problem.proofs.Piles.{first, Rising, put-length, put-rising, put-more, put-same, within_room-keeps}

abbrev as_one : Bool → ℕ
as_one t = cond t 1 0

-- ---- numbers

module _ (p room : ℕ → ℕ) (on : ℕ → Bool) where
  -- there is room for the jobs that are on time, behind w that are done
  abbrev pub Timely : ℕ → List ℕ → Type 0
  Timely w [] = Unit {0}
  Timely w (j ∷ jobs) = (on j ≡ true → w + p j ≤ room j) × Timely (w + cond (on j) (p j) 0) jobs

  -- no more jobs are on time than are kept
  pub on-le-kept : (times jobs : List ℕ) (n w : ℕ) → Rising 0 times → n ≤ length times
      → first n times ≤ w → Timely w jobs
      → n + sum_by (λ j. as_one (on j)) jobs ≤ length (kept_by p room times jobs)
  on-le-kept times [] n w rising few small timely = omega arith
  on-le-kept times (j ∷ jobs) n w rising few small timely =
      by (on j) refl
      (λ m v r f s t. on-le-kept (within_room (room j) (put (p j) times)) jobs m v r f s t)
    where
      more : List ℕ
      more = put (p j) times

      next : List ℕ
      next = within_room (room j) more

      by : (b : Bool) → on j ≡ b
          → ((m v : ℕ) → Rising 0 next → m ≤ length next → first m next ≤ v → Timely v jobs
          → m + sum_by (λ i. as_one (on i)) jobs ≤ length (kept_by p room next jobs))
          → n + sum_by (λ i. as_one (on i)) (j ∷ jobs) ≤ length (kept_by p room next jobs)
      by true is further =
          let kept' = within_room-keeps (suc n) (w + p j) (room j) more
          (put-rising 0 (p j) times (omega arith) rising)
          (omega (arith, few, put-length (p j) times))
          (omega (arith, small, put-more n (p j) times))
          (λ _. timely.0 is) in
          omega (
            arith,
            sum_by-cons (λ i. as_one (on i)) j jobs,
            ap as_one is,
            further (suc n) (w + p j) kept'.0 kept'.1 kept'.2
                (subst (λ b. Timely (w + cond b (p j) 0) jobs) is timely.1),
          )
      by false is further =
          let kept' = within_room-keeps n w (room j) more
          (put-rising 0 (p j) times (omega arith) rising)
          (omega (arith, few, put-length (p j) times))
          (omega (arith, small, put-same n (p j) 0 times rising few))
          (λ all. absurd (omega (arith, all, few, put-length (p j) times))) in
          omega (
            arith,
            sum_by-cons (λ i. as_one (on i)) j jobs,
            ap as_one is,
            further n w kept'.0 kept'.1 kept'.2
                (subst (λ v. Timely v jobs) (none (cond (on j) (p j) 0) (ap (λ b. cond b (p j) 0) is))
                timely.1),
          )
        where
          none : (x : ℕ) → x ≡ 0 → w + x ≡ w
          none x e = omega arith

-- ---- jobs on time

-- whether the job completes by its due date
abbrev pub on_time : ProblemData → Timetable → ℕ → Bool
on_time k rows j = not (int_lt (problem_job k j).due (pos (completion rows j)))

by-due : (c : ℕ) (d : ℤ) → not (int_lt d (pos c)) ≡ true → c ≤ as_time d
by-due c d h = as-time c d (at-most c d (int_lt d (pos c)) refl h)
  where
    as-time : (c : ℕ) (d : ℤ) → pos c ≤ℤ d → c ≤ as_time d
    as-time c (pos n) h = omega (arith, ints)
    as-time c (negsuc n) h = absurd (omega (arith, ints))

    not-below : (c : ℕ) (d : ℤ) → int_lt d (pos c) ≡ false → pos c ≤ℤ d
    not-below c d h = grind (arith, ints)

    at-most : (c : ℕ) (d : ℤ) (b : Bool) → int_lt d (pos c) ≡ b → not b ≡ true → pos c ≤ℤ d
    at-most c d true e h = cc
    at-most c d false e h = not-below c d e

module _ (k : ProblemData) (sound : IsProblemSound k) (alike : IsTrue (is_alike k.problem.env))
    (rows : Timetable) (fits : FitsProblem k rows) (r : ℕ) where
  -- jobs that are released at r or later and complete by a time have room in between
  pub done-room : (jobs : List ℕ) → IsDistinct jobs → All (IsProblemJob k) jobs
      → All (λ j. r ≤ problem_release k j) jobs → (on : ℕ → Bool) (c : ℕ)
      → All (λ j. on j ≡ true → completion rows j ≤ c) jobs
      → sum_by (λ j. cond (on j) (problem_time k j) 0) jobs ≤ k.machines * (c - r)
  done-room jobs distinct known early on c ends =
      let part : Timetable = drop r (take c rows) in
      let room : All (λ row. sum_by (λ j. cells_of j row) jobs ≤ k.machines) rows =
      All-weaker (λ row. length row ≡ k.machines)
      (λ row. sum_by (λ j. cells_of j row) jobs ≤ k.machines)
      (λ row w. omega (arith, cells-le-length jobs distinct row)) rows fits.width in
      let work : sum_by (λ j. all_units part j) jobs ≤ length part * k.machines =
      work-le-rows cells_of k.machines jobs part
      (All-drop (λ row. sum_by (λ j. cells_of j row) jobs ≤ k.machines) r (take c rows)
      (All-take (λ row. sum_by (λ j. cells_of j row) jobs ≤ k.machines) c rows room)) in
      let asked : sum_by (λ j. cond (on j) (problem_time k j) 0) jobs
      ≤ sum_by (λ j. all_units part j) jobs =
      sum_by_le_all (λ j. cond (on j) (problem_time k j) 0) (λ j. all_units part j) jobs
      (λ i d h. its (get_or jobs i d) (known i d h) (early i d h) (ends i d h) (on (get_or jobs i d)) refl) in
      let short : length part ≤ c - r =
      omega (arith, length-drop r (take c rows), length-take c rows) in
      let all : k.machines * length part ≤ k.machines * (c - r) = mul-le-mul_left k.machines short in
      omega (arith, work, asked, all)
    where
      its : (j : ℕ) → IsProblemJob k j → r ≤ problem_release k j → (on j ≡ true → completion rows j ≤ c)
          → (b : Bool) → on j ≡ b
          → cond b (problem_time k j) 0 ≤ all_units (drop r (take c rows)) j
      its j h from to false e = omega arith
      its j h from to true e =
          cells-between k sound alike rows fits j h r c
          (λ s i at. ≤-trans from (problem_release-le-row k rows fits j h s i at)) (to e)
        where
          ≤-trans : {a b c : ℕ} → a ≤ b → b ≤ c → a ≤ c
          ≤-trans p q = omega arith

  abbrev on : ℕ → Bool
  on = on_time k rows

  abbrev done : ℕ → ℕ
  done j = cond (on j) (problem_time k j) 0

  -- along a list that rises by due date there is room for the jobs that are on time
  pub timely : (seen jobs : List ℕ) (t w : ℕ) → ((c : ℕ) → count_by (λ j. c == j) seen + count_by (λ j. c == j) jobs ≤ 1)
      → All (IsProblemJob k) seen → All (IsProblemJob k) jobs
      → All (λ j. r ≤ problem_release k j) seen → All (λ j. r ≤ problem_release k j) jobs
      → All (λ j. due_time k j ≤ t) seen → IsRisingBy (due_time k) t jobs
      → sum_by done seen ≡ w
      → Timely (problem_time k) (λ j. k.machines * (due_time k j - r)) on w jobs
  timely seen [] t w distinct known known' early early' due rising is = tt
  timely seen (j ∷ jobs) t w distinct known known' early early' due rising is =
      let now : All (λ i. due_time k i ≤ due_time k j) (j ∷ seen) =
      All-cons (λ i. due_time k i ≤ due_time k j) j seen (omega arith)
      (All-weaker (λ i. due_time k i ≤ t) (λ i. due_time k i ≤ due_time k j)
      (λ i h. omega (arith, h, rising.0)) seen due) in
      let all : All (IsProblemJob k) (j ∷ seen) =
      All-cons (IsProblemJob k) j seen (All-head (IsProblemJob k) j jobs known') known in
      let from : All (λ i. r ≤ problem_release k i) (j ∷ seen) =
      All-cons (λ i. r ≤ problem_release k i) j seen
      (All-head (λ i. r ≤ problem_release k i) j jobs early') early in
      let apart : (c : ℕ) → count_by (λ i. c == i) (j ∷ seen) + count_by (λ i. c == i) jobs ≤ 1 =
      λ c. omega (
        arith,
        distinct c,
        sum_by-cons (λ i. cond (c == i) 1 0) j seen,
        sum_by-cons (λ i. cond (c == i) 1 0) j jobs,
      ) in
      let sums : sum_by done (j ∷ seen) ≡ w + done j = omega (arith, is, sum_by-cons done j seen) in
      let room : sum_by done (j ∷ seen) ≤ k.machines * (due_time k j - r) =
      done-room (j ∷ seen) (λ c. omega (arith, apart c)) all from on (due_time k j)
      (All-weaker (λ i. due_time k i ≤ due_time k j) (λ i. on i ≡ true → completion rows i ≤ due_time k j)
      (λ i h is. omega (arith, h, by-due (completion rows i) (problem_job k i).due is)) (j ∷ seen) now) in (
        λ at. omega (arith, room, sums, ap (λ b. cond b (problem_time k j) 0) at),
        timely (j ∷ seen) jobs (due_time k j) (w + done j) apart all
            (All-tail (IsProblemJob k) j jobs known') from
            (All-tail (λ i. r ≤ problem_release k i) j jobs early') now rising.1 sums,
      )

-- ---- late jobs

-- each job is late or on time
late-or-on : (k : ProblemData) (rows : Timetable) (jobs : List ℕ)
    → sum_by (λ j. unit_penalty k j (completion rows j)) jobs + sum_by (λ j. as_one (on_time k rows j)) jobs
    ≡ length jobs
late-or-on k rows [] = refl
late-or-on k rows (j ∷ jobs) =
    omega (
      arith,
      late-or-on k rows jobs,
      sum_by-cons (λ i. unit_penalty k i (completion rows i)) j jobs,
      sum_by-cons (λ i. as_one (on_time k rows i)) j jobs,
      either (int_lt (problem_job k j).due (pos (completion rows j))),
    )
  where
    either : (b : Bool) → cond b 1 0 + cond (not b) 1 0 ≡ 1
    either true = refl
    either false = refl

pub kept-bound : (k : ProblemData) → IsProblemSound k → IsTrue (is_alike k.problem.env)
    → k.problem.goal ≡ goals.SumU → (jobs : List ℕ) → IsDistinct jobs → All (IsProblemJob k) jobs
    → IsRisingBy (due_time k) 0 jobs → IsLowerBound k (pos (kept_value k jobs))
kept-bound k sound alike goal jobs distinct known rising rows fits =
    let r : ℕ = least_number (problem_release k) jobs in
    let late : ℕ → ℕ = λ j. unit_penalty k j (completion rows j) in
    let cost : problem_cost k rows ≡ pos (sum_by late (problem_jobs k)) =
    ap (λ g. problem_cost_by g k rows) goal in
    let room : Timely (problem_time k) (room_by_due k jobs) (on_time k rows) 0 jobs =
    timely k sound alike rows fits r [] jobs 0 0 (λ c. omega (arith, distinct c))
    (All-nil (IsProblemJob k)) known (All-nil (λ j. r ≤ problem_release k j))
    (least_number-le (problem_release k) jobs) (All-nil (λ j. due_time k j ≤ 0)) rising refl in
    let few : 0 + sum_by (λ j. as_one (on_time k rows j)) jobs ≤ length (kept k jobs) =
    on-le-kept (problem_time k) (room_by_due k jobs) (on_time k rows) [] jobs 0 0 tt (omega arith)
    (omega arith) room in
    subst (λ z. pos (kept_value k jobs) ≤ℤ z) (sym cost)
    (omega (
      arith,
      ints,
      few,
      late-or-on k rows jobs,
      sum_by-le-jobs k late jobs distinct known,
    ))
