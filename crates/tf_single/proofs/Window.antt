-- The bound of the window of a stretch is the greatest lateness.
use Rattle.std.proofs.Common.{◌≡◌, ℕ, ◌+◌, ◌≤◌, ◌<◌, min, List, [], ◌∷◌, map, fold, true, length, slice_index, get_or, ap, ◌∙◌, arith, sum_by, All, Contains, ℤ, pos, ◌-ℤ◌, ◌≤ℤ◌, None, Ok}
use Rattle.std.specs.Int.{int_max}
use Rattle.std.proofs.lemmas.Int.{ints, int_max_is}
use Rattle.std.proofs.lemmas.Bool.{false≢true}
use Rattle.std.proofs.lemmas.List.Elements.{All-contains, All-head, All-tail, All-cons, All-nil, Contains-get_or}
use Rattle.tf_model.specs.Timetable.{Timetable, completion}
use Rattle.tf_model.specs.ClassTable.{is_single}
use Rattle.tf_model.specs.SchedulingTask.{SchedulingTask, IsJob, job_data, time_of}
use Rattle.tf_model.specs.declared.class.Class.TheVariants.{ReleaseLmax}
use Rattle.tf_model.specs.Feasible.{FitsBroken}
use Rattle.tf_model.specs.Sound.{IsSound}
use Rattle.tf_model.proofs.Work.{IsDistinct}
use Rattle.tf_check.specs.Bound.{list_fault, window_bound, greatest as greatest_of}
use Rattle.tf_check.specs.Kinds.{takes_window}
pub use Rattle.tf_check.proofs.NoFault.{list_fault_none}
use Rattle.tf_check.proofs.JobLists.{window_given, least_number_is, greatest_is}
use Rattle.tf_single.specs.EarliestDue.{RunsEarliestDue, IsStretch, jobs_within}
use Rattle.tf_single.proofs.Stretch.{window_jobs, window_distinct, window_says, window_due, latest_within, window-is}

-- ---- least and greatest

least-fold-le : (f : ℕ → ℕ) (a : ℕ) (xs : List ℕ)
    → (fold min a (map f xs) ≤ a) × All (λ j. fold min a (map f xs) ≤ f j) xs
least-fold-le f a [] = (omega arith, All-nil (λ j. a ≤ f j))
least-fold-le f a (x ∷ xs) =
    let rest = least-fold-le f (min a (f x)) xs in (
      omega (arith, rest.0),
      All-cons (λ j. fold min (min a (f x)) (map f xs) ≤ f j) x xs (omega (arith, rest.0)) rest.1,
    )

le-least-fold : (f : ℕ → ℕ) (s a : ℕ) (xs : List ℕ) → s ≤ a → All (λ j. s ≤ f j) xs
    → s ≤ fold min a (map f xs)
le-least-fold f s a [] h all = h
le-least-fold f s a (x ∷ xs) h all =
    let first : s ≤ f x = All-head (λ j. s ≤ f j) x xs all in
    le-least-fold f s (min a (f x)) xs (omega arith) (All-tail (λ j. s ≤ f j) x xs all)

greatest-fold-le : (f : ℕ → ℤ) (d a : ℤ) (xs : List ℕ) → a ≤ℤ d → All (λ j. f j ≤ℤ d) xs
    → fold int_max a (map f xs) ≤ℤ d
greatest-fold-le f d a [] h all = h
greatest-fold-le f d a (x ∷ xs) h all =
    let first : f x ≤ℤ d = All-head (λ j. f j ≤ℤ d) x xs all in
    greatest-fold-le f d (int_max a (f x)) xs (omega (arith, ints, int_max_is a (f x)))
    (All-tail (λ j. f j ≤ℤ d) x xs all)

le-greatest-fold : (f : ℕ → ℤ) (a : ℤ) (xs : List ℕ)
    → (a ≤ℤ fold int_max a (map f xs)) × All (λ j. f j ≤ℤ fold int_max a (map f xs)) xs
le-greatest-fold f a [] = (omega (arith, ints), All-nil (λ j. f j ≤ℤ a))
le-greatest-fold f a (x ∷ xs) =
    let rest = le-greatest-fold f (int_max a (f x)) xs in (
      omega (arith, ints, rest.0, int_max_is a (f x)),
      All-cons (λ j. f j ≤ℤ fold int_max (int_max a (f x)) (map f xs)) x xs
          (omega (arith, ints, rest.0, int_max_is a (f x))) rest.1,
    )

-- ---- the window

-- the bound of the window of the last stretch before the latest job is the greatest lateness
pub window-reaches : (k : SchedulingTask) (rows : Timetable) → IsSound k → k.class ≡ ReleaseLmax
    → FitsBroken k rows → RunsEarliestDue k rows
    → (l : ℕ) → IsJob k l
    → ((j : ℕ) → IsJob k j
    → (pos (completion rows j) -ℤ (job_data k j).due)
    ≤ℤ (pos (completion rows l) -ℤ (job_data k l).due))
    → (s : ℕ) → IsStretch k rows (job_data k l).due s (completion rows l)
    → window_bound k (jobs_within k rows s (completion rows l))
    ≡ Ok (pos (completion rows l) -ℤ (job_data k l).due)
window-reaches k rows sound class fits earliest l job greatest s stretch =
    let single : is_single k.class ≡ true = ap is_single class in
    let jobs : List ℕ = jobs_within k rows s (completion rows l) in
    let in' : All (IsJob k) jobs =
    window_jobs k rows sound fits single earliest l job greatest s stretch in
    let distinct : IsDistinct jobs =
    window_distinct k rows sound fits single earliest l job greatest s stretch in
    let at : Contains jobs l =
    latest_within k rows sound fits single earliest l job greatest s stretch in
    let some : 0 < length jobs = omega (arith, at.1) in
    let releases : ℕ → ℕ = λ j. (job_data k j).release in
    let dues : ℕ → ℤ = λ j. (job_data k j).due in
    let no_fault : list_fault k [] jobs ≡ None =
    list_fault_none k [] jobs in' distinct (λ c e. absurd (false≢true e)) in
    let late : All (λ j. s ≤ releases j) jobs =
    λ i d h.
    (window_says k rows sound fits single earliest l job greatest s stretch (get_or jobs i d)
    (Contains-get_or jobs i d h)).0 in
    let due : All (λ j. dues j ≤ℤ dues l) jobs =
    λ i d h. window_due k rows sound fits single earliest l job greatest s stretch
    (get_or jobs i d) (Contains-get_or jobs i d h) in
    let r : ℕ = fold min (releases (slice_index jobs 0)) (map releases jobs) in
    let d : ℤ = fold int_max (dues (slice_index jobs 0)) (map dues jobs) in
    let r_least : s ≤ r =
    le-least-fold releases s (releases (slice_index jobs 0)) jobs (late 0 0 some) late in
    let r_late : All (λ j. r ≤ releases j) jobs =
    (least-fold-le releases (releases (slice_index jobs 0)) jobs).1 in
    let work : r + sum_by (time_of k) jobs ≡ completion rows l =
    window-is k rows sound fits single earliest l job greatest s stretch r r_least r_late in
    let d_high : d ≤ℤ dues l =
    greatest-fold-le dues (dues l) (dues (slice_index jobs 0)) jobs (due 0 0 some) due in
    let d_low : dues l ≤ℤ d =
    All-contains (λ j. dues j ≤ℤ d) jobs l
    (le-greatest-fold dues (dues (slice_index jobs 0)) jobs).1 at in
    let same : d ≡ dues l = omega (arith, ints, d_high, d_low) in
    window_given k jobs (ap takes_window class) no_fault some
    ∙ ap (λ z. Ok (pos (z + sum_by (time_of k) jobs) -ℤ greatest_of dues jobs))
    (least_number_is releases jobs some)
    ∙ ap (λ z. Ok (pos (r + sum_by (time_of k) jobs) -ℤ z)) (greatest_is dues jobs some)
    ∙ ap (λ z. Ok (pos z -ℤ d)) work
    ∙ ap (λ z. Ok (pos (completion rows l) -ℤ z)) same
