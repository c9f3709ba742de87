-- One step along a list of jobs, and what a window bounds.
use Rattle.std.proofs.Common.{IsTrue, ◌&&◌, refl, map, fold, min, sum_by, All, ℤ, slice_index, Ok, ◌≡◌, ⊎_elim, ℕ, ◌+◌, ◌-◌, ◌≤◌, ◌<◌, Bool, true, false, not, ◌||◌, ◌==◌, cond, nat_lt, nat_le, List, [], ◌∷◌, ◌++◌, length, get_or, take, drop, set, Some, None, sym, ap, ◌∙◌, arith}
use Rattle.std.proofs.lemmas.Bool.{and_from, and_parts, lt-ltb, le-leb, and_right, cases_eq, eq-eqb, ne_eqb}
use Rattle.std.proofs.lemmas.Bool.Decides.{nat_tests}
use Rattle.std.proofs.lemmas.List.{drop_all, drop_more, take_more, map_more, length-set, get_or-set_same, get_or-set_other}
use Rattle.std.proofs.lemmas.List.Sums.{fold_push}
use Rattle.std.specs.Int.{int_max}
use Rattle.tf_model.specs.Limit.{limit}
use Rattle.tf_model.specs.Sound.{IsSound}
use Rattle.tf_model.proofs.Ranks.{sum_by-le-all_jobs}
use Rattle.tf_model.specs.SchedulingTask.{SchedulingTask, IsJob, time_of}
use Rattle.tf_model.specs.Bounds.{stands_in}
use Rattle.tf_model.specs.declared.class.Class.{Class}
use Rattle.tf_model.specs.ClassTable.{is_due, is_released, is_single}
use Rattle.tf_check.specs.Kinds.{takes_window}
use Rattle.tf_check.specs.Free.{AreMarks}
use Rattle.tf_check.specs.Laws.{list_fault_says}
use Rattle.tf_model.specs.Outcome.{unless}
use Rattle.tf_check.specs.Bound.{is_job, list_fault, other_kind, empty_fault, window_bound, window_span, least_number, greatest}
use Rattle.tf_check.specs.declared.fault.BoundFault.TheVariants.{BadJob, Repeated}

-- ---- the list as it is judged

-- what has been judged decides no more
abbrev pub IsJudged : SchedulingTask → List ℕ → ℕ → Type 0
IsJudged k xs i = list_fault k [] xs ≡ list_fault k (take i xs) (drop i xs)

module _ (k : SchedulingTask) (xs : List ℕ) (i x : ℕ) (lt : i < length xs) (at : x ≡ get_or xs i x)
  where
    module _ (judged : IsJudged k xs i) where
      at_job : list_fault k [] xs
          ≡ cond (not (is_job k x)) (Some (BadJob x))
          (cond (stands_in (take i xs) x) (Some (Repeated x))
          (list_fault k (take (i + 1) xs) (drop (i + 1) xs)))
      at_job =
          let before : take i xs ++ x ∷ [] ≡ take (i + 1) xs = ap (λ z. take i xs ++ z ∷ []) at
          ∙ sym (take_more xs i x lt) in
          judged
          ∙ ap (list_fault k (take i xs)) (drop_more xs i x lt)
          ∙ ap (λ z. list_fault k (take i xs) (z ∷ drop (i + 1) xs)) (sym at)
          ∙ ap (λ s. cond (not (is_job k x)) (Some (BadJob x))
          (cond (stands_in (take i xs) x) (Some (Repeated x)) (list_fault k s (drop (i + 1) xs))))
          before

      pub judged_bad : length k.jobs < x → list_fault k [] xs ≡ Some (BadJob x)
      judged_bad beyond =
          let no : is_job k x ≡ false =
          and_right (nat_lt 0 x) (nat_le x (length k.jobs)) (not_le x (length k.jobs) beyond) in
          at_job ∙ ap (λ t. cond (not t) (Some (BadJob x))
          (cond (stands_in (take i xs) x) (Some (Repeated x))
          (list_fault k (take (i + 1) xs) (drop (i + 1) xs)))) no
        where
          not_le : (a b : ℕ) → b < a → nat_le a b ≡ false
          not_le a b h = grind (arith, nat_tests)

      module _ (job : IsJob k x) where
        at_known : list_fault k [] xs
            ≡ cond (stands_in (take i xs) x) (Some (Repeated x))
            (list_fault k (take (i + 1) xs) (drop (i + 1) xs))
        at_known =
            let yes : is_job k x ≡ true =
            and_from (nat_lt 0 x) (nat_le x (length k.jobs)) (lt-ltb 0 x job.0)
            (le-leb x (length k.jobs) job.1) in
            at_job ∙ ap (λ t. cond (not t) (Some (BadJob x))
            (cond (stands_in (take i xs) x) (Some (Repeated x))
            (list_fault k (take (i + 1) xs) (drop (i + 1) xs)))) yes

        pub judged_twice : (seen : List Bool) → AreMarks k seen (take i xs)
            → get_or seen (x - 1) false ≡ true → list_fault k [] xs ≡ Some (Repeated x)
        judged_twice seen marks e = at_known
            ∙ ap (λ t. cond t (Some (Repeated x)) (list_fault k (take (i + 1) xs) (drop (i + 1) xs)))
            (sym (marks.marked x job) ∙ e)

        pub judged_more : (seen : List Bool) → AreMarks k seen (take i xs)
            → get_or seen (x - 1) false ≡ false → IsJudged k xs (i + 1)
        judged_more seen marks e = at_known
            ∙ ap (λ t. cond t (Some (Repeated x)) (list_fault k (take (i + 1) xs) (drop (i + 1) xs)))
            (sym (marks.marked x job) ∙ e)

    module _ (job : IsJob k x) where
      stands_push : (ys : List ℕ) (j c : ℕ)
          → stands_in (ys ++ j ∷ []) c ≡ (stands_in ys c || (j == c))
      stands_push [] j c = or_false (j == c)
        where
          or_false : (b : Bool) → (b || false) ≡ b
          or_false true = refl
          or_false false = refl
      stands_push (y ∷ ys) j c = ap (λ t. (y == c) || t) (stands_push ys j c)
          ∙ or_assoc (y == c) (stands_in ys c) (j == c)
        where
          or_assoc : (a b d : Bool) → (a || (b || d)) ≡ ((a || b) || d)
          or_assoc true b d = refl
          or_assoc false b d = refl

      or_with : (a b d : Bool) → b ≡ d → (a || b) ≡ (a || d)
      or_with a b d e = ap (λ t. a || t) e

      or_true : (a : Bool) → (a || true) ≡ true
      or_true true = refl
      or_true false = refl

      or_none : (a : Bool) → (a || false) ≡ a
      or_none true = refl
      or_none false = refl

      pub marks_more : (seen : List Bool) → AreMarks k seen (take i xs)
          → AreMarks k (set seen (x - 1) true) (take (i + 1) xs)
      marks_more seen marks = record {
        len = length-set seen (x - 1) true ∙ marks.len;
        marked = λ c known.
            let more : stands_in (take (i + 1) xs) c ≡ (stands_in (take i xs) c || (x == c)) =
            ap (λ ys. stands_in ys c) (take_more xs i x lt ∙ ap (λ z. take i xs ++ z ∷ []) (sym at))
            ∙ stands_push (take i xs) x c in
            ⊎_elim
            (λ same. ap (λ n. get_or (set seen (x - 1) true) (n - 1) false) same
            ∙ get_or-set_same seen (x - 1) true false (omega (arith, marks.len, job.0, job.1))
            ∙ sym (more ∙ or_with (stands_in (take i xs) c) (x == c) true (eq-eqb x c (sym same))
            ∙ or_true (stands_in (take i xs) c)))
            (λ differ. get_or-set_other seen (x - 1) (c - 1) true false
            (λ e. differ (omega (arith, known.0, job.0))) ∙ marks.marked c known
            ∙ sym (more ∙ or_with (stands_in (take i xs) c) (x == c) false
            (ne_eqb x c (λ e. differ (sym e))) ∙ or_none (stands_in (take i xs) c)))
            (cases_eq c x);
      }

-- ---- what a list without a fault says

pub jobs_in_task : (k : SchedulingTask) (xs : List ℕ) → list_fault k [] xs ≡ None → All (IsJob k) xs
jobs_in_task k xs none = (list_fault_says k [] xs none).0

-- and when all has been judged
pub judged_in_task : (k : SchedulingTask) (xs : List ℕ) (i : ℕ) → length xs ≤ i → IsJudged k xs i
    → All (IsJob k) xs
judged_in_task k xs i end judged =
    jobs_in_task k xs (judged ∙ ap (list_fault k (take i xs)) (drop_all i xs end))

-- the times of distinct jobs are within the total
pub times_within : (k : SchedulingTask) → IsSound k → (xs : List ℕ) → list_fault k [] xs ≡ None
    → sum_by (time_of k) xs ≤ limit
times_within k sound xs none =
    let says = list_fault_says k [] xs none in
    omega (arith, sum_by-le-all_jobs k (time_of k) xs (λ c. (says.1 c).1) says.0, sound.total)

-- ---- the least and the greatest, as they are found

pub fold-map_more : {Y : Type 0} (h : Y → Y → Y) (a : Y) (f : ℕ → Y) (xs : List ℕ) (i x : ℕ)
    → i < length xs → x ≡ get_or xs i x
    → fold h a (map f (take (i + 1) xs)) ≡ h (fold h a (map f (take i xs))) (f x)
fold-map_more h a f xs i x lt e =
    ap (fold h a) (map_more f xs i x lt) ∙ fold_push h a (map f (take i xs)) (f (get_or xs i x))
    ∙ ap (λ z. h (fold h a (map f (take i xs))) (f z)) (sym e)

pub least_number_is : (f : ℕ → ℕ) (xs : List ℕ) → 0 < length xs
    → least_number f xs ≡ fold min (f (slice_index xs 0)) (map f xs)
least_number_is f [] h = absurd (omega arith)
least_number_is f (x ∷ xs) h = refl

pub greatest_is : (f : ℕ → ℤ) (xs : List ℕ) → 0 < length xs
    → greatest f xs ≡ fold int_max (f (slice_index xs 0)) (map f xs)
greatest_is f [] h = absurd (omega arith)
greatest_is f (x ∷ xs) h = refl

pub not_empty : (xs : List ℕ) → 0 < length xs → empty_fault xs ≡ None
not_empty [] h = absurd (omega arith)
not_empty (x ∷ xs) h = refl

-- where no fault comes first, the bound is given
pub window_given : (k : SchedulingTask) (xs : List ℕ) → takes_window k.class ≡ true
    → list_fault k [] xs ≡ None → 0 < length xs → window_bound k xs ≡ Ok (window_span k xs)
window_given k xs class none some =
    ap (λ t. unless (other_kind t)
    (unless (list_fault k [] xs) (unless (empty_fault xs) (Ok (window_span k xs))))) class
    ∙ ap (λ o. unless o (unless (empty_fault xs) (Ok (window_span k xs)))) none
    ∙ ap (λ o. unless o (Ok (window_span k xs))) (not_empty xs some)

-- a class that takes windows has due dates and release dates
pub window_facts : (c : Class) → takes_window c ≡ true → IsTrue (is_due c) × IsTrue (is_released c)
window_facts c e =
    let asked = is_due c && (is_single c && is_released c) in
    let facts = and_parts (is_due c) (is_single c && is_released c) e in
    (facts.0, (and_parts (is_single c) (is_released c) facts.1).1)
