-- A bound that is given is at most the cost of every timetable that fits.
use Rattle.std.proofs.Common.{◌≡◌, ℕ, suc, ◌+◌, ◌-◌, ◌≤◌, ◌<◌, ◌⊎◌, ℤ, pos, negsuc, ◌≤ℤ◌, List, [], ◌∷◌, ◌++◌, map, length, min, Bool, true, false, not, ◌&&◌, ◌||◌, ◌==◌, cond, nat_lt, nat_le, int_le, unsigned_abs, Option, Some, None, Result, Ok, Err, refl, sym, ap, ◌∙◌, subst, inl, inr, ⊎_elim, sum_by, count_by, filter, All, Contains, slice_index_or, find, option_map, arith}
use Rattle.std.specs.List.{fold, list_any}
use Rattle.std.specs.Int.{int_min, int_max}
use Rattle.std.proofs.lemmas.Bool.{false≢true, and_parts, or_cases, or_left, or_right, not-true, not-false, ltb-true, ltb-false, leb-true, eqb-true, eq-eqb, ne_eqb, cases_Bool, cases_eq}
use Rattle.std.proofs.lemmas.Int.{fold-int_min_bounds, fold-int_max_bounds}
use Rattle.std.proofs.lemmas.List.Sums.{sum_by-cons, list_all-from_AllPass}
use Rattle.std.proofs.lemmas.List.Elements.{All-cons, All-nil, All-head, All-tail, All-contains}
use Rattle.tf_model.specs.declared.class.Class.{Class}
use Rattle.tf_model.proofs.Classes.{spanning, total, late, parallel_is_no_shop, parallel_unweighted}
use Rattle.tf_model.specs.SchedulingTask.{SchedulingTask, all_jobs, IsJob, job_data, time_of, time_on}
use Rattle.tf_model.specs.ClassTable.{is_shop, is_single, is_parallel, is_flow, is_released, is_weighted, is_span, is_due, is_sum, is_total, may_break}
use Rattle.tf_model.specs.Timetable.{Timetable}
use Rattle.tf_model.specs.Sound.{IsSound}
use Rattle.tf_model.specs.Feasible.{Fits, FitsBroken}
use Rattle.tf_model.specs.Bounds.{load_value, pairs_value, ranks_value, split_value, stands_in}
use Rattle.tf_model.specs.Cost.{cost, cost_by, greatest_price, objective_of, price, Objective, Makespan, Lateness, Total}
use Rattle.tf_model.proofs.Loads.{load-le-cost, one_job-le-cost, machine-le-cost}
use Rattle.tf_model.proofs.Pairs.{pairs-le-cost}
use Rattle.tf_model.proofs.LastOf.{HasNoSuccessorIn, last_of-le-cost}
use Rattle.tf_model.proofs.Window.{window-le-cost}
use Rattle.tf_model.proofs.Ranks.{ranks-le-cost}
use Rattle.tf_model.proofs.RankSums.{Falling}
use Rattle.tf_model.proofs.SplitBound.{split_first-le-cost, split_second-le-cost, Contains-all_jobs}
use Rattle.tf_model.proofs.Costs.{All-all_jobs}
use Rattle.tf_check.specs.Kinds.{takes_load, takes_one_job, takes_pairs, takes_last_of, takes_window, takes_split, takes_machine, takes_ranks}
use Rattle.tf_check.specs.declared.fault.BoundFault.{BoundFault}
use Rattle.tf_check.specs.declared.fault.BoundFault.TheVariants.{BadMachine, BadJob, Repeated, Condition, BadDelta}
use Rattle.tf_check.specs.Claim.{Claim, ByPairs, ByLastOf, ByWindow, BySplit, ByLoad, ByMachine, ByOneJob, ByRanks}
use Rattle.tf_model.specs.Outcome.{unless}
use Rattle.tf_check.specs.Bound.{bound_by, other_kind, is_job, job_fault, list_fault, empty_fault, is_free, free_jobs, no_free_fault, least, load_bound, one_job_bound, pairs_bound, last_of_bound, machine_fault, machine_bound, window_bound, least_number, greatest, longer_fault, ranks_fault, ranks_bound, window_span, keeps_side, side_fault, reaches_delta, delta_fault, split_bound}

-- what a bound that is given says of the faults before it
pub unless_ok : (o : Option BoundFault) (r : Result ℤ BoundFault) (b : ℤ) → unless o r ≡ Ok b
    → (o ≡ None) × (r ≡ Ok b)
unless_ok (Some fault) r b e = cc
unless_ok None r b e = (refl, e)

pub for_class : (t : Bool) → other_kind t ≡ None → t ≡ true
for_class true e = refl
for_class false e = cc

-- the bound in an answer
abbrev pub bound_in : Result ℤ BoundFault → ℤ
bound_in (Ok b) = b
bound_in (Err fault) = pos 0

-- a value behind faults that are judged one after another
abbrev pub behind : List (Option BoundFault) → ℤ → Result ℤ BoundFault
behind [] value = Ok value
behind (fault ∷ faults) value = unless fault (behind faults value)

abbrev pub AreNone : List (Option BoundFault) → Type 0
AreNone [] = Unit {0}
AreNone (fault ∷ faults) = (fault ≡ None) × AreNone faults

-- a bound that is given is the value, and none of the faults before it is there
pub behind_says : (faults : List (Option BoundFault)) (value b : ℤ) → behind faults value ≡ Ok b
    → AreNone faults × (value ≡ b)
behind_says [] value b e = (tt, ap bound_in e)
behind_says (fault ∷ faults) value b e =
    let first = unless_ok fault (behind faults value) b e in
    let others = behind_says faults value b first.1 in
    ((first.0, others.0), others.1)

-- ---- what the faults that are not there say

is_job_says : (k : SchedulingTask) (j : ℕ) → is_job k j ≡ true → IsJob k j
is_job_says k j e =
    let p = and_parts (nat_lt 0 j) (nat_le j (length k.jobs)) e in
    (ltb-true 0 j p.0, leb-true j (length k.jobs) p.1)

job_fault_says : (k : SchedulingTask) (j : ℕ) → job_fault k j ≡ None → IsJob k j
job_fault_says k j e = by_test (is_job k j) refl e
  where
    by_test : (t : Bool) → is_job k j ≡ t → cond t None (Some (BadJob j)) ≡ None → IsJob k j
    by_test true e h = is_job_says k j e
    by_test false e h = cc

-- a machine without a fault is 1 or 2
machine_fault_says : (machine : ℕ) → machine_fault machine ≡ None → (0 < machine) × (machine ≤ 2)
machine_fault_says machine e = by_test (nat_lt 0 machine && nat_le machine 2) refl e
  where
    by_test : (t : Bool) → (nat_lt 0 machine && nat_le machine 2) ≡ t
        → cond t None (Some (BadMachine machine)) ≡ None → (0 < machine) × (machine ≤ 2)
    by_test true e h = let p = and_parts (nat_lt 0 machine) (nat_le machine 2) e in
        (ltb-true 0 machine p.0, leb-true machine 2 p.1)
    by_test false e h = cc

stands_in_last : (seen : List ℕ) (j c : ℕ) → (j == c) ≡ true → stands_in (seen ++ j ∷ []) c ≡ true
stands_in_last [] j c e = or_left (j == c) false e
stands_in_last (x ∷ seen) j c e =
    or_right (x == c) (stands_in (seen ++ j ∷ []) c) (stands_in_last seen j c e)

stands_in_before : (seen : List ℕ) (j c : ℕ) → stands_in seen c ≡ true
    → stands_in (seen ++ j ∷ []) c ≡ true
stands_in_before [] j c e = absurd (false≢true e)
stands_in_before (x ∷ seen) j c e =
    ⊎_elim
    (λ here. or_left (x == c) (stands_in (seen ++ j ∷ []) c) here)
    (λ later. or_right (x == c) (stands_in (seen ++ j ∷ []) c) (stands_in_before seen j c later))
    (or_cases (x == c) (stands_in seen c) e)

-- the numbers are jobs, none stands twice, and none is among those seen before
pub list_fault_says : (k : SchedulingTask) (seen jobs : List ℕ) → list_fault k seen jobs ≡ None
    → All (IsJob k) jobs
    × ((c : ℕ) → (stands_in seen c ≡ true → count_by (λ j. c == j) jobs ≡ 0)
    × (count_by (λ j. c == j) jobs ≤ 1))
list_fault_says k seen [] e = (All-nil (IsJob k), λ c. (λ _. refl, omega arith))
list_fault_says k seen (j ∷ jobs) e =
    by_tests (is_job k j) (stands_in seen j) refl refl e (list_fault_says k (seen ++ j ∷ []) jobs)
  where
    by_tests : (t s : Bool) → is_job k j ≡ t → stands_in seen j ≡ s
        → cond (not t) (Some (BadJob j))
        (cond s (Some (Repeated j)) (list_fault k (seen ++ j ∷ []) jobs)) ≡ None
        → (list_fault k (seen ++ j ∷ []) jobs ≡ None → All (IsJob k) jobs
        × ((c : ℕ) → (stands_in (seen ++ j ∷ []) c ≡ true → count_by (λ i. c == i) jobs ≡ 0)
        × (count_by (λ i. c == i) jobs ≤ 1)))
        → All (IsJob k) (j ∷ jobs)
        × ((c : ℕ) → (stands_in seen c ≡ true → count_by (λ i. c == i) (j ∷ jobs) ≡ 0)
        × (count_by (λ i. c == i) (j ∷ jobs) ≤ 1))
    by_tests false s et es h rest = cc
    by_tests true true et es h rest = cc
    by_tests true false et es h rest =
        let further = rest h in (
          All-cons (IsJob k) j jobs (is_job_says k j et) further.0,
          λ c.
              let add : count_by (λ i. c == i) (j ∷ jobs) ≡ cond (c == j) 1 0
              + count_by (λ i. c == i) jobs = sum_by-cons (λ i. cond (c == i) 1 0) j jobs in
              ⊎_elim
              (λ same.
              let none : count_by (λ i. c == i) jobs ≡ 0 =
              (further.1 c).0 (stands_in_last seen j c (eq-eqb j c (sym same))) in (
                λ in'. absurd (false≢true (sym es ∙ ap (stands_in seen) (sym same) ∙ in')),
                omega (arith, add, none, ap {B = ℕ} (λ t. cond t 1 0) (eq-eqb c j same)),
              ))
              (λ differ. (
                λ in'. omega (
                  arith,
                  add,
                  (further.1 c).0 (stands_in_before seen j c in'),
                  ap {B = ℕ} (λ t. cond t 1 0) (ne_eqb c j differ),
                ),
                omega (
                  arith,
                  add,
                  (further.1 c).1,
                  ap {B = ℕ} (λ t. cond t 1 0) (ne_eqb c j differ),
                ),
              ))
              (cases_eq c j),
        )

empty_fault_says : (jobs : List ℕ) → empty_fault jobs ≡ None → 0 < length jobs
empty_fault_says [] e = cc
empty_fault_says (j ∷ jobs) e = omega arith

-- ---- the least and the greatest of a list

All-of_map : {X : Type 0} (P : X → Type 0) (f : ℕ → X) (xs : List ℕ) → All P (map f xs)
    → All (λ x. P (f x)) xs
All-of_map P f [] all = All-nil (λ x. P (f x))
All-of_map P f (x ∷ xs) all =
    All-cons (λ y. P (f y)) x xs (All-head P (f x) (map f xs) all)
    (All-of_map P f xs (All-tail P (f x) (map f xs) all))

least_says : (f : ℕ → ℤ) (jobs : List ℕ) → All (λ j. least f jobs ≤ℤ f j) jobs
least_says f [] = All-nil (λ j. pos 0 ≤ℤ f j)
least_says f (j ∷ jobs) =
    let r : ℤ = fold int_min (f j) (map f (j ∷ jobs)) in
    All-of_map (λ z. r ≤ℤ z) f (j ∷ jobs) (fold-int_min_bounds (f j) (map f (j ∷ jobs)) r refl).1

greatest_says : (f : ℕ → ℤ) (jobs : List ℕ) → All (λ j. f j ≤ℤ greatest f jobs) jobs
greatest_says f [] = All-nil (λ j. f j ≤ℤ pos 0)
greatest_says f (j ∷ jobs) =
    let r : ℤ = fold int_max (f j) (map f (j ∷ jobs)) in
    All-of_map (λ z. z ≤ℤ r) f (j ∷ jobs) (fold-int_max_bounds (f j) (map f (j ∷ jobs)) r refl).1

fold-min-le : (a : ℕ) (xs : List ℕ) → (fold min a xs ≤ a) × All (λ x. fold min a xs ≤ x) xs
fold-min-le a [] = (omega arith, All-nil (λ x. a ≤ x))
fold-min-le a (x ∷ xs) =
    let rest = fold-min-le (min a x) xs in (
      omega (arith, rest.0),
      All-cons (λ y. fold min (min a x) xs ≤ y) x xs (omega (arith, rest.0)) rest.1,
    )

least_number_says : (f : ℕ → ℕ) (jobs : List ℕ) → All (λ j. least_number f jobs ≤ f j) jobs
least_number_says f [] = All-nil (λ j. 0 ≤ f j)
least_number_says f (j ∷ jobs) =
    let r : ℕ = fold min (f j) (map f (j ∷ jobs)) in
    All-of_map (λ z. r ≤ z) f (j ∷ jobs) (fold-min-le (f j) (map f (j ∷ jobs))).1

filter_says : (P : ℕ → Type 0) (test : ℕ → Bool) (jobs : List ℕ) → All P (filter test jobs)
    → All (λ j. test j ≡ true → P j) jobs
filter_says P test [] all = All-nil (λ j. test j ≡ true → P j)
filter_says P test (j ∷ jobs) all = by_test (test j) refl all (filter_says P test jobs)
  where
    by_test : (t : Bool) → test j ≡ t → All P (cond t (j ∷ filter test jobs) (filter test jobs))
        → (All P (filter test jobs) → All (λ i. test i ≡ true → P i) jobs)
        → All (λ i. test i ≡ true → P i) (j ∷ jobs)
    by_test true e all rest =
        All-cons (λ i. test i ≡ true → P i) j jobs (λ _. All-head P j (filter test jobs) all)
        (rest (All-tail P j (filter test jobs) all))
    by_test false e all rest =
        All-cons (λ i. test i ≡ true → P i) j jobs (λ t. absurd (false≢true (sym e ∙ t))) (rest all)

-- ---- tests along a list

stands_in_says : (jobs : List ℕ) (c : ℕ) → stands_in jobs c ≡ true → Contains jobs c
stands_in_says [] c e = absurd (false≢true e)
stands_in_says (j ∷ jobs) c e =
    ⊎_elim
    (λ here. (0, omega arith, eqb-true j c here))
    (λ later. let rest = stands_in_says jobs c later in (suc rest.0, omega (arith, rest.1), rest.2))
    (or_cases (j == c) (stands_in jobs c) e)

list_any_says : (P : ℕ → Type 0) (test : ℕ → Bool) (jobs : List ℕ) → All P jobs
    → list_any test jobs ≡ true → (x : ℕ) × P x × (test x ≡ true)
list_any_says P test [] all e = absurd (false≢true e)
list_any_says P test (j ∷ jobs) all e =
    ⊎_elim
    (λ here. (j, All-head P j jobs all, here))
    (λ later. list_any_says P test jobs (All-tail P j jobs all) later)
    (or_cases (test j) (list_any test jobs) e)

find_says : (test : ℕ → Bool) (jobs : List ℕ) → option_map Condition (find test jobs) ≡ None
    → All (λ j. test j ≡ false) jobs
find_says test [] e = All-nil (λ j. test j ≡ false)
find_says test (j ∷ jobs) e = by_test (test j) refl e (find_says test jobs)
  where
    by_test : (t : Bool) → test j ≡ t
        → option_map Condition (cond t (Some j) (find test jobs)) ≡ None
        → (option_map Condition (find test jobs) ≡ None → All (λ i. test i ≡ false) jobs)
        → All (λ i. test i ≡ false) (j ∷ jobs)
    by_test true e h rest = cc
    by_test false e h rest = All-cons (λ i. test i ≡ false) j jobs e (rest h)

-- ---- what a bound that is given says, kind by kind

pub load_says : (k : SchedulingTask) (b : ℤ) → load_bound k ≡ Ok b
    → (takes_load k.class ≡ true) × (pos (load_value k) ≡ b)
load_says k b is =
    let says = behind_says (other_kind (takes_load k.class) ∷ []) (pos (load_value k)) b is in
    (for_class (takes_load k.class) says.0.0, says.1)

pub one_job_says : (k : SchedulingTask) (j : ℕ) (b : ℤ) → one_job_bound k j ≡ Ok b
    → (takes_one_job k.class ≡ true) × IsJob k j × (pos (time_of k j) ≡ b)
one_job_says k j b is =
    let says = behind_says (other_kind (takes_one_job k.class) ∷ job_fault k j ∷ [])
    (pos (time_of k j)) b is in
    (for_class (takes_one_job k.class) says.0.0, job_fault_says k j says.0.1.0, says.1)

pub pairs_says : (k : SchedulingTask) (b : ℤ) → pairs_bound k ≡ Ok b
    → (takes_pairs k.class ≡ true) × (pos (pairs_value k) ≡ b)
pairs_says k b is =
    let says = behind_says (other_kind (takes_pairs k.class) ∷ []) (pos (pairs_value k)) b is in
    (for_class (takes_pairs k.class) says.0.0, says.1)

-- the machine is 1 or 2
pub machine_says : (k : SchedulingTask) (machine : ℕ) (b : ℤ) → machine_bound k machine ≡ Ok b
    → (takes_machine k.class ≡ true) × (0 < machine) × (machine ≤ 2)
    × (pos (sum_by (λ j. time_on k j (machine - 1)) (all_jobs k)) ≡ b)
machine_says k machine b is =
    let says = behind_says (other_kind (takes_machine k.class) ∷ machine_fault machine ∷ [])
    (pos (sum_by (λ j. time_on k j (machine - 1)) (all_jobs k))) b is in
    let range = machine_fault_says machine says.0.1.0 in
    (for_class (takes_machine k.class) says.0.0, range.0, range.1, says.1)

pub last_of_says : (k : SchedulingTask) (jobs : List ℕ) (b : ℤ) → last_of_bound k jobs ≡ Ok b
    → (takes_last_of k.class ≡ true) × (list_fault k [] jobs ≡ None) × (0 < length jobs)
    × (least (λ j. price k j (sum_by (time_of k) jobs)) (free_jobs k jobs) ≡ b)
last_of_says k jobs b is =
    let says = behind_says
    (other_kind (takes_last_of k.class) ∷ list_fault k [] jobs ∷ empty_fault jobs
    ∷ no_free_fault (free_jobs k jobs) jobs ∷ [])
    (least (λ j. price k j (sum_by (time_of k) jobs)) (free_jobs k jobs)) b is in (
      for_class (takes_last_of k.class) says.0.0,
      says.0.1.0,
      empty_fault_says jobs says.0.1.1.0,
      says.1,
    )

pub window_says : (k : SchedulingTask) (jobs : List ℕ) (b : ℤ) → window_bound k jobs ≡ Ok b
    → (takes_window k.class ≡ true) × (list_fault k [] jobs ≡ None) × (0 < length jobs)
    × (window_span k jobs ≡ b)
window_says k jobs b is =
    let says = behind_says
    (other_kind (takes_window k.class) ∷ list_fault k [] jobs ∷ empty_fault jobs ∷ [])
    (window_span k jobs) b is in (
      for_class (takes_window k.class) says.0.0,
      says.0.1.0,
      empty_fault_says jobs says.0.1.1.0,
      says.1,
    )

pub ranks_says : (k : SchedulingTask) (jobs : List ℕ) (b : ℤ) → ranks_bound k jobs ≡ Ok b
    → (takes_ranks k.class ≡ true) × (list_fault k [] jobs ≡ None) × (ranks_fault k jobs ≡ None)
    × (pos (ranks_value k jobs) ≡ b)
ranks_says k jobs b is =
    let says = behind_says
    (other_kind (takes_ranks k.class) ∷ list_fault k [] jobs ∷ empty_fault jobs
    ∷ ranks_fault k jobs ∷ [])
    (pos (ranks_value k jobs)) b is in
    (for_class (takes_ranks k.class) says.0.0, says.0.1.0, says.0.1.1.1.0, says.1)

pub split_says : (k : SchedulingTask) (side : List ℕ) (delta : ℤ) (first : Bool) (b : ℤ)
    → split_bound k side delta first ≡ Ok b
    → (takes_split k.class ≡ true) × (list_fault k [] side ≡ None)
    × (side_fault k side delta first ≡ None) × (delta_fault k side delta first ≡ None)
    × (pos (split_value k side (unsigned_abs delta)) ≡ b)
split_says k side delta first b is =
    let says = behind_says
    (other_kind (takes_split k.class) ∷ list_fault k [] side ∷ side_fault k side delta first
    ∷ delta_fault k side delta first ∷ [])
    (pos (split_value k side (unsigned_abs delta))) b is in (
      for_class (takes_split k.class) says.0.0,
      says.0.1.0,
      says.0.1.1.0,
      says.0.1.1.1.0,
      says.1,
    )

-- ---- the laws

load_class : (c : Class) → takes_load c ≡ true → (objective_of c ≡ Makespan) × (is_shop c ≡ false)
load_class c e =
    let facts = and_parts (is_span c) (is_parallel c) e in
    (spanning c facts.0, parallel_is_no_shop c facts.1)

pub load_law : (k : SchedulingTask) (rows : Timetable) (b : ℤ) → IsSound k → load_bound k ≡ Ok b
    → FitsBroken k rows → b ≤ℤ cost k rows
load_law k rows b sound is fits =
    let says = load_says k b is in
    let class = load_class k.class says.0 in
    subst (λ z. z ≤ℤ cost k rows) says.1 (load-le-cost k rows sound fits class.0 class.1)

one_job_class : (c : Class) → takes_one_job c ≡ true → objective_of c ≡ Makespan
one_job_class c e = spanning c (and_parts (is_span c) (not (is_flow c)) e).0

pub one_job_law : (k : SchedulingTask) (j : ℕ) (rows : Timetable) (b : ℤ) → IsSound k
    → one_job_bound k j ≡ Ok b → FitsBroken k rows → b ≤ℤ cost k rows
one_job_law k j rows b sound is fits =
    let says = one_job_says k j b is in
    subst (λ z. z ≤ℤ cost k rows) says.2
    (one_job-le-cost k rows fits (one_job_class k.class says.0) j says.1)

pairs_class : (c : Class) → takes_pairs c ≡ true → (objective_of c ≡ Total) × (is_single c ≡ true)
pairs_class c e =
    let facts = and_parts (is_sum c) (is_single c) e in
    (total c facts.0, facts.1)

pub pairs_law : (k : SchedulingTask) (rows : Timetable) (b : ℤ) → IsSound k → pairs_bound k ≡ Ok b
    → FitsBroken k rows → b ≤ℤ cost k rows
pairs_law k rows b sound is fits =
    let says = pairs_says k b is in
    let class = pairs_class k.class says.0 in
    subst (λ z. z ≤ℤ cost k rows) says.1 (pairs-le-cost k rows sound fits class.1 class.0)

machine_class : (c : Class) → takes_machine c ≡ true
    → (objective_of c ≡ Makespan) × (is_shop c ≡ true)
machine_class c e =
    let facts = and_parts (is_span c) (is_shop c && not (is_flow c)) e in
    (spanning c facts.0, (and_parts (is_shop c) (not (is_flow c)) facts.1).0)

pub machine_law : (k : SchedulingTask) (machine : ℕ) (rows : Timetable) (b : ℤ) → IsSound k
    → machine_bound k machine ≡ Ok b → FitsBroken k rows → b ≤ℤ cost k rows
machine_law k machine rows b sound is fits =
    let says = machine_says k machine b is in
    let class = machine_class k.class says.0 in
    subst (λ z. z ≤ℤ cost k rows) says.3
    (machine-le-cost k rows sound fits class.0 class.1 (machine - 1)
    (omega (arith, says.1, says.2)))

last_of_class : (c : Class) → takes_last_of c ≡ true
    → ((o : Objective) × (objective_of c ≡ o)
    × ((k : SchedulingTask) (rows : Timetable) → cost_by o k rows ≡ greatest_price k rows))
    × (is_single c ≡ true)
last_of_class c e =
    let facts = and_parts (not (is_sum c)) (is_single c && not (is_released c)) e in (
      (objective_of c, refl, by (objective_of c) (not-true (is_sum c) facts.0)),
      (and_parts (is_single c) (not (is_released c)) facts.1).0,
    )
  where
    by : (o : Objective) → is_total o ≡ false → (k : SchedulingTask) (rows : Timetable)
        → cost_by o k rows ≡ greatest_price k rows
    by Total h k rows = absurd (false≢true (sym h))
    by _ h k rows = refl

is_free_says : (k : SchedulingTask) (jobs : List ℕ) (j : ℕ) → HasNoSuccessorIn k jobs j
    → is_free k jobs j ≡ true
is_free_says k jobs j none =
    list_all-from_AllPass (λ arc. not ((arc.0 == j) && stands_in jobs arc.1)) k.arcs
    (λ i d h.
    let arc : ℕ × ℕ = slice_index_or k.arcs i d in
    ⊎_elim
    (λ both. let p = and_parts (arc.0 == j) (stands_in jobs arc.1) both in
    absurd (none i d h (eqb-true arc.0 j p.0) (stands_in_says jobs arc.1 p.1)))
    (λ no. ap not no)
    (cases_Bool ((arc.0 == j) && stands_in jobs arc.1)))

pub last_of_law : (k : SchedulingTask) (jobs : List ℕ) (rows : Timetable) (b : ℤ) → IsSound k
    → last_of_bound k jobs ≡ Ok b → FitsBroken k rows → b ≤ℤ cost k rows
last_of_law k jobs rows b sound is fits =
    let h : ℕ → ℤ = λ j. price k j (sum_by (time_of k) jobs) in
    let says = last_of_says k jobs b is in
    let class = last_of_class k.class says.0 in
    let list = list_fault_says k [] jobs says.1 in
    let all = filter_says (λ j. least h (free_jobs k jobs) ≤ℤ h j) (is_free k jobs) jobs
    (least_says h (free_jobs k jobs)) in
    subst (λ z. z ≤ℤ cost k rows) says.3
    (last_of-le-cost k rows sound fits class.1 (class.0).0 (class.0).1 ((class.0).2 k rows) jobs
    (λ c. (list.1 c).1) list.0 says.2 (least h (free_jobs k jobs))
    (λ j in' none. All-contains (λ i. is_free k jobs i ≡ true → least h (free_jobs k jobs) ≤ℤ h i)
    jobs j all in' (is_free_says k jobs j none)))

window_class : (c : Class) → takes_window c ≡ true
    → (objective_of c ≡ Lateness) × (is_single c ≡ true)
window_class c e =
    let facts = and_parts (is_due c) (is_single c && is_released c) e in
    (late c facts.0, (and_parts (is_single c) (is_released c) facts.1).0)

pub window_law : (k : SchedulingTask) (jobs : List ℕ) (rows : Timetable) (b : ℤ) → IsSound k
    → window_bound k jobs ≡ Ok b → FitsBroken k rows → b ≤ℤ cost k rows
window_law k jobs rows b sound is fits =
    let releases : ℕ → ℕ = λ j. (job_data k j).release in
    let dues : ℕ → ℤ = λ j. (job_data k j).due in
    let says = window_says k jobs b is in
    let class = window_class k.class says.0 in
    let list = list_fault_says k [] jobs says.1 in
    subst (λ z. z ≤ℤ cost k rows) says.3
    (window-le-cost k rows sound fits class.1 class.0 jobs (λ c. (list.1 c).1) list.0 says.2
    (least_number releases jobs) (least_number_says releases jobs)
    (greatest dues jobs) (greatest_says dues jobs))

record OfRanks (c : Class) : Type 0 where
  total : objective_of c ≡ Total
  one_time : is_shop c ≡ false
  unweighted : is_weighted c ≡ false
  whole : may_break c ≡ false

ranks_class : (c : Class) → takes_ranks c ≡ true → OfRanks c
ranks_class c e =
    let facts = and_parts (is_sum c) (is_parallel c && not (may_break c)) e in
    let dealt = and_parts (is_parallel c) (not (may_break c)) facts.1 in
    record {
      total = total c facts.0;
      one_time = parallel_is_no_shop c dealt.0;
      unweighted =
          parallel_unweighted c dealt.0;
      whole = not-true (may_break c) dealt.1;
    }

longer_fault_says : (k : SchedulingTask) (t : ℕ) (jobs : List ℕ) → longer_fault k t jobs ≡ None
    → Falling (time_of k) t jobs
longer_fault_says k t [] e = tt
longer_fault_says k t (j ∷ jobs) e =
    by_test (nat_lt t (time_of k j)) refl e (longer_fault_says k (time_of k j) jobs)
  where
    by_test : (s : Bool) → nat_lt t (time_of k j) ≡ s
        → cond s (Some (Condition j)) (longer_fault k (time_of k j) jobs) ≡ None
        → (longer_fault k (time_of k j) jobs ≡ None → Falling (time_of k) (time_of k j) jobs)
        → Falling (time_of k) t (j ∷ jobs)
    by_test true s h rest = cc
    by_test false s h rest = (ltb-false t (time_of k j) s, rest h)

ranks_fault_says : (k : SchedulingTask) (jobs : List ℕ) → ranks_fault k jobs ≡ None
    → (t : ℕ) × Falling (time_of k) t jobs
ranks_fault_says k [] e = (0, tt)
ranks_fault_says k (j ∷ jobs) e =
    (time_of k j, (omega arith, longer_fault_says k (time_of k j) jobs e))

pub ranks_law : (k : SchedulingTask) (jobs : List ℕ) (rows : Timetable) (b : ℤ) → IsSound k
    → ranks_bound k jobs ≡ Ok b → Fits k rows → b ≤ℤ cost k rows
ranks_law k jobs rows b sound is fits =
    let says = ranks_says k jobs b is in
    let class = ranks_class k.class says.0 in
    let list = list_fault_says k [] jobs says.1 in
    let falling = ranks_fault_says k jobs says.2 in
    subst (λ z. z ≤ℤ cost k rows) says.3
    (ranks-le-cost k rows sound fits.broken (fits.unbroken class.whole) class.one_time class.total
    falling.0 jobs (λ c. (list.1 c).1) list.0 falling.1 class.unweighted)

split_class : (c : Class) → takes_split c ≡ true → (objective_of c ≡ Makespan) × (is_flow c ≡ true)
split_class c e =
    let facts = and_parts (is_span c) (is_flow c) e in
    (spanning c facts.0, facts.1)

-- each job keeps its condition
side_fault_says : (k : SchedulingTask) (side : List ℕ) (delta : ℤ) (first : Bool)
    → side_fault k side delta first ≡ None → (j : ℕ) → IsJob k j
    → keeps_side k side delta first j ≡ true
side_fault_says k side delta first e j job =
    not-false (keeps_side k side delta first j)
    (All-contains (λ i. not (keeps_side k side delta first i) ≡ false) (all_jobs k) j
    (find_says (λ i. not (keeps_side k side delta first i)) (all_jobs k) e)
    (Contains-all_jobs k j job))

pub delta_fault_says : (k : SchedulingTask) (side : List ℕ) (delta : ℤ) (first : Bool)
    → delta_fault k side delta first ≡ None
    → (int_le (pos 0) delta ≡ true)
    × ((x : ℕ) × IsJob k x × (reaches_delta k side delta first x ≡ true))
delta_fault_says k side delta first e =
    by_test (int_le (pos 0) delta && list_any (reaches_delta k side delta first) (all_jobs k)) refl
    e
  where
    by_test : (t : Bool)
        → (int_le (pos 0) delta && list_any (reaches_delta k side delta first) (all_jobs k)) ≡ t
        → cond t None (Some BadDelta) ≡ None
        → (int_le (pos 0) delta ≡ true)
        × ((x : ℕ) × IsJob k x × (reaches_delta k side delta first x ≡ true))
    by_test true e h =
        let p = and_parts (int_le (pos 0) delta)
        (list_any (reaches_delta k side delta first) (all_jobs k)) e in (
          p.0,
          list_any_says (IsJob k) (reaches_delta k side delta first) (all_jobs k)
              (All-all_jobs k (IsJob k) (λ j h. h)) p.1,
        )
    by_test false e h = cc

split_from : (k : SchedulingTask) (rows : Timetable) (side : List ℕ) (delta : ℤ) (first : Bool)
    → IsSound k → FitsBroken k rows → objective_of k.class ≡ Makespan → is_flow k.class ≡ true
    → ((j : ℕ) → IsJob k j → keeps_side k side delta first j ≡ true) → (int_le (pos 0) delta ≡ true)
    × ((x : ℕ) × IsJob k x × (reaches_delta k side delta first x ≡ true))
    → pos (split_value k side (unsigned_abs delta)) ≤ℤ cost k rows
split_from k rows side (negsuc d) first sound fits is flow keeps reach = absurd (false≢true reach.0)
split_from k rows side (pos d) true sound fits is flow keeps reach =
    let x = reach.1 in
    let at_x = and_parts (not (stands_in side x.0)) (nat_le d (time_on k x.0 0)) x.2 in
    split_first-le-cost k rows sound fits is flow side d
    (λ j job e. leb-true (time_on k j 0) (time_on k j 1)
    (sym (ap (λ t. cond t (nat_le (time_on k j 0) (time_on k j 1))
    (nat_le d (time_on k j 0) || nat_le (time_on k j 1) (time_on k j 0))) e) ∙ keeps j job))
    (λ j job e. either d (time_on k j 0) (time_on k j 1)
    (sym (ap (λ t. cond t (nat_le (time_on k j 0) (time_on k j 1))
    (nat_le d (time_on k j 0) || nat_le (time_on k j 1) (time_on k j 0))) e) ∙ keeps j job))
    x.0 x.1 (not-true (stands_in side x.0) at_x.0) (leb-true d (time_on k x.0 0) at_x.1)
  where
    either : (d a b : ℕ) → (nat_le d a || nat_le b a) ≡ true → (d ≤ a) ⊎ (b ≤ a)
    either d a b e =
        ⊎_elim (λ p. inl (leb-true d a p)) (λ p. inr (leb-true b a p))
        (or_cases (nat_le d a) (nat_le b a) e)
split_from k rows side (pos d) false sound fits is flow keeps reach =
    let x = reach.1 in
    let at_x = and_parts (stands_in side x.0) (nat_le d (time_on k x.0 1)) x.2 in
    split_second-le-cost k rows sound fits is flow side d
    (λ j job e. leb-true (time_on k j 1) (time_on k j 0)
    (sym (ap (λ t. cond t (nat_le d (time_on k j 1) || nat_le (time_on k j 0) (time_on k j 1))
    (nat_le (time_on k j 1) (time_on k j 0))) e) ∙ keeps j job))
    (λ j job e. either d (time_on k j 1) (time_on k j 0)
    (sym (ap (λ t. cond t (nat_le d (time_on k j 1) || nat_le (time_on k j 0) (time_on k j 1))
    (nat_le (time_on k j 1) (time_on k j 0))) e) ∙ keeps j job))
    x.0 x.1 at_x.0 (leb-true d (time_on k x.0 1) at_x.1)
  where
    either : (d a b : ℕ) → (nat_le d a || nat_le b a) ≡ true → (d ≤ a) ⊎ (b ≤ a)
    either d a b e =
        ⊎_elim (λ p. inl (leb-true d a p)) (λ p. inr (leb-true b a p))
        (or_cases (nat_le d a) (nat_le b a) e)

pub split_law : (k : SchedulingTask) (side : List ℕ) (delta : ℤ) (first : Bool) (rows : Timetable)
    (b : ℤ)
    → IsSound k → split_bound k side delta first ≡ Ok b → FitsBroken k rows → b ≤ℤ cost k rows
split_law k side delta first rows b sound is fits =
    let says = split_says k side delta first b is in
    let class = split_class k.class says.0 in
    subst (λ z. z ≤ℤ cost k rows) says.4
    (split_from k rows side delta first sound fits class.0 class.1
    (side_fault_says k side delta first says.2)
    (delta_fault_says k side delta first says.3))

-- ---- any kind

pub bound_law : (c : Claim) (k : SchedulingTask) (rows : Timetable) (b : ℤ) → IsSound k
    → bound_by c k ≡ Ok b → Fits k rows → b ≤ℤ cost k rows
bound_law ByPairs k rows b sound is fits = pairs_law k rows b sound is fits.broken
bound_law (ByLastOf jobs) k rows b sound is fits = last_of_law k jobs rows b sound is fits.broken
bound_law (ByWindow jobs) k rows b sound is fits = window_law k jobs rows b sound is fits.broken
bound_law (BySplit side delta first) k rows b sound is fits =
    split_law k side delta first rows b sound is fits.broken
bound_law ByLoad k rows b sound is fits = load_law k rows b sound is fits.broken
bound_law (ByMachine machine) k rows b sound is fits =
    machine_law k machine rows b sound is fits.broken
bound_law (ByOneJob j) k rows b sound is fits = one_job_law k j rows b sound is fits.broken
bound_law (ByRanks jobs) k rows b sound is fits = ranks_law k jobs rows b sound is fits
