-- Where no fault comes first, a certificate's bound is given.
use Rattle.std.proofs.Common.{List, [], length, option_map, int_le, All, ◌≡◌, ℕ, ◌-◌, ◌≤◌, ◌<◌, ℤ, pos, Bool, true, false, not, ◌&&◌, cond, Some, None, Result, Ok, refl, ap, ◌∙◌, sum_by, arith, IsTrue, IsFalse}
use Rattle.std.proofs.lemmas.Bool.{not-false, not_from_false, and_from, le-leb}
use Rattle.std.proofs.lemmas.Bool.Decides.{nat_tests}
use Rattle.tf_model.specs.declared.class.Class.{Class}
use Rattle.tf_model.specs.declared.class.Class.TheVariants.{WeightedSum}
use Rattle.tf_model.specs.Bounds.{load_value, pairs_value, ranks_value, split_value}
use Rattle.tf_model.specs.ClassTable.{is_shop, is_flow, is_sum, is_single, is_parallel}
use Rattle.tf_model.specs.Outcome.{unless}
use Rattle.tf_model.specs.SchedulingTask.{SchedulingTask, IsJob, all_jobs, time_of, time_on}
use Rattle.tf_model.proofs.Classes.{second_fails}
use Rattle.tf_model.proofs.Work.{IsDistinct}
use Rattle.tf_check.specs.Bound.{other_kind, is_job, machine_fault, load_bound, one_job_bound, machine_bound, pairs_bound, list_fault, empty_fault, ranks_fault, ranks_bound}
use Rattle.tf_check.specs.Bound.{keeps_side, side_fault, reaches_delta, delta_fault, split_bound}
use Rattle.tf_check.specs.Kinds.{takes_load, takes_one_job, takes_machine, takes_pairs, takes_ranks, takes_split}
use Rattle.tf_check.specs.declared.fault.BoundFault.{BoundFault}
use Rattle.tf_check.specs.declared.fault.BoundFault.TheVariants.{BadJob, Condition, BadDelta}
use Rattle.tf_check.proofs.JobLists.{not_empty}
use Rattle.tf_check.proofs.NoFault.{no_list_fault}
use Rattle.tf_check.proofs.Sides.{any_found, none_found}

-- ---- the kinds of a class, over the whole table: one row for a class stands for all

open_or_no_machine : (c : Class) → ((is_shop c && not (is_flow c)) && not (takes_machine c)) ≡ false
open_or_no_machine WeightedSum = refl
open_or_no_machine _ = refl

open_or_no_job : (c : Class) → ((is_shop c && not (is_flow c)) && not (takes_one_job c)) ≡ false
open_or_no_job WeightedSum = refl
open_or_no_job _ = refl

of_open_shop : (c : Class) → IsTrue (is_shop c) → IsFalse (is_flow c)
    → IsTrue (is_shop c && not (is_flow c))
of_open_shop c shop unordered =
    and_from (is_shop c) (not (is_flow c)) shop (not_from_false (is_flow c) unordered)

pub open_takes_machine : (c : Class) → IsTrue (is_shop c) → IsFalse (is_flow c)
    → takes_machine c ≡ true
open_takes_machine c shop unordered = not-false (takes_machine c)
    (second_fails (is_shop c && not (is_flow c)) (not (takes_machine c)) (open_or_no_machine c)
    (of_open_shop c shop unordered))

pub open_takes_one_job : (c : Class) → IsTrue (is_shop c) → IsFalse (is_flow c)
    → takes_one_job c ≡ true
open_takes_one_job c shop unordered = not-false (takes_one_job c)
    (second_fails (is_shop c && not (is_flow c)) (not (takes_one_job c)) (open_or_no_job c)
    (of_open_shop c shop unordered))

flow_or_no_split : (c : Class) → (is_flow c && not (takes_split c)) ≡ false
flow_or_no_split WeightedSum = refl
flow_or_no_split _ = refl

pub flow_takes_split : (c : Class) → IsTrue (is_flow c) → takes_split c ≡ true
flow_takes_split c flow = not-false (takes_split c)
    (second_fails (is_flow c) (not (takes_split c)) (flow_or_no_split c) flow)

sum_or_no_pairs : (c : Class) → ((is_sum c && is_single c) && not (takes_pairs c)) ≡ false
sum_or_no_pairs WeightedSum = refl
sum_or_no_pairs _ = refl

-- a sum on one machine is bounded by pairs
pub sum_takes_pairs : (c : Class) → IsTrue (is_sum c) → IsTrue (is_single c) → takes_pairs c ≡ true
sum_takes_pairs c sum single = not-false (takes_pairs c)
    (second_fails (is_sum c && is_single c) (not (takes_pairs c)) (sum_or_no_pairs c)
    (and_from (is_sum c) (is_single c) sum single))

sum_or_no_ranks : (c : Class) → ((is_sum c && is_parallel c) && not (takes_ranks c)) ≡ false
sum_or_no_ranks WeightedSum = refl
sum_or_no_ranks _ = refl

-- a sum on parallel machines by ranks
pub sum_takes_ranks : (c : Class) → IsTrue (is_sum c) → IsTrue (is_parallel c)
    → takes_ranks c ≡ true
sum_takes_ranks c sum parallel = not-false (takes_ranks c)
    (second_fails (is_sum c && is_parallel c) (not (takes_ranks c)) (sum_or_no_ranks c)
    (and_from (is_sum c) (is_parallel c) sum parallel))

-- ---- the bounds

pub load_given : (k : SchedulingTask) → takes_load k.class ≡ true
    → load_bound k ≡ Ok (pos (load_value k))
load_given k class = ap (λ (b : Bool). unless (other_kind b) (Ok (pos (load_value k)))) class

pub one_job_given : (k : SchedulingTask) (j : ℕ) → takes_one_job k.class ≡ true → IsJob k j
    → one_job_bound k j ≡ Ok (pos (time_of k j))
one_job_given k j class job =
    let known : is_job k j ≡ true = grind (arith, nat_tests) in
    ap (λ (b : Bool). unless (other_kind b) (behind (is_job k j))) class ∙ ap behind known
  where
    behind : Bool → Result ℤ BoundFault
    behind known = unless (cond known None (Some (BadJob j))) (Ok (pos (time_of k j)))

pub machine_given : (k : SchedulingTask) (i : ℕ) → takes_machine k.class ≡ true → 0 < i → i ≤ 2
    → machine_bound k i ≡ Ok (pos (sum_by (λ j. time_on k j (i - 1)) (all_jobs k)))
machine_given k i class low high =
    let none : machine_fault i ≡ None = grind (arith, nat_tests) in
    ap (λ (b : Bool). unless (other_kind b) (unless (machine_fault i) given)) class
    ∙ ap (λ o. unless o given) none
  where
    given : Result ℤ BoundFault
    given = Ok (pos (sum_by (λ j. time_on k j (i - 1)) (all_jobs k)))

pub split_given : (k : SchedulingTask) (side : List ℕ) (d : ℕ) (first : Bool)
    → takes_split k.class ≡ true
    → All (IsJob k) side → IsDistinct side
    → ((j : ℕ) → IsJob k j → keeps_side k side (pos d) first j ≡ true)
    → (x : ℕ) → IsJob k x → reaches_delta k side (pos d) first x ≡ true
    → split_bound k side (pos d) first ≡ Ok (pos (split_value k side d))
split_given k side d first class there distinct keeps x is reach =
    let given : Result ℤ BoundFault = Ok (pos (split_value k side d)) in
    ap (λ t. unless (other_kind t)
    (unless (list_fault k [] side)
    (unless (side_fault k side (pos d) first)
    (unless (delta_fault k side (pos d) first) given)))) class
    ∙ ap (λ o. unless o
    (unless (side_fault k side (pos d) first)
    (unless (delta_fault k side (pos d) first) given))) (no_list_fault k side there distinct)
    ∙ ap (λ o. unless (option_map Condition o) (unless (delta_fault k side (pos d) first) given))
    (none_found k (λ j. not (keeps_side k side (pos d) first j))
    (λ j job. ap not (keeps j job)))
    ∙ ap (λ t. unless (cond (int_le (pos 0) (pos d) && t) None (Some BadDelta)) given)
    (any_found k (reaches_delta k side (pos d) first) x is reach)
    ∙ ap (λ t. unless (cond (t && true) None (Some BadDelta)) given) (le-leb 0 d (omega arith))

pub pairs_given : (k : SchedulingTask) → takes_pairs k.class ≡ true
    → pairs_bound k ≡ Ok (pos (pairs_value k))
pairs_given k class = ap (λ (b : Bool). unless (other_kind b) (Ok (pos (pairs_value k)))) class

pub ranks_given : (k : SchedulingTask) (jobs : List ℕ) → takes_ranks k.class ≡ true
    → list_fault k [] jobs ≡ None
    → 0 < length jobs → ranks_fault k jobs ≡ None
    → ranks_bound k jobs ≡ Ok (pos (ranks_value k jobs))
ranks_given k jobs class none some falling =
    ap (λ (b : Bool). unless (other_kind b)
    (unless (list_fault k [] jobs) (unless (empty_fault jobs) behind))) class
    ∙ ap (λ o. unless o (unless (empty_fault jobs) behind)) none
    ∙ ap (λ o. unless o behind) (not_empty jobs some)
    ∙ ap (λ o. unless o (Ok (pos (ranks_value k jobs)))) falling
  where
    behind : Result ℤ BoundFault
    behind = unless (ranks_fault k jobs) (Ok (pos (ranks_value k jobs)))
