-- Worked examples: what the definitions give on small tasks.
use Rattle.std.proofs.Common.{◌≡◌, ℕ, zero, suc, ◌+◌, ◌≤◌, ℤ, pos, negsuc, List, [], ◌∷◌, length, true, false, Some, None, Ok, Err, refl, All, sum_by, arith}
use Rattle.std.proofs.lemmas.Bool.{false≢true, true≢false}
use Rattle.std.proofs.lemmas.Int.{ints}
use Rattle.std.proofs.lemmas.List.Elements.{All-cons, All-nil}
use Rattle.tf_model.specs.declared.class.Class.{Class}
use Rattle.tf_model.specs.declared.class.Class.TheVariants.{WeightedSum, PrecHmax, Lmax, ReleaseLmax, FlowTwo, OpenTwo, ParallelPrmp, ParallelSum}
use Rattle.tf_model.specs.Steps.{Steps}
use Rattle.tf_model.specs.Timetable.{Row, Timetable, cells_of, all_units}
use Rattle.tf_model.specs.SchedulingTask.{SchedulingTask, JobData, IsJob, job_data, time_of, all_jobs}
use Rattle.tf_model.specs.Sound.{IsSound}
use Rattle.tf_model.specs.Feasible.{FitsBroken}
use Rattle.tf_model.specs.Cost.{price, IsBest}
use Rattle.tf_model.specs.Bounds.{pairs_value, ranks_value, split_value}
use Rattle.tf_model.specs.Whole.{IsWithin}
use Rattle.tf_model.proofs.Loads.{load-le-cost}
use Rattle.tf_check.specs.Claim.{BySplit, ByLoad, ByMachine, ByOneJob, ByRanks}
use Rattle.tf_check.specs.Bound.{bound_by, list_fault, empty_fault, free_jobs, no_free_fault, least, least_number, greatest, ranks_fault, machine_fault, side_fault, delta_fault}
use Rattle.tf_check.specs.declared.fault.BoundFault.TheVariants.{OtherKind, BadMachine, BadJob, Repeated, EmptySet, Condition, BadDelta}

abbrev timed : ℕ → JobData
timed p = record { first = p; second = 0; weight = 1; release = 0; due = pos 0 }

abbrev weighted : ℕ → ℕ → JobData
weighted p w = record { first = p; second = 0; weight = w; release = 0; due = pos 0 }

abbrev two_times : ℕ → ℕ → JobData
two_times a b = record { first = a; second = b; weight = 1; release = 0; due = pos 0 }

abbrev windowed : ℕ → ℕ → ℕ → JobData
windowed r p d = record { first = p; second = 0; weight = 1; release = r; due = pos d }

abbrev stepped : ℤ → List (ℤ × ℤ) → Steps
stepped base steps = record { base = base; steps = steps }

abbrev task : Class → ℕ → List JobData → SchedulingTask
task class machines jobs =
    record { class = class; machines = machines; jobs = jobs; costs = []; arcs = [] }

-- ---- preemptive parallel machines

abbrev fours : SchedulingTask
fours = task ParallelPrmp 2 (timed 4 ∷ timed 4 ∷ timed 4 ∷ [])

fours_load : bound_by ByLoad fours ≡ Ok (pos 6)
fours_load = refl

fours_one : bound_by (ByOneJob 3) fours ≡ Ok (pos 4)
fours_one = refl

fours_bad : bound_by (ByOneJob 4) fours ≡ Err (BadJob 4)
fours_bad = refl

fours_ranks : bound_by (ByRanks (1 ∷ [])) fours ≡ Err OtherKind
fours_ranks = refl

-- ---- what the other kinds stand on

ratios : SchedulingTask
ratios = task WeightedSum 1 (weighted 3 3 ∷ weighted 1 1 ∷ weighted 2 2 ∷ [])

ratios_pairs : pairs_value ratios ≡ 25
unfolding ratios
ratios_pairs = refl

ratios_load : bound_by ByLoad ratios ≡ Err OtherKind
unfolding ratios
ratios_load = refl

arcs : SchedulingTask
arcs = record (task PrecHmax 1 (timed 2 ∷ timed 3 ∷ timed 4 ∷ [])) {
  costs =
      stepped (pos 0) ((pos 5, pos 10) ∷ []) ∷ stepped (pos 0) ((pos 9, pos 7) ∷ [])
      ∷ stepped (pos 1) ((pos 9, pos 8) ∷ []) ∷ [];
  arcs = (3, 1) ∷ [];
}

arcs_last : least (λ j. price arcs j (sum_by (time_of arcs) (1 ∷ 3 ∷ [])))
    (free_jobs arcs (1 ∷ 3 ∷ [])) ≡ pos 10
unfolding arcs
arcs_last = refl

ring : SchedulingTask
ring = record (task PrecHmax 1 (timed 2 ∷ timed 3 ∷ [])) { arcs = (1, 2) ∷ (2, 1) ∷ [] }

ring_last : no_free_fault (free_jobs ring (2 ∷ 1 ∷ [])) (2 ∷ 1 ∷ []) ≡ Some (Condition 1)
unfolding ring
ring_last = refl

none_last : empty_fault [] ≡ Some EmptySet
none_last = refl

early : SchedulingTask
early = task Lmax 1 (record (timed 1) { due = pos 100 } ∷ [])

early_last : least (λ j. price early j (sum_by (time_of early) (1 ∷ []))) (free_jobs early (1 ∷ []))
    ≡ negsuc 98
unfolding early
early_last = refl

released : SchedulingTask
released = task ReleaseLmax 1 (windowed 0 4 10 ∷ windowed 1 2 4 ∷ windowed 8 1 8 ∷ [])

released_window : (least_number (λ j. (job_data released j).release) (3 ∷ []) ≡ 8)
    × (greatest (λ j. (job_data released j).due) (3 ∷ []) ≡ pos 8)
unfolding released
released_window = (refl, refl)

flow : SchedulingTask
flow = task FlowTwo 2
    (two_times 3 6 ∷ two_times 5 2 ∷ two_times 1 2 ∷ two_times 6 6 ∷ two_times 7 5 ∷ [])

flow_split : (side_fault flow (1 ∷ 3 ∷ 4 ∷ 5 ∷ []) (pos 5) false ≡ None)
    × (delta_fault flow (1 ∷ 3 ∷ 4 ∷ 5 ∷ []) (pos 5) false ≡ None)
    × (split_value flow (1 ∷ 3 ∷ 4 ∷ 5 ∷ []) 5 ≡ 24)
unfolding flow
flow_split = (refl, refl, refl)

flow_condition : side_fault flow (1 ∷ 3 ∷ 4 ∷ 5 ∷ []) (pos 6) false ≡ Some (Condition 5)
unfolding flow
flow_condition = refl

short : SchedulingTask
short = task FlowTwo 2 (two_times 1 2 ∷ [])

short_split : (side_fault short [] (pos 1) true ≡ None) × (delta_fault short [] (pos 1) true ≡ None)
    × (split_value short [] 1 ≡ 3)
unfolding short
short_split = (refl, refl, refl)

short_delta : (side_fault short (1 ∷ []) (pos 100) true ≡ None)
    × (delta_fault short (1 ∷ []) (pos 100) true ≡ Some BadDelta)
unfolding short
short_delta = (refl, refl)

turned : SchedulingTask
turned = task FlowTwo 2 (two_times 2 1 ∷ two_times 1 2 ∷ [])

turned_split : bound_by (BySplit [] (pos 1) true) turned ≡ Ok (pos 4)
unfolding turned
turned_split = refl

turned_faults : (bound_by (BySplit [] (negsuc 0) true) turned ≡ Err BadDelta)
    × (bound_by (BySplit (1 ∷ []) (pos 0) true) turned ≡ Err (Condition 1))
unfolding turned
turned_faults = (refl, refl)

crossed : SchedulingTask
crossed = task OpenTwo 2 (two_times 4 1 ∷ two_times 1 4 ∷ two_times 2 2 ∷ [])

open_machine : (bound_by (ByMachine 1) crossed ≡ Ok (pos 7))
    × (bound_by (ByMachine 3) crossed ≡ Err (BadMachine 3))
    × (bound_by (ByOneJob 4) crossed ≡ Err (BadJob 4))
unfolding crossed
open_machine = (refl, refl, refl)

dealt : SchedulingTask
dealt = task ParallelSum 2 (timed 1 ∷ timed 2 ∷ timed 3 ∷ timed 4 ∷ timed 5 ∷ [])

dealt_ranks : (ranks_fault dealt (5 ∷ 4 ∷ 3 ∷ 2 ∷ 1 ∷ []) ≡ None)
    × (ranks_value dealt (5 ∷ 4 ∷ 3 ∷ 2 ∷ 1 ∷ []) ≡ 22)
unfolding dealt
dealt_ranks = (refl, refl)

dealt_condition : ranks_fault dealt (1 ∷ 2 ∷ 3 ∷ 4 ∷ 5 ∷ []) ≡ Some (Condition 2)
unfolding dealt
dealt_condition = refl

dealt_repeated : list_fault dealt [] (5 ∷ 5 ∷ []) ≡ Some (Repeated 5)
unfolding dealt
dealt_repeated = refl

third_machine : machine_fault 3 ≡ Some (BadMachine 3)
third_machine = refl

-- ---- a best timetable

abbrev fours_rows : Timetable
fours_rows =
    (1 ∷ 2 ∷ []) ∷ (1 ∷ 2 ∷ []) ∷ (1 ∷ 3 ∷ []) ∷ (1 ∷ 3 ∷ []) ∷ (2 ∷ 3 ∷ []) ∷ (2 ∷ 3 ∷ []) ∷ []

each_four : (P : ℕ → Type 0) → P 1 → P 2 → P 3 → (j : ℕ) → IsJob fours j → P j
each_four P p q r zero h = absurd (omega arith)
each_four P p q r (suc zero) h = p
each_four P p q r (suc (suc zero)) h = q
each_four P p q r (suc (suc (suc zero))) h = r
each_four P p q r (suc (suc (suc (suc j)))) h = absurd (omega arith)

all_six : (P : Row → Type 0) → P (1 ∷ 2 ∷ []) → P (1 ∷ 3 ∷ []) → P (2 ∷ 3 ∷ []) → All P fours_rows
all_six P p q r =
    All-cons P (1 ∷ 2 ∷ [])
    ((1 ∷ 2 ∷ []) ∷ (1 ∷ 3 ∷ []) ∷ (1 ∷ 3 ∷ []) ∷ (2 ∷ 3 ∷ []) ∷ (2 ∷ 3 ∷ []) ∷ []) p
    (All-cons P (1 ∷ 2 ∷ []) ((1 ∷ 3 ∷ []) ∷ (1 ∷ 3 ∷ []) ∷ (2 ∷ 3 ∷ []) ∷ (2 ∷ 3 ∷ []) ∷ []) p
    (All-cons P (1 ∷ 3 ∷ []) ((1 ∷ 3 ∷ []) ∷ (2 ∷ 3 ∷ []) ∷ (2 ∷ 3 ∷ []) ∷ []) q
    (All-cons P (1 ∷ 3 ∷ []) ((2 ∷ 3 ∷ []) ∷ (2 ∷ 3 ∷ []) ∷ []) q
    (All-cons P (2 ∷ 3 ∷ []) ((2 ∷ 3 ∷ []) ∷ []) r
    (All-cons P (2 ∷ 3 ∷ []) [] r (All-nil P))))))

cells_in : (n a b : ℕ) → a ≤ n → b ≤ n → All (λ j. j ≤ n) (a ∷ b ∷ [])
cells_in n a b p q =
    All-cons (λ j. j ≤ n) a (b ∷ []) p (All-cons (λ j. j ≤ n) b [] q (All-nil (λ j. j ≤ n)))

fours_fits : FitsBroken fours fours_rows
fours_fits = record {
  width = all_six (λ row. length row ≡ 2) refl refl refl;
  jobs_only = all_six (λ row. All (λ j. j ≤ 3) row) (cells_in 3 1 2 (omega arith) (omega arith))
      (cells_in 3 1 3 (omega arith) (omega arith)) (cells_in 3 2 3 (omega arith) (omega arith));
  single_place = λ j low high. each_four (λ j. All (λ row. cells_of j row ≤ 1) fours_rows)
      (all_six (λ row. cells_of 1 row ≤ 1) (omega arith) (omega arith) (omega arith))
      (all_six (λ row. cells_of 2 row ≤ 1) (omega arith) (omega arith) (omega arith))
      (all_six (λ row. cells_of 3 row ≤ 1) (omega arith) (omega arith) (omega arith))
      j (low, high);
  amount = λ j low high.
      record {
        in_all =
            λ _. each_four (λ j. all_units fours_rows j ≡ time_of fours j) refl refl refl j (low, high);
        on_each = λ e. absurd (false≢true e);
      };
  released = λ j low high t i e. each_four (λ j. (job_data fours j).release ≤ t) (omega arith)
      (omega arith) (omega arith) j (low, high);
  in_order = λ i d h. absurd (omega arith);
  in_flow = λ e. absurd (false≢true e);
}

fours_sound : IsSound fours
fours_sound = record {
  some_job = omega arith;
  few_jobs = omega arith;
  few_arcs = omega arith;
  some_machine = omega arith;
  few_machines = omega arith;
  single = λ e. absurd (false≢true e);
  shop = λ e. absurd (false≢true e);
  worked = λ _. each_four (λ j. 1 ≤ time_of fours j) (omega arith) (omega arith) (omega arith);
  one_time = λ _. each_four (λ j. (job_data fours j).second ≡ 0) refl refl refl;
  unit_weights = λ _. each_four (λ j. (job_data fours j).weight ≡ 1) refl refl refl;
  unreleased = λ _. each_four (λ j. (job_data fours j).release ≡ 0) refl refl refl;
  unordered = λ _. refl;
  uncosted = λ _. refl;
  costed = λ e. absurd (false≢true e);
  arcs_in = λ i d h. absurd (omega arith);
  dues = each_four (λ j. IsWithin (job_data fours j).due) (omega (arith, ints), omega (arith, ints))
      (omega (arith, ints), omega (arith, ints)) (omega (arith, ints), omega (arith, ints));
  total = omega arith;
  horizon = each_four
      (λ j. (job_data fours j).release + sum_by (time_of fours) (all_jobs fours)
      ≤ 4000000000000000000) (omega arith) (omega arith) (omega arith);
  weighted_total = λ e. absurd (false≢true e);
  rising = λ j c e h le. omega (arith, ints);
}

-- the timetable of three jobs of time 4 on two machines that ends at 6 is best
pub fours_best : IsBest fours fours_rows (pos 6)
fours_best = record {
  fits = record { broken = fours_fits; unbroken = λ e. absurd (true≢false e) };
  value = refl;
  least = λ other fits. load-le-cost fours other fours_sound fits.broken refl refl;
}
