-- The timetable of operations that are laid one after another: what it fits, and what it costs.
use Rattle.std.proofs.Common.{◌≡◌, ◌≢◌, ℕ, zero, suc, ◌+◌, ◌<◌, ◌≤◌, pos, cond, ◌&&◌, eqb, List, [], ◌∷◌, length, get_or, ap, sym, ◌∙◌, arith, IsTrue, IsFalse}
use Rattle.std.specs.List.{All, AllPairs, sum_by}
use Rattle.std.specs.List.Sorted.{IsPermutation}
use Rattle.std.proofs.lemmas.Bool.{false≢true}
use Rattle.std.proofs.lemmas.Int.{ints}
use Rattle.std.proofs.lemmas.List.Sorted.{All-permutation}
use Rattle.tf_model.specs.Cost.{Makespan, objective_of, cost}
use Rattle.tf_model.specs.Feasible.{Fits, IsOnce}
use Rattle.tf_model.specs.SchedulingTask.{SchedulingTask, IsJob, time_of, time_on}
use Rattle.tf_model.specs.ClassTable.{is_shop, is_flow, is_released}
use Rattle.tf_model.specs.Limit.{limit}
use Rattle.tf_model.specs.Sound.{IsSound}
use Rattle.tf_model.specs.Timetable.{cell, units, all_units}
use Rattle.tf_schedule.specs.declared.piece.Piece.{Piece}
use Rattle.tf_schedule.specs.Piece.{machine_of}
use Rattle.tf_schedule.specs.Schedule.{IsPiece, NoneTwice, ComesBefore, IsSchedule}
use Rattle.tf_schedule.specs.Drawing.{drawing, greatest_stop, stop_of, IsOnMachine}
use Rattle.tf_schedule.proofs.Drawing.{width-drawing, jobs-drawing, single_place-drawing, units-drawing, all_units-drawing, makespan-drawing}
use Rattle.tf_model.proofs.Classes.{no_flow, shop_unreleased, shop_unordered}
use Rattle.tf_schedule.proofs.Scan.{claims_permutation}
use Rattle.tf_schedule.proofs.Times.{sound_times, time_le_back}
use Rattle.tf_schedule.specs.declared.semi_active.Operation.{Operation}
use Rattle.tf_schedule.specs.SemiActive.{laid, IsOperation}
use Rattle.tf_schedule.proofs.Laying.{IsLaid, Keeps, laid_apart, stop_fold, work_on_fold, work_fold}
use Rattle.tf_schedule.proofs.Apart.{apart_none_twice, apart_jobs_once, apart_no_gap, apart_one_machine, apart_in_flow, apart_in_order, starts_apart}
use Rattle.tf_schedule.proofs.Makespan.{cost-makespan}

stop-le-greatest : (ps : List Piece) (k : ℕ) (d : Piece) → k < length ps
    → stop_of (get_or ps k d) ≤ greatest_stop ps
stop-le-greatest [] k d h = absurd (omega arith)
stop-le-greatest (p ∷ ps) zero d h = omega arith
stop-le-greatest (p ∷ ps) (suc k) d h = omega (arith, stop-le-greatest ps k d (omega arith))

-- the operations are of jobs and machines of the task; S holds of the job and the machine of each
-- and those of each later one, and never of one job on one machine twice; and their times are
-- within the limit
pub record IsListed (S : ℕ → ℕ → ℕ → ℕ → Type 0) (task : SchedulingTask) (os : List Operation) :
    Type 0 where
  pub never : (j i : ℕ) → ¬ (S j i j i)
  pub known : All (IsOperation (length task.jobs) task.machines) os
  pub keeps : AllPairs (Keeps S) os
  pub total : sum_by (λ o. o.time) os ≤ limit

module _ (S : ℕ → ℕ → ℕ → ℕ → Type 0) (task : SchedulingTask) (os : List Operation)
    (sound : IsSound task) (listed : IsListed S task os) where
  abbrev ps : List Piece
  ps = laid os

  pub is_laid : IsLaid S (length task.jobs) task.machines ps
  is_laid = laid_apart S (length task.jobs) task.machines os listed.known listed.keeps

  pub laid_sound : All IsPiece ps
  laid_sound k d h =
      let p = is_laid.placed k d h in
      let stop : stop_of (get_or ps k d) ≤ limit =
      omega (arith, stop-le-greatest ps k d h, stop_fold os [], listed.total) in
      ((p.low, time_le_back (get_or ps k d).stop (pos limit) (omega (arith, ints)) stop), p.full)

  pub laid_none_twice : NoneTwice ps
  laid_none_twice = apart_none_twice S ps is_laid.apart

  pub laid_on_machines : All (IsOnMachine task.machines) ps
  laid_on_machines k d h = (is_laid.placed k d h).machine

  pub laid_numbered : All (λ p. 0 < p.job) ps
  laid_numbered k d h = (is_laid.placed k d h).job.0

  laid_once : (j : ℕ) → 0 < j → IsOnce (drawing task.machines ps) j
  laid_once j low = single_place-drawing task.machines ps laid_none_twice laid_on_machines
      (apart_jobs_once S ps is_laid.apart) j low

  -- ---- the work of a job: the times of its operations

  pub laid_units : (j i : ℕ) → IsJob task j → i < task.machines
      → units (drawing task.machines ps) j i
      ≡ sum_by (λ o. cond (eqb o.job j && eqb o.machine (i + 1)) o.time 0) os
  laid_units j i job on = units-drawing task.machines ps j i laid_none_twice job.0 on
      ∙ work_on_fold os [] j (i + 1) ∙ omega arith

  pub laid_all_units : (j : ℕ) → IsJob task j
      → all_units (drawing task.machines ps) j ≡ sum_by (λ o. cond (eqb o.job j) o.time 0) os
  laid_all_units j job = all_units-drawing task.machines ps j laid_none_twice laid_on_machines job.0
      ∙ work_fold os [] j ∙ omega arith

  -- ---- it fits

  no_arcs : (arcs : List (ℕ × ℕ)) → arcs ≡ []
      → All (λ arc. (s t a b : ℕ) → cell (drawing task.machines ps) s a ≡ arc.0
      → cell (drawing task.machines ps) t b ≡ arc.1 → s < t) arcs
  no_arcs [] none k d h = absurd (omega arith)
  no_arcs (arc ∷ arcs) none k d h = cc

  -- in a shop: each job has its times, and in a flow shop visits the machines in their order
  pub laid_fits_shop : IsTrue (is_shop task.class)
      → ((j i : ℕ) → IsJob task j → i < 2
      → sum_by (λ o. cond (eqb o.job j && eqb o.machine (i + 1)) o.time 0) os
      ≡ time_on task j i)
      → (IsTrue (is_flow task.class) → (j a b : ℕ) → S j a j b → a < b)
      → Fits task (drawing task.machines ps)
  laid_fits_shop shop times rising = record {
    broken = record {
      width = width-drawing task.machines ps;
      jobs_only = jobs-drawing task.machines ps (length task.jobs)
          (λ k d h. (is_laid.placed k d h).job.1);
      single_place = λ j low high. laid_once j low;
      amount = λ j low high. record {
        in_all = λ plain. absurd (false≢true (sym plain ∙ shop));
        on_each = λ _ i lt. laid_units j i (low, high) (omega (arith, sound.shop shop))
            ∙ times j i (low, high) lt;
      };
      released = λ j low high t i here.
          omega (arith, sound.unreleased (shop_unreleased task.class shop) j (low, high));
      in_order = no_arcs task.arcs (sound.unordered (shop_unordered task.class shop));
      in_flow = λ flow j low high s t.
          apart_in_flow S ps is_laid.apart (rising flow) task.machines j s t low;
    };
    unbroken = λ _ j low high. record {
      no_gap = λ i s t u. apart_no_gap S ps is_laid.apart listed.never task.machines j i s t u low;
      one_machine = λ plain. absurd (false≢true (sym plain ∙ shop));
    };
  }

  -- outside shops, without release dates: each job comes once, with its time; and arcs, on one
  -- machine, are kept by the order
  pub laid_fits_plain : IsFalse (is_shop task.class) → IsFalse (is_released task.class)
      → ((j : ℕ) → IsJob task j → sum_by (λ o. cond (eqb o.job j) o.time 0) os ≡ time_of task j)
      → ((j a b : ℕ) → ¬ (S j a j b))
      → (0 < length task.arcs → task.machines ≡ 1)
      → All (λ arc. (arc.0 ≢ arc.1) × ((a b : ℕ) → ¬ (S arc.1 a arc.0 b))) task.arcs
      → Fits task (drawing task.machines ps)
  laid_fits_plain plain unreleased times once single arcs = record {
    broken = record {
      width = width-drawing task.machines ps;
      jobs_only = jobs-drawing task.machines ps (length task.jobs)
          (λ k d h. (is_laid.placed k d h).job.1);
      single_place = λ j low high. laid_once j low;
      amount = λ j low high. record {
        in_all = λ _. laid_all_units j (low, high) ∙ times j (low, high);
        on_each = λ shop. absurd (false≢true (sym plain ∙ shop));
      };
      released = λ j low high t i here. omega (arith, sound.unreleased unreleased j (low, high));
      in_order = λ k d h s t a b.
          let jobs = sound.arcs_in k d h in
          let arc = arcs k d h in
          apart_in_order S ps is_laid.apart task.machines (get_or task.arcs k d).0
          (get_or task.arcs k d).1 s t a b (single (omega arith)) jobs.0.0 jobs.1.0 arc.0 arc.1;
      in_flow = λ flow. absurd (false≢true (sym (no_flow task.class plain) ∙ flow));
    };
    unbroken = λ _ j low high. record {
      no_gap = λ i s t u. apart_no_gap S ps is_laid.apart listed.never task.machines j i s t u low;
      one_machine = λ _ s t a b. apart_one_machine S ps is_laid.apart once task.machines j s t a b
          low;
    };
  }

  -- ---- what it costs, where the makespan is the objective
  pub laid_cost : objective_of task.class ≡ Makespan
      → cost task (drawing task.machines ps) ≡ pos (greatest_stop ps)
  laid_cost by_makespan =
      cost-makespan task sound by_makespan (drawing task.machines ps)
      ∙ ap pos (makespan-drawing task.machines (length task.jobs) ps laid_none_twice
      laid_on_machines (λ k d h. sound_times (get_or ps k d) (laid_sound k d h))
      (λ k d h. (is_laid.placed k d h).job))

  -- ---- operations that come by machine: their pieces make a schedule as they are laid
  pub laid_schedule : AllPairs (λ p q. p.machine ≤ q.machine) ps → IsSchedule ps
  laid_schedule by_machine = record {
    sound = laid_sound;
    none_twice = laid_none_twice;
    in_order = λ a b d lt within. (
      by_machine a b d lt within,
      starts_apart S (get_or ps a d) (get_or ps b d) (laid_sound a d (omega arith))
          (laid_sound b d within) (is_laid.apart a b d lt within),
    );
  }

  pub one_machine_schedule : task.machines ≡ 1 → IsSchedule ps
  one_machine_schedule one = laid_schedule (λ a b d lt within.
      let first = laid_on_machines a d (omega arith) in
      let second = laid_on_machines b d within in
      omega (arith, first.1, second.0, one))

  -- ---- the pieces in another order
  module _ (qs : List Piece) (same : IsPermutation ps qs) where
    pub sorted_none_twice : NoneTwice qs
    sorted_none_twice i t =
        omega (arith, claims_permutation machine_of ps qs i t same, laid_none_twice i t)

    pub sorted_sound : All IsPiece qs
    sorted_sound = All-permutation IsPiece ps qs same laid_sound

    -- by machine and start they make a schedule
    pub sorted_schedule : AllPairs ComesBefore qs → IsSchedule qs
    sorted_schedule in_order =
        record { sound = sorted_sound; none_twice = sorted_none_twice; in_order = in_order }
