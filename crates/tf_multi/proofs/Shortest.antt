-- Filled machines draw a timetable that fits and ends by the bound of its certificate.
use Rattle.std.proofs.Common.{◌≡◌, ℕ, ◌*◌, ◌<◌, ◌≤◌, pos, ◌≤ℤ◌, Bool, true, false, Ok, List, [], ◌∷◌, length, get_or, max, refl, sym, ap, ◌∙◌, arith, IsFalse, mul-le-mul_left}
use Rattle.std.specs.Int.{div_ceil}
use Rattle.std.specs.List.{All, sum_by}
use Rattle.std.proofs.lemmas.Bool.{false≢true}
use Rattle.std.proofs.lemmas.Grind.{div_ceil_times}
use Rattle.std.proofs.lemmas.Int.{ints}
use Rattle.tf_model.specs.declared.class.Class.{Class}
use Rattle.tf_model.specs.declared.class.Class.TheVariants.{ParallelPrmp}
use Rattle.tf_model.specs.Bounds.{load_value}
use Rattle.tf_model.specs.Cost.{Makespan, objective_of, cost}
use Rattle.tf_model.specs.Feasible.{Fits}
use Rattle.tf_model.specs.Limit.{limit}
use Rattle.tf_model.specs.SchedulingTask.{SchedulingTask, IsJob, all_jobs, time_of}
use Rattle.tf_model.specs.ClassTable.{is_shop, is_flow, is_released, is_ordered, may_break}
use Rattle.tf_model.specs.Sound.{IsSound}
use Rattle.tf_model.specs.Timetable.{cell}
use Rattle.tf_model.proofs.Costs.{term-le-all_jobs}
use Rattle.tf_model.proofs.Loads.{div_ceil_least}
use Rattle.tf_schedule.specs.declared.piece.Piece.{Piece}
use Rattle.tf_schedule.specs.Drawing.{drawing, greatest_stop, Draws, IsOnMachine}
use Rattle.tf_schedule.proofs.Times.{sound_times}
use Rattle.tf_schedule.proofs.Drawing.{width-drawing, jobs-drawing, single_place-drawing, all_units-drawing, makespan-drawing, greatest_stop_le}
use Rattle.tf_schedule.proofs.Makespan.{cost-makespan}
use Rattle.tf_schedule.proofs.Permuted.{draws_drawing}
use Rattle.tf_check.specs.Accepted.{IsAccepted}
use Rattle.tf_check.specs.Bound.{bound_by}
use Rattle.tf_check.specs.Claim.{Claim, ByLoad, ByOneJob}
use Rattle.tf_check.specs.Kinds.{takes_load, takes_one_job}
use Rattle.tf_check.proofs.Given.{load_given, one_job_given}
use Rattle.tf_check.proofs.SolutionAccepted.{solution_accepted}
use Rattle.tf_multi.specs.Fill.{IsFilled}
use Rattle.tf_multi.proofs.Filling.{front_in_range}

-- all the work
abbrev total : SchedulingTask → ℕ
total task = sum_by (time_of task) (all_jobs task)

pub div_ceil_le : (a m : ℕ) → 0 < m → div_ceil a m ≤ a
div_ceil_le a m some =
    div_ceil_least a m a some (let wide : a * 1 ≤ a * m = mul-le-mul_left a some in omega arith)

-- the load of the machines suffices for all the work
pub load_room : (task : SchedulingTask) (v : ℕ) → IsSound task → load_value task ≤ v
    → total task ≤ task.machines * v
load_room task v sound le =
    let product : task.machines * load_value task ≤ task.machines * v =
    mul-le-mul_left task.machines le in
    omega (arith, (div_ceil_times (total task) task.machines sound.some_machine).0, product)

pub load_le_total : (task : SchedulingTask) → IsSound task → load_value task ≤ total task
load_le_total task sound = div_ceil_le (total task) task.machines sound.some_machine

pub time_le_total : (task : SchedulingTask) (j : ℕ) → IsJob task j → time_of task j ≤ total task
time_le_total task j h = term-le-all_jobs task (time_of task) j h

module _ (task : SchedulingTask) (sound : IsSound task) (is : task.class ≡ ParallelPrmp) where
  -- a test of the class, as it comes out for this one
  in_class : (test : Class → Bool) (b : Bool) → test ParallelPrmp ≡ b → test task.class ≡ b
  in_class test b e = ap test is ∙ e

  pub no_shop : IsFalse (is_shop task.class)
  no_shop = in_class is_shop false refl

  pub by_makespan : objective_of task.class ≡ Makespan
  by_makespan = ap objective_of is

  module _ (v : ℕ) (ps : List Piece) (i t : ℕ) (room : total task ≤ task.machines * v)
      (filled : IsFilled v (time_of task) (length task.jobs) ps i t) where
    on_machines : All (IsOnMachine task.machines) ps
    on_machines k d h =
        let p = filled.placed k d h in (
          p.machine.0,
          omega (
            arith,
            p.machine.1,
            front_in_range v (time_of task) (length task.jobs) ps i t task.machines
                sound.some_machine room filled,
          ),
        )

    pub filled_draws : Draws task.machines ps (drawing task.machines ps)
    filled_draws =
        draws_drawing task.machines ps filled.schedule.none_twice
        (λ k d h. (filled.placed k d h).job.0) on_machines

    filled_in_order : (arcs : List (ℕ × ℕ)) → arcs ≡ []
        → All (λ arc. (s u a b : ℕ) → cell (drawing task.machines ps) s a ≡ arc.0
        → cell (drawing task.machines ps) u b ≡ arc.1 → s < u) arcs
    filled_in_order [] none k d h = absurd (omega arith)
    filled_in_order (arc ∷ arcs) none k d h = cc

    filled_fits_task : Fits task (drawing task.machines ps)
    filled_fits_task = record {
      broken = record {
        width = width-drawing task.machines ps;
        jobs_only = jobs-drawing task.machines ps (length task.jobs)
            (λ k d h. (filled.placed k d h).job.1);
        single_place =
            λ j low _. single_place-drawing task.machines ps filled.schedule.none_twice on_machines
            filled.one_place j low;
        amount = λ j low high. record {
          in_all = λ _. all_units-drawing task.machines ps j filled.schedule.none_twice on_machines
              low ∙ filled.amounts j low high;
          on_each = λ shop. absurd (false≢true (sym no_shop ∙ shop));
        };
        released = λ j low high u h here. omega
            (arith, sound.unreleased (in_class is_released false refl) j (low, high));
        in_order = filled_in_order task.arcs (sound.unordered (in_class is_ordered false refl));
        in_flow = λ flow. absurd (false≢true (sym (in_class is_flow false refl) ∙ flow));
      };
      unbroken = λ whole. absurd (false≢true (sym whole ∙ in_class may_break true refl));
    }

    filled_cost : cost task (drawing task.machines ps) ≤ℤ pos v
    filled_cost =
        let priced : cost task (drawing task.machines ps) ≡ pos (greatest_stop ps) =
        cost-makespan task sound by_makespan (drawing task.machines ps)
        ∙ ap pos (makespan-drawing task.machines (length task.jobs) ps filled.schedule.none_twice
        on_machines (λ k d h. sound_times (get_or ps k d) (filled.placed k d h).sound)
        (λ k d h. (filled.placed k d h).job)) in
        let most : greatest_stop ps ≤ v =
        greatest_stop_le ps v (λ k d h. (filled.placed k d h).stop) in
        omega (arith, ints)

    pub filled_accepted : (claim : Claim) → bound_by claim task ≡ Ok (pos v)
        → IsAccepted task (record { pieces = ps; value = pos v; certificate = claim })
    filled_accepted claim bounded = solution_accepted task ps (pos v) claim sound
        (record {
          rows = drawing task.machines ps;
          fitting = record {
            pieces = filled.schedule.sound;
            draws = filled_draws;
            fits = filled_fits_task;
          };
          most = filled_cost;
          bounded = bounded;
        })

  -- what the two certificates bound
  pub load_bounds : bound_by ByLoad task ≡ Ok (pos (load_value task))
  load_bounds = load_given task (in_class takes_load true refl)

  pub one_job_bounds : (j : ℕ) → IsJob task j
      → bound_by (ByOneJob j) task ≡ Ok (pos (time_of task j))
  one_job_bounds j job = one_job_given task j (in_class takes_one_job true refl) job

  -- machines that are filled up to the load or, if that is more, the time of the longest job
  module _ (load time v j : ℕ) (is_load : load ≡ load_value task) (job : IsJob task j)
      (is_time : time ≡ time_of task j) (is_value : v ≡ max load time) where
    pub value_room : total task ≤ task.machines * v
    value_room = load_room task v sound (omega arith)

    pub value_within : v ≤ limit
    value_within = omega (arith, load_le_total task sound, time_le_total task j job, sound.total)
