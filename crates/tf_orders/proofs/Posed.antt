-- The task of a class, read as that of its problem.
use Rattle.std.proofs.Common.{◌≡◌, Bool, true, false, ℕ, pos, List, [], ◌∷◌, length, sum, slice_index, cond, refl, sym, ap, ◌∙◌, arith}
use Rattle.tf_model.specs.declared.class.Class.{Class}
use Rattle.tf_model.specs.declared.class.Class.TheVariants.{WeightedSum}
use Rattle.tf_model.specs.ClassTable.{notation_of, is_shop, is_released, is_weighted, is_due}
use Rattle.tf_model.specs.SchedulingTask.{SchedulingTask, JobData, IsJob, job_data, time_of}
use Rattle.tf_model.specs.Sound.{IsSound}
use Rattle.tf_posed.specs.ProblemData.{ProblemData, problem_job, problem_release, problem_weight, problem_due, problem_time, time_over, weight_by, due_by}
use Rattle.tf_posed.specs.Agreement.{posed}
use Rattle.tf_posed.proofs.Conditions.{its_job, no_job_shop}
use Rattle.tf_problem.specs.ProblemBounds.{problem_work}
use Rattle.tf_bound.proofs.Sound.{all_times}
use Rattle.tf_schedule.specs.declared.piece.Piece.{Piece}
use Rattle.tf_orders.specs.declared.order.Turn.{Turn}
use Rattle.tf_orders.specs.Laying.{with_job, with_route, with_turn_of}

weight_named : (c : Class) (t : ProblemData) (j : ℕ)
    → weight_by (notation_of c).goal t j ≡ cond (is_weighted c) (problem_job t j).weight 1
weight_named WeightedSum t j = refl
weight_named _ t j = refl

due_named : (c : Class) (t : ProblemData) (j : ℕ)
    → due_by (notation_of c).goal t j ≡ cond (is_due c) (problem_job t j).due (pos 0)
due_named WeightedSum t j = refl
due_named _ t j = refl

-- the times of a job: one, or in a shop two
abbrev pub times_by : Bool → JobData → List ℕ
times_by shop d = d.first ∷ cond shop (d.second ∷ []) []

module _ (k : SchedulingTask) (sound : IsSound k) (j : ℕ) (job : IsJob k j) where
  pub release_is : problem_release (posed k) j ≡ (job_data k j).release
  release_is = by (is_released k.class) refl
    where
      by : (b : Bool) → is_released k.class ≡ b
          → problem_release (posed k) j ≡ (job_data k j).release
      by true has =
          ap (λ (b : Bool). cond b (problem_job (posed k) j).release 0) has
          ∙ ap (λ d. d.release) (its_job k j job)
      by false none =
          ap (λ (b : Bool). cond b (problem_job (posed k) j).release 0) none
          ∙ sym (sound.unreleased none j job)

  pub weight_is : problem_weight (posed k) j ≡ (job_data k j).weight
  weight_is = by (is_weighted k.class) refl
    where
      by : (b : Bool) → is_weighted k.class ≡ b → problem_weight (posed k) j ≡ (job_data k j).weight
      by true has =
          weight_named k.class (posed k) j
          ∙ ap (λ (b : Bool). cond b (problem_job (posed k) j).weight 1) has
          ∙ ap (λ d. d.weight) (its_job k j job)
      by false none =
          weight_named k.class (posed k) j
          ∙ ap (λ (b : Bool). cond b (problem_job (posed k) j).weight 1) none
          ∙ sym (sound.unit_weights none j job)

  pub due_is : (named : Bool) → is_due k.class ≡ named
      → problem_due (posed k) j ≡ cond named (job_data k j).due (pos 0)
  due_is named is =
      due_named k.class (posed k) j
      ∙ ap (λ d. cond (is_due k.class) d.due (pos 0)) (its_job k j job)
      ∙ ap (λ (b : Bool). cond b (job_data k j).due (pos 0)) is

  pub times_are : (shop : Bool) → is_shop k.class ≡ shop
      → (problem_job (posed k) j).times ≡ times_by shop (job_data k j)
  times_are shop is =
      ap (λ d. d.times) (its_job k j job) ∙ ap (λ (b : Bool). times_by b (job_data k j)) is

  pub work_is : problem_work (posed k) j ≡ time_of k j
  work_is = by (is_shop k.class) refl
    where
      by : (b : Bool) → is_shop k.class ≡ b → problem_work (posed k) j ≡ time_of k j
      by true shop =
          ap (λ (b : Bool). cond b (time_over (posed k) j 0 k.machines) (problem_time (posed k) j)) shop
          ∙ all_times (posed k) j (ap length (times_are true shop) ∙ sym (sound.shop shop))
          ∙ ap sum (times_are true shop) ∙ omega arith
      by false single =
          ap (λ (b : Bool). cond b (time_over (posed k) j 0 k.machines) (problem_time (posed k) j)) single
          ∙ ap (λ ts. slice_index ts 0) (times_are false single)
          ∙ omega (arith, sound.one_time single j job)

-- the job of a turn is laid on its machines one after another
pub turn_laid : (k : SchedulingTask) → IsSound k → (ps : List Piece) (t : Turn) → IsJob k t.job
    → (shop : Bool) → is_shop k.class ≡ shop
    → with_turn_of (posed k) ps t
    ≡ with_job ps t.job t.machine (job_data k t.job).release (times_by shop (job_data k t.job))
turn_laid k sound ps t job shop is =
    ap (λ (b : Bool). cond b
    (with_route ps t.job (problem_release (posed k) t.job) (problem_job (posed k) t.job).times
    (problem_job (posed k) t.job).route)
    (with_job ps t.job t.machine (problem_release (posed k) t.job) (problem_job (posed k) t.job).times))
    (no_job_shop k.class)
    ∙ ap (λ free. with_job ps t.job t.machine free (problem_job (posed k) t.job).times)
    (release_is k sound t.job job)
    ∙ ap (with_job ps t.job t.machine (job_data k t.job).release) (times_are k sound t.job job shop is)
