-- What every task keeps that was prepared.
use Rattle.std.specs.Prelude.{◌≡◌, ℕ, ◌+◌, ◌*◌, ◌≤◌, ◌≤ℤ◌, [], length, IsTrue, IsFalse}
use Rattle.std.specs.List.{All, sum_by}
use Rattle.tf_model.specs.Limit.{limit, most_jobs, most_arcs, most_machines}
use Rattle.tf_model.specs.Whole.{IsWithin}
use Rattle.tf_model.specs.SchedulingTask.{SchedulingTask, all_jobs, IsJob, job_data, time_of}
use Rattle.tf_model.specs.ClassTable.{is_shop, is_single, is_weighted, is_released, is_costed, is_ordered, is_sum}
use Rattle.tf_model.specs.Cost.{price}

pub record IsSound (k : SchedulingTask) : Type 0 where
  pub some_job : 1 ≤ length k.jobs
  pub few_jobs : length k.jobs ≤ most_jobs
  pub few_arcs : length k.arcs ≤ most_arcs
  pub some_machine : 1 ≤ k.machines
  pub few_machines : k.machines ≤ most_machines
  pub single : IsTrue (is_single k.class) → k.machines ≡ 1
  pub shop : IsTrue (is_shop k.class) → k.machines ≡ 2
  -- outside shops a job has one time, which is at least 1
  pub worked : IsFalse (is_shop k.class) → (j : ℕ) → IsJob k j → 1 ≤ time_of k j
  pub one_time : IsFalse (is_shop k.class) → (j : ℕ) → IsJob k j → (job_data k j).second ≡ 0
  -- what a class does not use is neutral
  pub unit_weights : IsFalse (is_weighted k.class) → (j : ℕ) → IsJob k j → (job_data k j).weight ≡ 1
  pub unreleased : IsFalse (is_released k.class) → (j : ℕ) → IsJob k j → (job_data k j).release ≡ 0
  pub unordered : IsFalse (is_ordered k.class) → k.arcs ≡ []
  pub uncosted : IsFalse (is_costed k.class) → k.costs ≡ []
  pub costed : IsTrue (is_costed k.class) → length k.costs ≡ length k.jobs
  pub arcs_in : All (λ arc. IsJob k arc.0 × IsJob k arc.1) k.arcs
  pub dues : (j : ℕ) → IsJob k j → IsWithin (job_data k j).due
  -- the totals: all the work, the work behind any release date, and the weights times the work
  pub total : sum_by (time_of k) (all_jobs k) ≤ limit
  pub horizon : (j : ℕ) → IsJob k j
      → (job_data k j).release + sum_by (time_of k) (all_jobs k) ≤ limit
  pub weighted_total : IsTrue (is_sum k.class)
      → sum_by (λ j. (job_data k j).weight) (all_jobs k) * sum_by (time_of k) (all_jobs k) ≤ limit
  -- no job gets cheaper by being late
  pub rising : (j c e : ℕ) → IsJob k j → c ≤ e → price k j c ≤ℤ price k j e
