-- The jobs in their order by ratio, one after another on machine 1: the timetable fits, it costs at
-- most the bound by pairs, and its
-- pieces come in order of time.
use Rattle.std.proofs.Common.{◌≡◌, ℕ, ◌+◌, ◌*◌, ◌<◌, ◌≤◌, ◌≤ℤ◌, pos, List, [], ◌∷◌, map, Ok, refl, sym, ap, subst, ◌∙◌, arith, IsTrue}
use Rattle.std.specs.List.{All}
use Rattle.std.specs.List.Sorted.{IsPermutation}
use Rattle.std.proofs.lemmas.List.Elements.{All-head, All-tail, All-map}
use Rattle.std.proofs.lemmas.List.Sorted.{IsPermutation-refl}
use Rattle.tf_model.specs.ClassTable.{is_sum, is_single}
use Rattle.tf_model.specs.Cost.{cost}
use Rattle.tf_model.specs.SchedulingTask.{SchedulingTask, all_jobs, job_data, time_of}
use Rattle.tf_model.specs.Sound.{IsSound}
use Rattle.tf_model.proofs.Classes.{total, sum_plain, sum_unreleased, sum_unordered}
use Rattle.tf_schedule.specs.declared.semi_active.Operation.{Operation}
use Rattle.tf_schedule.specs.Drawing.{drawing}
use Rattle.tf_schedule.specs.Schedule.{IsSchedule}
use Rattle.tf_schedule.specs.SemiActive.{laid}
use Rattle.tf_schedule.specs.Sequence.{operation_of, in_sequence}
use Rattle.tf_schedule.proofs.LaidFits.{one_machine_schedule}
use Rattle.tf_schedule.proofs.OneOperation.{jobs_of, IsOneEach, OtherJob, front_after, weighted_ends, one_listed, one_fits, one_cost}
use Rattle.tf_check.specs.declared.weighted_job.WeightedJob.{WeightedJob}
use Rattle.tf_check.specs.Accepted.{IsAccepted}
use Rattle.tf_check.specs.Bound.{pairs_bound}
use Rattle.tf_check.specs.Claim.{ByPairs}
use Rattle.tf_check.specs.Ratio.{IsOfTask, AreByRatio, AreJobsByRatio, completions_from, completions_in}
use Rattle.tf_check.proofs.LaidAccepted.{laid_accepted}
use Rattle.tf_check.proofs.Given.{sum_takes_pairs, pairs_given}
use Rattle.tf_check.proofs.RatioOrder.{completions-by_ratio, in_is}

module _ (k : SchedulingTask) (xs : List WeightedJob) (sound : IsSound k)
    (sum : IsTrue (is_sum k.class)) (single : IsTrue (is_single k.class))
    (by_ratio : AreByRatio k xs) where
  -- the jobs in their order
  abbrev order : List ℕ
  order = map (λ x. x.job) xs

  abbrev os : List Operation
  os = in_sequence k order

  same_jobs : (js : List ℕ) → jobs_of (in_sequence k js) ≡ js
  same_jobs [] = refl
  same_jobs (j ∷ js) = ap (λ is. j ∷ is) (same_jobs js)

  pub sequence_each : IsOneEach k os
  sequence_each = record {
    jobs = subst (IsPermutation (all_jobs k)) (sym (same_jobs order)) by_ratio.jobs.all;
    times = All-map (λ o. o.time ≡ time_of k o.job) (operation_of k) order (λ a d h. refl);
    machines = All-map (λ o. (0 < o.machine) × (o.machine ≤ k.machines)) (operation_of k) order
        (λ a d h. (omega arith, omega (arith, sound.some_machine)));
  }

  -- each job ends when all before it and itself are done
  ends_are : (ys : List WeightedJob) (front : ℕ → ℕ) → All (IsOfTask k) ys
      → weighted_ends (λ j. (job_data k j).weight) front (in_sequence k (map (λ y. y.job) ys))
      ≡ completions_from (front 1) ys
  ends_are [] front told = refl
  ends_are (y ∷ ys) front told =
      let here = All-head (IsOfTask k) y ys told in
      let time : ℕ = time_of k y.job in
      let rest = ends_are ys (front_after front 1 time) (All-tail (IsOfTask k) y ys told) in
      let own = ap (λ n. n * (front 1 + time)) here.weight in
      rw here.time (omega (arith, rest, own))

  pub sequence_accepted : IsAccepted k
      (record { pieces = laid os; value = pos (completions_from 0 xs); certificate = ByPairs })
  sequence_accepted =
      let fits = one_fits k os sound sequence_each (sum_plain k.class sum)
      (sum_unreleased k.class sum) (sum_unordered k.class sum) in
      let bound : pairs_bound k ≡ Ok (pos (completions_from 0 xs)) =
      pairs_given k (sum_takes_pairs k.class sum single)
      ∙ ap (λ n. Ok (pos n)) (sym (completions-by_ratio k xs by_ratio)) in
      let value = ends_are xs (λ _. 0) by_ratio.jobs.told in
      laid_accepted OtherJob k os sound (one_listed k os sound sequence_each) (laid os)
      (IsPermutation-refl (laid os)) fits (pos (completions_from 0 xs)) ByPairs bound
      (subst (λ n. cost k (drawing k.machines (laid os)) ≤ℤ pos n) value
      (one_cost k os sound sequence_each (total k.class sum)))

  pub sequence_schedule : IsSchedule (laid os)
  sequence_schedule = one_machine_schedule OtherJob k os sound
      (one_listed k os sound sequence_each) (sound.single single)

-- ---- the same by the numbers of the jobs

module _ (k : SchedulingTask) (js : List ℕ) (sound : IsSound k) (sum : IsTrue (is_sum k.class))
    (single : IsTrue (is_single k.class)) (by_ratio : AreJobsByRatio k js) where
  pub ratio_schedule : IsSchedule (laid (in_sequence k js))
  ratio_schedule =
      subst (λ is. IsSchedule (laid (in_sequence k is))) (sym by_ratio.are)
      (sequence_schedule k by_ratio.jobs sound sum single by_ratio.by_ratio)

  pub ratio_accepted : IsAccepted k
      (record {
        pieces = laid (in_sequence k js);
        value = pos (completions_in k 0 js);
        certificate = ByPairs;
      })
  ratio_accepted =
      rw (in_is k js by_ratio)
      (subst (λ is. IsAccepted k
      (record {
        pieces = laid (in_sequence k is);
        value = pos (completions_from 0 by_ratio.jobs);
        certificate = ByPairs;
      })) (sym by_ratio.are)
      (sequence_accepted k by_ratio.jobs sound sum single by_ratio.by_ratio))
