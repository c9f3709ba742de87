-- The timeline with its last window: the timetable fits, and costs at most the window's bound.
use Rattle.std.proofs.Common.{ℤ, ◌≡◌, ℕ, ◌≤◌, ◌<◌, List, [], ◌∷◌, Bool, ◌&&◌, cond, nat_le, refl, sym, ap, ◌∙◌, subst, arith, filter, All, pos, ◌-ℤ◌, ◌≤ℤ◌, ◌<ℤ◌, Ok}
use Rattle.std.specs.List.{Any}
use Rattle.std.proofs.lemmas.Int.{ints}
use Rattle.std.proofs.lemmas.List.Elements.{All-head, All-tail, All-weaker}
use Rattle.tf_schedule.specs.declared.piece.Piece.{Piece}
use Rattle.tf_schedule.specs.Piece.{as_time}
use Rattle.tf_schedule.specs.Drawing.{stop_of, drawing, Draws}
use Rattle.tf_schedule.specs.Amounts.{last_stop}
use Rattle.tf_schedule.proofs.Drawing.{completion-drawing}
use Rattle.tf_schedule.proofs.Busy.{greatest_reached, greatest_le}
use Rattle.tf_model.specs.Limit.{limit}
use Rattle.tf_model.specs.Timetable.{Timetable, completion}
use Rattle.tf_model.specs.declared.class.Class.TheVariants.{ReleaseLmax}
use Rattle.tf_model.specs.ClassTable.{is_single}
use Rattle.tf_model.specs.SchedulingTask.{SchedulingTask, IsJob, all_jobs, job_data}
use Rattle.tf_model.specs.Sound.{IsSound}
use Rattle.tf_model.specs.Feasible.{Fits}
use Rattle.tf_model.specs.Cost.{Lateness, objective_of, cost, cost_by, price_by}
use Rattle.tf_model.proofs.Costs.{All-all_jobs, greatest_price_reached}
use Rattle.tf_check.specs.Claim.{ByWindow}
use Rattle.tf_check.specs.Bound.{window_bound}
use Rattle.tf_check.specs.Laws.{bound_in}
use Rattle.tf_check.specs.Accepted.{IsAccepted}
use Rattle.tf_check.proofs.SolutionAccepted.{solution_accepted}
use Rattle.tf_single.specs.EarliestDue.{RunsEarliestDue, IsStretch, IsLastWindow, jobs_within, lateness_of}
use Rattle.tf_single.specs.Horn.{RunsByHorn}
use Rattle.tf_single.specs.Progress.{of_job, IsRun, IsProgress, IsTimeline}
use Rattle.tf_single.specs.Ends.{AreEnds, IsLatest, lateness, is_within}
use Rattle.tf_single.proofs.Progress.{sound_draws, progress_fits, runs_earliest_due}
use Rattle.tf_single.proofs.Stretch.{last_row}
use Rattle.tf_single.proofs.Window.{window-reaches}

filter_same : {X : Type 0} (p q : X → Bool) (xs : List X) → All (λ x. p x ≡ q x) xs
    → filter p xs ≡ filter q xs
filter_same p q [] same = refl
filter_same p q (x ∷ xs) same =
    ap (λ b. cond b (x ∷ filter p xs) (filter p xs)) (All-head (λ y. p y ≡ q y) x xs same)
    ∙ ap (λ ys. cond (q x) (x ∷ ys) ys) (filter_same p q xs (All-tail (λ y. p y ≡ q y) x xs same))

module _ (k : SchedulingTask) (sound : IsSound k) (class : k.class ≡ ReleaseLmax)
    (ps : List Piece) (timeline : IsTimeline k ps) where
  p : IsProgress k ps (λ _. 0) timeline.now
  p = timeline.progress

  one_machine : 1 ≡ k.machines
  one_machine = sym (sound.single (ap is_single class))

  abbrev rows : Timetable
  rows = drawing 1 ps

  rows_fit : Fits k rows
  rows_fit = progress_fits k ps (λ _. 0) timeline.now sound class p (λ j job. refl)

  rows_earliest : RunsEarliestDue k rows
  rows_earliest = runs_earliest_due k ps (λ _. 0) timeline.now p

  over_at : (j : ℕ) → IsJob k j → completion rows j ≡ last_stop ps j
  over_at j job =
      completion-drawing 1 ps j p.schedule.none_twice
      (sound_draws k ps (λ _. 0) timeline.now p).on_machines
      (All-weaker (IsRun k timeline.now) (λ q. as_time q.start < as_time q.stop) (λ q r. r.full) ps
      p.runs) job.0

  pub drawn : Draws k.machines ps (drawing k.machines ps)
  drawn = subst (λ m. Draws m ps (drawing m ps)) one_machine
      (sound_draws k ps (λ _. 0) timeline.now p)

  -- ---- the window of the latest job

  -- the bound of the last window is the greatest lateness
  window_reached : (jobs : List ℕ) (w : IsLastWindow k rows jobs)
      → window_bound k jobs ≡ Ok (lateness_of k rows w.latest)
  window_reached jobs w =
      ap (window_bound k) w.are
      ∙ window-reaches k rows sound class rows_fit.broken rows_earliest w.latest w.job w.greatest
      w.start w.stretch

  module _ (ends : List ℕ) (e : AreEnds k ps ends) where
    end_is : (j : ℕ) → IsJob k j → of_job ends j ≡ completion rows j
    end_is j job = e.each j job ∙ sym (over_at j job)

    pub end_limit : (j : ℕ) → IsJob k j → of_job ends j ≤ limit
    end_limit j job =
        omega (
          arith,
          timeline.within,
          e.each j job,
          greatest_le stop_of ps j timeline.now
              (All-weaker (IsRun k timeline.now) (λ q. as_time q.stop ≤ timeline.now)
              (λ q r. r.stop) ps p.runs),
        )

    pub end_reached : (j : ℕ) → IsJob k j → Any (λ q. as_time q.stop ≡ of_job ends j) ps
    end_reached j job =
        let last = last_row k rows sound rows_fit.broken (ap is_single class) j job in
        let found = greatest_reached stop_of ps j (omega (arith, over_at j job, last.1)) in
        (found.0, found.1, found.2, found.3, (found.4).1 ∙ sym (e.each j job))

    late_is : (j : ℕ) → IsJob k j → lateness k ends j ≡ lateness_of k rows j
    late_is j job = ap (λ c. pos c -ℤ (job_data k j).due) (end_is j job)

    module _ (l : ℕ) (latest : IsLatest k ends l) (end : ℕ) (ended : end ≡ of_job ends l)
        (start : ℕ) (stretch : IsStretch k rows (job_data k l).due start end)
        (jobs : List ℕ) (are : jobs ≡ filter (is_within k ends start end) (all_jobs k)) where
      end_of_latest : end ≡ completion rows l
      end_of_latest = ended ∙ end_is l latest.job

      jobs_are : jobs ≡ jobs_within k rows start (completion rows l)
      jobs_are =
          are
          ∙ filter_same (is_within k ends start end)
          (λ j. nat_le start (job_data k j).release && nat_le (completion rows j) end) (all_jobs k)
          (All-all_jobs k (λ j. is_within k ends start end j
          ≡ (nat_le start (job_data k j).release && nat_le (completion rows j) end))
          (λ j job. ap (λ c. nat_le start (job_data k j).release && nat_le c end) (end_is j job)))
          ∙ ap (jobs_within k rows start) end_of_latest

      pub solved_window : IsLastWindow k rows jobs
      solved_window = record {
        latest = l;
        job = latest.job;
        greatest = λ j job. subst (λ z. z ≤ℤ lateness_of k rows l) (late_is j job)
            (subst (λ z. lateness k ends j ≤ℤ z) (late_is l latest.job) (latest.greatest j job));
        first = λ j job lt. subst (λ z. z <ℤ lateness_of k rows l) (late_is j job)
            (subst (λ z. lateness k ends j <ℤ z) (late_is l latest.job) (latest.first j job lt));
        start = start;
        stretch = subst (IsStretch k rows (job_data k l).due start) end_of_latest stretch;
        are = jobs_are;
      }

      pub solved_value : window_bound k jobs ≡ Ok (lateness k ends l)
      unfolding solved_window
      solved_value = window_reached jobs solved_window ∙ ap Ok (sym (late_is l latest.job))

  -- ---- the answer

  module _ (jobs : List ℕ) (window : IsLastWindow k rows jobs) (v : ℤ)
      (bounded : window_bound k jobs ≡ Ok v) where
    dearest : v ≡ lateness_of k rows window.latest
    dearest = ap bound_in (sym bounded ∙ window_reached jobs window)

    cost_within : cost k rows ≤ℤ v
    cost_within =
        let is : objective_of k.class ≡ Lateness = ap objective_of class in
        let most = greatest_price_reached k rows sound.some_job in
        let priced : cost k rows ≡ lateness_of k rows most.0 =
        ap (λ o. cost_by o k rows) is ∙ most.2
        ∙ ap (λ o. price_by o k most.0 (completion rows most.0)) is in
        omega (arith, ints, priced, dearest, window.greatest most.0 most.1)

    pub solved_accepted : IsAccepted k
        (record { pieces = ps; value = v; certificate = ByWindow jobs })
    solved_accepted = solution_accepted k ps v (ByWindow jobs) sound
        (record {
          rows = rows;
          fitting = record {
            pieces = p.schedule.sound;
            draws = subst (λ m. Draws m ps rows) one_machine
                (sound_draws k ps (λ _. 0) timeline.now p);
            fits = rows_fit;
          };
          most = cost_within;
          bounded = bounded;
        })

    pub solved_rule : RunsByHorn k ps (ByWindow jobs)
    solved_rule = record {
      runs = record {
        schedule = p.schedule;
        machine = All-weaker (IsRun k timeline.now) (λ q. q.machine ≡ 1) (λ q r. r.machine) ps
            p.runs;
        whole = p.whole;
      };
      fits = subst (λ m. Fits k (drawing m ps)) one_machine rows_fit;
      earliest = subst (λ m. RunsEarliestDue k (drawing m ps)) one_machine rows_earliest;
      certificate = subst (λ m. IsLastWindow k (drawing m ps) jobs) one_machine window;
    }
