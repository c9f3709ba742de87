-- The jobs by time, dealt round the machines: the timetable fits, and costs at most the bound by
-- the ranks of the reverse order.
use Rattle.std.proofs.Common.{◌≡◌, ◌≢◌, ℕ, zero, suc, ◌+◌, ◌-◌, ◌*◌, ◌<◌, ◌≤◌, ◌≤ℤ◌, pos, cond, eqb, List, [], ◌∷◌, ◌++◌, length, get_or, drop, reverse, Ok, refl, sym, ap, subst, ◌∙◌, arith, inl, inr, IsTrue}
use Rattle.std.specs.List.{All, AllPairs, fold, sum_by}
use Rattle.std.specs.List.Sorted.{IsPermutation}
use Rattle.std.proofs.lemmas.Bool.{cases_eq}
use Rattle.std.proofs.lemmas.List.Kept.{AllPairs-cons}
use Rattle.std.proofs.lemmas.List.{get_or-map, get_or-reverse, length-map, length-reverse, map-append, map-id, drop-drop, drop_more, drop_all}
use Rattle.std.proofs.lemmas.Simd.{map-map}
use Rattle.std.proofs.lemmas.List.Elements.{All-append, All-cons, All-head, All-map, All-tail, All-nil}
use Rattle.std.proofs.lemmas.List.FromFn.{length-range_with_len}
use Rattle.std.proofs.lemmas.List.Sorted.{All-permutation, sum_by-IsPermutation, IsPermutation-refl, IsPermutation-reverse, IsPermutation-trans, length_permutation}
use Rattle.std.proofs.lemmas.List.Sums.{sum_by-append, fold-append}
use Rattle.tf_model.specs.Bounds.{ranks_value}
use Rattle.tf_model.specs.ClassTable.{is_sum, is_parallel}
use Rattle.tf_model.specs.Cost.{cost}
use Rattle.tf_model.specs.Feasible.{Fits}
use Rattle.tf_model.specs.Limit.{limit}
use Rattle.tf_model.specs.SchedulingTask.{SchedulingTask, IsJob, all_jobs, job_data, time_of}
use Rattle.tf_model.specs.Sound.{IsSound}
use Rattle.tf_model.proofs.Classes.{total, sum_plain, sum_unreleased, sum_unordered, parallel_unweighted}
use Rattle.tf_model.proofs.Costs.{All-all_jobs}
use Rattle.tf_model.proofs.Loads.{IsDistinct-all_jobs}
use Rattle.tf_model.proofs.Work.{IsDistinct}
use Rattle.tf_schedule.specs.declared.piece.Piece.{Piece}
use Rattle.tf_schedule.specs.declared.semi_active.Operation.{Operation}
use Rattle.tf_schedule.specs.Drawing.{drawing}
use Rattle.tf_schedule.specs.Piece.{machine_of, job_of}
use Rattle.tf_schedule.specs.Schedule.{IsSchedule}
use Rattle.tf_schedule.specs.SemiActive.{stretch, laid, with_operation}
use Rattle.tf_schedule.proofs.Counting.{sum_by-map}
use Rattle.tf_schedule.proofs.Laying.{Keeps}
use Rattle.tf_schedule.proofs.LaidFits.{IsListed, is_laid, laid_schedule}
use Rattle.tf_schedule.proofs.Parts.{AllPairs-append, AllPairs-left, AllPairs-across, AllPairs-head, AllPairs-tail}
use Rattle.tf_schedule.proofs.OneOperation.{jobs_of as jobs_of_operations, IsOneEach, OtherJob, one_listed, one_fits, one_cost}
use Rattle.tf_check.specs.declared.weighted_job.WeightedJob.{WeightedJob}
use Rattle.tf_check.specs.Accepted.{IsAccepted}
use Rattle.tf_check.specs.Bound.{ranks_bound}
use Rattle.tf_check.specs.Claim.{ByRanks}
use Rattle.tf_check.specs.Ratio.{AreByRatio, AreJobsByRatio, jobs_of}
use Rattle.tf_check.proofs.Given.{sum_takes_ranks, ranks_given}
use Rattle.tf_check.proofs.LaidAccepted.{laid_accepted}
use Rattle.tf_check.proofs.NoFault.{no_list_fault}
use Rattle.tf_check.proofs.RankedTimes.{ranks_within, ranks_fault_none}
use Rattle.tf_check.proofs.RatioOrder.{jobs_falling}
use Rattle.tf_multi.specs.Dealing.{turns, run_on, share, dealt, AreFree}
use Rattle.tf_multi.proofs.Dealing.{all_turns, turned_all, ends-dealt}
use Rattle.tf_multi.proofs.Numbers.{apart_in_order}
use Rattle.tf_multi.proofs.OneByOne.{IsLeft, left_next, other_stops}

-- ---- the operations

-- what holds of each job, and of all pairs, holds of those of a machine
All-turns : (P : ℕ → Type 0) (m d : ℕ) (js : List ℕ) → All P js → All P (turns m d js)
All-turns P m d [] all = all
All-turns P m zero (j ∷ js) all =
    All-cons P j (turns m (m - 1) js) (All-head P j js all)
    (All-turns P m (m - 1) js (All-tail P j js all))
All-turns P m (suc d) (j ∷ js) all = All-turns P m d js (All-tail P j js all)

AllPairs-turns : (R : ℕ → ℕ → Type 0) (m d : ℕ) (js : List ℕ) → AllPairs R js
    → AllPairs R (turns m d js)
AllPairs-turns R m d [] pairs = pairs
AllPairs-turns R m zero (j ∷ js) pairs =
    AllPairs-cons R j (turns m (m - 1) js)
    (All-turns (R j) m (m - 1) js (AllPairs-head R j js pairs))
    (AllPairs-turns R m (m - 1) js (AllPairs-tail R j js pairs))
AllPairs-turns R m (suc d) (j ∷ js) pairs =
    AllPairs-turns R m d js (AllPairs-tail R j js pairs)

module _ (f : ℕ → ℕ) (m : ℕ) where
  -- the jobs of the operations are what the machines get
  jobs_of_dealt : (c : ℕ) (js : List ℕ) → jobs_of_operations (dealt f m c js) ≡ all_turns m c js
  jobs_of_dealt zero js = refl
  jobs_of_dealt (suc c) js =
      map-append (λ o. o.job) (dealt f m c js) (share f m c js)
      ∙ ap (λ is. is ++ jobs_of_operations (share f m c js)) (jobs_of_dealt c js)
      ∙ ap (λ is. all_turns m c js ++ is)
      (map-map (λ o. o.job) (run_on f (suc c)) (turns m c js) ∙ map-id (turns m c js))

  -- what holds of each job on each of the machines holds of each operation
  All-dealt : (P : Operation → Type 0) (c : ℕ) (js : List ℕ)
      → All (λ j. (h : ℕ) → (0 < h) × (h ≤ c) → P (run_on f h j)) js → All P (dealt f m c js)
  All-dealt P zero js all = All-nil P
  All-dealt P (suc c) js all =
      All-append P (dealt f m c js) (share f m c js)
      (All-dealt P c js (λ a d h i on. all a d h i (on.0, omega (arith, on.1))))
      (All-map P (run_on f (suc c)) (turns m c js)
      (All-turns (λ j. P (run_on f (suc c) j)) m c js
      (λ a d h. all a d h (suc c) (omega arith, omega arith))))

  -- the operations come by machine
  machines_rise : (c : ℕ) (js : List ℕ)
      → AllPairs (λ o u. o.machine ≤ u.machine) (dealt f m c js)
  machines_rise zero js = λ a b d lt within. absurd (omega arith)
  machines_rise (suc c) js =
      let on : All (λ o. o.machine ≡ suc c) (share f m c js) =
      All-map (λ o. o.machine ≡ suc c) (run_on f (suc c)) (turns m c js) (λ a d h. refl) in
      let before : All (λ o. o.machine ≤ c) (dealt f m c js) =
      All-dealt (λ o. o.machine ≤ c) c js (λ a d h i at. at.1) in
      AllPairs-append (λ o u. o.machine ≤ u.machine) (dealt f m c js) (share f m c js)
      (machines_rise c js)
      (λ a b d lt within. omega (arith, on a d (omega arith), on b d within))
      (λ a d h b e k. omega (arith, before a d h, on b e k))

  -- ---- one machine after another

  -- with the jobs of the next machine
  pub laid_more : (c : ℕ) (js : List ℕ) (ps qs : List Piece) → ps ≡ laid (dealt f m c js)
      → qs ≡ fold with_operation ps (share f m c js) → qs ≡ laid (dealt f m (c + 1) js)
  laid_more c js ps qs before more =
      let e : suc c ≡ c + 1 = omega arith in
      more ∙ ap (λ rs. fold with_operation rs (share f m c js)) before
      ∙ sym (fold-append with_operation [] (dealt f m c js) (share f m c js))
      ∙ ap (λ n. laid (dealt f m n js)) e

  -- the next machine's time is within that of all
  pub share_within : (c n : ℕ) (js : List ℕ) → c < n
      → sum_by f (turns m c js) ≤ sum_by (λ o. o.time) (dealt f m n js)
  share_within c zero js lt = absurd (omega arith)
  share_within c (suc n) js lt =
      let parts = sum_by-append (λ o. o.time) (dealt f m n js) (share f m n js) in
      elim (cases_eq c n) [
        | inl same ↦ omega (
          arith,
          parts,
          sum_by-map (λ (o : Operation). o.time) (run_on f (suc n)) (turns m n js),
          ap (λ b. sum_by f (turns m b js)) same,
        )
        | inr differ ↦ omega (arith, parts, share_within c n js (omega arith))
      ]

  -- what holds of all pairs holds of those of the machines up to the next one
  pairs_until : (R : Operation → Operation → Type 0) (c n : ℕ) (js : List ℕ) → c < n
      → AllPairs R (dealt f m n js) → AllPairs R (dealt f m (suc c) js)
  pairs_until R c zero js lt pairs = absurd (omega arith)
  pairs_until R c (suc n) js lt pairs = elim (cases_eq c n) [
    | inl same ↦ subst (λ b. AllPairs R (dealt f m (suc b) js)) (sym same) pairs
    | inr differ ↦ pairs_until R c n js (omega arith)
        (AllPairs-left R (dealt f m n js) (share f m n js) pairs)
  ]

-- to let d others come first is to leave out the first d jobs
pub turns-drop : (m d : ℕ) (js : List ℕ) → turns m 0 (drop d js) ≡ turns m d js
turns-drop m zero js = refl
turns-drop m (suc d) [] = refl
turns-drop m (suc d) (j ∷ js) = turns-drop m d js

-- behind the last job none is left
pub turns_none : (m p : ℕ) (js : List ℕ) → length js ≤ p → turns m 0 (drop p js) ≡ []
turns_none m p js none = ap (turns m 0) (drop_all p js none)

-- the job at a place comes before those of the later rounds
pub turns_next : (m p j : ℕ) (js : List ℕ) → 0 < m → p < length js → j ≡ get_or js p j
    → turns m 0 (drop p js) ≡ j ∷ turns m 0 (drop (p + m) js)
turns_next m p j js some here is =
    let e : p + 1 + (m - 1) ≡ p + m = omega arith in
    ap (turns m 0) (drop_more js p j here ∙ ap (λ h. h ∷ drop (p + 1) js) (sym is))
    ∙ ap (λ hs. j ∷ hs)
    (sym (turns-drop m (m - 1) (drop (p + 1) js))
    ∙ ap (turns m 0) (drop-drop (m - 1) (p + 1) js ∙ ap (λ n. drop n js) e))

-- with the job at a place
pub after_turn : (f : ℕ → ℕ) (m i p : ℕ) (js : List ℕ) {wanted ps qs : List Piece}
    {now j h t : ℕ} → IsLeft f (suc i) wanted ps now (turns m 0 (drop p js))
    → 0 < m → p < length js → j ≡ get_or js p j → h ≡ i + 1 → t ≡ f j
    → qs ≡ ps ++ stretch j h now t
    → IsLeft f (suc i) wanted qs (now + f j) (turns m 0 (drop (p + m) js))
after_turn f m i p js {wanted = wanted} {ps = ps} {qs = qs} {now = now} {j = j} {t = t} left
    some here is on time more =
    let e : suc i ≡ i + 1 = omega arith in
    left_next f (suc i) wanted ps qs now j (turns m 0 (drop (p + m) js))
    (subst (IsLeft f (suc i) wanted ps now) (turns_next m p j js some here is) left)
    (more ∙ ap (λ n. ps ++ stretch j n now t) (on ∙ sym e)
    ∙ ap (λ n. ps ++ stretch j (suc i) now n) time)

-- ---- the timetable

-- of other jobs, and by machine
abbrev InTurn : ℕ → ℕ → ℕ → ℕ → Type 0
InTurn j i u h = OtherJob j i u h × (i ≤ h)

abbrev operations_of : SchedulingTask → List ℕ → List Operation
operations_of k js = dealt (time_of k) k.machines k.machines js

module _ (k : SchedulingTask) (js : List ℕ) (sound : IsSound k)
    (whole : IsPermutation (all_jobs k) js) where
  abbrev os : List Operation
  os = operations_of k js

  pub jobs_known : All (IsJob k) js
  jobs_known = All-permutation (IsJob k) (all_jobs k) js whole
      (All-all_jobs k (IsJob k) (λ j h. h))

  dealt_each : IsOneEach k os
  dealt_each = record {
    jobs = subst (IsPermutation (all_jobs k))
        (sym (jobs_of_dealt (time_of k) k.machines k.machines js))
        (IsPermutation-trans (all_jobs k) js _ whole (turned_all k.machines sound.some_machine js));
    times = All-dealt (time_of k) k.machines (λ o. o.time ≡ time_of k o.job) k.machines js
        (λ a d h i on. refl);
    machines = All-dealt (time_of k) k.machines (λ o. (0 < o.machine) × (o.machine ≤ k.machines))
        k.machines js (λ a d h i on. on);
  }

  listed : IsListed InTurn k os
  listed =
      let one = one_listed k os sound dealt_each in
      record {
        never = λ j i both. both.0 refl;
        known = one.known;
        keeps = λ a b d lt within. (
          one.keeps a b d lt within,
          machines_rise (time_of k) k.machines k.machines js a b d lt within,
        );
        total = one.total;
      }

  pub dealt_total : sum_by (λ o. o.time) os ≤ limit
  dealt_total = listed.total

  -- where the machines before it have their jobs, a machine and its jobs are free
  pub turns_free : (c : ℕ) → c < k.machines
      → AreFree (laid (dealt (time_of k) k.machines c js)) (c + 1) (turns k.machines c js)
  turns_free c lt =
      let m : ℕ = k.machines in
      let before : List Operation = dealt (time_of k) m c js in
      let hs : List ℕ = turns m c js in
      let differ = AllPairs-across (Keeps OtherJob) before (share (time_of k) m c js)
      (pairs_until (time_of k) m (Keeps OtherJob) c m js lt
      (one_listed k os sound dealt_each).keeps) in
      record {
        machine = other_stops machine_of (λ o. o.machine) (λ o s e. refl) before [] (c + 1)
            (All-dealt (time_of k) m (λ o. o.machine ≢ c + 1) c js
            (λ a d h i on same. absurd (omega (arith, on.1, same))));
        jobs = λ a d h. other_stops job_of (λ o. o.job) (λ o s e. refl) before [] (get_or hs a d)
            (λ b o in'. λ same.
            let run : Operation = run_on (time_of k) (suc c) d in
            differ b o in' a run (omega (arith, h, length-map hs (run_on (time_of k) (suc c))))
            (same ∙ sym (ap (λ (u : Operation). u.job)
            (get_or-map (run_on (time_of k) (suc c)) hs a d run h))));
        apart = AllPairs-turns (λ a b. a ≢ b) m c js (apart_in_order k js whole);
      }

  pub dealt_schedule : IsSchedule (laid os)
  dealt_schedule = laid_schedule InTurn k os sound listed
      (λ a b d lt within. ((is_laid InTurn k os sound listed).apart a b d lt within).kept.1)

-- ---- the reverse order

-- what holds of each job and the later ones holds the other way of the reverse
AllPairs-reverse : (R : ℕ → ℕ → Type 0) (xs : List ℕ) → AllPairs R xs
    → AllPairs (λ i j. R j i) (reverse xs)
AllPairs-reverse R xs pairs i j d lt within =
    let n : ℕ = length xs in
    let len : length (reverse xs) ≡ n = length-reverse xs in
    subst (λ z. R z (get_or (reverse xs) i d)) (sym (get_or-reverse xs j d (omega arith)))
    (subst (λ z. R (get_or xs (n - 1 - j) d) z) (sym (get_or-reverse xs i d (omega arith)))
    (pairs (n - 1 - j) (n - 1 - i) d (omega arith) (omega arith)))

module _ (k : SchedulingTask) (xs : List WeightedJob) (sound : IsSound k)
    (sum : IsTrue (is_sum k.class)) (parallel : IsTrue (is_parallel k.class))
    (by_ratio : AreByRatio k xs) where
  abbrev js : List ℕ
  js = jobs_of xs

  abbrev pub longest_first : List ℕ
  longest_first = reverse js

  one_weight : (j : ℕ) → IsJob k j → (job_data k j).weight ≡ 1
  one_weight = sound.unit_weights (parallel_unweighted k.class parallel)

  known : All (IsJob k) js
  known = jobs_known k js sound by_ratio.jobs.all

  moved : IsPermutation (all_jobs k) longest_first
  moved = IsPermutation-trans (all_jobs k) js longest_first by_ratio.jobs.all
      (IsPermutation-reverse js)

  pub ranks_known : All (IsJob k) longest_first
  ranks_known = All-permutation (IsJob k) (all_jobs k) longest_first moved
      (All-all_jobs k (IsJob k) (λ j h. h))

  ranks_distinct : IsDistinct longest_first
  ranks_distinct c =
      omega (
        arith,
        sum_by-IsPermutation (λ j. cond (eqb c j) 1 0)
            (all_jobs k) longest_first moved,
        IsDistinct-all_jobs k c,
      )

  pub ranks_limit : ranks_value k longest_first ≤ limit
  ranks_limit = ranks_within k sound sum
      (parallel_unweighted k.class parallel) longest_first ranks_distinct ranks_known

  -- no job is longer than a later one, as all weigh 1
  rising : AllPairs (λ i j. time_of k i ≤ time_of k j) js
  rising a b d lt within =
      let i : ℕ = get_or js a d in
      let j : ℕ = get_or js b d in
      let falling = jobs_falling k xs by_ratio.jobs.told by_ratio.falling a b d lt within in
      let left : (job_data k j).weight * time_of k i ≡ 1 * time_of k i =
      ap (λ w. w * time_of k i) (one_weight j (known b d within)) in
      let right : (job_data k i).weight * time_of k j ≡ 1 * time_of k j =
      ap (λ w. w * time_of k j) (one_weight i (known a d (omega arith))) in
      omega (arith, falling, left, right)

  ranks_bounded : ranks_bound k longest_first ≡ Ok (pos (ranks_value k longest_first))
  ranks_bounded =
      let some : 0 < length longest_first =
      omega (
        arith,
        length_permutation
            (all_jobs k) longest_first moved,
        length-range_with_len 1
            (length k.jobs),
        sound.some_job,
      ) in
      ranks_given k longest_first (sum_takes_ranks k.class sum parallel)
      (no_list_fault k longest_first ranks_known ranks_distinct) some
      (ranks_fault_none k longest_first
      (AllPairs-reverse (λ i j. time_of k i ≤ time_of k j) js rising))

  -- ---- the answer

  abbrev dealt_jobs : List Operation
  dealt_jobs = operations_of k js

  dealt_fits : Fits k (drawing k.machines (laid dealt_jobs))
  dealt_fits = one_fits k dealt_jobs sound (dealt_each k js sound by_ratio.jobs.all)
      (sum_plain k.class sum) (sum_unreleased k.class sum) (sum_unordered k.class sum)

  dealt_cost : cost k (drawing k.machines (laid dealt_jobs)) ≤ℤ pos (ranks_value k longest_first)
  dealt_cost =
      subst (λ n. cost k (drawing k.machines (laid dealt_jobs)) ≤ℤ pos n)
      (ends-dealt k js sound.some_machine (λ j. (job_data k j).weight)
      (λ a d h. one_weight (get_or js a d) (known a d h)))
      (one_cost k dealt_jobs sound (dealt_each k js sound by_ratio.jobs.all) (total k.class sum))

  pub dealt_accepted : IsAccepted k
      (record {
        pieces = laid dealt_jobs;
        value = pos (ranks_value k longest_first);
        certificate =
            ByRanks longest_first;
      })
  dealt_accepted =
      laid_accepted InTurn k dealt_jobs sound (listed k js sound by_ratio.jobs.all)
      (laid dealt_jobs) (IsPermutation-refl (laid dealt_jobs)) dealt_fits
      (pos (ranks_value k longest_first)) (ByRanks longest_first) ranks_bounded dealt_cost

-- ---- the same by the numbers of the jobs

module _ (k : SchedulingTask) (js : List ℕ) (sound : IsSound k)
    (sum : IsTrue (is_sum k.class)) (parallel : IsTrue (is_parallel k.class))
    (by_ratio : AreJobsByRatio k js) where
  pub ratio_known : All (IsJob k) (reverse js)
  ratio_known =
      subst (λ is. All (IsJob k) (reverse is)) (sym by_ratio.are)
      (ranks_known k by_ratio.jobs sound sum parallel by_ratio.by_ratio)

  pub ratio_limit : ranks_value k (reverse js) ≤ limit
  ratio_limit =
      subst (λ is. ranks_value k (reverse is) ≤ limit) (sym by_ratio.are)
      (ranks_limit k by_ratio.jobs sound sum parallel by_ratio.by_ratio)

  pub ratio_accepted : IsAccepted k
      (record {
        pieces = laid (operations_of k js);
        value = pos (ranks_value k (reverse js));
        certificate = ByRanks (reverse js);
      })
  ratio_accepted =
      subst (λ is. IsAccepted k
      (record {
        pieces = laid (operations_of k is);
        value = pos (ranks_value k (reverse is));
        certificate = ByRanks (reverse is);
      })) (sym by_ratio.are)
      (dealt_accepted k by_ratio.jobs sound sum parallel by_ratio.by_ratio)
