-- Jobs of a flow shop that are laid in an order, all on machine 1 and then all on machine 2: the
-- timetable fits the task, and stops when the line of the jobs ends.
use Rattle.std.proofs.Common.{IsTrue, ◌≡◌, ◌≢◌, ◌⊎◌, ℕ, zero, suc, ◌+◌, ◌-◌, ◌<◌, ◌≤◌, Bool, true, false, cond, ◌&&◌, eqb, max, List, [], ◌∷◌, ◌++◌, length, get_or, drop, subst, refl, sym, ap, ◌∙◌, arith, inl, inr}
use Rattle.std.specs.List.{All, AllPairs, sum_by, fold}
use Rattle.std.specs.List.Sorted.{IsPermutation}
use Rattle.std.proofs.lemmas.Bool.{cases_eq, cases_lt}
use Rattle.std.proofs.lemmas.Bool.Decides.{nat_tests}
use Rattle.std.proofs.lemmas.List.{drop_more}
use Rattle.std.proofs.lemmas.List.Elements.{All-map, All-head, All-tail, All-append}
use Rattle.std.proofs.lemmas.List.Kept.{AllPairs-cons}
use Rattle.std.proofs.lemmas.List.Sorted.{sum_by-IsPermutation, All-permutation}
use Rattle.std.proofs.lemmas.List.Sums.{sum_by-cons, sum_by-append, fold-append}
use Rattle.tf_model.specs.Limit.{limit}
use Rattle.tf_model.proofs.Classes.{flow_is_shop}
use Rattle.tf_model.specs.Feasible.{Fits}
use Rattle.tf_model.specs.SchedulingTask.{SchedulingTask, IsJob, all_jobs, time_on}
use Rattle.tf_model.specs.ClassTable.{is_shop, is_flow}
use Rattle.tf_model.specs.Sound.{IsSound}
use Rattle.tf_model.proofs.Costs.{All-all_jobs}
use Rattle.tf_schedule.specs.declared.piece.Piece.{Piece}
use Rattle.tf_schedule.specs.Piece.{machine_of, job_of, piece_of}
use Rattle.tf_schedule.specs.Drawing.{drawing, greatest_stop}
use Rattle.tf_schedule.proofs.Counting.{sum_by-same, sum_by-map, sum_single_in}
use Rattle.tf_schedule.specs.Schedule.{IsSchedule}
use Rattle.tf_model.proofs.Sums.{sum_by-plus}
use Rattle.tf_schedule.proofs.Drawing.{greatest_stop_le}
use Rattle.tf_schedule.specs.declared.semi_active.Operation.{Operation}
use Rattle.tf_schedule.specs.SemiActive.{line_stop, machine_stop, job_stop, stretch, start_after, with_operation, laid, IsOperation}
use Rattle.tf_multi.specs.Johnson.{MayPrecede, line_end}
use Rattle.tf_multi.specs.TwoMachines.{time_at, operation_of, on_machine, in_line}
use Rattle.tf_schedule.proofs.Laying.{Keeps, stop-le-line_stop, line_stop_push, line_stop-own, line_stop-other}
use Rattle.tf_schedule.proofs.Parts.{AllPairs-head, AllPairs-tail, AllPairs-append}
use Rattle.tf_schedule.proofs.LaidFits.{IsListed, is_laid, laid_fits_shop, laid_schedule}

two_machines : ¬ (◌≡◌ {A = ℕ} 1 2)
two_machines same = absurd (omega arith)

line_end-ge : (f : ℕ → ℕ → ℕ) (e g : ℕ) (js : List ℕ) → e ≤ g
    → e + sum_by (λ j. f j 1) js ≤ line_end f e g js
line_end-ge f e g [] le = omega arith
line_end-ge f e g (j ∷ js) le =
    omega (
      arith,
      line_end-ge f (e + f j 1) (max (e + f j 1) g + f j 2) js (omega arith),
      sum_by-cons (λ i. f i 1) j js,
    )

-- ---- when the machines are free

-- a job that is not done in no time is over when its stretch stops
on_step : (b : Bool) (g s : ℕ) → b ≡ true → g ≤ s → cond b (max g s) g ≡ s
on_step true g s e le = omega arith
on_step false g s e le = absurd (cc)

full_stop : (line : Piece → ℕ) (ps : List Piece) (j i s t n : ℕ) → line (piece_of j i s (s + t)) ≡ n
    → line_stop line ps n ≤ s → 0 < t → line_stop line (ps ++ stretch j i s t) n ≡ s + t
full_stop line ps j i s zero n on le some = absurd (omega arith)
full_stop line ps j i s (suc t) n on le some =
    line_stop_push line ps (piece_of j i s (s + suc t)) n
    ∙ on_step (eqb (line (piece_of j i s (s + suc t))) n) (line_stop line ps n) (s + suc t)
    (grind (arith, nat_tests)) (omega arith)

module _ (f : ℕ → ℕ → ℕ) where
  -- the jobs are over at the ends of their times on machine 1, one after another from e on
  abbrev IsReady : ℕ → List Piece → List ℕ → Type 0
  IsReady e ps [] = Unit
  IsReady e ps (j ∷ js) = (job_stop ps j ≡ e + f j 1) × IsReady (e + f j 1) ps js

  ready-same : (e : ℕ) (ps qs : List Piece) (js : List ℕ)
      → All (λ j. job_stop qs j ≡ job_stop ps j) js → IsReady e ps js → IsReady e qs js
  ready-same e ps qs [] same ready = tt
  ready-same e ps qs (j ∷ js) same ready = (
    omega (arith, All-head (λ i. job_stop qs i ≡ job_stop ps i) j js same, ready.0),
    ready-same (e + f j 1) ps qs js (All-tail (λ i. job_stop qs i ≡ job_stop ps i) j js same)
        ready.1,
  )

  -- behind a job that takes time on machine 1 so do all
  later_some : (i j : ℕ) → MayPrecede f i j → 0 < f i 1 → 0 < f j 1
  later_some i j may some = elim (cases_lt 0 (f j 1)) [
    | inl done ↦ done
    | inr none ↦ absurd (omega (arith, (may.rising (omega arith)).1))
  ]

  -- what jobs on machine 1 leave
  record IsFirstRun (e : ℕ) (ps qs : List Piece) (js : List ℕ) : Type 0 where
    first : machine_stop qs 1 ≡ e + sum_by (λ j. f j 1) js
    second : machine_stop qs 2 ≡ machine_stop ps 2
    ready : IsReady e qs js
    others : (k : ℕ) → All (λ j. j ≢ k) js → job_stop qs k ≡ job_stop ps k

  first_run : (js : List ℕ) (ps : List Piece) (e : ℕ) → All (λ j. job_stop ps j ≡ 0) js
      → AllPairs (λ i j. i ≢ j) js → AllPairs (MayPrecede f) js → (0 < e → All (λ j. 0 < f j 1) js)
      → machine_stop ps 1 ≡ e → IsFirstRun e ps (fold with_operation ps (on_machine f 1 js)) js
  first_run [] ps e free apart may some at =
      record { first = omega arith; second = refl; ready = tt; others = λ k other. refl }
  first_run (j ∷ js) ps e free apart may some at =
      let s = start_after ps (operation_of f j 1) in
      let qs = with_operation ps (operation_of f j 1) in
      let own = line_stop-own machine_of ps j 1 s (f j 1) 1 refl (omega arith) in
      let own_job = line_stop-own job_of ps j 1 s (f j 1) j refl (omega arith) in
      let here : job_stop ps j ≡ 0 = free zero j (omega arith) in
      let differ = AllPairs-head (λ a b. a ≢ b) j js apart in
      let over : job_stop qs j ≡ e + f j 1 = elim (cases_lt 0 (f j 1)) [
        | inl time ↦ omega (
          arith,
          full_stop job_of ps j 1 s (f j 1) j refl (omega arith) time,
          at,
          here,
        )
        | inr none ↦ elim (cases_lt 0 e) [
          | inl late ↦ absurd (omega (arith, All-head (λ k. 0 < f k 1) j js (some late)))
          | inr start ↦ omega (arith, own_job.1, at, here)
        ]
      ] in
      let rest = first_run js qs (e + f j 1)
      (λ n d h. line_stop-other job_of ps j 1 s (f j 1) (get_or js n d) (differ n d h)
      ∙ free (suc n) d (omega arith)) (AllPairs-tail (λ a b. a ≢ b) j js apart)
      (AllPairs-tail (MayPrecede f) j js may)
      (λ late. elim (cases_lt 0 e) [
        | inl early ↦ All-tail (λ k. 0 < f k 1) j js (some early)
        | inr start ↦ λ n d h. later_some j (get_or js n d)
            (AllPairs-head (MayPrecede f) j js may n d h) (omega arith)
      ])
      (omega (arith, own.0, own.1, at, here)) in
      record {
        first = omega (arith, rest.first, sum_by-cons (λ i. f i 1) j js);
        second = rest.second ∙ line_stop-other machine_of ps j 1 s (f j 1) 2 two_machines;
        ready = (rest.others j (λ n d h e. differ n d h (sym e)) ∙ over, rest.ready);
        others = λ k other. rest.others k (All-tail (λ i. i ≢ k) j js other)
            ∙ line_stop-other job_of ps j 1 s (f j 1) k (All-head (λ i. i ≢ k) j js other);
      }

  first_of_all : (js : List ℕ) → AllPairs (λ i j. i ≢ j) js → AllPairs (MayPrecede f) js
      → IsFirstRun 0 [] (laid (on_machine f 1 js)) js
  first_of_all js apart may =
      first_run js [] 0 (λ n d h. refl) apart may (λ some. absurd (omega arith)) refl

  -- machine 2 runs the jobs that are left, from g on and as machine 1 has run them from e on; with
  -- them the pieces are the wanted ones
  pub record IsWaiting (wanted ps : List Piece) (e g : ℕ) (js : List ℕ) : Type 0 where
    pub pieces : fold with_operation ps (on_machine f 2 js) ≡ wanted
    pub low : machine_stop ps 2 ≤ g
    pub high : g ≤ max e (machine_stop ps 2)
    pub ready : IsReady e ps js
    pub apart : AllPairs (λ i j. i ≢ j) js

  pub waiting_start : (js : List ℕ) → AllPairs (λ i j. i ≢ j) js → AllPairs (MayPrecede f) js
      → IsWaiting (laid (in_line f js)) (laid (on_machine f 1 js)) 0 0 js
  waiting_start js apart may =
      let one = first_of_all js apart may in
      record {
        pieces = sym (fold-append with_operation [] (on_machine f 1 js) (on_machine f 2 js));
        low = omega (arith, one.second);
        high = omega arith;
        ready = one.ready;
        apart = apart;
      }

  waiting_next : (wanted ps qs : List Piece) (e g j : ℕ) (js : List ℕ)
      → IsWaiting wanted ps e g (j ∷ js) → qs ≡ ps ++ stretch j 2 (max (e + f j 1) g) (f j 2)
      → IsWaiting wanted qs (e + f j 1) (max (e + f j 1) g + f j 2) js
  waiting_next wanted ps qs e g j js waiting more =
      let s : ℕ = max (e + f j 1) g in
      let start : start_after ps (operation_of f j 2) ≡ s =
      omega (arith, waiting.ready.0, waiting.low, waiting.high) in
      let own = line_stop-own machine_of ps j 2 s (f j 2) 2 refl (omega (arith, waiting.low)) in
      let stop = ap (λ rs. machine_stop rs 2) more in
      let differ = AllPairs-head (λ a b. a ≢ b) j js waiting.apart in
      record {
        pieces = ap (λ rs. fold with_operation rs (on_machine f 2 js))
            (more ∙ ap (λ n. ps ++ stretch j 2 n (f j 2)) (sym start)) ∙ waiting.pieces;
        low = omega (arith, stop, own.1);
        high = elim (cases_lt 0 (f j 2)) [
          | inl time ↦ omega (
            arith,
            stop,
            full_stop machine_of ps j 2 s (f j 2) 2 refl (omega (arith, waiting.low)) time,
          )
          | inr none ↦ omega (arith, stop, own.0, waiting.high)
        ];
        ready = ready-same (e + f j 1) ps qs js
            (λ n d h. ap (λ rs. job_stop rs (get_or js n d)) more
            ∙ line_stop-other job_of ps j 2 s (f j 2) (get_or js n d) (differ n d h))
            waiting.ready.1;
        apart = AllPairs-tail (λ a b. a ≢ b) j js waiting.apart;
      }

  -- with the job at place i, which is laid as the operation o
  pub waiting_more : {wanted ps qs : List Piece} {e g e' g' : ℕ} (order : List ℕ) (i x : ℕ)
      (o : Operation) → IsWaiting wanted ps e g (drop i order) → i < length order
      → x ≡ get_or order i x → o ≡ operation_of f x 2 → e' ≡ e + f x 1
      → g' ≡ max (e + f x 1) g + f x 2
      → qs ≡ ps ++ stretch o.job o.machine (g' - o.time) o.time
      → IsWaiting wanted qs e' g' (drop (i + 1) order)
  waiting_more {wanted = wanted} {ps = ps} {qs = qs} {e = e} {g = g} {g' = g'} order i x o waiting
      here is is_o first second more =
      let start : g' - f x 2 ≡ max (e + f x 1) g = omega (arith, second) in
      rw (first, second)
      (waiting_next wanted ps qs e g x (drop (i + 1) order)
      (subst (IsWaiting wanted ps e g)
      (drop_more order i x here ∙ ap (λ y. y ∷ drop (i + 1) order) (sym is)) waiting)
      (more
      ∙ ap (λ (u : Operation). ps ++ stretch u.job u.machine (g' - u.time) u.time) is_o
      ∙ ap (λ n. ps ++ stretch x 2 n (f x 2)) start))

  -- and then on machine 2
  second_run : (js : List ℕ) (ps : List Piece) (e g : ℕ) → IsReady e ps js
      → AllPairs (λ i j. i ≢ j) js → machine_stop ps 2 ≤ g
      → (machine_stop (fold with_operation ps (on_machine f 2 js)) 1 ≡ machine_stop ps 1) ×
      (machine_stop (fold with_operation ps (on_machine f 2 js)) 2 ≤ line_end f e g js)
  second_run [] ps e g ready apart at = (refl, omega arith)
  second_run (j ∷ js) ps e g ready apart at =
      let s = start_after ps (operation_of f j 2) in
      let qs = with_operation ps (operation_of f j 2) in
      let own = line_stop-own machine_of ps j 2 s (f j 2) 2 refl (omega arith) in
      let differ = AllPairs-head (λ a b. a ≢ b) j js apart in
      let rest = second_run js qs (e + f j 1) (max (e + f j 1) g + f j 2)
      (ready-same (e + f j 1) ps qs js
      (λ n d h. line_stop-other job_of ps j 2 s (f j 2) (get_or js n d) (differ n d h)) ready.1)
      (AllPairs-tail (λ a b. a ≢ b) j js apart) (omega (arith, own.1, ready.0, at)) in
      (rest.0 ∙ line_stop-other machine_of ps j 2 s (f j 2) 1 (λ e. two_machines (sym e)), rest.1)

  -- no machine works past the end of the line
  line_stops : (js : List ℕ) → AllPairs (λ i j. i ≢ j) js → AllPairs (MayPrecede f) js
      → (machine_stop (laid (in_line f js)) 1 ≤ line_end f 0 0 js) ×
      (machine_stop (laid (in_line f js)) 2 ≤ line_end f 0 0 js)
  line_stops js apart may =
      let one = first_of_all js apart may in
      let two = second_run js (laid (on_machine f 1 js)) 0 0 one.ready apart
      (omega (arith, one.second)) in
      let whole = fold-append with_operation [] (on_machine f 1 js) (on_machine f 2 js) in (
        omega (
          arith,
          ap (λ ps. machine_stop ps 1) whole,
          two.0,
          one.first,
          line_end-ge f 0 0 js (omega arith),
        ),
        omega (arith, ap (λ ps. machine_stop ps 2) whole, two.1),
      )

-- ---- the order of the operations

-- by machine, and of one job machine 1 comes first
abbrev pub ByMachine : ℕ → ℕ → ℕ → ℕ → Type 0
ByMachine j i k h = (i ≤ h) × (j ≡ k → i < h)

module _ (f : ℕ → ℕ → ℕ) where
  -- what holds of both operations of each job
  All-in_line : (P : Operation → Type 0) (js : List ℕ)
      → All (λ j. P (operation_of f j 1) × P (operation_of f j 2)) js → All P (in_line f js)
  All-in_line P js all =
      All-append P (on_machine f 1 js) (on_machine f 2 js)
      (All-map P (λ j. operation_of f j 1) js (λ n d h. (all n d h).0))
      (All-map P (λ j. operation_of f j 2) js (λ n d h. (all n d h).1))

  keeps_on : (i : ℕ) (js : List ℕ) → AllPairs (λ i j. i ≢ j) js
      → AllPairs (Keeps ByMachine) (on_machine f i js)
  keeps_on i [] apart = λ a b d lt within. absurd (omega arith)
  keeps_on i (j ∷ js) apart =
      let other = AllPairs-head (λ a b. a ≢ b) j js apart in
      AllPairs-cons (Keeps ByMachine) (operation_of f j i) (on_machine f i js)
      (All-map (Keeps ByMachine (operation_of f j i)) (λ k. operation_of f k i) js
      (λ n d h. (omega arith, λ same. absurd (other n d h same))))
      (keeps_on i js (AllPairs-tail (λ a b. a ≢ b) j js apart))

  keeps_in_line : (js : List ℕ) → AllPairs (λ i j. i ≢ j) js
      → AllPairs (Keeps ByMachine) (in_line f js)
  keeps_in_line js apart =
      AllPairs-append (Keeps ByMachine) (on_machine f 1 js) (on_machine f 2 js)
      (keeps_on 1 js apart) (keeps_on 2 js apart)
      (All-map (λ o. All (Keeps ByMachine o) (on_machine f 2 js)) (λ j. operation_of f j 1) js
      (λ n d h. All-map (Keeps ByMachine (operation_of f (get_or js n d) 1))
      (λ j. operation_of f j 2) js
      (λ m c k. (omega arith, λ same. omega arith))))

  -- a sum over the operations is one over the jobs
  sum_in_line : (g : Operation → ℕ) (js : List ℕ)
      → sum_by g (in_line f js) ≡ sum_by (λ j. g (operation_of f j 1) + g (operation_of f j 2)) js
  sum_in_line g js = omega (
    arith,
    sum_by-append g (on_machine f 1 js) (on_machine f 2 js),
    sum_by-map g (λ j. operation_of f j 1) js,
    sum_by-map g (λ j. operation_of f j 2) js,
    sum_by-plus (λ j. g (operation_of f j 1)) (λ j. g (operation_of f j 2)) js,
  )

-- what the operations of job i give to job j on machine 1 and on machine 2
flow_term : (i j h p q t : ℕ) → (h ≡ 1 → i ≡ j → p ≡ t) → (h ≡ 2 → i ≡ j → q ≡ t)
    → (h ≡ 1) ⊎ (h ≡ 2) → cond (eqb i j && eqb 1 h) p 0 + cond (eqb i j && eqb 2 h) q 0
    ≡ cond (eqb j i) t 0
flow_term i j h p q t one other (inl at) = elim (cases_eq i j) [
  | inl same ↦ let value : p ≡ t = one at same in grind (arith, nat_tests)
  | inr differ ↦ grind (arith, nat_tests)
]
flow_term i j h p q t one other (inr at) = elim (cases_eq i j) [
  | inl same ↦ let value : q ≡ t = other at same in grind (arith, nat_tests)
  | inr differ ↦ grind (arith, nat_tests)
]

module _ (task : SchedulingTask) (sound : IsSound task) (flow : IsTrue (is_flow task.class))
    (order : List ℕ) (whole : IsPermutation (all_jobs task) order)
    (apart : AllPairs (λ i j. i ≢ j) order) where
  abbrev os : List Operation
  os = in_line (time_at task) order

  shop : IsTrue (is_shop task.class)
  shop = flow_is_shop task.class flow

  two : task.machines ≡ 2
  two = sound.shop shop

  pub flow_known : All (IsOperation (length task.jobs) task.machines) os
  flow_known = All-in_line (time_at task) (IsOperation (length task.jobs) task.machines) order
      (λ k d h.
      let job = All-permutation (IsJob task) (all_jobs task) order whole
      (All-all_jobs task (IsJob task) (λ j at. at)) k d h in (
        record { job = job; machine = (omega arith, omega (arith, two)) },
        record { job = job; machine = (omega arith, omega (arith, two)) },
      ))

  pub flow_keeps : AllPairs (Keeps ByMachine) os
  flow_keeps = keeps_in_line (time_at task) order apart

  pub flow_total : sum_by (λ o. o.time) os ≤ limit
  flow_total = omega (
    arith,
    sum_in_line (time_at task) (λ o. o.time) order,
    sum_by-IsPermutation (λ j. time_at task j 1 + time_at task j 2) (all_jobs task) order whole,
    sound.total,
  )

  flow_work : (j i : ℕ) → IsJob task j → (i ≡ 1) ⊎ (i ≡ 2)
      → sum_by (λ o. cond (eqb o.job j && eqb o.machine i) o.time 0) os ≡ time_at task j i
  flow_work j i job on =
      sum_in_line (time_at task) (λ o. cond (eqb o.job j && eqb o.machine i) o.time 0) order
      ∙ sum_by-same (λ h. cond (eqb h j && eqb 1 i) (time_at task h 1) 0 + cond (eqb h j && eqb 2 i)
      (time_at task h 2) 0) (λ h. cond (eqb j h) (time_at task j i) 0)
      (λ h. flow_term h j i (time_at task h 1) (time_at task h 2) (time_at task j i)
      (λ at same. ap (λ n. time_at task n 1) same ∙ ap (time_at task j) (sym at))
      (λ at same. ap (λ n. time_at task n 2) same ∙ ap (time_at task j) (sym at)) on) order
      ∙ sum_by-IsPermutation (λ h. cond (eqb j h) (time_at task j i) 0) (all_jobs task) order whole
      ∙ sum_single_in j (time_at task j i) (length task.jobs) job.0 job.1

  flow_times : (j i : ℕ) → IsJob task j → i < 2
      → sum_by (λ o. cond (eqb o.job j && eqb o.machine (i + 1)) o.time 0) os ≡ time_on task j i
  flow_times j zero job lt = flow_work j 1 job (inl refl)
  flow_times j (suc zero) job lt = flow_work j 2 job (inr refl)
  flow_times j (suc (suc i)) job lt = absurd (omega arith)

  pub flow_listed : IsListed ByMachine task os
  flow_listed = record {
    never = λ j i before. omega (arith, before.1 refl);
    known = flow_known;
    keeps =
        flow_keeps;
    total = flow_total;
  }

  pub flow_fits : Fits task (drawing task.machines (laid os))
  flow_fits = laid_fits_shop ByMachine task os sound flow_listed shop flow_times
      (λ _ j a b before. before.1 refl)

  pub flow_stop : AllPairs (MayPrecede (time_at task)) order
      → greatest_stop (laid os) ≤ line_end (time_at task) 0 0 order
  flow_stop may =
      let laid_is = is_laid ByMachine task os sound flow_listed in
      let stops = line_stops (time_at task) order apart may in
      greatest_stop_le (laid os) (line_end (time_at task) 0 0 order) (λ k d h.
      let p = laid_is.placed k d h in
      elim (cases_lt (get_or (laid os) k d).machine 2) [
        | inl lt ↦ omega (
          arith,
          stop-le-line_stop machine_of (laid os) 1 k d h (omega (arith, p.machine.0)),
          stops.0,
        )
        | inr le ↦ omega (
          arith,
          stop-le-line_stop machine_of (laid os) 2 k d h
              (omega (arith, p.machine.1, two)),
          stops.1,
        )
      ])

  pub flow_schedule : IsSchedule (laid os)
  flow_schedule = laid_schedule ByMachine task os sound flow_listed (λ a b d lt within.
      ((is_laid ByMachine task os sound flow_listed).apart a b d lt within).kept.0)
