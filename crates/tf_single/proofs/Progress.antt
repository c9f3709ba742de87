-- From one release or end to the next, and what stands at the end.
use Rattle.std.proofs.Common.{◌≡◌, ℕ, ◌+◌, ◌-◌, ◌≤◌, ◌<◌, max, ⊎_elim, List, [], ◌∷◌, ◌++◌, Bool, true, false, ◌&&◌, ◌==◌, cond, nat_lt, nat_le, length, get_or, refl, sym, ap, ◌∙◌, subst, arith, All, pos, ◌≤ℤ◌}
use Rattle.std.proofs.lemmas.Int.{ints}
use Rattle.std.proofs.lemmas.Bool.{cases_lt, cases_eq, false≢true, and_left, and_right, and_from, le-leb, lt-leb, lt-ltb, le-ltb, eq-eqb, ne_eqb}
use Rattle.std.proofs.lemmas.List.Sums.{sum_by_push}
use Rattle.std.proofs.lemmas.List.Elements.{All-head, All-tail, All-weaker, All-push, All-nil, All-contains, All-get_or, Contains-push}
use Rattle.std.proofs.lemmas.List.Quantifiers.{all_pairs_push}
use Rattle.tf_schedule.specs.declared.piece.Piece.{Piece}
use Rattle.tf_schedule.specs.Piece.{as_time, covers, is_during}
use Rattle.tf_schedule.specs.Claims.{claims, places}
use Rattle.tf_schedule.specs.Schedule.{IsPiece, IsSchedule, ComesBefore, NoneTwice}
use Rattle.tf_schedule.specs.Drawing.{job_at, duration, drawing, IsOnMachine, Draws}
use Rattle.tf_schedule.specs.Amounts.{work, last_stop}
use Rattle.tf_schedule.proofs.Drawing.{cell-drawing, completion-drawing, all_units-drawing, width-drawing, jobs-drawing, single_place-drawing}
use Rattle.tf_schedule.proofs.Counting.{count_none}
use Rattle.tf_schedule.proofs.Cells.{cell_exactly, on_some_machine}
use Rattle.tf_schedule.proofs.Permuted.{draws_drawing}
use Rattle.tf_schedule.proofs.Times.{time_le_back}
use Rattle.tf_model.proofs.Sums.{sum_by_le_all}
use Rattle.tf_model.specs.Limit.{limit}
use Rattle.tf_model.specs.Timetable.{cell}
use Rattle.tf_model.specs.declared.class.Class.TheVariants.{ReleaseLmax}
use Rattle.tf_model.specs.ClassTable.{is_single, is_shop, is_flow, is_ordered, may_break}
use Rattle.tf_model.specs.SchedulingTask.{SchedulingTask, IsJob, job_data, time_of}
use Rattle.tf_model.specs.Sound.{IsSound}
use Rattle.tf_model.specs.Feasible.{Fits}
use Rattle.tf_single.specs.EarliestDue.{IsWaiting, RunsEarliestDue}
use Rattle.tf_single.specs.Horn.{IsContinued}
use Rattle.tf_single.specs.Progress.{run_of, IsAhead, IsRun, IsProgress, Extends}
use Rattle.tf_single.specs.Agenda.{IsLonger, Pushed, Joined}
use Rattle.tf_single.proofs.Lists.{All-front, AllPairs-front, AllPairs-last, adjacent_push, adjacent_last}

last_stop_le : (ps : List Piece) (j v : ℕ) → All (λ p. as_time p.stop ≤ v) ps → last_stop ps j ≤ v
last_stop_le [] j v all = omega arith
last_stop_le (p ∷ ps) j v all =
    by_test (p.job == j) (All-head (λ q. as_time q.stop ≤ v) p ps all)
    (last_stop_le ps j v (All-tail (λ q. as_time q.stop ≤ v) p ps all))
  where
    by_test : (b : Bool) → as_time p.stop ≤ v → last_stop ps j ≤ v
        → cond b (max (as_time p.stop) (last_stop ps j)) (last_stop ps j) ≤ v
    by_test true h rest = omega arith
    by_test false h rest = rest

module _ (k : SchedulingTask) where
  stops_by : (ps : List Piece) (now : ℕ) → All (IsRun k now) ps → All (λ p. as_time p.stop ≤ now) ps
  stops_by ps now runs =
      All-weaker (IsRun k now) (λ p. as_time p.stop ≤ now) (λ p r. r.stop) ps runs

  pub no_progress : (rest : ℕ → ℕ) → ((j : ℕ) → IsJob k j → rest j ≡ time_of k j)
      → IsProgress k [] rest 0
  no_progress rest whole = record {
    runs = All-nil (IsRun k 0);
    schedule = record {
      sound = All-nil IsPiece;
      none_twice = λ i t. omega arith;
      in_order =
          λ i j d lt h. absurd (omega arith);
    };
    amount = λ j h. omega (arith, whole j h);
    whole = λ i d h. absurd (omega arith);
    worked = λ j u h before from until. absurd (omega arith);
    waiting = λ j u h before from left. absurd (omega arith);
  }

  -- the machine may be empty up to the next release
  pub progress_idle : (ps : List Piece) (rest : ℕ → ℕ) (now next : ℕ) → IsProgress k ps rest now
      → now ≤ next
      → ((j : ℕ) → IsJob k j → 0 < rest j → next ≤ (job_data k j).release)
      → IsProgress k ps rest next
  progress_idle ps rest now next p le none = record {
    runs = All-weaker (IsRun k now) (IsRun k next)
        (λ q r. record {
          job = r.job;
          machine = r.machine;
          full = r.full;
          stop = omega (arith, r.stop);
          released = r.released;
        }) ps p.runs;
    schedule = p.schedule;
    amount = p.amount;
    whole = p.whole;
    worked = λ j u h before from until. p.worked j u h
        (omega (arith, last_stop_le ps j now (stops_by ps now p.runs))) from until;
    waiting = λ j u h before from left. absurd (omega (arith, none j h left));
  }

  -- the released unfinished job of earliest due date may run up to the next release, or until it is over
  pub progress_run : (ps qs : List Piece) (rest next : ℕ → ℕ) (x now b : ℕ)
      → IsProgress k ps rest now → Extends k ps qs x now b
      → IsJob k x → 0 < rest x → next x + (b - now) ≡ rest x
      → ((j : ℕ) → IsJob k j → (j ≡ x → ⊥) → next j ≡ rest j)
      → ((j : ℕ) → IsJob k j → 0 < rest j → (job_data k j).release < b
      → IsAhead k x j)
      → IsProgress k qs next b
  progress_run ps qs rest next x now b p e job left mine others urgent = record {
    runs = e.runs;
    schedule = e.schedule;
    amount = λ j h. ⊎_elim
        (λ same. omega (
          arith,
          p.amount j h,
          e.mine,
          mine,
          ap (work qs) same,
          ap (work ps) same,
          ap rest same,
          ap next same,
        ))
        (λ differ. omega (arith, p.amount j h, (e.others j differ).0, others j h differ))
        (cases_eq j x);
    whole = e.whole p.whole;
    worked = λ j u h before from until. ⊎_elim
        (λ early. subst (λ c. IsAhead k c j) (sym (e.stay u early)) (⊎_elim
        (λ same. p.waiting j u h early from (omega (arith, ap rest same)))
        (λ differ. p.worked j u h early from (omega (arith, (e.others j differ).1)))
        (cases_eq j x)))
        (λ late. subst (λ c. IsAhead k c j) (sym (e.here u late before)) (⊎_elim
        (λ same. record {
          busy = job.0;
          urgent =
              subst (λ i. (job_data k x).due ≤ℤ (job_data k i).due) (sym same) (omega (arith, ints));
          tie = λ _. omega (arith, same);
        })
        (λ differ. absurd
        (omega (arith, (e.others j differ).1, last_stop_le ps j now (stops_by ps now p.runs))))
        (cases_eq j x)))
        (cases_lt u now);
    waiting = λ j u h before from some.
        let was : 0 < rest j =
        ⊎_elim (λ same. omega (arith, ap rest same))
        (λ differ. omega (arith, others j h differ)) (cases_eq j x) in
        ⊎_elim
        (λ early. subst (λ c. IsAhead k c j) (sym (e.stay u early))
        (p.waiting j u h early from was))
        (λ late. subst (λ c. IsAhead k c j) (sym (e.here u late before))
        (urgent j h was (omega arith)))
        (cases_lt u now);
  }

  -- ---- at the end

  on_one : (ps : List Piece) (now : ℕ) → All (IsRun k now) ps → All (IsOnMachine 1) ps
  on_one ps now runs =
      All-weaker (IsRun k now) (IsOnMachine 1)
      (λ p r. (omega (arith, r.machine), omega (arith, r.machine))) ps runs

  not_empty : (ps : List Piece) (now : ℕ) → All (IsRun k now) ps
      → All (λ p. as_time p.start < as_time p.stop) ps
  not_empty ps now runs =
      All-weaker (IsRun k now) (λ p. as_time p.start < as_time p.stop) (λ p r. r.full) ps runs

  pub runs_earliest_due : (ps : List Piece) (rest : ℕ → ℕ) (now : ℕ) → IsProgress k ps rest now
      → RunsEarliestDue k (drawing 1 ps)
  runs_earliest_due ps rest now p = record {
    busy = λ j t w. subst (λ c. 1 ≤ c) (sym (cell-drawing 1 ps t 0 (omega arith)))
        (in_time j t w).busy;
    urgent = λ j t w some. subst (λ c. (job_data k c).due ≤ℤ (job_data k j).due)
        (sym (cell-drawing 1 ps t 0 (omega arith))) (in_time j t w).urgent;
    first = λ j t w some. subst (λ c. (job_data k c).due ≡ (job_data k j).due → c ≤ j)
        (sym (cell-drawing 1 ps t 0 (omega arith))) (in_time j t w).tie;
  }
    where
      in_time : (j t : ℕ) → IsWaiting k (drawing 1 ps) j t
          → IsAhead k (job_at ps 1 t) j
      in_time j t w =
          let until : t < last_stop ps j =
          omega (
            arith,
            w.unfinished,
            completion-drawing 1 ps j p.schedule.none_twice (on_one ps now p.runs)
                (not_empty ps now p.runs) w.job.0,
          ) in
          p.worked j t w.job (omega (arith, until, last_stop_le ps j now (stops_by ps now p.runs)))
          w.released until

  place-le-claim : (job same during : Bool) → same ≡ true
      → cond (job && during) 1 0 ≤ cond (same && during) 1 0
  place-le-claim true true true e = omega arith
  place-le-claim true true false e = omega arith
  place-le-claim false true true e = omega arith
  place-le-claim false true false e = omega arith
  place-le-claim job false during e = absurd (false≢true e)

  places-le-one : (ps : List Piece) (now : ℕ) → All (IsRun k now) ps → NoneTwice ps → (j t : ℕ)
      → places ps j t ≤ 1
  places-le-one ps now runs once j t =
      omega (
        arith,
        once 1 t,
        sum_by_le_all (λ p. cond ((p.job == j) && is_during t p) 1 0)
            (λ p. cond ((p.machine == 1) && is_during t p) 1 0) ps
            (All-weaker (IsRun k now)
            (λ p. cond ((p.job == j) && is_during t p) 1 0
            ≤ cond ((p.machine == 1) && is_during t p) 1 0)
            (λ p r. place-le-claim (p.job == j) (p.machine == 1) (is_during t p)
            (eq-eqb p.machine 1 r.machine)) ps runs),
      )

  pub sound_draws : (ps : List Piece) (rest : ℕ → ℕ) (now : ℕ) → IsProgress k ps rest now
      → Draws 1 ps (drawing 1 ps)
  sound_draws ps rest now p =
      draws_drawing 1 ps p.schedule.none_twice
      (All-weaker (IsRun k now) (λ q. 0 < q.job) (λ q r. r.job.0) ps p.runs) (on_one ps now p.runs)

  -- no cell has a job before its release
  released_from_runs : (ps : List Piece) (now j t i : ℕ) → All (IsRun k now) ps → NoneTwice ps
      → IsJob k j → cell (drawing 1 ps) t i ≡ j → (job_data k j).release ≤ t
  released_from_runs ps now j t i runs once job e =
      let on : i < 1 = on_some_machine 1 ps t i j job.0 e in
      let going = (cell_exactly 1 ps i t j once on job.0).0 e in
      let run : IsRun k now going.1 =
      subst (IsRun k now) going.3 (All-get_or (IsRun k now) ps going.0 going.1 going.2 runs) in
      omega (arith, run.released, going.4.started, ap (λ x. (job_data k x).release) going.4.job)

  -- where nothing is left the drawing fits
  pub progress_fits : (ps : List Piece) (rest : ℕ → ℕ) (now : ℕ) → IsSound k → k.class ≡ ReleaseLmax
      → IsProgress k ps rest now → ((j : ℕ) → IsJob k j → rest j ≡ 0)
      → Fits k (drawing 1 ps)
  progress_fits ps rest now sound class p over =
      let one : k.machines ≡ 1 = sound.single (ap is_single class) in
      let on : All (IsOnMachine 1) ps = on_one ps now p.runs in
      record {
        broken = record {
          width = All-weaker (λ row. length row ≡ 1) (λ row. length row ≡ k.machines)
              (λ row w. omega (arith, w, one)) (drawing 1 ps) (width-drawing 1 ps);
          jobs_only = jobs-drawing 1 ps (length k.jobs)
              (All-weaker (IsRun k now) (λ q. q.job ≤ length k.jobs) (λ q r. r.job.1) ps p.runs);
          single_place =
              λ j low high. single_place-drawing 1 ps p.schedule.none_twice on
              (places-le-one ps now p.runs p.schedule.none_twice) j low;
          amount = λ j low high. record {
            in_all = λ _. all_units-drawing 1 ps j p.schedule.none_twice on low
                ∙ omega (arith, p.amount j (low, high), over j (low, high));
            on_each = λ shop. absurd (false≢true (sym (ap is_shop class) ∙ shop));
          };
          released = λ j low high t i e. released_from_runs ps now j t i p.runs
              p.schedule.none_twice (low, high) e;
          in_order = λ i d h. absurd
              (omega (arith, ap length (sound.unordered (ap is_ordered class)), h));
          in_flow = λ flow. absurd (false≢true (sym (ap is_flow class) ∙ flow));
        };
        unbroken = λ whole. absurd (false≢true (sym whole ∙ ap may_break class));
      }

-- ---- one piece more at the end

job_at_skip : (ps qs : List Piece) (i t : ℕ) → All (λ p. covers i t p ≡ false) ps
    → job_at (ps ++ qs) i t ≡ job_at qs i t
job_at_skip [] qs i t none = refl
job_at_skip (p ∷ ps) qs i t none =
    ap (λ b. cond b p.job (job_at (ps ++ qs) i t)) (All-head (λ q. covers i t q ≡ false) p ps none)
    ∙ job_at_skip ps qs i t (All-tail (λ q. covers i t q ≡ false) p ps none)

-- two last pieces of one job that both cover the time, or neither
job_at_last : (ps : List Piece) (q r : Piece) (i t : ℕ) → covers i t q ≡ covers i t r
    → q.job ≡ r.job → job_at (ps ++ q ∷ []) i t ≡ job_at (ps ++ r ∷ []) i t
job_at_last [] q r i t same job = ap (λ b. cond b q.job 0) same
    ∙ ap (λ j. cond (covers i t r) j 0) job
job_at_last (p ∷ ps) q r i t same job =
    ap (λ z. cond (covers i t p) p.job z) (job_at_last ps q r i t same job)

-- a last piece that does not cover the time
job_at_front : (ps : List Piece) (q : Piece) (i t : ℕ) → covers i t q ≡ false
    → job_at (ps ++ q ∷ []) i t ≡ job_at ps i t
job_at_front [] q i t e = ap (λ b. cond b q.job 0) e
job_at_front (p ∷ ps) q i t e = ap (λ z. cond (covers i t p) p.job z) (job_at_front ps q i t e)

last_stop_front : (ps : List Piece) (q : Piece) (j : ℕ) → (q.job == j) ≡ false
    → last_stop (ps ++ q ∷ []) j ≡ last_stop ps j
last_stop_front [] q j e = ap (λ b. cond b (max (as_time q.stop) 0) 0) e
last_stop_front (p ∷ ps) q j e =
    ap (λ z. cond (p.job == j) (max (as_time p.stop) z) z) (last_stop_front ps q j e)

over_by : (i t : ℕ) (p : Piece) → as_time p.stop ≤ t → covers i t p ≡ false
over_by i t p h =
    and_right (p.machine == i) (is_during t p)
    (and_right (nat_le (as_time p.start) t) (nat_lt t (as_time p.stop))
    (le-ltb t (as_time p.stop) h))

not_before : (i t : ℕ) (p : Piece) → t < as_time p.start → covers i t p ≡ false
not_before i t p h =
    and_right (p.machine == i) (is_during t p)
    (and_left (nat_le (as_time p.start) t) (nat_lt t (as_time p.stop))
    (lt-leb (as_time p.start) t h))

covers_now : (t : ℕ) (p : Piece) → p.machine ≡ 1 → as_time p.start ≤ t → t < as_time p.stop
    → covers 1 t p ≡ true
covers_now t p m from until =
    and_from (p.machine == 1) (is_during t p) (eq-eqb p.machine 1 m)
    (and_from (nat_le (as_time p.start) t) (nat_lt t (as_time p.stop))
    (le-leb (as_time p.start) t from) (lt-ltb t (as_time p.stop) until))

-- the last piece that covers the time, behind pieces that are over
job_at_end : (ps : List Piece) (q : Piece) (t : ℕ) → All (λ p. as_time p.stop ≤ t) ps
    → covers 1 t q ≡ true → job_at (ps ++ q ∷ []) 1 t ≡ q.job
job_at_end ps q t over e =
    job_at_skip ps (q ∷ []) 1 t
    (All-weaker (λ p. as_time p.stop ≤ t) (λ p. covers 1 t p ≡ false) (λ p h. over_by 1 t p h)
    ps over)
    ∙ ap (λ b. cond b q.job 0) e

no_claims : (ps : List Piece) (i t : ℕ) → All (λ p. as_time p.stop ≤ t) ps → claims ps i t ≡ 0
no_claims ps i t over =
    count_none (covers i t) ps (λ n d h. over_by i t (get_or ps n d) (over n d h))

stops_by_later : (ps : List Piece) (now t : ℕ) → now ≤ t → All (λ p. as_time p.stop ≤ now) ps
    → All (λ p. as_time p.stop ≤ t) ps
stops_by_later ps now t le all =
    All-weaker (λ p. as_time p.stop ≤ now) (λ p. as_time p.stop ≤ t) (λ p h. omega arith) ps all

abbrev as_one : Bool → ℕ
as_one b = cond b 1 0

one_or_none : (b : Bool) → cond b 1 0 ≤ 1
one_or_none true = omega arith
one_or_none false = omega arith

run_later : (k : SchedulingTask) (now b : ℕ) → now ≤ b → (ps : List Piece) → All (IsRun k now) ps
    → All (IsRun k b) ps
run_later k now b le ps runs =
    All-weaker (IsRun k now) (IsRun k b)
    (λ q r. record {
      job = r.job;
      machine = r.machine;
      full = r.full;
      stop = omega (arith, r.stop);
      released = r.released;
    }) ps runs

differs : (x j : ℕ) → (j ≡ x → ⊥) → (x == j) ≡ false
differs x j h = ne_eqb x j (λ e. h (sym e))

-- a piece that is over before the next one starts comes before it
over_before : (now b : ℕ) (p q : Piece) → p.machine ≡ 1 → q.machine ≡ 1
    → as_time p.start < as_time p.stop → as_time p.stop ≤ now → q.start ≡ pos now → ComesBefore p q
over_before now b p q mp mq full stop start = (
  omega arith,
  λ _. subst (λ z. p.start ≤ℤ z) (sym start)
      (time_le_back p.start (pos now) (omega (arith, ints)) (omega arith)),
)

-- a new piece
pub extends_push : (k : SchedulingTask) (ps : List Piece) (x now b : ℕ)
    → ((hs : List Piece) (p : Piece) → ps ≡ hs ++ p ∷ [] → ¬ (IsContinued p (run_of x now b)))
    → All (IsRun k now) ps
    → IsSchedule ps → IsJob k x → (job_data k x).release ≤ now → now < b → b ≤ limit
    → Extends k ps (ps ++ run_of x now b ∷ []) x now b
extends_push k ps x now b begins runs schedule job released lt within =
    let q : Piece = run_of x now b in
    let once : NoneTwice ps = schedule.none_twice in
    record {
      stay = λ u early. job_at_front ps q 1 u (not_before 1 u q early);
      here = λ u from until. job_at_end ps q u
          (stops_by_later ps now u from (stops_by k ps now runs)) (covers_now u q refl from until);
      mine = omega (
        arith,
        sum_by_push (λ p. cond (p.job == x) (duration p) 0) ps q,
        ap (λ t. cond t (b - now) 0) (eq-eqb x x refl),
      );
      others = λ j h. (
        omega (
          arith,
          sum_by_push (λ p. cond (p.job == j) (duration p) 0) ps q,
          ap (λ t. cond t (b - now) 0) (differs x j h),
        ),
        omega (arith, last_stop_front ps q j (differs x j h)),
      );
      runs = All-push (IsRun k b) ps q (run_later k now b (omega arith) ps runs)
          (record {
            job = job;
            machine = refl;
            full = lt;
            stop = omega arith;
            released = released;
          });
      schedule = record {
        sound = All-push IsPiece ps q schedule.sound
            ((omega (arith, ints), omega (arith, ints)), omega (arith, ints));
        none_twice = λ i t. ⊎_elim
            (λ early. omega (
              arith,
              once i t,
              sum_by_push (λ p. cond (covers i t p) 1 0) ps q,
              ap as_one (not_before i t q early),
            ))
            (λ late. omega (
              arith,
              no_claims ps i t (stops_by_later ps now t late (stops_by k ps now runs)),
              sum_by_push (λ p. cond (covers i t p) 1 0) ps q,
              one_or_none (covers i t q),
            ))
            (cases_lt t now);
        in_order = all_pairs_push ComesBefore ps q schedule.in_order (λ n d h.
            let r : IsRun k now (get_or ps n d) = runs n d h in
            over_before now b (get_or ps n d) q r.machine refl r.full r.stop refl);
      };
      whole = λ whole. adjacent_push (λ p r. ¬ (IsContinued p r)) ps q whole begins;
    }

-- the last piece goes on
pub extends_join : (k : SchedulingTask) (hs : List Piece) (q : Piece) (now b : ℕ) → q.stop ≡ pos now
    → All (IsRun k now) (hs ++ q ∷ []) → IsSchedule (hs ++ q ∷ []) → now < b → b ≤ limit
    → Extends k (hs ++ q ∷ [])
    (hs ++ record { job = q.job; machine = q.machine; start = q.start; stop = pos b } ∷ [])
    q.job now b
extends_join k hs q now b stops runs schedule lt within =
    let r : Piece = record { job = q.job; machine = q.machine; start = q.start; stop = pos b } in
    let x : ℕ = q.job in
    let once : NoneTwice (hs ++ q ∷ []) = schedule.none_twice in
    let front : All (IsRun k now) hs = All-front (IsRun k now) hs (q ∷ []) runs in
    let last : IsRun k now q =
    All-contains (IsRun k now) (hs ++ q ∷ []) q runs (Contains-push hs q) in
    let sound : IsPiece q =
    All-contains IsPiece (hs ++ q ∷ []) q schedule.sound (Contains-push hs q) in
    let at : as_time q.stop ≡ now = ap as_time stops in
    let both_going : (i t : ℕ) → t < now → covers i t q ≡ covers i t r =
    λ i t early. ap (λ z. (q.machine == i) && (nat_le (as_time q.start) t && z))
    (lt-ltb t (as_time q.stop) (omega arith) ∙ sym (lt-ltb t b (omega arith))) in
    record {
      stay = λ u early. job_at_last hs r q 1 u (sym (both_going 1 u early)) refl;
      here = λ u from until. job_at_end hs r u
          (stops_by_later hs now u from (stops_by k hs now front))
          (covers_now u r last.machine (omega (arith, last.full)) until);
      mine = omega (
        arith,
        last.full,
        at,
        sum_by_push (λ p. cond (p.job == x) (duration p) 0) hs q,
        ap (λ t. cond t (as_time q.stop - as_time q.start) 0) (eq-eqb x x refl),
        sum_by_push (λ p. cond (p.job == x) (duration p) 0) hs r,
        ap (λ t. cond t (b - as_time q.start) 0) (eq-eqb x x refl),
      );
      others = λ j h. (
        omega (
          arith,
          sum_by_push (λ p. cond (p.job == j) (duration p) 0) hs q,
          ap (λ t. cond t (as_time q.stop - as_time q.start) 0) (differs x j h),
          sum_by_push (λ p. cond (p.job == j) (duration p) 0) hs r,
          ap (λ t. cond t (b - as_time q.start) 0) (differs x j h),
        ),
        omega (
          arith,
          last_stop_front hs q j (differs x j h),
          last_stop_front hs r j (differs x j h),
        ),
      );
      runs = All-push (IsRun k b) hs r (run_later k now b (omega arith) hs front)
          (record {
            job = last.job;
            machine = last.machine;
            full = omega (arith, last.full);
            stop = omega arith;
            released = last.released;
          });
      schedule = record {
        sound = All-push IsPiece hs r (All-front IsPiece hs (q ∷ []) schedule.sound)
            ((sound.0.0, omega (arith, ints)), omega (arith, ints, sound.1, stops));
        none_twice = λ i t. ⊎_elim
            (λ early. omega (
              arith,
              once i t,
              sum_by_push (λ p. cond (covers i t p) 1 0) hs q,
              sum_by_push (λ p. cond (covers i t p) 1 0) hs r,
              ap as_one (both_going i t early),
            ))
            (λ late. omega (
              arith,
              no_claims hs i t (stops_by_later hs now t late (stops_by k hs now front)),
              sum_by_push (λ p. cond (covers i t p) 1 0) hs r,
              one_or_none (covers i t r),
            ))
            (cases_lt t now);
        in_order = all_pairs_push ComesBefore hs r
            (AllPairs-front ComesBefore hs q schedule.in_order)
            (λ n d h. AllPairs-last ComesBefore hs q schedule.in_order n d h);
      };
      whole = λ whole. adjacent_last (λ p s. ¬ (IsContinued p s)) hs q r whole
          (λ p cut continued. cut continued);
    }

-- either way
pub extends_longer : (k : SchedulingTask) (ps qs : List Piece) (x now b : ℕ)
    → IsLonger ps qs x now b → All (IsRun k now) ps → IsSchedule ps → IsJob k x
    → (job_data k x).release ≤ now → now < b → b ≤ limit
    → Extends k ps qs x now b
extends_longer k ps qs x now b (Pushed begins is) runs schedule job released lt within =
    subst (λ zs. Extends k ps zs x now b) (sym is)
    (extends_push k ps x now b begins runs schedule job released lt within)
extends_longer k ps qs x now b (Joined hs p before own stops is) runs schedule job released lt
    within =
    subst (λ zs. Extends k zs qs x now b) (sym before)
    (subst (λ zs. Extends k (hs ++ p ∷ []) zs x now b) (sym is)
    (subst (λ y. Extends k (hs ++ p ∷ [])
    (hs ++ record { job = p.job; machine = p.machine; start = p.start; stop = pos b } ∷ []) y
    now b) own
    (extends_join k hs p now b stops (subst (All (IsRun k now)) before runs)
    (subst IsSchedule before schedule) lt within)))
