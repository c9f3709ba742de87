-- What is laid fits the task, whatever its environment and conditions are.
use Rattle.std.proofs.Common.{◌≡◌, ◌≢◌, ◌⊎◌, ◌||◌, ℕ, ◌+◌, ◌-◌, ◌<◌, ◌≤◌, pos, Bool, true, false, cond, List, [], ◌∷◌, length, get_or, sum, refl, sym, ap, subst, ◌∙◌, arith, inl, inr, IsTrue}
use Rattle.std.specs.Bool.{IsFalse}
use Rattle.std.specs.List.{All, AllPairs}
use Rattle.std.proofs.lemmas.Int.{ints}
use Rattle.std.proofs.lemmas.Bool.{cases_lt}
use Rattle.std.proofs.lemmas.List.{get_or_default}
use Rattle.std.proofs.lemmas.List.Sorted.{Contains-permutation}
use Rattle.tf_model.specs.Limit.{limit}
use Rattle.tf_model.specs.ClassTable.{is_shop_env, is_flow_env}
use Rattle.tf_model.specs.Timetable.{Timetable, cell}
use Rattle.tf_posed.specs.ProblemData.{ProblemData, IsProblemJob, problem_job, no_problem_job, problem_jobs, problem_release, is_job_shop}
use Rattle.tf_posed.specs.FitsProblem.{FitsProblem, HasProblemTime, VisitsFirst, IsOnRoute, IsWithoutWait}
use Rattle.tf_problem.proofs.Least.{Contains-problem_jobs}
use Rattle.tf_bound.specs.Sized.{IsSized}
use Rattle.tf_bound.specs.Steps.{steps_of}
use Rattle.tf_bound.proofs.StepsOf.{route_steps, steps_routed}
use Rattle.tf_schedule.proofs.Judging.{without_route}
use Rattle.tf_schedule.specs.declared.piece.Piece.{Piece}
use Rattle.tf_schedule.specs.Amounts.{start_of}
use Rattle.tf_schedule.specs.Claims.{JobsOnce}
use Rattle.tf_schedule.specs.Drawing.{drawing, stop_of, IsOnMachine, IsGoing}
use Rattle.tf_schedule.specs.Schedule.{IsPiece, NoneTwice}
use Rattle.tf_schedule.proofs.Apart.{apart_none_twice, apart_jobs_once, apart_no_gap}
use Rattle.tf_schedule.proofs.Busy.{IsBusy, busy_piece, piece_busy, no_gap_from_extent}
use Rattle.tf_schedule.proofs.Cells.{cell_exactly, piece_draws, on_some_machine}
use Rattle.tf_schedule.proofs.Drawing.{units-drawing, all_units-drawing, width-drawing, jobs-drawing, single_place-drawing}
use Rattle.tf_schedule.proofs.Laying.{IsApart}
use Rattle.tf_schedule.proofs.Times.{time_le_back}
use Rattle.tf_schedule.specs.ProblemMisfit.{IsKnownTo}
use Rattle.tf_plan.proofs.Steps.{all_room}
use Rattle.tf_plan.specs.Plan.{FitsAsLaid}
use Rattle.tf_plan.specs.Serial.{Follows, Precedes, IsServed, IsSerialPiece, IsSerial}
use Rattle.tf_plan.specs.SerialOrder.{IsSerialOrder, StandsBefore}

-- ---- how many times a job has

times_by : (b : Bool) (m : ℕ) (xs : List ℕ) → (b ≡ false → length xs ≡ 1) → (b ≡ true → length xs ≡ m)
    → 1 ≤ m → length xs ≤ m
times_by false m xs one many some = omega (arith, one refl)
times_by true m xs one many some = omega (arith, many refl)

one_sum : (xs : List ℕ) → length xs ≡ 1 → sum xs ≡ get_or xs 0 0
one_sum [] one = absurd (omega arith)
one_sum (x ∷ []) one = omega arith
one_sum (x ∷ (y ∷ xs)) one = absurd (omega arith)

-- ---- what stands before what

-- a list with none twice: nothing stands before itself
not_itself : (l : List ℕ) → AllPairs (λ a b. a ≢ b) l → (a : ℕ) → ¬ (StandsBefore l a a)
not_itself l apart a before =
    apart before.x before.y 0 before.lt before.within (before.first ∙ sym before.second)

-- and of two one before the other
not_both : (l : List ℕ) → AllPairs (λ a b. a ≢ b) l → (a b : ℕ) → StandsBefore l a b
    → ¬ (StandsBefore l b a)
not_both l apart a b stands back =
    let one = place back.x stands.y (omega (arith, back.lt, back.within)) stands.within
    (back.first ∙ sym stands.second) in
    let other = place back.y stands.x back.within (omega (arith, stands.lt, stands.within))
    (back.second ∙ sym stands.first) in
    omega (arith, one, other, back.lt, stands.lt)
  where
    place : (x y : ℕ) → x < length l → y < length l → get_or l x 0 ≡ get_or l y 0 → x ≡ y
    place x y in_x in_y same = elim (cases_lt x y) [
      | inl lt ↦ absurd (apart x y 0 lt in_y same)
      | inr ge ↦ elim (cases_lt y x) [
        | inl lt ↦ absurd (apart y x 0 lt in_x (sym same))
        | inr le ↦ omega arith
      ]
    ]

-- ---- the pieces

module _ (k : ProblemData) (sized : IsSized k) (order : List ℕ) (sound : IsSerialOrder k order)
    (ps : List Piece) (now : ℕ) (is : IsSerial k order (length order) ps now) where
  abbrev m : ℕ
  m = k.machines

  abbrev rows : Timetable
  rows = drawing k.machines ps

  -- what holds of the job and the machine of a piece and those of each later one
  abbrev S : ℕ → ℕ → ℕ → ℕ → Type 0
  S j i h l = ((j ≡ h) × IsProblemJob k h × StandsBefore (steps_of k h) (i - 1) (l - 1))
      ⊎ StandsBefore order j h

  never_before : (a : ℕ) → ¬ (StandsBefore order a a)
  never_before a before = not_itself order sound.once a before

  -- no step of a job stands before itself
  never_step : (j a : ℕ) → IsProblemJob k j → ¬ (StandsBefore (steps_of k j) a a)
  never_step j a job before =
      not_itself (steps_of k j) (steps_routed k sized j job).no_twice a before

  never : (j i : ℕ) → ¬ (S j i j i)
  never j i (inl own) = never_step j (i - 1) own.1 own.2
  never j i (inr before) = never_before j before

  few : (j : ℕ) → IsProblemJob k j → length (problem_job k j).times ≤ m
  few j job =
      let x = sized.jobs (j - 1) no_problem_job (omega (arith, job.0, job.1)) in
      times_by (is_shop_env k.problem.env) m (problem_job k j).times x.one_time x.shop_times
      sized.some_machine

  on_machines : All (IsOnMachine m) ps
  on_machines n d h = let p = is.each n d h in (p.machine.0, omega (arith, p.machine.1, few _ p.job))

  pub known : All (IsKnownTo k) ps
  known n d h = ((is.each n d h).job, on_machines n d h)

  pub pieces : All IsPiece ps
  pieces n d h =
      let p = is.each n d h in (
        (
          p.low,
          time_le_back (get_or ps n d).stop (pos limit) (omega (arith, ints))
              (omega (arith, p.ended, is.room)),
        ),
        p.full,
      )

  apart : AllPairs (IsApart S) ps
  apart a b d lt in' =
      let e = is.pairs a b d lt in' in
      record {
        on_machine = λ _. e.over;
        of_job = λ _. e.over;
        kept = elim e.follows [
          | inl own ↦ inl (own.0, (is.each b d in').job, own.1)
          | inr before ↦ inr before
        ];
      }

  pub none_twice : NoneTwice ps
  none_twice = apart_none_twice S ps apart

  once : JobsOnce ps
  once = apart_jobs_once S ps apart

  -- ---- of two cells with jobs

  pieces_in_order : (a c : ℕ) (p q : Piece) → a < length ps → c < length ps → get_or ps a p ≡ p
      → get_or ps c q ≡ q → Precedes k order p q ⊎ (Precedes k order q p ⊎ (p ≡ q))
  pieces_in_order a c p q in_a in_c read_p read_q =
      let at_c : get_or ps c p ≡ q = get_or_default ps c p q in_c ∙ read_q in
      elim (cases_lt a c) [
        | inl lt ↦ inl (subst (λ z. Precedes k order z q) read_p
            (subst (λ z. Precedes k order (get_or ps a p) z) at_c (is.pairs a c p lt in_c)))
        | inr le ↦ elim (cases_lt c a) [
          | inl lt ↦ inr (inl
              (subst (λ z. Precedes k order z p) at_c
              (subst (λ z. Precedes k order (get_or ps c p) z) read_p (is.pairs c a p lt in_a))))
          | inr ge ↦ let same : a ≡ c = omega arith in inr
              (inr (sym read_p ∙ ap (λ n. get_or ps n p) same ∙ at_c))
        ]
      ]

  pub record AreTwo (s t a b j h : ℕ) : Type 0 where
    pub p : Piece
    pub q : Piece
    pub first : IsGoing (a + 1) s j p
    pub second : IsGoing (b + 1) t h q
    pub p_is : IsSerialPiece k now p
    pub q_is : IsSerialPiece k now q
    pub either : Precedes k order p q ⊎ (Precedes k order q p ⊎ (p ≡ q))

  two : (s t a b j h : ℕ) → 0 < j → 0 < h → cell rows s a ≡ j → cell rows t b ≡ h
      → AreTwo s t a b j h
  two s t a b j h some some' at_s at_t =
      let (x, p, in_x, read_p, first) =
      (cell_exactly m ps a s j none_twice (on_some_machine m ps s a j some at_s) some).0 at_s in
      let (y, q, in_y, read_q, second) =
      (cell_exactly m ps b t h none_twice (on_some_machine m ps t b h some' at_t) some').0 at_t in
      record {
        p = p;
        q = q;
        first = first;
        second = second;
        p_is = subst (IsSerialPiece k now) read_p (is.each x p in_x);
        q_is = subst (IsSerialPiece k now) read_q (is.each y q in_y);
        either = pieces_in_order x y p q in_x in_y read_p read_q;
      }

  -- where job j stands before job h, its rows come before those of h
  before_rows : (s t a b j h : ℕ) → 0 < j → 0 < h → StandsBefore order j h → cell rows s a ≡ j
      → cell rows t b ≡ h → s < t
  before_rows s t a b j h some some' stands at_s at_t =
      let w = two s t a b j h some some' at_s at_t in
      elim w.either [
        | inl e ↦ omega (arith, e.over, w.first.going, w.second.started)
        | inr rest ↦ elim rest [
          | inl e ↦ absurd (wrong w.p w.q e.follows w.first.job w.second.job)
          | inr one ↦ absurd
              (never_before j
              (subst (λ z. StandsBefore order j z)
              (sym w.second.job ∙ ap (λ (z : Piece). z.job) (sym one) ∙ w.first.job) stands))
        ]
      ]
    where
      wrong : (p q : Piece) → Follows k order q p → p.job ≡ j → q.job ≡ h → ⊥
      wrong p q (inl own) pj qh =
          never_before j (subst (λ z. StandsBefore order j z) (sym qh ∙ own.0 ∙ pj) stands)
      wrong p q (inr back) pj qh =
          not_both order sound.once j h stands
          (subst (λ z. StandsBefore order z j) qh
          (subst (λ z. StandsBefore order q.job z) pj back))

  -- ---- each job

  placed : (j : ℕ) → IsProblemJob k j → (x : ℕ) × (x < length order) × (get_or order x 0 ≡ j)
  placed j job =
      let there = Contains-permutation (problem_jobs k) order j sound.all
      (Contains-problem_jobs k j job) in
      (there.0, there.1, get_or_default order there.0 0 j there.1 ∙ there.2)

  served : (j : ℕ) → IsProblemJob k j → IsServed (problem_job k j).times ps j
  served j job =
      let (x, lt, at) = placed j job in
      subst (λ z. IsServed (problem_job k z).times ps z) at (is.served x lt)

  one_time : (j : ℕ) → IsProblemJob k j → IsFalse (is_shop_env k.problem.env)
      → length (problem_job k j).times ≡ 1
  one_time j job plain =
      (sized.jobs (j - 1) no_problem_job (omega (arith, job.0, job.1))).one_time plain

  amount : (j : ℕ) → IsProblemJob k j → HasProblemTime k rows j
  amount j job = record {
    in_all = λ plain. all_units-drawing m ps j none_twice on_machines job.0 ∙ (served j job).work
        ∙ one_sum (problem_job k j).times (one_time j job plain);
    on_each = λ shop i on. units-drawing m ps j i none_twice job.0 on ∙ (served j job).work_on i;
  }

  one_machine : (j : ℕ) → IsProblemJob k j → IsFalse (is_shop_env k.problem.env)
      → (s t a b : ℕ) → cell rows s a ≡ j → cell rows t b ≡ j → a ≡ b
  one_machine j job plain s t a b at_s at_t =
      let w = two s t a b j j job.0 job.0 at_s at_t in
      let one : length (problem_job k j).times ≡ 1 = one_time j job plain in
      omega (
        arith,
        w.first.machine,
        w.second.machine,
        w.p_is.machine.1,
        w.q_is.machine.1,
        ap (λ z. length (problem_job k z).times) w.first.job,
        ap (λ z. length (problem_job k z).times) w.second.job,
        one,
      )

  asked_release : (b : Bool) (r : ℕ) → b ≡ true → cond b r 0 ≡ r
  asked_release true r e = refl
  asked_release false r e = absurd (cc)

  released : IsTrue k.problem.release → (j : ℕ) → IsProblemJob k j → (t i : ℕ) → cell rows t i ≡ j
      → (problem_job k j).release ≤ t
  released asked j job t i at =
      let w = two t t i i j j job.0 job.0 at at in
      omega (
        arith,
        w.p_is.released,
        w.first.started,
        ap (problem_release k) w.first.job,
        asked_release k.problem.release (problem_job k j).release asked,
      )

  -- ---- routes

  visits : (j a b : ℕ) → IsProblemJob k j → StandsBefore (steps_of k j) a b → VisitsFirst rows j a b
  visits j a b job stands s t at_s at_t =
      let w = two s t a b j j job.0 job.0 at_s at_t in
      elim w.either [
        | inl e ↦ omega (arith, e.over, w.first.going, w.second.started)
        | inr rest ↦ elim rest [
          | inl e ↦ absurd (wrong w.p w.q e.follows w.first.job w.second.job w.first.machine w.second.machine)
          | inr one ↦
              let same : a ≡ b =
              omega (arith, w.first.machine, w.second.machine, ap (λ (z : Piece). z.machine) one) in
              absurd
              (never_step j b job (subst (λ z. StandsBefore (steps_of k j) z b) same stands))
        ]
      ]
    where
      less_one : (n m : ℕ) → n ≡ m + 1 → n - 1 ≡ m
      less_one n m e = omega (arith, e)

      wrong : (p q : Piece) → Follows k order q p → p.job ≡ j → q.job ≡ j → p.machine ≡ a + 1
          → q.machine ≡ b + 1 → ⊥
      wrong p q (inl own) pj qj pa qb =
          not_both (steps_of k j) (steps_routed k sized j job).no_twice a b stands
          (subst (λ z. StandsBefore (steps_of k j) z a) (less_one q.machine b qb)
          (subst (λ z. StandsBefore (steps_of k j) (q.machine - 1) z) (less_one p.machine a pa)
          (subst (λ z. StandsBefore (steps_of k z) (q.machine - 1) (p.machine - 1)) pj own.1)))
      wrong p q (inr back) pj qj pa qb =
          never_before j
          (subst (λ z. StandsBefore order z j) qj
          (subst (λ z. StandsBefore order q.job z) pj back))

  on_route : (j : ℕ) → IsProblemJob k j → IsOnRoute k rows j
  on_route j job = by (is_flow_env k.problem.env || is_job_shop k.problem.env) refl
    where
      pairs : AllPairs (VisitsFirst rows j) (steps_of k j)
      pairs a b d lt in' =
          visits j (get_or (steps_of k j) a d) (get_or (steps_of k j) b d) job
          (record {
            x = a;
            y = b;
            lt = lt;
            within = in';
            first = get_or_default (steps_of k j) a 0 d (omega (arith, lt, in'));
            second = get_or_default (steps_of k j) b 0 d in';
          })

      by : (routed : Bool) → (is_flow_env k.problem.env || is_job_shop k.problem.env) ≡ routed
          → IsOnRoute k rows j
      by true e =
          subst (AllPairs (VisitsFirst rows j)) (sym (route_steps k sized e j job)) pairs
      by false e =
          subst (AllPairs (VisitsFirst rows j)) (sym (without_route k e j))
          (λ a b d lt in'. absurd (omega arith))

  -- ---- waiting

  cell_busy : (j t i : ℕ) → 0 < j → cell rows t i ≡ j → IsBusy ps j t
  cell_busy j t i some e =
      let (x, p, in_x, read, going) =
      (cell_exactly m ps i t j none_twice (on_some_machine m ps t i j some e) some).0 e in
      piece_busy ps j t (
        x,
        p,
        in_x,
        read,
        record { job = going.job; started = going.started; going = going.going },
      )

  busy_cell : (j t : ℕ) → IsBusy ps j t → (i : ℕ) × (cell rows t i ≡ j)
  busy_cell j t busy =
      let (a, p, h, read, works) = busy_piece ps j t busy in (
        p.machine - 1,
        subst (λ (q : Piece). cell rows t (q.machine - 1) ≡ q.job) read
            (piece_draws m ps a p t none_twice on_machines h
            (subst (λ q. start_of q ≤ t) (sym read) works.started)
            (subst (λ q. t < stop_of q) (sym read) works.going)) ∙ works.job,
      )

  without_wait : (j : ℕ) → IsProblemJob k j → IsWithoutWait rows j
  without_wait j job s t u a b le le' at_s at_u =
      busy_cell j t
      (no_gap_from_extent ps pieces j (once j) (served j job).gapless s t u le le'
      (cell_busy j s a job.0 at_s) (cell_busy j u b job.0 at_u))

  -- ---- all of it

  pub serial_fits : FitsProblem k rows
  serial_fits = record {
    width = width-drawing m ps;
    jobs_only = jobs-drawing m ps (length k.jobs) (λ n d h. (is.each n d h).job.1);
    single_place = λ j low high. single_place-drawing m ps none_twice on_machines once j low;
    amount = λ j low high. amount j (low, high);
    unbroken = λ _ j low high. record {
      no_gap = λ i s t u. apart_no_gap S ps apart never m j i s t u low;
      one_machine = one_machine j (low, high);
    };
    released = λ asked j low high. released asked j (low, high);
    in_order = λ asked n d h s t a b.
        let arc = sized.arcs_in n d h in
        before_rows s t a b (get_or k.arcs n d).0 (get_or k.arcs n d).1 arc.0.0 arc.1.0
        (sound.keeps asked n d h);
    on_route = λ j low high. on_route j (low, high);
    one_order = λ asked. (
      order,
      sound.all,
      λ x y d lt in' a s t.
          before_rows s t a a (get_or order x d) (get_or order y d)
          (sound.jobs x d (omega arith)).0 (sound.jobs y d in').0
          (record {
            x = x;
            y = y;
            lt = lt;
            within = in';
            first = get_or_default order x 0 d (omega arith);
            second = get_or_default order y 0 d in';
          }),
    );
    without_wait = λ asked j low high. without_wait j (low, high);
  }

  pub as_laid : FitsAsLaid k ps
  as_laid =
      record { known = known; pieces = pieces; none_twice = none_twice; fits = serial_fits }

-- ---- no job yet

pub serial_none : (k : ProblemData) (order : List ℕ) → IsSized k → IsSerialOrder k order
    → IsSerial k order 0 [] 0
serial_none k order sized sound = record {
  room = omega (arith, all_room k order sound, sized.total);
  each = λ n d h. absurd (omega arith);
  pairs = λ a b d lt in'. absurd (omega arith);
  jobs = λ n d h. absurd (omega arith);
  served = λ x lt. absurd (omega arith);
  rest = λ j away. record { stop = refl; start = refl; work = refl; work_on = λ i. refl };
}
