-- What one more operation does to what is laid.
use Rattle.std.proofs.Common.{◌≡◌, ◌≢◌, ◌⊎◌, ℕ, zero, suc, ◌+◌, ◌-◌, ◌<◌, ◌≤◌, max, min, Bool, true, false, cond, ◌&&◌, eqb, List, [], ◌∷◌, ◌++◌, length, get_or, sum, refl, sym, ap, subst, ◌∙◌, arith, inl, inr, length-append, append_assoc, take}
use Rattle.std.specs.List.{sum_by, range_with_len}
use Rattle.std.proofs.lemmas.Int.{ints}
use Rattle.std.proofs.lemmas.List.{append-nil, get_or_default, take_all}
use Rattle.std.proofs.lemmas.List.Elements.{All-push}
use Rattle.std.proofs.lemmas.List.Quantifiers.{all_pairs_push}
use Rattle.std.proofs.lemmas.List.Sums.{sum_by_push, sum_by-cons, sum_by-drop_more, sum_by-take-drop, sum_by-take-le}
use Rattle.std.proofs.lemmas.List.Sorted.{sum_by-IsPermutation}
use Rattle.std.proofs.Math.Seq.{get_or-append_seam}
use Rattle.std.proofs.lemmas.Bool.{cases_eq}
use Rattle.std.proofs.lemmas.Bool.Decides.{nat_tests}
use Rattle.tf_model.specs.Limit.{limit, most_machines}
use Rattle.tf_model.specs.ClassTable.{is_shop_env}
use Rattle.tf_bound.specs.Sized.{IsSized, all_work}
use Rattle.tf_bound.specs.Steps.{steps_of}
use Rattle.tf_bound.proofs.RouteTime.{share, share_same, share_other, each_time, whole_time}
use Rattle.tf_bound.proofs.Steps.{sum_next}
use Rattle.tf_bound.proofs.StepsOf.{steps_timed, steps_routed}
use Rattle.tf_posed.specs.ProblemData.{ProblemData, ProblemJobData, IsProblemJob, problem_job, no_problem_job, problem_jobs, problem_release}
use Rattle.tf_schedule.specs.declared.piece.Piece.{Piece}
use Rattle.tf_schedule.specs.Piece.{piece_of}
use Rattle.tf_schedule.specs.Amounts.{work, work_on, greatest_by, least_by, start_of}
use Rattle.tf_schedule.specs.Drawing.{duration, stop_of}
use Rattle.tf_schedule.specs.SemiActive.{stretch}
use Rattle.tf_schedule.proofs.Extents.{greatest_push, least_push}
use Rattle.tf_plan.specs.SerialOrder.{IsSerialOrder}
use Rattle.tf_plan.specs.Serial.{Precedes, IsUntouched, IsServed, IsTouching, IsSerialPiece, IsOfFirst, IsSerial, IsPartly, rest_work, time_done}

-- ---- what a piece does to the sums of a job

-- the lists have the same of job h
record Same (ps more : List Piece) (h : ℕ) : Type 0 where
  stop : greatest_by stop_of more h ≡ greatest_by stop_of ps h
  start : least_by start_of more h ≡ least_by start_of ps h
  work : work more h ≡ work ps h
  work_on : (i : ℕ) → work_on more h i ≡ work_on ps h i

module _ (ps : List Piece) (j i s t : ℕ) where
  abbrev p : Piece
  p = piece_of j i s (s + suc t)

  abbrev with_piece : List Piece
  with_piece = ps ++ p ∷ []

  other : (h : ℕ) → j ≢ h → Same ps with_piece h
  other h differ =
      let test : eqb j h ≡ false = grind (arith, nat_tests) in
      record {
        stop = greatest_push stop_of ps p h
            ∙ ap (λ (b : Bool). cond b (max (stop_of p) (greatest_by stop_of ps h))
            (greatest_by stop_of ps h)) test;
        start = least_push start_of ps p h
            ∙ ap (λ (b : Bool). cond b (min (start_of p) (least_by start_of ps h))
            (least_by start_of ps h)) test;
        work = omega (
          arith,
          sum_by_push (λ q. cond (eqb q.job h) (duration q) 0) ps p,
          ap (λ (b : Bool). cond b (duration p) 0) test,
        );
        work_on = λ a. omega (
          arith,
          sum_by_push (λ q. cond (eqb q.job h && eqb q.machine a) (duration q) 0) ps p,
          ap (λ (b : Bool). cond (b && eqb i a) (duration p) 0) test,
        );
      }

  own_test : eqb j j ≡ true
  own_test = let e : j ≡ j = refl in grind (arith, nat_tests)

  own_stop : greatest_by stop_of with_piece j ≡ max (s + suc t) (greatest_by stop_of ps j)
  own_stop = greatest_push stop_of ps p j
      ∙ ap (λ (b : Bool). cond b (max (stop_of p) (greatest_by stop_of ps j))
      (greatest_by stop_of ps j)) own_test

  own_start : least_by start_of with_piece j ≡ min s (least_by start_of ps j)
  own_start = least_push start_of ps p j
      ∙ ap (λ (b : Bool). cond b (min (start_of p) (least_by start_of ps j))
      (least_by start_of ps j)) own_test

  own_work : work with_piece j ≡ work ps j + suc t
  own_work = omega (
    arith,
    sum_by_push (λ q. cond (eqb q.job j) (duration q) 0) ps p,
    ap (λ (b : Bool). cond b (duration p) 0) own_test,
  )

  own_on : work_on with_piece j i ≡ work_on ps j i + suc t
  own_on =
      let both : (eqb j j && eqb i i) ≡ true =
      ap (λ (b : Bool). b && eqb i i) own_test
      ∙ (let e : i ≡ i = refl in grind (arith, nat_tests)) in
      omega (
        arith,
        sum_by_push (λ q. cond (eqb q.job j && eqb q.machine i) (duration q) 0) ps p,
        ap (λ (b : Bool). cond b (duration p) 0) both,
      )

  own_off : (a : ℕ) → i ≢ a → work_on with_piece j a ≡ work_on ps j a
  own_off a differ =
      let test : eqb i a ≡ false = grind (arith, nat_tests) in
      let both : (eqb j j && eqb i a) ≡ false =
      ap (λ (b : Bool). b && eqb i a) own_test ∙ test in
      omega (
        arith,
        sum_by_push (λ q. cond (eqb q.job j && eqb q.machine a) (duration q) 0) ps p,
        ap (λ (b : Bool). cond b (duration p) 0) both,
      )

served_same : (times : List ℕ) (ps more : List Piece) (h : ℕ) → Same ps more h
    → IsServed times ps h → IsServed times more h
served_same times ps more h same is = record {
  gapless = omega (arith, same.stop, same.start, same.work, is.gapless);
  work = same.work ∙ is.work;
  work_on = λ i. same.work_on (i + 1) ∙ is.work_on i;
}

untouched_same : (ps more : List Piece) (h : ℕ) → Same ps more h → IsUntouched ps h
    → IsUntouched more h
untouched_same ps more h same is = record {
  stop = same.stop ∙ is.stop;
  start = same.start ∙ is.start;
  work = same.work ∙ is.work;
  work_on = λ i. same.work_on (i + 1) ∙ is.work_on i;
}

touching_more : (ps : List Piece) (j i now t : ℕ) → now ≤ limit → IsTouching ps j now
    → IsTouching (ps ++ piece_of j i now (now + suc t) ∷ []) j (now + suc t)
touching_more ps j i now t small (inl (none, least, idle)) = inr (
  omega (arith, own_stop ps j i now t, none),
  omega (arith, own_start ps j i now t, least),
  omega (arith, own_stop ps j i now t, own_start ps j i now t, own_work ps j i now t, none, least, idle),
)
touching_more ps j i now t small (inr (stop, least, gapless)) = inr (
  omega (arith, own_stop ps j i now t, stop),
  omega (arith, own_start ps j i now t, least),
  omega (arith, own_stop ps j i now t, own_start ps j i now t, own_work ps j i now t, stop, least, gapless),
)

-- ---- one more time

work_on_more : (f : ℕ → ℕ) (steps : List ℕ) (done : ℕ) → done < length steps
    → (old new : ℕ → ℕ)
    → ((i : ℕ) → old (i + 1) ≡ sum_by (share f i) (take done steps))
    → new (get_or steps done 0 + 1) ≡ old (get_or steps done 0 + 1) + f (get_or steps done 0)
    → ((a : ℕ) → get_or steps done 0 + 1 ≢ a → new a ≡ old a)
    → (i : ℕ) → new (i + 1) ≡ sum_by (share f i) (take (done + 1) steps)
work_on_more f steps done lt old new has own off i = elim (cases_eq (get_or steps done 0) i) [
  | inl same ↦ omega (
    arith,
    ap (λ n. new (n + 1)) same,
    ap (λ n. old (n + 1)) same,
    own,
    has i,
    next,
    share_same f i (get_or steps done 0) same,
    ap f same,
  )
  | inr differ ↦ omega (
    arith,
    off (i + 1) (λ e. differ (omega (arith, e))),
    has i,
    next,
    share_other f i (get_or steps done 0) differ,
  )
]
  where
    next : sum_by (share f i) (take (done + 1) steps)
        ≡ sum_by (share f i) (take done steps) + share f i (get_or steps done 0)
    next = sum_next (share f i) steps done (get_or steps done 0) lt
        (get_or_default steps done 0 (get_or steps done 0) lt)

piece_later : (k : ProblemData) (now end : ℕ) (p : Piece) → now ≤ end → IsSerialPiece k now p
    → IsSerialPiece k end p
piece_later k now end p le is = record {
  job = is.job;
  machine = is.machine;
  low = is.low;
  full = is.full;
  released = is.released;
  ended = omega (arith, is.ended);
}

-- ---- totals

range_work : (front xs : List ProblemJobData)
    → sum_by (λ j. sum (get_or (front ++ xs) (j - 1) no_problem_job).times)
    (range_with_len (length front + 1) (length xs)) ≡ sum_by (λ x. sum x.times) xs
range_work front [] = refl
range_work front (x ∷ xs) =
    let f : ℕ → ℕ = λ j. sum (get_or (front ++ x ∷ xs) (j - 1) no_problem_job).times in
    let here : f (length front + 1) ≡ sum x.times =
    (let e : length front + 1 - 1 ≡ length front = omega arith in
    ap (λ n. sum (get_or (front ++ x ∷ xs) n no_problem_job).times) e)
    ∙ ap (λ (y : ProblemJobData). sum y.times) (get_or-append_seam front x xs no_problem_job) in
    let same : (front ++ x ∷ []) ++ xs ≡ front ++ x ∷ xs = append_assoc front (x ∷ []) xs in
    let long : length (front ++ x ∷ []) + 1 ≡ length front + 1 + 1 =
    omega (arith, length-append front (x ∷ [])) in
    let later : sum_by f (range_with_len (length front + 1 + 1) (length xs))
    ≡ sum_by (λ y. sum y.times) xs =
    subst (λ n. sum_by f (range_with_len n (length xs)) ≡ sum_by (λ y. sum y.times) xs) long
    (subst (λ ys. sum_by (λ j. sum (get_or ys (j - 1) no_problem_job).times)
    (range_with_len (length (front ++ x ∷ []) + 1) (length xs)) ≡ sum_by (λ y. sum y.times) xs) same
    (range_work (front ++ x ∷ []) xs)) in
    omega (
      arith,
      here,
      later,
      sum_by-cons f (length front + 1) (range_with_len (length front + 1 + 1) (length xs)),
      sum_by-cons (λ (y : ProblemJobData). sum y.times) x xs,
    )

pub all_room : (k : ProblemData) (order : List ℕ) → IsSerialOrder k order
    → rest_work k order 0 ≡ all_work k
all_room k order sound =
    sum_by-IsPermutation (λ j. sum (problem_job k j).times) (problem_jobs k) order sound.all
    ∙ range_work [] k.jobs

release_le : (b : Bool) (r : ℕ) → cond b r 0 ≤ r
release_le true r = omega arith
release_le false r = omega arith

released_room : (k : ProblemData) (order : List ℕ) → IsSerialOrder k order → IsSized k
    → (j : ℕ) → IsProblemJob k j → (x : ℕ)
    → problem_release k j + rest_work k order x ≤ limit
released_room k order sound sized j job x =
    omega (
      arith,
      sized.horizon (j - 1) no_problem_job (omega (arith, job.0, job.1)),
      release_le k.problem.release (problem_job k j).release,
      all_room k order sound,
      sum_by-take-drop (λ h. sum (problem_job k h).times) order x,
    )

module _ (k : ProblemData) (sized : IsSized k) (order : List ℕ) (sound : IsSerialOrder k order)
    (x : ℕ) (within : x < length order) where
  abbrev j : ℕ
  j = get_or order x 0

  abbrev times : List ℕ
  times = (problem_job k j).times

  abbrev steps : List ℕ
  steps = steps_of k j

  differ : (y : ℕ) → y < x → j ≢ get_or order y 0
  differ y lt e = sound.once y x 0 lt within (sym e)

  job : IsProblemJob k j
  job = sound.jobs x 0 within

  pub next_time : (done : ℕ) → done < length steps
      → time_done k j (take (done + 1) steps)
      ≡ time_done k j (take done steps) + get_or times (get_or steps done 0) 0
  next_time done lt =
      sum_next (λ a. get_or times a 0) steps done (get_or steps done 0) lt
      (get_or_default steps done 0 (get_or steps done 0) lt)

  pub front_small : (done : ℕ) → time_done k j (take done steps) ≤ sum times
  front_small done =
      omega (
        arith,
        sum_by-take-le (λ a. get_or times a 0) steps done,
        whole_time times steps (steps_routed k sized j job),
      )

  -- before the first operation of a job
  pub partly_start : (ps : List Piece) (now end : ℕ) → IsSerial k order x ps now
      → end ≡ max now (problem_release k j) → IsPartly k order x 0 ps end
  partly_start ps now end is at =
      let more : rest_work k order x ≡ sum (problem_job k j).times + rest_work k order (x + 1) =
      sum_by-drop_more (λ h. sum (problem_job k h).times) order x 0 within in
      let bare = is.rest j (λ y lt e. differ y lt (sym e)) in
      record {
        room = omega (arith, is.room, at, more, released_room k order sound sized j job x);
        front = omega arith;
        released = omega (arith, at);
        each = λ n d h. piece_later k now end (get_or ps n d) (omega (arith, at)) (is.each n d h);
        pairs = is.pairs;
        jobs = λ n d h. inl (is.jobs n d h);
        served = is.served;
        rest = λ h away. is.rest h (λ y lt. away y (omega arith));
        touching = inl (bare.stop, bare.start, bare.work);
        work = bare.work;
        work_on = bare.work_on;
      }

  module _ (done : ℕ) (lt : done < length steps) where
    abbrev a : ℕ
    a = get_or steps done 0

    -- an operation of time 0
    partly_idle : (ps : List Piece) (now : ℕ) → get_or times a 0 ≡ 0 → IsPartly k order x done ps now
        → IsPartly k order x (done + 1) ps now
    partly_idle ps now none is = record {
      room = omega (arith, is.room, next_time done lt);
      front = front_small (done + 1);
      released = is.released;
      each = is.each;
      pairs = is.pairs;
      jobs = λ n d h. elim (is.jobs n d h) [
        | inl before ↦ inl before
        | inr own ↦ inr (own.0, (own.1.0, omega (arith, own.1.1), own.1.2))
      ];
      served = is.served;
      rest = is.rest;
      touching = is.touching;
      work = omega (arith, is.work, next_time done lt, none);
      work_on = work_on_more (λ b. get_or times b 0) steps done lt (work_on ps j) (work_on ps j)
          is.work_on (omega (arith, none)) (λ b off. refl);
    }

    -- an operation
    partly_piece : (t : ℕ) (ps : List Piece) (now : ℕ) → get_or times a 0 ≡ suc t
        → IsPartly k order x done ps now
        → IsPartly k order x (done + 1) (ps ++ piece_of j (a + 1) now (now + suc t) ∷ [])
        (now + suc t)
    partly_piece t ps now is_time is =
        let q : Piece = piece_of j (a + 1) now (now + suc t) in
        let timed : a < length times = steps_timed k sized j job done 0 lt in
        record {
          room = omega (arith, is.room, next_time done lt, is_time);
          front = front_small (done + 1);
          released = omega (arith, is.released);
          each = All-push (IsSerialPiece k (now + suc t)) ps q
              (λ n d h. piece_later k now (now + suc t) (get_or ps n d) (omega arith) (is.each n d h))
              (record {
                job = job;
                machine = (omega arith, omega (arith, timed));
                low = omega (arith, ints);
                full = omega (arith, ints);
                released = is.released;
                ended = omega arith;
              });
          pairs = all_pairs_push (Precedes k order) ps q is.pairs (λ n d h. record {
            over = (is.each n d h).ended;
            follows = elim (is.jobs n d h) [
              | inl before ↦ inr (record {
                x = before.0;
                y = x;
                lt = before.1;
                within = within;
                first = before.2;
                second = refl;
              })
              | inr own ↦ inl (
                own.0,
                record {
                  x = own.1.0;
                  y = done;
                  lt = own.1.1;
                  within = lt;
                  first = own.1.2;
                  second = less_one a;
                },
              )
            ];
          });
          jobs = All-push (λ p. IsOfFirst order x p.job
              ⊎ ((p.job ≡ get_or order x 0) × IsOfFirst steps (done + 1) (p.machine - 1))) ps q
              (λ n d h. elim (is.jobs n d h) [
                | inl before ↦ inl before
                | inr own ↦ inr (own.0, (own.1.0, omega (arith, own.1.1), own.1.2))
              ])
              (inr (refl, (done, omega arith, less_one a)));
          served = λ y lt. served_same (problem_job k (get_or order y 0)).times ps (ps ++ q ∷ [])
              (get_or order y 0) (other ps j (a + 1) now t (get_or order y 0) (differ y lt))
              (is.served y lt);
          rest = λ h away. untouched_same ps (ps ++ q ∷ []) h
              (other ps j (a + 1) now t h (away x (omega arith))) (is.rest h away);
          touching = touching_more ps j (a + 1) now t (omega (arith, is.room, is.front)) is.touching;
          work = omega (arith, own_work ps j (a + 1) now t, is.work, next_time done lt, is_time);
          work_on = work_on_more (λ b. get_or times b 0) steps done lt (work_on ps j)
              (work_on (ps ++ q ∷ []) j) is.work_on
              (omega (arith, own_on ps j (a + 1) now t, is_time)) (own_off ps j (a + 1) now t);
        }
      where
        less_one : (n : ℕ) → n ≡ n + 1 - 1
        less_one n = omega arith

    partly_stretch : (t : ℕ) (ps : List Piece) (now : ℕ) → get_or times a 0 ≡ t
        → IsPartly k order x done ps now
        → IsPartly k order x (done + 1) (ps ++ stretch j (a + 1) now t) (now + t)
    partly_stretch zero ps now is_time is =
        let same : now + zero ≡ now = omega arith in
        subst (λ end. IsPartly k order x (done + 1) (ps ++ []) end) (sym same)
        (subst (λ qs. IsPartly k order x (done + 1) qs now) (sym (append-nil ps))
        (partly_idle ps now is_time is))
    partly_stretch (suc t) ps now is_time is = partly_piece t ps now is_time is

    pub partly_more : (t i own end : ℕ) (ps more : List Piece) (now : ℕ)
        → IsPartly k order x done ps now → t ≡ get_or times a 0 → own ≡ j → i ≡ a + 1
        → more ≡ ps ++ stretch own i now t → end ≡ now + t
        → IsPartly k order x (done + 1) more end
    partly_more t i own end ps more now is is_time owned on added at =
        let laid : ps ++ stretch j (a + 1) now t ≡ more =
        ap (λ h. ps ++ stretch h (a + 1) now t) (sym owned)
        ∙ ap (λ h. ps ++ stretch own h now t) (sym on) ∙ sym added in
        subst (λ e. IsPartly k order x (done + 1) more e) (sym at)
        (subst (λ qs. IsPartly k order x (done + 1) qs (now + t)) laid
        (partly_stretch t ps now (sym is_time) is))

  -- behind the last
  gapless : (ps : List Piece) (now : ℕ) → IsTouching ps j now
      → greatest_by stop_of ps j - least_by start_of ps j ≡ work ps j
  gapless ps now (inl (none, least, idle)) = omega (arith, none, least, idle)
  gapless ps now (inr (stop, least, whole)) = whole

  pub serial_more : (done : ℕ) (ps : List Piece) (now : ℕ) → IsPartly k order x done ps now
      → length steps ≤ done → IsSerial k order (x + 1) ps now
  serial_more done ps now is all =
      let taken : take done steps ≡ steps = take_all done steps all in
      let routed = steps_routed k sized j job in
      let whole : time_done k j (take done steps) ≡ sum times =
      ap (time_done k j) taken ∙ whole_time times steps routed in
      record {
        room = omega (arith, is.room, whole);
        each = is.each;
        pairs = is.pairs;
        jobs = λ n d h. elim (is.jobs n d h) [
          | inl before ↦ (before.0, omega (arith, before.1), before.2)
          | inr own ↦ (x, omega arith, sym own.0)
        ];
        served = λ y lt. elim (cases_eq y x) [
          | inl same ↦
              subst (λ z. IsServed (problem_job k (get_or order z 0)).times ps (get_or order z 0))
              (sym same)
              (record {
                gapless = gapless ps now is.touching;
                work = is.work ∙ whole;
                work_on = λ i. is.work_on i
                    ∙ ap (λ l. sum_by (share (λ b. get_or times b 0) i) l) taken
                    ∙ each_time times steps routed i;
              })
          | inr differ ↦ is.served y (omega arith)
        ];
        rest = is.rest;
      }

-- a job has few times
few : (b : Bool) (m : ℕ) (xs : List ℕ) → (b ≡ false → length xs ≡ 1) → (b ≡ true → length xs ≡ m)
    → 1 ≤ m → m ≤ most_machines → length xs ≤ most_machines
few false m xs one many some small = omega (arith, one refl)
few true m xs one many some small = omega (arith, many refl)

pub few_times : (k : ProblemData) (h : ℕ) → IsSized k → IsProblemJob k h
    → length (problem_job k h).times ≤ most_machines
few_times k h sized job =
    let is = sized.jobs (h - 1) no_problem_job (omega (arith, job.0, job.1)) in
    few (is_shop_env k.problem.env) k.machines (problem_job k h).times is.one_time is.shop_times
    sized.some_machine sized.few_machines
