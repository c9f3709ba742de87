-- What one run, one release and the end change of what is still to come.
use Rattle.std.proofs.Common.{◌≡◌, ℕ, zero, suc, ◌+◌, ◌-◌, ◌≤◌, ◌<◌, max, ◌⊎◌, inl, inr, List, [], ◌∷◌, map, set, Bool, true, false, ◌==◌, cond, nat_lt, length, get_or, refl, sym, ap, ◌∙◌, subst, arith, sum_by, All, ℤ, pos, ◌≤ℤ◌, Option, Some, None}
use Rattle.std.specs.List.{sum, range_with_len}
use Rattle.std.specs.List.Sorted.{IsPermutation}
use Rattle.std.specs.BinaryHeap.{IsHeap, IsUpperBound, PopsGreatest}
use Rattle.std.specs.Option.{IfSome, IfNone}
use Rattle.std.specs.Ordering.{nat_cmp, int_cmp, ordering_then, is_lt}
use Rattle.std.proofs.lemmas.Int.{ints}
use Rattle.std.proofs.lemmas.Bool.{cases_lt, cases_eq, eq-eqb, ne_eqb, eqb-true, ltb-true, lt-ltb}
use Rattle.std.proofs.lemmas.Bool.Decides.{nat_tests}
use Rattle.std.proofs.lemmas.List.{length-set, length-map, get_or-set_same, get_or-set_other, get_or_default, length_push}
use Rattle.std.proofs.lemmas.List.Sums.{sum_by-cons, sum_by-set, sum-map, get_or-le-sum_by}
use Rattle.std.proofs.lemmas.List.Sorted.{All-permutation, sum_by_pushed, sum_by_popped, sum_by-IsPermutation}
use Rattle.std.proofs.lemmas.List.Elements.{All-head, All-tail, All-cons, All-weaker, All-nil, All-get_or, All-from_recursion}
use Rattle.tf_schedule.specs.declared.piece.Piece.{Piece}
use Rattle.tf_schedule.proofs.Busy.{some_counted}
use Rattle.tf_schedule.proofs.Counting.{sum_single_in}
use Rattle.tf_model.specs.Limit.{limit}
use Rattle.tf_model.specs.ClassTable.{is_shop}
use Rattle.tf_model.specs.SchedulingTask.{SchedulingTask, IsJob, all_jobs, job_data, time_of}
use Rattle.tf_model.specs.Sound.{IsSound}
use Rattle.tf_model.specs.declared.class.Class.TheVariants.{ReleaseLmax}
use Rattle.tf_model.proofs.Costs.{All-all_jobs}
use Rattle.tf_single.specs.declared.timeline.Urgency.{Urgency}
use Rattle.tf_single.specs.Progress.{run_of, of_job, IsAhead, IsProgress}
use Rattle.tf_single.specs.Agenda.{AreByRelease, IsUrgency, places_of, entries_of, urgency_cmp, IsUnderway, IsLonger, Pushed, Joined, unfinished}
use Rattle.tf_single.proofs.Progress.{no_progress, progress_idle, progress_run, extends_longer}

abbrev as_one : Bool → ℕ
as_one b = cond b 1 0

-- ---- counts

one_if : (b : Bool) → 1 ≤ as_one b → b ≡ true
one_if true h = refl
one_if false h = absurd (omega arith)

some_left : (n : ℕ) → 1 ≤ as_one (nat_lt 0 n) → 0 < n
some_left n h = ltb-true 0 n (one_if (nat_lt 0 n) h)

left_one : (n : ℕ) → 0 < n → as_one (nat_lt 0 n) ≡ 1
left_one n h = ap as_one (lt-ltb 0 n h)

left_none : (n : ℕ) → n ≡ 0 → as_one (nat_lt 0 n) ≡ 0
left_none n h = ap (λ x. as_one (nat_lt 0 x)) h

none_left : (n : ℕ) → 0 ≡ as_one (nat_lt 0 n) → n ≡ 0
none_left n h = elim (cases_lt 0 n) [
  | inl some ↦ absurd (omega (arith, left_one n some))
  | inr le ↦ omega arith
]

-- a job that is counted among those to come has what they all have
counted_job : (P : ℕ → Type 0) (jobs : List ℕ) (j : ℕ) → All P jobs → 0 < places_of jobs j → P j
counted_job P jobs j all some =
    let found = some_counted (λ i. j == i) jobs some in
    let same : j ≡ found.1 = eqb-true j found.1 found.4 in
    subst P (sym same) (subst P found.3 (All-get_or P jobs found.0 found.1 found.2 all))

-- and an entry of a job that is counted
counted_entry : (P : Urgency → Type 0) (ready : List Urgency) (j : ℕ) → All P ready
    → 0 < entries_of ready j → (u : Urgency) × P u × (u.job.0 ≡ j)
counted_entry P ready j all some =
    let found = some_counted (λ (u : Urgency). j == u.job.0) ready some in (
      found.1,
      subst P found.3 (All-get_or P ready found.0 found.1 found.2 all),
      sym (eqb-true j found.1.job.0 found.4),
    )

-- ---- the most urgent

due_le : (a b : ℤ) (m n : ℕ) → is_lt (ordering_then (int_cmp b a) (nat_cmp n m)) ≡ false → a ≤ℤ b
due_le a b m n h = grind (arith, nat_tests, ints)

number_le : (a b : ℤ) (m n : ℕ) → is_lt (ordering_then (int_cmp b a) (nat_cmp n m)) ≡ false → a ≡ b
    → m ≤ n
number_le a b m n h same = grind (arith, nat_tests, ints)

-- x is the first entry of the heap
pub record IsTop (ready : List Urgency) (x : Urgency) : Type 0 where
  pub some : 0 < length ready
  pub at : x ≡ get_or ready 0 x
  pub greatest : IsUpperBound urgency_cmp x ready

module _ (k : SchedulingTask) (coming : List ℕ) (ready : List Urgency) (rest : List ℕ)
    (ps : List Piece) (now : ℕ) (w : IsUnderway k coming ready rest ps now) where
  -- what is left of a job is no more than all that is left
  pub job-le-left : (j : ℕ) → IsJob k j → of_job rest j ≤ sum rest
  job-le-left j job = get_or-le-sum_by (λ x. x) rest (j - 1) 0 (omega (arith, w.len, job.0, job.1))

  module _ (x : Urgency) (top : IsTop ready x) where
    top_known : IsUrgency k x
    top_known = subst (IsUrgency k) (sym top.at)
        (All-get_or (IsUrgency k) ready 0 x top.some w.agenda.known)

    pub top_job : IsJob k x.job.0
    top_job = top_known.job

    top_released : (job_data k x.job.0).release ≤ now
    top_released =
        subst (λ u. (job_data k u.job.0).release ≤ now) (sym top.at)
        (All-get_or (λ u. (job_data k u.job.0).release ≤ now) ready 0 x top.some w.agenda.released)

    top_counted : 1 ≤ entries_of ready x.job.0
    top_counted =
        let one : as_one (x.job.0 == (get_or ready 0 x).job.0) ≡ 1 =
        ap as_one (eq-eqb x.job.0 (get_or ready 0 x).job.0 (ap (λ u. u.job.0) top.at)) in
        omega (arith, one, get_or-le-sum_by (λ u. as_one (x.job.0 == u.job.0)) ready 0 x top.some)

    pub top_left : 0 < of_job rest x.job.0
    top_left = some_left (of_job rest x.job.0)
        (omega (arith, top_counted, w.agenda.each x.job.0 top_job))

    -- of the jobs of which some is left and that are released before the next one comes it is the most urgent
    top_urgent : (b j : ℕ) → All (λ i. b ≤ (job_data k i).release) coming → IsJob k j
        → 0 < of_job rest j → (job_data k j).release < b
        → IsAhead k x.job.0 j
    top_urgent b j late job some early =
        let counts : places_of coming j + entries_of ready j ≡ 1 = w.agenda.each j job
        ∙ left_one (of_job rest j) some in
        elim (cases_lt 0 (places_of coming j)) [
          | inl comes ↦
              absurd (omega
              (arith, counted_job (λ i. b ≤ (job_data k i).release) coming j late comes))
          | inr none ↦
              let above : All (λ y. is_lt (urgency_cmp x y) ≡ false) ready =
              All-from_recursion (λ y. is_lt (urgency_cmp x y) ≡ false) ready top.greatest in
              let e = counted_entry (λ y. IsUrgency k y × (is_lt (urgency_cmp x y) ≡ false)) ready j
              (λ i d h. (w.agenda.known i d h, above i d h)) (omega arith) in
              let le : x.due.0 ≤ℤ e.0.due.0 = due_le x.due.0 e.0.due.0 x.job.0 e.0.job.0 (e.1).1 in
              let its : e.0.due.0 ≡ (job_data k j).due = (e.1).0.due
              ∙ ap (λ i. (job_data k i).due) e.2 in
              record {
                busy = top_job.0;
                urgent = subst (λ z. z ≤ℤ (job_data k j).due) top_known.due
                    (subst (λ z. x.due.0 ≤ℤ z) its le);
                tie = λ same. subst (λ i. x.job.0 ≤ i) e.2
                    (number_le x.due.0 e.0.due.0 x.job.0 e.0.job.0 (e.1).1
                    (top_known.due ∙ same ∙ sym its));
              }
        ]

    -- how much there is before the limit
    pub top_within : now + of_job rest x.job.0 ≤ limit
    top_within = omega (arith, w.within, job-le-left x.job.0 top_job)

    -- the job runs up to b, and v of it is left
    module _ (b v : ℕ) (late : All (λ i. b ≤ (job_data k i).release) coming) (lt : now < b)
        (is : v + (b - now) ≡ of_job rest x.job.0) (qs : List Piece)
        (longer : IsLonger ps qs x.job.0 now b) where
      abbrev next : List ℕ
      next = set rest (x.job.0 - 1) v

      own_next : of_job next x.job.0 ≡ v
      own_next = get_or-set_same rest (x.job.0 - 1) v 0 (omega (arith, w.len, top_job.0, top_job.1))

      other_next : (j : ℕ) → IsJob k j → (j ≡ x.job.0 → ⊥) → of_job next j ≡ of_job rest j
      other_next j job differ =
          get_or-set_other rest (x.job.0 - 1) (j - 1) v 0
          (λ same. differ (omega (arith, job.0, top_job.0)))

      sum_next : sum next + of_job rest x.job.0 ≡ sum rest + v
      sum_next = sum_by-set (λ n. n) rest (x.job.0 - 1) v 0
          (omega (arith, w.len, top_job.0, top_job.1))

      run_progress : IsProgress k qs (of_job next) b
      run_progress =
          progress_run k ps qs (of_job rest) (of_job next) x.job.0 now b w.progress
          (extends_longer k ps qs x.job.0 now b longer w.progress.runs w.progress.schedule top_job
          top_released lt (omega (arith, is, top_within)))
          top_job top_left (omega (arith, own_next, is)) other_next
          (λ j job some early. top_urgent b j late job some early)

      underway_with : (more : List Urgency) → All (IsUrgency k) more
          → All (λ u. (job_data k u.job.0).release ≤ now) more → IsHeap urgency_cmp more
          → ((j : ℕ) → IsJob k j
          → places_of coming j + entries_of more j ≡ as_one (nat_lt 0 (of_job next j)))
          → IsUnderway k coming more next qs b
      underway_with more known released heap each = record {
        len = length-set rest (x.job.0 - 1) v ∙ w.len;
        progress = run_progress;
        agenda = record {
          arriving = w.agenda.arriving;
          in_order = w.agenda.in_order;
          later = late;
          known = known;
          released = All-weaker (λ u. (job_data k u.job.0).release ≤ now)
              (λ u. (job_data k u.job.0).release ≤ b) (λ u h. omega arith) more released;
          heap = heap;
          each = each;
        };
        left = omega (arith, w.left, sum_next, is);
        within = omega (arith, w.within, sum_next, is);
      }

      -- some of it is left
      pub underway_goes_on : 0 < v → IsUnderway k coming ready next qs b
      underway_goes_on some =
          underway_with ready w.agenda.known w.agenda.released w.agenda.heap (λ j job.
          w.agenda.each j job ∙ elim (cases_eq j x.job.0) [
            | inl same ↦ left_one (of_job rest j) (omega (arith, top_left, ap (of_job rest) same))
                ∙ sym (left_one (of_job next j) (omega (arith, own_next, ap (of_job next) same)))
            | inr differ ↦ ap (λ n. as_one (nat_lt 0 n)) (sym (other_next j job differ))
          ])

      -- it is over
      pub underway_over : v ≡ 0 → (more : List Urgency) → IsPermutation ready (x ∷ more)
          → IsHeap urgency_cmp more → IsUnderway k coming more next qs b
      underway_over none more moved heap = underway_with more
          (All-tail (IsUrgency k) x more
          (All-permutation (IsUrgency k) ready (x ∷ more) moved w.agenda.known))
          (All-tail (λ u. (job_data k u.job.0).release ≤ now) x more
          (All-permutation (λ u. (job_data k u.job.0).release ≤ now) ready (x ∷ more) moved
          w.agenda.released))
          heap
          (λ j job.
          let popped : entries_of more j + as_one (j == x.job.0) ≡ entries_of ready j =
          sum_by_popped (λ u. as_one (j == u.job.0)) x ready more moved in
          elim (cases_eq j x.job.0) [
            | inl same ↦
                let one : as_one (j == x.job.0) ≡ 1 = ap as_one (eq-eqb j x.job.0 same) in
                let was : as_one (nat_lt 0 (of_job rest j)) ≡ 1 =
                left_one (of_job rest j) (omega (arith, top_left, ap (of_job rest) same)) in
                omega (
                  arith,
                  w.agenda.each j job,
                  left_none (of_job next j) (ap (of_job next) same ∙ own_next ∙ none),
                )
            | inr differ ↦
                let no : as_one (j == x.job.0) ≡ 0 = ap as_one (ne_eqb j x.job.0 differ) in
                omega (
                  arith,
                  w.agenda.each j job,
                  ap (λ n. as_one (nat_lt 0 n)) (other_next j job differ),
                )
          ])

      -- a run makes a piece at most, and one that is over ends a job
      unfinished_next : unfinished next + 1 ≡ unfinished rest + as_one (nat_lt 0 v)
      unfinished_next =
          omega (
            arith,
            left_one (of_job rest x.job.0) top_left,
            sum_by-set (λ n. as_one (nat_lt 0 n)) rest (x.job.0 - 1) v 0
                (omega (arith, w.len, top_job.0, top_job.1)),
          )

      longer_by_one : IsLonger ps qs x.job.0 now b → length qs ≤ length ps + 1
      longer_by_one (Pushed begins is) = omega (arith, ap length is, length_push ps (run_of x.job.0 now b))
      longer_by_one (Joined hs p before own stops is) =
          omega (
            arith,
            ap length is,
            ap length before,
            length_push hs p,
            length_push hs
                (record { job = p.job; machine = p.machine; start = p.start; stop = pos b }),
          )

      pub few_over : v ≡ 0 → length qs + unfinished next ≤ length ps + unfinished rest
      few_over none = omega (arith, longer_by_one longer, unfinished_next, left_none v none)

      pub few_goes_on : 0 < v → length qs + unfinished next ≤ length ps + unfinished rest + 1
      few_goes_on some = omega (arith, longer_by_one longer, unfinished_next, left_one v some)

-- ---- a job is released

-- what waits until a job comes, and a job that comes
release_first : (k : SchedulingTask) (j : ℕ) (later : List ℕ) → AreByRelease k (j ∷ later)
    → All (λ i. (job_data k j).release ≤ (job_data k i).release) later
release_first k j later in_order i d h = in_order 0 (suc i) d (omega arith) (omega arith)

tail_in_order : (k : SchedulingTask) (j : ℕ) (later : List ℕ) → AreByRelease k (j ∷ later)
    → AreByRelease k later
tail_in_order k j later in_order a b d le h = in_order (suc a) (suc b) d (omega arith) (omega arith)

module _ (k : SchedulingTask) (j : ℕ) (later : List ℕ) (ready : List Urgency) (rest : List ℕ)
    (ps : List Piece) (now : ℕ) (sound : IsSound k) (w : IsUnderway k (j ∷ later) ready rest ps now)
  where
    pub comes_job : IsJob k j
    comes_job = All-head (IsJob k) j later w.agenda.arriving

    comes_later : now ≤ (job_data k j).release
    comes_later = All-head (λ i. now ≤ (job_data k i).release) j later w.agenda.later

    -- the machine idles until then, unless it is time
    idle_progress : (ready ≡ []) ⊎ ((job_data k j).release ≤ now)
        → IsProgress k ps (of_job rest) (job_data k j).release
    idle_progress (inl empty) =
        progress_idle k ps (of_job rest) now (job_data k j).release w.progress comes_later
        (λ i job some.
        let counts : places_of (j ∷ later) i + entries_of ready i ≡ 1 = w.agenda.each i job
        ∙ left_one (of_job rest i) some in
        let none : entries_of ready i ≡ 0 = ap (λ us. entries_of us i) empty in
        counted_job (λ h. (job_data k j).release ≤ (job_data k h).release) (j ∷ later) i
        (All-cons (λ h. (job_data k j).release ≤ (job_data k h).release) j later (omega arith)
        (release_first k j later w.agenda.in_order)) (omega arith))
    idle_progress (inr time) =
        subst (IsProgress k ps (of_job rest))
        (let same : now ≡ (job_data k j).release = omega (arith, comes_later) in same) w.progress

    pub underway_comes : (ready ≡ []) ⊎ ((job_data k j).release ≤ now) → (u : Urgency) → u.job.0 ≡ j
        → u.due.0 ≡ (job_data k j).due
        → (more : List Urgency) → IsPermutation (u ∷ ready) more → IsHeap urgency_cmp more
        → IsUnderway k later more rest ps (max now (job_data k j).release)
    underway_comes idle u own due more moved heap =
        let time : (job_data k j).release ≡ max now (job_data k j).release =
        omega (arith, comes_later) in
        subst (IsUnderway k later more rest ps) time (record {
          len = w.len;
          progress = idle_progress idle;
          agenda = record {
            arriving = All-tail (IsJob k) j later w.agenda.arriving;
            in_order = tail_in_order k j later w.agenda.in_order;
            later = release_first k j later w.agenda.in_order;
            known = All-permutation (IsUrgency k) (u ∷ ready) more moved
                (All-cons (IsUrgency k) u ready
                (record {
                  job = subst (IsJob k) (sym own) comes_job;
                  due = due
                      ∙ ap (λ i. (job_data k i).due) (sym own);
                }) w.agenda.known);
            released = All-permutation (λ v. (job_data k v.job.0).release ≤ (job_data k j).release)
                (u ∷ ready) more moved
                (All-cons (λ v. (job_data k v.job.0).release ≤ (job_data k j).release) u ready
                (omega (arith, ap (λ i. (job_data k i).release) own))
                (All-weaker (λ v. (job_data k v.job.0).release ≤ now)
                (λ v. (job_data k v.job.0).release ≤ (job_data k j).release)
                (λ v h. omega (arith, comes_later)) ready w.agenda.released));
            heap = heap;
            each = λ i job. omega (
              arith,
              w.agenda.each i job,
              sum_by_pushed (λ v. as_one (i == v.job.0)) u ready more moved,
              ap (λ h. as_one (i == h)) own,
              sum_by-cons (λ h. as_one (i == h)) j later,
            );
          };
          left = w.left;
          within = omega (arith, w.left, sound.horizon j comes_job);
        })

-- ---- the start and the end

of_all_jobs : (k : SchedulingTask) (f : ℕ → ℕ) (j : ℕ) → IsJob k j
    → get_or (map f (all_jobs k)) (j - 1) 0 ≡ f j
of_all_jobs k f j job = get_or_map_range f 1 (length k.jobs) (j - 1) j (omega arith) (omega arith)
  where
    get_or_map_range : (f : ℕ → ℕ) (a n i x : ℕ) → i < n → x ≡ a + i
        → get_or (map f (range_with_len a n)) i 0 ≡ f x
    get_or_map_range f a zero i x lt is = absurd (omega arith)
    get_or_map_range f a (suc n) zero x lt is = ap f (omega arith)
    get_or_map_range f a (suc n) (suc i) x lt is =
        get_or_map_range f (a + 1) n i x (omega arith) (omega arith)

length_range : (a n : ℕ) → length (range_with_len a n) ≡ n
length_range a zero = refl
length_range a (suc n) = omega (arith, length_range (a + 1) n)

pub length_all_jobs : (k : SchedulingTask) → length (all_jobs k) ≡ length k.jobs
length_all_jobs k = length_range 1 (length k.jobs)

pub underway_start : (k : SchedulingTask) → IsSound k → k.class ≡ ReleaseLmax → (order : List ℕ)
    → IsPermutation (all_jobs k) order → AreByRelease k order
    → (rest : List ℕ) → rest ≡ map (time_of k) (all_jobs k) → (ready : List Urgency) → ready ≡ []
    → IsHeap urgency_cmp ready → (ps : List Piece) → ps ≡ []
    → IsUnderway k order ready rest ps 0
underway_start k sound class order moved in_order rest is ready empty heap ps blank =
    let no_shop : is_shop k.class ≡ false = ap is_shop class in
    let whole : (j : ℕ) → IsJob k j → of_job rest j ≡ time_of k j =
    λ j job. ap (λ xs. get_or xs (j - 1) 0) is ∙ of_all_jobs k (time_of k) j job in
    let total : sum rest ≡ sum_by (time_of k) (all_jobs k) = ap sum is
    ∙ sum-map (time_of k) (all_jobs k) in
    record {
      len = ap length is ∙ length-map (all_jobs k) (time_of k) ∙ length_all_jobs k;
      progress = subst (λ qs. IsProgress k qs (of_job rest) 0) (sym blank)
          (no_progress k (of_job rest) whole);
      agenda = record {
        arriving = All-permutation (IsJob k) (all_jobs k) order moved
            (All-all_jobs k (IsJob k) (λ j h. h));
        in_order = in_order;
        later = λ i d h. omega arith;
        known = subst (All (IsUrgency k)) (sym empty) (All-nil (IsUrgency k));
        released = subst (All (λ u. (job_data k u.job.0).release ≤ 0)) (sym empty)
            (All-nil (λ u. (job_data k u.job.0).release ≤ 0));
        heap = heap;
        each = λ j job.
            let one : places_of order j ≡ 1 =
            sum_by-IsPermutation (λ i. as_one (j == i)) (all_jobs k) order moved
            ∙ sum_single_in j 1 (length k.jobs) job.0 job.1 in
            let none : entries_of ready j ≡ 0 = ap (λ us. entries_of us j) empty in
            omega (
              arith,
              left_one (of_job rest j) (omega (arith, whole j job, sound.worked no_shop j job)),
            );
      };
      left = omega (arith, total);
      within = omega (arith, total, sound.total);
    }

-- where nothing comes and nothing is ready, nothing is left
pub progress_at_end : (k : SchedulingTask) (coming : List ℕ) (ready : List Urgency) (rest : List ℕ)
    (ps : List Piece) (now : ℕ)
    → IsUnderway k coming ready rest ps now → coming ≡ [] → ready ≡ []
    → IsProgress k ps (λ _. 0) now
progress_at_end k coming ready rest ps now w over empty =
    let none : (j : ℕ) → IsJob k j → of_job rest j ≡ 0 = λ j job.
    none_left (of_job rest j)
    (sym (ap (λ is. places_of is j) over) ∙ omega (arith, ap (λ us. entries_of us j) empty)
    ∙ w.agenda.each j job) in
    let p = w.progress in
    record {
      runs = p.runs;
      schedule = p.schedule;
      amount = λ j job. omega (arith, p.amount j job, none j job);
      whole = p.whole;
      worked = p.worked;
      waiting = λ j u job before from some. absurd (omega arith);
    }

-- what is not after the release of the first to come is not after that of any
pub late_until : (k : SchedulingTask) (coming : List ℕ) (until b : ℕ) → AreByRelease k coming
    → b ≤ until → (0 < length coming → (d : ℕ) → until ≤ (job_data k (get_or coming 0 d)).release)
    → All (λ i. b ≤ (job_data k i).release) coming
late_until k coming until b in_order le first i d h =
    omega (arith, first (omega arith) d, in_order 0 i d (omega arith) h)

-- the first entry of a heap, as `pop` takes it out
pub popped_top : (ready more : List Urgency) (x : Urgency) (r : Option Urgency) (n : ℕ)
    → IsTop ready x → n ≡ length ready → IsHeap urgency_cmp ready
    → IfSome r (λ y. y ≡ get_or ready 0 y) → IfSome r (λ y. IsPermutation ready (y ∷ more))
    → IfSome r (λ y. PopsGreatest urgency_cmp ready y more) → IfNone r (n ≡ 0)
    → IsPermutation ready (x ∷ more) × IsHeap urgency_cmp more
popped_top ready more x None n top len heap at moved pops none = absurd (omega (arith, top.some))
popped_top ready more x (Some y) n top len heap at moved pops none =
    let same : y ≡ x = at ∙ get_or_default ready 0 y x top.some ∙ sym top.at in
    (subst (λ z. IsPermutation ready (z ∷ more)) same moved, (pops heap).0)
