-- Jobs that are chosen from the back: their timetable fits, and the set of the dearest step bounds
-- its cost.
use Rattle.std.proofs.Common.{◌≡◌, ◌≢◌, ℕ, zero, suc, ◌≤◌, ◌<◌, ℤ, ◌≤ℤ◌, Bool, true, false, not, ◌&&◌, ◌||◌, ◌==◌, cond, eqb, List, [], ◌∷◌, ◌++◌, length, get_or, slice_index, take, drop, reverse, refl, sym, ap, ◌∙◌, subst, arith, ◌⊎◌, inl, inr, sum_by, All, Contains, IsTrue, IsFalse}
use Rattle.std.specs.List.{AllPairs}
use Rattle.std.proofs.lemmas.Bool.{false≢true, and_from, eq-eqb, eqb-true, cases_Bool, not-false}
use Rattle.std.proofs.lemmas.Bool.Decides.{nat_tests}
use Rattle.std.proofs.lemmas.List.{get_or_default, length-take, get_or-take, map-append, reverse-append}
use Rattle.std.proofs.lemmas.List.Elements.{All-head, All-tail, All-cons, All-nil, All-take, All-contains}
use Rattle.std.proofs.lemmas.List.Sums.{sum_by-cons, sum_by_push, sum_by-take-drop, AllPass-from_list_all, fold-append}
use Rattle.tf_model.specs.ClassTable.{is_single, is_released, is_sum}
use Rattle.tf_model.specs.Cost.{cost, price}
use Rattle.tf_model.specs.Feasible.{Fits}
use Rattle.tf_model.specs.SchedulingTask.{SchedulingTask, IsJob, all_jobs, time_of}
use Rattle.tf_model.specs.Sound.{IsSound}
use Rattle.tf_model.specs.Timetable.{Timetable, completion}
use Rattle.tf_model.specs.Bounds.{stands_in}
use Rattle.tf_model.proofs.Classes.{single_is_no_shop}
use Rattle.tf_model.proofs.Costs.{greatest_price_reached, ≤ℤ_trans}
use Rattle.tf_model.proofs.Sums.{sum_by-same}
use Rattle.tf_model.proofs.Work.{IsDistinct}
use Rattle.tf_schedule.specs.declared.piece.Piece.{Piece}
use Rattle.tf_schedule.specs.declared.semi_active.Operation.{Operation}
use Rattle.tf_schedule.specs.Piece.{job_of}
use Rattle.tf_schedule.specs.Schedule.{IsSchedule}
use Rattle.tf_schedule.specs.Drawing.{drawing, greatest_stop}
use Rattle.tf_schedule.specs.SemiActive.{laid, with_operation, start_after, job_stop, IsOperation}
use Rattle.tf_schedule.specs.Sequence.{operation_of, in_sequence}
use Rattle.tf_schedule.proofs.Drawing.{completion-drawing}
use Rattle.tf_schedule.proofs.LaidFits.{IsListed, laid_sound, laid_none_twice, laid_on_machines, laid_fits_plain, one_machine_schedule}
use Rattle.tf_schedule.proofs.Laying.{Keeps, stop_fold, line_stop-other, line_stop-le-greatest}
use Rattle.tf_schedule.proofs.OneOperation.{job_stop_is}
use Rattle.tf_schedule.proofs.Parts.{AllPairs-append}
use Rattle.tf_schedule.proofs.Prices.{other_cost}
use Rattle.tf_schedule.proofs.Times.{sound_times}
use Rattle.tf_check.specs.Bound.{is_free}
use Rattle.tf_single.specs.Backward.{rest_of, step_price, AreChosen}
use Rattle.tf_single.proofs.Rest.{distinct_take, stands_from, stands_says, in_rest, sum_own, distinct_tail, distinct_head, rest_sum}

-- job x runs before job y, which is another one and precedes it by no arc
abbrev pub RunsBefore : SchedulingTask → ℕ → ℕ → ℕ → ℕ → Type 0
RunsBefore k x i y h = (x ≢ y) × (Contains k.arcs (y, x) → ⊥)

-- ---- operations from the back

-- the operations of jobs that were taken the last first
abbrev pub backward : SchedulingTask → List ℕ → List Operation
backward k [] = []
backward k (j ∷ taken) = backward k taken ++ operation_of k j ∷ []

-- they are those of the jobs in the order of time
pub backward_turned : (k : SchedulingTask) (order : List ℕ)
    → in_sequence k (reverse order) ≡ backward k order
backward_turned k [] = refl
backward_turned k (j ∷ order) =
    ap (in_sequence k) (reverse-append (j ∷ []) order)
    ∙ map-append (operation_of k) (reverse order) (j ∷ [])
    ∙ ap (λ os. os ++ operation_of k j ∷ []) (backward_turned k order)

sum_backward : (k : SchedulingTask) (f : Operation → ℕ) (order : List ℕ)
    → sum_by f (backward k order) ≡ sum_by (λ j. f (operation_of k j)) order
sum_backward k f [] = refl
sum_backward k f (j ∷ order) =
    omega (
      arith,
      sum_by_push f (backward k order) (operation_of k j),
      sum_backward k f order,
      sum_by-cons (λ i. f (operation_of k i)) j order,
    )

All-last : {X : Type 0} (P : X → Type 0) (xs : List X) (x : X) → All P xs → P x
    → All P (xs ++ x ∷ [])
All-last P [] x all here = All-cons P x [] here (All-nil P)
All-last P (y ∷ xs) x all here =
    All-cons P y (xs ++ x ∷ []) (All-head P y xs all) (All-last P xs x (All-tail P y xs all) here)

All-backward : (k : SchedulingTask) (P : Operation → Type 0) (order : List ℕ)
    → All (λ j. P (operation_of k j)) order → All P (backward k order)
All-backward k P [] all = All-nil P
All-backward k P (j ∷ order) all =
    All-last P (backward k order) (operation_of k j)
    (All-backward k P order (All-tail (λ i. P (operation_of k i)) j order all))
    (All-head (λ i. P (operation_of k i)) j order all)

-- pairs of the list, read from the back
keeps_backward : (k : SchedulingTask) (order : List ℕ)
    → AllPairs (λ y x. RunsBefore k x 1 y 1) order
    → AllPairs (Keeps (RunsBefore k)) (backward k order)
keeps_backward k [] pairs = λ a b d lt within. absurd (omega arith)
keeps_backward k (j ∷ order) pairs =
    AllPairs-append (Keeps (RunsBefore k)) (backward k order) (operation_of k j ∷ [])
    (keeps_backward k order
    (λ a b d lt within. pairs (suc a) (suc b) d (omega arith) (omega arith)))
    (λ a b d lt within. absurd (omega arith))
    (All-backward k (λ o. All (Keeps (RunsBefore k) o) (operation_of k j ∷ [])) order
    (λ a d h. All-cons (Keeps (RunsBefore k) (operation_of k (get_or order a d))) (operation_of k j)
    []
    (pairs zero (suc a) d (omega arith) (omega arith)) (All-nil _)))

-- ---- when the jobs stop

laid_more : (k : SchedulingTask) (j : ℕ) (order : List ℕ)
    → laid (backward k (j ∷ order)) ≡ with_operation (laid (backward k order)) (operation_of k j)
laid_more k j order = fold-append with_operation [] (backward k order) (operation_of k j ∷ [])

all_stop : (k : SchedulingTask) (order : List ℕ)
    → greatest_stop (laid (backward k order)) ≤ sum_by (time_of k) order
all_stop k order =
    omega (arith, stop_fold (backward k order) [], sum_backward k (λ o. o.time) order)

-- a job stops when the work of those up to it is done
stop_at : (k : SchedulingTask) (order : List ℕ) → AllPairs (λ y x. RunsBefore k x 1 y 1) order
    → (i d : ℕ) → i < length order
    → job_stop (laid (backward k order)) (get_or order i d) ≤ sum_by (time_of k) (drop i order)
stop_at k [] pairs i d lt = absurd (omega arith)
stop_at k (j ∷ order) pairs zero d lt =
    omega (
      arith,
      line_stop-le-greatest job_of (laid (backward k (j ∷ order))) j,
      all_stop k (j ∷ order),
    )
stop_at k (j ∷ order) pairs (suc i) d lt =
    let x : ℕ = get_or order i d in
    let ps : List Piece = laid (backward k order) in
    let differ : x ≢ j = (pairs zero (suc i) d (omega arith) lt).0 in
    let same : job_stop (with_operation ps (operation_of k j)) x ≡ job_stop ps x =
    line_stop-other job_of ps j 1 (start_after ps (operation_of k j)) (time_of k j) x
    (λ e. differ (sym e)) in
    let rest = stop_at k order
    (λ a b e less within. pairs (suc a) (suc b) e (omega arith) (omega arith)) i d
    (omega arith) in
    omega (arith, ap (λ qs. job_stop qs x) (laid_more k j order), same, rest)

-- ---- orders that are chosen

module _ (k : SchedulingTask) (order : List ℕ) (chosen : AreChosen k order) where
  read_same : (xs : List ℕ) (i a b : ℕ) → i < length xs → get_or xs i a ≡ get_or xs i b
  read_same xs i a b lt = get_or_default xs i a b lt

  -- the later job is not among those taken before the earlier one
  not_yet : (xs : List ℕ) → IsDistinct xs → (a b d : ℕ) → a ≤ b → b < length xs
      → stands_in (take a xs) (get_or xs b d) ≡ false
  not_yet [] distinct a b d le lt = absurd (omega arith)
  not_yet (x ∷ xs) distinct zero b d le lt = refl
  not_yet (x ∷ xs) distinct (suc a) zero d le lt = absurd (omega arith)
  not_yet (x ∷ xs) distinct (suc a) (suc b) d le lt =
      by_test (cases_Bool (x == get_or xs b d))
      (not_yet xs (distinct_tail x xs distinct) a b d (omega arith) (omega arith))
    where
      by_test : ((x == get_or xs b d) ≡ true) ⊎ ((x == get_or xs b d) ≡ false)
          → stands_in (take a xs) (get_or xs b d) ≡ false
          → stands_in (x ∷ take a xs) (get_or xs b d) ≡ false
      by_test (inr e) rest = ap (λ t. t || stands_in (take a xs) (get_or xs b d)) e ∙ rest
      by_test (inl e) rest =
          let at : stands_in xs x ≡ true =
          stands_from xs x (
            b,
            omega (arith, lt),
            read_same xs b x d (omega (arith, lt))
                ∙ sym (eqb-true x (get_or xs b d) e),
          ) in
          absurd (false≢true (sym (distinct_head x xs distinct) ∙ at))

  -- no arc leads from a free job to one of those that are left
  no_arc : (jobs : List ℕ) (y x : ℕ) → is_free k jobs y ≡ true → stands_in jobs x ≡ true
      → Contains k.arcs (y, x) → ⊥
  no_arc jobs y x free here at =
      let both : ℕ × ℕ → Bool = λ arc. (arc.0 == y) && stands_in jobs arc.1 in
      let passes : not (both (y, x)) ≡ true =
      All-contains (λ arc. not (both arc) ≡ true) k.arcs (y, x)
      (AllPass-from_list_all (λ arc. not (both arc)) k.arcs free) at in
      let held : both (y, x) ≡ true = and_from (y == y) (stands_in jobs x) (eq-eqb y y refl) here in
      false≢true (ap not (sym held) ∙ passes)

  pub chosen_pairs : AllPairs (λ y x. RunsBefore k x 1 y 1) order
  chosen_pairs a b d lt within =
      let y : ℕ = get_or order a d in
      let x : ℕ = get_or order b d in
      let choice = chosen.choice a (omega arith) in
      let same : slice_index order a ≡ y = read_same order a 0 d (omega arith) in
      let job : IsJob k x = chosen.jobs b d within in
      let left : stands_in (rest_of k (take a order)) x ≡ true = in_rest k (take a order) x job
      ∙ ap not (not_yet order chosen.distinct a b d (omega arith) within) in (
        λ e. false≢true
            (sym (not_yet order chosen.distinct b b d (omega arith) within)
            ∙ stands_from (take b order) x (
              a,
              omega (arith, length-take b order),
              get_or-take b order a x lt
                  ∙ read_same order a x d (omega arith) ∙ sym e,
            )),
        no_arc (rest_of k (take a order)) y x
            (subst (λ z. is_free k (rest_of k (take a order)) z ≡ true) same choice.free) left,
      )

  module _ (sound : IsSound k) (single : IsTrue (is_single k.class))
      (unreleased : IsFalse (is_released k.class)) (all : rest_of k order ≡ []) where
    one_machine : k.machines ≡ 1
    one_machine = sound.single single

    pub order_sum : (f : ℕ → ℕ) → sum_by f order ≡ sum_by f (all_jobs k)
    order_sum f = omega (arith, rest_sum k f order chosen.jobs chosen.distinct, ap (sum_by f) all)

    -- each job was taken
    pub taken_at : (j : ℕ) → IsJob k j → (i : ℕ) × (i < length order) × (get_or order i 0 ≡ j)
    taken_at j job =
        let none : not (stands_in order j) ≡ false = sym (in_rest k order j job)
        ∙ ap (λ xs. stands_in xs j) all in
        let at = stands_says order j (not-false (stands_in order j) none) in
        (at.0, at.1, read_same order at.0 0 j at.1 ∙ at.2)

    pub listed : IsListed (RunsBefore k) k (backward k order)
    listed = record {
      never = λ j i before. before.0 refl;
      known = All-backward k (IsOperation (length k.jobs) k.machines) order
          (λ a d h.
          record { job = chosen.jobs a d h; machine = (omega arith, omega (arith, one_machine)) });
      keeps = keeps_backward k order chosen_pairs;
      total = omega (arith, sum_backward k (λ o. o.time) order, order_sum (time_of k), sound.total);
    }

    abbrev rows : Timetable
    rows = drawing k.machines (laid (backward k order))

    own_time : (j : ℕ) → IsJob k j
        → sum_by (λ o. cond (eqb o.job j) o.time 0) (backward k order) ≡ time_of k j
    own_time j job =
        sum_backward k (λ o. cond (eqb o.job j) o.time 0) order
        ∙ order_sum (λ i. cond (eqb i j) (time_of k i) 0)
        ∙ turned (all_jobs k)
        ∙ sum_own k (time_of k) j job
      where
        flip : (i : ℕ) → cond (eqb i j) (time_of k i) 0 ≡ cond (eqb j i) (time_of k i) 0
        flip i = ap (λ b. cond b (time_of k i) 0) (grind (arith, nat_tests))

        turned : (xs : List ℕ)
            → sum_by (λ i. cond (eqb i j) (time_of k i) 0) xs
            ≡ sum_by (λ i. cond (eqb j i) (time_of k i) 0) xs
        turned xs = sum_by-same (λ i. cond (eqb i j) (time_of k i) 0)
            (λ i. cond (eqb j i) (time_of k i) 0) xs flip

    -- no arc leads from a job to itself, since each job was free once
    arcs_kept : All (λ arc. (arc.0 ≢ arc.1) × ((a b : ℕ) → ¬ (RunsBefore k arc.1 a arc.0 b))) k.arcs
    arcs_kept i d h =
        let arc : ℕ × ℕ = get_or k.arcs i d in
        let at = taken_at arc.0 (sound.arcs_in i d h).0 in
        let choice = chosen.choice at.0 at.1 in
        let here : Contains k.arcs (arc.0, arc.1) =
        (i, h, get_or_default k.arcs i (arc.0, arc.1) d h) in
        let jobs : List ℕ = rest_of k (take at.0 order) in (
          λ same. no_arc jobs arc.0 arc.0 (subst (λ z. is_free k jobs z ≡ true) at.2 choice.free)
              (stands_from jobs arc.0 (subst (Contains jobs) at.2 choice.here))
              (subst (λ z. Contains k.arcs (arc.0, z)) (sym same) here),
          λ a b before. before.1 here,
        )

    pub chosen_fits : Fits k rows
    chosen_fits =
        laid_fits_plain (RunsBefore k) k (backward k order) sound listed
        (single_is_no_shop k.class single) unreleased own_time
        (λ j a b before. before.0 refl) (λ _. one_machine) arcs_kept

    -- the pieces come in order of time
    pub chosen_schedule : IsSchedule (laid (backward k order))
    chosen_schedule =
        one_machine_schedule (RunsBefore k) k (backward k order) sound listed one_machine

    -- the work of those that are left at a place is that of the jobs from the place on
    pub work_left : (i : ℕ)
        → sum_by (time_of k) (rest_of k (take i order)) ≡ sum_by (time_of k) (drop i order)
    work_left i =
        omega (
          arith,
          rest_sum k (time_of k) (take i order) (All-take (IsJob k) i order chosen.jobs)
              (distinct_take i order chosen.distinct),
          sum_by-take-drop (time_of k) order i,
          order_sum (time_of k),
        )

    -- what no step costs more than, the timetable does not either
    pub chosen_cost : (v : ℤ) → IsFalse (is_sum k.class)
        → ((i : ℕ) → i < length order → step_price k order i ≤ℤ v)
        → cost k rows ≤ℤ v
    chosen_cost v no_sum below =
        let S = RunsBefore k in
        let ps : List Piece = laid (backward k order) in
        let reached = greatest_price_reached k rows sound.some_job in
        let j : ℕ = reached.0 in
        let at = taken_at j reached.1 in
        let i : ℕ = at.0 in
        let done : completion rows j ≤ sum_by (time_of k) (drop i order) =
        omega (
          arith,
          completion-drawing k.machines ps j (laid_none_twice S k (backward k order) sound listed)
              (laid_on_machines S k (backward k order) sound listed)
              (λ a d h. sound_times (get_or ps a d)
              (laid_sound S k (backward k order) sound listed a d h)) reached.1.0,
          job_stop_is ps j,
          ap (job_stop ps) at.2,
          stop_at k order chosen_pairs i 0 at.1,
        ) in
        let priced : price k j (completion rows j)
        ≤ℤ price k j (sum_by (time_of k) (drop i order)) = sound.rising j _ _ reached.1 done in
        let own : price k j (sum_by (time_of k) (drop i order)) ≤ℤ v =
        subst (λ z. price k z (sum_by (time_of k) (drop i order)) ≤ℤ v) at.2
        (subst (λ c. price k (slice_index order i) c ≤ℤ v) (work_left i) (below i at.1)) in
        subst (λ z. z ≤ℤ v) (sym (other_cost k rows no_sum ∙ reached.2)) (≤ℤ_trans priced own)
