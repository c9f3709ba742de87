-- What taking a job does to the counts of arcs that are left and to the free jobs.
use Rattle.std.proofs.Common.{◌≡◌, ◌≢◌, ℕ, ◌+◌, ◌-◌, ◌≤◌, ◌<◌, ◌≤ℤ◌, Bool, true, false, not, ◌&&◌, ◌||◌, ◌==◌, cond, eqb, List, [], ◌∷◌, ◌++◌, length, slice_index, set, take, filter, refl, sym, ap, ◌∙◌, subst, arith, ⊎_elim, ◌⊎◌, inl, inr, sum_by, count_by, All, Contains}
use Rattle.std.specs.List.{list_all}
use Rattle.std.specs.List.Sorted.{IsPermutation}
use Rattle.std.proofs.lemmas.Bool.{false≢true, eqb-true, eq-eqb, ne_eqb, cases_eq, cases_Bool, not-true, or_cases, cases_lt}
use Rattle.std.proofs.lemmas.Bool.Decides.{nat_tests}
use Rattle.std.proofs.lemmas.List.{length-set, get_or-set_same, get_or-set_other, take-append-le, get_or_append_left, length-append}
use Rattle.std.proofs.Math.Bool.{and-true}
use Rattle.std.proofs.Math.Seq.{take-append_seam, get_or-append_seam}
use Rattle.std.proofs.lemmas.List.Elements.{All-head, All-tail, All-push, All-contains, All-filter}
use Rattle.std.proofs.lemmas.List.Sums.{sum_by-cons, sum_by_push}
use Rattle.std.proofs.lemmas.List.Sorted.{sum_by-IsPermutation, All-permutation}
use Rattle.tf_model.specs.SchedulingTask.{SchedulingTask, IsJob, all_jobs, time_of}
use Rattle.tf_model.specs.Sound.{IsSound}
use Rattle.tf_model.specs.Bounds.{stands_in}
use Rattle.tf_model.specs.Cost.{price}
use Rattle.tf_model.proofs.Costs.{All-all_jobs}
use Rattle.tf_model.proofs.Sums.{sum_by-plus, sum_by-same}
use Rattle.tf_check.specs.Bound.{is_free}
use Rattle.tf_single.specs.Progress.{of_job}
use Rattle.tf_single.specs.Backward.{rest_of, IsLastChoice, AreChosen}
use Rattle.tf_single.specs.ArcCounts.{AreArcsFrom}
use Rattle.tf_single.specs.Open.{arcs_left, IsOpen}
use Rattle.tf_single.proofs.Rest.{sum_filter, sum_own, stands_from, stands_says, in_rest, rest_jobs, rest_sum, stands_push, counted_there, there_counted, distinct_push}

abbrev as_one : Bool → ℕ
as_one b = cond b 1 0

-- ---- free jobs, and jobs without arcs to those that are left

free_step : (b q : Bool) → b ≡ q → (r : Bool) (n m : ℕ) → r ≡ eqb n 0 → m ≡ as_one q + n
    → (not b && r) ≡ eqb m 0
free_step true true e r n m h s = grind (arith, nat_tests)
free_step false false e r n m h s = h ∙ ap (λ x. eqb x 0) (omega (arith, s))
free_step true false e r n m h s = cc
free_step false true e r n m h s = cc

-- a job is free among those that are left exactly if no arc leads from it to them
pub free_is : (k : SchedulingTask) → IsSound k → (taken : List ℕ) (j : ℕ)
    → is_free k (rest_of k taken) j ≡ eqb (arcs_left k taken j) 0
free_is k sound taken j = along k.arcs sound.arcs_in
  where
    p : ℕ × ℕ → Bool
    p arc = (arc.0 == j) && stands_in (rest_of k taken) arc.1

    along : (arcs : List (ℕ × ℕ)) → All (λ arc. IsJob k arc.0 × IsJob k arc.1) arcs
        → list_all (λ arc. not ((arc.0 == j) && stands_in (rest_of k taken) arc.1)) arcs
        ≡ eqb (count_by (λ arc. (arc.0 == j) && not (stands_in taken arc.1)) arcs) 0
    along [] all = refl
    along (a ∷ arcs) all =
        free_step ((a.0 == j) && stands_in (rest_of k taken) a.1)
        ((a.0 == j) && not (stands_in taken a.1))
        (ap (λ s. (a.0 == j) && s)
        (in_rest k taken a.1 (All-head (λ arc. IsJob k arc.0 × IsJob k arc.1) a arcs all).1))
        (list_all (λ arc. not ((arc.0 == j) && stands_in (rest_of k taken) arc.1)) arcs)
        (count_by (λ arc. (arc.0 == j) && not (stands_in taken arc.1)) arcs)
        (count_by (λ arc. (arc.0 == j) && not (stands_in taken arc.1)) (a ∷ arcs))
        (along arcs (All-tail (λ arc. IsJob k arc.0 × IsJob k arc.1) a arcs all))
        (sum_by-cons (λ arc. as_one ((arc.0 == j) && not (stands_in taken arc.1))) a arcs)

module _ (k : SchedulingTask) (sound : IsSound k) (taken counts free : List ℕ)
    (now : IsOpen k taken (λ _. 0) counts free) where
  free_test : (s z : Bool) (n : ℕ) → n ≡ cond s 0 (cond z 1 0) → 1 ≤ n → (s ≡ false) × (z ≡ true)
  free_test true z n e some = absurd (omega arith)
  free_test false true n e some = (refl, refl)
  free_test false false n e some = absurd (omega arith)

  -- a free job is left and has count 0
  pub free_says : (j : ℕ) → Contains free j
      → IsJob k j × (stands_in taken j ≡ false) × (of_job counts j ≡ 0)
  free_says j at =
      let job : IsJob k j = All-contains (IsJob k) free j now.known at in
      let says = free_test (stands_in taken j) (of_job counts j == 0) (count_by (λ i. i == j) free)
      (now.frees j job) (there_counted free j at) in
      (job, says.0, eqb-true (of_job counts j) 0 says.1)

  -- and each such job is free
  pub free_has : (j : ℕ) → IsJob k j → stands_in taken j ≡ false → of_job counts j ≡ 0
      → Contains free j
  free_has j job left none =
      let count : count_by (λ i. i == j) free ≡ 1 = now.frees j job
      ∙ ap (λ s. cond s 0 (cond (of_job counts j == 0) 1 0)) left
      ∙ ap as_one (eq-eqb (of_job counts j) 0 none) in
      counted_there free j (omega arith)

  pub left_count : (j : ℕ) → IsJob k j → of_job counts j ≡ arcs_left k taken j
  left_count j job = omega (arith, now.counted j job)

  -- where no job is free, each that is left has an arc to one that is left
  pub none_free : free ≡ [] → (j : ℕ) → IsJob k j → stands_in taken j ≡ false
      → 0 < arcs_left k taken j
  none_free none j job left = ⊎_elim
      (λ some. some)
      (λ few. let at =
      subst (λ xs. Contains xs j) none
      (free_has j job left (omega (arith, left_count j job, few))) in
      absurd (omega (arith, at.1)))
      (cases_lt 0 (arcs_left k taken j))

  -- the cheapest free job is the choice for last
  pub open_choice : (j end : ℕ) → Contains free j → end ≡ sum_by (time_of k) (rest_of k taken)
      → ((i : ℕ) → Contains free i → price k j end ≤ℤ price k i end)
      → ((i : ℕ) → Contains free i → price k i end ≡ price k j end → i ≤ j)
      → IsLastChoice k (rest_of k taken) j
  open_choice j end at work cheapest ties =
      let says = free_says j at in
      record {
        here = stands_says (rest_of k taken) j (in_rest k taken j says.0 ∙ ap not says.1);
        free = free_is k sound taken j
            ∙ eq-eqb (arcs_left k taken j) 0 (omega (arith, left_count j says.0, says.2));
        cheapest = λ i there free_one.
            subst (λ e. price k j e ≤ℤ price k i e) work (cheapest i (of_free i there free_one));
        ties = λ i there free_one same. ties i (of_free i there free_one)
            (subst (λ e. price k i e ≡ price k j e) (sym work) same);
      }
    where
      of_free : (i : ℕ) → Contains (rest_of k taken) i → is_free k (rest_of k taken) i ≡ true
          → Contains free i
      of_free i there free_one =
          let job : IsJob k i =
          All-contains (IsJob k) (rest_of k taken) i (rest_jobs k taken) there in
          let left : stands_in taken i ≡ false =
          not-true (stands_in taken i)
          (sym (in_rest k taken i job) ∙ stands_from (rest_of k taken) i there) in
          let no_arc : arcs_left k taken i ≡ 0 =
          eqb-true (arcs_left k taken i) 0 (sym (free_is k sound taken i) ∙ free_one) in
          free_has i job left (omega (arith, left_count i job, no_arc))

  -- ---- a free job is taken
  module _ (j : ℕ) (at : Contains free j) (others : List ℕ)
      (moved : IsPermutation free (j ∷ others)) (pending : ℕ → ℕ)
      (pends : (i : ℕ) → pending i ≡ count_by (λ arc. (arc.1 == j) && (arc.0 == i)) k.arcs)
    where
      split_test : (a s e f : Bool) → f ≡ e → (e ≡ true → s ≡ false)
          → as_one (a && not s) ≡ as_one (a && not (s || e)) + as_one (f && a)
      split_test true true true f h apart = absurd (false≢true (sym (apart refl)))
      split_test true true false true h apart = cc
      split_test true true false false h apart = refl
      split_test true false true true h apart = refl
      split_test true false true false h apart = cc
      split_test true false false true h apart = cc
      split_test true false false false h apart = refl
      split_test false s e true h apart = refl
      split_test false s e false h apart = refl

      arcs_split : (i : ℕ)
          → arcs_left k taken i ≡ arcs_left k (taken ++ j ∷ []) i
          + count_by (λ arc. (arc.1 == j) && (arc.0 == i)) k.arcs
      arcs_split i =
          sum_by-same (λ arc. as_one ((arc.0 == i) && not (stands_in taken arc.1)))
          (λ arc. as_one ((arc.0 == i) && not (stands_in (taken ++ j ∷ []) arc.1))
          + as_one ((arc.1 == j) && (arc.0 == i))) k.arcs
          (λ arc.
          split_test (arc.0 == i) (stands_in taken arc.1) (j == arc.1) (arc.1 == j)
          (grind (arith, nat_tests))
          (λ e. ap (stands_in taken) (sym (eqb-true j arc.1 e)) ∙ (free_says j at).1)
          ∙ ap (λ s. as_one ((arc.0 == i) && not s) + as_one ((arc.1 == j) && (arc.0 == i)))
          (sym (stands_push taken j arc.1)))
          ∙ sum_by-plus (λ arc. as_one ((arc.0 == i) && not (stands_in (taken ++ j ∷ []) arc.1)))
          (λ arc. as_one ((arc.1 == j) && (arc.0 == i))) k.arcs

      others_count : (i : ℕ)
          → count_by (λ b. b == i) free ≡ as_one (j == i) + count_by (λ b. b == i) others
      others_count i =
          omega (
            arith,
            sum_by-IsPermutation (λ b. as_one (b == i)) free (j ∷ others) moved,
            sum_by-cons (λ b. as_one (b == i)) j others,
          )

      free_more : (e s z : Bool) (n m : ℕ) → n ≡ cond s 0 (as_one z) → n ≡ as_one e + m
          → (e ≡ true → s ≡ false) → m ≡ cond (s || e) 0 (as_one z)
      free_more true true z n m is less apart = absurd (false≢true (sym (apart refl)))
      free_more true false true n m is less apart = omega arith
      free_more true false false n m is less apart = absurd (omega arith)
      free_more false true z n m is less apart = omega arith
      free_more false false z n m is less apart = omega (arith, is, less)

      pub open_taken : IsOpen k (taken ++ j ∷ []) pending counts others
      open_taken = record {
        len = now.len;
        counted = λ i job. omega (arith, now.counted i job, arcs_split i, pends i);
        over = λ i job there. ⊎_elim
            (λ before. now.over i job before)
            (λ own. ap (of_job counts) (sym (eqb-true j i own)) ∙ (free_says j at).2)
            (or_cases (stands_in taken i) (j == i) (sym (stands_push taken j i) ∙ there));
        known = All-tail (IsJob k) j others
            (All-permutation (IsJob k) free (j ∷ others) moved now.known);
        frees = λ i job.
            free_more (j == i) (stands_in taken i) (of_job counts i == 0)
            (count_by (λ b. b == i) free) (count_by (λ b. b == i) others)
            (now.frees i job) (others_count i)
            (λ e. ap (stands_in taken) (sym (eqb-true j i e)) ∙ (free_says j at).1)
            ∙ ap (λ s. cond s 0 (as_one (of_job counts i == 0))) (sym (stands_push taken j i));
      }

-- the free jobs in another order
pub open_moved : (k : SchedulingTask) (taken : List ℕ) (pending : ℕ → ℕ)
    (counts free others : List ℕ)
    → IsOpen k taken pending counts free → IsPermutation free others
    → IsOpen k taken pending counts others
open_moved k taken pending counts free others now moved = record {
  len = now.len;
  counted = now.counted;
  over = now.over;
  known = All-permutation (IsJob k) free others moved now.known;
  frees = λ j job. sum_by-IsPermutation (λ i. cond (i == j) 1 0) free others moved
      ∙ now.frees j job;
}

-- as many pending arcs, counted in another way
pub open_pending : (k : SchedulingTask) (taken : List ℕ) (pending more : ℕ → ℕ)
    (counts free : List ℕ) → IsOpen k taken pending counts free
    → ((j : ℕ) → pending j ≡ more j) → IsOpen k taken more counts free
open_pending k taken pending more counts free now same = record {
  len = now.len;
  counted = λ j job. omega (arith, now.counted j job, same j);
  over = now.over;
  known = now.known;
  frees = now.frees;
}

-- ---- one arc less
module _ (k : SchedulingTask) (taken : List ℕ) (all pending : ℕ → ℕ) (counts free : List ℕ) (b : ℕ)
    (job : IsJob k b) (pending_count : (i : ℕ) → all i ≡ as_one (b == i) + pending i)
    (now : IsOpen k taken all counts free) where
  own_one : ◌≡◌ {A = ℕ} (as_one (b == b)) 1
  own_one = ap as_one (eq-eqb b b refl)

  -- it is counted
  pub some_left : 1 ≤ of_job counts b
  some_left = omega (arith, now.counted b job, pending_count b, own_one)

  still_left : stands_in taken b ≡ false
  still_left =
      ⊎_elim (λ there. absurd (omega (arith, now.over b job there, some_left))) (λ left. left)
      (cases_Bool (stands_in taken b))

  module _ (n : ℕ) (less : n ≡ of_job counts b - 1) where
    abbrev fewer : List ℕ
    fewer = set counts (b - 1) n

    at_own : of_job fewer b ≡ n
    at_own = get_or-set_same counts (b - 1) n 0 (omega (arith, now.len, job.0, job.1))

    at_other : (i : ℕ) → IsJob k i → i ≢ b → of_job fewer i ≡ of_job counts i
    at_other i its differ =
        get_or-set_other counts (b - 1) (i - 1) n 0 (λ e. differ (omega (arith, its.0, job.0)))

    module _ (others : List ℕ) (known : All (IsJob k) others)
        (same : (i : ℕ) → i ≢ b → count_by (λ a. a == i) others ≡ count_by (λ a. a == i) free)
        (own : count_by (λ a. a == b) others ≡ as_one (n == 0)) where
      at_job : (i : ℕ) → IsJob k i → (i ≡ b) ⊎ (i ≢ b)
          → (of_job fewer i ≡ arcs_left k taken i + pending i)
          × (stands_in taken i ≡ true → of_job fewer i ≡ 0)
          × (count_by (λ a. a == i) others
          ≡ cond (stands_in taken i) 0 (as_one (of_job fewer i == 0)))
      at_job i its (inl e) =
          let is : of_job fewer i ≡ n = ap (of_job fewer) e ∙ at_own in (
            omega (
              arith,
              is,
              less,
              some_left,
              now.counted b job,
              pending_count b,
              own_one,
              ap (arcs_left k taken) e,
              ap pending e,
            ),
            λ there. absurd (false≢true (sym (ap (stands_in taken) e ∙ still_left) ∙ there)),
            ap (λ x. count_by (λ a. a == x) others) e ∙ own
                ∙ sym (ap (λ s. cond s 0 (as_one (of_job fewer i == 0)))
                (ap (stands_in taken) e ∙ still_left) ∙ ap (λ x. as_one (x == 0)) is),
          )
      at_job i its (inr differ) =
          let is : of_job fewer i ≡ of_job counts i = at_other i its differ in
          let none : ◌≡◌ {A = ℕ} (as_one (b == i)) 0 =
          ap as_one (ne_eqb b i (λ e. differ (sym e))) in (
            omega (arith, is, now.counted i its, pending_count i, none),
            λ there. is ∙ now.over i its there,
            same i differ ∙ now.frees i its
                ∙ ap (λ x. cond (stands_in taken i) 0 (as_one (x == 0))) (sym is),
          )

      pub open_less : IsOpen k taken pending fewer others
      open_less = record {
        len = length-set counts (b - 1) n ∙ now.len;
        counted = λ i its. (at_job i its (cases_eq i b)).0;
        over = λ i its. (at_job i its (cases_eq i b)).1;
        known = known;
        frees = λ i its. (at_job i its (cases_eq i b)).2;
      }

    own_before : count_by (λ a. a == b) free ≡ 0
    own_before = now.frees b job ∙ ap (λ s. cond s 0 (as_one (of_job counts b == 0))) still_left
        ∙ ap as_one (ne_eqb (of_job counts b) 0 (λ e. omega (arith, some_left)))

    -- it was the last: the job is free now
    pub open_freed : n ≡ 0 → IsOpen k taken pending fewer (free ++ b ∷ [])
    open_freed empty =
        open_less (free ++ b ∷ []) (All-push (IsJob k) free b now.known job)
        (λ i differ. omega (
          arith,
          sum_by_push (λ a. as_one (a == i)) free b,
          ap as_one (ne_eqb b i (λ e. differ (sym e))),
        ))
        (omega (
          arith,
          sum_by_push (λ a. as_one (a == b)) free b,
          own_before,
          own_one,
          ap as_one (eq-eqb n 0 empty),
        ))

    -- it was not
    pub open_held : n ≢ 0 → IsOpen k taken pending fewer free
    open_held some =
        open_less free now.known (λ i differ. refl) (own_before ∙ sym (ap as_one (ne_eqb n 0 some)))

-- ---- the chosen jobs, one more

module _ (k : SchedulingTask) (taken : List ℕ) (j : ℕ) (chosen : AreChosen k taken)
    (job : IsJob k j) (left : stands_in taken j ≡ false) where
  pub chosen_more : IsLastChoice k (rest_of k taken) j → AreChosen k (taken ++ j ∷ [])
  chosen_more choice = record {
    jobs = All-push (IsJob k) taken j chosen.jobs job;
    distinct = distinct_push taken j chosen.distinct left;
    choice = λ i lt. by_place i lt (cases_lt i (length taken));
  }
    where
      by_place : (i : ℕ) → i < length (taken ++ j ∷ []) → (i < length taken) ⊎ (length taken ≤ i)
          → IsLastChoice k (rest_of k (take i (taken ++ j ∷ []))) (slice_index (taken ++ j ∷ []) i)
      by_place i lt (inl before) =
          subst (λ xs. IsLastChoice k (rest_of k xs) (slice_index (taken ++ j ∷ []) i))
          (sym (take-append-le i taken (j ∷ []) (omega arith)))
          (subst (λ x. IsLastChoice k (rest_of k (take i taken)) x)
          (sym (get_or_append_left taken (j ∷ []) 0 i before)) (chosen.choice i before))
      by_place i lt (inr last) =
          let here : i ≡ length taken = omega (arith, lt, last, length-append taken (j ∷ [])) in
          subst (λ n. IsLastChoice k (rest_of k (take n (taken ++ j ∷ [])))
          (slice_index (taken ++ j ∷ []) n)) (sym here)
          (subst (λ xs. IsLastChoice k (rest_of k xs)
          (slice_index (taken ++ j ∷ []) (length taken)))
          (sym (take-append_seam taken (j ∷ [])))
          (subst (λ x. IsLastChoice k (rest_of k taken) x) (sym (get_or-append_seam taken j [] 0))
          choice))

  -- the work of those that are left
  pub work_less : sum_by (time_of k) (rest_of k (taken ++ j ∷ [])) + time_of k j
      ≡ sum_by (time_of k) (rest_of k taken)
  work_less =
      omega (
        arith,
        rest_sum k (time_of k) taken chosen.jobs chosen.distinct,
        rest_sum k (time_of k) (taken ++ j ∷ []) (All-push (IsJob k) taken j chosen.jobs job)
            (distinct_push taken j chosen.distinct left),
        sum_by_push (time_of k) taken j,
      )

-- ---- before any job is taken
module _ (k : SchedulingTask) (counts : List ℕ) (are : AreArcsFrom k counts) where
  -- all arcs lead to jobs that are left
  all_left : (j : ℕ) → arcs_left k [] j ≡ count_by (λ arc. arc.0 == j) k.arcs
  all_left j =
      sum_by-same (λ arc. as_one ((arc.0 == j) && true)) (λ arc. as_one (arc.0 == j)) k.arcs
      (λ arc. ap as_one (and-true (arc.0 == j)))

  flip_test : (a b c : Bool) → c ≡ a → cond b (as_one a) 0 ≡ cond c (as_one b) 0
  flip_test true true true e = refl
  flip_test true false true e = refl
  flip_test false true false e = refl
  flip_test false false false e = refl
  flip_test true b false e = cc
  flip_test false b true e = cc

  start_frees : (j : ℕ) → IsJob k j
      → count_by (λ i. i == j) (filter (λ i. of_job counts i == 0) (all_jobs k))
      ≡ as_one (of_job counts j == 0)
  start_frees j job =
      sum_filter (λ i. of_job counts i == 0) (λ i. as_one (i == j)) (all_jobs k)
      ∙ sum_by-same (λ i. cond (of_job counts i == 0) (as_one (i == j)) 0)
      (λ i. cond (j == i) (as_one (of_job counts i == 0)) 0) (all_jobs k)
      (λ i. flip_test (i == j) (of_job counts i == 0) (j == i) (grind (arith, nat_tests)))
      ∙ sum_own k (λ i. as_one (of_job counts i == 0)) j job

  pub open_start : IsOpen k [] (λ _. 0) counts (filter (λ j. of_job counts j == 0) (all_jobs k))
  open_start = record {
    len = are.len;
    counted = λ j job. omega (arith, are.each j job, all_left j);
    over = λ j job there. absurd (false≢true there);
    known = All-filter (λ j. of_job counts j == 0) (IsJob k) (all_jobs k)
        (All-all_jobs k (IsJob k) (λ j h. h));
    frees = start_frees;
  }
