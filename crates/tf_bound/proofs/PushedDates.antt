-- The dates that follow by a task's arcs are dates along its arcs, so there is one task at most whose
-- dates they are.
use Rattle.std.proofs.Common.{◌≡◌, Bool, true, false, cond, ℕ, ◌+◌, ◌-◌, ◌*◌, ◌≤◌, ◌<◌, ℤ, pos, ◌-ℤ◌, List, length, get_or, map, slice_index, slice_index_or, refl, sym, ap, ◌∙◌, subst, inl, inr, ⊎_elim, Contains, IsTrue, arith}
use Rattle.std.proofs.lemmas.Bool.{cases_lt}
use Rattle.std.proofs.lemmas.Grind.{same_number_lists}
use Rattle.std.proofs.lemmas.Int.{ints}
use Rattle.std.proofs.lemmas.List.Sums.{get_or-le-sum_by}
use Rattle.std.proofs.lemmas.List.{get_or-map, get_or_default, get_or_past, length-map, same_lists}
use Rattle.tf_model.specs.Limit.{limit}
use Rattle.tf_model.specs.Whole.{as_time, IsWithin}
use Rattle.tf_posed.specs.ProblemData.{ProblemData, IsProblemJob, no_problem_job, problem_job, problem_jobs, problem_release, problem_due}
use Rattle.tf_problem.specs.ProblemBounds.{is_max_goal, problem_work}
use Rattle.tf_problem.specs.Pushed.{release_in, due_in, pushed, pushed_job, serving_by, AreServingDues}
use Rattle.tf_problem.proofs.Pushed.{needed-by_arcs}
use Rattle.tf_bound.specs.declared.pushed.Number.TheVariants.{Tail}
use Rattle.std.proofs.lemmas.List.FromFn.{get_or-map-range_with_len, length-map-range_with_len}
use Rattle.tf_bound.specs.Along.{AreAlong, AreAmong, AreDated, AreTimes, AreWithin}
use Rattle.tf_bound.specs.JobNumbers.{number_by}
use Rattle.tf_bound.specs.Judged.{AreHeads, AreDeadlines, AreKeptDues, AreMovedDues, AreDuesWithin, IsPushedTask, moved_by}
use Rattle.tf_bound.specs.Sized.{IsSized, IsSizedJob, work as total}
use Rattle.tf_bound.proofs.RaisedDates.{no_earlier}
use Rattle.tf_bound.proofs.Dates.{swap, in_list, all_in_list, few_in_list, work_of, own_tail, tail_is, due_within}
use Rattle.tf_bound.proofs.Sound.{sized_job, work_is}

-- dates along the same arcs are the same
pub same_along : (own work : List ℕ) (arcs : List (ℕ × ℕ)) → AreTimes (length own) work
    → AreAmong (length own) arcs → (r s : List ℕ) → AreAlong own work arcs r
    → AreAlong own work arcs s → r ≡ s
same_along own work arcs times among r s one other =
    same_number_lists r s (one.len ∙ sym other.len)
    (λ i lt. omega (
      arith,
      no_earlier own work arcs times among r one s other i,
      no_earlier own work arcs times among s other r one i,
    ))

module _ (k : ProblemData) (sized : IsSized k) (work : List ℕ)
    (works : work ≡ map (problem_work k) (problem_jobs k)) where
  -- the job of a place, counted from 0
  job_at : (i : ℕ) → i < length k.jobs → IsProblemJob k (i + 1)
  job_at i lt = (omega arith, omega (arith, lt))

  pub times_of : IsTrue k.problem.prec → AreTimes (length k.jobs) work
  times_of prec = record {
    len = all_in_list k sized (problem_work k) work works;
    some = λ i lt. let index : i + 1 - 1 ≡ i = omega arith in
        omega (
          arith,
          ap (slice_index work) index,
          work_of k sized work works (i + 1) (job_at i lt),
          work_is k sized (i + 1) (job_at i lt),
          (sized_job k sized (i + 1) (job_at i lt)).some_time (needed-by_arcs k prec),
        );
    small = λ i. ⊎_elim
        (λ lt. let index : i + 1 - 1 ≡ i = omega arith in
        omega (
          arith,
          ap (slice_index work) index,
          work_of k sized work works (i + 1) (job_at i lt),
          small (i + 1) (job_at i lt),
        ))
        (λ past. omega (
          arith,
          get_or_past work i 0
              (omega (arith, past, all_in_list k sized (problem_work k) work works)),
        ))
        (cases_lt i (length k.jobs));
  }
    where
      small : (j : ℕ) → IsProblemJob k j → problem_work k j ≤ limit
      small j job = omega (
        arith,
        work_is k sized j job,
        get_or-le-sum_by total k.jobs (j - 1) no_problem_job (omega (arith, job.0, job.1)),
        sized.total,
      )

  -- ---- release dates

  module _ (own : List ℕ) (owns : own ≡ map (problem_release k) (problem_jobs k)) (r : List ℕ)
      (heads : AreHeads k r) where
    place : (i : ℕ) → i < length own → i < length k.jobs
    place i lt = omega (arith, lt, all_in_list k sized (problem_release k) own owns)

    pub along_heads : AreAlong own work k.arcs r
    along_heads = record {
      len = heads.len ∙ sym (all_in_list k sized (problem_release k) own owns);
      from_own = λ i lt. let index : i + 1 - 1 ≡ i = omega arith in
          let job = job_at i (place i lt) in
          omega (
            arith,
            ap (slice_index own) index,
            ap (slice_index r) index,
            in_list k sized (problem_release k) own owns (i + 1) job,
            heads.from_own (i + 1) job,
          );
      along = λ i d lt. let arc = get_or k.arcs i d in
          omega (
            arith,
            heads.along i d lt,
            work_of k sized work works arc.0 (sized.arcs_in i d lt).0,
          );
      least = λ i lt. let index : i + 1 - 1 ≡ i = omega arith in
          let job = job_at i (place i lt) in
          ⊎_elim
          (λ le. inl (omega (
            arith,
            le,
            ap (slice_index own) index,
            ap (slice_index r) index,
            in_list k sized (problem_release k) own owns (i + 1) job,
          )))
          (λ by. inr (
            by.0,
            by.1,
            omega (
              arith,
              by.2,
              work_of k sized work works by.0
                  (before by.0 (i + 1) by.1),
            ),
          ))
          (heads.least (i + 1) job);
    }
      where
        before : (i j : ℕ) → Contains {X = ℕ × ℕ} k.arcs (i, j) → IsProblemJob k i
        before i j has = subst (λ (arc : ℕ × ℕ). IsProblemJob k arc.0) has.2
            (sized.arcs_in has.0 (i, j) has.1).0

  -- ---- due dates

  -- how long before the limit they are
  abbrev pub tails_of : List ℤ → List ℕ
  tails_of d = map (λ due. as_time (pos limit -ℤ due)) d

  module _ (own : List ℕ) (owns : own ≡ map (number_by Tail k) (problem_jobs k)) (d : List ℤ)
      (dues : AreDeadlines k d) (within : AreDuesWithin d) where
    abbrev pub tails : List ℕ
    tails = tails_of d

    tail_at : (i : ℕ) → i < length d
        → pos (slice_index tails i) ≡ pos limit -ℤ slice_index_or d i (pos 0)
    tail_at i lt =
        ap pos (get_or-map (λ due. as_time (pos limit -ℤ due)) d i (pos 0) 0 lt)
        ∙ tail_is (slice_index_or d i (pos 0)) (here i)
      where
        here : (i : ℕ) → IsWithin (slice_index_or d i (pos 0))
        here i = let index : i + 1 - 1 ≡ i = omega arith in
            subst (λ (n : ℕ). IsWithin (slice_index_or d n (pos 0))) index (within (i + 1))

    tail_of : (j : ℕ) → IsProblemJob k j → pos (release_in tails j) ≡ pos limit -ℤ due_in d j
    tail_of j job = tail_at (j - 1) (omega (arith, job.0, job.1, dues.len))

    pub tails_within : AreWithin tails
    tails_within i =
        ⊎_elim
        (λ lt. let index : i + 1 - 1 ≡ i = omega arith in
        let its = subst (λ (n : ℕ). IsWithin (slice_index_or d n (pos 0))) index (within (i + 1)) in
        omega (arith, ints, tail_at i lt, its.0))
        (λ past. omega (
          arith,
          get_or_past tails i 0 (omega (
            arith,
            past,
            length-map d
                (λ due. as_time (pos limit -ℤ due)),
          )),
        ))
        (cases_lt i (length d))

    back_place : (i : ℕ) → i < length own → i < length k.jobs
    back_place i lt = omega (arith, lt, all_in_list k sized (number_by Tail k) own owns)

    swapped : (i j : ℕ) → Contains {X = ℕ × ℕ} k.arcs (i, j)
        → Contains {X = ℕ × ℕ} (map swap k.arcs) (j, i)
    swapped i j has = (
      has.0,
      omega (arith, has.1, length-map k.arcs swap),
      get_or-map swap k.arcs has.0 (i, j) (j, i) has.1 ∙ ap swap has.2,
    )

    pub along_deadlines : AreAlong own work (map swap k.arcs) tails
    along_deadlines = record {
      len = length-map d (λ due. as_time (pos limit -ℤ due)) ∙ dues.len
          ∙ sym (all_in_list k sized (number_by Tail k) own owns);
      from_own = λ i lt. let index : i + 1 - 1 ≡ i = omega arith in
          let job = job_at i (back_place i lt) in
          omega (
            arith,
            ints,
            ap (slice_index own) index,
            ap (slice_index tails) index,
            own_tail k sized own owns (i + 1) job,
            tail_of (i + 1) job,
            dues.from_own (i + 1) job,
          );
      along = λ i e lt. let there : i < length k.arcs = omega (arith, lt, length-map k.arcs swap) in
          let arc = get_or k.arcs i (swap e) in
          let jobs = sized.arcs_in i (swap e) there in
          let back : get_or (map swap k.arcs) i e ≡ swap arc =
          get_or-map swap k.arcs i (swap e) e there in
          subst (λ (b : ℕ × ℕ). release_in tails b.0 + release_in work b.0 ≤ release_in tails b.1)
          (sym back)
          (omega (
            arith,
            ints,
            dues.along i (swap e) there,
            work_of k sized work works arc.1 jobs.1,
            tail_of arc.0 jobs.0,
            tail_of arc.1 jobs.1,
          ));
      least = λ i lt. let index : i + 1 - 1 ≡ i = omega arith in
          let job = job_at i (back_place i lt) in
          ⊎_elim
          (λ le. inl (omega (
            arith,
            ints,
            le,
            ap (slice_index own) index,
            ap (slice_index tails) index,
            own_tail k sized own owns (i + 1) job,
            tail_of (i + 1) job,
          )))
          (λ by. let after = behind (i + 1) by.0 by.1 in
          inr (
            by.0,
            swapped (i + 1) by.0 by.1,
            omega (
              arith,
              ints,
              by.2,
              work_of k sized work works by.0 after,
              tail_of (i + 1) job,
              tail_of by.0 after,
            ),
          ))
          (dues.greatest (i + 1) job);
    }
      where
        behind : (i j : ℕ) → Contains {X = ℕ × ℕ} k.arcs (i, j) → IsProblemJob k j
        behind i j has = subst (λ (arc : ℕ × ℕ). IsProblemJob k arc.1) has.2
            (sized.arcs_in has.0 (i, j) has.1).1

-- ---- what the walks are given

module _ (k : ProblemData) (sized : IsSized k) (prec : IsTrue k.problem.prec) (work : List ℕ)
    (works : work ≡ map (problem_work k) (problem_jobs k)) where
  dated : (f : ℕ → ℕ) → ((j : ℕ) → IsProblemJob k j → f j ≤ 2 * limit) → (own : List ℕ)
      → own ≡ map f (problem_jobs k) → (arcs : List (ℕ × ℕ)) → AreAmong (length k.jobs) arcs
      → AreDated own work arcs
  dated f small own owns arcs among =
      let len : length own ≡ length k.jobs = all_in_list k sized f own owns in
      record {
        few = few_in_list k sized f own owns;
        within = λ i. ⊎_elim
            (λ lt. let index : i + 1 - 1 ≡ i = omega arith in
            let job : IsProblemJob k (i + 1) = (omega arith, omega (arith, lt, len)) in
            omega (
              arith,
              ap (slice_index own) index,
              in_list k sized f own owns (i + 1) job,
              small (i + 1) job,
            ))
            (λ past. omega (arith, get_or_past own i 0 past)) (cases_lt i (length own));
        times = subst (λ (n : ℕ). AreTimes n work) (sym len) (times_of k sized work works prec);
        among = subst (λ (n : ℕ). AreAmong n arcs) (sym len) among;
      }

  pub dated_heads : (own : List ℕ) → own ≡ map (problem_release k) (problem_jobs k)
      → (arcs : List (ℕ × ℕ)) → arcs ≡ k.arcs → AreDated own work arcs
  dated_heads own owns arcs are =
      dated (problem_release k) small own owns arcs
      (subst (AreAmong (length k.jobs)) (sym are) sized.arcs_in)
    where
      small : (j : ℕ) → IsProblemJob k j → problem_release k j ≤ 2 * limit
      small j job = by k.problem.release
        where
          by : (named : Bool) → cond named (problem_job k j).release 0 ≤ 2 * limit
          by true = omega (arith, (sized_job k sized j job).release)
          by false = omega arith

  pub dated_tails : (own : List ℕ) → own ≡ map (number_by Tail k) (problem_jobs k)
      → (back : List (ℕ × ℕ)) → back ≡ map swap k.arcs → AreDated own work back
  dated_tails own owns back are =
      dated (number_by Tail k)
      (λ j job. omega (
        arith,
        ints,
        tail_is (problem_due k j) (due_within k sized j job),
        (due_within k sized j job).0,
      ))
      own owns back
      (subst (AreAmong (length k.jobs)) (sym are)
      (λ i d lt. let there : i < length k.arcs = omega (arith, lt, length-map k.arcs swap) in
      let its = sized.arcs_in i (swap d) there in
      subst (λ (arc : ℕ × ℕ). (IsProblemJob k arc.0) × (IsProblemJob k arc.1))
      (sym (get_or-map swap k.arcs i (swap d) d there)) (its.1, its.0)))

-- ---- the task with these dates

-- there is a due date for each job
pub moved_len : (k : ProblemData) (d : List ℤ) → AreMovedDues k d → length d ≡ length k.jobs
moved_len k d dues = by (is_max_goal k.problem.goal) dues
  where
    by : (m : Bool) → moved_by m k d → length d ≡ length k.jobs
    by true x = x.len
    by false x = x.len

-- they serve the objective
pub moved_serve : (k : ProblemData) (d : List ℤ) → AreMovedDues k d → AreServingDues k d
moved_serve k d dues = by (is_max_goal k.problem.goal) dues
  where
    by : (m : Bool) → moved_by m k d → serving_by m k d
    by true x = x.greatest
    by false x = x.own

module _ (k : ProblemData) (sized : IsSized k) where
  -- its dates are within the limit
  module _ (r : List ℕ) (d : List ℤ) (its : IsSized (pushed k r d)) where
    its_job : (j : ℕ) → IsProblemJob k j
        → (release_in r j ≤ limit) × IsWithin (due_in d j)
    its_job j job =
        let at = get_or-map-range_with_len (pushed_job k r d) 1 (length k.jobs) (j - 1) j
        no_problem_job (omega (arith, job.0, job.1)) (omega (arith, job.0)) in
        let one = subst (IsSizedJob (pushed k r d).problem k.machines) at
        (its.jobs (j - 1) no_problem_job (omega (
          arith,
          job.0,
          job.1,
          length-map-range_with_len (pushed_job k r d) 1 (length k.jobs),
        ))) in
        (one.release, one.due)

    pub releases_within : length r ≡ length k.jobs → AreWithin r
    releases_within len i =
        ⊎_elim
        (λ lt. let index : i + 1 - 1 ≡ i = omega arith in
        omega (
          arith,
          ap (slice_index r) index,
          (its_job (i + 1) (omega arith, omega (arith, lt, len))).0,
        ))
        (λ past. omega (arith, get_or_past r i 0 past)) (cases_lt i (length r))

    pub dues_within : length d ≡ length k.jobs → AreDuesWithin d
    dues_within len j =
        ⊎_elim
        (λ lt. let index : j - 1 + 1 - 1 ≡ j - 1 = omega arith in
        subst (λ (n : ℕ). IsWithin (slice_index_or d n (pos 0))) index
        (its_job (j - 1 + 1) (omega arith, omega (arith, lt, len))).1)
        (λ past. subst IsWithin (sym (get_or_past d (j - 1) (pos 0) past))
        (omega (arith, ints), omega (arith, ints))) (cases_lt (j - 1) (length d))

  abbrev work : List ℕ
  work = map (problem_work k) (problem_jobs k)

  heads_same : IsTrue k.problem.prec → (r s : List ℕ) → AreHeads k r → AreHeads k s → r ≡ s
  heads_same prec r s one other =
      let own = map (problem_release k) (problem_jobs k) in
      let given = dated_heads k sized prec work refl own refl k.arcs refl in
      same_along own work k.arcs given.times given.among r s
      (along_heads k sized work refl own refl r one) (along_heads k sized work refl own refl s other)

  dues_same : IsTrue k.problem.prec → (d e : List ℤ) → AreDeadlines k d → AreDuesWithin d
      → AreDeadlines k e → AreDuesWithin e → d ≡ e
  dues_same prec d e one within other fits =
      let own = map (number_by Tail k) (problem_jobs k) in
      let given = dated_tails k sized prec work refl own refl (map swap k.arcs) refl in
      let same = same_along own work (map swap k.arcs) given.times given.among
      (tails_of k sized work refl d) (tails_of k sized work refl e)
      (along_deadlines k sized work refl own refl d one within)
      (along_deadlines k sized work refl own refl e other fits) in
      same_lists d e (one.len ∙ sym other.len)
      (λ i z lt. let there : i < length e = omega (arith, lt, one.len, other.len) in
      let at = tail_at k sized work refl own refl d one within i lt in
      let its = tail_at k sized work refl own refl e other fits i there in
      get_or_default d i z (pos 0) lt
      ∙ omega (arith, ints, at, its, ap (λ l. slice_index l i) same)
      ∙ get_or_default e i (pos 0) z there)

  pub kept_within : (d : List ℤ) → AreKeptDues k d → AreDuesWithin d
  kept_within d kept j =
      ⊎_elim
      (λ lt. let index : j - 1 + 1 - 1 ≡ j - 1 = omega arith in
      let job : IsProblemJob k (j - 1 + 1) = (omega arith, omega (arith, lt, kept.len)) in
      subst (λ (n : ℕ). IsWithin (slice_index_or d n (pos 0))) index
      (subst IsWithin (sym (kept.own (j - 1 + 1) job)) (sized_job k sized (j - 1 + 1) job).due))
      (λ past. subst IsWithin (sym (get_or_past d (j - 1) (pos 0) past))
      (omega (arith, ints), omega (arith, ints))) (cases_lt (j - 1) (length d))

  kept_same : (d e : List ℤ) → AreKeptDues k d → AreKeptDues k e → d ≡ e
  kept_same d e one other =
      same_lists d e (one.len ∙ sym other.len)
      (λ i z lt. let index : i + 1 - 1 ≡ i = omega arith in
      let job : IsProblemJob k (i + 1) = (omega arith, omega (arith, lt, one.len)) in
      get_or_default d i z (pos 0) lt
      ∙ ap (λ n. slice_index_or d n (pos 0)) (sym index)
      ∙ one.own (i + 1) job ∙ sym (other.own (i + 1) job)
      ∙ ap (λ n. slice_index_or e n (pos 0)) index
      ∙ get_or_default e i (pos 0) z (omega (arith, lt, one.len, other.len)))

  moved_same : IsTrue k.problem.prec → (d e : List ℤ) → AreMovedDues k d → AreDuesWithin d
      → AreMovedDues k e → AreDuesWithin e → d ≡ e
  moved_same prec d e one within other fits = by (is_max_goal k.problem.goal) one other
    where
      by : (m : Bool) → moved_by m k d → moved_by m k e → d ≡ e
      by true x y = dues_same prec d e x within y fits
      by false x y = kept_same d e x y

  -- no other one is within the limits where the one with these dates is not
  pub only_pushed : (r : List ℕ) (d : List ℤ) → AreHeads k r → AreMovedDues k d → AreDuesWithin d
      → (IsSized (pushed k r d) → ⊥) → (other : ProblemData) → IsPushedTask k other → ⊥
  only_pushed r d heads dues within not_sized other is =
      let its : IsSized (pushed k is.r is.d) = subst IsSized is.is is.sized in
      let same_r = heads_same is.moved is.r r is.heads heads in
      let len : length is.d ≡ length k.jobs = moved_len k is.d is.dues in
      let same_d = moved_same is.moved is.d d is.dues (dues_within is.r is.d its len) dues within in
      not_sized (subst (λ (e : List ℤ). IsSized (pushed k r e)) same_d
      (subst (λ (s : List ℕ). IsSized (pushed k s is.d)) same_r its))

-- due dates that are so long before the limit are within it
pub back_within : (tails : List ℕ) → AreWithin tails → (d : List ℤ)
    → d ≡ map (λ tail. pos limit -ℤ pos tail) tails → AreDuesWithin d
back_within tails within d back j =
    ⊎_elim
    (λ lt. let at : due_in d j ≡ pos limit -ℤ pos (release_in tails j) =
    ap (λ l. slice_index_or l (j - 1) (pos 0)) back
    ∙ get_or-map (λ tail. pos limit -ℤ pos tail) tails (j - 1) 0 (pos 0) lt in
    (omega (arith, ints, at, within (j - 1)), omega (arith, ints, at)))
    (λ past. subst IsWithin (sym (ap (λ l. slice_index_or l (j - 1) (pos 0)) back
    ∙ get_or_past (map (λ tail. pos limit -ℤ pos tail) tails) (j - 1) (pos 0)
    (omega (arith, past, length-map tails (λ tail. pos limit -ℤ pos tail)))))
    (omega (arith, ints), omega (arith, ints))) (cases_lt (j - 1) (length tails))
