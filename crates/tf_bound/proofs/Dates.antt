-- Dates along arcs: marks of the jobs whose dates follow, and what the dates are for a task.
use Rattle.std.proofs.Common.{◌≡◌, Bool, true, false, ℕ, ◌⊎◌, ◌+◌, ◌-◌, ◌≤◌, ◌<◌, ℤ, pos, negsuc, ◌-ℤ◌, ◌≤ℤ◌, List, [], ◌∷◌, ◌++◌, length, get_or, set, map, slice_index, slice_index_or, refl, sym, ap, ◌∙◌, subst, inl, inr, ⊎_elim, Contains, Option, Some, None, Result, Ok, Err, IfOk, IfSome, MatchOption, arith}
use Rattle.std.specs.List.{range_with_len}
use Rattle.std.proofs.lemmas.Bool.{cases_eq}
use Rattle.std.proofs.lemmas.Int.{ints}
use Rattle.std.proofs.lemmas.List.{get_or-map, get_or-set_other, length-map}
use Rattle.std.proofs.lemmas.List.Elements.{All-contains}
use Rattle.std.proofs.lemmas.List.FromFn.{get_or-map-range_with_len, length-map-range_with_len, map-range_with_len_more}
use Rattle.tf_model.specs.Limit.{limit, most_jobs}
use Rattle.tf_model.specs.Whole.{as_time, IsWithin}
use Rattle.tf_posed.specs.ProblemData.{ProblemData, IsProblemJob, problem_job, problem_jobs, problem_release, problem_due, due_by}
use Rattle.tf_model.specs.declared.problem.Goal.{Goal}
use Rattle.tf_model.specs.declared.problem.Goal.TheVariants as goals
use Rattle.tf_bound.specs.declared.pushed.Number.TheVariants.{Tail}
use Rattle.tf_bound.proofs.Sound.{sized_job}
use Rattle.tf_problem.specs.ProblemBounds.{problem_work}
use Rattle.tf_problem.specs.Pushed.{release_in, due_in}
use Rattle.tf_bound.specs.Sized.{IsSized}
use Rattle.tf_bound.specs.Along.{AreAlong, FollowsByArc}
use Rattle.tf_bound.specs.JobNumbers.{number_by}
use Rattle.tf_bound.specs.Judged.{AreHeads, AreDeadlines}

-- ---- marks

-- one mark more
pub marks_more : (P : ℕ → Type 0) (xs : List Bool) (p : ℕ)
    → ((i : ℕ) → get_or xs i false ≡ true → P i) → P p
    → (i : ℕ) → get_or (set xs p true) i false ≡ true → P i
marks_more P xs p before here i marked =
    ⊎_elim
    (λ same. subst P (sym same) here)
    (λ other. before i (sym (get_or-set_other xs p i true false other) ∙ marked))
    (cases_eq i p)

-- ---- lists of numbers of jobs

-- one job more
pub jobs_more : {X : Type 0} (f : ℕ → X) (xs ys : List X) (x : X) (n j : ℕ) → ys ≡ xs ++ x ∷ []
    → xs ≡ map f (range_with_len 1 n) → x ≡ f j → j ≡ n + 1 → ys ≡ map f (range_with_len 1 (n + 1))
jobs_more f xs ys x n j pushed before here is =
    let next : 1 + n ≡ j = omega arith in
    pushed ∙ ap (λ l. l ++ x ∷ []) before
    ∙ ap (λ y. map f (range_with_len 1 n) ++ y ∷ []) here
    ∙ sym (map-range_with_len_more f 1 n j next)

-- what is found, if anything, has what follows from what it has
pub match_found : {X E : Type 0} (r : Result (Option X) E) (M : Type 0) (P Q : X → Type 0)
    → ((x : X) → P x → Q x) → IfOk r (λ o. MatchOption o M P) → IfOk r (λ o. IfSome o Q)
match_found (Ok (Some x)) M P Q some h = some x h
match_found (Ok None) M P Q some h = tt
match_found (Err e) M P Q some h = tt

-- the same, with what follows where nothing is found
pub match_weaker : {X E : Type 0} (r : Result (Option X) E) (M N : Type 0) (P Q : X → Type 0)
    → (M → N) → ((x : X) → P x → Q x) → IfOk r (λ o. MatchOption o M P)
    → IfOk r (λ o. MatchOption o N Q)
match_weaker (Ok (Some x)) M N P Q none some h = some x h
match_weaker (Ok None) M N P Q none some h = none h
match_weaker (Err e) M N P Q none some h = tt

-- ---- the dates of a task

abbrev pub swap : ℕ × ℕ → ℕ × ℕ
swap arc = (arc.1, arc.0)

-- an arc that is there the other way round
contains_swapped : (arcs : List (ℕ × ℕ)) (i j : ℕ)
    → Contains {X = ℕ × ℕ} (map swap arcs) (i, j) → Contains {X = ℕ × ℕ} arcs (j, i)
contains_swapped arcs i j has =
    let x : ℕ = has.0 in
    let lt : x < length arcs = omega (arith, has.1, length-map arcs swap) in
    (x, lt, ap swap (sym (get_or-map swap arcs x (j, i) (i, j) lt) ∙ has.2))

-- how long before the limit a date within it is
pub tail_is : (z : ℤ) → IsWithin z → pos (as_time (pos limit -ℤ z)) ≡ pos limit -ℤ z
tail_is z within = by (pos limit -ℤ z) (omega (arith, ints, within.1))
  where
    by : (y : ℤ) → pos 0 ≤ℤ y → pos (as_time y) ≡ y
    by (pos n) h = refl
    by (negsuc n) h = absurd (omega (arith, ints, h))

pub due_within : (k : ProblemData) → IsSized k → (j : ℕ) → IsProblemJob k j → IsWithin (problem_due k j)
due_within k sized j job = by k.problem.goal
  where
    none : IsWithin (pos 0)
    none = (omega (arith, ints), omega (arith, ints))

    own : IsWithin (problem_job k j).due
    own = (sized_job k sized j job).due

    by : (goal : Goal) → IsWithin (due_by goal k j)
    by goals.Cmax = none
    by goals.Lmax = own
    by goals.Hmax = none
    by goals.SumC = none
    by goals.SumWC = none
    by goals.SumT = own
    by goals.SumWT = own
    by goals.SumU = own
    by goals.SumWU = own

module _ (k : ProblemData) (sized : IsSized k) where
  -- the number of a job in a list of all jobs
  pub in_list : (f : ℕ → ℕ) (xs : List ℕ) → xs ≡ map f (problem_jobs k) → (j : ℕ) → IsProblemJob k j
      → release_in xs j ≡ f j
  in_list f xs is j job =
      ap (λ l. slice_index l (j - 1)) is
      ∙ get_or-map-range_with_len f 1 (length k.jobs) (j - 1) j 0 (omega (arith, job.0, job.1))
      (omega (arith, job.0))

  pub all_in_list : (f : ℕ → ℕ) (xs : List ℕ) → xs ≡ map f (problem_jobs k)
      → length xs ≡ length k.jobs
  all_in_list f xs is = ap length is ∙ length-map-range_with_len f 1 (length k.jobs)

  pub few_in_list : (f : ℕ → ℕ) (xs : List ℕ) → xs ≡ map f (problem_jobs k)
      → length xs ≤ most_jobs
  few_in_list f xs is = omega (arith, all_in_list f xs is, sized.few_jobs)

  -- a job's own tail
  pub own_tail : (own : List ℕ) → own ≡ map (number_by Tail k) (problem_jobs k)
      → (j : ℕ) → IsProblemJob k j → pos (release_in own j) ≡ pos limit -ℤ problem_due k j
  own_tail own owns j job =
      ap pos (in_list (number_by Tail k) own owns j job)
      ∙ tail_is (problem_due k j) (due_within k sized j job)

  module _ (work : List ℕ) (works : work ≡ map (problem_work k) (problem_jobs k)) where
    pub work_of : (j : ℕ) → IsProblemJob k j → release_in work j ≡ problem_work k j
    work_of = in_list (problem_work k) work works

    -- dates along the arcs from the release dates on
    module _ (own dates : List ℕ) (owns : own ≡ map (problem_release k) (problem_jobs k))
        (along : AreAlong own work k.arcs dates) where
      place : (j : ℕ) → IsProblemJob k j → j - 1 < length own
      place j job = omega (arith, job.0, job.1, all_in_list (problem_release k) own owns)

      least : (j : ℕ) → IsProblemJob k j
          → (slice_index dates (j - 1) ≤ slice_index own (j - 1))
          ⊎ FollowsByArc work dates k.arcs (j - 1 + 1)
          → (release_in dates j ≤ problem_release k j)
          ⊎ ((i : ℕ) × Contains {X = ℕ × ℕ} k.arcs (i, j)
          × (release_in dates j ≤ release_in dates i + problem_work k i))
      least j job (inl le) = inl (omega (arith, le, in_list (problem_release k) own owns j job))
      least j job (inr by) =
          let next : j - 1 + 1 ≡ j = omega (arith, job.0) in
          let at = subst (FollowsByArc work dates k.arcs) next by in
          let i : ℕ = at.0 in
          let before : IsProblemJob k i = (All-contains {X = ℕ × ℕ}
          (λ arc. IsProblemJob k arc.0 × IsProblemJob k arc.1) k.arcs (i, j) sized.arcs_in at.1).0 in
          inr (i, at.1, omega (arith, at.2, work_of i before))

      pub heads_along : AreHeads k dates
      heads_along = record {
        len = along.len ∙ all_in_list (problem_release k) own owns;
        from_own = λ j job.
            omega (
              arith,
              in_list (problem_release k) own owns j job,
              along.from_own (j - 1) (place j job),
            );
        along = λ i d lt.
            let arc = get_or k.arcs i d in
            omega (arith, along.along i d lt, work_of arc.0 (sized.arcs_in i d lt).0);
        least = λ j job. least j job (along.least (j - 1) (place j job));
      }

    -- and from the due dates back, by dates along the arcs the other way round
    module _ (own tails : List ℕ) (owns : own ≡ map (number_by Tail k) (problem_jobs k))
        (along : AreAlong own work (map swap k.arcs) tails)
        (d : List ℤ) (back : d ≡ map (λ tail. pos limit -ℤ pos tail) tails) where
      back_place : (j : ℕ) → IsProblemJob k j → j - 1 < length own
      back_place j job = omega (arith, job.0, job.1, all_in_list (number_by Tail k) own owns)

      due_is : (j : ℕ) → IsProblemJob k j → due_in d j ≡ pos limit -ℤ pos (release_in tails j)
      due_is j job =
          ap (λ l. slice_index_or l (j - 1) (pos 0)) back
          ∙ get_or-map (λ tail. pos limit -ℤ pos tail) tails (j - 1) 0 (pos 0)
          (omega (arith, back_place j job, along.len))

      last : (i : ℕ) → IsProblemJob k i
          → (slice_index tails (i - 1) ≤ slice_index own (i - 1))
          ⊎ FollowsByArc work tails (map swap k.arcs) (i - 1 + 1)
          → (problem_due k i ≤ℤ due_in d i)
          ⊎ ((j : ℕ) × Contains {X = ℕ × ℕ} k.arcs (i, j)
          × ((due_in d j -ℤ pos (problem_work k j)) ≤ℤ due_in d i))
      last i job (inl le) = inl (omega (arith, ints, le, own_tail own owns i job, due_is i job))
      last i job (inr by) =
          let next : i - 1 + 1 ≡ i = omega (arith, job.0) in
          let at = subst (FollowsByArc work tails (map swap k.arcs)) next by in
          let j : ℕ = at.0 in
          let has : Contains {X = ℕ × ℕ} k.arcs (i, j) = contains_swapped k.arcs j i at.1 in
          let after : IsProblemJob k j = (All-contains {X = ℕ × ℕ}
          (λ arc. IsProblemJob k arc.0 × IsProblemJob k arc.1) k.arcs (i, j) sized.arcs_in has).1 in
          inr (
            j,
            has,
            omega (arith, ints, at.2, work_of j after, due_is i job, due_is j after),
          )

      pub deadlines_along : AreDeadlines k d
      deadlines_along = record {
        len = ap length back ∙ length-map tails (λ tail. pos limit -ℤ pos tail) ∙ along.len
            ∙ all_in_list (number_by Tail k) own owns;
        from_own = λ j job.
            omega (
              arith,
              ints,
              own_tail own owns j job,
              due_is j job,
              along.from_own (j - 1) (back_place j job),
            );
        along = λ i e lt.
            let arc = get_or k.arcs i e in
            let jobs = sized.arcs_in i e lt in
            let kept = subst (λ (back : ℕ × ℕ). release_in tails back.0 + release_in work back.0
            ≤ release_in tails back.1) (get_or-map swap k.arcs i e (swap e) lt)
            (along.along i (swap e) (omega (arith, lt, length-map k.arcs swap))) in
            omega (
              arith,
              ints,
              kept,
              work_of arc.1 jobs.1,
              due_is arc.0 jobs.0,
              due_is arc.1 jobs.1,
            );
        greatest = λ i job. last i job (along.least (i - 1) (back_place i job));
      }
