-- The line of a flow shop's jobs: when it ends, and the last job that machine 2 waits for.
use Rattle.std.proofs.Common.{◌≡◌, ◌⊎◌, ℕ, ◌+◌, ◌<◌, ◌≤◌, pos, true, false, max, List, [], ◌∷◌, ◌++◌, length, get_or, take, refl, sym, ap, subst, ◌∙◌, arith, inl, inr, ⊎_elim, slice_index}
use Rattle.std.specs.List.{All, sum_by}
use Rattle.std.specs.List.Sorted.{IsPermutation, IsNonDecreasing}
use Rattle.std.proofs.lemmas.Bool.{cases_lt}
use Rattle.std.proofs.lemmas.Bool.Decides.{nat_tests}
use Rattle.std.proofs.lemmas.List.{take_more, get_or_default}
use Rattle.std.proofs.lemmas.List.FromFn.{length-range_with_len}
use Rattle.std.proofs.lemmas.List.Sorted.{sum_by-IsPermutation, All-permutation, length_permutation}
use Rattle.std.proofs.lemmas.List.Sums.{sum_by-cons, sum_by_more, sum_by-take-le}
use Rattle.tf_model.specs.Limit.{limit}
use Rattle.tf_model.specs.SchedulingTask.{SchedulingTask, IsJob, all_jobs}
use Rattle.tf_model.specs.Sound.{IsSound}
use Rattle.tf_check.specs.Claim.{BySplit}
use Rattle.tf_model.proofs.Costs.{All-all_jobs}
use Rattle.tf_multi.specs.Johnson.{line_end, IsAwaited, IsTurn, front_at, split_by, IsTurnSplit}
use Rattle.tf_multi.specs.TwoMachines.{time_at}

module _ (f : ℕ → ℕ → ℕ) where
  -- the time of jobs on machine 1, and on machine 2
  abbrev pub firsts : List ℕ → ℕ
  firsts js = sum_by (λ j. f j 1) js

  abbrev pub seconds : List ℕ → ℕ
  seconds js = sum_by (λ j. f j 2) js

  -- with one more job at the end
  line_end_push : (e g : ℕ) (js : List ℕ) (x : ℕ)
      → line_end f e g (js ++ x ∷ []) ≡ max (e + firsts js + f x 1) (line_end f e g js) + f x 2
  line_end_push e g [] x = omega arith
  line_end_push e g (j ∷ js) x = omega (
    arith,
    line_end_push (e + f j 1) (max (e + f j 1) g + f j 2) js x,
    sum_by-cons (λ i. f i 1) j js,
  )

  -- the line is no longer than all work
  line_end_within : (e g : ℕ) (js : List ℕ)
      → line_end f e g js ≤ max e g + sum_by (λ j. f j 1 + f j 2) js
  line_end_within e g [] = omega arith
  line_end_within e g (j ∷ js) = omega (
    arith,
    line_end_within (e + f j 1) (max (e + f j 1) g + f j 2) js,
    sum_by-cons (λ i. f i 1 + f i 2) j js,
  )

  module _ (order : List ℕ) where
    -- behind the first i jobs machine 1 is free from e and machine 2 from g, and the job at place
    -- `late` is the last that machine 2 waited for
    pub record IsTurned (i e g late : ℕ) : Type 0 where
      pub first : e ≡ firsts (take i order)
      pub end : g ≡ line_end f 0 0 (take i order)
      pub start : i ≡ 0 → (g ≡ 0) × (late ≡ 0)
      pub place : 0 < i → late < i
      pub awaited : IsAwaited f order late ⊎ (late ≡ 0)
      pub last : (m : ℕ) → late < m → m < i → ¬ (IsAwaited f order m)
      pub second : 0 < i
          → g + seconds (take late order) ≡ firsts (take (late + 1) order) + seconds (take i order)

    pub turned_start : IsTurned 0 0 0 0
    turned_start = record {
      first = refl;
      end = refl;
      start = λ e. (refl, refl);
      place = λ h. absurd (omega arith);
      awaited = inr refl;
      last = λ m from until. absurd (omega arith);
      second = λ h. absurd (omega arith);
    }

    module _ (i e g late x : ℕ) (h : i < length order) (is : x ≡ get_or order i x)
        (turned : IsTurned i e g late) where
      next : line_end f 0 0 (take (i + 1) order) ≡ max (e + f x 1) g + f x 2
      next =
          let more : take (i + 1) order ≡ take i order ++ x ∷ [] = take_more order i x h
          ∙ ap (λ y. take i order ++ y ∷ []) (sym is) in
          ap (line_end f 0 0) more ∙ omega
          (arith, line_end_push 0 0 (take i order) x, turned.first, turned.end)

      -- it is no longer than all work
      pub next_within : max (e + f x 1) g + f x 2 ≤ sum_by (λ j. f j 1 + f j 2) order
      next_within = omega (
        arith,
        next,
        line_end_within 0 0 (take (i + 1) order),
        sum_by-take-le (λ j. f j 1 + f j 2) order (i + 1),
      )

      more_first : firsts (take (i + 1) order) ≡ firsts (take i order) + f x 1
      more_first = sum_by_more (λ j. f j 1) order i x h
          ∙ ap (λ y. firsts (take i order) + f y 1) (sym is)

      more_second : seconds (take (i + 1) order) ≡ seconds (take i order) + f x 2
      more_second = sum_by_more (λ j. f j 2) order i x h
          ∙ ap (λ y. seconds (take i order) + f y 2) (sym is)

      module _ (e' g' late' : ℕ) (first : e' ≡ e + f x 1) (second : g' ≡ max (e + f x 1) g + f x 2)
          (at_late : g < e + f x 1 → late' ≡ i) (at_same : e + f x 1 ≤ g → late' ≡ late) where
        here : g < e + f x 1 → IsAwaited f order i
        here lt = omega (arith, lt, turned.end, more_first, turned.first)

        not_here : e + f x 1 ≤ g → ¬ (IsAwaited f order i)
        not_here le awaited = absurd (omega (arith, awaited, le, turned.end, more_first, turned.first))

        -- no later job was awaited than before, where this one is not
        none_later : e + f x 1 ≤ g → (m : ℕ) → late < m → m < i + 1 → ¬ (IsAwaited f order m)
        none_later le m from until = ⊎_elim
            (λ lt. turned.last m from lt)
            (λ ge. subst (λ n. ¬ (IsAwaited f order n)) (the_last m until ge) (not_here le))
            (cases_lt m i)
          where
            the_last : (m : ℕ) → m < i + 1 → i ≤ m → i ≡ m
            the_last m until ge = omega arith

        -- where the turn is at place l
        turned_at : (l : ℕ) → late' ≡ l → l < i + 1 → IsAwaited f order l ⊎ (l ≡ 0)
            → ((m : ℕ) → l < m → m < i + 1 → ¬ (IsAwaited f order m))
            → g' + seconds (take l order) ≡ firsts (take (l + 1) order) + seconds
            (take (i + 1) order)
            → IsTurned (i + 1) e' g' late'
        turned_at l at low awaited last p = record {
          first = omega (arith, first, more_first, turned.first);
          end = second ∙ sym next;
          start = λ z. absurd (omega arith);
          place = λ z. omega arith;
          awaited = subst (λ n. IsAwaited f order n ⊎ (n ≡ 0)) (sym at) awaited;
          last = subst (λ n. (m : ℕ) → n < m → m < i + 1 → ¬ (IsAwaited f order m)) (sym at) last;
          second = λ z. subst
              (λ n. g' + seconds (take n order)
              ≡ firsts (take (n + 1) order) + seconds (take (i + 1) order)) (sym at) p;
        }

        pub turned_more : IsTurned (i + 1) e' g' late'
        turned_more = ⊎_elim
            (λ lt. turned_at i (at_late lt) (omega arith) (inl (here lt))
            (λ m from until. absurd (omega arith))
            (omega (arith, first, second, more_first, more_second, turned.first)))
            (λ le. ⊎_elim
            (λ some. turned_at late (at_same le) (omega (arith, turned.place some)) turned.awaited
            (none_later le)
            (omega (arith, first, second, more_second, turned.second some)))
            (λ none.
            let begin : i ≡ 0 = omega arith in
            let at = turned.start begin in
            turned_at i (omega (arith, at_same le, at.1)) (omega arith) (inr begin)
            (λ m from until. absurd (omega arith))
            (omega (arith, first, second, more_first, more_second, turned.first, at.0)))
            (cases_lt 0 i))
            (cases_lt g (e + f x 1))

  -- ---- the split at the turn

  module _ (order : List ℕ) (n x : ℕ) (h : n < length order) (is : x ≡ get_or order n x)
      (turn : IsTurn f order n) where
    own : slice_index order n ≡ x
    own = get_or_default order n 0 x h ∙ sym is

    pub split_before : (side : List ℕ) → IsPermutation (take n order) side → IsNonDecreasing side
        → f x 1 ≤ f x 2 → IsTurnSplit f order (BySplit side (pos (f x 1)) true)
    split_before side is_side rising short = record {
      turn = n;
      is_turn = turn;
      side = side;
      front = subst (λ y. IsPermutation (front_at f order n y) side) (sym own)
          (subst (λ js. IsPermutation js side) (sym (front_short x short)) is_side);
      rising = rising;
      certificate = sym (ap (λ y. split_by f y side) own ∙ split_short x short);
    }
      where
        front_short : (y : ℕ) → f y 1 ≤ f y 2 → front_at f order n y ≡ take n order
        front_short y le = grind (arith, nat_tests)

        split_short : (y : ℕ) → f y 1 ≤ f y 2 → split_by f y side ≡ BySplit side (pos (f y 1)) true
        split_short y le = grind (arith, nat_tests)

    pub split_up_to : (side : List ℕ) → IsPermutation (take (n + 1) order) side
        → IsNonDecreasing side → f x 2 < f x 1
        → IsTurnSplit f order (BySplit side (pos (f x 2)) false)
    split_up_to side is_side rising long = record {
      turn = n;
      is_turn = turn;
      side = side;
      front = subst (λ y. IsPermutation (front_at f order n y) side) (sym own)
          (subst (λ js. IsPermutation js side) (sym (front_long x long)) is_side);
      rising = rising;
      certificate = sym (ap (λ y. split_by f y side) own ∙ split_long x long);
    }
      where
        front_long : (y : ℕ) → f y 2 < f y 1 → front_at f order n y ≡ take (n + 1) order
        front_long y lt = grind (arith, nat_tests)

        split_long : (y : ℕ) → f y 2 < f y 1 → split_by f y side ≡ BySplit side (pos (f y 2)) false
        split_long y lt = grind (arith, nat_tests)

-- ---- all jobs, in any order

module _ (task : SchedulingTask) (order : List ℕ) (whole : IsPermutation (all_jobs task) order)
  where
    pub order_jobs : All (IsJob task) order
    order_jobs = All-permutation (IsJob task) (all_jobs task) order whole
        (All-all_jobs task (IsJob task) (λ j job. job))

    pub order_job : (i x : ℕ) → i < length order → x ≡ get_or order i x → IsJob task x
    order_job i x h is = subst (IsJob task) (sym is) (order_jobs i x h)

    pub order_some : IsSound task → 0 < length order
    order_some sound = omega (
      arith,
      length_permutation (all_jobs task) order whole,
      length-range_with_len 1 (length task.jobs),
      sound.some_job,
    )

    -- their work is within the limit
    pub order_total : IsSound task → sum_by (λ j. time_at task j 1 + time_at task j 2) order ≤ limit
    order_total sound = omega (
      arith,
      sum_by-IsPermutation (λ j. time_at task j 1 + time_at task j 2) (all_jobs task) order whole,
      sound.total,
    )

    -- and so is the end of their line
    pub order_end : IsSound task → (i e g late : ℕ) → IsTurned (time_at task) order i e g late
        → g ≤ limit
    order_end sound i e g late turned = omega (
      arith,
      turned.end,
      line_end_within (time_at task) 0 0 (take i order),
      sum_by-take-le (λ j. time_at task j 1 + time_at task j 2) order i,
      order_total sound,
    )
