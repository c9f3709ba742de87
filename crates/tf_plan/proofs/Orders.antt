-- An order that was built from the back, the last job first, keeps the arcs.
use Rattle.std.proofs.Common.{◌≡◌, ◌≢◌, ℕ, zero, suc, ◌+◌, ◌-◌, ◌<◌, List, [], ◌∷◌, length, get_or, take, reverse, refl, sym, ap, subst, ◌∙◌, arith, inl, inr, Bool, true, false, not, ◌&&◌, ◌==◌}
use Rattle.std.specs.List.{All, AllPairs, Contains, remove}
use Rattle.std.specs.List.Sorted.{IsPermutation}
use Rattle.std.proofs.lemmas.Bool.{cases_eq, cases_lt, false≢true, and_from, eq-eqb, not-false}
use Rattle.std.proofs.lemmas.List.{get_or_default, get_or-reverse, length-reverse}
use Rattle.std.proofs.lemmas.List.Edits.{length-remove, get_or-remove_below, get_or-remove_above}
use Rattle.std.proofs.lemmas.List.Elements.{All-contains}
use Rattle.std.proofs.lemmas.List.Sums.{AllPass-from_list_all}
use Rattle.std.proofs.lemmas.List.FromFn.{length-range_with_len}
use Rattle.std.proofs.lemmas.List.Sorted.{IsPermutation-refl, IsPermutation-trans, IsPermutation-cons, IsPermutation-to_front, IsPermutation-append_left, IsPermutation-reverse}
use Rattle.tf_model.specs.SchedulingTask.{SchedulingTask, IsJob}
use Rattle.tf_model.specs.Bounds.{stands_in}
use Rattle.tf_model.proofs.Work.{distinct_apart}
use Rattle.tf_posed.specs.ProblemData.{ProblemData, IsProblemJob, problem_jobs}
use Rattle.tf_problem.proofs.Least.{Contains-problem_jobs}
use Rattle.tf_single.specs.Backward.{AreChosen, rest_of}
use Rattle.tf_single.proofs.Rest.{in_rest, stands_from, stands_says}
use Rattle.tf_single.proofs.Taking.{left_length}
use Rattle.tf_single.proofs.BackwardTimetable.{chosen_pairs}
use Rattle.tf_plan.specs.SerialOrder.{IsSerialOrder, StandsBefore}

-- ---- different numbers that are all in a list of as many are that list in an order

swap_front : (x y : ℕ) (xs : List ℕ) → IsPermutation (x ∷ (y ∷ xs)) (y ∷ (x ∷ xs))
swap_front x y xs =
    IsPermutation-append_left xs (x ∷ (y ∷ [])) (y ∷ (x ∷ [])) (IsPermutation-to_front (x ∷ []) y)

removed_front : (xs : List ℕ) (n y : ℕ) → n < length xs → get_or xs n y ≡ y
    → IsPermutation xs (y ∷ remove xs n)
removed_front [] n y lt at = absurd (omega arith)
removed_front (x ∷ xs) zero y lt at =
    subst (λ z. IsPermutation (x ∷ xs) (z ∷ xs)) at (IsPermutation-refl (x ∷ xs))
removed_front (x ∷ xs) (suc n) y lt at =
    IsPermutation-trans (x ∷ xs) (x ∷ (y ∷ remove xs n)) (y ∷ (x ∷ remove xs n))
    (IsPermutation-cons x xs (y ∷ remove xs n) (removed_front xs n y (omega arith) at))
    (swap_front x y (remove xs n))

still_there : (xs : List ℕ) (n y z : ℕ) → n < length xs → get_or xs n y ≡ y → z ≢ y → Contains xs z
    → Contains (remove xs n) z
still_there xs n y z lt at differ (i, within, is) =
    let len = length-remove xs n lt in
    elim (cases_lt i n) [
      | inl less ↦ (i, omega (arith, len), get_or-remove_below xs n z i less lt ∙ is)
      | inr ge ↦ elim (cases_eq i n) [
        | inl same ↦ absurd
            (differ (sym is ∙ ap (λ a. get_or xs a z) same ∙ get_or_default xs n z y lt ∙ at))
        | inr away ↦
            let next : i - 1 + 1 ≡ i = omega arith in (
              i - 1,
              omega (arith, len),
              get_or-remove_above xs n z (i - 1) (omega arith) lt
                  ∙ ap (λ a. get_or xs a z) next ∙ is,
            )
      ]
    ]

pub same_numbers : (ys xs : List ℕ) → AllPairs (λ a b. a ≢ b) ys → All (Contains xs) ys
    → length xs ≡ length ys → IsPermutation xs ys
same_numbers [] [] apart all len = IsPermutation-refl []
same_numbers [] (x ∷ xs) apart all len = absurd (omega arith)
same_numbers (y ∷ ys) xs apart all len =
    let (n, lt, at) = all zero y (omega arith) in
    let rest : IsPermutation (remove xs n) ys =
    same_numbers ys (remove xs n)
    (λ a b d less within. apart (suc a) (suc b) d (omega arith) (omega arith))
    (λ a d h. still_there xs n y (get_or ys a d) lt at
    (λ e. apart zero (suc a) d (omega arith) (omega arith) (sym e))
    (all (suc a) d (omega arith)))
    (omega (arith, len, length-remove xs n lt)) in
    IsPermutation-trans xs (y ∷ remove xs n) (y ∷ ys) (removed_front xs n y lt at)
    (IsPermutation-cons y (remove xs n) ys rest)

-- ---- jobs that were taken the last first, by a task that has the same jobs and arcs

module _ (k : ProblemData) (t : SchedulingTask) (taken : List ℕ) (chosen : AreChosen t taken)
    (all : rest_of t taken ≡ []) (jobs : length t.jobs ≡ length k.jobs) (arcs : t.arcs ≡ k.arcs)
    (arcs_in : All (λ arc. IsProblemJob k arc.0 × IsProblemJob k arc.1) k.arcs) where
  as_job : (j : ℕ) → IsProblemJob k j → IsJob t j
  as_job j job = (job.0, omega (arith, job.1, jobs))

  is_taken : (j : ℕ) → IsProblemJob k j → Contains taken j
  is_taken j job =
      let none : not (stands_in taken j) ≡ false =
      sym (in_rest t taken j (as_job j job)) ∙ ap (λ xs. stands_in xs j) all in
      stands_says taken j (not-false (stands_in taken j) none)

  count : length taken ≡ length k.jobs
  count = omega (arith, left_length t taken chosen, ap (λ (xs : List ℕ). length xs) all, jobs)

  apart : AllPairs (λ a b. a ≢ b) taken
  apart = distinct_apart taken chosen.distinct

  problem_job_at : All (IsProblemJob k) taken
  problem_job_at n d h = let job = chosen.jobs n d h in (job.0, omega (arith, job.1, jobs))

  -- no arc leads from a job to itself
  no_loop : (x : ℕ) → x < length taken → Contains t.arcs (get_or taken x 0, get_or taken x 0) → ⊥
  no_loop x within at =
      let choice = chosen.choice x within in
      let y : ℕ = get_or taken x 0 in
      let left : List ℕ = rest_of t (take x taken) in
      let both : ℕ × ℕ → Bool = λ arc. (arc.0 == y) && stands_in left arc.1 in
      let passes : not (both (y, y)) ≡ true =
      All-contains (λ arc. not (both arc) ≡ true) t.arcs (y, y)
      (AllPass-from_list_all (λ arc. not (both arc)) t.arcs choice.free) at in
      let held : both (y, y) ≡ true =
      and_from (y == y) (stands_in left y) (eq-eqb y y refl) (stands_from left y choice.here) in
      false≢true (ap not (sym held) ∙ passes)

  -- the place of a job in the order of time
  turned : (x : ℕ) → x < length taken
      → get_or (reverse taken) (length taken - 1 - x) 0 ≡ get_or taken x 0
  turned x within =
      let back : length taken - 1 - (length taken - 1 - x) ≡ x = omega (arith, within) in
      get_or-reverse taken (length taken - 1 - x) 0 (omega (arith, within))
      ∙ ap (λ n. get_or taken n 0) back

  arc_kept : (a b : ℕ) → Contains k.arcs (a, b) → IsProblemJob k a → IsProblemJob k b
      → StandsBefore (reverse taken) a b
  arc_kept a b arc job_a job_b =
      let (x, in_x, at_x) = is_taken a job_a in
      let (y, in_y, at_y) = is_taken b job_b in
      let read_x : get_or taken x 0 ≡ a = get_or_default taken x 0 a in_x ∙ at_x in
      let read_y : get_or taken y 0 ≡ b = get_or_default taken y 0 b in_y ∙ at_y in
      let here : Contains t.arcs (get_or taken x 0, get_or taken y 0) =
      subst (λ es. Contains es (get_or taken x 0, get_or taken y 0)) (sym arcs)
      (subst (λ z. Contains k.arcs (get_or taken x 0, z)) (sym read_y)
      (subst (λ z. Contains k.arcs (z, b)) (sym read_x) arc)) in
      elim (cases_lt y x) [
        | inl less ↦ record {
          x = length taken - 1 - x;
          y = length taken - 1 - y;
          lt = omega (arith, less, in_x, in_y);
          within = omega (arith, in_y, length-reverse taken);
          first = turned x in_x ∙ read_x;
          second = turned y in_y ∙ read_y;
        }
        | inr ge ↦ elim (cases_eq x y) [
          | inl same ↦ absurd
              (no_loop x in_x
              (subst (λ z. Contains t.arcs (get_or taken x 0, get_or taken z 0)) (sym same) here))
          | inr differ ↦ absurd ((chosen_pairs t taken chosen x y 0 (omega arith) in_y).1 here)
        ]
      ]

  pub serial_order : IsSerialOrder k (reverse taken)
  serial_order = record {
    jobs = λ n d h.
        let in' : n < length taken = omega (arith, h, length-reverse taken) in
        subst (IsProblemJob k) (sym (get_or-reverse taken n d in'))
        (problem_job_at (length taken - 1 - n) d (omega (arith, in')));
    all = IsPermutation-trans (problem_jobs k) taken (reverse taken)
        (same_numbers taken (problem_jobs k) apart
        (λ n d h. Contains-problem_jobs k (get_or taken n d) (problem_job_at n d h))
        (omega (arith, count, length-range_with_len 1 (length k.jobs))))
        (IsPermutation-reverse taken);
    once = λ a b d less within e.
        let in' : b < length taken = omega (arith, within, length-reverse taken) in
        apart (length taken - 1 - b) (length taken - 1 - a) d (omega (arith, less, in'))
        (omega (arith, less, in'))
        (sym (get_or-reverse taken b d in') ∙ sym e ∙ get_or-reverse taken a d (omega (arith, less, in')));
    keeps = λ _ n d h.
        let arc = arcs_in n d h in
        arc_kept (get_or k.arcs n d).0 (get_or k.arcs n d).1
        (n, h, get_or_default k.arcs n (get_or k.arcs n d) d h) arc.0 arc.1;
  }
