-- Where no job is free, arcs lead on without end exactly from the jobs that are left.
use Rattle.std.proofs.Common.{◌≡◌, ℕ, zero, suc, ◌+◌, ◌<◌, Bool, true, false, not, ◌&&◌, ◌==◌, nat_lt, nat_le, List, [], length, get_or, take, refl, sym, ap, ◌∙◌, subst, arith, ⊎_elim, Contains}
use Rattle.std.specs.List.{list_all}
use Rattle.std.specs.Prelude.{IsTrue}
use Rattle.std.proofs.lemmas.Bool.{false≢true, and_parts, and_from, ltb-true, leb-true, lt-ltb, le-leb, eq-eqb, cases_Bool, cases_lt, not-false}
use Rattle.std.proofs.lemmas.List.{get_or-take, get_or_default, length-take-le}
use Rattle.std.proofs.lemmas.List.Folds.{list_all_at}
use Rattle.tf_model.specs.SchedulingTask.{SchedulingTask, IsJob}
use Rattle.tf_model.specs.Sound.{IsSound}
use Rattle.tf_model.specs.Bounds.{stands_in}
use Rattle.tf_check.specs.Bound.{is_free}
use Rattle.tf_single.specs.Backward.{rest_of, AreChosen}
use Rattle.tf_single.specs.Open.{IsOpen}
use Rattle.tf_single.specs.Progress.{of_job}
use Rattle.tf_single.specs.Successors.{IsLeft}
use Rattle.tf_single.specs.FirstCycle.{IsEndless, IsNextOf, IsFirstCycle}
use Rattle.tf_single.proofs.Open.{left_count, none_free}
use Rattle.tf_single.proofs.Rest.{in_rest, stands_says}
use Rattle.tf_single.proofs.Taking.{stuck}
use Rattle.tf_single.proofs.Walk.{walked_as}

-- ---- the walk among the jobs of another test that holds of the same jobs

module _ (k : SchedulingTask) (sound : IsSound k) where
  -- the job at the end of an arc
  pub arc_job : (i x : ℕ) → Contains k.arcs (i, x) → IsJob k x
  arc_job i x at =
      subst (λ (a : ℕ × ℕ). IsJob k a.1) at.2 (sound.arcs_in at.0 (i, x) at.1).1

  pub first_cycle_as : (P Q : ℕ → Type 0) (jobs : List ℕ) → ((j : ℕ) → IsJob k j → P j → Q j)
      → ((j : ℕ) → IsJob k j → Q j → P j) → IsFirstCycle k P jobs → IsFirstCycle k Q jobs
  first_cycle_as P Q jobs to from cycle = record {
    start = cycle.start;
    first = record {
      job = cycle.first.job;
      here = to cycle.start cycle.first.job cycle.first.here;
      smallest = λ i job q. cycle.first.smallest i job (from i job q);
    };
    walked = walked_as cycle.start (IsNextOf k P) (IsNextOf k Q) jobs next_as cycle.walked;
  }
    where
      next_as : (i x : ℕ) → IsNextOf k P i x → IsNextOf k Q i x
      next_as i x next = record {
        arc = next.arc;
        here = to x (arc_job i x next.arc) next.here;
        smallest = λ y arc q. next.smallest y arc (from y (arc_job i y arc) q);
      }

  -- ---- a job that is taken has no successor among those that are not taken before

  no_arc : (jobs : List ℕ) (i x : ℕ) → is_free k jobs i ≡ true → Contains k.arcs (i, x)
      → stands_in jobs x ≡ false
  no_arc jobs i x free at = ⊎_elim
      (λ yes.
      let here : arc_test (i, x) ≡ false =
      ap not (and_from (i == i) (stands_in jobs x) (eq-eqb i i refl) yes) in
      let none : list_all arc_test k.arcs ≡ false =
      list_all_at arc_test k.arcs at.0 (i, x) at.1
      (subst (λ (a : ℕ × ℕ). arc_test a ≡ false) (sym at.2) here) in
      absurd (false≢true (sym none ∙ free)))
      (λ no. no)
      (cases_Bool (stands_in jobs x))
    where
      arc_test : ℕ × ℕ → Bool
      arc_test arc = not ((arc.0 == i) && stands_in jobs arc.1)

  module _ (taken : List ℕ) (chosen : AreChosen k taken) (p : ℕ → Bool)
      (on : (i : ℕ) → IsTrue (p i) → (x : ℕ) × Contains k.arcs (i, x) × IsTrue (p x)) where
    -- so no walk without end goes through it
    taken_ends : (b n : ℕ) → n < b → n < length taken → IsTrue (p (get_or taken n 0)) → ⊥
    taken_ends zero n below lt here = absurd (omega arith)
    taken_ends (suc b) n below lt here =
        let next = on (get_or taken n 0) here in
        let x : ℕ = next.0 in
        let gone : stands_in (rest_of k (take n taken)) x ≡ false =
        no_arc (rest_of k (take n taken)) (get_or taken n 0) x (chosen.choice n lt).free next.1 in
        let before : stands_in (take n taken) x ≡ true =
        not-false (stands_in (take n taken) x)
        (sym (in_rest k (take n taken) x (arc_job (get_or taken n 0) x next.1)) ∙ gone) in
        let at = stands_says (take n taken) x before in
        let m : ℕ = at.0 in
        let early : m < n = omega (arith, at.1, length-take-le n taken (omega arith)) in
        let is : x ≡ get_or taken m 0 =
        sym at.2 ∙ sym (get_or_default (take n taken) m 0 x at.1) ∙ get_or-take n taken m 0 early in
        taken_ends b m (omega (arith, early, below)) (omega (arith, early, lt))
        (subst (λ y. IsTrue (p y)) is next.2)

  -- ---- where no job is free

  module _ (taken counts free : List ℕ) (now : IsOpen k taken (λ _. 0) counts free)
      (none : free ≡ []) where
    pub endless_left : AreChosen k taken → (j : ℕ) → IsJob k j → IsEndless k j → IsLeft counts j
    endless_left chosen j job (p, here, on) = ⊎_elim
        (λ some. some)
        (λ few. ⊎_elim
        (λ was.
        let at = stands_says taken j was in
        absurd (taken_ends taken chosen p on (at.0 + 1) at.0 (omega arith) at.1
        (subst (λ y. IsTrue (p y)) (sym (get_or_default taken at.0 0 j at.1 ∙ at.2)) here)))
        (λ left.
        omega (
          arith,
          few,
          left_count k sound taken counts free now j job,
          none_free k sound taken counts free now none j job left,
        ))
        (cases_Bool (stands_in taken j)))
        (cases_lt 0 (of_job counts j))

    abbrev is_left : ℕ → Bool
    is_left i = nat_lt 0 i && (nat_le i (length k.jobs) && nat_lt 0 (of_job counts i))

    left_says : (i : ℕ) → is_left i ≡ true → IsJob k i × IsLeft counts i
    left_says i h =
        let one = and_parts (nat_lt 0 i) (nat_le i (length k.jobs) && nat_lt 0 (of_job counts i)) h in
        let two = and_parts (nat_le i (length k.jobs)) (nat_lt 0 (of_job counts i)) one.1 in
        ((ltb-true 0 i one.0, leb-true i (length k.jobs) two.0), ltb-true 0 (of_job counts i) two.1)

    left_test : (i : ℕ) → IsJob k i → IsLeft counts i → is_left i ≡ true
    left_test i job some =
        and_from (nat_lt 0 i) (nat_le i (length k.jobs) && nat_lt 0 (of_job counts i))
        (lt-ltb 0 i job.0)
        (and_from (nat_le i (length k.jobs)) (nat_lt 0 (of_job counts i))
        (le-leb i (length k.jobs) job.1) (lt-ltb 0 (of_job counts i) some))

    pub left_endless : (j : ℕ) → IsJob k j → IsLeft counts j → IsEndless k j
    left_endless j job some = (
      is_left,
      left_test j job some,
      λ i h.
          let says = left_says i h in
          let next = stuck k sound taken counts free now none i says.0 says.1 in
          (next.0, next.1, left_test next.0 (arc_job i next.0 next.1) next.2),
    )

    pub first_endless : AreChosen k taken → (jobs : List ℕ) → IsFirstCycle k (IsLeft counts) jobs
        → IsFirstCycle k (IsEndless k) jobs
    first_endless chosen jobs cycle =
        first_cycle_as (IsLeft counts) (IsEndless k) jobs left_endless (endless_left chosen) cycle
