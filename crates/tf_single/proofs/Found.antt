-- The successors that are found, arc by arc.
use Rattle.std.proofs.Common.{◌≡◌, ◌≢◌, ◌⊎◌, inl, inr, ℕ, ◌+◌, ◌-◌, ◌<◌, ◌≤◌, Option, None, Some, List, length, get_or, set, replicate, refl, sym, ap, ◌∙◌, subst, arith, ⊎_elim, Contains}
use Rattle.std.proofs.lemmas.Bool.{cases_eq, cases_lt}
use Rattle.std.proofs.lemmas.List.{length-set, length-replicate, get_or-replicate, get_or-set_same, get_or-set_other, get_or_default}
use Rattle.std.proofs.lemmas.List.Elements.{Contains-get_or}
use Rattle.tf_model.specs.SchedulingTask.{SchedulingTask, IsJob}
use Rattle.tf_model.specs.Sound.{IsSound}
use Rattle.tf_single.specs.Progress.{of_job}
use Rattle.tf_single.specs.Successors.{HasSuccessor, AreSuccessors, AreSmallest, smaller_of}

-- ---- the smaller of two jobs, where there is a first

pub smaller_which : (found : Option ℕ) (j x : ℕ) → x ≡ smaller_of found j → (x ≡ j) ⊎ (found ≡ Some x)
smaller_which None j x is = inl is
smaller_which (Some i) j x is = ⊎_elim
    (λ less. inr (ap (λ (m : ℕ). Some m) (omega (arith, is, less))))
    (λ more. inl (omega (arith, is, more)))
    (cases_lt i j)

pub smaller_own : (found : Option ℕ) (j x : ℕ) → x ≡ smaller_of found j → x ≤ j
smaller_own None j x is = omega (arith, is)
smaller_own (Some i) j x is = omega (arith, is)

pub smaller_least : (found : Option ℕ) (j x : ℕ) → x ≡ smaller_of found j → (y : ℕ) → found ≡ Some y
    → x ≤ y
smaller_least None j x is y some = cc
smaller_least (Some i) j x is y some = let same : i ≡ y = cc in omega (arith, is, same)

-- ---- what is found

-- by the first i arcs: what is found is a successor of which some arcs are left, and none of these
-- is smaller; where nothing is found there is none
pub record IsFoundBy (k : SchedulingTask) (counts : List ℕ) (arcs : List (ℕ × ℕ)) (i : ℕ)
    (next : List (Option ℕ)) : Type 0 where
  pub len : length next ≡ length k.jobs
  pub found : (j x : ℕ) → IsJob k j → get_or next (j - 1) None ≡ Some x
      → Contains arcs (j, x) × (0 < of_job counts x)
  pub none : (j : ℕ) → IsJob k j → get_or next (j - 1) None ≡ None → (n : ℕ) (d : ℕ × ℕ) → n < i
      → n < length arcs → (get_or arcs n d).0 ≡ j → 0 < of_job counts (get_or arcs n d).1 → ⊥
  pub least : (j x : ℕ) → IsJob k j → get_or next (j - 1) None ≡ Some x → (n : ℕ) (d : ℕ × ℕ)
      → n < i → n < length arcs → (get_or arcs n d).0 ≡ j → 0 < of_job counts (get_or arcs n d).1
      → x ≤ (get_or arcs n d).1

-- no arc yet, and nothing is found
pub found_none : (k : SchedulingTask) (counts : List ℕ) (arcs : List (ℕ × ℕ))
    (next : List (Option ℕ)) (n : ℕ) → n ≡ length k.jobs → next ≡ replicate n None
    → IsFoundBy k counts arcs 0 next
found_none k counts arcs next n size is =
    let empty : (j : ℕ) → IsJob k j → get_or next (j - 1) None ≡ None = λ j job.
    ap (λ xs. get_or xs (j - 1) None) is
    ∙ get_or-replicate n (j - 1) None None (omega (arith, size, job.0, job.1)) in
    record {
      len = ap length is ∙ length-replicate n None ∙ size;
      found = λ j x job some. absurd (none_some x (sym (empty j job) ∙ some));
      none = λ j job e m d less in' from left. omega (arith, less);
      least = λ j x job some m d less in' from left. absurd (omega (arith, less));
    }
  where
    none_some : (x : ℕ) → ◌≡◌ {A = Option ℕ} None (Some x) → ⊥
    none_some x e = cc

module _ (k : SchedulingTask) (counts : List ℕ) (arcs : List (ℕ × ℕ)) (i : ℕ)
    (next : List (Option ℕ)) (lt : i < length arcs) (arc : ℕ × ℕ) (at : get_or arcs i arc ≡ arc)
    (so_far : IsFoundBy k counts arcs i next) where
  at_any : (d : ℕ × ℕ) → get_or arcs i d ≡ arc
  at_any d = get_or_default arcs i d arc lt ∙ at

  -- an arc to a job of which none are left
  pub found_same : of_job counts arc.1 ≡ 0 → IsFoundBy k counts arcs (i + 1) next
  found_same over = record {
    len = so_far.len;
    found = so_far.found;
    none = λ j job e n d less in' from left. ⊎_elim
        (λ before. so_far.none j job e n d before in' from left)
        (λ last. let same : n ≡ i = omega (arith, less, last) in
        omega (
          arith,
          left,
          ap (λ m. of_job counts (get_or arcs m d).1) same,
          ap (λ (a : ℕ × ℕ). of_job counts a.1) (at_any d),
          over,
        ))
        (cases_lt n i);
    least = λ j x job e n d less in' from left. ⊎_elim
        (λ before. so_far.least j x job e n d before in' from left)
        (λ last. let same : n ≡ i = omega (arith, less, last) in
        omega (
          arith,
          left,
          ap (λ m. of_job counts (get_or arcs m d).1) same,
          ap (λ (a : ℕ × ℕ). of_job counts a.1) (at_any d),
          over,
        ))
        (cases_lt n i);
  }

  -- an arc to a job of which some are left
  pub found_more : 0 < of_job counts arc.1 → IsJob k arc.0 → (x : ℕ)
      → x ≡ smaller_of (get_or next (arc.0 - 1) None) arc.1
      → IsFoundBy k counts arcs (i + 1) (set next (arc.0 - 1) (Some x))
  found_more some from x smaller = record {
    len = length-set next (arc.0 - 1) (Some x) ∙ so_far.len;
    found = λ j y job e. ⊎_elim
        (λ same. subst (λ z. Contains arcs (z, y) × (0 < of_job counts y)) (sym same)
        (own y (sym (here j same) ∙ e)))
        (λ differ. so_far.found j y job (sym (there j job differ) ∙ e))
        (cases_eq j arc.0);
    none = λ j job e n d less in' own_from left. ⊎_elim
        (λ same. absurd (no_some (sym (here j same) ∙ e)))
        (λ differ. ⊎_elim
        (λ before. so_far.none j job (sym (there j job differ) ∙ e) n d before in' own_from left)
        (λ last. let same : n ≡ i = omega (arith, less, last) in
        differ (sym own_from ∙ ap (λ m. (get_or arcs m d).0) same
        ∙ ap (λ (a : ℕ × ℕ). a.0) (at_any d)))
        (cases_lt n i))
        (cases_eq j arc.0);
    least = λ j y job e n d less in' own_from left. ⊎_elim
        (λ same. let is : x ≡ y = the_same y (sym (here j same) ∙ e) in
        omega (arith, is, least_here n d less in' (own_from ∙ same) left))
        (λ differ. ⊎_elim
        (λ before. so_far.least j y job (sym (there j job differ) ∙ e) n d before in' own_from left)
        (λ last. let same : n ≡ i = omega (arith, less, last) in
        absurd (differ (sym own_from ∙ ap (λ m. (get_or arcs m d).0) same
        ∙ ap (λ (a : ℕ × ℕ). a.0) (at_any d))))
        (cases_lt n i))
        (cases_eq j arc.0);
  }
    where
      which : (x ≡ arc.1) ⊎ (get_or next (arc.0 - 1) None ≡ Some x)
      which = smaller_which (get_or next (arc.0 - 1) None) arc.1 x smaller

      -- no arc from the same job leads to a smaller one
      least_here : (n : ℕ) (d : ℕ × ℕ) → n < i + 1 → n < length arcs → (get_or arcs n d).0 ≡ arc.0
          → 0 < of_job counts (get_or arcs n d).1 → x ≤ (get_or arcs n d).1
      least_here n d less in' own_from left = ⊎_elim
          (λ before. by_option (get_or next (arc.0 - 1) None) refl before)
          (λ last. let same : n ≡ i = omega (arith, less, last) in
          omega (
            arith,
            smaller_own (get_or next (arc.0 - 1) None) arc.1 x smaller,
            ap (λ m. (get_or arcs m d).1) same,
            ap (λ (a : ℕ × ℕ). a.1) (at_any d),
          ))
          (cases_lt n i)
        where
          by_option : (o : Option ℕ) → get_or next (arc.0 - 1) None ≡ o → n < i
              → x ≤ (get_or arcs n d).1
          by_option (Some z) e before =
              omega (
                arith,
                smaller_least (get_or next (arc.0 - 1) None) arc.1 x smaller z e,
                so_far.least arc.0 z from e n d before in' own_from left,
              )
          by_option None e before = absurd (so_far.none arc.0 from e n d before in' own_from left)

      here : (j : ℕ) → j ≡ arc.0 → get_or (set next (arc.0 - 1) (Some x)) (j - 1) None ≡ Some x
      here j same = ap (λ m. get_or (set next (arc.0 - 1) (Some x)) (m - 1) None) same
          ∙ get_or-set_same next (arc.0 - 1) (Some x) None
          (omega (arith, so_far.len, from.0, from.1))

      there : (j : ℕ) → IsJob k j → j ≢ arc.0
          → get_or (set next (arc.0 - 1) (Some x)) (j - 1) None ≡ get_or next (j - 1) None
      there j job differ =
          get_or-set_other next (arc.0 - 1) (j - 1) (Some x) None
          (λ e. differ (omega (arith, job.0, from.0)))

      no_some : ◌≡◌ {A = Option ℕ} (Some x) None → ⊥
      no_some e = cc

      the_same : (y : ℕ) → ◌≡◌ {A = Option ℕ} (Some x) (Some y) → x ≡ y
      the_same y e = cc

      own_x : Contains arcs (arc.0, x) × (0 < of_job counts x)
      own_x = ⊎_elim
          (λ is. subst (λ z. Contains arcs (arc.0, z) × (0 < of_job counts z)) (sym is)
          (subst (Contains arcs) at (Contains-get_or arcs i arc lt), some))
          (λ before. so_far.found arc.0 x from before)
          which

      own : (y : ℕ) → ◌≡◌ {A = Option ℕ} (Some x) (Some y)
          → Contains arcs (arc.0, y) × (0 < of_job counts y)
      own y e = subst (λ z. Contains arcs (arc.0, z) × (0 < of_job counts z)) (the_same y e) own_x

-- behind the last arc, where each job of which some arcs are left has an arc to another
module _ (k : SchedulingTask) (sound : IsSound k) (counts : List ℕ) (arcs : List (ℕ × ℕ)) (i : ℕ)
    (next : List (Option ℕ)) (same : arcs ≡ k.arcs) (over : length arcs ≤ i)
    (by : IsFoundBy k counts arcs i next)
    (stuck : (j : ℕ) → IsJob k j → 0 < of_job counts j → (x : ℕ) × Contains k.arcs (j, x)
    × (0 < of_job counts x)) where
  pub found_some : (j : ℕ) → IsJob k j → 0 < of_job counts j → HasSuccessor next j
  found_some j job left = by_option (get_or next (j - 1) None) refl
    where
      by_option : (o : Option ℕ) → get_or next (j - 1) None ≡ o → HasSuccessor next j
      by_option (Some x) e = (x, e)
      by_option None e =
          let arc = stuck j job left in
          let at : Contains arcs (j, arc.0) =
          subst (λ xs. Contains xs (j, arc.0)) (sym same) arc.1 in
          absurd (by.none j job e at.0 (j, arc.0) (omega (arith, at.1, over)) at.1
          (ap (λ (a : ℕ × ℕ). a.0) at.2)
          (subst (λ (a : ℕ × ℕ). 0 < of_job counts a.1) (sym at.2) arc.2))

  pub found_all : AreSuccessors k next
  found_all = record {
    len = by.len;
    each = λ j x job e.
        let its = by.found j x job e in
        let at : Contains k.arcs (j, x) = subst (λ xs. Contains xs (j, x)) same its.0 in
        let known : IsJob k (get_or k.arcs at.0 (j, x)).1 = (sound.arcs_in at.0 (j, x) at.1).1 in
        (at, found_some x (subst (λ (a : ℕ × ℕ). IsJob k a.1) at.2 known) its.1);
  }

  pub found_smallest : AreSmallest k counts next
  found_smallest j x listed =
      let its = by.found j x listed.0 listed.1 in
      record {
        arc = subst (λ xs. Contains xs (j, x)) same its.0;
        here = its.1;
        smallest = λ y arc left.
            let at : Contains arcs (j, y) = subst (λ xs. Contains xs (j, y)) (sym same) arc in
            let is : (get_or arcs at.0 (j, y)).1 ≡ y = ap (λ (a : ℕ × ℕ). a.1) at.2 in
            omega (
              arith,
              is,
              by.least j x listed.0 listed.1 at.0 (j, y) (omega (arith, at.1, over)) at.1
                  (ap (λ (a : ℕ × ℕ). a.0) at.2)
                  (subst (λ (a : ℕ × ℕ). 0 < of_job counts a.1) (sym at.2) left),
            );
      }
