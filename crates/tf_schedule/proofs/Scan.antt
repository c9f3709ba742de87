-- What a walk over pieces in order knows of the cells that they claim, on the lines on which they
-- lie: machines or jobs.
use Rattle.std.proofs.Common.{◌≡◌, ℕ, zero, suc, ◌+◌, ◌-◌, ◌<◌, ◌≤◌, Bool, true, false, cond, List, [], ◌∷◌, length, get_or, take, drop, refl, sym, ap, subst, ◌∙◌, arith, length-drop}
use Rattle.std.specs.List.{All, AllPairs}
use Rattle.std.specs.List.Sorted.{IsPermutation}
use Rattle.std.proofs.lemmas.List.Sums.{sum_by_more, sum_by-take-le, sum_by-take-drop}
use Rattle.std.proofs.lemmas.List.Sorted.{sum_by-IsPermutation}
use Rattle.std.proofs.lemmas.List.{get_or-drop, take_all, get_or_default}
use Rattle.std.proofs.lemmas.Int.{ints}
use Rattle.std.proofs.lemmas.Bool.Decides.{nat_tests}
use Rattle.tf_schedule.specs.declared.piece.Piece.{Piece}
use Rattle.tf_schedule.specs.Piece.{as_time, covers_by, claims_by}
use Rattle.tf_schedule.specs.Claims.{OverlapBy}
use Rattle.tf_schedule.specs.Line.{StartsFirstClashBy}
use Rattle.tf_schedule.specs.Schedule.{ComesBeforeBy, IsPiece, NoneTwiceBy, IsFirstClashBy}
use Rattle.tf_schedule.proofs.Counting.{count_none}
use Rattle.tf_schedule.proofs.Times.{time_le, time_lt, time_late, sound_times}

module _ (line : Piece → ℕ) where
  -- the cell comes before the end of the piece
  abbrev pub IsBeforeEnd : ℕ → ℕ → Piece → Type 0
  IsBeforeEnd i t p = (i ≤ line p) × (i ≡ line p → t < as_time p.stop)

  -- the piece claims the cell, as a fact
  pub record IsClaimed (i t : ℕ) (p : Piece) : Type 0 where
    pub on_line : line p ≡ i
    pub started : as_time p.start ≤ t
    pub going : t < as_time p.stop

  pub claimed_from_test : (i t : ℕ) (p : Piece) → covers_by line i t p ≡ true → IsClaimed i t p
  claimed_from_test i t p h =
      record {
        on_line = grind (arith, nat_tests);
        started = grind (arith, nat_tests);
        going = grind (arith, nat_tests);
      }

  pub test_from_claimed : (i t : ℕ) (p : Piece) → IsClaimed i t p → covers_by line i t p ≡ true
  test_from_claimed i t p h = grind (arith, nat_tests)

  pub test_from_not_claimed : (i t : ℕ) (p : Piece) → ¬ (IsClaimed i t p)
      → covers_by line i t p ≡ false
  test_from_not_claimed i t p never = by_test (covers_by line i t p) refl
    where
      by_test : (b : Bool) → covers_by line i t p ≡ b → b ≡ false
      by_test true e = absurd (never (claimed_from_test i t p e))
      by_test false e = refl

  -- the first k pieces claim no cell twice, and none after the end of the last of them
  pub record IsScanned (ps : List Piece) (k : ℕ) : Type 0 where
    pub none_twice : NoneTwiceBy line (take k ps)
    pub before_end : (i t : ℕ) (d : Piece) → 0 < claims_by line (take k ps) i t
        → IsBeforeEnd i t (get_or ps (k - 1) d)

  -- one more piece claims its cells
  pub claims_more : (ps : List Piece) (k : ℕ) (d : Piece) (i t : ℕ) → k < length ps
      → claims_by line (take (k + 1) ps) i t ≡ claims_by line (take k ps) i t
      + cond (covers_by line i t (get_or ps k d)) 1 0
  claims_more ps k d i t h = sum_by_more (λ p. cond (covers_by line i t p) 1 0) ps k d h

  -- another order claims the same cells
  pub claims_permutation : (ps qs : List Piece) (i t : ℕ) → IsPermutation ps qs
      → claims_by line qs i t ≡ claims_by line ps i t
  claims_permutation ps qs i t h =
      sum_by-IsPermutation (λ p. cond (covers_by line i t p) 1 0) ps qs h

  pub none_twice_permutation : (ps qs : List Piece) → IsPermutation ps qs → NoneTwiceBy line qs
      → NoneTwiceBy line ps
  none_twice_permutation ps qs same once i t =
      omega (arith, claims_permutation ps qs i t same, once i t)

  pub first_clash_permutation : (ps qs : List Piece) (i t : ℕ) → IsPermutation ps qs
      → IsFirstClashBy line qs i t → IsFirstClashBy line ps i t
  first_clash_permutation ps qs i t same clash = record {
    here = omega (arith, claims_permutation ps qs i t same, clash.here);
    smaller = λ h u lt. omega (arith, claims_permutation ps qs h u same, clash.smaller h u lt);
    earlier = λ u lt. omega (arith, claims_permutation ps qs i u same, clash.earlier u lt);
  }

  -- a cell that a piece claims is before its end
  pub covered_before_end : (i t : ℕ) (p : Piece) → covers_by line i t p ≡ true → IsBeforeEnd i t p
  covered_before_end i t p h = let f = claimed_from_test i t p h in (omega arith, λ e. f.going)

  pub scan_start : (ps : List Piece) → IsScanned ps 1
  scan_start [] =
      record { none_twice = λ i t. omega arith; before_end = λ i t d h. absurd (omega arith) }
  scan_start (p ∷ ps) =
      record {
        none_twice = λ i t. one (covers_by line i t p);
        before_end = λ i t d h. covered_before_end i t p (was (covers_by line i t p) h);
      }
    where
      one : (b : Bool) → 0 + cond b 1 0 ≤ 1
      one true = omega arith
      one false = omega arith

      was : (b : Bool) → 0 < 0 + cond b 1 0 → b ≡ true
      was true h = refl
      was false h = absurd (omega arith)

  -- q starts where p has ended, so that it claims no cell before the end of p
  pub apart : (i t : ℕ) (p q : Piece) → line p ≤ line q
      → (line p ≡ line q → as_time p.stop ≤ as_time q.start) → covers_by line i t q ≡ true
      → IsBeforeEnd i t p → ⊥
  apart i t p q m s c before = let f = claimed_from_test i t q c in
      omega (arith, before.0, before.1)

  -- the end of p comes before that of q
  before_end_later : (i t : ℕ) (p q : Piece) → line p ≤ line q
      → (line p ≡ line q → as_time p.stop ≤ as_time q.start) → as_time q.start < as_time q.stop
      → IsBeforeEnd i t p → IsBeforeEnd i t q
  before_end_later i t p q m s full before =
      (omega (arith, before.0), λ e. omega (arith, before.0, before.1, s))

  -- a count goes up by one where nothing was counted
  pub none_twice_step : (b : Bool) (n more : ℕ) → more ≡ n + cond b 1 0 → n ≤ 1
      → (b ≡ true → 0 < n → ⊥) → more ≤ 1
  none_twice_step true n more e le never = let none : ¬ (0 < n) = never refl in omega arith
  none_twice_step false n more e le _ = omega arith

  -- the pieces before place k, and the others
  pub claims_split : (ps : List Piece) (k i t : ℕ)
      → claims_by line (take k ps) i t + claims_by line (drop k ps) i t ≡ claims_by line ps i t
  claims_split ps k i t = sum_by-take-drop (λ p. cond (covers_by line i t p) 1 0) ps k

  -- p and q are neighbors in a list in order
  module _ (ps : List Piece) (k : ℕ) (p q : Piece) (some : 0 < k) (in_range : k < length ps)
      (read_p : p ≡ get_or ps (k - 1) p) (read_q : q ≡ get_or ps k q)
      (sound : All IsPiece ps) (in_order : AllPairs (ComesBeforeBy line) ps)
      (scanned : IsScanned ps k) where
    is_p : (d : Piece) → get_or ps (k - 1) d ≡ p
    is_p d = get_or_default ps (k - 1) d p (omega arith) ∙ sym read_p

    is_q : (d : Piece) → get_or ps k d ≡ q
    is_q d = get_or_default ps k d q in_range ∙ sym read_q

    sound_q : IsPiece q
    sound_q = subst IsPiece (is_q q) (sound k q in_range)

    full : as_time q.start < as_time q.stop
    full = sound_times q sound_q

    p_then_q : ComesBeforeBy line p q
    p_then_q = subst (λ x. ComesBeforeBy line p x) (is_q q)
        (subst (λ x. ComesBeforeBy line x (get_or ps k q)) (is_p q)
        (in_order (k - 1) k q (omega arith) in_range))

    more_is : (i t : ℕ)
        → claims_by line (take (k + 1) ps) i t ≡ claims_by line (take k ps) i t
        + cond (covers_by line i t q) 1 0
    more_is i t = claims_more ps k q i t in_range
        ∙ ap (λ (x : Piece). claims_by line (take k ps) i t + cond (covers_by line i t x) 1 0)
        (is_q q)

    before_p : (i t : ℕ) → 0 < claims_by line (take k ps) i t → IsBeforeEnd i t p
    before_p i t h = subst (IsBeforeEnd i t) (is_p p) (scanned.before_end i t p h)

    module _ (clear : ¬ (OverlapBy line p q)) where
      after : line p ≡ line q → as_time p.stop ≤ as_time q.start
      after same = time_late q.start p.stop (λ h. clear (same, h))

      before_q : (i t : ℕ) (b : Bool) → covers_by line i t q ≡ b
          → claims_by line (take (k + 1) ps) i t ≡ claims_by line (take k ps) i t + cond b 1 0
          → 0 < claims_by line (take (k + 1) ps) i t → IsBeforeEnd i t q
      before_q i t true e more h = covered_before_end i t q e
      before_q i t false e more h =
          before_end_later i t p q p_then_q.0 after full (before_p i t (omega arith))

      -- the next piece starts where the one before it has ended
      pub scan_more : IsScanned ps (k + 1)
      scan_more = record {
        none_twice =
            λ i t. none_twice_step (covers_by line i t q) _ _ (more_is i t) (scanned.none_twice i t)
            (λ c h. apart i t p q p_then_q.0 after c (before_p i t h));
        before_end = λ i t d h.
            let same : k + 1 - 1 ≡ k = omega arith in
            subst (λ n. IsBeforeEnd i t (get_or ps n d)) (sym same)
            (subst (IsBeforeEnd i t) (sym (is_q d))
            (before_q i t (covers_by line i t q) refl (more_is i t) h));
      }

    module _ (overlap : OverlapBy line p q) where
      -- each later piece is q, or comes after it
      later : (n : ℕ) (d : Piece) → n < length (drop k ps)
          → ComesBeforeBy line q (get_or (drop k ps) n d)
      later zero d h =
          let here : k + 0 ≡ k = omega arith in
          let at : get_or (drop k ps) 0 d ≡ q = get_or-drop k ps 0 d ∙ ap (λ n. get_or ps n d) here
          ∙ is_q d in
          subst (ComesBeforeBy line q) (sym at) (omega arith, λ e. omega (arith, ints))
      later (suc n) d h =
          let far : ComesBeforeBy line (get_or ps k d) (get_or ps (k + suc n) d) =
          in_order k (k + suc n) d (omega arith) (omega (arith, length-drop k ps)) in
          subst (ComesBeforeBy line q) (sym (get_or-drop k ps (suc n) d))
          (subst (λ x. ComesBeforeBy line x (get_or ps (k + suc n) d)) (is_q d) far)

      none_later : (i t : ℕ) → i ≤ line q → (i ≡ line q → t < as_time q.start)
          → claims_by line (drop k ps) i t ≡ 0
      none_later i t machine before =
          count_none (covers_by line i t) (drop k ps)
          (λ n d h. test_from_not_claimed i t (get_or (drop k ps) n d) (λ c.
          let comes = later n d h in
          let rise : line q ≡ line (get_or (drop k ps) n d)
          → as_time q.start ≤ as_time (get_or (drop k ps) n d).start =
          λ e. time_le q.start (get_or (drop k ps) n d).start (comes.1 e) in
          omega (arith, comes.0, rise, before, c.on_line, c.started)))

      at_most_once : (i t : ℕ) → i ≤ line q → (i ≡ line q → t < as_time q.start)
          → claims_by line ps i t ≤ 1
      at_most_once i t machine before =
          omega (
            arith,
            claims_split ps k i t,
            none_later i t machine before,
            scanned.none_twice i t,
          )

      started : as_time p.start ≤ as_time q.start
      started = time_le p.start q.start (p_then_q.1 overlap.0)

      going : as_time q.start < as_time p.stop
      going = time_lt q.start p.stop sound_q.0.0 overlap.1

      counted : (n : ℕ) (r : Piece) → n < length ps → ((d : Piece) → get_or ps n d ≡ r)
          → covers_by line (line q) (as_time q.start) r ≡ true
          → claims_by line (take (n + 1) ps) (line q) (as_time q.start)
          ≡ claims_by line (take n ps) (line q) (as_time q.start) + 1
      counted n r h is c = claims_more ps n r _ _ h
          ∙ ap (λ (x : Bool). claims_by line (take n ps) (line q) (as_time q.start) + cond x 1 0)
          (ap (covers_by line (line q) (as_time q.start)) (is r) ∙ c)

      twice : 2 ≤ claims_by line ps (line q) (as_time q.start)
      twice =
          let by_p = counted (k - 1) p (omega arith) is_p
          (test_from_claimed _ _ p
          (record { on_line = overlap.0; started = started; going = going })) in
          let by_q = counted k q in_range is_q
          (test_from_claimed _ _ q
          (record { on_line = refl; started = omega arith; going = full })) in
          let same : k - 1 + 1 ≡ k = omega arith in
          let by_p' : claims_by line (take k ps) (line q) (as_time q.start)
          ≡ claims_by line (take (k - 1) ps) (line q) (as_time q.start) + 1 =
          subst (λ n. claims_by line (take n ps) (line q) (as_time q.start)
          ≡ claims_by line (take (k - 1) ps) (line q) (as_time q.start) + 1) same by_p in
          omega (
            arith,
            by_q,
            sum_by-take-le (λ x. cond (covers_by line (line q) (as_time q.start) x) 1 0) ps
                (k + 1),
          )

      clash : IsFirstClashBy line ps (line q) (as_time q.start)
      clash = record {
        here = twice;
        smaller =
            λ h u lt. at_most_once h u (omega arith) (λ e. absurd (omega arith));
        earlier = λ u lt. at_most_once (line q) u (omega arith) (λ e. lt);
      }

      pub first_clash : StartsFirstClashBy line ps q
      first_clash = (sound_q.0.0, clash)

  -- after the last piece no cell is claimed twice
  pub scan_end : (ps : List Piece) (k : ℕ) → length ps ≤ k → IsScanned ps k → NoneTwiceBy line ps
  scan_end ps k h scanned i t = rw (take_all k ps h) at (scanned.none_twice i t)
