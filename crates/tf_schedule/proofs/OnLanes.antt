-- The table of extents, piece by piece.
use Rattle.std.proofs.Common.{◌≡◌, ℕ, ◌⊎◌, ◌+◌, ◌-◌, ◌<◌, ◌≤◌, Bool, true, false, cond, List, [], ◌∷◌, ◌++◌, length, get_or, take, length-set, refl, sym, ap, ◌∙◌, subst, ⊎_elim, arith, inl, inr}
use Rattle.std.specs.List.{All}
use Rattle.std.proofs.lemmas.List.{get_or_past, take_more}
use Rattle.std.proofs.lemmas.List.Elements.{All-take}
use Rattle.std.proofs.lemmas.List.Sums.{sum_by_more}
use Rattle.std.proofs.lemmas.Bool.{cases_lt}
use Rattle.tf_schedule.specs.declared.piece.Piece.{Piece}
use Rattle.tf_schedule.specs.declared.extent.Extent.{Extent}
use Rattle.tf_schedule.specs.Amounts.{greatest_by, least_by, start_of}
use Rattle.tf_schedule.specs.Claims.{runs, places, JobsOnce}
use Rattle.tf_schedule.specs.Drawing.{stop_of}
use Rattle.tf_schedule.specs.Extent.{extent_of}
use Rattle.tf_schedule.specs.Lanes.{LanesData, added, start_in, stop_in, IsOnOne, HasLanes}
use Rattle.tf_schedule.specs.MachineRange.{most_machine, no_range, widened, range_at, range_of, with_machine, IsOne}
use Rattle.tf_schedule.specs.Piece.{machine_of}
use Rattle.tf_schedule.specs.Schedule.{IsPiece}
use Rattle.tf_schedule.proofs.Busy.{busy_within, greatest_le, works_from_test}
use Rattle.tf_schedule.proofs.Extents.{extents_push, ranges_push}

-- ---- one more piece

module _ (n : ℕ) (ps : List Piece) (i : ℕ) (p : Piece) (in_range : i < length ps)
    (read : p ≡ get_or ps i p) (some : 1 ≤ p.job) (l : LanesData) (has : HasLanes n (take i ps) l)
  where
    taken : take (i + 1) ps ≡ take i ps ++ p ∷ []
    taken = take_more ps i p in_range ∙ ap (λ (q : Piece). take i ps ++ q ∷ []) (sym read)

    ranged : (j : ℕ) → 1 ≤ j → j ≤ length (with_machine l.machines p)
        → range_at (with_machine l.machines p) j ≡ range_of (take (i + 1) ps) j
    ranged j low high =
        let within : j ≤ length l.machines = omega (
          arith,
          high,
          length-set l.machines (p.job - 1) (widened (range_at l.machines p.job) p),
        ) in
        ranges_push (take i ps) p j l.machines some low within (has.machines j low within)
        ∙ ap (λ qs. range_of qs j) (sym taken)

    pub lanes_more : HasLanes n (take (i + 1) ps) (added l p)
    lanes_more = record {
      len = length-set l.extents _ _ ∙ has.len;
      extents = λ j low high.
          extents_push (take i ps) p j l.extents some low (omega (arith, high, has.len))
          (has.extents j low high)
          ∙ ap (λ qs. extent_of qs j) (sym taken);
      machines = ranged;
    }

-- ---- the first start and the last stop

-- in the table they are those of all pieces of the job
module _ (n : ℕ) (ps : List Piece) (l : LanesData) (has : HasLanes n ps l) (j : ℕ) (low : 1 ≤ j)
    (high : j ≤ n) where
  pub start_is : start_in l j ≡ least_by start_of ps j
  start_is = ap (λ (e : Extent). e.start) (has.extents j low high)

  pub stop_is : stop_in l j ≡ greatest_by stop_of ps j
  stop_is = ap (λ (e : Extent). e.stop) (has.extents j low high)

-- ---- on how many machines a job is

module _ (n : ℕ) (ps : List Piece) (l : LanesData) (has : HasLanes n ps l) (j : ℕ)
    (low : 1 ≤ j) where
  pub one_to : j ≤ length l.machines → IsOnOne l j
      → greatest_by machine_of ps j ≤ least_by machine_of ps j
  one_to kept one =
      let is : IsOne (range_of ps j) = subst IsOne (has.machines j low kept) one in
      omega (arith, is)

  pub one_from : All (λ p. p.machine ≤ most_machine) ps
      → greatest_by machine_of ps j ≤ least_by machine_of ps j → IsOnOne l j
  one_from few one = elim (cases_lt (length l.machines) j) [
    | inl past ↦
        let none : range_at l.machines j ≡ no_range =
        get_or_past l.machines (j - 1) no_range (omega (arith, past)) in
        subst IsOne (sym none) (omega arith)
    | inr kept ↦
        let is : IsOne (range_of ps j) =
        omega (arith, one, greatest_le machine_of ps j most_machine few) in
        subst IsOne (sym (has.machines j low kept)) is
  ]

-- ---- pieces that are apart

-- a piece before or after all earlier ones of its job leaves the jobs in one place
module _ (ps : List Piece) (k : ℕ) (p : Piece) (in_range : k < length ps) (read : p ≡ get_or ps k p)
    (sound : All IsPiece ps) where
  pub once_more : JobsOnce (take k ps)
      → (stop_of p ≤ least_by start_of (take k ps) p.job)
      ⊎ (greatest_by stop_of (take k ps) p.job ≤ start_of p)
      → JobsOnce (take (k + 1) ps)
  once_more once apart n t =
      by_test (runs n t p) refl
    where
      more : places (take (k + 1) ps) n t ≡ places (take k ps) n t + cond (runs n t p) 1 0
      more = sum_by_more (λ q. cond (runs n t q) 1 0) ps k p in_range
          ∙ ap (λ (q : Piece). places (take k ps) n t + cond (runs n t q) 1 0) (sym read)

      idle : runs n t p ≡ true → places (take k ps) n t ≡ 0
      idle test = elim (cases_lt 0 (places (take k ps) n t)) [
        | inl busy ↦
            let works = works_from_test n t p test in
            let own : 0 < places (take k ps) p.job t =
            subst (λ j. 0 < places (take k ps) j t) (sym works.job) busy in
            let within = busy_within (take k ps) (All-take IsPiece k ps sound) p.job t own in
            absurd (⊎_elim
            (λ before. omega (arith, before, within.0, works.going))
            (λ behind. omega (arith, behind, within.1, works.started)) apart)
        | inr none ↦ omega (arith, none)
      ]

      by_test : (b : Bool) → runs n t p ≡ b → places (take (k + 1) ps) n t ≤ 1
      by_test false test =
          omega (arith, more, once n t, ap {B = ℕ} (λ (b : Bool). cond b 1 0) test)
      by_test true test =
          omega (arith, more, idle test, ap {B = ℕ} (λ (b : Bool). cond b 1 0) test)
