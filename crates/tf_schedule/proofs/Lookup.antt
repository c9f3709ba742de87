-- Which piece of a schedule claims a cell.
use Rattle.std.proofs.Common.{◌≡◌, ℕ, zero, suc, ◌+◌, ◌-◌, ◌<◌, ◌≤◌, ℤ, pos, ◌≤ℤ◌, Bool, true, false, cond, List, [], ◌∷◌, length, get_or, refl, sym, ap, subst, ◌∙◌, arith, inl, inr}
use Rattle.std.specs.List.{AllPairs}
use Rattle.std.specs.List.Sorted.{IsPartitionedBy, IsPartitionPoint}
use Rattle.std.proofs.lemmas.List.Sums.{get_or-le-sum_by}
use Rattle.std.proofs.lemmas.Int.{ints}
use Rattle.std.proofs.lemmas.Bool.{cases_lt}
use Rattle.std.proofs.lemmas.Bool.Decides.{nat_tests}
use Rattle.tf_schedule.specs.declared.piece.Piece.{Piece}
use Rattle.tf_schedule.specs.Piece.{machine_of, as_time, covers}
use Rattle.tf_schedule.specs.Claims.{claims, has_started}
use Rattle.tf_schedule.specs.Schedule.{IsPiece, ComesBefore, IsSchedule}
use Rattle.tf_schedule.specs.Drawing.{job_at}
use Rattle.std.proofs.lemmas.List.{get_or_default}
use Rattle.tf_schedule.proofs.Times.{time_le, time_le_back, sound_times}
use Rattle.tf_schedule.proofs.Scan.{IsClaimed, test_from_claimed, test_from_not_claimed}
use Rattle.tf_schedule.proofs.Counting.{count_none}
use Rattle.tf_schedule.proofs.Drawing.{none_unclaimed, claims-cons}

count_one : (b : Bool) → b ≡ true → ◌≡◌ {A = ℕ} (cond b 1 0) 1
count_one true e = refl
count_one false e = absurd (cc)

-- a piece that claims the cell counts
pub one_claim : (ps : List Piece) (k : ℕ) (d : Piece) (i t : ℕ) → k < length ps
    → covers i t (get_or ps k d) ≡ true → 1 ≤ claims ps i t
one_claim ps k d i t h c =
    omega (arith, count_one _ c, get_or-le-sum_by (λ p. cond (covers i t p) 1 0) ps k d h)

-- so do two
pub both_claim : (ps : List Piece) (a b : ℕ) (d : Piece) (i t : ℕ) → a < b → b < length ps
    → covers i t (get_or ps a d) ≡ true → covers i t (get_or ps b d) ≡ true → 2 ≤ claims ps i t
both_claim [] a b d i t lt h p q = absurd (omega arith)
both_claim (x ∷ ps) zero zero d i t lt h p q = absurd (omega arith)
both_claim (x ∷ ps) zero (suc b) d i t lt h p q =
    omega (arith, claims-cons x ps i t, count_one _ p, one_claim ps b d i t (omega arith) q)
both_claim (x ∷ ps) (suc a) zero d i t lt h p q = absurd (omega arith)
both_claim (x ∷ ps) (suc a) (suc b) d i t lt h p q =
    omega (arith, claims-cons x ps i t, both_claim ps a b d i t (omega arith) (omega arith) p q)

found_step : (b : Bool) (j r job n more : ℕ) → more ≡ cond b 1 0 + n → more ≤ 1 → 1 ≤ n → r ≡ job
    → cond b j r ≡ job
found_step true j r job n more e once some rest = absurd (omega arith)
found_step false j r job n more e once some rest = rest

-- the job of the only piece that claims the cell
pub job_at_place : (ps : List Piece) (k : ℕ) (d : Piece) (i t : ℕ) → k < length ps
    → covers i t (get_or ps k d) ≡ true → claims ps i t ≤ 1 → job_at ps i t ≡ (get_or ps k d).job
job_at_place [] k d i t h c once = absurd (omega arith)
job_at_place (p ∷ ps) zero d i t h c once = ap (λ (b : Bool). cond b p.job (job_at ps i t)) c
job_at_place (p ∷ ps) (suc k) d i t h c once =
    found_step (covers i t p) p.job (job_at ps i t) (get_or ps k d).job (claims ps i t)
    (claims (p ∷ ps) i t) (claims-cons p ps i t) once (one_claim ps k d i t (omega arith) c)
    (job_at_place ps k d i t (omega arith) c (omega (arith, claims-cons p ps i t, once)))

-- no piece claims the cell
pub job_at_nowhere : (ps : List Piece) (i t : ℕ)
    → ((n : ℕ) (d : Piece) → n < length ps → IsClaimed machine_of i t (get_or ps n d) → ⊥)
    → job_at ps i t ≡ 0
job_at_nowhere ps i t never =
    none_unclaimed ps i t
    (count_none (covers i t) ps
    (λ n d h. test_from_not_claimed machine_of i t (get_or ps n d) (never n d h)))

-- ---- the last piece that has started

pub started_facts : (i : ℕ) (z : ℤ) (p : Piece) → has_started i z p ≡ true
    → (p.machine ≤ i) × (p.machine ≡ i → p.start ≤ℤ z)
started_facts i z p h = (grind (arith, nat_tests), λ e. grind (arith, nat_tests, ints))

pub started_test : (i : ℕ) (z : ℤ) (p : Piece) → (p.machine ≤ i) → (p.machine ≡ i → p.start ≤ℤ z)
    → has_started i z p ≡ true
started_test i z p le start = elim (cases_lt p.machine i) [
  | inl less ↦ grind (arith, nat_tests)
  | inr ge ↦ let same : p.machine ≡ i = omega arith in let before : p.start ≤ℤ z = start same in
      grind (arith, nat_tests, ints)
]

pub started_parts : (ps : List Piece) (i : ℕ) (z : ℤ) → AllPairs ComesBefore ps
    → IsPartitionedBy (has_started i z) ps
started_parts ps i z in_order a b d le h later = elim (cases_lt a b) [
  | inl less ↦
      let f = started_facts i z (get_or ps b d) later in
      let before = in_order a b d less h in
      started_test i z (get_or ps a d) (omega (arith, f.0, before.0))
      (λ e. let same : (get_or ps b d).machine ≡ i = omega (arith, f.0, before.0) in
      omega (arith, ints, f.1 same, before.1 (omega (arith, e, same))))
  | inr ge ↦ let same : b ≡ a = omega arith in
      subst (λ n. has_started i z (get_or ps n d) ≡ true) same later
]

module _ (ps : List Piece) (schedule : IsSchedule ps) (i : ℕ) (z : ℤ) (time : pos 0 ≤ℤ z) (k : ℕ)
    (parted : IsPartitionPoint (λ p. has_started i z p ≡ true) (λ p. has_started i z p ≡ false) ps
    k) where
  not_started : (n : ℕ) (d : Piece) → k ≤ n → n < length ps
      → IsClaimed machine_of i (as_time z) (get_or ps n d) → ⊥
  not_started n d le h c =
      let test : has_started i z (get_or ps n d) ≡ false = parted.1 n d le h in
      let started : has_started i z (get_or ps n d) ≡ true =
      started_test i z (get_or ps n d) (omega (arith, c.on_line))
      (λ e. time_le_back (get_or ps n d).start z time c.started) in
      cc

  pub cell_before_all : k ≡ 0 → job_at ps i (as_time z) ≡ 0
  cell_before_all none =
      job_at_nowhere ps i (as_time z) (λ n d h c. not_started n d (omega arith) h c)

  module _ (p : Piece) (some : 0 < k) (in_range : k ≤ length ps) (read : p ≡ get_or ps (k - 1) p)
    where
      is_p : (d : Piece) → get_or ps (k - 1) d ≡ p
      is_p d = get_or_default ps (k - 1) d p (omega arith) ∙ sym read

      -- a piece before the last one that has started is over
      two_at_once : (n : ℕ) (d : Piece) → n < k - 1 → n < length ps
          → IsClaimed machine_of i (as_time z) (get_or ps n d) → ⊥
      two_at_once n d earlier h c =
          let q = get_or ps n d in
          let order : ComesBefore q p =
          subst (ComesBefore q) (is_p d) (schedule.in_order n (k - 1) d earlier (omega arith)) in
          let test : has_started i z p ≡ true =
          subst (λ x. has_started i z x ≡ true) (is_p d)
          (parted.0 (k - 1) d (omega arith) (omega arith)) in
          let f = started_facts i z p test in
          let same : p.machine ≡ i = omega (arith, f.0, order.0, c.on_line) in
          let rise : as_time q.start ≤ as_time p.start =
          time_le q.start p.start (order.1 (c.on_line ∙ sym same)) in
          let begun : as_time p.start ≤ as_time z = time_le p.start z (f.1 same) in
          let full : as_time p.start < as_time p.stop =
          sound_times p (subst IsPiece (is_p d) (schedule.sound (k - 1) d (omega arith))) in
          let by_q : covers i (as_time p.start) q ≡ true =
          test_from_claimed machine_of i (as_time p.start) q
          (record { on_line = c.on_line; started = rise; going = omega (arith, c.going) }) in
          let by_p : covers i (as_time p.start) p ≡ true =
          test_from_claimed machine_of i (as_time p.start) p
          (record { on_line = same; started = omega arith; going = full }) in
          omega (
            arith,
            schedule.none_twice i (as_time p.start),
            both_claim ps n (k - 1) d i (as_time p.start) earlier (omega arith) by_q
                (subst (λ x. covers i (as_time p.start) x ≡ true) (sym (is_p d)) by_p),
          )

      pub cell_going : covers i (as_time z) p ≡ true → p.job ≡ job_at ps i (as_time z)
      cell_going c = ap (λ (q : Piece). q.job) read
          ∙ sym (job_at_place ps (k - 1) p i (as_time z) (omega arith)
          (subst (λ q. covers i (as_time z) q ≡ true) read c) (schedule.none_twice i (as_time z)))

      pub cell_over : covers i (as_time z) p ≡ false → job_at ps i (as_time z) ≡ 0
      cell_over c = job_at_nowhere ps i (as_time z) (λ n d h claimed. elim (cases_lt n k) [
        | inl below ↦ elim (cases_lt n (k - 1)) [
          | inl earlier ↦ two_at_once n d earlier h claimed
          | inr last ↦
              let same : n ≡ k - 1 = omega arith in
              let here : covers i (as_time z) p ≡ true =
              test_from_claimed machine_of i (as_time z) p
              (subst (IsClaimed machine_of i (as_time z)) (is_p d)
              (subst (λ m. IsClaimed machine_of i (as_time z) (get_or ps m d)) same claimed)) in
              cc
        ]
        | inr ge ↦ not_started n d ge h claimed
      ])
