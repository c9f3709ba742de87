-- The extents of jobs and their machines, piece by piece.
use Rattle.std.proofs.Common.{◌≡◌, ◌≢◌, ℕ, ◌+◌, ◌-◌, ◌*◌, ◌≤◌, max, min, Bool, true, false, cond, eqb, List, [], ◌∷◌, ◌++◌, length, get_or, get_or-set_other, get_or-set_same, set, pos, refl, sym, ap, ◌∙◌, arith, inl, inr}
use Rattle.std.specs.List.{All, sum_by, range_with_len}
use Rattle.std.proofs.lemmas.List.Sums.{sum_by-append, sum_by-cons, sum_by-le}
use Rattle.std.proofs.lemmas.List.FromFn.{length-range_with_len}
use Rattle.std.proofs.lemmas.Bool.{cases_eq}
use Rattle.std.proofs.lemmas.Bool.Decides.{nat_tests}
use Rattle.tf_schedule.specs.declared.piece.Piece.{Piece}
use Rattle.tf_schedule.specs.declared.extent.Extent.{Extent}
use Rattle.tf_schedule.specs.Piece.{machine_of}
use Rattle.tf_schedule.specs.Claims.{places, JobsOnce}
use Rattle.tf_schedule.specs.Schedule.{IsPiece}
use Rattle.tf_schedule.specs.Drawing.{duration, greatest_stop, stop_of}
use Rattle.tf_schedule.specs.Amounts.{work, greatest_by, least_by, start_of}
use Rattle.tf_schedule.specs.declared.machine_range.MachineRange.{MachineRange}
use Rattle.tf_schedule.specs.Extent.{most_work, no_extent, extended, extent_of, extent_at, with_piece}
use Rattle.tf_schedule.specs.MachineRange.{most_machine, no_range, widened, range_of, range_at, with_machine}
use Rattle.tf_schedule.proofs.Times.{time_le}
use Rattle.tf_schedule.proofs.Drawing.{sum_places, greatest_stop_le}
use Rattle.tf_model.specs.Limit.{limit}

-- a job that runs in one place at a time is done by the greatest stop
pub work_le_stop : (ps : List Piece) (j : ℕ) → JobsOnce ps → work ps j ≤ greatest_stop ps
work_le_stop ps j once =
    let each : sum_by (places ps j) (range_with_len 0 (greatest_stop ps))
    ≤ length (range_with_len 0 (greatest_stop ps)) * 1 =
    sum_by-le (places ps j) 1 (range_with_len 0 (greatest_stop ps))
    (λ k d h. once j (get_or (range_with_len 0 (greatest_stop ps)) k d)) in
    omega (
      arith,
      sum_places ps j (greatest_stop ps) (omega arith),
      each,
      length-range_with_len 0 (greatest_stop ps),
    )

-- so its work is not cut short
pub work_exact : (ps : List Piece) (j : ℕ) → All IsPiece ps → JobsOnce ps
    → min (work ps j) most_work ≡ work ps j
work_exact ps j sound once =
    let stops : greatest_stop ps ≤ limit =
    greatest_stop_le ps limit
    (λ n d h. time_le (get_or ps n d).stop (pos limit) (sound n d h).0.1) in
    omega (arith, stops, work_le_stop ps j once)

-- ---- one more piece

pub greatest_push : (f : Piece → ℕ) (ps : List Piece) (p : Piece) (j : ℕ)
    → greatest_by f (ps ++ p ∷ []) j
    ≡ cond (eqb p.job j) (max (f p) (greatest_by f ps j)) (greatest_by f ps j)
greatest_push f [] p j = refl
greatest_push f (q ∷ ps) p j =
    step (eqb q.job j) (eqb p.job j) (f q) (f p) (greatest_by f ps j)
    (greatest_by f (ps ++ p ∷ []) j) (greatest_push f ps p j)
  where
    step : (a b : Bool) (x y g h : ℕ) → h ≡ cond b (max y g) g
        → cond a (max x h) h ≡ cond b (max y (cond a (max x g) g)) (cond a (max x g) g)
    step true true x y g h e = omega arith
    step true false x y g h e = omega arith
    step false true x y g h e = e
    step false false x y g h e = e

pub least_push : (f : Piece → ℕ) (ps : List Piece) (p : Piece) (j : ℕ)
    → least_by f (ps ++ p ∷ []) j
    ≡ cond (eqb p.job j) (min (f p) (least_by f ps j)) (least_by f ps j)
least_push f [] p j = refl
least_push f (q ∷ ps) p j =
    step (eqb q.job j) (eqb p.job j) (f q) (f p) (least_by f ps j) (least_by f (ps ++ p ∷ []) j)
    (least_push f ps p j)
  where
    step : (a b : Bool) (x y g h : ℕ) → h ≡ cond b (min y g) g
        → cond a (min x h) h ≡ cond b (min y (cond a (min x g) g)) (cond a (min x g) g)
    step true true x y g h e = omega arith
    step true false x y g h e = omega arith
    step false true x y g h e = e
    step false false x y g h e = e

same_extent : (w w' s s' t t' : ℕ) → w ≡ w' → s ≡ s' → t ≡ t'
    → ◌≡◌ {A = Extent} (record { work = w; start = s; stop = t })
    (record { work = w'; start = s'; stop = t' })
same_extent w w' s s' t t' a b c = cc

same_range : (l l' h h' : ℕ) → l ≡ l' → h ≡ h'
    → ◌≡◌ {A = MachineRange} (record { lowest = l; highest = h })
    (record { lowest = l'; highest = h' })
same_range l l' h h' a b = cc

-- entry j of a table from 1 on, where entry p becomes another
table_push : {E : Type 0} (table : List E) (none new : E) (p j : ℕ) (before after : E)
    → 1 ≤ p → 1 ≤ j → j ≤ length table → get_or table (j - 1) none ≡ before
    → (p ≡ j → new ≡ after) → (p ≢ j → before ≡ after)
    → get_or (set table (p - 1) new) (j - 1) none ≡ after
table_push table none new p j before after some low high is own other = elim (cases_eq j p) [
  | inl same ↦
      let at : j - 1 ≡ p - 1 = omega (arith, same) in
      ap (λ n. get_or (set table (p - 1) new) n none) at
      ∙ get_or-set_same table (p - 1) new none (omega (arith, same, low, high)) ∙ own (sym same)
  | inr differ ↦
      get_or-set_other table (p - 1) (j - 1) new none (λ e. differ (omega (arith, e, some, low)))
      ∙ is ∙ other (λ e. differ (sym e))
]

module _ (ps : List Piece) (p : Piece) (j : ℕ) where
  work_push : work (ps ++ p ∷ []) j ≡ work ps j + cond (eqb p.job j) (duration p) 0
  work_push =
      omega (
        arith,
        sum_by-append (λ q. cond (eqb q.job j) (duration q) 0) ps (p ∷ []),
        sum_by-cons (λ q. cond (eqb q.job j) (duration q) 0) p [],
      )

  cut_sum : (w d v m : ℕ) → v ≡ w + d → min v m ≡ min (min w m + d) m
  cut_sum w d v m e = omega (arith, e)

  cut_min : (a l m v : ℕ) → v ≡ min a l → min v m ≡ min a (min l m)
  cut_min a l m v e = omega (arith, e)

  -- with one more piece of the job
  extent_same : p.job ≡ j → extent_of (ps ++ p ∷ []) j ≡ extended (extent_of ps j) p
  extent_same own =
      let test : eqb p.job j ≡ true = grind (arith, nat_tests) in
      same_extent _ _ _ _ _ _
      (cut_sum (work ps j) (duration p) (work (ps ++ p ∷ []) j) most_work
      (work_push ∙ ap (λ (b : Bool). work ps j + cond b (duration p) 0) test))
      (least_push start_of ps p j
      ∙ ap (λ (b : Bool). cond b (min (start_of p) (least_by start_of ps j)) (least_by start_of ps j))
      test)
      (greatest_push stop_of ps p j
      ∙ ap (λ (b : Bool). cond b (max (stop_of p) (greatest_by stop_of ps j))
      (greatest_by stop_of ps j)) test)

  range_same : p.job ≡ j → range_of (ps ++ p ∷ []) j ≡ widened (range_of ps j) p
  range_same own =
      let test : eqb p.job j ≡ true = grind (arith, nat_tests) in
      same_range _ _ _ _
      (cut_min (machine_of p) (least_by machine_of ps j) most_machine
      (least_by machine_of (ps ++ p ∷ []) j)
      (least_push machine_of ps p j
      ∙ ap (λ (b : Bool). cond b (min (machine_of p) (least_by machine_of ps j))
      (least_by machine_of ps j)) test))
      (greatest_push machine_of ps p j
      ∙ ap (λ (b : Bool). cond b (max (machine_of p) (greatest_by machine_of ps j))
      (greatest_by machine_of ps j)) test)

  -- and of another job
  extent_other : p.job ≢ j → extent_of (ps ++ p ∷ []) j ≡ extent_of ps j
  extent_other other =
      let test : eqb p.job j ≡ false = grind (arith, nat_tests) in
      let no_more : work ps j + 0 ≡ work ps j = omega arith in
      same_extent _ _ _ _ _ _
      (ap (λ w. min w most_work)
      (work_push ∙ ap (λ (b : Bool). work ps j + cond b (duration p) 0) test ∙ no_more))
      (least_push start_of ps p j
      ∙ ap (λ (b : Bool). cond b (min (start_of p) (least_by start_of ps j)) (least_by start_of ps j))
      test)
      (greatest_push stop_of ps p j
      ∙ ap (λ (b : Bool). cond b (max (stop_of p) (greatest_by stop_of ps j))
      (greatest_by stop_of ps j)) test)

  range_other : p.job ≢ j → range_of (ps ++ p ∷ []) j ≡ range_of ps j
  range_other other =
      let test : eqb p.job j ≡ false = grind (arith, nat_tests) in
      same_range _ _ _ _
      (ap (λ l. min l most_machine)
      (least_push machine_of ps p j
      ∙ ap (λ (b : Bool). cond b (min (machine_of p) (least_by machine_of ps j))
      (least_by machine_of ps j)) test))
      (greatest_push machine_of ps p j
      ∙ ap (λ (b : Bool). cond b (max (machine_of p) (greatest_by machine_of ps j))
      (greatest_by machine_of ps j)) test)

  -- the tables with one more piece
  pub extents_push : (extents : List Extent) → 1 ≤ p.job → 1 ≤ j → j ≤ length extents
      → extent_at extents j ≡ extent_of ps j
      → extent_at (with_piece extents p) j ≡ extent_of (ps ++ p ∷ []) j
  extents_push extents some low high is =
      table_push extents no_extent (extended (extent_at extents p.job) p) p.job j (extent_of ps j)
      (extent_of (ps ++ p ∷ []) j) some low high is
      (λ own. ap (λ n. extended (extent_at extents n) p) own
      ∙ ap (λ (e : Extent). extended e p) is ∙ sym (extent_same own))
      (λ other. sym (extent_other other))

  pub ranges_push : (ranges : List MachineRange) → 1 ≤ p.job → 1 ≤ j → j ≤ length ranges
      → range_at ranges j ≡ range_of ps j
      → range_at (with_machine ranges p) j ≡ range_of (ps ++ p ∷ []) j
  ranges_push ranges some low high is =
      table_push ranges no_range (widened (range_at ranges p.job) p) p.job j (range_of ps j)
      (range_of (ps ++ p ∷ []) j) some low high is
      (λ own. ap (λ n. widened (range_at ranges n) p) own
      ∙ ap (λ (r : MachineRange). widened r p) is ∙ sym (range_same own))
      (λ other. sym (range_other other))
