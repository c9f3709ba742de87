-- The table by operations, of pieces that name their operations in place of their jobs.
use Rattle.std.proofs.Common.{◌≡◌, ◌≢◌, ℕ, ◌+◌, ◌-◌, ◌*◌, ◌<◌, ◌≤◌, max, min, Bool, true, false, cond, ◌&&◌, eqb, List, [], ◌∷◌, length, get_or, take, map, refl, sym, ap, ◌∙◌, arith, inl, inr}
use Rattle.std.specs.List.{All}
use Rattle.std.proofs.Math.Nat.{mul-le-mul_right}
use Rattle.std.proofs.lemmas.Bool.{cases_lt, cases_eq}
use Rattle.std.proofs.lemmas.Bool.Decides.{nat_tests}
use Rattle.std.proofs.lemmas.List.{get_or-map, length-map}
use Rattle.std.proofs.lemmas.List.Elements.{All-head, All-tail}
use Rattle.std.proofs.lemmas.List.Sums.{sum_by-cons}
use Rattle.tf_schedule.specs.declared.piece.Piece.{Piece}
use Rattle.tf_schedule.specs.Amounts.{work, pieces_on, greatest_by, least_by, start_of}
use Rattle.tf_schedule.specs.Drawing.{duration, stop_of}
use Rattle.tf_schedule.specs.Extent.{most_work, extent_of}
use Rattle.tf_schedule.specs.Lanes.{LanesData, HasLanes, added}
use Rattle.tf_schedule.specs.Operation.{first_operation, operation_piece, extent_behind, IsWithin}
use Rattle.tf_schedule.specs.Tables.{HasOperations}
use Rattle.tf_schedule.proofs.OnLanes.{lanes_more}

-- ---- numbers of operations

-- all operations of a job come before those of the next
pub operations_rise : (m a b : ℕ) → 1 ≤ a → a < b → first_operation m a + m ≤ first_operation m b
operations_rise m a b low lt =
    let le : (a - 1 + 1) * m ≤ (b - 1) * m = mul-le-mul_right m
    (let h : a - 1 + 1 ≤ b - 1 = omega arith in h) in
    omega (arith, le)

pub first_within : (m n j : ℕ) → 1 ≤ j → j ≤ n → first_operation m j + m ≤ n * m
first_within m n j low high =
    let le : (j - 1 + 1) * m ≤ n * m = mul-le-mul_right m
    (let h : j - 1 + 1 ≤ n = omega arith in h) in
    omega (arith, le)

-- operations are the same exactly where jobs and machines are
same_operation : (m a b i h : ℕ) → 1 ≤ a → 1 ≤ b → 1 ≤ i → i ≤ m → h < m
    → eqb (first_operation m a + i) (first_operation m b + h + 1) ≡ (eqb i (h + 1) && eqb a b)
same_operation m a b i h low_a low_b low_i high_i high_h = elim (cases_eq a b) [
  | inl same ↦
      let f : first_operation m a ≡ first_operation m b = ap (first_operation m) same in
      let yes : eqb a b ≡ true = grind (arith, nat_tests) in
      elim (cases_eq i (h + 1)) [
        | inl on ↦
            let e : eqb (first_operation m a + i) (first_operation m b + h + 1) ≡ true =
            equal (first_operation m a + i) (first_operation m b + h + 1) (omega (arith, f, on)) in
            let on' : eqb i (h + 1) ≡ true = equal i (h + 1) on in
            e ∙ sym (ap (λ x. x && eqb a b) on' ∙ yes)
        | inr off ↦
            let e : eqb (first_operation m a + i) (first_operation m b + h + 1) ≡ false =
            differ (first_operation m a + i) (first_operation m b + h + 1)
            (λ q. off (omega (arith, f, q))) in
            e ∙ sym (ap (λ x. x && eqb a b) (differ i (h + 1) off))
      ]
  | inr other ↦
      let e : eqb (first_operation m a + i) (first_operation m b + h + 1) ≡ false =
      differ (first_operation m a + i) (first_operation m b + h + 1)
      (λ q. elim (cases_lt a b) [
        | inl less ↦ omega (arith, q, operations_rise m a b low_a less)
        | inr ge ↦ elim (cases_lt b a) [
          | inl less ↦ omega (arith, q, operations_rise m b a low_b less)
          | inr le ↦ other (omega (arith, ge, le))
        ]
      ]) in
      e ∙ sym (ap (λ x. eqb i (h + 1) && x) (differ a b other) ∙ none (eqb i (h + 1)))
]
  where
    equal : (x y : ℕ) → x ≡ y → eqb x y ≡ true
    equal x y e = grind (arith, nat_tests)

    differ : (x y : ℕ) → x ≢ y → eqb x y ≡ false
    differ x y e = grind (arith, nat_tests)

    none : (b : Bool) → (b && false) ≡ false
    none true = refl
    none false = refl

-- ---- amounts, first starts and last stops

-- of the pieces, and of those on the machine
abbrev named : ℕ → List Piece → List Piece
named m ps = map (operation_piece m) ps

least_step : (f : Piece → ℕ) (p : Piece) (qs : List Piece) (j : ℕ) (a c : Bool) (rest : ℕ)
    → c ≡ (a && eqb p.job j) → rest ≡ least_by f qs j
    → cond c (min (f p) rest) rest ≡ least_by f (cond a (p ∷ qs) qs) j
least_step f p qs j true c rest e same =
    ap (λ b. cond b (min (f p) rest) rest) e
    ∙ ap (λ r. cond (eqb p.job j) (min (f p) r) r) same
least_step f p qs j false c rest e same = ap (λ b. cond b (min (f p) rest) rest) e ∙ same

greatest_step : (f : Piece → ℕ) (p : Piece) (qs : List Piece) (j : ℕ) (a c : Bool) (rest : ℕ)
    → c ≡ (a && eqb p.job j) → rest ≡ greatest_by f qs j
    → cond c (max (f p) rest) rest ≡ greatest_by f (cond a (p ∷ qs) qs) j
greatest_step f p qs j true c rest e same =
    ap (λ b. cond b (max (f p) rest) rest) e
    ∙ ap (λ r. cond (eqb p.job j) (max (f p) r) r) same
greatest_step f p qs j false c rest e same = ap (λ b. cond b (max (f p) rest) rest) e ∙ same

work_step : (p : Piece) (qs : List Piece) (j : ℕ) (a c : Bool) (rest more : ℕ)
    → more ≡ cond c (duration p) 0 + rest
    → c ≡ (a && eqb p.job j) → rest ≡ work qs j → more ≡ work (cond a (p ∷ qs) qs) j
work_step p qs j true c rest more is e same =
    is ∙ ap (λ b. cond b (duration p) 0 + rest) e
    ∙ ap (λ r. cond (eqb p.job j) (duration p) 0 + r) same
    ∙ sym (sum_by-cons (λ q. cond (eqb q.job j) (duration q) 0) p qs)
work_step p qs j false c rest more is e same =
    is ∙ ap (λ b. cond b (duration p) 0 + rest) e ∙ zero_and rest ∙ same
  where
    zero_and : (n : ℕ) → 0 + n ≡ n
    zero_and n = omega arith

module _ (n m j i : ℕ) (low : 1 ≤ j) (on : i < m) where
  abbrev number : ℕ
  number = first_operation m j + i + 1

  test : (p : Piece) → IsWithin n m p
      → eqb (first_operation m p.job + p.machine) number ≡ (eqb p.machine (i + 1) && eqb p.job j)
  test p within =
      same_operation m p.job j p.machine i within.0.0 low within.1.0 within.1.1 on

  named_least : (ps : List Piece) → All (IsWithin n m) ps
      → least_by start_of (named m ps) number ≡ least_by start_of (pieces_on (i + 1) ps) j
  named_least [] within = refl
  named_least (p ∷ ps) within =
      least_step start_of p (pieces_on (i + 1) ps) j (eqb p.machine (i + 1)) _
      (least_by start_of (named m ps) number) (test p (All-head (IsWithin n m) p ps within))
      (named_least ps (All-tail (IsWithin n m) p ps within))

  named_greatest : (ps : List Piece) → All (IsWithin n m) ps
      → greatest_by stop_of (named m ps) number ≡ greatest_by stop_of (pieces_on (i + 1) ps) j
  named_greatest [] within = refl
  named_greatest (p ∷ ps) within =
      greatest_step stop_of p (pieces_on (i + 1) ps) j (eqb p.machine (i + 1)) _
      (greatest_by stop_of (named m ps) number) (test p (All-head (IsWithin n m) p ps within))
      (named_greatest ps (All-tail (IsWithin n m) p ps within))

  named_work : (ps : List Piece) → All (IsWithin n m) ps
      → work (named m ps) number ≡ work (pieces_on (i + 1) ps) j
  named_work [] within = refl
  named_work (p ∷ ps) within =
      work_step p (pieces_on (i + 1) ps) j (eqb p.machine (i + 1)) _ (work (named m ps) number)
      (work (named m (p ∷ ps)) number)
      (sum_by-cons (λ q. cond (eqb q.job number) (duration q) 0) (operation_piece m p) (named m ps))
      (test p (All-head (IsWithin n m) p ps within))
      (named_work ps (All-tail (IsWithin n m) p ps within))

-- ---- the table

-- the pieces stay sound
-- with one more piece
pub operations_more : (n m : ℕ) (ps : List Piece) (i : ℕ) (p : Piece) → i < length ps
    → p ≡ get_or ps i p → 1 ≤ (operation_piece m p).job → (l : LanesData)
    → HasLanes n (take i (named m ps)) l
    → HasLanes n (take (i + 1) (named m ps)) (added l (operation_piece m p))
operations_more n m ps i p lt read some l has =
    let f : Piece → Piece = operation_piece m in
    lanes_more n (named m ps) i (f p) (omega (arith, lt, length-map ps f))
    (ap f read ∙ sym (get_or-map f ps i p (f p) lt)) some l has

pub has_operations : (n m : ℕ) (ps : List Piece) (l : LanesData) → All (IsWithin n m) ps
    → HasLanes (n * m) (map (operation_piece m) ps) l → HasOperations n m ps l
has_operations n m ps l within has j i low high on =
    let number : ℕ = first_operation m j + i + 1 in
    let is : extent_behind l (first_operation m j) i ≡ extent_of (named m ps) number =
    has.extents number (omega arith) (omega (arith, first_within m n j low high, on)) in
    record {
      work = ap (λ e. e.work) is ∙ ap (λ w. min w most_work) (named_work n m j i low on ps within);
      start = ap (λ e. e.start) is ∙ named_least n m j i low on ps within;
      stop = ap (λ e. e.stop) is ∙ named_greatest n m j i low on ps within;
    }
