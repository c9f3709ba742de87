-- What the pieces of operations are that come one after another, whatever their order.
use Rattle.std.proofs.Common.{◌≡◌, ◌≢◌, ℕ, zero, suc, ◌+◌, ◌-◌, ◌<◌, ◌≤◌, pos, ◌≤ℤ◌, ◌<ℤ◌, max, Bool, true, false, cond, ◌&&◌, eqb, List, [], ◌∷◌, ◌++◌, length, get_or, set, refl, sym, ap, subst, ◌∙◌, arith, inl, inr}
use Rattle.std.specs.List.{All, AllPairs, sum_by, fold}
use Rattle.std.proofs.lemmas.List.{append-nil, get_or_default, get_or-set_other, length-set}
use Rattle.std.proofs.lemmas.Grind.{get_or-set_at}
use Rattle.std.proofs.lemmas.List.Elements.{All-push, All-tail, All-head}
use Rattle.std.proofs.lemmas.List.Quantifiers.{all_pairs_push}
use Rattle.std.proofs.lemmas.List.Sums.{sum_by-cons, sum_by_push}
use Rattle.std.proofs.lemmas.Int.{ints}
use Rattle.std.proofs.lemmas.Bool.{cases_eq}
use Rattle.std.proofs.lemmas.Bool.Decides.{nat_tests}
use Rattle.tf_schedule.specs.declared.piece.Piece.{Piece}
use Rattle.tf_schedule.specs.Piece.{machine_of, job_of, piece_of}
use Rattle.tf_schedule.specs.Drawing.{duration, greatest_stop, stop_of}
use Rattle.tf_schedule.specs.Amounts.{work_on, work, start_of}
use Rattle.tf_schedule.proofs.Drawing.{greatest_stop_push}
use Rattle.tf_schedule.specs.declared.semi_active.Operation.{Operation}
use Rattle.tf_schedule.specs.SemiActive.{line_stop, machine_stop, job_stop, stretch, start_after, with_operation, laid, IsOperation}
use Rattle.tf_schedule.specs.Stops.{HasStopsBy}

-- ---- the stops of a line
module _ (line : Piece → ℕ) where
  push_step : (a b : Bool) (x y g : ℕ)
      → cond a (max x (cond b (max g y) g)) (cond b (max g y) g)
      ≡ cond b (max (cond a (max x g) g) y) (cond a (max x g) g)
  push_step true true x y g = omega arith
  push_step true false x y g = refl
  push_step false true x y g = refl
  push_step false false x y g = refl

  first_step : (b : Bool) (y : ℕ) → cond b (max y 0) 0 ≡ cond b (max 0 y) 0
  first_step true y = omega arith
  first_step false y = refl

  pub line_stop_push : (ps : List Piece) (p : Piece) (n : ℕ)
      → line_stop line (ps ++ p ∷ []) n
      ≡ cond (eqb (line p) n) (max (line_stop line ps n) (stop_of p)) (line_stop line ps n)
  line_stop_push [] p n = first_step (eqb (line p) n) (stop_of p)
  line_stop_push (q ∷ ps) p n =
      ap (λ g. cond (eqb (line q) n) (max (stop_of q) g) g) (line_stop_push ps p n)
      ∙ push_step (eqb (line q) n) (eqb (line p) n) (stop_of q) (stop_of p) (line_stop line ps n)

  own_step : (b : Bool) (x g : ℕ) → b ≡ true → x ≤ cond b (max x g) g
  own_step true x g e = omega arith
  own_step false x g e = absurd (cc)

  later_step : (b : Bool) (x g s : ℕ) → s ≤ g → s ≤ cond b (max x g) g
  later_step true x g s le = omega arith
  later_step false x g s le = le

  -- each piece of the line stops by then
  pub stop-le-line_stop : (ps : List Piece) (n k : ℕ) (d : Piece) → k < length ps
      → line (get_or ps k d) ≡ n → stop_of (get_or ps k d) ≤ line_stop line ps n
  stop-le-line_stop [] n k d h e = absurd (omega arith)
  stop-le-line_stop (p ∷ ps) n zero d h e =
      own_step (eqb (line p) n) (stop_of p) (line_stop line ps n) (grind (arith, nat_tests))
  stop-le-line_stop (p ∷ ps) n (suc k) d h e =
      later_step (eqb (line p) n) (stop_of p) (line_stop line ps n) (stop_of (get_or ps k d))
      (stop-le-line_stop ps n k d (omega arith) e)

  within_step : (b : Bool) (x g most : ℕ) → g ≤ most → cond b (max x g) g ≤ max x most
  within_step true x g most le = omega arith
  within_step false x g most le = omega arith

  pub line_stop-le-greatest : (ps : List Piece) (n : ℕ) → line_stop line ps n ≤ greatest_stop ps
  line_stop-le-greatest [] n = omega arith
  line_stop-le-greatest (p ∷ ps) n =
      within_step (eqb (line p) n) (stop_of p) (line_stop line ps n) (greatest_stop ps)
      (line_stop-le-greatest ps n)

-- ---- pieces apart

-- the piece is of one of the jobs 1 to n, on one of the machines 1 to m, and not empty
pub record IsPlaced (n m : ℕ) (p : Piece) : Type 0 where
  pub job : (0 < p.job) × (p.job ≤ n)
  pub machine : (0 < p.machine) × (p.machine ≤ m)
  pub low : pos 0 ≤ℤ p.start
  pub full : p.start <ℤ p.stop

-- S is what holds of the job and the machine of an operation and those of each later one
module _ (S : ℕ → ℕ → ℕ → ℕ → Type 0) where
  -- q starts when its machine and its job are free of p, and what holds of the operations holds of
  -- the pieces
  pub record IsApart (p q : Piece) : Type 0 where
    pub on_machine : p.machine ≡ q.machine → stop_of p ≤ start_of q
    pub of_job : p.job ≡ q.job → stop_of p ≤ start_of q
    pub kept : S p.job p.machine q.job q.machine

  pub record IsLaid (n m : ℕ) (ps : List Piece) : Type 0 where
    pub placed : All (IsPlaced n m) ps
    pub apart : AllPairs IsApart ps

  -- each piece may come before an operation of job j on machine i
  abbrev pub MayPrecede : List Piece → ℕ → ℕ → Type 0
  MayPrecede ps j i = All (λ p. S p.job p.machine j i) ps

  abbrev pub Keeps : Operation → Operation → Type 0
  Keeps o u = S o.job o.machine u.job u.machine

  -- one more stretch
  laid_stretch : (n m : ℕ) (ps : List Piece) (j i s t : ℕ) → IsLaid n m ps → (0 < j) × (j ≤ n)
      → (0 < i) × (i ≤ m) → MayPrecede ps j i → machine_stop ps i ≤ s → job_stop ps j ≤ s
      → IsLaid n m (ps ++ stretch j i s t)
  laid_stretch n m ps j i s zero laid job machine may by_machine by_job =
      subst (IsLaid n m) (sym (append-nil ps)) laid
  laid_stretch n m ps j i s (suc t) laid job machine may by_machine by_job = record {
    placed = All-push (IsPlaced n m) ps (piece_of j i s (s + suc t)) laid.placed
        (record {
          job = job;
          machine = machine;
          low = omega (arith, ints);
          full =
              omega (arith, ints);
        });
    apart = all_pairs_push IsApart ps (piece_of j i s (s + suc t)) laid.apart (λ k d h. record {
      on_machine = λ e. omega (arith, stop-le-line_stop machine_of ps i k d h e);
      of_job = λ e. omega (arith, stop-le-line_stop job_of ps j k d h e);
      kept = may k d h;
    });
  }

  precede_stretch : (ps : List Piece) (j i s t a b : ℕ) → MayPrecede ps a b → S j i a b
      → MayPrecede (ps ++ stretch j i s t) a b
  precede_stretch ps j i s zero a b may here =
      subst (λ qs. MayPrecede qs a b) (sym (append-nil ps)) may
  precede_stretch ps j i s (suc t) a b may here =
      All-push (λ p. S p.job p.machine a b) ps (piece_of j i s (s + suc t)) may here

  -- all operations
  laid_fold : (n m : ℕ) (os : List Operation) (ps : List Piece) → IsLaid n m ps
      → All (IsOperation n m) os → All (λ o. MayPrecede ps o.job o.machine) os → AllPairs Keeps os
      → IsLaid n m (fold with_operation ps os)
  laid_fold n m [] ps laid known may keeps = laid
  laid_fold n m (o ∷ os) ps laid known may keeps =
      let here : IsOperation n m o = All-head (IsOperation n m) o os known in
      laid_fold n m os (with_operation ps o)
      (laid_stretch n m ps o.job o.machine (start_after ps o) o.time laid here.job here.machine
      (All-head (λ u. MayPrecede ps u.job u.machine) o os may) (omega arith) (omega arith))
      (All-tail (IsOperation n m) o os known)
      (λ k d h. precede_stretch ps o.job o.machine (start_after ps o) o.time (get_or os k d).job
      (get_or os k d).machine (may (suc k) d (omega arith))
      (keeps zero (suc k) d (omega arith) (omega arith)))
      (λ a b d lt within. keeps (suc a) (suc b) d (omega arith) (omega arith))

  pub laid_apart : (n m : ℕ) (os : List Operation) → All (IsOperation n m) os → AllPairs Keeps os
      → IsLaid n m (laid os)
  laid_apart n m os known keeps =
      laid_fold n m os []
      (record {
        placed = λ k d h. absurd (omega arith);
        apart =
            λ a b d lt within. absurd (omega arith);
      }) known (λ k d h i e lt. absurd (omega arith)) keeps

-- ---- the work of the operations

module _ (test : Piece → Bool) (passes : ℕ → ℕ → Bool)
    (same : (j i s e : ℕ) → test (piece_of j i s e) ≡ passes j i) where
  -- the work of the pieces that pass
  abbrev tested : List Piece → ℕ
  tested ps = sum_by (λ q. cond (test q) (duration q) 0) ps

  tested_stretch : (ps : List Piece) (j i s t : ℕ)
      → tested (ps ++ stretch j i s t) ≡ tested ps + cond (passes j i) t 0
  tested_stretch ps j i s zero = ap tested (append-nil ps) ∙ none (passes j i)
    where
      none : (c : Bool) → tested ps ≡ tested ps + cond c 0 0
      none true = omega arith
      none false = omega arith
  tested_stretch ps j i s (suc t) = omega (
    arith,
    sum_by_push (λ q. cond (test q) (duration q) 0) ps (piece_of j i s (s + suc t)),
    ap (λ (c : Bool). cond c (s + suc t - s) 0) (same j i s (s + suc t)),
    wide (passes j i),
  )
    where
      wide : (c : Bool) → cond c (s + suc t - s) 0 ≡ cond c (suc t) 0
      wide true = omega arith
      wide false = refl

  tested_fold : (os : List Operation) (ps : List Piece)
      → tested (fold with_operation ps os)
      ≡ tested ps + sum_by (λ o. cond (passes o.job o.machine) o.time 0) os
  tested_fold [] ps = omega arith
  tested_fold (o ∷ os) ps = omega (
    arith,
    tested_fold os (with_operation ps o),
    tested_stretch ps o.job o.machine (start_after ps o) o.time,
    sum_by-cons (λ u. cond (passes u.job u.machine) u.time 0) o os,
  )

-- of job a on machine b, and of job a
pub work_on_fold : (os : List Operation) (ps : List Piece) (a b : ℕ)
    → work_on (fold with_operation ps os) a b
    ≡ work_on ps a b + sum_by (λ o. cond (eqb o.job a && eqb o.machine b) o.time 0) os
work_on_fold os ps a b = tested_fold (λ q. eqb q.job a && eqb q.machine b)
    (λ j i. eqb j a && eqb i b) (λ j i s e. refl) os ps

pub work_fold : (os : List Operation) (ps : List Piece) (a : ℕ)
    → work (fold with_operation ps os) a ≡ work ps a + sum_by (λ o. cond (eqb o.job a) o.time 0) os
work_fold os ps a = tested_fold (λ q. eqb q.job a) (λ j i. eqb j a) (λ j i s e. refl) os ps

-- ---- when it ends

pub stop_stretch : (ps : List Piece) (j i s t : ℕ)
    → greatest_stop (ps ++ stretch j i s t) ≤ max (greatest_stop ps) (s + t)
stop_stretch ps j i s zero = omega (arith, ap greatest_stop (append-nil ps))
stop_stretch ps j i s (suc t) = omega (arith, greatest_stop_push ps (piece_of j i s (s + suc t)))

pub start_within : (ps : List Piece) (o : Operation) → start_after ps o ≤ greatest_stop ps
start_within ps o =
    omega (
      arith,
      line_stop-le-greatest machine_of ps o.machine,
      line_stop-le-greatest job_of ps o.job,
    )

pub stop_fold : (os : List Operation) (ps : List Piece)
    → greatest_stop (fold with_operation ps os) ≤ greatest_stop ps + sum_by (λ o. o.time) os
stop_fold [] ps = omega arith
stop_fold (o ∷ os) ps =
    omega (
      arith,
      stop_fold os (with_operation ps o),
      stop_stretch ps o.job o.machine (start_after ps o) o.time,
      start_within ps o,
      sum_by-cons (λ u. u.time) o os,
    )

-- ---- what one operation does to the stops of its machine, of its job and of the others

-- the stop of a line that the stretch lies on, and of another
own_line_step : (b : Bool) (g s t more : ℕ) → b ≡ true → more ≡ cond b (max g (s + suc t)) g → g ≤ s
    → more ≡ s + suc t
own_line_step true g s t more e eq le = omega arith
own_line_step false g s t more e eq le = absurd (cc)

other_line_step : (b : Bool) (g x more : ℕ) → b ≡ false → more ≡ cond b (max g x) g → more ≡ g
other_line_step true g x more e eq = absurd (cc)
other_line_step false g x more e eq = eq

module _ (line : Piece → ℕ) (ps : List Piece) (j i s : ℕ) where
  -- on its own line a stretch ends later than all before it
  pub line_stop-own : (t n : ℕ) → line (piece_of j i s (s + t)) ≡ n → line_stop line ps n ≤ s
      → (line_stop line ps n + t ≤ line_stop line (ps ++ stretch j i s t) n) ×
      (line_stop line (ps ++ stretch j i s t) n ≤ s + t)
  line_stop-own zero n e le = let same =
      ap (λ qs. line_stop line qs n) (append-nil ps) in (omega arith, omega arith)
  line_stop-own (suc t) n e le =
      let is = own_line_step (eqb (line (piece_of j i s (s + suc t))) n) (line_stop line ps n) s t _
      (grind (arith, nat_tests)) (line_stop_push line ps (piece_of j i s (s + suc t)) n) le in
      (omega arith, omega arith)

  -- and leaves the others as they are
  pub line_stop-other : (t n : ℕ) → line (piece_of j i s (s + t)) ≢ n
      → line_stop line (ps ++ stretch j i s t) n ≡ line_stop line ps n
  line_stop-other zero n differ = ap (λ qs. line_stop line qs n) (append-nil ps)
  line_stop-other (suc t) n differ =
      other_line_step (eqb (line (piece_of j i s (s + suc t))) n) (line_stop line ps n) (s + suc t)
      _ (grind (arith, nat_tests)) (line_stop_push line ps (piece_of j i s (s + suc t)) n)

-- ---- lists of the stops of the lines

pub stop_read : (line : Piece → ℕ) (ps : List Piece) (stops : List ℕ) (n k : ℕ)
    → HasStopsBy line ps stops → k ≡ n - 1 → 0 < n → n ≤ length stops
    → get_or stops k 0 ≡ line_stop line ps n
stop_read line ps stops n k has same low high =
    let back : k + 1 ≡ n = omega arith in
    has k (omega arith) ∙ ap (line_stop line ps) back

-- where a and b are read from the lists
pub start_is : (ps : List Piece) (frees readies : List ℕ) (o : Operation) (i j a b s : ℕ)
    → HasStopsBy machine_of ps frees → HasStopsBy job_of ps readies
    → IsOperation (length readies) (length frees) o → i ≡ o.machine - 1 → j ≡ o.job - 1
    → a ≡ get_or frees i a → b ≡ get_or readies j b → s ≡ max a b
    → s ≡ start_after ps o
start_is ps frees readies o i j a b s machines jobs known is_machine is_job is_a is_b is =
    let machine = known.machine in
    let job = known.job in
    omega (
      arith,
      is,
      is_a,
      is_b,
      get_or_default frees i a 0 (omega arith),
      get_or_default readies j b 0 (omega arith),
      stop_read machine_of ps frees o.machine i machines is_machine machine.0 machine.1,
      stop_read job_of ps readies o.job j jobs is_job job.0 job.1,
    )

taken_step : (b : Bool) (g s x more : ℕ) → b ≡ true → more ≡ cond b (max g x) g → g ≤ s → x ≡ s
    → more ≡ s
taken_step true g s x more e eq le is = omega arith
taken_step false g s x more e eq le is = absurd (cc)

-- with one more piece, which stops at s
pub stops_more : (line : Piece → ℕ) (ps : List Piece) (stops : List ℕ) (p : Piece) (n k s : ℕ)
    → HasStopsBy line ps stops → line p ≡ n → k ≡ n - 1 → 0 < n → n ≤ length stops
    → line_stop line ps n ≤ s → stop_of p ≡ s
    → HasStopsBy line (ps ++ p ∷ []) (set stops k s)
stops_more line ps stops p n k s has on same low high le stop h inside = elim (cases_eq h k) [
  | inl here ↦
      let at : h + 1 ≡ n = omega arith in
      let own : line_stop line (ps ++ p ∷ []) n ≡ s =
      taken_step (eqb (line p) n) (line_stop line ps n) s (stop_of p) _
      (grind (arith, nat_tests)) (line_stop_push line ps p n) le stop in
      get_or-set_at stops k h s 0 here (omega arith) ∙ sym own
      ∙ ap (line_stop line (ps ++ p ∷ [])) (sym at)
  | inr away ↦
      get_or-set_other stops k h s 0 away
      ∙ has h (omega (arith, length-set stops k s))
      ∙ sym (other_line_step (eqb (line p) (h + 1)) (line_stop line ps (h + 1)) (stop_of p) _
      (grind (arith, nat_tests)) (line_stop_push line ps p (h + 1)))
]
