-- Orders in which jobs pass machines: what their ranks and their places say.
use Rattle.std.proofs.Common.{◌≡◌, ◌≢◌, ◌⊎◌, ℕ, zero, suc, ◌+◌, ◌-◌, ◌*◌, ◌<◌, ◌≤◌, Bool, true, false, cond, eqb, List, [], ◌∷◌, ◌++◌, length, get_or, set, take, replicate, length-set, get_or-set_same, get_or-set_other, refl, sym, ap, subst, ◌∙◌, ⊎_elim, arith, inl, inr}
use Rattle.std.proofs.Math.Seq.{take-append_seam}
use Rattle.std.specs.List.{All, AllPairs, sum_by, range_with_len}
use Rattle.std.specs.List.Sorted.{IsPermutation, IsSortedByKey}
use Rattle.std.specs.Ordering.{nat_cmp, is_lt}
use Rattle.std.proofs.lemmas.Cmp.{nat_cmp_total}
use Rattle.std.proofs.lemmas.Bool.{cases_lt, cases_eq}
use Rattle.std.proofs.lemmas.Bool.Decides.{nat_tests}
use Rattle.std.proofs.lemmas.List.{get_or_default, get_or_past, get_or-replicate, length-replicate}
use Rattle.std.proofs.lemmas.List.FromFn.{length-range_with_len, get_or-range_with_len}
use Rattle.std.proofs.lemmas.List.Sorted.{All-permutation, Contains-permutation, sum_by-IsPermutation, length_permutation, ranks_by, sorted_far}
use Rattle.std.proofs.lemmas.List.Sums.{sum_by-set, sum_by-le, sum_by-cons}
use Rattle.tf_model.specs.Timetable.{cell}
use Rattle.tf_model.proofs.Work.{distinct_apart}
use Rattle.tf_posed.specs.FitsProblem.{GoesFirst}
use Rattle.tf_schedule.specs.declared.piece.Piece.{Piece}
use Rattle.tf_schedule.specs.Amounts.{start_of}
use Rattle.tf_schedule.specs.Drawing.{drawing, stop_of, IsOnMachine}
use Rattle.tf_schedule.specs.Piece.{machine_of, covers}
use Rattle.tf_schedule.specs.Schedule.{IsSchedule}
use Rattle.tf_schedule.proofs.Cells.{cell_exactly, piece_draws, on_some_machine}
use Rattle.tf_schedule.proofs.Lookup.{both_claim}
use Rattle.tf_schedule.proofs.Scan.{test_from_claimed}
use Rattle.tf_schedule.proofs.Times.{sound_times, time_le}
use Rattle.tf_schedule.specs.declared.job_order.Walk.{Walk}
use Rattle.tf_schedule.specs.declared.job_order.Walk.TheVariants.{Settled, Raised, Endless}
use Rattle.tf_schedule.specs.Passing.{IsPassed, ArePlaced, rank_in, IsRankOf, AreRanks, AreBelow, IsEndless, IsRaised, IsWalked}

-- ---- ranks with one more step

module _ (ranks : List ℕ) (small : AreRanks ranks) (i j : ℕ) (of_i : IsRankOf ranks i)
    (of_j : IsRankOf ranks j) where
  abbrev raised : List ℕ
  raised = set ranks (j - 1) (rank_in ranks i + 1)

  pub raised_len : length raised ≡ length ranks
  raised_len = length-set ranks (j - 1) (rank_in ranks i + 1)

  raised_rank : (h : ℕ) → IsRankOf ranks h
      → ((h ≡ j) × (rank_in raised h ≡ rank_in ranks i + 1)) ⊎ (rank_in raised h ≡ rank_in ranks h)
  raised_rank h of_h = elim (cases_eq h j) [
    | inl same ↦ inl (
      same,
      ap (λ n. get_or raised n 0) (let e : h - 1 ≡ j - 1 = omega (arith, same) in e)
          ∙ get_or-set_same ranks (j - 1) (rank_in ranks i + 1) 0 (omega (arith, of_j.0, of_j.1)),
    )
    | inr differ ↦ inr
        (get_or-set_other ranks (j - 1) (h - 1) (rank_in ranks i + 1) 0
        (λ e. differ (omega (arith, e, of_j.0, of_h.0))))
  ]

  pub raised_small : rank_in ranks i + 1 < length ranks → AreRanks raised
  raised_small lt n d h =
      let in' : n < length ranks = omega (arith, h, raised_len) in
      let same : get_or raised n d ≡ rank_in raised (n + 1) =
      get_or_default raised n d 0 h ∙ ap (λ x. get_or raised x 0) (let e : n ≡ n + 1 - 1 = omega arith in e) in
      ⊎_elim (λ own. omega (arith, same, own.1, lt, raised_len))
      (λ other. omega (arith, same, other, raised_len, at n in'))
      (raised_rank (n + 1) (omega arith, omega (arith, in')))
    where
      at : (n : ℕ) → n < length ranks → rank_in ranks (n + 1) < length ranks
      at n in' = subst (λ x. get_or ranks x 0 < length ranks)
          (let e : n ≡ n + 1 - 1 = omega arith in e) (small n 0 in')

  pub raised_below : (place : ℕ → ℕ) → place i < place j → AreBelow ranks place
      → AreBelow raised place
  raised_below place lt below h of_h =
      let of' : IsRankOf ranks h = (of_h.0, omega (arith, of_h.1, raised_len)) in
      ⊎_elim (λ own. omega (arith, own.1, lt, below i of_i, ap place own.0))
      (λ other. omega (arith, other, below h of')) (raised_rank h of')

  pub raised_more : rank_in ranks j < rank_in ranks i + 1
      → sum_by (λ r. r) ranks < sum_by (λ r. r) raised
  raised_more lt =
      omega (
        arith,
        lt,
        sum_by-set (λ r. r) ranks (j - 1) (rank_in ranks i + 1) 0 (omega (arith, of_j.0, of_j.1)),
      )

-- ---- a walk over pieces

-- the jobs of the first k pieces are placed
abbrev pub ArePlacedTo : ℕ → (ℕ → ℕ) → List Piece → Type 0
ArePlacedTo k place ps = (i : ℕ) (d : Piece) → i + 1 < k → i + 1 < length ps
    → IsPassed (get_or ps i d) (get_or ps (i + 1) d)
    → place (get_or ps i d).job < place (get_or ps (i + 1) d).job

abbrev pub IsSoFar : List Piece → ℕ → List ℕ → List ℕ → Walk → Type 0
IsSoFar ps k old new Settled = (new ≡ old) × ArePlacedTo k (rank_in new) ps
IsSoFar ps k old new Raised = sum_by (λ r. r) old < sum_by (λ r. r) new
IsSoFar ps k old new Endless = ⊥

-- the first k pieces are walked over
pub record IsWalking (ps : List Piece) (k : ℕ) (old new : List ℕ) (walk : Walk) : Type 0 where
  pub len : length new ≡ length old
  pub small : AreRanks new
  pub below : (place : ℕ → ℕ) → ArePlaced place ps → AreBelow old place → AreBelow new place
  pub outcome : IsSoFar ps k old new walk

module _ (ps : List Piece) (k : ℕ) (old new : List ℕ) (walk : Walk)
    (walking : IsWalking ps k old new walk) (some : 1 ≤ k) (on : k < length ps) (p q : Piece)
    (read_p : p ≡ get_or ps (k - 1) p) (read_q : q ≡ get_or ps k q) where
  at_p : (i : ℕ) (d : Piece) → i + 1 ≡ k → get_or ps i d ≡ p
  at_p i d e =
      ap (λ n. get_or ps n d) (let h : i ≡ k - 1 = omega (arith, e) in h)
      ∙ get_or_default ps (k - 1) d p (omega (arith, some, on)) ∙ sym read_p

  at_q : (i : ℕ) (d : Piece) → i + 1 ≡ k → get_or ps (i + 1) d ≡ q
  at_q i d e = ap (λ n. get_or ps n d) e ∙ get_or_default ps k d q on ∙ sym read_q

  -- in places that fit, the second comes behind the first
  placed_here : (place : ℕ → ℕ) → ArePlaced place ps → IsPassed p q → place p.job < place q.job
  placed_here place placed passed =
      let e : k - 1 + 1 ≡ k = omega (arith, some) in
      let first : get_or ps (k - 1) p ≡ p = at_p (k - 1) p e in
      let second : get_or ps (k - 1 + 1) p ≡ q = at_q (k - 1) p e in
      subst (λ (x : Piece). place x.job < place q.job) first
      (subst (λ (y : Piece). place (get_or ps (k - 1) p).job < place y.job) second
      (placed (k - 1) p (omega (arith, e, on))
      (subst (λ (x : Piece). IsPassed x (get_or ps (k - 1 + 1) p)) (sym first)
      (subst (λ (y : Piece). IsPassed p y) (sym second) passed))))

  more_placed : (place : ℕ → ℕ) → ArePlacedTo k place ps
      → (IsPassed p q → place p.job < place q.job) → ArePlacedTo (k + 1) place ps
  more_placed place placed here i d lt in' passed = elim (cases_lt (i + 1) k) [
    | inl before ↦ placed i d before in' passed
    | inr ge ↦
        let e : i + 1 ≡ k = omega (arith, lt, ge) in
        subst (λ (x : Piece). place x.job < place (get_or ps (i + 1) d).job) (sym (at_p i d e))
        (subst (λ (y : Piece). place p.job < place y.job) (sym (at_q i d e))
        (here (subst (λ (x : Piece). IsPassed x q) (at_p i d e)
        (subst (λ (y : Piece). IsPassed (get_or ps i d) y) (at_q i d e) passed))))
  ]

  so_far_more : (w : Walk) → (IsPassed p q → rank_in new p.job < rank_in new q.job)
      → IsSoFar ps k old new w → IsSoFar ps (k + 1) old new w
  so_far_more Settled here so = (so.0, more_placed (rank_in new) so.1 here)
  so_far_more Raised here so = so
  so_far_more Endless here so = so

  -- nothing was raised
  pub walking_same : (IsPassed p q → rank_in new p.job < rank_in new q.job)
      → IsWalking ps (k + 1) old new walk
  walking_same here = record {
    len = walking.len;
    small = walking.small;
    below = walking.below;
    outcome = so_far_more walk here walking.outcome;
  }

  so_far_sum : (w : Walk) → IsSoFar ps k old new w
      → sum_by (λ r. r) old ≤ sum_by (λ r. r) new
  so_far_sum Settled so = omega (arith, ap (sum_by (λ r. r)) so.0)
  so_far_sum Raised so = omega (arith, so)
  so_far_sum Endless so = absurd so

  module _ (passed : IsPassed p q) (of_p : IsRankOf new p.job) (of_q : IsRankOf new q.job) where
    pub walking_raised : (newer : List ℕ) → IsRaised new p.job q.job newer Raised
        → IsWalking ps (k + 1) old newer Raised
    walking_raised newer (is, more, few) = subst (λ rs. IsWalking ps (k + 1) old rs Raised) (sym is)
        (record {
          len = raised_len new walking.small p.job q.job of_p of_q ∙ walking.len;
          small = raised_small new walking.small p.job q.job of_p of_q few;
          below = λ place placed below.
              raised_below new walking.small p.job q.job of_p of_q place
              (placed_here place placed passed) (walking.below place placed below);
          outcome = omega (
            arith,
            so_far_sum walk walking.outcome,
            raised_more new walking.small p.job q.job of_p of_q more,
          );
        })

    pub walking_endless : length new ≤ rank_in new p.job + 1 → IsWalked ps old new Endless
    walking_endless all = record {
      len = walking.len;
      small = walking.small;
      below = walking.below;
      outcome = λ place placed below. (
        q.job,
        (of_q.0, omega (arith, of_q.1, walking.len)),
        omega (
          arith,
          all,
          walking.len,
          walking.below place placed below p.job of_p,
          placed_here place placed passed,
        ),
      );
    }

-- ---- walks

-- a sum of ranks is at most their number times itself
pub ranks_sum : (ranks : List ℕ) → AreRanks ranks
    → sum_by (λ r. r) ranks ≤ length ranks * length ranks
ranks_sum ranks small =
    sum_by-le (λ r. r) (length ranks) ranks (λ n d h. omega (arith, small n d h))

-- what is endless behind a walk is so before it
pub endless_before : (ps : List Piece) (old new : List ℕ) → length new ≡ length old
    → ((place : ℕ → ℕ) → ArePlaced place ps → AreBelow old place → AreBelow new place)
    → IsEndless new ps → IsEndless old ps
endless_before ps old new len below endless place placed before =
    let (j, of_j, all) = endless place placed (below place placed before) in
    (j, (of_j.0, omega (arith, of_j.1, len)), omega (arith, all, len))

-- ---- places in a list

abbrev pub place_in : List ℕ → ℕ → ℕ
place_in [] j = 0
place_in (x ∷ xs) j = cond (eqb x j) 0 (suc (place_in xs j))

pub place_found : (xs : List ℕ) (n j d : ℕ) → n < length xs → get_or xs n d ≡ j
    → (place_in xs j < length xs) × (get_or xs (place_in xs j) d ≡ j)
place_found [] n j d h e = absurd (omega arith)
place_found (x ∷ xs) n j d h e =
    by (eqb x j) refl n h e (λ k less at. place_found xs k j d less at)
  where
    by : (b : Bool) → eqb x j ≡ b → (n : ℕ) → n < length (x ∷ xs) → get_or (x ∷ xs) n d ≡ j
        → ((k : ℕ) → k < length xs → get_or xs k d ≡ j
        → (place_in xs j < length xs) × (get_or xs (place_in xs j) d ≡ j))
        → (cond b 0 (suc (place_in xs j)) < length (x ∷ xs))
        × (get_or (x ∷ xs) (cond b 0 (suc (place_in xs j))) d ≡ j)
    by true t n h e later = (omega arith, grind (arith, nat_tests))
    by false t zero h e later = absurd (unequal t e)
      where
        unequal : eqb x j ≡ false → x ≡ j → ⊥
        unequal t e = grind (arith, nat_tests)
    by false t (suc n) h e later = let rest = later n (omega arith) e in
        (omega (arith, rest.0), rest.1)

-- no number stands twice in a range
before_range : (a n c : ℕ) → c < a → sum_by (λ j. cond (eqb c j) 1 0) (range_with_len a n) ≡ 0
before_range a zero c lt = refl
before_range a (suc n) c lt =
    let none : eqb c a ≡ false = grind (arith, nat_tests) in
    omega (
      arith,
      sum_by-cons (λ j. cond (eqb c j) 1 0) a (range_with_len (a + 1) n),
      ap {B = ℕ} (λ (b : Bool). cond b 1 0) none,
      before_range (a + 1) n c (omega arith),
    )

once : (a n c : ℕ) → sum_by (λ j. cond (eqb c j) 1 0) (range_with_len a n) ≤ 1
once a zero c = omega arith
once a (suc n) c = elim (cases_eq c a) [
  | inl same ↦
      let here : eqb c a ≡ true = grind (arith, nat_tests) in
      omega (
        arith,
        sum_by-cons (λ j. cond (eqb c j) 1 0) a (range_with_len (a + 1) n),
        ap {B = ℕ} (λ (b : Bool). cond b 1 0) here,
        before_range (a + 1) n c (omega arith),
      )
  | inr differ ↦
      let none : eqb c a ≡ false = grind (arith, nat_tests) in
      omega (
        arith,
        sum_by-cons (λ j. cond (eqb c j) 1 0) a (range_with_len (a + 1) n),
        ap {B = ℕ} (λ (b : Bool). cond b 1 0) none,
        once (a + 1) n c,
      )
]

-- ---- the pieces of a schedule

module _ (n m : ℕ) (ps : List Piece) (schedule : IsSchedule ps)
    (known : All (λ p. ((1 ≤ p.job) × (p.job ≤ n)) × IsOnMachine m p) ps) where
  on : All (IsOnMachine m) ps
  on i d h = (known i d h).1

  full : (i : ℕ) (d : Piece) → i < length ps → start_of (get_or ps i d) < stop_of (get_or ps i d)
  full i d h = sound_times (get_or ps i d) (schedule.sound i d h)

  -- on a machine, a piece is over when a later one starts
  over_before : (a b : ℕ) (d : Piece) → a < b → b < length ps
      → (get_or ps a d).machine ≡ (get_or ps b d).machine
      → stop_of (get_or ps a d) ≤ start_of (get_or ps b d)
  over_before a b d lt h same = elim (cases_lt (start_of (get_or ps b d)) (stop_of (get_or ps a d))) [
    | inl less ↦
        let order = schedule.in_order a b d lt h in
        let rise : start_of (get_or ps a d) ≤ start_of (get_or ps b d) =
        time_le (get_or ps a d).start (get_or ps b d).start (order.1 same) in
        let t : ℕ = start_of (get_or ps b d) in
        let i : ℕ = (get_or ps b d).machine in
        let by_a : covers i t (get_or ps a d) ≡ true =
        test_from_claimed machine_of i t (get_or ps a d)
        (record { on_line = same; started = rise; going = less }) in
        let by_b : covers i t (get_or ps b d) ≡ true =
        test_from_claimed machine_of i t (get_or ps b d)
        (record { on_line = refl; started = omega arith; going = full b d h }) in
        absurd
        (omega (arith, schedule.none_twice i t, both_claim ps a b d i t lt h by_a by_b))
    | inr le ↦ le
  ]

  -- the jobs of the pieces on a machine from one on to another: one job, or of rising places
  chain : (place : ℕ → ℕ) → ArePlaced place ps → (a c : ℕ) (d : Piece) → a + c < length ps
      → (get_or ps a d).machine ≡ (get_or ps (a + c) d).machine
      → ((get_or ps a d).job ≡ (get_or ps (a + c) d).job)
      ⊎ (place (get_or ps a d).job < place (get_or ps (a + c) d).job)
  chain place placed a zero d h same =
      inl (ap (λ n. (get_or ps n d).job) (let e : a ≡ a + 0 = omega arith in e))
  chain place placed a (suc c) d h same =
      let last : a + suc c ≡ a + c + 1 = omega arith in
      let first = schedule.in_order a (a + suc c) d (omega arith) h in
      let between : ((get_or ps a d).machine ≡ (get_or ps (a + c) d).machine)
      × ((get_or ps (a + c) d).machine ≡ (get_or ps (a + c + 1) d).machine) =
      elim (cases_lt 0 c) [
        | inl some ↦
            let one = schedule.in_order a (a + c) d (omega arith) (omega arith) in
            let two = schedule.in_order (a + c) (a + c + 1) d (omega arith) (omega (arith, h)) in
            let same' : (get_or ps a d).machine ≡ (get_or ps (a + c + 1) d).machine =
            same ∙ ap (λ n. (get_or ps n d).machine) last in
            (omega (arith, one.0, two.0, same'), omega (arith, one.0, two.0, same'))
        | inr none ↦
            let here : a ≡ a + c = omega arith in (
              ap (λ n. (get_or ps n d).machine) here,
              sym (ap (λ n. (get_or ps n d).machine) here) ∙ same
                  ∙ ap (λ n. (get_or ps n d).machine) last,
            )
      ] in
      let so_far = chain place placed a c d (omega arith) between.0 in
      let step : ((get_or ps (a + c) d).job ≡ (get_or ps (a + c + 1) d).job)
      ⊎ (place (get_or ps (a + c) d).job < place (get_or ps (a + c + 1) d).job) =
      elim (cases_eq (get_or ps (a + c) d).job (get_or ps (a + c + 1) d).job) [
        | inl one ↦ inl one
        | inr other ↦ inr
            (placed (a + c) d (omega (arith, h))
            (record { machine = between.1; other = other }))
      ] in
      subst (λ x. ((get_or ps a d).job ≡ (get_or ps x d).job)
      ⊎ (place (get_or ps a d).job < place (get_or ps x d).job)) (sym last)
      (joined (get_or ps a d).job (get_or ps (a + c) d).job (get_or ps (a + c + 1) d).job so_far
      step)
    where
      joined : (x y z : ℕ) → (x ≡ y) ⊎ (place x < place y) → (y ≡ z) ⊎ (place y < place z)
          → (x ≡ z) ⊎ (place x < place z)
      joined x y z (inl e) (inl f) = inl (e ∙ f)
      joined x y z (inl e) (inr f) = inr (subst (λ w. place w < place z) (sym e) f)
      joined x y z (inr e) (inl f) = inr (subst (λ w. place x < place w) f e)
      joined x y z (inr e) (inr f) = inr (omega (arith, e, f))

  -- a job of at most the place of another one passes each machine before it
  pub goes_first : (place : ℕ → ℕ) → ArePlaced place ps → (i j : ℕ) → 1 ≤ i → 1 ≤ j → i ≢ j
      → place i ≤ place j → GoesFirst (drawing m ps) i j
  goes_first place placed i j low_i low_j other le a s t at_s at_t =
      let (x, p, in_x, read_p, p_going) =
      (cell_exactly m ps a s i schedule.none_twice (on_some_machine m ps s a i low_i at_s) low_i).0
      at_s in
      let (y, q, in_y, read_q, q_going) =
      (cell_exactly m ps a t j schedule.none_twice (on_some_machine m ps t a j low_j at_t) low_j).0
      at_t in
      let read_q' : get_or ps y p ≡ q = get_or_default ps y p q in_y ∙ read_q in
      let same : p.machine ≡ q.machine = p_going.machine ∙ sym q_going.machine in
      elim (cases_lt x y) [
        | inl lt ↦
            let over = over_before x y p lt in_y
            (ap (λ (z : Piece). z.machine) read_p ∙ same ∙ sym (ap (λ (z : Piece). z.machine) read_q'))
            in
            let over' : stop_of p ≤ start_of q =
            subst (λ (z : Piece). stop_of z ≤ start_of q) read_p
            (subst (λ (z : Piece). stop_of (get_or ps x p) ≤ start_of z) read_q' over) in
            omega (arith, over', p_going.going, q_going.started)
        | inr ge ↦
            let gap : y + (x - y) ≡ x = omega (arith, ge) in
            let at_x : get_or ps (y + (x - y)) p ≡ p = ap (λ n. get_or ps n p) gap ∙ read_p in
            let link = chain place placed y (x - y) p (omega (arith, gap, in_x))
            (ap (λ (z : Piece). z.machine) read_q' ∙ sym same
            ∙ sym (ap (λ (z : Piece). z.machine) at_x)) in
            let job_y : (get_or ps y p).job ≡ j = ap (λ (z : Piece). z.job) read_q' ∙ q_going.job in
            let job_x : (get_or ps (y + (x - y)) p).job ≡ i = ap (λ (z : Piece). z.job) at_x
            ∙ p_going.job in
            absurd (⊎_elim (λ e. other (sym job_x ∙ sym e ∙ job_y))
            (λ less. omega (arith, less, le, ap place job_x, ap place job_y)) link)
      ]

  back : (j : ℕ) → 1 ≤ j → 1 + (j - 1) ≡ j
  back j low = omega arith

  -- each job has a place in an order of all of them
  stands : (order : List ℕ) → IsPermutation (range_with_len 1 n) order → (j : ℕ)
      → (1 ≤ j) × (j ≤ n)
      → (place_in order j < length order) × (get_or order (place_in order j) 0 ≡ j)
  stands order same j job =
      let (x, in_x, at) = Contains-permutation (range_with_len 1 n) order j same (
        j - 1,
        omega (arith, job, length-range_with_len 1 n),
        get_or-range_with_len 1 n (j - 1) j (omega (arith, job)) ∙ back j job.0,
      ) in
      place_found order x j 0 in_x (get_or_default order x 0 j in_x ∙ at)

  -- in an order in which the jobs pass each machine, places are right
  pub placed_by : (order : List ℕ) → IsPermutation (range_with_len 1 n) order
      → AllPairs (GoesFirst (drawing m ps)) order → ArePlaced (place_in order) ps
  placed_by order same pairs a d h passed =
      let p : Piece = get_or ps a d in
      let q : Piece = get_or ps (a + 1) d in
      let at_p = stands order same p.job (known a d (omega (arith, h))).0 in
      let at_q = stands order same q.job (known (a + 1) d h).0 in
      elim (cases_lt (place_in order p.job) (place_in order q.job)) [
        | inl lt ↦ lt
        | inr ge ↦ elim (cases_lt (place_in order q.job) (place_in order p.job)) [
          | inl less ↦
              let first : GoesFirst (drawing m ps) q.job p.job =
              subst (λ x. GoesFirst (drawing m ps) x p.job) at_q.1
              (subst (λ y. GoesFirst (drawing m ps) (get_or order (place_in order q.job) 0) y) at_p.1
              (pairs (place_in order q.job) (place_in order p.job) 0 less at_p.0)) in
              let cell_p : cell (drawing m ps) (start_of p) (p.machine - 1) ≡ p.job =
              piece_draws m ps a d (start_of p) schedule.none_twice on (omega (arith, h))
              (omega arith) (full a d (omega (arith, h))) in
              let cell_q : cell (drawing m ps) (start_of q) (p.machine - 1) ≡ q.job =
              ap (λ x. cell (drawing m ps) (start_of q) (x - 1)) passed.machine
              ∙ piece_draws m ps (a + 1) d (start_of q) schedule.none_twice on h (omega arith)
              (full (a + 1) d h) in
              absurd
              (omega (
                arith,
                first (p.machine - 1) (start_of q) (start_of p) cell_q cell_p,
                over_before a (a + 1) d (omega arith) h passed.machine,
                full a d (let e : a < length ps = omega (arith, h) in e),
              ))
          | inr le ↦
              let e : place_in order p.job ≡ place_in order q.job = omega (arith, ge, le) in
              absurd
              (passed.other (sym at_p.1 ∙ ap (λ x. get_or order x 0) e ∙ at_q.1))
        ]
      ]

  -- so the walks over the pieces of a timetable with one order end
  pub no_endless : (ranks : List ℕ) → length ranks ≡ n → ((j : ℕ) → rank_in ranks j ≡ 0)
      → IsEndless ranks ps → (order : List ℕ) → IsPermutation (range_with_len 1 n) order
      → AllPairs (GoesFirst (drawing m ps)) order → ⊥
  no_endless ranks len none endless order same pairs =
      let (j, of_j, all) = endless (place_in order) (placed_by order same pairs)
      (λ j of_j. omega (arith, none j)) in
      let found = stands order same j (of_j.0, omega (arith, of_j.1, len)) in
      omega (
        arith,
        all,
        len,
        found.0,
        length_permutation (range_with_len 1 n) order same,
        length-range_with_len 1 n,
      )

  -- and an order by ranks that settled is one in which the jobs pass each machine
  pub settled_order : (ranks order : List ℕ) → ArePlaced (rank_in ranks) ps
      → IsPermutation (range_with_len 1 n) order
      → AllPairs (λ i j. rank_in ranks i ≤ rank_in ranks j) order
      → AllPairs (GoesFirst (drawing m ps)) order
  settled_order ranks order placed same sorted a b d lt h =
      goes_first (rank_in ranks) placed (get_or order a d) (get_or order b d)
      (low a (omega (arith, lt, h))) (low b h) (apart a b d lt h) (sorted a b d lt h)
    where
      low : (a : ℕ) → a < length order → 1 ≤ get_or order a d
      low a h = All-permutation (λ j. 1 ≤ j) (range_with_len 1 n) order same
          (λ i e in'. omega (
            arith,
            get_or-range_with_len 1 n i e
                (omega (arith, in', length-range_with_len 1 n)),
          )) a d h

      apart : AllPairs (λ i j. i ≢ j) order
      apart = distinct_apart order
          (λ c. omega (
            arith,
            sum_by-IsPermutation (λ j. cond (eqb c j) 1 0) (range_with_len 1 n) order same,
            once 1 n c,
          ))

-- ---- ranks at the start, numbers and sorts

pub zero_rank : (n : ℕ) (ranks : List ℕ) → ranks ≡ replicate n 0 → (j : ℕ) → rank_in ranks j ≡ 0
zero_rank n ranks is j = ap (λ rs. get_or rs (j - 1) 0) is ∙ elim (cases_lt (j - 1) n) [
  | inl lt ↦ get_or-replicate n (j - 1) 0 0 lt
  | inr ge ↦
      get_or_past (replicate n 0) (j - 1) 0 (omega (arith, ge, length-replicate n (let z : ℕ = 0 in z)))
]

pub front_of : (xs ys : List ℕ) (n : ℕ) → n ≡ length xs → take n (xs ++ ys) ≡ xs
front_of xs ys n e = ap (λ k. take k (xs ++ ys)) e ∙ take-append_seam xs ys

pub rank_of_piece : (ps : List Piece) (old new : List ℕ) → length new ≡ length old
    → All (λ p. IsRankOf old p.job) ps → (i : ℕ) (p : Piece) → i < length ps → p ≡ get_or ps i p
    → IsRankOf new p.job
rank_of_piece ps old new len known i p h read =
    let own : IsRankOf old p.job = subst (λ (q : Piece). IsRankOf old q.job) (sym read) (known i p h) in
    (own.0, omega (arith, own.1, len))

-- the measure of walks
pub fewer_left : (old new : List ℕ) → length new ≡ length old → AreRanks new
    → sum_by (λ r. r) old < sum_by (λ r. r) new
    → length new * length new - sum_by (λ r. r) new < length old * length old - sum_by (λ r. r) old
fewer_left old new len small more =
    let square : length new * length new ≡ length old * length old = ap (λ n. n * n) len in
    omega (arith, square, more, ranks_sum new small)

range_more : (a n : ℕ) → range_with_len a (n + 1) ≡ range_with_len a n ++ (a + n) ∷ []
range_more a zero = ap (λ x. x ∷ []) (let e : a ≡ a + 0 = omega arith in e)
range_more a (suc n) =
    ap (range_with_len a) (let e : suc n + 1 ≡ suc (n + 1) = omega arith in e)
    ∙ ap (λ xs. a ∷ xs) (range_more (a + 1) n)
    ∙ ap (λ x. a ∷ (range_with_len (a + 1) n ++ x ∷ []))
    (let e : a + 1 + n ≡ a + suc n = omega arith in e)

pub numbered_more : (xs : List ℕ) (k x : ℕ) → xs ≡ range_with_len 1 k → x ≡ k + 1
    → xs ++ x ∷ [] ≡ range_with_len 1 (k + 1)
numbered_more xs k x before is =
    ap (λ ys. ys ++ x ∷ []) before
    ∙ ap (λ y. range_with_len 1 k ++ y ∷ []) (let e : x ≡ 1 + k = omega (arith, is) in e)
    ∙ sym (range_more 1 k)

pub by_key : (key : ℕ → ℕ) (xs : List ℕ) → IsSortedByKey key nat_cmp xs
    → AllPairs (λ i j. key i ≤ key j) xs
by_key key xs sorted i j d lt h =
    let not_less : is_lt (nat_cmp (key (get_or xs j d)) (key (get_or xs i d))) ≡ false =
    sorted_far (λ x y. is_lt (nat_cmp (key x) (key y))) (ranks_by nat_cmp_total key) xs sorted i j d
    (omega arith) h in
    at_most (key (get_or xs i d)) (key (get_or xs j d)) not_less
  where
    at_most : (x y : ℕ) → is_lt (nat_cmp y x) ≡ false → x ≤ y
    at_most x y e = grind (arith, nat_tests)
