-- Machines that are filled one after another: what one more job changes, and what holds when all
-- are placed.
use Rattle.std.proofs.Common.{◌≡◌, ℕ, zero, suc, ◌+◌, ◌-◌, ◌*◌, ◌<◌, ◌≤◌, pos, Bool, true, false, cond, ◌&&◌, ltb, leb, eqb, List, [], ◌∷◌, ◌++◌, get_or, refl, sym, ap, subst, ◌∙◌, arith, inl, inr}
use Rattle.std.specs.List.{All, sum_by, range_with_len}
use Rattle.std.proofs.Math.Nat.{mul-le-mul_left}
use Rattle.std.proofs.lemmas.List.Elements.{All-push}
use Rattle.std.proofs.lemmas.List.Quantifiers.{all_pairs_push}
use Rattle.std.proofs.lemmas.List.Sums.{sum_by_push, sum_by-cons}
use Rattle.std.proofs.lemmas.Int.{ints}
use Rattle.std.proofs.lemmas.Bool.{cases_lt, cases_eq}
use Rattle.std.proofs.lemmas.Bool.Decides.{nat_tests}
use Rattle.tf_schedule.specs.declared.piece.Piece.{Piece}
use Rattle.tf_schedule.specs.Piece.{machine_of, piece_of, is_during, covers}
use Rattle.tf_schedule.specs.Claims.{runs, claims, places, JobsOnce}
use Rattle.tf_schedule.specs.Schedule.{ComesBefore, IsPiece, IsSchedule}
use Rattle.tf_schedule.specs.Drawing.{duration}
use Rattle.tf_schedule.specs.Amounts.{work}
use Rattle.tf_schedule.proofs.Scan.{claimed_from_test}
use Rattle.tf_schedule.proofs.Times.{sound_times, time_le_back}
use Rattle.tf_multi.specs.Fill.{IsPlaced, IsFilled}
use Rattle.tf_model.specs.Limit.{limit}

-- ---- one more piece at the end

claims_push : (ps : List Piece) (p : Piece) (i t : ℕ)
    → claims (ps ++ p ∷ []) i t ≡ claims ps i t + cond (covers i t p) 1 0
claims_push ps p i t = sum_by_push (λ q. cond (covers i t q) 1 0) ps p

places_push : (ps : List Piece) (p : Piece) (j t : ℕ)
    → places (ps ++ p ∷ []) j t ≡ places ps j t + cond (runs j t p) 1 0
places_push ps p j t = sum_by_push (λ q. cond (runs j t q) 1 0) ps p

work_push : (ps : List Piece) (p : Piece) (j : ℕ)
    → work (ps ++ p ∷ []) j ≡ work ps j + cond (eqb p.job j) (duration p) 0
work_push ps p j = sum_by_push (λ q. cond (eqb q.job j) (duration q) 0) ps p

-- the cells before time t of machine i
abbrev IsBeforeFront : ℕ → ℕ → ℕ → ℕ → Type 0
IsBeforeFront i t h u = (h ≤ i) × (h ≡ i → u < t)

-- the pieces are of jobs 1 to n and make a schedule, which claims no cell from time t of machine i
-- on
record IsLaid (v n : ℕ) (ps : List Piece) (i t : ℕ) : Type 0 where
  placed : All (IsPlaced v n i t) ps
  schedule : IsSchedule ps
  before_front : (h u : ℕ) → 0 < claims ps h u → IsBeforeFront i t h u

once_step : (b : Bool) (n more : ℕ) → more ≡ n + cond b 1 0 → n ≤ 1 → (b ≡ true → 0 < n → ⊥)
    → more ≤ 1
once_step true n more e le never = let none : ¬ (0 < n) = never refl in omega arith
once_step false n more e le _ = omega arith

placed_here : (v n j i s e : ℕ) → 0 < j → j ≤ n → 0 < i → s < e → e ≤ v → v ≤ limit
    → IsPlaced v n i e (piece_of j i s e)
placed_here v n j i s e from_one to_n some lt le short_enough = record {
  sound = ((omega (arith, ints), omega (arith, ints)), omega (arith, ints));
  job = (from_one, to_n);
  machine = (some, omega arith);
  stop = le;
  before = λ _. omega arith;
}

-- a piece before the front starts before the next piece on the machine
before_next : (v n j i s e : ℕ) (p : Piece) → IsPlaced v n i s p → ComesBefore p (piece_of j i s e)
before_next v n j i s e p placed = (
  placed.machine.1,
  λ same. time_le_back p.start (pos s) (omega (arith, ints))
      (omega (arith, sound_times p placed.sound, placed.before same)),
)

-- the next piece on the machine
laid_push : (v n j i s e : ℕ) → 0 < j → j ≤ n → 0 < i → s < e → e ≤ v → v ≤ limit
    → (ps : List Piece) → IsLaid v n ps i s → IsLaid v n (ps ++ piece_of j i s e ∷ []) i e
laid_push v n j i s e from_one to_n some lt le short_enough ps laid = record {
  placed = All-push (IsPlaced v n i e) ps p
      (λ k d h. let q = laid.placed k d h in
      record {
        sound = q.sound;
        job = q.job;
        machine = q.machine;
        stop = q.stop;
        before = λ same. omega (arith, q.before same);
      })
      here;
  schedule = record {
    sound = All-push IsPiece ps p laid.schedule.sound here.sound;
    none_twice =
        λ h u. once_step (covers h u p) (claims ps h u) _ (claims_push ps p h u)
        (laid.schedule.none_twice h u) (λ c more.
        let f = claimed_from_test machine_of h u p c in
        let b = laid.before_front h u more in
        omega (arith, f.on_line, f.started, b.1));
    in_order = all_pairs_push ComesBefore ps p laid.schedule.in_order
        (λ k d h. before_next v n j i s e (get_or ps k d) (laid.placed k d h));
  };
  before_front =
      λ h u more. front_step h u (covers h u p) refl (claims (ps ++ p ∷ []) h u)
      (claims_push ps p h u) more;
}
  where
    p : Piece
    p = piece_of j i s e

    here : IsPlaced v n i e p
    here = placed_here v n j i s e from_one to_n some lt le short_enough

    front_step : (h u : ℕ) (b : Bool) → covers h u p ≡ b → (more : ℕ)
        → more ≡ claims ps h u + cond b 1 0 → 0 < more → IsBeforeFront i e h u
    front_step h u true c more eq any = let f = claimed_from_test machine_of h u p c in
        (omega (arith, f.on_line), λ same. f.going)
    front_step h u false c more eq any = let b = laid.before_front h u (omega arith) in
        (b.0, λ same. omega (arith, b.1))

-- on to the next machine
laid_next : (v n : ℕ) (ps : List Piece) (i t : ℕ) → IsLaid v n ps i t → IsLaid v n ps (i + 1) 0
laid_next v n ps i t laid = record {
  placed = λ k d h. let q = laid.placed k d h in
      record {
        sound = q.sound;
        job = q.job;
        machine = (q.machine.0, omega (arith, q.machine.1));
        stop = q.stop;
        before = λ same. absurd (omega (arith, q.machine.1));
      };
  schedule = laid.schedule;
  before_front = λ h u some. let b = laid.before_front h u some in
      (omega (arith, b.0), λ same. absurd (omega (arith, b.0)));
}

-- the same for one more job
laid_from_filled : (v : ℕ) (times : ℕ → ℕ) (job : ℕ) → 0 < job → (ps : List Piece) (i t : ℕ)
    → IsFilled v times (job - 1) ps i t → IsLaid v job ps i t
laid_from_filled v times job from_one ps i t filled = record {
  placed = λ k d h. let q = filled.placed k d h in
      record {
        sound = q.sound;
        job = (q.job.0, omega (arith, q.job.1));
        machine = q.machine;
        stop = q.stop;
        before = q.before;
      };
  schedule = filled.schedule;
  before_front = filled.before_front;
}

-- a piece of another job changes nothing of this one
other_step : (a d : Bool) (n more : ℕ) → a ≡ false → more ≡ n + cond (a && d) 1 0 → more ≡ n
other_step true d n more e eq = absurd (cc)
other_step false d n more e eq = omega arith

other_work_step : (a : Bool) (x n more : ℕ) → a ≡ false → more ≡ n + cond a x 0 → more ≡ n
other_work_step true x n more e eq = absurd (cc)
other_work_step false x n more e eq = omega arith

own_work_step : (a : Bool) (x n more : ℕ) → a ≡ true → more ≡ n + cond a x 0 → more ≡ n + x
own_work_step true x n more e eq = omega arith
own_work_step false x n more e eq = absurd (cc)

places_other : (ps : List Piece) (own i s e j u : ℕ) → ¬ (own ≡ j)
    → places (ps ++ piece_of own i s e ∷ []) j u ≡ places ps j u
places_other ps own i s e j u differs =
    other_step (eqb own j) (is_during u (piece_of own i s e)) (places ps j u) _
    (grind (arith, nat_tests)) (places_push ps (piece_of own i s e) j u)

work_other : (ps : List Piece) (own i s e j : ℕ) → ¬ (own ≡ j)
    → work (ps ++ piece_of own i s e ∷ []) j ≡ work ps j
work_other ps own i s e j differs =
    other_work_step (eqb own j) (e - s) (work ps j) _ (grind (arith, nat_tests))
    (work_push ps (piece_of own i s e) j)

work_own : (ps : List Piece) (own i s e : ℕ)
    → work (ps ++ piece_of own i s e ∷ []) own ≡ work ps own + (e - s)
work_own ps own i s e =
    own_work_step (eqb own own) (e - s) (work ps own) _ (grind (arith, nat_tests))
    (work_push ps (piece_of own i s e) own)

-- a job that did not run yet runs in one place
places_own : (ps : List Piece) (own i s e u : ℕ)
    → places (ps ++ piece_of own i s e ∷ []) own u ≡ places ps own u + cond (leb s u && ltb u e) 1 0
places_own ps own i s e u = places_push ps (piece_of own i s e) own u
    ∙ ap (λ (b : Bool). places ps own u + cond (b && (leb s u && ltb u e)) 1 0)
    (let same : eqb own own ≡ true = grind (arith, nat_tests) in same)

one_interval : (s e u n : ℕ) → n ≡ 0 → n + cond (leb s u && ltb u e) 1 0 ≤ 1
one_interval s e u n none = grind (arith, nat_tests)

two_intervals : (s e rest u n : ℕ) → n ≡ 0 → rest ≤ s
    → n + cond (leb s u && ltb u e) 1 0 + cond (leb 0 u && ltb u rest) 1 0 ≤ 1
two_intervals s e rest u n none le = grind (arith, nat_tests)

sum_by_range_from : (f : ℕ → ℕ) (a n : ℕ)
    → sum_by f (range_with_len a (suc n)) ≡ sum_by f (range_with_len a n) + f (a + n)
sum_by_range_from f a zero =
    let same : f a ≡ f (a + 0) = ap f (omega arith) in
    omega (arith, sum_by-cons f a [], same)
sum_by_range_from f a (suc n) =
    let same : f (a + 1 + n) ≡ f (a + suc n) = ap f (omega arith) in
    omega (
      arith,
      sum_by_range_from f (a + 1) n,
      sum_by-cons f a (range_with_len (a + 1) (suc n)),
      sum_by-cons f a (range_with_len (a + 1) n),
      same,
    )

-- the sum over the jobs up to one
pub sum_by_jobs_to : (f : ℕ → ℕ) (k job : ℕ) → job ≡ k + 1
    → sum_by f (range_with_len 1 job) ≡ sum_by f (range_with_len 1 k) + f job
sum_by_jobs_to f k job is_job =
    let last : f (1 + k) ≡ f job = ap f (omega arith) in
    let grown : sum_by f (range_with_len 1 job) ≡ sum_by f (range_with_len 1 (suc k)) =
    ap (λ n. sum_by f (range_with_len 1 n)) (let same : job ≡ suc k = omega arith in same) in
    omega (arith, sum_by_range_from f 1 k, last, grown)

-- and over fewer of them
pub sum_by_range_le : (f : ℕ → ℕ) (a k n : ℕ) → k ≤ n
    → sum_by f (range_with_len a k) ≤ sum_by f (range_with_len a n)
sum_by_range_le f a zero n le = omega arith
sum_by_range_le f a (suc k) zero le = absurd (omega arith)
sum_by_range_le f a (suc k) (suc n) le =
    omega (
      arith,
      sum_by_range_le f (a + 1) k n (omega arith),
      sum_by-cons f a (range_with_len (a + 1) k),
      sum_by-cons f a (range_with_len (a + 1) n),
    )

-- ---- one more job

module _ (v : ℕ) (times : ℕ → ℕ) (job need : ℕ) (from_one : 0 < job) (is_need : times job ≡ need)
    (work_there : 0 < need) (short : need ≤ v) (short_enough : v ≤ limit) (ps : List Piece)
    (i t : ℕ) (filled : IsFilled v times (job - 1) ps i t) where
  total_more : sum_by times (range_with_len 1 job) ≡ sum_by times (range_with_len 1 (job - 1))
      + need
  total_more = omega (arith, sum_by_jobs_to times (job - 1) job (omega arith))

  -- the same, with one or two more pieces of the job
  module _ (qs : List Piece)
      (others_places : (j u : ℕ) → ¬ (job ≡ j) → places qs j u ≡ places ps j u)
      (others_work : (j : ℕ) → ¬ (job ≡ j) → work qs j ≡ work ps j) where
    one_place_from : ((u : ℕ) → places qs job u ≤ 1) → JobsOnce qs
    one_place_from own j u = elim (cases_eq job j) [
      | inl same ↦ subst (λ h. places qs h u ≤ 1) same (own u)
      | inr differs ↦ omega (arith, others_places j u differs, filled.one_place j u)
    ]

    no_later_job_from : (j u : ℕ) → job < j → places qs j u ≡ 0
    no_later_job_from j u lt =
        omega (arith, others_places j u (λ e. omega arith), filled.no_later_job j u (omega arith))

    no_later_work_from : (j : ℕ) → job < j → work qs j ≡ 0
    no_later_work_from j lt =
        omega (arith, others_work j (λ e. omega arith), filled.no_later_work j (omega arith))

    amounts_from : work qs job ≡ need → (j : ℕ) → 0 < j → j ≤ job → work qs j ≡ times j
    amounts_from own j some le = elim (cases_eq job j) [
      | inl same ↦ subst (λ h. work qs h ≡ times h) same (own ∙ sym is_need)
      | inr differs ↦ others_work j differs ∙ filled.amounts j some (omega arith)
    ]

  none_yet : (u : ℕ) → places ps job u ≡ 0
  none_yet u = filled.no_later_job job u (omega arith)

  no_work_yet : work ps job ≡ 0
  no_work_yet = filled.no_later_work job (omega arith)

  -- the job fits on the machine
  pub filled_fits : t + need ≤ v
      → IsFilled v times job (ps ++ piece_of job i t (t + need) ∷ []) i (t + need)
  filled_fits room =
      let qs = ps ++ piece_of job i t (t + need) ∷ [] in
      let laid = laid_push v job job i t (t + need) from_one (omega arith) filled.front.0
      (omega arith) room short_enough ps
      (laid_from_filled v times job from_one ps i t filled) in
      let others_places : (j u : ℕ) → ¬ (job ≡ j) → places qs j u ≡ places ps j u =
      places_other ps job i t (t + need) in
      let others_work : (j : ℕ) → ¬ (job ≡ j) → work qs j ≡ work ps j =
      work_other ps job i t (t + need) in
      record {
        placed = laid.placed;
        schedule = laid.schedule;
        before_front = laid.before_front;
        one_place = one_place_from qs others_places others_work
            (λ u. subst (λ m. m ≤ 1) (sym (places_own ps job i t (t + need) u))
            (one_interval t (t + need) u (places ps job u) (none_yet u)));
        no_later_job = no_later_job_from qs others_places others_work;
        amounts = amounts_from qs others_places others_work
            (omega (arith, work_own ps job i t (t + need), no_work_yet));
        no_later_work = no_later_work_from qs others_places others_work;
        position = omega (arith, filled.position, total_more);
        front = (filled.front.0, room, λ lt. omega arith);
      }

  -- the machine is full, and the job goes to the next one
  pub filled_next : t ≡ v
      → IsFilled v times job (ps ++ piece_of job (i + 1) 0 need ∷ []) (i + 1) need
  filled_next full =
      let qs = ps ++ piece_of job (i + 1) 0 need ∷ [] in
      let laid = laid_push v job job (i + 1) 0 need from_one (omega arith) (omega arith) work_there
      short short_enough ps
      (laid_next v job ps i t (laid_from_filled v times job from_one ps i t filled)) in
      let others_places : (j u : ℕ) → ¬ (job ≡ j) → places qs j u ≡ places ps j u =
      places_other ps job (i + 1) 0 need in
      let others_work : (j : ℕ) → ¬ (job ≡ j) → work qs j ≡ work ps j =
      work_other ps job (i + 1) 0 need in
      let some : 0 < i = filled.front.0 in
      record {
        placed = laid.placed;
        schedule = laid.schedule;
        before_front = laid.before_front;
        one_place = one_place_from qs others_places others_work
            (λ u. subst (λ m. m ≤ 1) (sym (places_own ps job (i + 1) 0 need u))
            (one_interval 0 need u (places ps job u) (none_yet u)));
        no_later_job = no_later_job_from qs others_places others_work;
        amounts = amounts_from qs others_places others_work
            (omega (arith, work_own ps job (i + 1) 0 need, no_work_yet));
        no_later_work = no_later_work_from qs others_places others_work;
        position = omega (arith, filled.position, total_more);
        front = (omega arith, short, λ lt. work_there);
      }

  -- the job fills the machine, and its rest starts the next one
  pub filled_wraps : t < v → v < t + need
      → IsFilled v times job
      ((ps ++ piece_of job i t v ∷ []) ++ piece_of job (i + 1) 0 (need - (v - t)) ∷ []) (i + 1)
      (need - (v - t))
  filled_wraps free over =
      let rest = need - (v - t) in
      let mid = ps ++ piece_of job i t v ∷ [] in
      let qs = mid ++ piece_of job (i + 1) 0 rest ∷ [] in
      let some : 0 < i = filled.front.0 in
      let within : rest ≤ t = omega arith in
      let laid_mid =
      laid_push v job job i t v from_one (omega arith) some free (omega arith) short_enough ps
      (laid_from_filled v times job from_one ps i t filled) in
      let laid = laid_push v job job (i + 1) 0 rest from_one (omega arith) (omega arith)
      (omega arith) (omega arith) short_enough mid (laid_next v job mid i v laid_mid) in
      let others_places : (j u : ℕ) → ¬ (job ≡ j) → places qs j u ≡ places ps j u =
      λ j u differs. places_other mid job (i + 1) 0 rest j u differs
      ∙ places_other ps job i t v j u differs in
      let others_work : (j : ℕ) → ¬ (job ≡ j) → work qs j ≡ work ps j =
      λ j differs. work_other mid job (i + 1) 0 rest j differs
      ∙ work_other ps job i t v j differs in
      record {
        placed = laid.placed;
        schedule = laid.schedule;
        before_front = laid.before_front;
        one_place = one_place_from qs others_places others_work (λ u.
            let counted : places qs job u ≡ places ps job u + cond (leb t u && ltb u v) 1 0
            + cond (leb 0 u && ltb u rest) 1 0 = places_own mid job (i + 1) 0 rest u
            ∙ ap (λ m. m + cond (leb 0 u && ltb u rest) 1 0) (places_own ps job i t v u) in
            subst (λ m. m ≤ 1) (sym counted)
            (two_intervals t v rest u (places ps job u) (none_yet u) within));
        no_later_job = no_later_job_from qs others_places others_work;
        amounts = amounts_from qs others_places others_work
            (omega (arith, work_own mid job (i + 1) 0 rest, work_own ps job i t v, no_work_yet));
        no_later_work = no_later_work_from qs others_places others_work;
        position = omega (arith, filled.position, total_more);
        front = (omega arith, omega arith, λ lt. omega arith);
      }

-- the machines suffice
pub front_in_range : (v : ℕ) (times : ℕ → ℕ) (n : ℕ) (ps : List Piece) (i t m : ℕ) → 0 < m
    → sum_by times (range_with_len 1 n) ≤ m * v → IsFilled v times n ps i t → i ≤ m
front_in_range v times n ps i t m some room filled = elim (cases_lt m i) [
  | inl above ↦
      let product : v * (m + 1) ≤ v * i = mul-le-mul_left v (omega arith) in
      let last : 0 < t = filled.front.2 (omega arith) in
      absurd (omega (arith, product, last, filled.position, room))
  | inr le ↦ le
]
