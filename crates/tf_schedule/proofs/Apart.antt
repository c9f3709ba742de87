-- What the timetable of pieces apart is like: no cell is claimed twice, no job runs in two places,
-- and what the order of the operations says of gaps, machines, flow and arcs.
use Rattle.std.proofs.Common.{◌≡◌, ◌≢◌, ◌⊎◌, ℕ, ◌+◌, ◌<◌, ◌≤◌, ◌≤ℤ◌, Bool, true, false, cond, List, [], ◌∷◌, length, get_or, refl, sym, ap, subst, ◌∙◌, arith, inl, inr}
use Rattle.std.specs.List.{AllPairs}
use Rattle.std.proofs.lemmas.Bool.{cases_lt}
use Rattle.std.proofs.lemmas.List.{get_or_default}
use Rattle.tf_schedule.specs.declared.piece.Piece.{Piece}
use Rattle.tf_schedule.specs.Piece.{machine_of, job_of, covers}
use Rattle.tf_schedule.specs.Claims.{runs, claims, places, JobsOnce}
use Rattle.tf_schedule.specs.Schedule.{IsPiece, NoneTwice}
use Rattle.tf_schedule.specs.Drawing.{drawing, stop_of, IsGoing}
use Rattle.tf_model.specs.Timetable.{cell}
use Rattle.tf_schedule.proofs.Cells.{cell_exactly, on_some_machine}
use Rattle.tf_schedule.proofs.Counting.{count_none}
use Rattle.tf_schedule.proofs.Drawing.{claims-cons, places-cons}
use Rattle.tf_schedule.proofs.Scan.{claimed_from_test, test_from_not_claimed}
use Rattle.tf_schedule.proofs.Times.{sound_times, time_le_back}
use Rattle.tf_schedule.proofs.Laying.{IsApart}
use Rattle.tf_schedule.proofs.Parts.{AllPairs-head, AllPairs-tail}

once_step : (b : Bool) (n more : ℕ) → more ≡ cond b 1 0 + n → n ≤ 1 → (b ≡ true → n ≡ 0) → more ≤ 1
once_step true n more e le none = omega (arith, none refl)
once_step false n more e le none = omega arith

module _ (S : ℕ → ℕ → ℕ → ℕ → Type 0) where
  pub apart_none_twice : (ps : List Piece) → AllPairs (IsApart S) ps → NoneTwice ps
  apart_none_twice [] pairs i t = omega arith
  apart_none_twice (p ∷ ps) pairs i t =
      once_step (covers i t p) (claims ps i t) _ (claims-cons p ps i t)
      (apart_none_twice ps (AllPairs-tail (IsApart S) p ps pairs) i t) (λ c.
      let here = claimed_from_test machine_of i t p c in
      count_none (covers i t) ps
      (λ n d lt. test_from_not_claimed machine_of i t (get_or ps n d) (λ there.
      let apart = AllPairs-head (IsApart S) p ps pairs n d lt in
      omega (
        arith,
        apart.on_machine (here.on_line ∙ sym there.on_line),
        here.going,
        there.started,
      ))))

  pub apart_jobs_once : (ps : List Piece) → AllPairs (IsApart S) ps → JobsOnce ps
  apart_jobs_once [] pairs j t = omega arith
  apart_jobs_once (p ∷ ps) pairs j t =
      once_step (runs j t p) (places ps j t) _ (places-cons p ps j t)
      (apart_jobs_once ps (AllPairs-tail (IsApart S) p ps pairs) j t) (λ c.
      let here = claimed_from_test job_of j t p c in
      count_none (runs j t) ps (λ n d lt. test_from_not_claimed job_of j t (get_or ps n d) (λ there.
      let apart = AllPairs-head (IsApart S) p ps pairs n d lt in
      omega (arith, apart.of_job (here.on_line ∙ sym there.on_line), here.going, there.started))))

  module _ (ps : List Piece) (pairs : AllPairs (IsApart S) ps) where
    -- two pieces of the list are in an order, or one
    pieces_apart : (a c : ℕ) (p q : Piece) → a < length ps → c < length ps → get_or ps a p ≡ p
        → get_or ps c q ≡ q → IsApart S p q ⊎ (IsApart S q p ⊎ (p ≡ q))
    pieces_apart a c p q in_a in_c read_p read_q =
        let at_c : get_or ps c p ≡ q = get_or_default ps c p q in_c ∙ read_q in
        elim (cases_lt a c) [
          | inl lt ↦ inl (subst (λ z. IsApart S z q) read_p
              (subst (λ z. IsApart S (get_or ps a p) z) at_c (pairs a c p lt in_c)))
          | inr le ↦ elim (cases_lt c a) [
            | inl lt ↦ inr (inl
                (subst (λ z. IsApart S z p) at_c
                (subst (λ z. IsApart S (get_or ps c p) z) read_p (pairs c a p lt in_a))))
            | inr ge ↦ let same : a ≡ c = omega arith in inr
                (inr (sym read_p ∙ ap (λ n. get_or ps n p) same ∙ at_c))
          ]
        ]

    -- of two cells with jobs: the pieces that are going there
    pub cells_apart : (m i h s t j k : ℕ) → 0 < j → 0 < k → cell (drawing m ps) s i ≡ j
        → cell (drawing m ps) t h ≡ k
        → (p : Piece) × (q : Piece) × (IsGoing (i + 1) s j p) × (IsGoing (h + 1) t k q) ×
        (IsApart S p q ⊎ (IsApart S q p ⊎ (p ≡ q)))
    cells_apart m i h s t j k some some' at_s at_t =
        let once = apart_none_twice ps pairs in
        let (a, p, in_a, read_p, p_going) =
        (cell_exactly m ps i s j once (on_some_machine m ps s i j some at_s) some).0 at_s in
        let (c, q, in_c, read_q, q_going) =
        (cell_exactly m ps h t k once (on_some_machine m ps t h k some' at_t) some').0 at_t in
        (p, q, p_going, q_going, pieces_apart a c p q in_a in_c read_p read_q)

    -- where no job comes twice on a machine, it has no gap there
    pub apart_no_gap : ((j i : ℕ) → ¬ (S j i j i)) → (m j i s t u : ℕ) → 0 < j → s ≤ t → t ≤ u
        → cell (drawing m ps) s i ≡ j → cell (drawing m ps) u i ≡ j → cell (drawing m ps) t i ≡ j
    apart_no_gap never m j i s t u some low high at_s at_u =
        let once = apart_none_twice ps pairs in
        let on = on_some_machine m ps s i j some at_s in
        let (a, p, in_a, read_p, p_going) = (cell_exactly m ps i s j once on some).0 at_s in
        let (c, q, in_c, read_q, q_going) = (cell_exactly m ps i u j once on some).0 at_u in
        let same : stop_of p ≡ stop_of q = elim (pieces_apart a c p q in_a in_c read_p read_q) [
          | inl apart ↦ absurd
              (never j (i + 1)
              (twice p q (i + 1) j p_going.job p_going.machine q_going.job q_going.machine
              apart.kept))
          | inr rest ↦ elim rest [
            | inl apart ↦ absurd
                (never j (i + 1)
                (twice q p (i + 1) j q_going.job q_going.machine p_going.job p_going.machine
                apart.kept))
            | inr one ↦ ap stop_of one
          ]
        ] in
        (cell_exactly m ps i t j once on some).1 (
          a,
          p,
          in_a,
          read_p,
          record {
            job = p_going.job;
            machine = p_going.machine;
            started =
                omega (arith, p_going.started);
            going = omega (arith, q_going.going, same);
          },
        )
      where
        twice : (p q : Piece) (i j : ℕ) → p.job ≡ j → p.machine ≡ i → q.job ≡ j → q.machine ≡ i
            → S p.job p.machine q.job q.machine → S j i j i
        twice p q i j pj pm qj qm kept =
            subst (λ a. S a i j i) pj
            (subst (λ a. S p.job a j i) pm
            (subst (λ a. S p.job p.machine a i) qj
            (subst (λ a. S p.job p.machine q.job a) qm kept)))

    -- where each job comes once, it is on one machine
    pub apart_one_machine : ((j a b : ℕ) → ¬ (S j a j b)) → (m j s t a b : ℕ) → 0 < j
        → cell (drawing m ps) s a ≡ j → cell (drawing m ps) t b ≡ j → a ≡ b
    apart_one_machine never m j s t a b some at_s at_t =
        let (p, q, p_going, q_going, order) = cells_apart m a b s t j j some some at_s at_t in
        elim order [
          | inl apart ↦ absurd
              (never j p.machine q.machine
              (subst (λ k. S k p.machine j q.machine) p_going.job
              (subst (λ k. S p.job p.machine k q.machine) q_going.job apart.kept)))
          | inr rest ↦ elim rest [
            | inl apart ↦ absurd
                (never j q.machine p.machine
                (subst (λ k. S k q.machine j p.machine) q_going.job
                (subst (λ k. S q.job q.machine k p.machine) p_going.job apart.kept)))
            | inr one ↦ omega
                (arith, p_going.machine, q_going.machine, ap (λ (z : Piece). z.machine) one)
          ]
        ]

    -- where each job comes on machine 1 before machine 2, it is over there first
    pub apart_in_flow : ((j a b : ℕ) → S j a j b → a < b) → (m j s t : ℕ) → 0 < j
        → cell (drawing m ps) s 0 ≡ j → cell (drawing m ps) t 1 ≡ j → s < t
    apart_in_flow rising m j s t some at_s at_t =
        let (p, q, p_going, q_going, order) = cells_apart m 0 1 s t j j some some at_s at_t in
        elim order [
          | inl apart ↦ omega
              (arith, apart.of_job (p_going.job ∙ sym q_going.job), p_going.going, q_going.started)
          | inr rest ↦ elim rest [
            | inl apart ↦ absurd
                (omega (
                  arith,
                  rising j q.machine p.machine
                      (subst (λ k. S k q.machine j p.machine) q_going.job
                      (subst (λ k. S q.job q.machine k p.machine) p_going.job apart.kept)),
                  p_going.machine,
                  q_going.machine,
                ))
            | inr one ↦ absurd
                (omega (arith, p_going.machine, q_going.machine, ap (λ (z : Piece). z.machine) one))
          ]
        ]

    -- on one machine a job that never comes before job j starts when that is over
    pub apart_in_order : (m j k s t a b : ℕ) → m ≡ 1 → 0 < j → 0 < k → j ≢ k
        → ((a b : ℕ) → ¬ (S k a j b)) → cell (drawing m ps) s a ≡ j → cell (drawing m ps) t b ≡ k
        → s < t
    apart_in_order m j k s t a b single some some' differ never at_s at_t =
        let (p, q, p_going, q_going, order) = cells_apart m a b s t j k some some' at_s at_t in
        let on_a = on_some_machine m ps s a j some at_s in
        let on_b = on_some_machine m ps t b k some' at_t in
        elim order [
          | inl apart ↦ omega (
            arith,
            apart.on_machine (omega (arith, p_going.machine, q_going.machine)),
            p_going.going,
            q_going.started,
          )
          | inr rest ↦ elim rest [
            | inl apart ↦ absurd
                (never q.machine p.machine
                (subst (λ z. S z q.machine j p.machine) q_going.job
                (subst (λ z. S q.job q.machine z p.machine) p_going.job apart.kept)))
            | inr one ↦ absurd
                (differ (sym p_going.job ∙ ap (λ (z : Piece). z.job) one ∙ q_going.job))
          ]
        ]

-- on one machine the pieces are in the order of their starts
pub starts_apart : (S : ℕ → ℕ → ℕ → ℕ → Type 0) (p q : Piece) → IsPiece p → IsPiece q
    → IsApart S p q → p.machine ≡ q.machine → p.start ≤ℤ q.start
starts_apart S p q p_sound q_sound apart same =
    time_le_back p.start q.start q_sound.0.0
    (omega (arith, sound_times p p_sound, apart.on_machine same))
