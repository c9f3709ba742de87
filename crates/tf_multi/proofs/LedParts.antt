-- The pieces on one of the two machines, of jobs that a leader leads: they are laid one after
-- another, and of each operation it is remembered when it is over.
use Rattle.std.proofs.Common.{◌≡◌, ◌≢◌, ℕ, zero, suc, ◌+◌, ◌<◌, ◌≤◌, Bool, true, false, not, cond, eqb, max, List, [], ◌∷◌, ◌++◌, length, get_or, take, drop, filter, refl, sym, ap, subst, ◌∙◌, arith}
use Rattle.std.specs.List.{All, AllPairs, sum_by}
use Rattle.std.proofs.lemmas.Bool.Decides.{nat_tests}
use Rattle.std.proofs.lemmas.List.{append-nil, append_assoc, take-append-drop, take_more, take_all, drop_more}
use Rattle.std.proofs.lemmas.List.Elements.{All-cons, filter-append}
use Rattle.std.proofs.lemmas.List.Sums.{fold-append, sum_by-cons, sum_by_more, sum_by-take-le}
use Rattle.tf_schedule.specs.declared.piece.Piece.{Piece}
use Rattle.tf_schedule.specs.declared.semi_active.Operation.{Operation}
use Rattle.tf_schedule.specs.Drawing.{greatest_stop}
use Rattle.tf_schedule.specs.MachinePart.{is_in_part}
use Rattle.tf_schedule.specs.Piece.{machine_of, job_of, piece_of}
use Rattle.tf_schedule.specs.SemiActive.{line_stop, machine_stop, job_stop, stretch, start_after, with_operation, laid}
use Rattle.tf_schedule.proofs.Laying.{line_stop_push, line_stop-other, line_stop-le-greatest, stop_fold}
use Rattle.tf_schedule.proofs.Parts.{AllPairs-head, AllPairs-across}
use Rattle.tf_multi.specs.OpenShop.{over_at, enclosed}
use Rattle.tf_multi.specs.TwoMachines.{first_machine, second_machine, operation_of, routed}
use Rattle.tf_multi.proofs.OneByOne.{other_stops}
use Rattle.tf_multi.proofs.Routes.{routed-append, All-routed, sum_routed, sum_enclosed}

-- ---- one operation

over_within : (s t : ℕ) → over_at s t ≤ s + t
over_within s zero = omega arith
over_within s (suc t) = omega arith

on_line : (b : Bool) (g s : ℕ) → b ≡ true → cond b (max g s) g ≡ max g s
on_line true g s e = refl
on_line false g s e = absurd (cc)

-- its line is free when it is over and all before it
stop_with : (line : Piece → ℕ) (ps : List Piece) (j i s t n : ℕ) → line (piece_of j i s (s + t)) ≡ n
    → line_stop line (ps ++ stretch j i s t) n ≡ max (line_stop line ps n) (over_at s t)
stop_with line ps j i s zero n on =
    ap (λ qs. line_stop line qs n) (append-nil ps)
    ∙ (let free : line_stop line ps n ≡ max (line_stop line ps n) 0 = omega arith in free)
stop_with line ps j i s (suc t) n on =
    line_stop_push line ps (piece_of j i s (s + suc t)) n
    ∙ on_line (eqb (line (piece_of j i s (s + suc t))) n) (line_stop line ps n) (s + suc t)
    (grind (arith, nat_tests))

-- ---- all operations

pub other_machine : (e : Bool) → first_machine (not e) ≡ second_machine e
other_machine true = refl
other_machine false = refl

pub machines_differ : (e : Bool) → first_machine e ≢ second_machine e
machines_differ true same = absurd (omega arith)
machines_differ false same = absurd (omega arith)

-- of the pieces ps those in a part are added, and the machines x and y are free from e and g
pub record IsParted (b : Bool) (x y : ℕ) (base qs ps : List Piece) (e g : ℕ) : Type 0 where
  pub pieces : qs ≡ base ++ filter (is_in_part b) ps
  pub first : e ≡ machine_stop ps x
  pub second : g ≡ machine_stop ps y

-- the leader on its first machine, and the first n jobs on both
abbrev pub until : (ℕ → ℕ → ℕ) → ℕ → ℕ → ℕ → List ℕ → ℕ → List Operation
until f x y r js n = operation_of f r y ∷ routed f x y (take n js)

module _ (b : Bool) (f : ℕ → ℕ → ℕ) (x y : ℕ) (differ : x ≢ y) (base : List Piece) where
  -- with one more stretch
  parted_stretch : (qs ps rs : List Piece) (j i s t : ℕ) → qs ≡ base ++ filter (is_in_part b) ps
      → rs ≡ qs ++ filter (is_in_part b) (stretch j i s t)
      → rs ≡ base ++ filter (is_in_part b) (ps ++ stretch j i s t)
  parted_stretch qs ps rs j i s t before more =
      more ∙ ap (λ zs. zs ++ filter (is_in_part b) (stretch j i s t)) before
      ∙ append_assoc base (filter (is_in_part b) ps) (filter (is_in_part b) (stretch j i s t))
      ∙ ap (λ zs. base ++ zs) (sym (filter-append (is_in_part b) ps (stretch j i s t)))

  -- with both operations of one more job
  parted_job : (qs ps rs zs : List Piece) (e g j o l e' g' : ℕ) → IsParted b x y base qs ps e g
      → job_stop ps j ≡ 0 → rs ≡ qs ++ filter (is_in_part b) (stretch j x e (f j x))
      → o ≡ over_at e (f j x) → e' ≡ max e o
      → zs ≡ rs ++ filter (is_in_part b) (stretch j y (max g o) (f j y))
      → l ≡ over_at (max g o) (f j y) → g' ≡ max g l
      → IsParted b x y base zs (with_operation (with_operation ps (operation_of f j x)) (operation_of f j y))
      e' g'
  parted_job qs ps rs zs e g j o l e' g' parted free one over first two last second =
      let ps1 : List Piece = ps ++ stretch j x e (f j x) in
      let ps2 : List Piece = ps1 ++ stretch j y (max g o) (f j y) in
      let start : start_after ps (operation_of f j x) ≡ e = omega (arith, parted.first, free) in
      let is1 : with_operation ps (operation_of f j x) ≡ ps1 =
      ap (λ s. ps ++ stretch j x s (f j x)) start in
      let on_x = stop_with machine_of ps j x e (f j x) x refl in
      let on_j = stop_with job_of ps j x e (f j x) j refl in
      let on_y : machine_stop ps1 y ≡ machine_stop ps y =
      line_stop-other machine_of ps j x e (f j x) y differ in
      let start2 : start_after ps1 (operation_of f j y) ≡ max g o =
      omega (arith, on_j, on_y, free, over, parted.second) in
      let is2 : with_operation (with_operation ps (operation_of f j x)) (operation_of f j y)
      ≡ ps2 =
      ap (λ us. with_operation us (operation_of f j y)) is1
      ∙ ap (λ s. ps1 ++ stretch j y s (f j y)) start2 in
      subst (λ us. IsParted b x y base zs us e' g') (sym is2)
      (record {
        pieces = parted_stretch rs ps1 zs j y (max g o) (f j y)
            (parted_stretch qs ps rs j x e (f j x) parted.pieces one) two;
        first = omega (
          arith,
          first,
          parted.first,
          over,
          on_x,
          line_stop-other machine_of ps1 j y (max g o) (f j y) x (λ same. differ (sym same)),
        );
        second = omega (
          arith,
          second,
          parted.second,
          last,
          on_y,
          stop_with machine_of ps1 j y (max g o) (f j y) y refl,
        );
      })

  module _ (r : ℕ) (js : List ℕ) (apart : AllPairs (λ i j. i ≢ j) (r ∷ js)) where
    abbrev ops : ℕ → List Operation
    ops = until f x y r js

    -- no job before one has its number
    others_before : (n j : ℕ) → n < length js → j ≡ get_or js n j
        → All (λ o. o.job ≢ j) (ops n)
    others_before n j lt is =
        let parts : js ≡ take n js ++ (j ∷ drop (n + 1) js) =
        sym (take-append-drop n js)
        ∙ ap (λ us. take n js ++ us) (drop_more js n j lt
        ∙ ap (λ k. k ∷ drop (n + 1) js) (sym is)) in
        let across = AllPairs-across (λ i k. i ≢ k) (r ∷ take n js) (j ∷ drop (n + 1) js)
        (subst (λ us. AllPairs (λ i k. i ≢ k) (r ∷ us)) parts apart) in
        All-cons (λ o. o.job ≢ j) (operation_of f r y) (routed f x y (take n js))
        (across zero r (omega arith) zero j (omega arith))
        (All-routed f x y (λ o. o.job ≢ j) (take n js) (λ k d h.
        let here : get_or (take n js) k d ≢ j =
        across (suc k) d (omega arith) zero j (omega arith) in (here, here)))

    -- with the job at place n, which is laid as the operations u and w
    pub parted_more : (n j : ℕ) (qs rs zs : List Piece) (e g o i l e' g' : ℕ) (u w : Operation)
        → IsParted b x y base qs (laid (ops n)) e g → n < length js → j ≡ get_or js n j
        → u ≡ operation_of f j x → w ≡ operation_of f j y
        → rs ≡ qs ++ filter (is_in_part b) (stretch u.job u.machine e u.time)
        → o ≡ over_at e u.time → e' ≡ max e o → i ≡ max g o
        → zs ≡ rs ++ filter (is_in_part b) (stretch w.job w.machine i w.time)
        → l ≡ over_at i w.time → g' ≡ max g l
        → IsParted b x y base zs (laid (ops (n + 1))) e' g'
    parted_more n j qs rs zs e g o i l e' g' u w parted lt is is_u is_w one over first start two
        last second =
        let more : ops (n + 1) ≡ ops n ++ (operation_of f j x ∷ operation_of f j y ∷ []) =
        ap (λ us. operation_of f r y ∷ us)
        (ap (routed f x y) (take_more js n j lt ∙ ap (λ k. take n js ++ k ∷ []) (sym is))
        ∙ routed-append f x y (take n js) (j ∷ [])) in
        subst (λ us. IsParted b x y base zs us e' g')
        (sym (ap laid more
        ∙ fold-append with_operation [] (ops n) (operation_of f j x ∷ operation_of f j y ∷ [])))
        (parted_job qs (laid (ops n)) rs zs e g j o l e' g' parted
        (other_stops job_of (λ v. v.job) (λ v s t. refl) (ops n) [] j (others_before n j lt is))
        (one
        ∙ ap (λ (v : Operation). qs ++ filter (is_in_part b) (stretch v.job v.machine e v.time))
        is_u)
        (over ∙ ap (λ (v : Operation). over_at e v.time) is_u) first
        (two
        ∙ ap (λ (v : Operation). rs ++ filter (is_in_part b) (stretch v.job v.machine i v.time))
        is_w
        ∙ ap (λ s. rs ++ filter (is_in_part b) (stretch j y s (f j y))) start)
        (last ∙ ap (λ (v : Operation). over_at i v.time) is_w
        ∙ ap (λ s. over_at s (f j y)) start) second)

    -- ---- within all work

    abbrev both : ℕ → ℕ
    both j = f j x + f j y

    abbrev total : ℕ
    total = sum_by (λ o. o.time) (enclosed f x y r js)

    until_stop : (n : ℕ) → greatest_stop (laid (ops n)) ≤ f r y + sum_by both (take n js)
    until_stop n =
        omega (
          arith,
          stop_fold (ops n) [],
          sum_by-cons (λ u. u.time) (operation_of f r y) (routed f x y (take n js)),
          sum_routed f x y (λ u. u.time) (take n js),
        )

    -- the next job
    pub next_within : (n j : ℕ) (qs : List Piece) (e g o : ℕ) → IsParted b x y base qs (laid (ops n)) e g
        → n < length js → j ≡ get_or js n j → o ≡ over_at e (f j x)
        → (e + f j x ≤ total) × (max g o + f j y ≤ total)
    next_within n j qs e g o parted lt is over =
        let room : greatest_stop (laid (ops n)) + both j ≤ total =
        omega (
          arith,
          until_stop n,
          sum_by_more both js n j lt,
          ap both is,
          sum_by-take-le both js (n + 1),
          sum_enclosed f x y (λ o. o.time) r js,
          sum_by-cons both r js,
        ) in
        let first : e ≤ greatest_stop (laid (ops n)) =
        omega (arith, parted.first, line_stop-le-greatest machine_of (laid (ops n)) x) in
        let second : g ≤ greatest_stop (laid (ops n)) =
        omega (arith, parted.second, line_stop-le-greatest machine_of (laid (ops n)) y) in
        (omega arith, omega (arith, over, over_within e (f j x)))

    -- and the leader behind all of them
    pub last_within : (n e o : ℕ) → e ≡ machine_stop (laid (ops n)) x → o ≡ over_at 0 (f r y)
        → max e o + f r x ≤ sum_by (λ o. o.time) (enclosed f x y r js)
    last_within n e o is over =
        omega (
          arith,
          is,
          over,
          over_within 0 (f r y),
          line_stop-le-greatest machine_of (laid (ops n)) x,
          until_stop n,
          sum_by-take-le both js n,
          sum_enclosed f x y (λ o. o.time) r js,
          sum_by-cons both r js,
        )

    -- with the leader's last operation
    pub parted_all : (n : ℕ) (qs rs : List Piece) (e g o i : ℕ) (u : Operation)
        → IsParted b x y base qs (laid (ops n)) e g → length js ≤ n → o ≡ over_at 0 (f r y)
        → u ≡ operation_of f r x → i ≡ max e o
        → rs ≡ qs ++ filter (is_in_part b) (stretch u.job u.machine i u.time)
        → rs ≡ base ++ filter (is_in_part b) (laid (enclosed f x y r js))
    parted_all n qs rs e g o i u parted all over is_u first more =
        let ps : List Piece = laid (ops n) in
        let whole : take n js ≡ js = take_all n js all in
        let apart_from : All (λ i. i ≢ r) js =
        λ k d h same. AllPairs-head (λ i k. i ≢ k) r js apart k d h (sym same) in
        let here : job_stop ps r ≡ over_at 0 (f r y) =
        ap (λ us. job_stop (laid (operation_of f r y ∷ routed f x y us)) r) whole
        ∙ other_stops job_of (λ u. u.job) (λ u s t. refl) (routed f x y js)
        (with_operation [] (operation_of f r y)) r
        (All-routed f x y (λ u. u.job ≢ r) js
        (λ k d h. (apart_from k d h, apart_from k d h)))
        ∙ stop_with job_of [] r y 0 (f r y) r refl
        ∙ (let own : max 0 (over_at 0 (f r y)) ≡ over_at 0 (f r y) = omega arith in own) in
        let start : start_after ps (operation_of f r x) ≡ max e o =
        omega (arith, parted.first, here, over) in
        parted_stretch qs ps rs r x (max e o) (f r x) parted.pieces
        (more
        ∙ ap (λ (v : Operation). qs ++ filter (is_in_part b) (stretch v.job v.machine i v.time))
        is_u
        ∙ ap (λ s. qs ++ filter (is_in_part b) (stretch r x s (f r x))) first)
        ∙ ap (λ us. base ++ filter (is_in_part b) us)
        (ap (λ s. ps ++ stretch r x s (f r x)) (sym start)
        ∙ sym (fold-append with_operation [] (ops n) (operation_of f r x ∷ []))
        ∙ ap (λ us. laid (operation_of f r y ∷ (routed f x y us ++ operation_of f r x ∷ []))) whole)
