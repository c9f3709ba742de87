-- Jobs that one machine runs one after another: their pieces are those of their operations.
use Rattle.std.proofs.Common.{◌≡◌, ◌≢◌, ℕ, ◌+◌, ◌≤◌, List, [], ◌∷◌, ◌++◌, ◌<◌, length, get_or, drop, map, refl, sym, ap, subst, ◌∙◌, arith}
use Rattle.std.specs.List.{All, AllPairs, fold, sum_by}
use Rattle.std.proofs.lemmas.List.{drop_more}
use Rattle.std.proofs.lemmas.List.Elements.{All-head, All-tail}
use Rattle.std.proofs.lemmas.List.Sums.{sum_by-cons}
use Rattle.tf_model.specs.Limit.{limit}
use Rattle.tf_schedule.specs.declared.piece.Piece.{Piece}
use Rattle.tf_schedule.specs.declared.semi_active.Operation.{Operation}
use Rattle.tf_schedule.specs.Piece.{machine_of, job_of, piece_of}
use Rattle.tf_schedule.specs.SemiActive.{line_stop, machine_stop, job_stop, stretch, start_after, with_operation}
use Rattle.tf_schedule.proofs.Laying.{line_stop-own, line_stop-other}
use Rattle.tf_schedule.proofs.Parts.{AllPairs-head, AllPairs-tail}
use Rattle.tf_multi.specs.Dealing.{run_on}

-- of the jobs of the times f that are left, machine i runs the first from now on; with them the
-- pieces are the wanted ones, within the limit
pub record IsLeft (f : ℕ → ℕ) (i : ℕ) (wanted ps : List Piece) (now : ℕ) (js : List ℕ) : Type 0
  where
    pub pieces : fold with_operation ps (map (run_on f i) js) ≡ wanted
    pub within : now + sum_by f js ≤ limit
    pub machine : machine_stop ps i ≡ now
    pub jobs : All (λ j. job_stop ps j ≡ 0) js
    pub apart : AllPairs (λ a b. a ≢ b) js

-- none is left
pub left_none : (f : ℕ → ℕ) (i : ℕ) {wanted ps : List Piece} {now : ℕ} {js : List ℕ}
    → IsLeft f i wanted ps now js → js ≡ [] → ps ≡ wanted
left_none f i {ps = ps} left none =
    ap (λ hs. fold with_operation ps (map (run_on f i) hs)) (sym none) ∙ left.pieces

-- with the first of them
pub left_next : (f : ℕ → ℕ) (i : ℕ) (wanted ps qs : List Piece) (now j : ℕ) (js : List ℕ)
    → IsLeft f i wanted ps now (j ∷ js) → qs ≡ ps ++ stretch j i now (f j)
    → IsLeft f i wanted qs (now + f j) js
left_next f i wanted ps qs now j js left more =
    let free : job_stop ps j ≡ 0 = All-head (λ h. job_stop ps h ≡ 0) j js left.jobs in
    let start : start_after ps (run_on f i j) ≡ now = omega (arith, left.machine, free) in
    let own = line_stop-own machine_of ps j i now (f j) i refl (omega (arith, left.machine)) in
    let differ = AllPairs-head (λ a b. a ≢ b) j js left.apart in
    let laid : qs ≡ with_operation ps (run_on f i j) =
    more ∙ ap (λ s. ps ++ stretch j i s (f j)) (sym start) in
    record {
      pieces = ap (λ rs. fold with_operation rs (map (run_on f i) js)) laid ∙ left.pieces;
      within = omega (arith, left.within, sum_by-cons f j js);
      machine = omega (arith, ap (λ rs. machine_stop rs i) more, own.0, own.1, left.machine);
      jobs = λ k d h. ap (λ rs. job_stop rs (get_or js k d)) more
          ∙ line_stop-other job_of ps j i now (f j) (get_or js k d) (differ k d h)
          ∙ All-tail (λ a. job_stop ps a ≡ 0) j js left.jobs k d h;
      apart = AllPairs-tail (λ a b. a ≢ b) j js left.apart;
    }

-- with the job at place k of a list, which is laid as the operation o
pub left_more : (f : ℕ → ℕ) (i : ℕ) {wanted ps qs : List Piece} {now now' : ℕ} (order : List ℕ)
    (k j : ℕ) (o : Operation) → IsLeft f i wanted ps now (drop k order) → k < length order
    → j ≡ get_or order k j → o ≡ run_on f i j
    → qs ≡ ps ++ stretch o.job o.machine now o.time → now' ≡ now + o.time
    → IsLeft f i wanted qs now' (drop (k + 1) order)
left_more f i {wanted = wanted} {ps = ps} {qs = qs} {now = now} order k j o left here is is_o more
    end =
    rw (end ∙ ap (λ (u : Operation). now + u.time) is_o)
    (left_next f i wanted ps qs now j (drop (k + 1) order)
    (subst (IsLeft f i wanted ps now)
    (drop_more order k j here ∙ ap (λ x. x ∷ drop (k + 1) order) (sym is)) left)
    (more ∙ ap (λ (u : Operation). ps ++ stretch u.job u.machine now u.time) is_o))

-- operations leave the stops of a line that they are not on
pub other_stops : (line : Piece → ℕ) (of : Operation → ℕ)
    → ((o : Operation) (s e : ℕ) → line (piece_of o.job o.machine s e) ≡ of o)
    → (os : List Operation) (ps : List Piece) (n : ℕ) → All (λ o. of o ≢ n) os
    → line_stop line (fold with_operation ps os) n ≡ line_stop line ps n
other_stops line of same [] ps n other = refl
other_stops line of same (o ∷ os) ps n other =
    let s : ℕ = start_after ps o in
    other_stops line of same os (with_operation ps o) n (All-tail (λ u. of u ≢ n) o os other)
    ∙ line_stop-other line ps o.job o.machine s o.time n
    (λ e. All-head (λ u. of u ≢ n) o os other (sym (same o s (s + o.time)) ∙ e))
