-- One job more by the wrap-around rule.
use Rattle.std.proofs.Common.{◌≡◌, ℕ, suc, ◌+◌, ◌-◌, ◌<◌, ◌≤◌, List, [], ◌∷◌, ◌++◌, sym, ap, ◌∙◌, append_assoc, append-nil, arith}
use Rattle.std.specs.List.{range_with_len}
use Rattle.std.proofs.lemmas.Bool.{le-leb, lt-leb}
use Rattle.tf_schedule.specs.declared.piece.Piece.{Piece}
use Rattle.tf_schedule.specs.Piece.{piece_of}
use Rattle.tf_multi.specs.Wrapped.{wrapped}

module _ (v : ℕ) (f : ℕ → ℕ) (i t j time : ℕ) (js : List ℕ) (ps : List Piece) (is : time ≡ f j)
  where
    -- the machine is full
    pub wraps_next : v ≤ t
        → ps ++ wrapped v f i t (j ∷ js)
        ≡ (ps ++ piece_of j (i + 1) 0 time ∷ []) ++ wrapped v f (i + 1) time js
    wraps_next full =
        rw (is, le-leb v t full)
        (sym (append_assoc ps (piece_of j (i + 1) 0 (f j) ∷ []) (wrapped v f (i + 1) (f j) js)))

    -- the job fits
    pub wraps_fits : t < v → time ≤ v - t
        → ps ++ wrapped v f i t (j ∷ js)
        ≡ (ps ++ piece_of j i t (t + time) ∷ []) ++ wrapped v f i (t + time) js
    wraps_fits room fits =
        let short : f j ≤ v - t = omega (arith, is, fits) in
        rw (is, lt-leb v t room, le-leb (f j) (v - t) short)
        (sym (append_assoc ps (piece_of j i t (t + f j) ∷ []) (wrapped v f i (t + f j) js)))

    -- the job goes on on the next machine
    pub wraps_over : t < v → v - t < time
        → ps ++ wrapped v f i t (j ∷ js)
        ≡ ((ps ++ piece_of j i t v ∷ []) ++ piece_of j (i + 1) 0 (time - (v - t)) ∷ [])
        ++ wrapped v f (i + 1) (time - (v - t)) js
    wraps_over room long =
        let over : v - t < f j = omega (arith, is, long) in
        let rest : List Piece = piece_of j (i + 1) 0 (f j - (v - t))
        ∷ wrapped v f (i + 1) (f j - (v - t)) js in
        rw (is, lt-leb v t room, lt-leb (f j) (v - t) over)
        (sym (append_assoc (ps ++ piece_of j i t v ∷ []) (piece_of j (i + 1) 0 (f j - (v - t)) ∷ [])
        (wrapped v f (i + 1) (f j - (v - t)) js)
        ∙ append_assoc ps (piece_of j i t v ∷ []) rest))

-- the jobs from one on
pub jobs_from : (k n : ℕ) → k < n
    → range_with_len (k + 1) (n - k) ≡ (k + 1) ∷ range_with_len (k + 1 + 1) (n - (k + 1))
jobs_from k n lt =
    let more : n - k ≡ suc (n - (k + 1)) = omega arith in
    ap (range_with_len (k + 1)) more

-- no job is left
pub none_from : (v : ℕ) (f : ℕ → ℕ) (i t k n : ℕ) (ps all : List Piece) → n ≤ k
    → ps ++ wrapped v f i t (range_with_len (k + 1) (n - k)) ≡ all → ps ≡ all
none_from v f i t k n ps all le is =
    let none : n - k ≡ 0 = omega arith in
    sym (append-nil ps)
    ∙ ap (λ m. ps ++ wrapped v f i t (range_with_len (k + 1) m)) (sym none) ∙ is
