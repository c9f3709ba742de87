-- A walk along arcs, which closes where it comes to a job of its own.
use Rattle.std.proofs.Common.{◌≡◌, ℕ, zero, suc, ◌+◌, ◌-◌, ◌<◌, ◌≤◌, Option, None, Some, Bool, true, false, List, [], ◌∷◌, ◌++◌, length, get_or, set, drop, refl, sym, ap, ◌∙◌, subst, arith, ⊎_elim, Contains}
use Rattle.std.proofs.lemmas.Bool.{cases_eq, cases_lt}
use Rattle.std.proofs.lemmas.List.{length-append, get_or-set_same, get_or-set_other, get_or_append_left}
use Rattle.std.proofs.Math.Seq.{get_or-append_seam}
use Rattle.tf_model.specs.SchedulingTask.{SchedulingTask, IsJob}
use Rattle.tf_model.specs.Cycle.{Leads, IsCycle}
use Rattle.tf_single.specs.FirstCycle.{IsWalkedCycle}

-- each job of the path precedes the next, and the last precedes s
abbrev pub Steps : SchedulingTask → List ℕ → ℕ → Type 0
Steps k [] s = Unit {0}
Steps k (x ∷ xs) s = Leads k x xs s

leads_push : (k : SchedulingTask) (x : ℕ) (xs : List ℕ) (s t : ℕ) → Leads k x xs s
    → Contains k.arcs (s, t) → Leads k x (xs ++ s ∷ []) t
leads_push k x [] s t leads arc = (leads, arc)
leads_push k x (y ∷ ys) s t leads arc = (leads.0, leads_push k y ys s t leads.1 arc)

-- one more step
pub steps_push : (k : SchedulingTask) (path : List ℕ) (s t : ℕ) → Steps k path s
    → Contains k.arcs (s, t) → Steps k (path ++ s ∷ []) t
steps_push k [] s t steps arc = arc
steps_push k (x ∷ xs) s t steps arc = leads_push k x xs s t steps arc

-- the walk comes to a job of its own: the path from that job on is a cycle
pub steps_close : (k : SchedulingTask) (path : List ℕ) (s i : ℕ) → Steps k path s → i < length path
    → get_or path i 0 ≡ s → IsCycle k (drop i path)
steps_close k [] s i steps lt at = absurd (omega arith)
steps_close k (x ∷ xs) s zero steps lt at = subst (λ z. Leads k x xs z) (sym at) steps
steps_close k (x ∷ []) s (suc i) steps lt at = absurd (omega (arith, lt))
steps_close k (x ∷ y ∷ ys) s (suc i) steps lt at =
    steps_close k (y ∷ ys) s i steps.1 (omega (arith, lt)) at

-- ---- jobs that were not met

abbrev pub is_unmet : Option ℕ → Bool
is_unmet None = true
is_unmet (Some place) = false

-- what the places say of the path
abbrev pub AreMet : SchedulingTask → List (Option ℕ) → List ℕ → Type 0
AreMet k places path = (j n : ℕ) → IsJob k j → get_or places (j - 1) None ≡ Some n
    → (n < length path) × (get_or path n 0 ≡ j)

pub met_push : (k : SchedulingTask) (places : List (Option ℕ)) (path : List ℕ) (s : ℕ)
    → length places ≡ length k.jobs → IsJob k s → AreMet k places path
    → AreMet k (set places (s - 1) (Some (length path))) (path ++ s ∷ [])
met_push k places path s len job met j n its e = ⊎_elim
    (λ same.
    let own : get_or (set places (s - 1) (Some (length path))) (j - 1) None ≡ Some (length path) =
    ap (λ m. get_or (set places (s - 1) (Some (length path))) (m - 1) None) same
    ∙ get_or-set_same places (s - 1) (Some (length path)) None
    (omega (arith, len, job.0, job.1)) in
    let is : length path ≡ n = the_same (sym own ∙ e) in (
      omega (arith, is, length-append path (s ∷ [])),
      ap (λ m. get_or (path ++ s ∷ []) m 0) (sym is)
          ∙ get_or-append_seam path s [] 0 ∙ sym same,
    ))
    (λ differ.
    let old = met j n its
    (sym (get_or-set_other places (s - 1) (j - 1) (Some (length path)) None
    (λ h. differ (omega (arith, its.0, job.0)))) ∙ e) in (
      omega (arith, old.0, length-append path (s ∷ [])),
      get_or_append_left path (s ∷ []) 0 n old.0
          ∙ old.1,
    ))
    (cases_eq j s)
  where
    the_same : ◌≡◌ {A = Option ℕ} (Some (length path)) (Some n) → length path ≡ n
    the_same h = cc

-- ---- where the walk began, and its steps

-- what the list has at n is what it had before a job was pushed
at_before : (path : List ℕ) (s x n : ℕ) → n ≤ length path
    → get_or ((path ++ s ∷ []) ++ x ∷ []) n 0 ≡ get_or (path ++ s ∷ []) n 0
at_before path s x n le =
    get_or_append_left (path ++ s ∷ []) (x ∷ []) 0 n (omega (arith, length-append path (s ∷ [])))

at_last : (path : List ℕ) (s : ℕ) → get_or (path ++ s ∷ []) (length path) 0 ≡ s
at_last path s = get_or-append_seam path s [] 0

module _ (start : ℕ) (R : ℕ → ℕ → Type 0) where
  -- the path begins at the start and goes on by R, to j
  pub record IsWalk (path : List ℕ) (j : ℕ) : Type 0 where
    pub first : get_or (path ++ j ∷ []) 0 0 ≡ start
    pub next : (n : ℕ) → n < length path
        → R (get_or (path ++ j ∷ []) n 0) (get_or (path ++ j ∷ []) (n + 1) 0)

  pub walk_push : (path : List ℕ) (s x : ℕ) → IsWalk path s → R s x → IsWalk (path ++ s ∷ []) x
  walk_push path s x walk step = record {
    first = at_before path s x 0 (omega arith) ∙ walk.first;
    next = λ n lt. ⊎_elim
        (λ early.
        subst (λ a. R a (get_or ((path ++ s ∷ []) ++ x ∷ []) (n + 1) 0))
        (sym (at_before path s x n (omega (arith, early))))
        (subst (R (get_or (path ++ s ∷ []) n 0)) (sym (at_before path s x (n + 1) (omega (arith, early))))
        (walk.next n early)))
        (λ late.
        let is : n ≡ length path = omega (arith, lt, late, length-append path (s ∷ [])) in
        let here : get_or ((path ++ s ∷ []) ++ x ∷ []) n 0 ≡ s =
        at_before path s x n (omega (arith, is))
        ∙ ap (λ m. get_or (path ++ s ∷ []) m 0) is ∙ at_last path s in
        let size : n + 1 ≡ length (path ++ s ∷ []) =
        omega (arith, is, length-append path (s ∷ [])) in
        let then : get_or ((path ++ s ∷ []) ++ x ∷ []) (n + 1) 0 ≡ x =
        ap (λ m. get_or ((path ++ s ∷ []) ++ x ∷ []) m 0) size ∙ at_last (path ++ s ∷ []) x in
        subst (λ a. R a (get_or ((path ++ s ∷ []) ++ x ∷ []) (n + 1) 0)) (sym here)
        (subst (R s) (sym then) step))
        (cases_lt n (length path));
  }

  -- it comes to a job of its own, of which no other stands twice
  pub walk_close : (path : List ℕ) (s again : ℕ) → IsWalk path s → again < length path
      → get_or path again 0 ≡ s
      → ((m n : ℕ) → m < length path → n < length path → get_or path m 0 ≡ get_or path n 0 → m ≡ n)
      → IsWalkedCycle start R (drop again path)
  walk_close path s again walk within at once = record {
    path = path;
    again = again;
    within = within;
    first = sym (of_path 0 (omega (arith, within))) ∙ walk.first;
    next = λ n lt.
        subst (λ a. R a (get_or path (n + 1) 0)) (of_path n (omega (arith, lt)))
        (subst (R (get_or (path ++ s ∷ []) n 0)) (of_path (n + 1) lt)
        (walk.next n (omega (arith, lt))));
    close =
        let last : length path - 1 + 1 ≡ length path = omega (arith, within) in
        let behind : get_or (path ++ s ∷ []) (length path - 1 + 1) 0 ≡ get_or path again 0 =
        ap (λ m. get_or (path ++ s ∷ []) m 0) last ∙ at_last path s ∙ sym at in
        subst (λ a. R a (get_or path again 0)) (of_path (length path - 1) (omega (arith, within)))
        (subst (R (get_or (path ++ s ∷ []) (length path - 1) 0)) behind
        (walk.next (length path - 1) (omega (arith, within))));
    once = once;
    is = refl;
  }
    where
      of_path : (n : ℕ) → n < length path → get_or (path ++ s ∷ []) n 0 ≡ get_or path n 0
      of_path n lt = get_or_append_left path (s ∷ []) 0 n lt

-- what holds of each step of the walk
pub walked_as : (start : ℕ) (R S : ℕ → ℕ → Type 0) (jobs : List ℕ) → ((i x : ℕ) → R i x → S i x)
    → IsWalkedCycle start R jobs → IsWalkedCycle start S jobs
walked_as start R S jobs as_s walked = record {
  path = walked.path;
  again = walked.again;
  within = walked.within;
  first = walked.first;
  next = λ n lt. as_s (get_or walked.path n 0) (get_or walked.path (n + 1) 0) (walked.next n lt);
  close = as_s (get_or walked.path (length walked.path - 1) 0) (get_or walked.path walked.again 0)
      walked.close;
  once = walked.once;
  is = walked.is;
}

-- ---- no job is met twice

-- each job of the path has its place noted
abbrev pub ArePlaced : SchedulingTask → List (Option ℕ) → List ℕ → Type 0
ArePlaced k places path = (n : ℕ) → n < length path
    → IsJob k (get_or path n 0) × (get_or places (get_or path n 0 - 1) None ≡ Some n)

pub placed_push : (k : SchedulingTask) (places : List (Option ℕ)) (path : List ℕ) (s : ℕ)
    → length places ≡ length k.jobs → IsJob k s → get_or places (s - 1) None ≡ None
    → ArePlaced k places path
    → ArePlaced k (set places (s - 1) (Some (length path))) (path ++ s ∷ [])
placed_push k places path s len job none placed n lt = ⊎_elim
    (λ early.
    let its = placed n early in
    let same : get_or (path ++ s ∷ []) n 0 ≡ get_or path n 0 =
    get_or_append_left path (s ∷ []) 0 n early in
    let differ : get_or path n 0 - 1 ≡ s - 1 → ⊥ =
    λ e. no_some n (sym its.1 ∙ ap (λ m. get_or places m None) e ∙ none) in
    subst (λ x. IsJob k x × (get_or (set places (s - 1) (Some (length path))) (x - 1) None ≡ Some n))
    (sym same) (
      its.0,
      get_or-set_other places (s - 1) (get_or path n 0 - 1) (Some (length path)) None differ
          ∙ its.1,
    ))
    (λ late.
    let is : n ≡ length path = omega (arith, lt, late, length-append path (s ∷ [])) in
    let same : get_or (path ++ s ∷ []) n 0 ≡ s =
    ap (λ m. get_or (path ++ s ∷ []) m 0) is ∙ at_last path s in
    subst (λ x. IsJob k x × (get_or (set places (s - 1) (Some (length path))) (x - 1) None ≡ Some n))
    (sym same) (
      job,
      get_or-set_same places (s - 1) (Some (length path)) None
          (omega (arith, len, job.0, job.1)) ∙ ap (λ (m : ℕ). Some m) (sym is),
    ))
    (cases_lt n (length path))
  where
    no_some : (m : ℕ) → ◌≡◌ {A = Option ℕ} (Some m) None → ⊥
    no_some m e = cc

pub placed_once : (k : SchedulingTask) (places : List (Option ℕ)) (path : List ℕ)
    → ArePlaced k places path → (m n : ℕ) → m < length path → n < length path
    → get_or path m 0 ≡ get_or path n 0 → m ≡ n
placed_once k places path placed m n low high same =
    the_same (sym (placed m low).1 ∙ ap (λ x. get_or places (x - 1) None) same ∙ (placed n high).1)
  where
    the_same : ◌≡◌ {A = Option ℕ} (Some m) (Some n) → m ≡ n
    the_same e = cc
