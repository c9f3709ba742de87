-- Orders of operations: how often jobs stand in them, and what is laid of them.
use Rattle.std.proofs.Common.{◌≡◌, ◌≢◌, ℕ, zero, suc, ◌+◌, ◌-◌, ◌<◌, ◌≤◌, ◌==◌, Bool, true, false, cond, max, List, [], ◌∷◌, ◌++◌, length, get_or, set, take, drop, refl, sym, ap, subst, ◌∙◌, arith, inl, inr, IfSome, Option, None, Some}
use Rattle.std.specs.List.{All, count_by}
use Rattle.std.proofs.lemmas.Bool.{cases_eq, eq-eqb, ne_eqb}
use Rattle.std.proofs.lemmas.Grind.{get_or-set_at}
use Rattle.std.proofs.lemmas.List.{drop_more, take_more, get_or_default, get_or-set_other, length-set, length-take-le, take_all}
use Rattle.std.proofs.lemmas.List.Elements.{All-set}
use Rattle.std.proofs.lemmas.List.Sums.{count_by-le-length, count_by_more_no, count_by_more_yes}
use Rattle.tf_model.specs.Limit.{limit}
use Rattle.tf_schedule.specs.declared.piece.Piece.{Piece}
use Rattle.tf_schedule.specs.Piece.{job_of, piece_of}
use Rattle.tf_schedule.specs.SemiActive.{job_stop}
use Rattle.tf_schedule.proofs.Laying.{line_stop_push}
use Rattle.tf_posed.specs.ProblemData.{ProblemData, IsProblemJob, problem_release, problem_time_on}
use Rattle.tf_bound.specs.Steps.{steps_of}
use Rattle.tf_orders.specs.declared.order.Turn.{Turn}
use Rattle.tf_orders.specs.declared.flaw.Flaw.{Flaw}
use Rattle.tf_orders.specs.declared.flaw.Flaw.TheVariants.{Word, Lists, Twice, Missing, Seldom, Often}
use Rattle.tf_orders.specs.Orders.{IsFlaw, IsTurn}
use Rattle.tf_orders.specs.Laying.{start_on, stop_on, with_operation}
use Rattle.tf_orders.specs.Operations.{AreFree, AreNamed, IsOperationFlaw, free_from, next_machine, turns_of, with_next, with_operations}

-- what holds of all turns holds of one that is read
pub turn_known : (n g : ℕ) (turns : List Turn) (i : ℕ) (t : Turn) → All (IsTurn n g) turns
    → i < length turns → t ≡ get_or turns i t → IsTurn n g t
turn_known n g turns i t all within is = subst (IsTurn n g) (sym is) (all i t within)

-- ---- how often jobs stand

module _ (turns : List Turn) (i : ℕ) (t : Turn) (within : i < length turns)
    (is : t ≡ get_or turns i t) where
  -- one turn more of job j, or of another job
  pub turns_own : (j : ℕ) → t.job ≡ j → turns_of j (take (i + 1) turns) ≡ turns_of j (take i turns) + 1
  turns_own j same =
      count_by_more_yes (λ (u : Turn). u.job == j) turns i t within
      (ap (λ (u : Turn). u.job == j) (sym is) ∙ eq-eqb t.job j same)

  pub turns_other : (j : ℕ) → t.job ≢ j → turns_of j (take (i + 1) turns) ≡ turns_of j (take i turns)
  turns_other j differ =
      count_by_more_no (λ (u : Turn). u.job == j) turns i t within
      (ap (λ (u : Turn). u.job == j) (sym is) ∙ ne_eqb t.job j differ)

  -- one turn more
  pub named_more : (n : ℕ) (named : List ℕ) (place count : ℕ) → AreNamed n named (take i turns)
      → 1 ≤ t.job → t.job ≤ n → place ≡ t.job - 1 → count ≡ get_or named place 0
      → AreNamed n (set named place (count + 1)) (take (i + 1) turns)
  named_more n named place count had low high at was = record {
    len = length-set named place (count + 1) ∙ had.len;
    counts = λ k lt. elim (cases_eq k place) [
      | inl here ↦
          let own : t.job ≡ k + 1 = omega (arith, here, at, low) in
          get_or-set_at named place k (count + 1) 0 here (omega (arith, at, low, high, had.len))
          ∙ ap (λ (c : ℕ). c + 1) (was ∙ ap (λ p. get_or named p 0) (sym here) ∙ had.counts k lt)
          ∙ sym (turns_own (k + 1) own)
      | inr away ↦
          get_or-set_other named place k (count + 1) 0 away ∙ had.counts k lt
          ∙ sym (turns_other (k + 1) (λ e. away (omega (arith, e, at))))
    ];
  }

-- no more of them than there are turns
count_taken : (p : Turn → Bool) (turns : List Turn) (d : Turn) (i : ℕ) → i ≤ length turns
    → (more : ℕ) → i + more ≡ length turns → count_by p (take i turns) ≤ count_by p turns
count_taken p turns d i within zero is =
    omega (arith, ap (count_by p) (take_all i turns (omega (arith, is))))
count_taken p turns d i within (suc more) is =
    let after = count_taken p turns d (i + 1) (omega (arith, is)) more (omega (arith, is)) in
    let next = one_more (p (get_or turns i d)) refl in
    omega (arith, after, next)
  where
    one_more : (b : Bool) → p (get_or turns i d) ≡ b
        → count_by p (take i turns) ≤ count_by p (take (i + 1) turns)
    one_more true e = omega (arith, count_by_more_yes p turns i d (omega (arith, is)) e)
    one_more false e = omega (arith, count_by_more_no p turns i d (omega (arith, is)) e)

-- a turn's job has an operation left
pub step_there : (turns : List Turn) (i : ℕ) (t : Turn) → i < length turns → t ≡ get_or turns i t
    → turns_of t.job (take i turns) < turns_of t.job turns
step_there turns i t within is =
    omega (
      arith,
      turns_own turns i t within is t.job refl,
      count_taken (λ (u : Turn). u.job == t.job) turns t (i + 1) (omega (arith, within))
          (length turns - (i + 1)) (omega (arith, within)),
    )

-- a job's next operation is read from the list
pub step_known : (k : ProblemData) (turns : List Turn) (i : ℕ) (t : Turn) (named : List ℕ)
    (place count : ℕ) → i < length turns → t ≡ get_or turns i t → IsTurn (length k.jobs) 1 t
    → AreNamed (length k.jobs) named (take i turns) → place ≡ t.job - 1
    → count ≡ get_or named place count
    → ((j : ℕ) → IsProblemJob k j → turns_of j turns ≤ length (steps_of k j))
    → (count ≡ turns_of t.job (take i turns)) × (count < length (steps_of k t.job))
step_known k turns i t named place count within is known had at read few =
    let there : place < length k.jobs = omega (arith, at, known.job.0, known.job.1) in
    let own : place + 1 ≡ t.job = omega (arith, at, known.job.0) in
    let counted : count ≡ turns_of t.job (take i turns) =
    read ∙ get_or_default named place count 0 (omega (arith, there, had.len))
    ∙ had.counts place there ∙ ap (λ (j : ℕ). turns_of j (take i turns)) own in
    (counted, omega (arith, counted, step_there turns i t within is, few t.job known.job))

-- how often a job stands is a number of 64 bits
pub named_small : (n : ℕ) (named : List ℕ) (turns : List Turn) (i place count : ℕ)
    → AreNamed n named (take i turns) → i ≤ length turns → place < n → count ≡ get_or named place 0
    → count ≤ i
named_small n named turns i place count had within there is =
    omega (
      arith,
      is,
      had.counts place there,
      count_by-le-length (λ (t : Turn). t.job == place + 1) (take i turns),
      length-take-le i turns within,
    )

-- ---- from when on jobs are free

-- the job of a piece that is added is free from its stop on, if that is no earlier than before
own_free : (b : Bool) (r old s new f : ℕ) → b ≡ true → new ≡ cond b (max old s) old
    → f ≡ max r old → f ≤ s → max r new ≡ s
own_free true r old s new f e is was le = omega arith
own_free false r old s new f e is was le = absurd (cc)

other_free : (b : Bool) (r old s new : ℕ) → b ≡ false → new ≡ cond b (max old s) old
    → max r new ≡ max r old
other_free true r old s new e is = absurd (cc)
other_free false r old s new e is = ap (max r) is

-- with one more operation
pub free_more : (k : ProblemData) (ps : List Piece) (free : List ℕ) (j i place f time s : ℕ)
    → AreFree k ps free → IsProblemJob k j → place ≡ j - 1 → f ≡ get_or free place 0
    → s ≡ stop_on ps i f time → s ≤ limit
    → AreFree k (with_operation ps j i f time) (set free place s)
free_more k ps free j i place f zero s had job at was is small = record {
  len = length-set free place s ∙ had.len;
  from = λ a lt. elim (cases_eq a place) [
    | inl here ↦
        get_or-set_at free place a s 0 here (omega (arith, at, job.0, job.1, had.len))
        ∙ is ∙ was ∙ ap (λ p. get_or free p 0) (sym here) ∙ had.from a lt
    | inr away ↦ get_or-set_other free place a s 0 away ∙ had.from a lt
  ];
  small = All-set (λ t. t ≤ limit) free place s small had.small;
}
free_more k ps free j i place f (suc time) s had job at was is small = record {
  len = length-set free place s ∙ had.len;
  from = λ a lt. elim (cases_eq a place) [
    | inl here ↦
        let own : j ≡ a + 1 = omega (arith, here, at, job.0) in
        let free_is : f ≡ free_from k ps (a + 1) =
        was ∙ ap (λ p. get_or free p 0) (sym here) ∙ had.from a lt in
        get_or-set_at free place a s 0 here (omega (arith, at, job.0, job.1, had.len))
        ∙ sym (own_free (j == a + 1) (problem_release k (a + 1)) (job_stop ps (a + 1)) s _ f
        (eq-eqb j (a + 1) own)
        (line_stop_push job_of ps (piece_of j i (start_on ps i f) s) (a + 1)) free_is
        (omega (arith, is, small_free a lt here)))
        ∙ ap (λ (e : ℕ). free_from k (ps ++ piece_of j i (start_on ps i f) e ∷ []) (a + 1)) is
    | inr away ↦
        get_or-set_other free place a s 0 away ∙ had.from a lt
        ∙ sym (other_free (j == a + 1) (problem_release k (a + 1)) (job_stop ps (a + 1)) s _
        (ne_eqb j (a + 1) (λ e. away (omega (arith, e, at))))
        (line_stop_push job_of ps (piece_of j i (start_on ps i f) s) (a + 1)))
        ∙ ap (λ (e : ℕ). free_from k (ps ++ piece_of j i (start_on ps i f) e ∷ []) (a + 1)) is
  ];
  small = All-set (λ t. t ≤ limit) free place s small had.small;
}
  where
    small_free : (a : ℕ) → a < length k.jobs → a ≡ place → f ≤ limit
    small_free a lt here =
        let there : place < length free = omega (arith, lt, here, had.len) in
        omega (arith, was, had.small place 0 there)

-- ---- the schedule

-- the operations that are left, where the first of them is known
pub operations_more : (k : ProblemData) (turns : List Turn) (i : ℕ) (t : Turn) (ps new : List Piece)
    (a f time : ℕ) → i < length turns → t ≡ get_or turns i t
    → a ≡ next_machine k (take i turns) t.job → f ≡ free_from k ps t.job
    → time ≡ problem_time_on k t.job a → new ≡ with_operation ps t.job (a + 1) f time
    → with_operations k (take (i + 1) turns) new (drop (i + 1) turns)
    ≡ with_operations k (take i turns) ps (drop i turns)
operations_more k turns i t ps new a f time within is at free lasts pushed =
    let more : take (i + 1) turns ≡ take i turns ++ t ∷ [] =
    take_more turns i t within ∙ ap (λ (u : Turn). take i turns ++ u ∷ []) (sym is) in
    let rest : drop i turns ≡ t ∷ drop (i + 1) turns =
    drop_more turns i t within ∙ ap (λ (u : Turn). u ∷ drop (i + 1) turns) (sym is) in
    let next : new ≡ with_next k (take i turns) ps t =
    pushed ∙ ap (with_operation ps t.job (a + 1) f) lasts
    ∙ ap (λ g. with_operation ps t.job (a + 1) g (problem_time_on k t.job a)) free
    ∙ ap (λ (b : ℕ). with_operation ps t.job (b + 1) (free_from k ps t.job) (problem_time_on k t.job b)) at in
    rw (more, rest, next) refl

-- ---- what is wrong

pub flaw_kept : (k : ProblemData) (text : List ℕ) (n : ℕ) (found : Option Flaw)
    → n ≡ length k.jobs → IfSome found (IsFlaw n 1 text)
    → IfSome found (IsOperationFlaw k text)
flaw_kept k text n None is h = tt
flaw_kept k text n (Some (Word place)) is h = subst (λ (n : ℕ). IsFlaw n 1 text (Word place)) is h
flaw_kept k text n (Some Lists) is h = subst (λ (n : ℕ). IsFlaw n 1 text Lists) is h
flaw_kept k text n (Some (Twice j)) is h = subst (λ (n : ℕ). IsFlaw n 1 text (Twice j)) is h
flaw_kept k text n (Some (Missing j)) is h = subst (λ (n : ℕ). IsFlaw n 1 text (Missing j)) is h
flaw_kept k text n (Some (Seldom j)) is h = absurd h
flaw_kept k text n (Some (Often j)) is h = absurd h
