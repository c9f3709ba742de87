-- The order of the jobs of a task, from the answer to a bare task with its arcs, and its cycle.
use Rattle.std.proofs.Common.{◌≡◌, ℕ, zero, suc, ◌+◌, ◌≤◌, Bool, true, false, not, List, [], ◌∷◌, ◌++◌, length, get_or, map, reverse, refl, sym, ap, subst, ◌∙◌, arith, append_assoc}
use Rattle.std.specs.List.{All, range_with_len, fold}
use Rattle.std.proofs.lemmas.List.{map-append, append-nil}
use Rattle.std.proofs.lemmas.List.Elements.{All-head, All-tail}
use Rattle.std.proofs.lemmas.List.FromFn.{length-range_with_len, get_or-range_with_len}
use Rattle.std.proofs.lemmas.List.Sorted.{IsPermutation-refl}
use Rattle.tf_model.specs.Cycle.{Leads, IsCycle}
use Rattle.tf_model.specs.ClassTable.{is_shop}
use Rattle.tf_model.specs.declared.problem.Problem.{Problem}
use Rattle.tf_model.specs.SchedulingTask.{SchedulingTask, time_of}
use Rattle.tf_posed.specs.ProblemData.{ProblemData, IsProblemJob, problem_jobs}
use Rattle.tf_schedule.specs.declared.piece.Piece.{Piece}
use Rattle.tf_schedule.specs.SemiActive.{stretch, start_after, with_operation}
use Rattle.tf_schedule.specs.Sequence.{operation_of, in_sequence}
use Rattle.tf_schedule.proofs.Judging.{no_prec}
use Rattle.tf_check.specs.Claim.{Claim}
use Rattle.tf_single.specs.FromTheBack.{IsFromTheBack}
use Rattle.tf_single.specs.NotSolved.{IsNamedCycle}
use Rattle.tf_plan.specs.Order.{LeadsBy, IsCycleOf}
use Rattle.tf_plan.specs.Bare.{HasSameArcs}
use Rattle.tf_plan.specs.SerialOrder.{IsSerialOrder}
use Rattle.tf_plan.proofs.Orders.{serial_order}

-- ---- the order by numbers

range_more : (a n : ℕ) → range_with_len a (n + 1) ≡ range_with_len a n ++ (a + n) ∷ []
range_more a zero = let e : a ≡ a + zero = omega arith in ap (λ (x : ℕ). x ∷ []) e
range_more a (suc n) =
    let e : a + 1 + n ≡ a + suc n = omega arith in
    let same : suc n + 1 ≡ suc (n + 1) = omega arith in
    ap (λ (y : ℕ). range_with_len a y) same
    ∙ ap (λ (xs : List ℕ). a ∷ xs)
    (range_more (a + 1) n ∙ ap (λ (y : ℕ). range_with_len (a + 1) n ++ y ∷ []) e)

pub numbered_more : (xs : List ℕ) (k x : ℕ) → xs ≡ range_with_len 1 k → x ≡ k + 1
    → xs ++ x ∷ [] ≡ range_with_len 1 (k + 1)
numbered_more xs k x before is =
    ap (λ ys. ys ++ x ∷ []) before
    ∙ ap (λ y. range_with_len 1 k ++ y ∷ []) (let e : x ≡ 1 + k = omega (arith, is) in e)
    ∙ sym (range_more 1 k)

pub plain_order : (k : ProblemData) (p : Problem) (order : List ℕ) → not p.prec ≡ true
    → p ≡ k.problem → order ≡ problem_jobs k → IsSerialOrder k order
plain_order k p order none same is =
    subst (IsSerialOrder k) (sym is) (record {
      jobs = λ n d h.
          let at : get_or (problem_jobs k) n d ≡ 1 + n =
          get_or-range_with_len 1 (length k.jobs) n d
          (omega (arith, h, length-range_with_len 1 (length k.jobs))) in
          (omega (arith, at), omega (arith, at, h, length-range_with_len 1 (length k.jobs)));
      all = IsPermutation-refl (problem_jobs k);
      once = λ a b d less within e.
          let at_a : get_or (problem_jobs k) a d ≡ 1 + a =
          get_or-range_with_len 1 (length k.jobs) a d
          (omega (arith, less, within, length-range_with_len 1 (length k.jobs))) in
          let at_b : get_or (problem_jobs k) b d ≡ 1 + b =
          get_or-range_with_len 1 (length k.jobs) b d
          (omega (arith, within, length-range_with_len 1 (length k.jobs))) in
          omega (arith, at_a, at_b, e, less);
      keeps = λ asked. absurd (no_prec p k.problem none same asked);
    })

-- ---- the order of a bare task

stretch_jobs : (j i s t : ℕ) → 1 ≤ t → map (λ (p : Piece). p.job) (stretch j i s t) ≡ j ∷ []
stretch_jobs j i s zero some = absurd (omega arith)
stretch_jobs j i s (suc t) some = refl

jobs_laid : (t : SchedulingTask) (js : List ℕ) (ps : List Piece)
    → All (λ j. 1 ≤ time_of t j) js
    → map (λ (p : Piece). p.job) (fold with_operation ps (in_sequence t js))
    ≡ map (λ (p : Piece). p.job) ps ++ js
jobs_laid t [] ps some = sym (append-nil (map (λ (p : Piece). p.job) ps))
jobs_laid t (j ∷ js) ps some =
    let here : 1 ≤ time_of t j = All-head (λ i. 1 ≤ time_of t i) j js some in
    jobs_laid t js (with_operation ps (operation_of t j))
    (All-tail (λ i. 1 ≤ time_of t i) j js some)
    ∙ ap (λ xs. xs ++ js)
    (map-append (λ (p : Piece). p.job) ps
    (stretch j 1 (start_after ps (operation_of t j)) (time_of t j))
    ∙ ap (λ xs. map (λ (p : Piece). p.job) ps ++ xs)
    (stretch_jobs j 1 (start_after ps (operation_of t j)) (time_of t j) here))
    ∙ append_assoc (map (λ (p : Piece). p.job) ps) (j ∷ []) js

pub bare_order : (k : ProblemData) (t : SchedulingTask) (pieces : List Piece) (claim : Claim)
    (order : List ℕ) → HasSameArcs k t → All (λ arc. IsProblemJob k arc.0 × IsProblemJob k arc.1) k.arcs
    → IsFromTheBack t pieces claim → order ≡ map (λ (p : Piece). p.job) pieces
    → IsSerialOrder k order
bare_order k t pieces claim order same arcs_in rule is =
    let sound : IsSerialOrder k (reverse rule.taken) =
    serial_order k t rule.taken rule.chosen rule.all same.jobs same.arcs arcs_in in
    let plain : is_shop t.class ≡ false = ap is_shop same.class in
    let read : order ≡ reverse rule.taken =
    is ∙ ap (map (λ (p : Piece). p.job)) rule.are
    ∙ jobs_laid t (reverse rule.taken) []
    (λ n d h. let job = sound.jobs n d h in
    same.sound.worked plain (get_or (reverse rule.taken) n d)
    (job.0, omega (arith, job.1, same.jobs))) in
    subst (IsSerialOrder k) (sym read) sound

-- ---- the cycle

leads_by : (t : SchedulingTask) (j : ℕ) (jobs : List ℕ) (end : ℕ) → Leads t j jobs end
    → LeadsBy t.arcs j jobs end
leads_by t j [] end arc = arc
leads_by t j (i ∷ jobs) end (arc, rest) = (arc, leads_by t i jobs end rest)

cycle_by : (t : SchedulingTask) (jobs : List ℕ) → IsCycle t jobs → IsCycleOf t.arcs jobs
cycle_by t [] never = never
cycle_by t (j ∷ jobs) leads = leads_by t j jobs j leads

pub named_cycle : (k : ProblemData) (t : SchedulingTask) (jobs : List ℕ) → HasSameArcs k t
    → IsNamedCycle t jobs → IsCycleOf k.arcs jobs
named_cycle k t jobs same named =
    subst (λ es. IsCycleOf es jobs) same.arcs (cycle_by t jobs named.forbids.cycle)
