-- From a schedule to the answer whose pieces it sorts.
use Rattle.std.proofs.Common.{◌<◌, ◌≡◌, ◌-◌, Option, Some, None, slice_get, IsSomeAnd, refl, subst, ℤ, ◌≤ℤ◌, List, Ok, sym, ap, ◌∙◌, arith, All}
use Rattle.std.specs.List.Sorted.{IsPermutation}
use Rattle.std.proofs.lemmas.List.Sorted.{All-permutation, IsPermutation-sym}
use Rattle.tf_model.specs.SchedulingTask.{SchedulingTask}
use Rattle.tf_model.specs.Timetable.{Timetable}
use Rattle.tf_model.specs.Feasible.{Fits}
use Rattle.tf_model.specs.Cost.{cost}
use Rattle.tf_schedule.specs.declared.piece.Piece.{Piece}
use Rattle.tf_schedule.specs.Piece.{as_time, machine_of, IsInRange, IsNotEmpty}
use Rattle.tf_schedule.specs.Schedule.{IsSchedule, IsPiece, NoneTwice, HasFirstFault}
use Rattle.std.proofs.lemmas.Int.{ints}
use Rattle.tf_check.specs.Laws.{bound_in}
use Rattle.tf_schedule.specs.declared.schedule.PieceFault.{PieceFault}
use Rattle.tf_schedule.specs.declared.schedule.PieceFault.TheVariants.{OutOfRange, EmptyPiece, MachineTwice}
use Rattle.tf_schedule.specs.Drawing.{Draws, drawing, IsOnMachine}
use Rattle.tf_schedule.proofs.Scan.{claims_permutation}
use Rattle.tf_schedule.proofs.Transport.{element}
use Rattle.tf_schedule.proofs.Permuted.{drawing_permutation, draws_drawing, drawing_only}
use Rattle.tf_check.specs.Claim.{AnswerData}
use Rattle.tf_check.specs.Bound.{bound_by}
use Rattle.tf_check.specs.Accepted.{IsAccepted}
use Rattle.tf_check.specs.Verdict.{DrawsFitting, IsFeasible, HasReason, HasVerdict}
use Rattle.tf_check.specs.declared.verdict.Verdict.{Verdict}
use Rattle.tf_check.specs.declared.verdict.Verdict.TheVariants.{Accepted, Rejected}
use Rattle.tf_check.specs.declared.verdict.Reason.{Reason}
use Rattle.tf_check.specs.declared.verdict.Reason.TheVariants.{Pieces, Misfit, WrongValue, Bound, BoundBelowValue}
use Rattle.tf_schedule.proofs.Excludes.{no_misfit}

-- the schedule has the pieces, and its timetable fits
pub record IsFitting (k : SchedulingTask) (ps qs : List Piece) : Type 0 where
  pub kept : IsPermutation ps qs
  pub schedule : IsSchedule qs
  pub draws : Draws k.machines qs (drawing k.machines qs)
  pub fits : Fits k (drawing k.machines qs)

pub draws_fitting : (k : SchedulingTask) (ps qs : List Piece) → IsFitting k ps qs
    → DrawsFitting k ps (drawing k.machines qs)
draws_fitting k ps qs h =
    let back = IsPermutation-sym ps qs h.kept in
    let once : NoneTwice ps =
    λ n t. omega
    (arith, claims_permutation machine_of ps qs n t h.kept, h.schedule.none_twice n t) in
    let numbered : All (λ p. 0 < p.job) ps =
    All-permutation (λ p. 0 < p.job) qs ps back h.draws.numbered in
    let on : All (IsOnMachine k.machines) ps =
    All-permutation (IsOnMachine k.machines) qs ps back h.draws.on_machines in
    let same : drawing k.machines qs ≡ drawing k.machines ps =
    sym (drawing_permutation k.machines qs ps h.schedule.none_twice back) in
    record {
      pieces = All-permutation IsPiece qs ps back h.schedule.sound;
      draws = rw same (draws_drawing k.machines ps once numbered on);
      fits = h.fits;
    }

pub accepted_from : (k : SchedulingTask) (a : AnswerData) (bound : ℤ) → IsFeasible k a
    → bound_by a.certificate k ≡ Ok bound → a.value ≤ℤ bound → IsAccepted k a
accepted_from k a bound h bounded enough = record {
  rows = h.rows;
  pieces = h.fitting.pieces;
  draws = h.fitting.draws;
  fits = h.fitting.fits;
  value = h.value;
  bound = bound;
  bounded = bounded;
  enough = enough;
}

-- pieces draw one timetable, which has one cost
cost_is : (k : SchedulingTask) (a : AnswerData) (rows : Timetable) → DrawsFitting k a.pieces rows
    → IsAccepted k a → cost k rows ≡ a.value
cost_is k a rows h accepted =
    ap (cost k)
    (drawing_only k.machines a.pieces rows h.draws
    ∙ sym (drawing_only k.machines a.pieces accepted.rows accepted.draws)) ∙ accepted.value

none_here : {X : Type 0} (Q P : X → Type 0) (o : Option X) → ((x : X) → o ≡ Some x → P x)
    → IsSomeAnd o Q → ((x : X) → P x → Q x → ⊥) → ⊥
none_here Q P None good bad both = bad
none_here Q P (Some x) good bad both = both x (good x refl) bad

-- pieces with a fault are out of range, empty, or claim a cell twice
pub fault_excludes : (ps : List Piece) (fault : PieceFault) → All IsPiece ps → NoneTwice ps
    → HasFirstFault ps fault → ⊥
fault_excludes ps (OutOfRange n) sound once h =
    none_here (λ p. ¬ (IsInRange p)) IsPiece (slice_get ps (n - 1))
    (λ p e. element IsPiece ps (n - 1) p sound e) h.here (λ p good bad. bad good.0)
fault_excludes ps (EmptyPiece n) sound once h =
    none_here (λ p. IsInRange p × ¬ (IsNotEmpty p)) IsPiece (slice_get ps (n - 1))
    (λ p e. element IsPiece ps (n - 1) p sound e) h.here (λ p good bad. bad.1 good.1)
fault_excludes ps (MachineTwice i t) sound once h = omega (arith, h.2.here, once i (as_time t))

-- an answer is not both accepted and rejected
pub reason_excludes : (k : SchedulingTask) (a : AnswerData) (reason : Reason) → HasReason k a reason
    → IsAccepted k a → ⊥
reason_excludes k a (Pieces fault) h accepted =
    fault_excludes a.pieces fault accepted.pieces accepted.draws.none_twice h
reason_excludes k a (Misfit misfit) h accepted =
    let qs = h.0 in
    let same : drawing k.machines qs ≡ drawing k.machines a.pieces =
    sym (drawing_permutation k.machines qs a.pieces h.2.none_twice
    (IsPermutation-sym a.pieces qs h.1)) in
    let rows : accepted.rows ≡ drawing k.machines qs =
    drawing_only k.machines a.pieces accepted.rows accepted.draws ∙ sym same in
    let on : All (IsOnMachine k.machines) qs =
    All-permutation (IsOnMachine k.machines) a.pieces qs h.1 accepted.draws.on_machines in
    h.4 (no_misfit k qs h.2
    (All-permutation (λ p. 0 < p.job) a.pieces qs h.1 accepted.draws.numbered) on
    (subst (Fits k) rows accepted.fits) misfit h.3)
reason_excludes k a WrongValue h accepted = h.2 (cost_is k a h.0 h.1 accepted)
reason_excludes k a (Bound fault) h accepted = cc (h.1, accepted.bounded)
reason_excludes k a BoundBelowValue h accepted =
    let same : h.1 ≡ accepted.bound = ap bound_in (sym h.2 ∙ accepted.bounded) in
    omega (arith, ints, same, h.3, accepted.enough)

-- the verdict on an answer that is accepted
pub accepts : (k : SchedulingTask) (a : AnswerData) (verdict : Verdict) → HasVerdict k a verdict
    → IsAccepted k a → verdict ≡ Accepted
accepts k a Accepted h accepted = refl
accepts k a (Rejected reason) h accepted = absurd (reason_excludes k a reason h accepted)

-- and an answer that the verdict accepts
pub is_accepted : (k : SchedulingTask) (a : AnswerData) (verdict : Verdict) → HasVerdict k a verdict
    → verdict ≡ Accepted → IsAccepted k a
is_accepted k a verdict h is = subst (HasVerdict k a) is h
