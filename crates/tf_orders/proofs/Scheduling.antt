-- A class is no job shop, so that orders of operations are not looked at.
use Rattle.std.proofs.Common.{◌≡◌, List, ℕ, Option, None, Some, Result, Ok, Err, IfOk, MatchOption, IfSome, sym, subst, inl, inr, ◌∙◌, length}
use Rattle.std.proofs.lemmas.Bool.{true≢false}
use Rattle.std.specs.declared.vec.Vec.{Vec}
use Rattle.tf_model.specs.SchedulingTask.{SchedulingTask}
use Rattle.tf_posed.specs.Agreement.{posed}
use Rattle.tf_posed.proofs.Conditions.{no_job_shop, size}
use Rattle.tf_schedule.specs.declared.piece.Piece.{Piece}
use Rattle.tf_orders.specs.declared.flaw.Flaw.{Flaw}
use Rattle.tf_orders.specs.Laying.{orders_of}
use Rattle.tf_orders.specs.Measuring.{IsFlawBy, IsLaid, IsScheduledBy, IsUnorderedBy}
use Rattle.tf_orders.specs.Orders.{IsFlaw, IsNoOrder}

module _ (k : SchedulingTask) (text : List ℕ) where
  pub laid_alone : {A E : Type 0} (r : Result (Option (Vec Piece A)) E)
      → IfOk r (λ found. MatchOption found
      (IsNoOrder (length (posed k).jobs) (orders_of (posed k)) text)
      (λ v. IsLaid (posed k) text v.items))
      → IfOk r (λ found. MatchOption found (IsUnorderedBy (posed k) text)
      (λ v. IsScheduledBy (posed k) text v.items))
  laid_alone (Ok (Some v)) laid = inl laid
  laid_alone (Ok None) none = record {
    jobs = none;
    operations = λ turns is. absurd (true≢false (sym is.shop ∙ no_job_shop k.class));
  }
  laid_alone (Err e) h = tt

  pub flawed_alone : (found : Option Flaw) (n g : ℕ) → n ≡ length k.jobs → g ≡ orders_of (posed k)
      → IfSome found (IsFlaw n g text) → IfSome found (IsFlawBy (posed k) text)
  flawed_alone (Some flaw) n g jobs orders is = inr (
    no_job_shop k.class,
    subst (λ (n : ℕ). IsFlaw n (orders_of (posed k)) text flaw) (jobs ∙ sym (size k))
        (subst (λ (g : ℕ). IsFlaw n g text flaw) orders is),
  )
  flawed_alone None n g jobs orders h = tt
