use Rattle.std.proofs.Common.{◌≡◌, ℕ, suc, ◌+◌, ◌<◌, drop, List, ◌∷◌, length, get_or, Option, Some, Bool, cond, true, false, sym, ap, ◌∙◌, arith}
use Rattle.std.proofs.Math.Seq.{drop-cons}
use Rattle.tf_model.specs.declared.prepare.Refusal.TheVariants.{ZeroTime}
use Rattle.tf_model.specs.JobFields.{JobFields}
use Rattle.tf_prepare.specs.Preparing.{times_in, is_idle, idle_in}
use Rattle.tf_prepare.proofs.prepare.first_idle.Goals as goal

-- what is left begins with the next job
front : (by : Option (List (List ℕ))) (jobs : List JobFields) (k : ℕ) (job : JobFields) (idle : Bool)
    → k < length jobs → job ≡ get_or jobs k job → is_idle (times_in by k job) ≡ idle
    → idle_in by k (drop k jobs)
    ≡ cond idle (Some (ZeroTime (k + 1))) (idle_in by (k + 1) (drop (k + 1) jobs))
front by jobs k job idle h is e =
    let after : suc k ≡ k + 1 = omega arith in
    ap (idle_in by k) (drop-cons jobs k job h)
    ∙ ap (λ n. idle_in by k (get_or jobs k job ∷ drop n jobs)) after
    ∙ ap (λ b. cond b (Some (ZeroTime (k + 1))) (idle_in by (k + 1) (drop (k + 1) jobs)))
    (ap (λ x. is_idle (times_in by k x)) (sym is) ∙ e)

pub loop-k-preserved : goal.loop-k-preserved
loop-k-preserved g c =
    sym (front c.args.timed.now.by_machine c.args.jobs.now c.loop-k.k c.index-jobs-k.result false
    c.loop-k-test.true c.index-jobs-k.is (sym c.is_idle.ensures ∙ c.if-is_idle.false))
    ∙ c.loop-k.invariant

pub returns-then-is_idle : goal.returns-then-is_idle
returns-then-is_idle g c =
    ap (λ n. Some (ZeroTime n)) c.at.ensures
    ∙ sym (front c.args.timed.now.by_machine c.args.jobs.now c.loop-k.k c.index-jobs-k.result true
    c.loop-k-test.true c.index-jobs-k.is (sym c.is_idle.ensures ∙ c.if-is_idle.true))
    ∙ c.loop-k.invariant
