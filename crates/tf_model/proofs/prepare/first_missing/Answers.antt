use Rattle.std.proofs.Common.{◌≡◌, ℕ, suc, ◌+◌, ◌<◌, drop, List, ◌∷◌, length, get_or, Option, Some, sym, ap, ◌∙◌, arith}
use Rattle.std.proofs.Math.Seq.{drop-cons}
use Rattle.std.specs.Option.{option_map, option_or}
use Rattle.tf_model.specs.declared.class.Class.{Class}
use Rattle.tf_model.specs.declared.prepare.Field.{Field}
use Rattle.tf_model.specs.declared.prepare.Refusal.TheVariants.{MissingField}
use Rattle.tf_model.specs.JobFields.{JobFields}
use Rattle.tf_model.specs.Prepare.{lacking, missing_from}
use Rattle.tf_model.proofs.prepare.first_missing.Goals as goal

-- what is left begins with the next job
front : (class : Class) (jobs : List JobFields) (k : ℕ) (job : JobFields) (o : Option Field)
    → k < length jobs → job ≡ get_or jobs k job → lacking class job ≡ o
    → missing_from class (k + 1) (drop k jobs)
    ≡ option_or (option_map (MissingField (k + 1)) o)
    (missing_from class (k + 1 + 1) (drop (k + 1) jobs))
front class jobs k job o h is e =
    let after : suc k ≡ k + 1 = omega arith in
    ap (missing_from class (k + 1)) (drop-cons jobs k job h)
    ∙ ap (λ n. missing_from class (k + 1) (get_or jobs k job ∷ drop n jobs)) after
    ∙ ap (λ x. option_or (option_map (MissingField (k + 1)) x)
    (missing_from class (k + 1 + 1) (drop (k + 1) jobs)))
    (ap (lacking class) (sym is) ∙ e)

pub loop-k-preserved : goal.loop-k-preserved
loop-k-preserved g c =
    sym (front c.args.class c.args.jobs.now c.loop-k.k c.index-jobs-k.result _ c.loop-k-test.true
    c.index-jobs-k.is (sym c.lacking.ensures ∙ c.in_default.is))
    ∙ c.loop-k.invariant

pub returns-in-Some : goal.returns-in-Some
returns-in-Some g c =
    ap (λ n. Some (MissingField n c.in-Some.field)) c.at.ensures
    ∙ sym (front c.args.class c.args.jobs.now c.loop-k.k c.index-jobs-k.result _ c.loop-k-test.true
    c.index-jobs-k.is (sym c.lacking.ensures ∙ c.in-Some.is))
    ∙ c.loop-k.invariant
