use Rattle.std.proofs.Common.{ℕ, List, Ok, sym, ap, ◌∙◌}
use Rattle.std.proofs.lemmas.Result.{err_from_is_err_and}
use Rattle.tf_words.specs.Words.{words}
use Rattle.tf_text.specs.AnswerReading.{jobs_from}
use Rattle.tf_text.proofs.Reading.{with_jobs, job_read, job_fails, jobs_end}
use Rattle.tf_text.proofs.answer.job_words.jobs_from.Goals as goal

pub returns-in_err-run : goal.returns-in_err-run
returns-in_err-run g c =
    let p = err_from_is_err_and c.from_residual.result c.from_residual.ensures.1 in
    rw (p.1, p.2)
    (job_fails _ _ _ _ _ _ _ c.loop-word.invariant c.in-Some.ensures.words
    c.in_err-run.ensures.read)

pub loop-word-preserved : goal.loop-word-preserved
loop-word-preserved g c =
    ap (λ (jobs : List ℕ). with_jobs jobs (jobs_from c.args.line (words c.in-Some.after.now)))
    c.in_ok-push_run.ensures
    ∙ sym (job_read _ _ _ _ _ _ c.in-Some.ensures.words c.in_ok-run.ensures.read)
    ∙ c.loop-word.invariant

pub returns : goal.returns
returns g c = sym c.loop-word.invariant ∙ jobs_end _ _ _ c.in_default.ensures.words
    ∙ ap (λ (jobs : List ℕ). Ok jobs) (sym c.new.ensures)
