use Rattle.std.proofs.Common.{sym, ◌∙◌, arith}
use Rattle.std.proofs.lemmas.Result.{err_from_is_err_and}
use Rattle.tf_text.proofs.Reading.{count_step, count_fails, count_end}
use Rattle.tf_text.proofs.answer.job_words.are_too_many.Goals as goal

pub returns-in_err-run : goal.returns-in_err-run
returns-in_err-run c =
    let p = err_from_is_err_and c.from_residual.result c.from_residual.ensures.1 in
    rw (p.1, p.2)
    (count_fails _ _ _ _ _ _ _ c.loop-word.invariant.0 c.in-Some.ensures.words
    c.in_err-run.ensures.read)

pub loop-word-preserved : goal.loop-word-preserved
loop-word-preserved c = (
  count_step c.args.line c.loop-word.count _ _ _ _ _ _ c.in_ok-run.ensures.within.1 (omega arith)
      c.in-Some.ensures.words c.in_ok-run.ensures.read c.loop-word.invariant.0,
  omega arith,
)

pub returns : goal.returns
returns c = sym c.loop-word.invariant.0 ∙ count_end _ _ _ c.in_default.ensures.words
