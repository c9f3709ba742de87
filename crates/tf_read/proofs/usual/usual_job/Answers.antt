use Rattle.std.proofs.Common.{◌≡◌, ◌≤◌, ℕ, Some, ap, sym, ◌∙◌, arith}
use Rattle.tf_words.specs.Number.{plain}
use Rattle.tf_words.specs.FirstLine.{line_words}
use Rattle.tf_model.specs.Limit.{most_jobs}
use Rattle.tf_read.proofs.UsualJob.{usual_line}
use Rattle.tf_read.proofs.usual.usual_job.Goals as goal

pub returns : goal.returns
returns g c =
    let word = c.in_ok-number.ensures.word in
    let number : plain most_jobs word.0 ≡ Some c.args.k =
    word.1 ∙ ap (λ (n : ℕ). Some n) c.if-number-k.false in
    let few : c.args.k ≤ most_jobs = omega (arith, c.in_ok-number.ensures.few) in
    usual_line c.args.k _ word.0 _ _ _ _ _ _ c.behind_first.ensures.words
    (ap line_words (sym c.bytes_left.ensures) ∙ c.in_ok-text.ensures.words) word.2.words number few
    (c.in_ok-job.ensures.job _)
