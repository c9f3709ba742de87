use Rattle.std.proofs.Common.{◌≡◌, arith, rules}
use Rattle.tf_text.proofs.Reading.{job_pushed}
use Rattle.tf_text.proofs.answer.job_words.push_run.Goals as goal

pub loop-number-preserved : goal.loop-number-preserved
loop-number-preserved g c =
    let same : c.unwrap.result ≡ c.loop-number.number = search rules in
    job_pushed c.args.jobs.now.items c.loop-number.jobs.items _ c.args.run.first
    c.loop-number.number _ (omega arith) same c.loop-number.invariant c.in_ok-push.ensures.items
