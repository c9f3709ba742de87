use Rattle.std.proofs.Common.{sym, SFits, w64, rules}
use Rattle.std.proofs.lemmas.Int.{to_z-of_z}
use Rattle.tf_check.specs.Certificate.{claim_of}
use Rattle.tf_check.specs.Claim.{AnswerData, answer_of}
use Rattle.tf_check.specs.Verdict.{HasVerdict}
use Rattle.tf_check.proofs.Best.{accepted-best}
use Rattle.tf_check.proofs.Verdicts.{accepts, is_accepted}
use Rattle.tf_check.proofs.check.verdict_on.Goals as goal

pub returns : goal.returns
returns g c =
    let k = c.args.task.now in
    let a : AnswerData =
    answer_of c.args.pieces.items c.args.value (claim_of c.args.certificate.now) in
    let fits : SFits w64 c.args.value = search rules in
    let judged : HasVerdict k a c.verdict.result =
    c.verdict.ensures k a (sym (to_z-of_z w64 c.args.value fits))
    c.in_ok-fit.ensures.fit c.in_ok-fit.ensures.bound in
    record {
      verdict = judged;
      accepted = accepts k a c.verdict.result judged;
      best = λ is. accepted-best k a c.class-class.ensures.sound
          (is_accepted k a c.verdict.result judged is);
    }
