use Rattle.std.proofs.Common.{◌≡◌, ◌≤◌, ℕ, codes, take, refl, sym, subst, arith, rules}
use Rattle.tf_words.specs.FirstLine.{IsNumeralOf}
use Rattle.tf_words.proofs.FirstLine.{key_front}
use Rattle.tf_text.proofs.UsualPiece.{usual_text}
use Rattle.tf_text.proofs.answer.usual.usual_line.Goals as goal

pub returns : goal.returns
returns c =
    let key = c.in_ok-from.ensures.cases in
    let a = c.in_ok-job.ensures.word in
    let b = c.in_ok-machine.ensures.word in
    let s = c.in_ok-start.ensures.word in
    let t = c.in_ok-stop.ensures.word in
    let job : c.in-Some-Some.job ≡ c.in_ok-job.job = search rules in
    let machine : c.in-Some-Some.machine ≡ c.in_ok-machine.machine = search rules in
    let some_job : 1 ≤ c.in_ok-job.job = search rules in
    let some_machine : 1 ≤ c.in_ok-machine.machine = search rules in
    usual_text _ _ _ _ _ _ _ a.0 b.0 s.0 t.0 _ _ _ _
    (key_front _ (take 5 c.args.text.now) _ (codes "piece") 5 refl key.1 key.0) a.3 b.3 s.3 t.3
    c.in_ok-rest.ensures.bytes a.2 b.2 s.2 t.2
    (record {
      job = subst (λ (n : ℕ). IsNumeralOf a.0 n) (sym job) a.1;
      job_low = omega arith;
      job_high = omega arith;
      machine = subst (λ (n : ℕ). IsNumeralOf b.0 n) (sym machine) b.1;
      machine_low = omega arith;
      machine_high = omega arith;
      start = s.1;
      start_few = c.in_ok-start.ensures.few;
      stop = t.1;
      stop_few = c.in_ok-stop.ensures.few;
    })
