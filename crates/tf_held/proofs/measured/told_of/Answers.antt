use Rattle.std.proofs.Common.{List, ℕ, ap, ◌∙◌, subst}
use Rattle.tf_engine.specs.RequestData.{RequestData}
use Rattle.tf_assess.specs.Measures.{measured_text}
use Rattle.tf_held.specs.Done.{IsDoneCounted}
use Rattle.tf_held.specs.Measured.{AreOfAnswer}
use Rattle.tf_held.proofs.measured.told_of.Goals as goal

pub returns : goal.returns
returns g c =
    let texts = g.S.Sources.text_of c.args.sources.now in
    let done = c.in_ok-done.done in
    let m = c.in_ok-measures.measures in
    let d : IsDoneCounted texts c.args.instance.items c.args.answer.items c.args.answered done =
    subst (λ (answer : List ℕ). IsDoneCounted texts c.args.instance.items answer c.args.answered done)
    c.as_slice-2.ensures.value
    (subst (λ (instance : List ℕ). IsDoneCounted texts instance c.as_slice-2.result.now
    c.args.answered done) c.as_slice.ensures.value c.in_ok-done.ensures) in
    record {
      other = d.other;
      counted = d.counted;
      over = record {
        before = d.over.before;
        after = d.over.after;
        blank = d.over.blank;
        silent = d.over.silent;
        done = d.over.done;
        whole = d.over.whole;
        told = d.over.told;
        measured = (
          m,
          subst (λ (request : RequestData). AreOfAnswer request c.args.instance.items
              c.args.answer.items m) d.over.request c.in_ok-measures.ensures,
          c.in_ok-with_measures.ensures ∙ ap (λ text. measured_text text m) d.over.output,
        );
        errors_is = d.over.errors;
      };
    }
