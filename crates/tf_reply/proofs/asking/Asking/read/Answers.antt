use Rattle.std.proofs.Common.{◌∙◌}
use Rattle.tf_text.specs.declared.answer.layout.Layout.{Layout}
use Rattle.tf_reply.specs.Asked.{request_said}
use Rattle.tf_reply.proofs.asking.Asking.read.Goals as goal

pub returns-clause-asked : goal.returns-clause-asked
returns-clause-asked c =
    let texts = c.in-Some.ensures in
    record {
      request = λ (layout : Layout). c.in_ok-options.ensures.request layout
          ∙ (λ i. request_said c.args.self.now (texts.problem i) (texts.name i) layout);
      instance = texts.instance;
      answer = texts.answer;
    }
