use Rattle.std.proofs.Common.{ap, subst}
use Rattle.tf_text.specs.Counted.{use_of}
use Rattle.tf_text.specs.declared.answer.layout.Layout.TheVariants.{Two}
use Rattle.tf_engine.specs.RequestData.{RequestData}
use Rattle.tf_assess.specs.RunRating.{IsRatingOf}
use Rattle.tf_asked.specs.Asking.{requested}
use Rattle.tf_command.specs.Ending.{EndsEvaluating, line_of}
use Rattle.tf_reply.proofs.Over.{held, left, over_both}
use Rattle.tf_reply.proofs.commands.evaluated.Goals as goal

pub returns : goal.returns
returns g c =
    let console = c.new-console.result in
    let run = c.run_rate-run in
    let ended = c.end_run-status in
    over_both console (record { output = run.new.writer; errors = ended.new.writer })
    c.new-console.ensures.output c.new-console.ensures.errors (line_of run.result)
    ended.ensures.line c.new-instance.result run.new.instance c.new-answer.result run.new.answer
    c.args.instance.now c.args.answer.now
    (ap (λ s. s.now) c.new-instance.ensures.inner) (ap (λ s. s.now) c.new-answer.ensures.inner)
    (EndsEvaluating g.row.A.Denot c.args.detail (requested c.args.options.now Two))
    ended.result
    (λ says said. record {
      run = run.result;
      outcome = subst
          (λ (request : RequestData). IsRatingOf c.args.detail request
          (use_of left c.new-instance.result run.new.instance)
          (use_of left c.new-answer.result run.new.answer)
          (use_of held console.output run.new.writer) run.result)
          c.in_ok-request.ensures run.ensures.outcome;
      ends = ended.ensures.status;
      said = said;
    })
    c.ended.result c.ended.ensures
