use Rattle.std.proofs.Common.{sym, ap, ◌∙◌, subst}
use Rattle.tf_text.specs.Counted.{use_of}
use Rattle.tf_asked.specs.declared.options.Work.{Work as Asking}
use Rattle.tf_command.specs.Ending.{SaysLine}
use Rattle.tf_command.specs.Formatted.{held}
use Rattle.tf_command.specs.Performing.{Performs}
use Rattle.tf_text.specs.declared.answer.layout.Layout.TheVariants.{Two}
use Rattle.tf_asked.specs.Asking.{requested}
use Rattle.tf_held.proofs.measured.done_over.Goals as goal

pub returns : goal.returns
returns g c = record {
  before = c.memory-kept.result;
  after = c.perform-status.new.console;
  blank = c.memory-kept.ensures.blank;
  silent = c.memory-kept.ensures.silent;
  done = subst (λ (work : Asking). Performs (g.S.Sources.text_of c.args.texts.now) work
      (use_of held c.memory-kept.result.writer c.perform-status.new.console.writer)
      (λ explain. SaysLine held explain c.memory-kept.result.errors
      c.perform-status.new.console.errors) c.perform-status.result) c.into_work.ensures
      c.perform-status.ensures;
  whole = sym c.failed.ensures ∙ c.if-failed.false;
  told = sym c.failed-else-failed.ensures ∙ c.if-failed-2.false;
  output = c.in_ok-from_slice.ensures.items ∙ c.as_slice.ensures.value
      ∙ ap (λ v. v.items) c.inner.ensures;
  errors = c.in_ok-from_slice-2.ensures.items ∙ c.as_slice-2.ensures.value
      ∙ ap (λ v. v.items) c.inner-2.ensures;
  request = c.request-2.view_is ∙ c.in_ok-request.ensures
      ∙ ap (λ options. requested options Two) c.options.ensures;
}
