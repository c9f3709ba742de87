use Rattle.std.proofs.Common.{◌≡◌, ◌+◌, ◌-◌, IfSome, rules, arith, sym, ap, ◌∙◌, subst}
use Rattle.tf_text.specs.Counted.{inner_of, use_of}
use Rattle.tf_held.specs.Instances.{IsBehind}
use Rattle.tf_held.specs.Series.{WritesUntil}
use Rattle.tf_held.specs.Texts.{beside_of}
use Rattle.tf_held.proofs.Again.{runs_has}
use Rattle.tf_held.proofs.Lines.{begun, come_to_end, cut_off, entry_of, finished, gone_on, stopped}
use Rattle.tf_held.proofs.series.write_lines.Goals as goal

pub loop-step-init : goal.loop-step-init
loop-step-init g c = record {
  told = begun c.args.series.now c.args.instance.now (beside_of c.args.texts)
      (g.W.Write.contents (inner_of c.args.writer.now));
  known = tt;
}

pub told_next-requires-clause-parts : goal.told_next-requires-clause-parts
told_next-requires-clause-parts g c =
    c.parts_of-parts.ensures c.args.instance.now (c.from-first.result + c.loop-step.step)
    (subst (λ n. IfSome c.loop-step.ahead (λ text. IsBehind c.args.series.now.form c.args.instance.now
    (n + c.loop-step.step - 1) text.now)) (sym c.from-first.ensures) c.loop-step.invariant.known)

pub behind-ahead-requires-clause-there : goal.behind-ahead-requires-clause-there
behind-ahead-requires-clause-there g c =
    let tells = rw c.in-Some.is at c.in_ok-kept.ensures in
    λ apart. runs_has c.args.series.now c.args.instance.now (beside_of c.next_for.result.0) _ tells.0 _
    tells.1 apart tells.3 tells.2

pub behind-ahead-requires-clause-parts : goal.behind-ahead-requires-clause-parts
behind-ahead-requires-clause-parts g c =
    c.parts_of-parts.ensures c.args.instance.now (c.from-first.result + c.loop-step.step)
    (subst (λ n. IfSome c.loop-step.ahead (λ text. IsBehind c.args.series.now.form c.args.instance.now
    (n + c.loop-step.step - 1) text.now)) (sym c.from-first.ensures) c.loop-step.invariant.known)

pub loop-step-preserved : goal.loop-step-preserved
loop-step-preserved g c = record {
  told = gone_on c.args.series.now c.args.instance.now (beside_of c.args.texts) (beside_of c.loop-step.rest)
      c.loop-step.step _ (beside_of c.next_for.result.0) (beside_of c.next_for.result.1) _
      (g.W.Write.contents (inner_of c.args.writer.now))
      (g.W.Write.contents (inner_of c.loop-step.writer))
      (g.W.Write.contents (inner_of c.write_entry.new.writer))
      c.loop-step.invariant.told (ap (λ n. n + c.loop-step.step) c.from-first.ensures)
      (entry_of c.args.series.now c.args.instance.now (beside_of c.next_for.result.0) _ c.in-Some.kept
      c.as_slice-text.result.now (rw c.in-Some.is at c.in_ok-kept.ensures)
      (c.as_slice-text.ensures.value ∙ ap (λ v. v.items) c.inner.ensures))
      c.next_for.ensures
      c.in_ok-write_entry-in-Some.ensures.written;
  known =
      let next : c.from-first.result + c.loop-step.step
      ≡ c.args.series.now.span.first + (c.loop-step.step + 1) - 1 = omega (arith, c.from-first.ensures) in
      subst (λ n. IfSome c.behind-ahead.result (λ text. IsBehind c.args.series.now.form c.args.instance.now n
      text.now)) next c.behind-ahead.ensures;
}

pub returns : goal.returns
returns g c =
    finished c.args.series.now c.args.instance.now (beside_of c.args.texts) (beside_of c.loop-step.rest)
    c.loop-step.step (use_of g.W.Write.contents c.args.writer.now c.loop-step.writer)
    c.loop-step.invariant.told (omega arith)

pub returns-in-None : goal.returns-in-None
returns-in-None g c =
    come_to_end c.args.series.now c.args.instance.now (beside_of c.args.texts) (beside_of c.loop-step.rest)
    c.loop-step.step _
    (use_of g.W.Write.contents c.args.writer.now c.loop-step.writer) c.loop-step.invariant.told
    (ap (λ n. n + c.loop-step.step) c.from-first.ensures)
    (rw c.in-None.is at c.in_ok-kept.ensures)

pub returns-in_err-kept : goal.returns-in_err-kept
returns-in_err-kept g c =
    let stops : WritesUntil c.args.series.now c.args.instance.now (beside_of c.args.texts)
    (use_of g.W.Write.contents c.args.writer.now c.loop-step.writer) c.in_err-kept.field-0.0 =
    stopped c.args.series.now c.args.instance.now (beside_of c.args.texts) (beside_of c.loop-step.rest)
    (beside_of c.next_for.result.0) (beside_of c.next_for.result.1) c.loop-step.step _
    (use_of g.W.Write.contents c.args.writer.now c.loop-step.writer) c.in_err-kept.field-0.0
    c.loop-step.invariant.told (ap (λ n. n + c.loop-step.step) c.from-first.ensures) (omega arith)
    c.next_for.ensures
    c.in_err-kept.ensures in
    search rules

pub returns-in_err-write_entry-in-Some : goal.returns-in_err-write_entry-in-Some
returns-in_err-write_entry-in-Some g c =
    let stops : WritesUntil c.args.series.now c.args.instance.now (beside_of c.args.texts)
    (use_of g.W.Write.contents c.args.writer.now c.write_entry.new.writer)
    c.in_err-write_entry-in-Some.field-0.0 =
    cut_off c.args.series.now c.args.instance.now (beside_of c.args.texts) (beside_of c.loop-step.rest)
    (beside_of c.next_for.result.0) (beside_of c.next_for.result.1) _ c.loop-step.step _
    (g.W.Write.contents (inner_of c.loop-step.writer))
    (use_of g.W.Write.contents c.args.writer.now c.write_entry.new.writer)
    c.in_err-write_entry-in-Some.field-0.0 c.loop-step.invariant.told
    (ap (λ n. n + c.loop-step.step) c.from-first.ensures)
    (omega arith)
    c.next_for.ensures
    (entry_of c.args.series.now c.args.instance.now (beside_of c.next_for.result.0) _ c.in-Some.kept
    c.as_slice-text.result.now (rw c.in-Some.is at c.in_ok-kept.ensures)
    (c.as_slice-text.ensures.value ∙ ap (λ v. v.items) c.inner.ensures))
    c.in_err-write_entry-in-Some.ensures.unwritten in
    search rules
