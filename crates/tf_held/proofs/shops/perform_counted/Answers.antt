use Rattle.std.proofs.Common.{List, ℕ, inl, inr, refl, sym, subst, ◌∙◌, codes}
use Rattle.std.proofs.KnownBytes.{Keeps-refl}
use Rattle.std.specs.Io.KnownBytes.{Keeps}
use Rattle.tf_text.specs.Counted.{inner_of, use_of}
use Rattle.tf_engine.specs.declared.fault.RunFault.TheVariants.{OutOfMemory}
use Rattle.tf_command.specs.Ending.{SaysLine}
use Rattle.tf_command.specs.Wrote.{Wrote}
use Rattle.tf_command.proofs.Saying.{says_alone}
use Rattle.tf_held.specs.Shops.{EndsShop, IsLineFor}
use Rattle.tf_held.proofs.Counted.{over_file}
use Rattle.tf_held.proofs.shops.perform_counted.Goals as goal

pub returns-in_default-line_for : goal.returns-in_default-line_for
returns-in_default-line_for g c =
    let same = c.in-Ok.ensures.kept in
    inr (
      c.in-Some.options.now,
      c.in-Some.ensures.0,
      c.in-Some.ensures.1,
      inr (record {
        fault = OutOfMemory;
        why = inr (inl refl);
        unwritten = subst (λ console. Keeps
            (g.W.Write.contents (inner_of c.args.console.now.writer))
            (g.W.Write.contents (inner_of console.writer))) (sym same) (Keeps-refl _);
        ends = c.say_memory.ensures.status;
        said = says_alone (subst (λ console. Wrote g.E.Write.contents console.errors
            c.say_memory.new.writer (codes "threefield: want of memory\n")) same
            c.say_memory.ensures.line);
      }),
    )

pub returns-in-Err : goal.returns-in-Err
returns-in-Err g c =
    inr (
      c.in-Some.options.now,
      c.in-Some.ensures.0,
      c.in-Some.ensures.1,
      inr c.in-Err.ensures.unread,
    )

pub returns : goal.returns
returns g c =
    let texts = g.S.Sources.text_of c.args.sources.now in
    let options = c.in-Some.options.now in
    let line = c.as_str.result.now in
    let wanted = subst (λ (instance : List ℕ). IsLineFor options instance line)
    (c.as_slice.ensures.value ∙ sym c.as_slice-2.ensures.value)
    (subst (λ (text : List ℕ). IsLineFor options c.as_slice.result.now text) (sym c.as_str.ensures.value)
    c.in-Ok-line_for.ensures) in
    inr (
      options,
      c.in-Some.ensures.0,
      c.in-Some.ensures.1,
      inl (subst (λ console. EndsShop texts c.args.work options
          (use_of g.W.Write.contents console.writer c.perform-2.new.console.writer)
          (λ explain. SaysLine g.E.Write.contents explain console.errors
          c.perform-2.new.console.errors) c.perform-2.result) c.in-Ok.ensures.kept
          (over_file texts c.args.work c.work_under.result options c.in-Ok.text.items
          c.as_slice-2.result.now line _ _ c.perform-2.result c.in-Some.ensures.0
          c.in-Ok.ensures.text c.as_slice-2.ensures.value wanted c.work_under.ensures.under
          c.perform-2.ensures)),
    )
