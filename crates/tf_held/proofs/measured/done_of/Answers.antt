use Rattle.std.proofs.Common.{List, ℕ, sym, subst}
use Rattle.std.proofs.lemmas.Result.{IfOk-weaker}
use Rattle.tf_held.specs.Shops.{IsLineFor}
use Rattle.tf_held.proofs.Measuring.{over_read}
use Rattle.tf_held.proofs.measured.done_of.Goals as goal

pub returns : goal.returns
returns g c =
    IfOk-weaker c.done_over.result _ _
    (λ done over. over_read (g.S.Sources.text_of c.args.sources.now) c.args.instance.now
    c.args.answer.now c.answer.result.now c.as_str.result.now c.args.answered c.under.result
    c.options.result.now c.options-2.result.now done
    c.options.ensures c.options-2.ensures c.answer.ensures
    (subst (λ (text : List ℕ). IsLineFor c.options.result.now c.args.instance.now text)
    (sym c.as_str.ensures.value) c.in_ok-line.ensures) c.under.ensures over)
    c.done_over.ensures
