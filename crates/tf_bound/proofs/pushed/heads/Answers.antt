use Rattle.std.proofs.Common.{List, ℕ, ◌∙◌, sym, subst}
use Rattle.tf_bound.specs.Along.{AreAlong}
use Rattle.tf_bound.proofs.Dates.{heads_along, match_weaker}
use Rattle.tf_bound.proofs.PushedDates.{along_heads, dated_heads}
use Rattle.tf_bound.proofs.pushed.heads.Goals as goal

pub dates_along-requires : goal.dates_along-requires
dates_along-requires g c =
    dated_heads c.args.task.now c.arcs.ensures.sized c.requires.prec c.args.work.now c.requires.work
    c.deref.result.now (c.deref.ensures.value ∙ c.in_ok-own.ensures) c.arcs.result.now
    c.arcs.ensures.value

pub returns : goal.returns
returns g c =
    let k = c.args.task.now in
    let sized = c.arcs.ensures.sized in
    let own = c.deref.result.now in
    let owns = c.deref.ensures.value ∙ c.in_ok-own.ensures in
    let arcs = c.arcs.ensures.value in
    match_weaker c.dates_along.result _ _ _ _
    (λ none r heads. none r
    (subst (λ (xs : List (ℕ × ℕ)). AreAlong own c.args.work.now xs r) (sym arcs)
    (along_heads k sized c.args.work.now c.requires.work own owns r heads)))
    (λ dates found. heads_along k sized c.args.work.now c.requires.work own dates.items owns
    (subst (λ (xs : List (ℕ × ℕ)). AreAlong own c.args.work.now xs dates.items) arcs found.0))
    c.dates_along.ensures
