use Rattle.std.proofs.Common.{ℕ, ℤ, ◌++◌, ◌∷◌, [], List, pos, ◌-ℤ◌, SFits, w64, get_or, map, sym, ap, ◌∙◌, rules}
use Rattle.std.proofs.lemmas.Int.{to_z-of_z}
use Rattle.std.proofs.lemmas.List.{take_all, map_more}
use Rattle.tf_model.specs.Limit.{limit}
use Rattle.tf_bound.proofs.pushed.before_limit.Goals as goal

pub date_of-requires : goal.date_of-requires
date_of-requires g c = c.requires c.loop-tail.tail-index

abbrev until : ℕ → ℤ
until tail = pos limit -ℤ pos tail

pub loop-tail-preserved : goal.loop-tail-preserved
loop-tail-preserved g c =
    let tails = c.args.tails.now in
    let i = c.loop-tail.tail-index in
    let next = map_more until tails i 0 c.loop-tail-test.true in
    let fits : SFits w64 c.date_of.result = search rules in
    let is = to_z-of_z w64 c.date_of.result fits ∙ c.date_of.ensures in
    c.in_ok-push.ensures.items
    ∙ ap (λ (y : ℤ). c.loop-tail.dates.items ++ y ∷ []) is
    ∙ ap (λ (l : List ℤ). l ++ until (get_or tails i 0) ∷ []) c.loop-tail.invariant ∙ sym next

pub returns : goal.returns
returns g c =
    c.loop-tail.invariant
    ∙ ap (map until) (take_all c.loop-tail.tail-index c.args.tails.now c.loop-tail-test.false)
