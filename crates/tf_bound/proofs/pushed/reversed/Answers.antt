use Rattle.std.proofs.Common.{ℕ, List, ◌++◌, ◌∷◌, [], map, take, sym, ap, ◌∙◌}
use Rattle.std.proofs.lemmas.List.{take_all, map_more}
use Rattle.tf_bound.proofs.pushed.reversed.Goals as goal

-- an arc the other way round
abbrev back : ℕ × ℕ → ℕ × ℕ
back arc = (arc.1, arc.0)

pub loop-before-preserved : goal.loop-before-preserved
loop-before-preserved g c =
    let arcs : List (ℕ × ℕ) = c.args.arcs.now in
    let arc : ℕ × ℕ = c.loop-before-item.result in
    let i : ℕ = c.loop-before.before-index in
    c.in_ok-push.ensures.items
    ∙ ap (λ (l : List (ℕ × ℕ)). l ++ back arc ∷ []) c.loop-before.invariant
    ∙ ap (λ (a : ℕ × ℕ). map back (take i arcs) ++ back a ∷ []) c.loop-before-item.is
    ∙ sym (map_more back arcs i arc c.loop-before-test.true)

pub returns : goal.returns
returns g c =
    c.loop-before.invariant
    ∙ ap (map back) (take_all c.loop-before.before-index c.args.arcs.now c.loop-before-test.false)
