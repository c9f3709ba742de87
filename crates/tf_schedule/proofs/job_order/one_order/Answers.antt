use Rattle.std.proofs.Common.{◌≡◌, length, replicate, List, ℕ, sym, ap, ◌∙◌, subst, arith}
use Rattle.std.specs.List.{range_with_len}
use Rattle.std.specs.List.Sorted.{IsPermutation}
use Rattle.std.proofs.lemmas.List.{length-replicate}
use Rattle.tf_schedule.specs.Passing.{ArePlaced, rank_in}
use Rattle.tf_schedule.proofs.Passing.{front_of, zero_rank, no_endless, settled_order}
use Rattle.tf_schedule.proofs.job_order.one_order.Goals as goal

pub returns-then-not-settle : goal.returns-then-not-settle
returns-then-not-settle g c = λ one.
    let k = g.T.Asks.posed c.args.task.now in
    let ranks : List ℕ = c.deref_mut.result.now in
    let is : ranks ≡ replicate c.len.result 0 =
    c.deref_mut.ensures.value ∙ c.in_ok-ranks.ensures.items_if_clones_equal (λ y e. e) in
    let len : length ranks ≡ length k.jobs =
    ap length is ∙ length-replicate c.len.result 0 ∙ c.len.ensures.value in
    no_endless (length k.jobs) k.machines c.args.pieces.now c.requires.schedule c.requires.known
    ranks len (zero_rank c.len.result ranks is) (c.settle.ensures.endless c.if-not-settle.true)
    one.0 one.1 one.2

pub returns : goal.returns
returns g c =
    let k = g.T.Asks.posed c.args.task.now in
    let ps = c.args.pieces.now in
    let order : List ℕ = c.in_ok-order.order.items in
    let ranks : List ℕ = c.deref.result.now in
    let is : c.deref_mut.result.now ≡ replicate c.len.result 0 =
    c.deref_mut.ensures.value ∙ c.in_ok-ranks.ensures.items_if_clones_equal (λ y e. e) in
    let value : ranks ≡ c.settle.new.ranks =
    c.deref.ensures.value
    ∙ front_of c.settle.new.ranks _ c.in_ok-ranks.ranks.len
    (omega (arith, c.settle.ensures.len, c.deref_mut.ensures.len)) in
    let len : length ranks ≡ length k.jobs =
    ap length value ∙ c.settle.ensures.len ∙ ap length is ∙ length-replicate c.len.result 0
    ∙ c.len.ensures.value in
    let kept : IsPermutation (range_with_len 1 (length k.jobs)) order =
    subst (λ n. IsPermutation (range_with_len 1 n) order) len c.in_ok-order.ensures.kept in
    let placed : ArePlaced (rank_in ranks) ps =
    subst (λ (rs : List ℕ). ArePlaced (rank_in rs) ps) (sym value)
    (c.settle.ensures.settled c.if-not-settle.false) in (
      kept,
      settled_order (length k.jobs) k.machines ps c.requires.schedule c.requires.known ranks
          order placed kept c.in_ok-order.ensures.in_order,
    )
