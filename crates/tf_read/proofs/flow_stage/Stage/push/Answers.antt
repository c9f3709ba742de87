use Rattle.std.proofs.Common.{subst, ◌∷◌, []}
use Rattle.tf_read.specs.declared.flow_stage.Stage.{Stage}
use Rattle.tf_read.specs.FlowStage.{HasTakenShop}
use Rattle.tf_read.proofs.FlowReading.{heading_byte, sizes_byte, pairs_more}
use Rattle.tf_read.proofs.flow_stage.Stage.push.Goals as goal

pub returns-else-byte-eq10-clause-taken : goal.returns-else-byte-eq10-clause-taken
returns-else-byte-eq10-clause-taken g c = λ fed h.
    heading_byte c.args.wanted.now.name.now c.args.wanted.now.pair c.in-Heading.line c.args.byte
    c.in-Heading.shown c.push.result fed c.if-byte-eq10.false c.push.ensures
    (subst (λ (s : Stage g.row.A.Denot).
    HasTakenShop c.args.wanted.now.name.now c.args.wanted.now.pair
    s fed) c.in-Heading.is h)

pub returns-else-byte-eq10-2-clause-taken : goal.returns-else-byte-eq10-2-clause-taken
returns-else-byte-eq10-2-clause-taken g c = λ fed h.
    sizes_byte c.args.wanted.now.name.now c.args.wanted.now.pair c.in-Sizes.line c.args.byte
    c.in-Sizes.shown c.push-else-byte-eq10-2.result fed c.if-byte-eq10-2.false
    c.push-else-byte-eq10-2.ensures
    (subst (λ (s : Stage g.row.A.Denot).
    HasTakenShop c.args.wanted.now.name.now c.args.wanted.now.pair
    s fed) c.in-Sizes.is h)

pub returns-in-Pairs-clause-taken : goal.returns-in-Pairs-clause-taken
returns-in-Pairs-clause-taken g c = λ fed h.
    pairs_more c.args.wanted.now.name.now c.args.wanted.now.pair c.in-Pairs.words
    c.feed.new.self fed (c.args.byte ∷ []) c.feed.ensures.fed
    (subst (λ (s : Stage g.row.A.Denot).
    HasTakenShop c.args.wanted.now.name.now c.args.wanted.now.pair
    s fed) c.in-Pairs.is h)
