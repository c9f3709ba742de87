use Rattle.std.proofs.Common.{ℕ, List, ◌+◌, ◌++◌, take, ap, ◌∙◌, subst, arith}
use Rattle.tf_read.specs.declared.flow_stage.Stage.{Stage}
use Rattle.tf_read.specs.FlowStage.{ReadsPairs, HasTakenShop}
use Rattle.tf_words.proofs.Pieces.{byte_more, both_parts, all_taken, part_more}
use Rattle.tf_read.proofs.FlowReading.{pairs_more}
use Rattle.tf_read.proofs.flow_stage.Stage.feed.Goals as goal

pub loop-k-preserved-then-k-piece : goal.loop-k-preserved-then-k-piece
loop-k-preserved-then-k-piece g c =
    let takes = HasTakenShop c.args.wanted.now.name.now c.args.wanted.now.pair in
    let k = c.loop-k.k + c.idle-k.result in
    record {
      taken = λ fed h.
          let idle : takes c.loop-k.self (fed ++ take k c.args.piece.now) =
          subst (takes c.loop-k.self)
          (ap (λ (bs : List ℕ). (fed ++ take c.loop-k.k c.args.piece.now)
          ++ take c.idle-k.result bs) c.split_at.ensures.back
          ∙ both_parts fed c.args.piece.now c.loop-k.k c.idle-k.result)
          (c.idle-k.ensures.taken _ _ _ (c.loop-k.invariant.taken fed h)) in
          subst (takes c.push.new.self) (byte_more fed c.args.piece.now k c.if-k-piece.true)
          (c.push.ensures.taken _ idle);
      line = omega (arith, c.push.ensures.later, c.loop-k.invariant.line);
      within = omega (arith, c.if-k-piece.true);
    }

pub returns-clause-taken : goal.returns-clause-taken
returns-clause-taken g c = λ fed h.
    subst (HasTakenShop c.args.wanted.now.name.now c.args.wanted.now.pair c.loop-k.self)
    (all_taken fed c.args.piece.now c.loop-k.k c.loop-k-test.false)
    (c.loop-k.invariant.taken fed h)

pub returns-in-Pairs-clause-taken : goal.returns-in-Pairs-clause-taken
returns-in-Pairs-clause-taken g c = λ fed h.
    let name = c.args.wanted.now.name.now in
    let pair = c.args.wanted.now.pair in
    let front : List ℕ = fed ++ take c.loop-k.k c.args.piece.now in
    let held : ReadsPairs name pair c.in-Pairs.words front =
    subst (λ (s : Stage g.row.A.Denot). HasTakenShop name pair s front) c.in-Pairs.is
    (c.loop-k.invariant.taken fed h) in
    subst (ReadsPairs name pair c.feed.new.self)
    (ap (λ (bs : List ℕ). front ++ bs) c.split_at.ensures.back
    ∙ part_more fed c.args.piece.now c.loop-k.k)
    (pairs_more name pair c.in-Pairs.words c.feed.new.self front c.split_at.result.1.now
    c.feed.ensures.fed held)
