use Rattle.std.proofs.Common.{◌≡◌, true, false}
use Rattle.tf_schedule.specs.Line.{line_of}
use Rattle.tf_schedule.proofs.Scan.{scan_start, scan_more, scan_end, first_clash}
use Rattle.tf_schedule.proofs.line.Line.first_overlap.Goals as goal

pub loop-k-init : goal.loop-k-init
loop-k-init c = scan_start (line_of c.args.self) _

pub loop-k-preserved : goal.loop-k-preserved
loop-k-preserved c =
    scan_more (line_of c.args.self) _ _ _ _ c.loop-k.auto.k c.loop-k-test.true
    c.index-pieces-k-in-loop-k.is c.index-pieces-k.is c.requires.sound c.requires.in_order
    c.loop-k.invariant
    (λ overlap.
    let yes : c.overlap.result ≡ true = c.overlap.ensures.1 overlap in
    let never : c.overlap.result ≡ false = c.if-overlap.false in
    cc)

pub returns-then-overlap : goal.returns-then-overlap
returns-then-overlap c = first_clash (line_of c.args.self) _ _ _ _ c.loop-k.auto.k
    c.loop-k-test.true c.index-pieces-k-in-loop-k.is c.index-pieces-k.is c.requires.sound
    c.requires.in_order c.loop-k.invariant (c.overlap.ensures.0 c.if-overlap.true)

pub returns : goal.returns
returns c = scan_end (line_of c.args.self) _ _ c.loop-k-test.false c.loop-k.invariant
