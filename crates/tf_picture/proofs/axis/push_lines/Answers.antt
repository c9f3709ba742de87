use Rattle.std.proofs.Common.{◌≡◌, ◌++◌, ◌+◌, ◌-◌, ◌/◌, ap, ◌∙◌, arith}
use Rattle.std.specs.List.{flat_map, range_with_len}
use Rattle.tf_picture.specs.Picture.{line_at}
use Rattle.tf_picture.proofs.axis.push_lines.Goals as goal

pub returns : goal.returns
returns g c =
    let same : c.loop-n.n - c.args.frame.now.from / c.args.step
    ≡ c.args.frame.now.to / c.args.step + 1 - c.args.frame.now.from / c.args.step =
    omega (arith, c.loop-n-test.false, c.loop-n.invariant.few) in
    c.loop-n.invariant.written
    ∙ ap (λ m. c.args.text.now.items ++ flat_map (line_at c.args.frame.now c.args.step)
    (range_with_len (c.args.frame.now.from / c.args.step) m)) same
