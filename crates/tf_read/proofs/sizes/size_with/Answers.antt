use Rattle.std.proofs.Common.{arith}
use Rattle.tf_read.proofs.SizesLines.{size_with}
use Rattle.tf_read.proofs.sizes.size_with.Goals as goal

pub returns : goal.returns
returns c = λ word h. size_with c.args.size word c.args.digit _ c.requires
    (omega (arith, c.with_digit.ensures, c.min.ensures)) h
