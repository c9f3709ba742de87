use Rattle.std.proofs.Common.{arith}
use Rattle.tf_read.proofs.Headings.{other_letter}
use Rattle.tf_read.proofs.heading.grown.Goals as goal

pub returns-then-matched-wanted : goal.returns-then-matched-wanted
returns-then-matched-wanted c =
    λ name bytes is black h. other_letter name bytes c.args.wanted.now c.args.word c.args.matched
    c.args.byte is black (λ lt e. absurd (omega (arith, lt, c.if-matched-wanted.true))) h

pub returns-then-wanted-matched : goal.returns-then-wanted-matched
returns-then-wanted-matched c =
    λ name bytes is black h. other_letter name bytes c.args.wanted.now c.args.word c.args.matched
    c.args.byte is black (λ lt e. c.if-wanted-matched.true e) h
