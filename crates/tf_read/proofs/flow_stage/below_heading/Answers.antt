use Rattle.std.proofs.Common.{sym, ◌∙◌, arith}
use Rattle.tf_read.specs.declared.heading.HeadingWord.TheVariants.{Instance}
use Rattle.tf_read.specs.declared.heading.HeadingLine.TheVariants.{Spelled}
use Rattle.tf_read.specs.declared.sizes.SizesLine.TheVariants.{Blank}
use Rattle.tf_read.proofs.PresentLine.{no_byte}
use Rattle.tf_read.proofs.FlowReading.{heading_read, heading_missed}
use Rattle.tf_read.proofs.flow_stage.below_heading.Goals as goal

pub returns-then-is_heading-clause-taken : goal.returns-then-is_heading-clause-taken
returns-then-is_heading-clause-taken g c =
    λ pair fed h. heading_read c.args.name.now pair c.args.line c.args.shown Blank fed
    (λ bytes at. sym (c.is_heading.ensures bytes at) ∙ c.if-is_heading.true) no_byte h

pub returns-else-is_heading-clause-taken : goal.returns-else-is_heading-clause-taken
returns-else-is_heading-clause-taken g c =
    λ pair fed h. heading_missed c.args.name.now pair c.args.line c.args.shown
    (Spelled Instance 0) fed
    (λ bytes at. sym (c.is_heading.ensures bytes at) ∙ c.if-is_heading.false) (omega arith, no_byte) h
