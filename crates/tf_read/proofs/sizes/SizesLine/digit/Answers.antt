use Rattle.std.proofs.Common.{subst, [], inl, inr}
use Rattle.tf_read.specs.declared.sizes.SizesLine.{SizesLine}
use Rattle.tf_read.specs.Sizes.{SizesShown}
use Rattle.tf_read.proofs.SizesLines.{no_digits, first_digit, digit_in_jobs, second_digits, digit_in_machines, third_word, goes_on}
use Rattle.tf_read.proofs.sizes.SizesLine.digit.Goals as goal

pub returns-in-Blank : goal.returns-in-Blank
returns-in-Blank c =
    λ bytes black h. first_digit bytes c.args.byte _ black
    (subst (λ (s : SizesLine). SizesShown bytes s) c.in-Blank.is h)
    (c.size_with.ensures [] no_digits)

pub returns-in-Jobs : goal.returns-in-Jobs
returns-in-Jobs c =
    λ bytes black h. digit_in_jobs bytes c.args.byte c.in-Jobs.jobs _ black
    c.size_with-in-Jobs.ensures (subst (λ (s : SizesLine). SizesShown bytes s) c.in-Jobs.is h)

pub returns-in-Between : goal.returns-in-Between
returns-in-Between c =
    λ bytes black h. second_digits bytes c.args.byte c.in-Between.jobs _ black
    (subst (λ (s : SizesLine). SizesShown bytes s) c.in-Between.is h)
    (c.size_with-in-Between.ensures [] no_digits)

pub returns-in-Machines : goal.returns-in-Machines
returns-in-Machines c =
    λ bytes black h. digit_in_machines bytes c.args.byte c.in-Machines.jobs c.in-Machines.machines _
    black c.size_with-in-Machines.ensures
    (subst (λ (s : SizesLine). SizesShown bytes s) c.in-Machines.is h)

pub returns-in-Both : goal.returns-in-Both
returns-in-Both c = λ bytes black h. elim c.in-Both.is [
  | inl both ↦
      third_word bytes c.args.byte both.0 both.1 black
      (subst (λ (s : SizesLine). SizesShown bytes s) both.2 h)
  | inr other ↦ goes_on bytes c.args.byte (subst (λ (s : SizesLine). SizesShown bytes s) other h)
]
