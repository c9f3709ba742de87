use Rattle.std.proofs.Common.{sym, ap, ◌∙◌, inl, inr}
use Rattle.tf_read.proofs.SizesLines.{shown_sizes, none_shown, sizes_are}
use Rattle.tf_read.proofs.sizes.SizesLine.sizes.Goals as goal

pub returns-in-Machines : goal.returns-in-Machines
returns-in-Machines c =
    λ bytes h.
    (elim c.in-Machines.is [ inl e ↦ sym (ap shown_sizes e) | inr e ↦ sym (ap shown_sizes e) ])
    ∙ sizes_are bytes c.args.self h

pub returns-in-Machines-2 : goal.returns-in-Machines-2
returns-in-Machines-2 c =
    λ bytes h.
    (elim c.in-Machines.is [ inl e ↦ sym (ap shown_sizes e) | inr e ↦ sym (ap shown_sizes e) ])
    ∙ sizes_are bytes c.args.self h

pub returns-in_default : goal.returns-in_default
returns-in_default c =
    λ bytes h. sym (none_shown c.args.self c.in_default.not-Machines c.in_default.not-Both)
    ∙ sizes_are bytes c.args.self h
