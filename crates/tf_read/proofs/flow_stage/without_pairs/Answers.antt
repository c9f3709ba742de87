use Rattle.std.proofs.Common.{sym, ◌∙◌, [], Err, Ok}
use Rattle.tf_read.proofs.FlowReading.{sizes_fault, no_sizes_last, sizes_last, sized_by, no_pairs}
use Rattle.tf_read.proofs.flow_stage.without_pairs.Goals as goal

pub returns-in-None-clause-fault : goal.returns-in-None-clause-fault
returns-in-None-clause-fault c =
    λ bytes all at. no_sizes_last c.args.pair c.args.line bytes all
    (sym (c.sizes.ensures bytes at) ∙ c.in-None.is)

pub returns-in-Err-clause-fault : goal.returns-in-Err-clause-fault
returns-in-Err-clause-fault c = λ bytes all at.
    sizes_last c.args.pair c.args.line bytes c.in-Some.sizes all
    (sym (c.sizes.ensures bytes at) ∙ c.in-Some.is)
    ∙ sized_by c.args.pair c.args.line c.in-Some.sizes.0 c.in-Some.sizes.1 [] (Err c.in-Err.fault)
    (sym c.judged_sizes.ensures.value ∙ c.in-Err.is)

pub returns-in-Ok-clause-fault : goal.returns-in-Ok-clause-fault
returns-in-Ok-clause-fault c = λ bytes all at.
    sizes_last c.args.pair c.args.line bytes c.in-Some.sizes all
    (sym (c.sizes.ensures bytes at) ∙ c.in-Some.is)
    ∙ sized_by c.args.pair c.args.line c.in-Some.sizes.0 c.in-Some.sizes.1 [] (Ok c.in-Ok.field-0)
    (sym c.judged_sizes.ensures.value ∙ c.in-Ok.is)
    ∙ no_pairs c.in-Ok.field-0.0 c.in-Ok.field-0.1 c.args.pair c.in-Ok.ensures.within.some
    c.in-Ok.ensures.within.machines_some

pub returns-in-Err-clause-memory : goal.returns-in-Err-clause-memory
returns-in-Err-clause-memory c =
    sizes_fault c.args.pair c.args.line c.in-Some.sizes c.in-Err.fault
    (sym c.judged_sizes.ensures.value ∙ c.in-Err.is)
