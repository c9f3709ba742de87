use Rattle.std.proofs.Common.{Ok, Err, ◌+◌, sym, ◌∙◌, []}
use Rattle.tf_words.specs.Words.{lines, words_from}
use Rattle.tf_read.specs.FlowShop.{pairs_of}
use Rattle.tf_read.specs.declared.sizes.SizesLine.TheVariants.{Blank}
use Rattle.tf_read.proofs.PresentLine.{no_byte}
use Rattle.tf_read.proofs.FlowReading.{sizes_read, sizes_missed, ends_by, sized_by, sizes_fault}
use Rattle.tf_read.proofs.flow_stage.below_sizes.Goals as goal

pub returns-in_default-clause-taken : goal.returns-in_default-clause-taken
returns-in_default-clause-taken g c =
    λ name fed h. sizes_missed name c.args.pair c.args.line c.args.shown Blank fed
    (λ bytes at. sym (c.sizes.ensures bytes at) ∙ c.in_default.is) no_byte h

pub returns-in-Err-clause-taken : goal.returns-in-Err-clause-taken
returns-in-Err-clause-taken g c = λ name fed h more.
    let judged = sym c.judged_sizes.ensures.value ∙ c.in-Err.is in
    ends_by c.in-Err.fault _
    (sizes_fault c.args.pair c.args.line c.in-Some.sizes c.in-Err.fault judged)
    (sizes_read name c.args.pair c.args.line c.args.shown c.in-Some.sizes fed
    (λ bytes at. sym (c.sizes.ensures bytes at) ∙ c.in-Some.is) h more
    ∙ sized_by c.args.pair c.args.line c.in-Some.sizes.0 c.in-Some.sizes.1 _
    (Err c.in-Err.fault) judged)

pub returns-in-Ok-new-clause-taken : goal.returns-in-Ok-new-clause-taken
returns-in-Ok-new-clause-taken g c = λ name fed h. (
  c.args.line + 1,
  pairs_of c.in-Ok.jobs c.in-Ok.machines c.args.pair,
  [],
  c.new-in-Ok-new.ensures.fed _ c.in-Ok-new.ensures,
  λ more.
      sizes_read name c.args.pair c.args.line c.args.shown c.in-Some.sizes fed
      (λ bytes at. sym (c.sizes.ensures bytes at) ∙ c.in-Some.is) h more
      ∙ sized_by c.args.pair c.args.line c.in-Some.sizes.0 c.in-Some.sizes.1 _
      (Ok (c.in-Ok.jobs, c.in-Ok.machines)) (sym c.judged_sizes.ensures.value ∙ c.in-Ok.is),
)

-- no memory for the pairs
pub returns-in-Err-new-clause-taken : goal.returns-in-Err-new-clause-taken
returns-in-Err-new-clause-taken g c = λ name fed h more. (
  c.in-Ok.jobs,
  c.in-Ok.machines,
  c.args.pair,
  words_from (c.args.line + 1) (lines more),
  sizes_read name c.args.pair c.args.line c.args.shown c.in-Some.sizes fed
      (λ bytes at. sym (c.sizes.ensures bytes at) ∙ c.in-Some.is) h more
      ∙ sized_by c.args.pair c.args.line c.in-Some.sizes.0 c.in-Some.sizes.1 _
      (Ok (c.in-Ok.jobs, c.in-Ok.machines)) (sym c.judged_sizes.ensures.value ∙ c.in-Ok.is),
)
