use Rattle.std.proofs.Common.{◌≡◌, sym, subst, ◌∙◌}
use Rattle.tf_read.specs.declared.fault.ReadFault.TheVariants.{OutOfMemory}
use Rattle.tf_words.specs.Words.{lines, words_from}
use Rattle.tf_read.specs.declared.flow_stage.Stage.{Stage}
use Rattle.tf_read.specs.FlowStage.{HasTakenShop}
use Rattle.tf_read.proofs.Each.{fault_of, gives_exactly}
use Rattle.tf_read.proofs.FlowReading.{heading_outcome, sizes_outcome, pairs_outcome, ended_outcome, ends_fault, ends_wanting, pairs_of_words}
use Rattle.tf_read.proofs.flow_stage.Stage.ended.Goals as goal

pub returns-in-Heading-clause-given : goal.returns-in-Heading-clause-given
returns-in-Heading-clause-given g c = λ fed h.
    let taken = subst
    (λ (s : Stage g.row.A.Denot). HasTakenShop c.args.wanted.now.name.now c.args.wanted.now.pair s
    fed) c.in-Heading.is h in
    fault_of c.without_sizes.result _
    (heading_outcome c.args.wanted.now.name.now c.args.wanted.now.pair c.in-Heading.field-0
    c.in-Heading.shown fed c.without_sizes.result
    (c.without_sizes.ensures.fault c.args.wanted.now.pair c.in-Heading.field-0) taken)

pub returns-in-Sizes-clause-given : goal.returns-in-Sizes-clause-given
returns-in-Sizes-clause-given g c = λ fed h.
    let taken = subst
    (λ (s : Stage g.row.A.Denot). HasTakenShop c.args.wanted.now.name.now c.args.wanted.now.pair s
    fed) c.in-Sizes.is h in
    fault_of c.without_pairs.result _
    (sizes_outcome c.args.wanted.now.name.now c.args.wanted.now.pair c.in-Sizes.line
    c.in-Sizes.shown fed c.without_pairs.result c.without_pairs.ensures.fault taken)

pub returns-in-Pairs-clause-given : goal.returns-in-Pairs-clause-given
returns-in-Pairs-clause-given g c = λ fed h.
    let taken = subst
    (λ (s : Stage g.row.A.Denot). HasTakenShop c.args.wanted.now.name.now c.args.wanted.now.pair s
    fed) c.in-Pairs.is h in
    let (first, says, behind, read, same) = taken in
    gives_exactly _ _
    (c.whole.ensures says (words_from first (lines behind))
    (c.ended.ensures first says behind read)
    ∙ sym (pairs_outcome c.args.wanted.now.name.now c.args.wanted.now.pair c.in-Pairs.words fed
    taken))

pub returns-in-Ended-clause-given : goal.returns-in-Ended-clause-given
returns-in-Ended-clause-given g c = λ fed h.
    ends_fault c.in-Ended.fault _
    (ended_outcome c.args.wanted.now.name.now c.args.wanted.now.pair c.in-Ended.fault fed
    (subst (λ (s : Stage g.row.A.Denot). HasTakenShop c.args.wanted.now.name.now
    c.args.wanted.now.pair s fed) c.in-Ended.is h))

pub returns-in-Heading-clause-wants : goal.returns-in-Heading-clause-wants
returns-in-Heading-clause-wants g c = λ fed h wants.
    absurd (c.without_sizes.ensures.memory (let is : c.without_sizes.result ≡ OutOfMemory = cc in is))

pub returns-in-Sizes-clause-wants : goal.returns-in-Sizes-clause-wants
returns-in-Sizes-clause-wants g c = λ fed h wants.
    absurd (c.without_pairs.ensures.memory (let is : c.without_pairs.result ≡ OutOfMemory = cc in is))

pub returns-in-Pairs-clause-wants : goal.returns-in-Pairs-clause-wants
returns-in-Pairs-clause-wants g c = λ fed h wants.
    pairs_of_words c.args.wanted.now.name.now c.args.wanted.now.pair c.in-Pairs.words fed
    (subst (λ (s : Stage g.row.A.Denot). HasTakenShop c.args.wanted.now.name.now
    c.args.wanted.now.pair s fed) c.in-Pairs.is h)

pub returns-in-Ended-clause-wants : goal.returns-in-Ended-clause-wants
returns-in-Ended-clause-wants g c = λ fed h wants.
    ends_wanting c.in-Ended.fault _ (let is : c.in-Ended.fault ≡ OutOfMemory = cc in is)
    (ended_outcome c.args.wanted.now.name.now c.args.wanted.now.pair c.in-Ended.fault fed
    (subst (λ (s : Stage g.row.A.Denot). HasTakenShop c.args.wanted.now.name.now
    c.args.wanted.now.pair s fed) c.in-Ended.is h))
