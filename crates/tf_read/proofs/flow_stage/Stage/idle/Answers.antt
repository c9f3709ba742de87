use Rattle.std.proofs.Common.{◌≡◌, ℕ, ◌++◌, take, sym, ap, ◌∙◌, subst}
use Rattle.tf_words.proofs.Lines.{before_feed}
use Rattle.tf_read.specs.declared.flow_stage.Stage.{Stage}
use Rattle.tf_read.specs.declared.flow_stage.Stage.TheVariants.{Heading, Sizes}
use Rattle.tf_read.specs.declared.heading.HeadingLine.TheVariants as heading
use Rattle.tf_read.specs.declared.sizes.SizesLine.TheVariants as sizes
use Rattle.tf_read.specs.PresentLine.{AreOfLine}
use Rattle.tf_read.specs.FlowStage.{HasTakenShop}
use Rattle.tf_read.proofs.FlowReading.{heading_idle, sizes_idle}
use Rattle.tf_read.proofs.flow_stage.Stage.idle.Goals as goal

pub returns-in-Other-clause-taken : goal.returns-in-Other-clause-taken
returns-in-Other-clause-taken g c = λ name pair fed h.
    let place = c.in-Heading in
    let whole : c.args.self.now ≡ Heading place.field-0 heading.Other =
    place.is ∙ ap (Heading place.field-0) c.in-Other.is in
    let own : AreOfLine (take c.line_len.result c.args.piece.now) =
    subst (λ (n : ℕ). AreOfLine (take n c.args.piece.now)) (sym c.line_len.ensures.place)
    (before_feed c.args.piece.now) in
    subst (λ (s : Stage g.row.A.Denot). HasTakenShop name pair s
    (fed ++ take c.line_len.result c.args.piece.now)) (sym whole)
    (heading_idle name pair place.field-0 fed _ own
    (subst (λ (s : Stage g.row.A.Denot). HasTakenShop name pair s fed) whole h))

pub returns-in-Other-shown-clause-taken : goal.returns-in-Other-shown-clause-taken
returns-in-Other-shown-clause-taken g c = λ name pair fed h.
    let place = c.in-Sizes in
    let len = c.line_len-in-Other-shown in
    let whole : c.args.self.now ≡ Sizes place.field-0 sizes.Other =
    place.is ∙ ap (Sizes place.field-0) c.in-Other-shown.is in
    let own : AreOfLine (take len.result c.args.piece.now) =
    subst (λ (n : ℕ). AreOfLine (take n c.args.piece.now)) (sym len.ensures.place)
    (before_feed c.args.piece.now) in
    subst (λ (s : Stage g.row.A.Denot). HasTakenShop name pair s
    (fed ++ take len.result c.args.piece.now)) (sym whole)
    (sizes_idle name pair place.field-0 fed _ own
    (subst (λ (s : Stage g.row.A.Denot). HasTakenShop name pair s fed) whole h))
