use Rattle.std.proofs.Common.{Ok, ap, sym, ◌∙◌}
use Rattle.tf_model.proofs.TaskBuilder.{built_sound, built_prepared}
use Rattle.tf_model.proofs.task_builder.TaskBuilder.finish.Goals as goal

pub new-requires : goal.new-requires
new-requires g c =
    let (problem, argument, i, had, same, instance) = c.requires in
    built_sound c.args.self _ _ problem argument i had c.kept_arcs-arcs.ensures same
    (λ rows summed. sym c.if-is_too_large.false ∙ c.is_too_large.ensures rows summed) instance

pub returns : goal.returns
returns g c = λ problem argument i had same.
    built_prepared c.args.self _ _ problem argument i had c.kept_arcs-arcs.ensures same
    (λ rows summed. sym c.if-is_too_large.false ∙ c.is_too_large.ensures rows summed)
    (sym c.is_too_many.ensures ∙ c.if-is_too_many.false)
    ∙ ap Ok (sym c.new.ensures)
