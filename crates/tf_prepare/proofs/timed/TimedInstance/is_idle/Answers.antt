use Rattle.std.proofs.Common.{◌≡◌, ℕ, List, Option, Some, ◌==◌, sym, ap, ◌∙◌}
use Rattle.std.specs.Prelude.{slice_index}
use Rattle.std.specs.List.{list_all}
use Rattle.std.specs.Option.{option_map}
use Rattle.std.proofs.lemmas.List.Folds.{list_all-map}
use Rattle.tf_model.specs.JobFields.{JobFields}
use Rattle.tf_prepare.specs.TimedData.{TimedData}
use Rattle.tf_prepare.specs.Preparing.{times_in, is_idle}
use Rattle.tf_prepare.proofs.timed.TimedInstance.is_idle.Goals as goal

-- no time on any machine
idle_at : (by : Option (List (List ℕ))) (machines : List (List ℕ)) (place : ℕ) (job : JobFields)
    → by ≡ Some machines
    → list_all (λ (times : List ℕ). slice_index times place == 0) machines
    ≡ is_idle (times_in by place job)
idle_at by machines place job is =
    sym (list_all-map (λ (time : ℕ). time == 0) (λ (times : List ℕ). slice_index times place)
    machines)
    ∙ ap (λ (x : Option (List (List ℕ))). is_idle (times_in x place job)) (sym is)

pub returns-in-Some : goal.returns-in-Some
returns-in-Some g c =
    c.is_idle_at.ensures
    ∙ ap (list_all (λ (times : List ℕ). slice_index times c.args.place == 0))
    c.deref.ensures.value
    ∙ idle_at c.args.self.now.by_machine c.in-Some.machines.items c.args.place c.args.job.now
    (sym (ap (λ (t : TimedData). t.by_machine) c.self.view_is)
    ∙ ap (option_map (λ machines. machines.items)) c.in-Some.is)
