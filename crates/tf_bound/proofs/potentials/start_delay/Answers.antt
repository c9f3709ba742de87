use Rattle.std.proofs.Common.{◌≡◌, ℕ, List, max, map, ap, ◌∙◌}
use Rattle.std.specs.List.{fold, range_with_len}
use Rattle.tf_posed.specs.ProblemData.{problem_job}
use Rattle.tf_bound.specs.Delays.{delay_of, delay_on}
use Rattle.tf_bound.proofs.Routes.{flow_times}
use Rattle.tf_bound.proofs.potentials.start_delay.Goals as goal

pub returns-clause-value : goal.returns-clause-value
returns-clause-value g c =
    let k = c.args.task.now in
    let first : List ℕ = (problem_job k c.args.first).times in
    let second : List ℕ = (problem_job k c.args.second).times in
    c.delay_of.ensures.value
    ∙ ap (λ (xs : List ℕ). delay_of xs c.times-2.result.now) c.times.ensures.value
    ∙ ap (λ (ys : List ℕ). delay_of first ys) c.times-2.ensures.value
    ∙ ap (λ (n : ℕ). fold max 0 (map (delay_on first second) (range_with_len 0 n)))
    (flow_times k c.times.ensures.sized c.requires.flow c.args.first c.requires.first)
