use Rattle.std.proofs.Common.{◌≡◌, ℕ, ℤ, pos, ◌-◌, suc, int_le, get_or, rules, of_calls, w64, to_z, of_z, subst, arith}
use Rattle.std.proofs.lemmas.Int.{to_z-of_z}
use Rattle.std.proofs.lemmas.List.Sorted.{IsPartitionPoint-from_clause}
use Rattle.tf_model.specs.Steps.{Steps}
use Rattle.tf_model.proofs.StepSearch.{IsPoint, cost_parted, base_level, last_level}
use Rattle.tf_model.proofs.cost.level_of.Goals as goal

pub returns-then-come-eq0 : goal.returns-then-come-eq0
returns-then-come-eq0 c =
    let s : Steps = record { base = c.args.base; steps = c.args.steps.now } in
    let point = IsPartitionPoint-from_clause (λ step. int_le step.0 c.args.c) _ _
    c.partition_point-come.ensures.partitioned (cost_parted s c.args.c c.requires.sound)
    (λ a r q k. search (rules, of_calls)) in
    rw (to_z-of_z w64 c.args.base c.ranges.base)
    (base_level s c.args.c c.requires.time
    (subst (λ n. IsPoint c.args.c s.steps n) c.if-come-eq0.true point))

pub returns : goal.returns
returns c =
    let s : Steps = record { base = c.args.base; steps = c.args.steps.now } in
    let come : ℕ = c.partition_point-come.result in
    let point = IsPartitionPoint-from_clause (λ step. int_le step.0 c.args.c) _ _
    c.partition_point-come.ensures.partitioned (cost_parted s c.args.c c.requires.sound)
    (λ a r q k. search (rules, of_calls)) in
    let one : come ≡ suc (come - 1) = omega (arith, c.if-come-eq0.false) in
    let step : ℤ × ℤ = get_or s.steps (come - 1) (pos 0, pos 0) in
    let value : to_z w64 (of_z w64 step.1) ≡ step.1 = search rules in
    let since : to_z w64 (of_z w64 step.0) ≡ step.0 = search rules in
    rw (value, since)
    (last_level s c.args.c (come - 1) (pos 0, pos 0) c.requires.sound
    (omega (arith, c.if-come-eq0.false, c.partition_point-come.ensures.bound))
    (subst (λ n. IsPoint c.args.c s.steps n) one point))
