use Rattle.std.proofs.Common.{◌≡◌, ℕ, [], refl, subst, sym, ◌∙◌, arith, rules}
use Rattle.tf_read.specs.Numbers.{ReadsTardiness}
use Rattle.tf_read.specs.WeightedTardiness.{instance_of}
use Rattle.tf_read.proofs.weighted_tardiness.WtReader.new.Goals as goal

pub returns-in-Some-clause-given : goal.returns-in-Some-clause-given
returns-in-Some-clause-given g c =
    c.before-in-Some.ensures c.args.jobs c.args.index (sym c.refusal.ensures ∙ c.in-Some.is)

pub before-requires-in-None : goal.before-requires-in-None
before-requires-in-None g c = omega (arith, c.new-in-None.ensures.line)

pub returns-in_ok-numbers-in-None-clause-given : goal.returns-in_ok-numbers-in-None-clause-given
returns-in_ok-numbers-in-None-clause-given g c =
    let n = c.from.result in
    let k = c.from-in-None.result in
    let is_n : n ≡ c.args.jobs = search rules in
    let is_k : k ≡ c.args.index = search rules in
    let reads =
    subst (λ (m : ℕ). ReadsTardiness c.in_ok-numbers-in-None.numbers (instance_of m c.args.index) []) is_n
    (subst (λ (m : ℕ). ReadsTardiness c.in_ok-numbers-in-None.numbers (instance_of n m) []) is_k
    c.in_ok-numbers-in-None.ensures) in
    c.before-in-None.ensures c.args.jobs c.args.index
    (sym c.refusal.ensures ∙ c.in-None.is, c.new-in-None.ensures.fed _ reads)

pub returns-in_ok-numbers-in-None-clause-no_room : goal.returns-in_ok-numbers-in-None-clause-no_room
returns-in_ok-numbers-in-None-clause-no_room g c = λ some. refl
