use Rattle.std.proofs.Common.{◌≡◌, ◌+◌, ◌-◌, ◌*◌, ◌%◌, ◌≤◌, length, sym, subst, arith, rules, to_z, of_z, w64, Ok, ℤ, pos, ◌≤ℤ◌}
use Rattle.std.proofs.lemmas.Int.{ints}
use Rattle.tf_read.specs.Faults.{integer}
use Rattle.tf_read.specs.Numbers.{skipped, tardiness_wanted, with_number, AreInRange}
use Rattle.tf_read.proofs.Judged.{integer_within}
use Rattle.tf_read.proofs.OneInstance.{number_kept, natural_anywhere, signed_late}
use Rattle.tf_read.proofs.numbers.Numbers.number.Goals as goal

pub returns-then-value-ge0-clause-in_range : goal.returns-then-value-ge0-clause-in_range
returns-then-value-ge0-clause-in_range g c =
    let p = c.args.self.now in
    let kept = c.self.invariant in
    let value = c.in_ok-value.value in
    let own : tardiness_wanted p ≡ skipped p + 3 * p.jobs =
    rw (← c.self.view_is) (omega (arith, kept.own, kept.before, kept.up_to)) in
    let tally : length p.numbers ≡ p.count - skipped p =
    rw (← c.self.view_is) (omega (arith, kept.tally, kept.before, c.self.inside.numbers.ok.0)) in
    let all : AreInRange p.jobs p.numbers = rw (← c.self.view_is) kept.in_range in
    let same : to_z w64 (of_z w64 value) ≡ value = search rules in
    let read : integer c.args.line c.args.number ≡ Ok value = sym c.in_ok-value.ensures in
    let some : pos 0 ≤ℤ value = omega (arith, ints, same, c.if-value-ge0.true) in
    subst (λ (z : ℤ). AreInRange p.jobs (with_number p z).numbers) (sym same)
    (number_kept p c.args.line c.args.number (Ok value) c.requires.in_range
    c.requires.wanted own tally all
    (natural_anywhere p.jobs p.count c.args.line c.args.number value
    (integer_within c.args.line c.args.number value read) some))

pub returns-clause-in_range : goal.returns-clause-in_range
returns-clause-in_range g c =
    let p = c.args.self.now in
    let kept = c.self.invariant in
    let value = c.in_ok-value.value in
    let own : tardiness_wanted p ≡ skipped p + 3 * p.jobs =
    rw (← c.self.view_is) (omega (arith, kept.own, kept.before, kept.up_to)) in
    let tally : length p.numbers ≡ p.count - skipped p =
    rw (← c.self.view_is) (omega (arith, kept.tally, kept.before, c.self.inside.numbers.ok.0)) in
    let all : AreInRange p.jobs p.numbers = rw (← c.self.view_is) kept.in_range in
    let same : to_z w64 (of_z w64 value) ≡ value = search rules in
    let read : integer c.args.line c.args.number ≡ Ok value = sym c.in_ok-value.ensures in
    let late : 2 * p.jobs ≤ p.count % (3 * p.jobs) = rw (← c.self.view_is) c.if-self-jobs.false in
    subst (λ (z : ℤ). AreInRange p.jobs (with_number p z).numbers) (sym same)
    (number_kept p c.args.line c.args.number (Ok value) c.requires.in_range
    c.requires.wanted own tally all
    (signed_late p.jobs p.count c.args.line c.args.number value read late))
