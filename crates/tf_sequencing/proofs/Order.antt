-- Any two jobs compare by a rule, and the numbers of jobs that it leaves equal decide.
use Rattle.std.proofs.Common.{◌≡◌, ℕ, suc, ◌*◌, ◌<◌, ◌≤◌, Bool, true, false, not, ◌&&◌, ◌||◌, ltb, List, length, get_or, refl, arith, inl, inr, mul-le-mul_right}
use Rattle.std.specs.Cmp.{IsStrictWeakOrder}
use Rattle.std.specs.List.Sorted.{IsSortedBy}
use Rattle.std.proofs.lemmas.Bool.{cases_lt}
use Rattle.std.proofs.lemmas.Int.{ints}
use Rattle.std.proofs.lemmas.Bool.Decides.{nat_tests}
use Rattle.std.proofs.lemmas.List.Sorted.{sorted_far, IsStrictWeakOrder-by_number, IsStrictWeakOrder-flip}
use Rattle.tf_sequencing.specs.declared.rule.Rule.{Rule}
use Rattle.tf_sequencing.specs.declared.rule.Rule.TheVariants.{Edd, Spt, Lpt, Wspt, Erd}
use Rattle.tf_sequencing.specs.declared.ruled_job.RuledJob.{RuledJob}
use Rattle.tf_sequencing.specs.Rules.{IsByRule, comes_before}
use Rattle.tf_sequencing.specs.GoesBefore.{goes_before}

-- a/p is at most b/q, and that at most c/r
ratios : (a p b q c r : ℕ) → 1 ≤ q → a * q ≤ b * p → b * r ≤ c * q → a * r ≤ c * p
ratios a p b q c r some le le' = elim (cases_lt (c * p) (a * r)) [
  | inl more ↦
      let up : a * q * r ≤ b * p * r = mul-le-mul_right r le in
      let on : b * r * p ≤ c * q * p = mul-le-mul_right p le' in
      let over : suc (c * p) * q ≤ a * r * q = mul-le-mul_right q more in
      absurd (omega arith)
  | inr done ↦ done
]

by_ratio : IsStrictWeakOrder (comes_before Wspt)
by_ratio = record {
  one_way = λ x y h. grind (arith, nat_tests);
  chain = λ x y z h h'.
      let first : x.weight * y.time ≤ y.weight * x.time = grind (arith, nat_tests) in
      let second : y.weight * z.time ≤ z.weight * y.time = grind (arith, nat_tests) in
      let both = ratios x.weight x.time y.weight y.time z.weight z.time y.worked first second in
      grind (arith, nat_tests);
}

by_due : IsStrictWeakOrder (comes_before Edd)
by_due = record {
  one_way = λ x y h. grind (arith, ints);
  chain = λ x y z h h'. grind (arith, ints);
}

by_rule : (rule : Rule) → IsStrictWeakOrder (comes_before rule)
by_rule Edd = by_due
by_rule Spt = IsStrictWeakOrder-by_number (λ x. x.time)
by_rule Lpt = IsStrictWeakOrder-flip (comes_before Spt) (IsStrictWeakOrder-by_number (λ x. x.time))
by_rule Wspt = by_ratio
by_rule Erd = IsStrictWeakOrder-by_number (λ x. x.release)

-- a test with numbers on plain values: b and c are the test both ways, i and j the jobs
abbrev pub test : Bool → Bool → ℕ → ℕ → Bool
test b c i j = b || (not c && ltb i j)

test_one_way : (b c : Bool) (i j : ℕ) → (b ≡ true → c ≡ false) → test b c i j ≡ true
    → test c b j i ≡ false
test_one_way true c i j one h = rw (one refl) refl
test_one_way false true i j one h = cc
test_one_way false false i j one h = grind (arith, nat_tests)

test_no : (b c : Bool) (i j : ℕ) → test b c i j ≡ false → (b ≡ false) × (c ≡ false → j ≤ i)
test_no true c i j h = cc
test_no false true i j h = (refl, λ e. cc)
test_no false false i j h = (refl, λ e. grind (arith, nat_tests))

no_test : (b c : Bool) (i j : ℕ) → b ≡ false → (c ≡ false → j ≤ i) → test b c i j ≡ false
no_test true c i j front tie = cc
no_test false true i j front tie = refl
no_test false false i j front tie = let le : j ≤ i = tie refl in grind (arith, nat_tests)

pub rule_order : (rule : Rule) → IsStrictWeakOrder (goes_before rule)
rule_order rule = record {
  one_way = λ x y h.
      test_one_way (comes_before rule x y) (comes_before rule y x) x.job y.job
      ((by_rule rule).one_way x y) h;
  chain = λ x y z h h'.
      let o = by_rule rule in
      let first = test_no (comes_before rule x y) (comes_before rule y x) x.job y.job h in
      let second = test_no (comes_before rule y z) (comes_before rule z y) y.job z.job h' in
      no_test (comes_before rule x z) (comes_before rule z x) x.job z.job
      (o.chain x y z first.0 second.0)
      (λ e.
      let back : comes_before rule z y ≡ false = o.chain z x y e first.0 in
      let front : comes_before rule y x ≡ false = o.chain y z x second.0 e in
      omega (arith, first.1 front, second.1 back));
}

pub sorted_by_rule : (rule : Rule) (xs : List RuledJob) → IsSortedBy (goes_before rule) xs
    → IsByRule rule xs
sorted_by_rule rule xs sorted = record {
  rises = λ i j d lt in'. (says i j d lt in').0;
  ties = λ i j d lt in'. (says i j d lt in').1;
}
  where
    says : (i j : ℕ) (d : RuledJob) → i < j → j < length xs
        → (comes_before rule (get_or xs j d) (get_or xs i d) ≡ false)
        × (comes_before rule (get_or xs i d) (get_or xs j d) ≡ false → (get_or xs i d).job ≤ (get_or xs j d).job)
    says i j d lt in' =
        let x : RuledJob = get_or xs i d in
        let y : RuledJob = get_or xs j d in
        test_no (comes_before rule y x) (comes_before rule x y) y.job x.job
        (sorted_far (goes_before rule) (rule_order rule) xs sorted i j d (omega arith) in')
