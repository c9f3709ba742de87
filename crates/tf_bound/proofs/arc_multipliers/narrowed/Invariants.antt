use Rattle.std.proofs.Common.{◌≡◌, ◌^◌, false, All, nat_le, take}
use Rattle.tf_bound.proofs.arc_multipliers.narrowed.Given as goal

abbrev pub invariant-loop-number : goal.invariant-loop-number
invariant-loop-number g l = record {
  items : l.narrow.items ≡ take l.number-index l.numbers;
  few : All (λ x. nat_le (2 ^ 64) x ≡ false) (take l.number-index l.numbers);
}
