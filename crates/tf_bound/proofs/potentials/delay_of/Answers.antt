use Rattle.std.proofs.Common.{◌≡◌, ℕ, ◌+◌, ◌-◌, List, max, map, slice_index, ap, ◌∙◌, arith, rules}
use Rattle.std.specs.List.{fold, range_with_len}
use Rattle.std.proofs.lemmas.List.FromFn.{map-range_with_len_more}
use Rattle.std.proofs.lemmas.List.Sums.{fold_push}
use Rattle.tf_model.proofs.Ranges.{sum_by-range_more}
use Rattle.tf_bound.specs.Delays.{delay_on}
use Rattle.tf_bound.proofs.potentials.delay_of.Goals as goal

-- one machine more
greatest-more : (f : ℕ → ℕ) (n : ℕ)
    → fold max 0 (map f (range_with_len 0 (n + 1)))
    ≡ max (fold max 0 (map f (range_with_len 0 n))) (f n)
greatest-more f n =
    ap (fold max 0) (map-range_with_len_more f 0 n n (none n))
    ∙ fold_push max 0 (map f (range_with_len 0 n)) (f n)
  where
    none : (n : ℕ) → 0 + n ≡ n
    none n = omega arith

pub loop-machine-preserved : goal.loop-machine-preserved
loop-machine-preserved c =
    let first : List ℕ = c.args.first.now in
    let second : List ℕ = c.args.second.now in
    let n : ℕ = c.loop-machine.machine in
    let place : 0 + n ≡ n = omega arith in
    let ended = sum_by-range_more (slice_index first) 0 n in
    let begun = sum_by-range_more (slice_index second) 0 n in
    record {
      ended = omega (
        arith,
        c.loop-machine.invariant.ended,
        c.from-ended.ensures,
        ended,
        ap (slice_index first) place,
      );
      begun = omega (
        arith,
        c.loop-machine.invariant.begun,
        c.from-begun.ensures,
        begun,
        ap (slice_index second) place,
      );
      delay = omega (
        arith,
        c.loop-machine.invariant.delay,
        c.loop-machine.invariant.ended,
        c.loop-machine.invariant.begun,
        c.from-ended.ensures,
        c.saturating_sub.ensures,
        c.max-delay.ensures,
        ended,
        ap (slice_index first) place,
        greatest-more (delay_on first second) n,
      );
      ended_small = search rules;
      begun_small = search rules;
      small = search rules;
    }
