use Rattle.std.proofs.Common.{◌≡◌, ℕ, ◌+◌, ◌-◌, List, length, take, drop, Option, sym, subst, rules}
use Rattle.std.proofs.Math.Seq.{take-add}
use Rattle.std.proofs.lemmas.List.{take_rest}
use Rattle.std.specs.Io.KnownBytes.{Appends}
use Rattle.std.proofs.KnownBytes.{Appends-trans}
use Rattle.tf_text.proofs.counted.Counted.push_all.Goals as goal

-- the next n bytes were written after the first `at`
written_more : (a b c : Option (List ℕ)) (bs : List ℕ) (at n : ℕ) → Appends a b (take at bs)
    → Appends b c (take n (take (length bs - at) (drop at bs))) → Appends a c (take (at + n) bs)
written_more a b c bs at n first next =
    let rest : take (length bs - at) (drop at bs) ≡ drop at bs = take_rest bs at in
    let both = Appends-trans a b c _ _ first
    (subst (λ (l : List ℕ). Appends b c (take n l)) rest next) in
    subst (Appends a c) (sym (take-add at n bs)) both

pub loop-at-preserved : goal.loop-at-preserved
loop-at-preserved g c = record {
  within = search rules;
  unfailed = search rules;
  written = written_more _ _ _ _ _ _ c.loop-at.invariant.written c.in-Ok.ensures.bytes;
}
