-- Jobs with keys are in order where their ranks are.
use Rattle.std.proofs.Common.{◌≡◌, ℕ, ◌+◌, ◌*◌, ◌<◌, ◌≤◌, ◌/◌, ◌%◌, ℤ, pos, ◌+ℤ◌, false, List, length, get_or, take, subst, sym, arith}
use Rattle.std.specs.List.{All}
use Rattle.std.specs.Ordering.{nat_cmp, int_cmp, ordering_then, is_lt}
use Rattle.std.proofs.lemmas.Bool.Decides.{nat_tests}
use Rattle.std.proofs.lemmas.Int.{ints}
use Rattle.std.proofs.lemmas.List.{take_more}
use Rattle.std.proofs.lemmas.List.Elements.{All-push}
use Rattle.tf_check.specs.KeyedJob.{key_cmp}
use Rattle.tf_check.specs.Ranked.{IsBetween, ranked}
use Rattle.tf_check.specs.declared.keyed_job.KeyedJob.{KeyedJob}
use Rattle.tf_check.specs.declared.keyed_job.KeySpan.{KeySpan}

-- the smaller rank is of the smaller key, or of the same key and the smaller number
in_order : (least : ℤ) (qa ra qb rb : ℕ) → ra < 4294967296 → rb < 4294967296
    → qa * 4294967296 + ra ≤ qb * 4294967296 + rb
    → is_lt (ordering_then (int_cmp (least +ℤ pos qb) (least +ℤ pos qa)) (nat_cmp rb ra)) ≡ false
in_order least qa ra qb rb la lb le = grind (arith, nat_tests, ints)

pub not_less : (a b : ℕ) → is_lt (nat_cmp b a) ≡ false → a ≤ b
not_less a b h = grind (arith, nat_tests)

pub pair_in_order : (least : ℤ) (a b : ℕ) → a ≤ b
    → is_lt (key_cmp (ranked least b) (ranked least a)) ≡ false
pair_in_order least a b le =
    in_order least (a / 4294967296) (a % 4294967296) (b / 4294967296) (b % 4294967296) (omega arith)
    (omega arith) (omega (arith, le))

-- ---- keys within a span

-- one more job, where the span is wider
pub between_more : (span wider : KeySpan) (xs : List KeyedJob) (i : ℕ) (x : KeyedJob)
    → i < length xs → x ≡ get_or xs i x → All (λ j. IsBetween span j.key) (take i xs)
    → IsBetween wider x.key
    → ((key : ℤ) → IsBetween span key → IsBetween wider key)
    → All (λ j. IsBetween wider j.key) (take (i + 1) xs)
between_more span wider xs i x lt is all more wide =
    subst (All (λ j. IsBetween wider j.key)) (sym (take_more xs i x lt))
    (All-push (λ j. IsBetween wider j.key) (take i xs) (get_or xs i x)
    (λ k e h. wide (get_or (take i xs) k e).key (all k e h))
    (subst (λ j. IsBetween wider j.key) is more))
