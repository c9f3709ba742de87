-- Jobs that were sorted by rank are in Johnson's order.
use Rattle.std.proofs.Common.{◌≡◌, ◌≢◌, ℕ, ◌+◌, ◌-◌, ◌*◌, ◌/◌, ◌<◌, ◌≤◌, List, map, length, get_or, sym, ◌∙◌, subst, arith, ⊎_elim}
use Rattle.std.specs.List.{All, AllPairs}
use Rattle.std.specs.List.Sorted.{IsSorted}
use Rattle.std.specs.Ordering.{nat_cmp, is_lt}
use Rattle.std.proofs.lemmas.Cmp.{nat_cmp_total}
use Rattle.std.proofs.lemmas.List.{get_or-map, length-map}
use Rattle.std.proofs.lemmas.List.Sorted.{ranks_by, sorted_far}
use Rattle.std.proofs.lemmas.Bool.{cases_lt}
use Rattle.std.proofs.lemmas.Bool.Decides.{nat_tests}
use Rattle.tf_model.specs.Limit.{limit}
use Rattle.tf_model.specs.SchedulingTask.{SchedulingTask}
use Rattle.tf_check.specs.RatioRank.{job_in}
use Rattle.tf_check.proofs.KeyedJob.{not_less}
use Rattle.tf_multi.specs.FlowShop.{rank_of, IsRanked}
use Rattle.tf_multi.specs.Johnson.{MayPrecede, Precedes, IsJohnsonOrder}
use Rattle.tf_multi.specs.TwoMachines.{time_at}

-- ---- the sort

-- by place, and by number among equals
pub record IsBefore (p q : ℕ) : Type 0 where
  pub place : p / 4294967296 ≤ q / 4294967296
  pub job : p / 4294967296 ≡ q / 4294967296 → job_in p ≤ job_in q

before_from_order : (p q : ℕ) → p ≤ q → IsBefore p q
before_from_order p q le = record {
  place = omega (arith, le);
  job = λ same. omega (arith, le, same);
}

pub ranks_in_order : (rs : List ℕ) → IsSorted nat_cmp rs → AllPairs IsBefore rs
ranks_in_order rs sorted i j d lt h = before_from_order (get_or rs i d) (get_or rs j d)
    (not_less (get_or rs i d) (get_or rs j d)
    (sorted_far (λ x y. is_lt (nat_cmp x y)) (ranks_by nat_cmp_total (λ x. x)) rs sorted i j d
    (omega arith) h))

-- ---- the ranks

pub short_rank : (a b : ℕ) → a ≤ b → rank_of a b ≡ a
short_rank a b le = grind (arith, nat_tests)

pub long_rank : (a b : ℕ) → b < a → rank_of a b ≡ 2 * limit - b
long_rank a b lt = grind (arith, nat_tests)

rising : (a b c d : ℕ) → a + b ≤ limit → c + d ≤ limit → rank_of a b ≤ rank_of c d → c ≤ d
    → (a ≤ b) × (a ≤ c)
rising a b c d small small' le short = ⊎_elim
    (λ lt. absurd (omega (arith, long_rank a b lt, short_rank c d short)))
    (λ ge. (ge, omega (arith, short_rank a b ge, short_rank c d short)))
    (cases_lt b a)

falling : (a b c d : ℕ) → a + b ≤ limit → c + d ≤ limit → rank_of a b ≤ rank_of c d → b < a
    → (d < c) × (d ≤ b)
falling a b c d small small' le long = ⊎_elim
    (λ lt. (lt, omega (arith, long_rank a b long, long_rank c d lt)))
    (λ ge. absurd (omega (arith, long_rank a b long, short_rank c d ge)))
    (cases_lt d c)

-- where the second may come before the first, its rank is no greater
back : (f : ℕ → ℕ → ℕ) (i j : ℕ) → f i 1 + f i 2 ≤ limit → f j 1 + f j 2 ≤ limit
    → MayPrecede f j i → rank_of (f j 1) (f j 2) ≤ rank_of (f i 1) (f i 2)
back f i j small small' may = ⊎_elim
    (λ long. ⊎_elim
    (λ lt. omega (
      arith,
      long_rank (f i 1) (f i 2) long,
      long_rank (f j 1) (f j 2) lt,
      may.falling lt,
    ))
    (λ ge. omega (
      arith,
      small,
      small',
      long_rank (f i 1) (f i 2) long,
      short_rank (f j 1) (f j 2) ge,
    ))
    (cases_lt (f j 2) (f j 1)))
    (λ short. omega (
      arith,
      short_rank (f i 1) (f i 2) short,
      short_rank (f j 1) (f j 2) (may.rising short).0,
      may.rising short,
    ))
    (cases_lt (f i 2) (f i 1))

-- rising ranks are Johnson's order
pub order_from_ranks : (task : SchedulingTask) (rs : List ℕ) → All (IsRanked task) rs
    → AllPairs IsBefore rs → AllPairs (λ i j. i ≢ j) (map job_in rs)
    → AllPairs (Precedes (time_at task)) (map job_in rs)
order_from_ranks task rs ranked pairs apart i j d lt h =
    let in_j : j < length rs = omega (arith, h, length-map rs job_in) in
    let p : ℕ = get_or rs i 0 in
    let q : ℕ = get_or rs j 0 in
    let a : ℕ = job_in p in
    let b : ℕ = job_in q in
    let at_p = ranked i 0 (omega arith) in
    let at_q = ranked j 0 in_j in
    let f : ℕ → ℕ → ℕ = time_at task in
    let before = pairs i j 0 lt in_j in
    let le : rank_of (f a 1) (f a 2) ≤ rank_of (f b 1) (f b 2) =
    omega (arith, before.place, at_p.place, at_q.place) in
    let at_i = sym (get_or-map job_in rs i 0 d (omega arith)) in
    let at_j = sym (get_or-map job_in rs j 0 d in_j) in
    let other : a ≢ b = λ same. apart i j d lt h (sym at_i ∙ same ∙ at_j) in
    let may : MayPrecede f a b = record {
      rising = rising (f a 1) (f a 2) (f b 1) (f b 2) at_p.within at_q.within le;
      falling = falling (f a 1) (f a 2) (f b 1) (f b 2) at_p.within at_q.within le;
    } in
    let precedes : Precedes f a b = record {
      may = may;
      tie = λ turned. smaller a b
          (before.job (omega (
            arith,
            before.place,
            at_p.place,
            at_q.place,
            back f a b at_p.within at_q.within turned,
          )))
          other;
    } in
    subst (λ x. Precedes f x (get_or (map job_in rs) j d)) at_i
    (subst (λ y. Precedes f a y) at_j precedes)
  where
    smaller : (a b : ℕ) → a ≤ b → a ≢ b → a < b
    smaller a b le other = ⊎_elim
        (λ lt. lt)
        (λ ge. absurd (other (omega arith)))
        (cases_lt a b)

-- in the order each job may come before those after it
pub may_in_order : (task : SchedulingTask) (order : List ℕ) → IsJohnsonOrder task order
    → AllPairs (MayPrecede (time_at task)) order
may_in_order task order is i j d lt h = (is.in_order i j d lt h).may
