-- The leader of the jobs so far, and of one job more.
use Rattle.std.proofs.Common.{◌≡◌, ◌⊎◌, ℕ, ◌+◌, ◌<◌, ◌≤◌, min, true, false, length, subst, sym, arith, inl, inr}
use Rattle.std.proofs.lemmas.Bool.{cases_lt}
use Rattle.std.proofs.lemmas.Bool.Decides.{nat_tests}
use Rattle.tf_model.specs.SchedulingTask.{SchedulingTask}
use Rattle.tf_multi.specs.TwoMachines.{time_at}
use Rattle.tf_multi.specs.OpenShop.{lesser_time, goes_ahead, IsLeader}

-- the job leads the jobs 1 to n
pub record IsLeaderOf (task : SchedulingTask) (n r : ℕ) : Type 0 where
  pub from_one : 0 < r
  pub seen : r ≤ n
  pub most : (j : ℕ) → 1 ≤ j → j ≤ n → lesser_time task j ≤ lesser_time task r
  pub early : (j : ℕ) → 1 ≤ j → j ≤ n → lesser_time task j ≡ lesser_time task r
      → time_at task j 1 ≤ time_at task j 2 → time_at task r 1 ≤ time_at task r 2
  pub first : (j : ℕ) → 1 ≤ j → j ≤ n → j < r → lesser_time task j ≡ lesser_time task r
      → (time_at task j 2 < time_at task j 1) × (time_at task r 1 ≤ time_at task r 2)

-- what the test says
abbrev Leads : ℕ → ℕ → ℕ → ℕ → Type 0
Leads a b c d = (min c d < min a b) ⊎ ((min a b ≡ min c d) × (a ≤ b) × (d < c))

ahead_says : (a b c d : ℕ) → goes_ahead a b c d ≡ true → Leads a b c d
ahead_says a b c d h = elim (cases_lt (min c d) (min a b)) [
  | inl lt ↦ inl lt
  | inr le ↦ inr (grind (arith, nat_tests), grind (arith, nat_tests), grind (arith, nat_tests))
]

behind_says : (a b c d : ℕ) → goes_ahead a b c d ≡ false
    → (min a b ≤ min c d) × (min a b ≡ min c d → a ≤ b → c ≤ d)
behind_says a b c d h = (grind (arith, nat_tests), λ same le. grind (arith, nat_tests))

module _ (task : SchedulingTask) where
  -- one job
  pub first_leader : (r : ℕ) → r ≡ 1 → IsLeaderOf task 1 r
  first_leader r is =
      let same : (j : ℕ) → 1 ≤ j → j ≤ 1 → j ≡ r = λ j low high. omega (arith, is, low, high) in
      record {
        from_one = omega (arith, is);
        seen = omega (arith, is);
        most = λ j low high. subst (λ i. lesser_time task j ≤ lesser_time task i)
            (same j low high) (omega arith);
        early = λ j low high equal le.
            subst (λ i. time_at task i 1 ≤ time_at task i 2) (same j low high) le;
        first = λ j low high lt. absurd (omega (arith, low, lt, is));
      }

  module _ (n r b : ℕ) (is : b ≡ n + 1) (had : IsLeaderOf task n r) where
    -- the next job leads
    pub leader_taken : goes_ahead (time_at task b 1) (time_at task b 2) (time_at task r 1)
        (time_at task r 2) ≡ true → IsLeaderOf task (n + 1) b
    leader_taken test =
        let says = ahead_says (time_at task b 1) (time_at task b 2) (time_at task r 1)
        (time_at task r 2) test in
        record {
          from_one = omega (arith, is);
          seen = omega (arith, is);
          most = λ j low high. elim (cases_lt j b) [
            | inl lt ↦ elim says [
              | inl more ↦ omega (arith, had.most j low (omega (arith, lt, is)), more)
              | inr same ↦ omega (arith, had.most j low (omega (arith, lt, is)), same.0)
            ]
            | inr ge ↦ let here : j ≡ b = omega (arith, ge, high, is) in
                subst (λ i. lesser_time task i ≤ lesser_time task b) (sym here) (omega arith)
          ];
          early = λ j low high equal le. elim (cases_lt j b) [
            | inl lt ↦ elim says [
              | inl more ↦
                  absurd (omega (arith, had.most j low (omega (arith, lt, is)), more, equal))
              | inr same ↦ same.1
            ]
            | inr ge ↦ let here : j ≡ b = omega (arith, ge, high, is) in
                subst (λ i. time_at task i 1 ≤ time_at task i 2) here le
          ];
          first = λ j low high lt equal. elim says [
            | inl more ↦
                absurd (omega (arith, had.most j low (omega (arith, lt, is)), more, equal))
            | inr same ↦ elim (cases_lt (time_at task j 2) (time_at task j 1)) [
              | inl late ↦ (late, same.1)
              | inr early ↦
                  absurd (omega (
                    arith,
                    had.early j low (omega (arith, lt, is))
                        (let e : lesser_time task j ≡ lesser_time task r =
                        omega (arith, equal, same.0) in e) early,
                    same.2,
                  ))
            ]
          ];
        }

    -- the leader goes on leading
    pub leader_kept : goes_ahead (time_at task b 1) (time_at task b 2) (time_at task r 1)
        (time_at task r 2) ≡ false → IsLeaderOf task (n + 1) r
    leader_kept test =
        let says = behind_says (time_at task b 1) (time_at task b 2) (time_at task r 1)
        (time_at task r 2) test in
        record {
          from_one = had.from_one;
          seen = omega (arith, had.seen);
          most = λ j low high. elim (cases_lt j b) [
            | inl lt ↦ had.most j low (omega (arith, lt, is))
            | inr ge ↦ let here : j ≡ b = omega (arith, ge, high, is) in
                subst (λ i. lesser_time task i ≤ lesser_time task r) (sym here) says.0
          ];
          early = λ j low high equal le. elim (cases_lt j b) [
            | inl lt ↦ had.early j low (omega (arith, lt, is)) equal le
            | inr ge ↦ let here : j ≡ b = omega (arith, ge, high, is) in
                says.1 (subst (λ i. lesser_time task i ≡ lesser_time task r) here equal)
                (subst (λ i. time_at task i 1 ≤ time_at task i 2) here le)
          ];
          first = λ j low high lt. had.first j low (omega (arith, lt, had.seen)) lt;
        }

  -- of all jobs
  pub leader_of_all : (n r : ℕ) → n ≡ length task.jobs → IsLeaderOf task n r → IsLeader task r
  leader_of_all n r is had = record {
    job = (omega (arith, had.from_one), omega (arith, had.seen, is));
    most = λ j job. had.most j job.0 (omega (arith, job.1, is));
    early = λ j job. had.early j job.0 (omega (arith, job.1, is));
    first = λ j job. had.first j job.0 (omega (arith, job.1, is));
  }
