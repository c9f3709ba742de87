-- Jobs of a side by marks: what is said of them depends on the marks alone.
use Rattle.std.proofs.Common.{◌≡◌, ℕ, ◌+◌, ◌-◌, Bool, true, false, not, ◌&&◌, ◌||◌, nat_le, cond, List, [], ◌∷◌, Some, None, option_map, pos, ◌+ℤ◌, ◌-ℤ◌, All, refl, ap, ◌∙◌, arith}
use Rattle.std.specs.List.{find, list_any}
use Rattle.std.specs.Option.{option_or}
use Rattle.std.proofs.lemmas.List.Elements.{All-tail}
use Rattle.tf_model.proofs.Sums.{sum_by-same_all}
use Rattle.tf_check.specs.Bound.{least_number, least}
use Rattle.tf_posed.specs.ProblemData.{ProblemData, IsProblemJob, problem_jobs, problem_time_on, problem_due}
use Rattle.tf_problem.specs.ProblemBounds.{head, tail}
use Rattle.tf_problem.specs.Split.{reaches, reaches_delta, counts_less, keeps_side, counted, split_value}
use Rattle.tf_posed.proofs.Conditions.{All-problem_jobs}
use Rattle.tf_bound.specs.Faulted.{first_job, delta_fault, sides_fault}
use Rattle.tf_bound.specs.declared.fault.BoundFault.TheVariants.{BadDelta, Condition}

find_same : (p q : ℕ → Bool) (xs : List ℕ) → All (λ j. p j ≡ q j) xs → find p xs ≡ find q xs
find_same p q [] same = refl
find_same p q (x ∷ xs) same =
    ap (λ t. cond t (Some x) (find p xs)) (same 0 x (omega arith))
    ∙ ap (λ o. cond (q x) (Some x) o) (find_same p q xs (All-tail (λ j. p j ≡ q j) x xs same))

any_same : (p q : ℕ → Bool) (xs : List ℕ) → All (λ j. p j ≡ q j) xs → list_any p xs ≡ list_any q xs
any_same p q [] same = refl
any_same p q (x ∷ xs) same =
    ap (λ t. t || list_any p xs) (same 0 x (omega arith))
    ∙ ap (λ t. q x || t) (any_same p q xs (All-tail (λ j. p j ≡ q j) x xs same))

module _ (k : ProblemData) (a b delta : ℕ) (s t : ℕ → Bool) where
  pub reaches_same : (first : Bool) (j : ℕ) → s j ≡ t j
      → reaches_delta k a b s delta first j ≡ reaches_delta k a b t delta first j
  reaches_same true j e = ap (λ v. not v && reaches k a b a delta j) e
  reaches_same false j e = ap (λ v. v && reaches k a b b delta j) e

  pub keeps_same : (first : Bool) (j : ℕ) → s j ≡ t j
      → keeps_side k a b s delta first j ≡ keeps_side k a b t delta first j
  keeps_same first j e =
      ap (λ v. v || counts_less k a b s j) (reaches_same first j e)
      ∙ ap (λ v. reaches_delta k a b t delta first j || cond v (nat_le (problem_time_on k j a) (problem_time_on k j b)) (nat_le (problem_time_on k j b) (problem_time_on k j a))) e

  pub counted_same : (j : ℕ) → s j ≡ t j → counted k a b s j ≡ counted k a b t j
  counted_same j e = ap (λ v. cond v (problem_time_on k j a) (problem_time_on k j b)) e

  pub fault_same : (first : Bool) → ((j : ℕ) → IsProblemJob k j → s j ≡ t j)
      → sides_fault k a b s delta first ≡ sides_fault k a b t delta first
  fault_same first same =
      let off : ((ℕ → Bool) → ℕ → Bool) = λ side j. not (keeps_side k a b side delta first j) in
      ap (λ o. option_or (option_map Condition o) (delta_fault k a b s delta first))
      (find_same (off s) (off t) (problem_jobs k)
      (All-problem_jobs k (λ j. off s j ≡ off t j) (λ j job. ap not (keeps_same first j (same j job)))))
      ∙ ap (λ v. option_or (first_job k (off t)) (cond v None (Some BadDelta)))
      (any_same (reaches_delta k a b s delta first) (reaches_delta k a b t delta first) (problem_jobs k)
      (All-problem_jobs k (λ j. reaches_delta k a b s delta first j ≡ reaches_delta k a b t delta first j)
      (λ j job. reaches_same first j (same j job))))

  pub value_same : ((j : ℕ) → IsProblemJob k j → s j ≡ t j)
      → split_value k a b s delta ≡ split_value k a b t delta
  value_same same =
      ap (λ n. pos (least_number (head k a) (problem_jobs k) + n + delta)
      +ℤ least (λ j. pos (tail k b j) -ℤ problem_due k j) (problem_jobs k))
      (sum_by-same_all (counted k a b s) (counted k a b t) (problem_jobs k)
      (All-problem_jobs k (λ j. counted k a b s j ≡ counted k a b t j)
      (λ j job. counted_same j (same j job))))
