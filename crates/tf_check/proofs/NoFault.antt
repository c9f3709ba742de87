-- A list of different jobs of the task has no fault.
use Rattle.std.proofs.Common.{◌≡◌, ℕ, ◌+◌, ◌⊎◌, inl, inr, ⊎_elim, List, [], ◌∷◌, ◌++◌, Bool, true, false, not, ◌==◌, cond, nat_lt, nat_le, length, refl, sym, ap, ◌∙◌, arith, count_by, All, Some, None}
use Rattle.std.proofs.lemmas.Bool.{cases_Bool, false≢true, and_from, le-leb, lt-ltb, or_cases, eqb-true, eq-eqb, or_left, or_right}
use Rattle.std.proofs.lemmas.List.Sums.{sum_by-cons}
use Rattle.std.proofs.lemmas.List.Elements.{All-head, All-tail}
use Rattle.tf_model.specs.SchedulingTask.{SchedulingTask, IsJob}
use Rattle.tf_model.specs.Bounds.{stands_in}
use Rattle.tf_model.proofs.Work.{IsDistinct}
use Rattle.tf_check.specs.Bound.{is_job, list_fault}
use Rattle.tf_check.specs.declared.fault.BoundFault.TheVariants.{BadJob, Repeated}

abbrev as_one : Bool → ℕ
as_one b = cond b 1 0

-- no job that was seen is in the list
abbrev pub Apart : List ℕ → List ℕ → Type 0
Apart seen jobs = (c : ℕ) → stands_in seen c ≡ true → count_by (λ j. c == j) jobs ≡ 0

apart_from_itself : (seen : List ℕ) (j : ℕ) (jobs : List ℕ) → Apart seen (j ∷ jobs)
    → stands_in seen j ≡ false
apart_from_itself seen j jobs apart = ⊎_elim
    (λ yes. absurd (omega (
      arith,
      apart j yes,
      sum_by-cons (λ i. as_one (j == i)) j jobs,
      ap as_one
          (eq-eqb j j refl),
    )))
    (λ no. no)
    (cases_Bool (stands_in seen j))

stands_in_push : (seen : List ℕ) (j c : ℕ) → stands_in (seen ++ j ∷ []) c ≡ true
    → (stands_in seen c ≡ true) ⊎ (c ≡ j)
stands_in_push [] j c e =
    ⊎_elim (λ here. inr (sym (eqb-true j c here))) (λ later. absurd (false≢true later))
    (or_cases (j == c) false e)
stands_in_push (x ∷ seen) j c e = ⊎_elim
    (λ here. inl (or_left (x == c) (stands_in seen c) here))
    (λ later. ⊎_elim (λ before. inl (or_right (x == c) (stands_in seen c) before))
    (λ last. inr last) (stands_in_push seen j c later))
    (or_cases (x == c) (stands_in (seen ++ j ∷ []) c) e)

list_fault_none_step : (k : SchedulingTask) (seen : List ℕ) (j : ℕ) (jobs : List ℕ)
    → is_job k j ≡ true → stands_in seen j ≡ false → list_fault k (seen ++ j ∷ []) jobs ≡ None
    → list_fault k seen (j ∷ jobs) ≡ None
list_fault_none_step k seen j jobs is_one fresh rest =
    ap (λ b. cond (not b) (Some (BadJob j))
    (cond (stands_in seen j) (Some (Repeated j)) (list_fault k (seen ++ j ∷ []) jobs))) is_one
    ∙ ap (λ b. cond b (Some (Repeated j)) (list_fault k (seen ++ j ∷ []) jobs)) fresh
    ∙ rest

-- none that was seen before is in the list
pub list_fault_none : (k : SchedulingTask) (seen jobs : List ℕ) → All (IsJob k) jobs
    → IsDistinct jobs → Apart seen jobs → list_fault k seen jobs ≡ None
list_fault_none k seen [] in' distinct apart = refl
list_fault_none k seen (j ∷ jobs) in' distinct apart =
    let job : IsJob k j = All-head (IsJob k) j jobs in' in
    let is_one : is_job k j ≡ true =
    and_from (nat_lt 0 j) (nat_le j (length k.jobs)) (lt-ltb 0 j job.0)
    (le-leb j (length k.jobs) job.1) in
    let counted : (c : ℕ) → count_by (λ i. c == i) (j ∷ jobs)
    ≡ as_one (c == j) + count_by (λ i. c == i) jobs =
    λ c. sum_by-cons (λ i. as_one (c == i)) j jobs in
    list_fault_none_step k seen j jobs is_one (apart_from_itself seen j jobs apart)
    (list_fault_none k (seen ++ j ∷ []) jobs (All-tail (IsJob k) j jobs in')
    (λ c. omega (arith, distinct c, counted c))
    (λ c e. ⊎_elim
    (λ before. omega (arith, apart c before, counted c))
    (λ last. omega (arith, distinct c, counted c, ap as_one (eq-eqb c j last)))
    (stands_in_push seen j c e)))

-- from the start of the list
pub no_list_fault : (k : SchedulingTask) (jobs : List ℕ) → All (IsJob k) jobs → IsDistinct jobs
    → list_fault k [] jobs ≡ None
no_list_fault k jobs in' distinct =
    list_fault_none k [] jobs in' distinct (λ c e. absurd (false≢true e))
