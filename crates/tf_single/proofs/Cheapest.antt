-- The cheapest of the first jobs of a list, and with one job more.
use Rattle.std.proofs.Common.{◌≡◌, Bool, true, false, ℕ, ◌+◌, ◌<◌, ◌≤◌, ℤ, ◌≤ℤ◌, List, length, get_or, set, slice_index, get_or-set_same, ⊎_elim, refl, ◌∙◌, sym, ap, subst, arith}
use Rattle.std.proofs.lemmas.Bool.{cases_lt}
use Rattle.std.proofs.lemmas.Bool.Decides.{nat_tests}
use Rattle.std.specs.Ordering.{nat_cmp, is_lt}
use Rattle.std.proofs.lemmas.List.{get_or-map}
use Rattle.std.proofs.Math.Seq.{map-set_same}
use Rattle.std.proofs.lemmas.Int.{ints}
use Rattle.tf_model.specs.SchedulingTask.{SchedulingTask}
use Rattle.tf_model.specs.Cost.{price}
use Rattle.tf_single.specs.declared.costed_job.CostedJob.{CostedJob}
use Rattle.tf_single.specs.CostedJob.{jobs_of}

module _ (k : SchedulingTask) (js : List ℕ) (end : ℕ) where
  -- the job at the place costs this if it completes at the end, none of the first n costs less, and
  -- none of those that cost the same has a greater number
  pub record IsCheapest (n place : ℕ) (least : ℤ) : Type 0 where
    pub within : place < length js
    pub cost : least ≡ price k (slice_index js place) end
    pub below : (i : ℕ) → i < n → least ≤ℤ price k (slice_index js i) end
    pub ties : (i : ℕ) → i < n → price k (slice_index js i) end ≡ least
        → slice_index js i ≤ slice_index js place

  pub cheapest_first : (least : ℤ) → 0 < length js → least ≡ price k (slice_index js 0) end
      → IsCheapest 1 0 least
  cheapest_first least some is = record {
    within = some;
    cost = is;
    below = λ i h.
        let here : i ≡ 0 = omega (arith, h) in
        subst (λ m. least ≤ℤ price k (slice_index js m) end) (sym here) (omega (arith, ints, is));
    ties = λ i h same.
        let here : i ≡ 0 = omega (arith, h) in
        subst (λ m. slice_index js m ≤ slice_index js 0) (sym here) (omega arith);
  }

  pub cheapest_kept : (n place : ℕ) (least cost : ℤ) → IsCheapest n place least
      → cost ≡ price k (slice_index js n) end → least ≤ℤ cost
      → (cost ≡ least → slice_index js n ≤ slice_index js place) → IsCheapest (n + 1) place least
  cheapest_kept n place least cost now is le tie = record {
    within = now.within;
    cost = now.cost;
    below = λ i h. ⊎_elim (λ lt. now.below i lt)
        (λ ge.
        let here : i ≡ n = omega (arith, h, ge) in
        subst (λ m. least ≤ℤ price k (slice_index js m) end) (sym here)
        (subst (λ z. least ≤ℤ z) is le))
        (cases_lt i n);
    ties = λ i h. ⊎_elim (λ lt. now.ties i lt)
        (λ ge.
        let here : i ≡ n = omega (arith, h, ge) in
        subst (λ m. price k (slice_index js m) end ≡ least
        → slice_index js m ≤ slice_index js place) (sym here) (λ same. tie (is ∙ same)))
        (cases_lt i n);
  }

  pub cheapest_taken : (n place : ℕ) (least cost : ℤ) → IsCheapest n place least → n < length js
      → cost ≡ price k (slice_index js n) end → cost ≤ℤ least
      → (cost ≡ least → slice_index js place ≤ slice_index js n) → IsCheapest (n + 1) n cost
  cheapest_taken n place least cost now h is le tie = record {
    within = h;
    cost = is;
    below = λ i at. ⊎_elim (λ lt. omega (arith, ints, now.below i lt, le))
        (λ ge.
        let here : i ≡ n = omega (arith, at, ge) in
        subst (λ m. cost ≤ℤ price k (slice_index js m) end) (sym here)
        (omega (arith, ints, is)))
        (cases_lt i n);
    ties = λ i at same. ⊎_elim (λ lt.
        let equal : cost ≡ least = omega (arith, ints, now.below i lt, le, same) in
        omega (arith, now.ties i lt (same ∙ equal), tie equal))
        (λ ge.
        let here : i ≡ n = omega (arith, at, ge) in
        subst (λ m. slice_index js m ≤ slice_index js n) (sym here) (omega arith))
        (cases_lt i n);
  }

-- the job that is read at a place
pub job_read : (free : List CostedJob) (js : List ℕ) (n : ℕ) (c : CostedJob) → jobs_of free ≡ js
    → n < length free → (get_or free n c).job ≡ slice_index js n
job_read free js n c same h =
    sym (get_or-map (λ (x : CostedJob). x.job) free n c 0 h) ∙ ap (λ xs. slice_index xs n) same

-- the same where another level was put at the place
pub job_at : (free : List CostedJob) (js : List ℕ) (n : ℕ) (new c d : CostedJob)
    → jobs_of free ≡ js → n < length free → new.job ≡ (get_or free n c).job
    → (get_or (set free n new) n d).job ≡ slice_index js n
job_at free js n new c d same h own =
    let there : get_or (set free n new) n d ≡ new = rw get_or-set_same refl in
    ap (λ (x : CostedJob). x.job) there ∙ own ∙ job_read free js n c same h

-- the order of two numbers, by the test
pub number_less : (a b : ℕ) (t : Bool) → t ≡ is_lt (nat_cmp a b) → t ≡ true → a < b
number_less a b t is h = let less : is_lt (nat_cmp a b) ≡ true = sym is ∙ h in
    grind (arith, nat_tests)

pub number_no_less : (a b : ℕ) (t : Bool) → t ≡ is_lt (nat_cmp a b) → t ≡ false → b ≤ a
number_no_less a b t is h = let less : is_lt (nat_cmp a b) ≡ false = sym is ∙ h in
    grind (arith, nat_tests)

-- another level at a place leaves the jobs as they are
pub jobs_kept : (free : List CostedJob) (js : List ℕ) (n : ℕ) (new c : CostedJob)
    → jobs_of free ≡ js → new.job ≡ (get_or free n c).job → jobs_of (set free n new) ≡ js
jobs_kept free js n new c same own =
    map-set_same (λ (x : CostedJob). x.job) free n new c own ∙ same
