-- Of jobs with due dates the one that is due last is the cheapest.
use Rattle.std.proofs.Common.{◌≡◌, ℕ, ◌+◌, ◌<◌, ◌≤◌, ℤ, pos, ◌-ℤ◌, ◌≤ℤ◌, false, List, ◌∷◌, length, get_or, map, sym, ap, ◌∙◌, subst, arith, Contains, ⊎_elim, Option, None, Some, IfSome}
use Rattle.std.specs.List.{All}
use Rattle.std.specs.List.Sorted.{IsPermutation}
use Rattle.std.specs.Ordering.{nat_cmp, int_cmp, ordering_then, is_lt}
use Rattle.std.proofs.lemmas.Bool.{cases_lt}
use Rattle.std.proofs.lemmas.Bool.Decides.{nat_tests}
use Rattle.std.proofs.lemmas.Int.{ints, to_z-of_z, to_z_pos}
use mir.Syntax.{w64}
use mir.Val.{SFits, to_z, of_z}
use Rattle.std.proofs.lemmas.List.{get_or-map, length-map}
use Rattle.std.proofs.lemmas.List.Elements.{All-tail, All-cons}
use Rattle.std.proofs.lemmas.List.Sorted.{All-permutation, IsPermutation-map}
use Rattle.tf_model.specs.Cost.{price}
use Rattle.tf_model.specs.Limit.{limit}
use Rattle.tf_model.specs.Whole.{as_time}
use Rattle.tf_model.specs.SchedulingTask.{SchedulingTask, IsJob, job_data}
use Rattle.tf_schedule.proofs.Prices.{due_price}
use Rattle.tf_check.specs.KeyedJob.{key_cmp}
use Rattle.tf_check.specs.Ranked.{IsBetween, IsNear, ranked}
use Rattle.tf_check.specs.declared.keyed_job.KeyedJob.{KeyedJob}
use Rattle.tf_check.specs.declared.keyed_job.KeySpan.{KeySpan}
use Rattle.tf_check.proofs.KeyedJob.{not_less, pair_in_order}
use Rattle.tf_single.specs.ByDue.{jobs_due, HasDue, AreDue, AreNear}
use Rattle.tf_single.specs.GreatestFirst.{IsGreatest}

-- ---- what is due last

-- none of the entries is due later
abbrev pub IsLatest : List KeyedJob → KeyedJob → Type 0
IsLatest es x = All (λ e. e.key ≤ℤ x.key) es

due_ge : (a b : ℤ) (m n : ℕ) → is_lt (ordering_then (int_cmp a b) (nat_cmp m n)) ≡ false → b ≤ℤ a
due_ge a b m n h = grind (arith, nat_tests, ints)

-- the greatest entry is due last
pub greatest_latest : (es : List KeyedJob) (x : KeyedJob) → IsGreatest key_cmp es x → IsLatest es x
greatest_latest es x greatest i e h =
    due_ge x.key (get_or es i e).key x.job (get_or es i e).job (greatest i e h)

-- and so is the job of the greatest rank
pub greatest_ranked : (least : ℤ) (rs : List ℕ) (r : ℕ) (x : KeyedJob) → SFits w64 least
    → x ≡ ranked (to_z w64 (of_z w64 least)) r → IsGreatest nat_cmp rs r
    → IsLatest (map (ranked least) rs) x
greatest_ranked least rs r x fits is greatest =
    subst (IsLatest (map (ranked least) rs))
    (sym (is ∙ ap (λ l. ranked l r) (to_z-of_z w64 least fits))) (λ i e h.
    let lt : i < length rs = omega (arith, h, length-map rs (ranked least)) in
    let q : KeyedJob = ranked least (get_or rs i 0) in
    let top : KeyedJob = ranked least r in
    subst (λ (d : KeyedJob). d.key ≤ℤ top.key) (sym (get_or-map (ranked least) rs i 0 e lt))
    (due_ge top.key q.key top.job q.job
    (pair_in_order least (get_or rs i 0) r (not_less (get_or rs i 0) r (greatest i 0 lt)))))

-- none of the entries that are due as late has a greater number
abbrev pub IsLastDue : List KeyedJob → KeyedJob → Type 0
IsLastDue es x = All (λ e. e.key ≡ x.key → e.job ≤ x.job) es

due_tie : (a b : ℤ) (m n : ℕ) → is_lt (ordering_then (int_cmp a b) (nat_cmp m n)) ≡ false
    → b ≡ a → n ≤ m
due_tie a b m n h same = grind (arith, nat_tests, ints)

pub greatest_last : (es : List KeyedJob) (x : KeyedJob) → IsGreatest key_cmp es x → IsLastDue es x
greatest_last es x greatest i e h =
    due_tie x.key (get_or es i e).key x.job (get_or es i e).job (greatest i e h)

pub ranked_last : (least : ℤ) (rs : List ℕ) (r : ℕ) (x : KeyedJob) → SFits w64 least
    → x ≡ ranked (to_z w64 (of_z w64 least)) r → IsGreatest nat_cmp rs r
    → IsLastDue (map (ranked least) rs) x
ranked_last least rs r x fits is greatest =
    subst (IsLastDue (map (ranked least) rs))
    (sym (is ∙ ap (λ l. ranked l r) (to_z-of_z w64 least fits))) (λ i e h.
    let lt : i < length rs = omega (arith, h, length-map rs (ranked least)) in
    let q : KeyedJob = ranked least (get_or rs i 0) in
    let top : KeyedJob = ranked least r in
    subst (λ (d : KeyedJob). d.key ≡ top.key → d.job ≤ top.job)
    (sym (get_or-map (ranked least) rs i 0 e lt))
    (due_tie top.key q.key top.job q.job
    (pair_in_order least (get_or rs i 0) r (not_less (get_or rs i 0) r (greatest i 0 lt)))))

-- ---- due dates within a span

-- those up to one job more, where the span is wider
pub between_more : (span wider : KeySpan) (due : ℕ → ℤ) (n : ℕ)
    → ((j : ℕ) → 0 < j → j ≤ n → IsBetween span (due j)) → IsBetween wider (due (n + 1))
    → ((key : ℤ) → IsBetween span key → IsBetween wider key)
    → (j : ℕ) → 0 < j → j ≤ n + 1 → IsBetween wider (due j)
between_more span wider due n all more wide j low high =
    ⊎_elim
    (λ above. let is : j ≡ n + 1 = omega (arith, above, high) in
    subst (λ i. IsBetween wider (due i)) (sym is) more)
    (λ le. wide (due j) (all j low le))
    (cases_lt n j)

-- where all do, they are near if the span is narrow
pub span_near : (k : SchedulingTask) (span : KeySpan) (least : Option ℤ)
    → IfSome least (λ l. (job : KeyedJob) → IsBetween span job.key → IsNear l job)
    → ((j : ℕ) → IsJob k j → IsBetween span (job_data k j).due) → IfSome least (AreNear k)
span_near k span None near all = tt
span_near k span (Some l) near all = λ j is.
    near (record { key = (job_data k j).due; job = j }) (all j is)

-- ---- one entry more

pub due_more : (k : SchedulingTask) (es more : List KeyedJob) (e : KeyedJob) → AreDue k es
    → HasDue k e → IsPermutation (e ∷ es) more → AreDue k more
due_more k es more e due its moved = record {
  class = due.class;
  dues = All-permutation (HasDue k) (e ∷ es) more moved (All-cons (HasDue k) e es its due.dues);
}

-- a rank more is an entry more, where the least key is read from its bits
pub ranks_more : (least : ℤ) (rs more : List ℕ) (r : ℕ) (e : KeyedJob) → SFits w64 least
    → IsPermutation (r ∷ rs) more → ranked (to_z w64 (of_z w64 least)) r ≡ e
    → IsPermutation (e ∷ map (ranked least) rs) (map (ranked least) more)
ranks_more least rs more r e fits moved is =
    subst (λ (d : KeyedJob). IsPermutation (d ∷ map (ranked least) rs) (map (ranked least) more))
    (ap (λ l. ranked l r) (sym (to_z-of_z w64 least fits)) ∙ is)
    (IsPermutation-map (ranked least) (r ∷ rs) more moved)

-- ---- the entry that is due last is taken

-- what the bits of a cost say: how late the job is
pub late : (work : ℕ) (key z : ℤ) → work ≤ limit → SFits w64 key → SFits w64 z
    → z ≡ (pos (as_time (to_z w64 work)) -ℤ to_z w64 (of_z w64 key))
    → to_z w64 (of_z w64 z) ≡ (pos work -ℤ key)
late work key z small fits_key fits is =
    to_z-of_z w64 z fits ∙ is
    ∙ ap (λ e. pos (as_time e) -ℤ to_z w64 (of_z w64 key)) (to_z_pos w64 work (omega (arith, small)))
    ∙ ap (λ d. pos work -ℤ d) (to_z-of_z w64 key fits_key)

same_left : (e a b : ℤ) → (e -ℤ b) ≡ (e -ℤ a) → b ≡ a
same_left e a b same = omega (arith, ints)

less_left : (e a b : ℤ) → b ≤ℤ a → (e -ℤ a) ≤ℤ (e -ℤ b)
less_left e a b le = omega (arith, ints)

-- of ranks too, where the least key is read from its bits
pub ranks_moved : (least : ℤ) (rs : List ℕ) (r : ℕ) (others : List ℕ) (x : KeyedJob)
    → SFits w64 least → IsPermutation rs (r ∷ others)
    → x ≡ ranked (to_z w64 (of_z w64 least)) r
    → IsPermutation (map (ranked least) rs) (x ∷ map (ranked least) others)
ranks_moved least rs r others x fits moved is =
    subst (λ (d : KeyedJob). IsPermutation (map (ranked least) rs)
    (d ∷ map (ranked least) others))
    (sym (is ∙ ap (λ l. ranked l r) (to_z-of_z w64 least fits)))
    (IsPermutation-map (ranked least) rs (r ∷ others) moved)

-- x is taken, and the others are left
module _ (k : SchedulingTask) (es : List KeyedJob) (due : AreDue k es) (x : KeyedJob)
    (others : List KeyedJob) (moved : IsPermutation es (x ∷ others)) where
  pub own_due : HasDue k x
  own_due = All-permutation (HasDue k) es (x ∷ others) moved due.dues 0 x (omega arith)

  pub jobs_moved : IsPermutation (jobs_due es) (x.job ∷ jobs_due others)
  jobs_moved = IsPermutation-map (λ (e : KeyedJob). e.job) es (x ∷ others) moved

  pub own_job : All (IsJob k) (jobs_due es) → IsJob k x.job
  own_job known =
      All-permutation (IsJob k) (jobs_due es) (x.job ∷ jobs_due others) jobs_moved known 0 0
      (omega arith)

  -- it costs how late it is
  pub latest_cost : (end : ℕ) → (pos end -ℤ x.key) ≡ price k x.job end
  latest_cost end = ap (λ d. pos end -ℤ d) own_due ∙ due_price k x.job end due.class

  -- and is the cheapest at each time
  pub latest_cheapest : IsLatest es x → (end i : ℕ) → Contains (jobs_due es) i
      → (pos end -ℤ x.key) ≤ℤ price k i end
  latest_cheapest latest end i at =
      let lt : at.0 < length es =
      omega (arith, at.1, length-map es (λ (e : KeyedJob). e.job)) in
      let e : KeyedJob = get_or es at.0 x in
      let its : e.job ≡ i = sym (get_or-map (λ (d : KeyedJob). d.job) es at.0 x i lt)
      ∙ at.2 in
      let is : e.key ≡ (job_data k i).due = due.dues at.0 x lt
      ∙ ap (λ j. (job_data k j).due) its in
      subst (λ z. (pos end -ℤ x.key) ≤ℤ z) (ap (λ d. pos end -ℤ d) is ∙ due_price k i end due.class)
      (less_left (pos end) x.key e.key (latest at.0 x lt))

  -- the greatest number among those that cost the same
  pub latest_ties : IsLastDue es x → (end i : ℕ) → Contains (jobs_due es) i
      → price k i end ≡ (pos end -ℤ x.key) → i ≤ x.job
  latest_ties last end i at same =
      let lt : at.0 < length es =
      omega (arith, at.1, length-map es (λ (e : KeyedJob). e.job)) in
      let e : KeyedJob = get_or es at.0 x in
      let its : e.job ≡ i = sym (get_or-map (λ (d : KeyedJob). d.job) es at.0 x i lt)
      ∙ at.2 in
      let is : e.key ≡ (job_data k i).due = due.dues at.0 x lt
      ∙ ap (λ j. (job_data k j).due) its in
      subst (λ n. n ≤ x.job) its
      (last at.0 x lt (same_left (pos end) x.key e.key
      (ap (λ d. pos end -ℤ d) is ∙ due_price k i end due.class ∙ same)))

  pub others_due : AreDue k others
  others_due =
      record {
        class = due.class;
        dues = All-tail (HasDue k) x others
            (All-permutation (HasDue k) es (x ∷ others) moved due.dues);
      }
