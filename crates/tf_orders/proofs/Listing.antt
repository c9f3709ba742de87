-- Jobs that are listed one after another, and seen one after another.
use Rattle.std.proofs.Common.{◌≡◌, ℕ, ◌+◌, ◌<◌, ◌≤◌, List, [], ◌∷◌, ◌++◌, length, get_or, take, sym, ap, subst, ◌∙◌, ◌⊎◌, ◌-◌, arith, inl, inr}
use Rattle.std.specs.List.{All, fold, range_with_len}
use Rattle.std.specs.List.Sorted.{IsPermutation}
use Rattle.std.specs.Prelude.{slice_index}
use Rattle.std.proofs.lemmas.Bool.{cases_lt}
use Rattle.std.proofs.lemmas.List.{map_push, map-id, length-append, get_or_append_left, get_or-map, length-map, take-append-le, take_all, take_more}
use Rattle.std.proofs.Math.Seq.{get_or-append_seam}
use Rattle.std.proofs.lemmas.List.Elements.{All-push}
use Rattle.std.proofs.lemmas.List.Sums.{fold_push}
use Rattle.std.proofs.lemmas.List.FromFn.{get_or-range_with_len, length-range_with_len, map-range_with_len_more}
use Rattle.std.proofs.lemmas.List.Sorted.{All-permutation, IsPermutation-map}
use Rattle.tf_posed.specs.ProblemData.{ProblemData, IsProblemJob}
use Rattle.tf_schedule.specs.declared.piece.Piece.{Piece}
use Rattle.tf_schedule.specs.Piece.{machine_of}
use Rattle.tf_schedule.specs.SemiActive.{machine_stop}
use Rattle.tf_schedule.specs.Stops.{HasStopsBy}
use Rattle.tf_sequencing.specs.declared.ruled_job.RuledJob.{RuledJob}
use Rattle.tf_orders.specs.declared.order.Turn.{Turn}
use Rattle.tf_orders.specs.Listed.{AreListed, IsFirstFree, IsFirstLeast}
use Rattle.tf_orders.specs.Ruled.{AreFirstSeen, AreSeen, IsListedSchedule, IsSeen, numbers_of}

-- one turn more
pub listed_more : (laid : List Turn → List Piece) (m : ℕ) (js : List ℕ) (turns : List Turn) (t : Turn)
    → AreListed laid m js turns → IsFirstFree (laid turns) m t.machine
    → AreListed laid m (js ++ t.job ∷ []) (turns ++ t ∷ [])
listed_more laid m js turns t listed free = record {
  jobs_are = map_push (λ u. u.job) turns t ∙ ap (λ is. is ++ t.job ∷ []) listed.jobs_are;
  free = λ k d lt. by k d lt (cases_lt k (length turns));
}
  where
    by : (k : ℕ) (d : Turn) → k < length (turns ++ t ∷ []) → (k < length turns) ⊎ (length turns ≤ k)
        → IsFirstFree (laid (take k (turns ++ t ∷ []))) m (get_or (turns ++ t ∷ []) k d).machine
    by k d lt (inl before) =
        rw (
          take-append-le k turns (t ∷ []) (omega (arith, before)),
          get_or_append_left turns (t ∷ []) d k before,
        ) (listed.free k d before)
    by k d lt (inr at) =
        let is : k ≡ length turns = omega (arith, lt, at, length-append turns (t ∷ [])) in
        rw (
          is,
          take-append-le (length turns) turns (t ∷ []) (omega arith),
          take_all (length turns) turns (omega arith),
          get_or-append_seam turns t [] d,
        ) free

-- the same of the schedule, where it is laid turn by turn
pub listed_step : (step : List Piece → Turn → List Piece) (m : ℕ) (js more : List ℕ) (t : Turn)
    (old new : List Piece) → IsListedSchedule (fold step []) m js old → IsFirstFree old m t.machine
    → new ≡ step old t → more ≡ js ++ t.job ∷ [] → IsListedSchedule (fold step []) m more new
listed_step step m js more t old new had free added pushed = record {
  turns = had.turns ++ t ∷ [];
  listed = subst (λ is. AreListed (fold step []) m is (had.turns ++ t ∷ [])) (sym pushed)
      (listed_more (fold step []) m js had.turns t had.listed
      (subst (λ ps. IsFirstFree ps m t.machine) had.pieces free));
  pieces = added ∙ ap (λ ps. step ps t) had.pieces ∙ sym (fold_push step [] had.turns t);
}

-- the numbers of one job more
pub numbers_more : (xs : List RuledJob) (i : ℕ) (d : RuledJob) → i < length xs
    → numbers_of (take (i + 1) xs) ≡ numbers_of (take i xs) ++ (get_or xs i d).job ∷ []
numbers_more xs i d lt =
    ap numbers_of (take_more xs i d lt) ∙ map_push (λ x. x.job) (take i xs) (get_or xs i d)

module _ (k : ProblemData) where
  -- one job more
  pub seen_more : (xs ys : List RuledJob) (x : RuledJob) (n : ℕ) → AreFirstSeen k n xs
      → ys ≡ xs ++ x ∷ [] → x.job ≡ n + 1 → IsSeen k x → AreFirstSeen k (n + 1) ys
  seen_more xs ys x n first pushed is seen =
      let next : 1 + n ≡ x.job = omega arith in
      let more : range_with_len 1 (n + 1) ≡ range_with_len 1 n ++ x.job ∷ [] =
      sym (map-id (range_with_len 1 (n + 1))) ∙ map-range_with_len_more (λ j. j) 1 n x.job next
      ∙ ap (λ js. js ++ x.job ∷ []) (map-id (range_with_len 1 n)) in
      record {
        jobs = ap numbers_of pushed ∙ map_push (λ y. y.job) xs x
            ∙ ap (λ js. js ++ x.job ∷ []) first.jobs ∙ sym more;
        seen = subst (All (IsSeen k)) (sym pushed) (All-push (IsSeen k) xs x first.seen seen);
      }

  -- and in another order they are all seen, and each is one of the jobs
  module _ (xs ys : List RuledJob) (first : AreFirstSeen k (length k.jobs) xs)
      (moved : IsPermutation xs ys) where
    pub all_seen : AreSeen k ys
    all_seen = record {
      all = subst (λ js. IsPermutation js (numbers_of ys)) first.jobs
          (IsPermutation-map (λ x. x.job) xs ys moved);
      seen = All-permutation (IsSeen k) xs ys moved first.seen;
    }

    pub all_jobs_there : All (λ x. IsProblemJob k x.job) ys
    all_jobs_there =
        All-permutation (λ x. IsProblemJob k x.job) xs ys moved
        (λ i d lt.
        let n : ℕ = length k.jobs in
        let long : length (numbers_of xs) ≡ n = ap length first.jobs ∙ length-range_with_len 1 n in
        let within : i < n = omega (arith, lt, long, length-map xs (λ x. x.job)) in
        let is : (get_or xs i d).job ≡ 1 + i =
        sym (get_or-map (λ x. x.job) xs i d 0 lt) ∙ ap (λ js. get_or js i 0) first.jobs
        ∙ get_or-range_with_len 1 n i 0 within in
        (omega (arith, is), omega (arith, is, within)))

-- ---- the machine that is free first

-- the list has when the machines are free
pub first_free : (ps : List Piece) (frees : List ℕ) (m k : ℕ) → HasStopsBy machine_of ps frees
    → m ≤ length frees → IsFirstLeast frees m k → IsFirstFree ps m (k + 1)
first_free ps frees m k has long is = record {
  machine = (omega arith, omega (arith, is.within));
  first = λ other low high.
      let place : other - 1 < m = omega (arith, low, high) in
      let one : other - 1 + 1 ≡ other = omega (arith, low) in
      let here = has k (omega (arith, is.within, long)) in
      let there : slice_index frees (other - 1) ≡ machine_stop ps other =
      has (other - 1) (omega (arith, place, long)) ∙ ap (machine_stop ps) one in
      omega (arith, here, there, is.least (other - 1) place);
  smallest = λ other low less.
      let place : other - 1 < k = omega (arith, low, less) in
      let one : other - 1 + 1 ≡ other = omega (arith, low) in
      let here = has k (omega (arith, is.within, long)) in
      let there : slice_index frees (other - 1) ≡ machine_stop ps other =
      has (other - 1) (omega (arith, place, is.within, long)) ∙ ap (machine_stop ps) one in
      omega (arith, here, there, is.first (other - 1) place);
}
