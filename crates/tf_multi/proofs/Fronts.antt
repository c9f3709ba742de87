-- When the two machines of an open shop are free of jobs that are laid in the order of the rule.
use Rattle.std.proofs.Common.{◌≡◌, ◌≢◌, ℕ, zero, suc, ◌+◌, ◌≤◌, max, List, [], ◌∷◌, ◌++◌, get_or, refl, sym, ap, subst, ◌∙◌, arith}
use Rattle.std.specs.List.{All, AllPairs, sum_by, fold}
use Rattle.std.proofs.lemmas.List.Elements.{All-tail, All-head}
use Rattle.std.proofs.lemmas.List.Sums.{sum_by-cons, fold-append}
use Rattle.tf_schedule.specs.declared.piece.Piece.{Piece}
use Rattle.tf_schedule.specs.Piece.{machine_of, job_of}
use Rattle.tf_schedule.specs.SemiActive.{machine_stop, job_stop, start_after, with_operation, laid}
use Rattle.tf_multi.specs.TwoMachines.{operation_of, routed}
use Rattle.tf_multi.specs.OpenShop.{enclosed}
use Rattle.tf_schedule.proofs.Laying.{line_stop-own, line_stop-other}
use Rattle.tf_multi.proofs.Routes.{routed-append}
use Rattle.tf_schedule.proofs.Parts.{All-left, All-right, AllPairs-head, AllPairs-tail, AllPairs-left, AllPairs-right, AllPairs-across}

-- f gives the times of a job on the machines: jobs that are laid visit machine x first, and then
-- machine y
module _ (f : ℕ → ℕ → ℕ) (x y : ℕ) (two : x ≢ y) where
  abbrev pub on_first : ℕ → ℕ
  on_first j = f j x

  abbrev pub on_second : ℕ → ℕ
  on_second j = f j y

  abbrev with_job : List Piece → ℕ → List Piece
  with_job ps j = with_operation (with_operation ps (operation_of f j x)) (operation_of f j y)

  -- what a job that has not run does to the two machines, and that it changes no other job
  record IsStep (ps qs : List Piece) (j : ℕ) : Type 0 where
    pub first : machine_stop qs x ≡ machine_stop ps x + f j x
    pub second_from : machine_stop ps y + f j y ≤ machine_stop qs y
    pub second_to : machine_stop qs y ≤ max (machine_stop ps y) (machine_stop ps x + f j x) + f j y
    pub others : (k : ℕ) → j ≢ k → job_stop qs k ≡ job_stop ps k

  job_step : (ps : List Piece) (j : ℕ) → job_stop ps j ≡ 0 → IsStep ps (with_job ps j) j
  job_step ps j free =
      let s = start_after ps (operation_of f j x) in
      let qs = with_operation ps (operation_of f j x) in
      let t = start_after qs (operation_of f j y) in
      let own_x = line_stop-own machine_of ps j x s (f j x) x refl (omega arith) in
      let own_j = line_stop-own job_of ps j x s (f j x) j refl (omega arith) in
      let own_y = line_stop-own machine_of qs j y t (f j y) y refl (omega arith) in
      let same_y : machine_stop qs y ≡ machine_stop ps y =
      line_stop-other machine_of ps j x s (f j x) y two in
      let same_x : machine_stop (with_job ps j) x ≡ machine_stop qs x =
      line_stop-other machine_of qs j y t (f j y) x (λ e. two (sym e)) in
      record {
        first = omega (arith, own_x.0, own_x.1, same_x, free);
        second_from = omega (arith, own_y.0, same_y);
        second_to = omega (arith, own_y.1, own_j.1, same_y, free);
        others = λ k differ. line_stop-other job_of qs j y t (f j y) k differ
            ∙ line_stop-other job_of ps j x s (f j x) k differ;
      }

  -- none of the jobs has run, and none is there twice
  record IsWaiting (ps : List Piece) (js : List ℕ) : Type 0 where
    pub free : All (λ j. job_stop ps j ≡ 0) js
    pub apart : AllPairs (λ i j. i ≢ j) js

  still_waiting : (ps qs : List Piece) (j : ℕ) (js : List ℕ) → IsStep ps qs j
      → IsWaiting ps (j ∷ js) → IsWaiting qs js
  still_waiting ps qs j js step waiting = record {
    free = λ k d h. step.others (get_or js k d)
        (waiting.apart zero (suc k) d (omega arith) (omega arith))
        ∙ waiting.free (suc k) d (omega arith);
    apart = λ m n d lt within. waiting.apart (suc m) (suc n) d (omega arith) (omega arith);
  }

  -- jobs that take no longer on machine x than on y, nor than c: machine y does not wait, where it
  -- is c ahead
  record IsEarlyRun (c : ℕ) (ps qs : List Piece) (js : List ℕ) : Type 0 where
    first : machine_stop qs x ≡ machine_stop ps x + sum_by on_first js
    second : machine_stop qs y ≡ machine_stop ps y + sum_by on_second js
    ahead : machine_stop qs x + c ≤ machine_stop qs y
    others : (k : ℕ) → All (λ j. j ≢ k) js → job_stop qs k ≡ job_stop ps k

  early_run : (c : ℕ) (js : List ℕ) (ps : List Piece) → IsWaiting ps js
      → All (λ j. (f j x ≤ f j y) × (f j x ≤ c)) js → machine_stop ps x + c ≤ machine_stop ps y
      → IsEarlyRun c ps (fold with_operation ps (routed f x y js)) js
  early_run c [] ps waiting early ahead =
      record { first = omega arith; second = omega arith; ahead = ahead; others = λ k other. refl }
  early_run c (j ∷ js) ps waiting early ahead =
      let step = job_step ps j (waiting.free zero j (omega arith)) in
      let here = All-head (λ i. (f i x ≤ f i y) × (f i x ≤ c)) j js early in
      let rest = early_run c js (with_job ps j) (still_waiting ps (with_job ps j) j js step waiting)
      (All-tail (λ i. (f i x ≤ f i y) × (f i x ≤ c)) j js early)
      (omega (arith, step.first, step.second_from, here.0)) in
      record {
        first = omega (arith, rest.first, step.first, sum_by-cons on_first j js);
        second = omega (
          arith,
          rest.second,
          step.second_from,
          step.second_to,
          here.1,
          sum_by-cons on_second j js,
        );
        ahead = rest.ahead;
        others = λ k other. rest.others k (All-tail (λ i. i ≢ k) j js other)
            ∙ step.others k (All-head (λ i. i ≢ k) j js other);
      }

  -- jobs that take no longer on machine y than on x, nor than c: machine y ends at most c later
  -- than x, or does not wait
  record IsLateRun (c : ℕ) (ps qs : List Piece) (js : List ℕ) : Type 0 where
    first : machine_stop qs x ≡ machine_stop ps x + sum_by on_first js
    second : machine_stop qs y ≤ max (machine_stop ps y + sum_by on_second js)
        (machine_stop qs x + c)
    no_more : sum_by on_second js ≤ sum_by on_first js
    others : (k : ℕ) → All (λ j. j ≢ k) js → job_stop qs k ≡ job_stop ps k

  late_run : (c : ℕ) (js : List ℕ) (ps : List Piece) → IsWaiting ps js
      → All (λ j. (f j y ≤ f j x) × (f j y ≤ c)) js
      → IsLateRun c ps (fold with_operation ps (routed f x y js)) js
  late_run c [] ps waiting late =
      record {
        first = omega arith;
        second = omega arith;
        no_more = omega arith;
        others =
            λ k other. refl;
      }
  late_run c (j ∷ js) ps waiting late =
      let step = job_step ps j (waiting.free zero j (omega arith)) in
      let here = All-head (λ i. (f i y ≤ f i x) × (f i y ≤ c)) j js late in
      let rest = late_run c js (with_job ps j) (still_waiting ps (with_job ps j) j js step waiting)
      (All-tail (λ i. (f i y ≤ f i x) × (f i y ≤ c)) j js late) in
      record {
        first = omega (arith, rest.first, step.first, sum_by-cons on_first j js);
        second = omega (
          arith,
          rest.second,
          rest.first,
          rest.no_more,
          step.first,
          step.second_to,
          here.0,
          here.1,
          sum_by-cons on_first j js,
          sum_by-cons on_second j js,
        );
        no_more = omega
            (arith, rest.no_more, here.0, sum_by-cons on_first j js, sum_by-cons on_second j js);
        others = λ k other. rest.others k (All-tail (λ i. i ≢ k) j js other)
            ∙ step.others k (All-head (λ i. i ≢ k) j js other);
      }

  -- job r leads on machine y, and comes last on machine x
  module _ (r : ℕ) (early late : List ℕ) (apart : AllPairs (λ i j. i ≢ j) (r ∷ early ++ late))
      (leads : f r x ≤ f r y)
      (is_early : All (λ j. (f j x ≤ f j y) × (f j x ≤ f r x)) early)
      (is_late : All (λ j. (f j y ≤ f j x) × (f j y ≤ f r x)) late) where
    others_apart : AllPairs (λ i j. i ≢ j) (early ++ late)
    others_apart = AllPairs-tail (λ i j. i ≢ j) r (early ++ late) apart

    not_leader : All (λ j. r ≢ j) (early ++ late)
    not_leader = AllPairs-head (λ i j. i ≢ j) r (early ++ late) apart

    abbrev begun : List Piece
    begun = with_operation [] (operation_of f r y)

    abbrev halfway : List Piece
    halfway = fold with_operation begun (routed f x y early)

    abbrev through : List Piece
    through = fold with_operation halfway (routed f x y late)

    through_is : fold with_operation begun (routed f x y (early ++ late)) ≡ through
    through_is = ap (fold with_operation begun) (routed-append f x y early late)
        ∙ fold-append with_operation begun (routed f x y early) (routed f x y late)

    pub laid-enclosed : laid (enclosed f x y r (early ++ late))
        ≡ with_operation through (operation_of f r x)
    laid-enclosed =
        fold-append with_operation begun (routed f x y (early ++ late)) (operation_of f r x ∷ [])
        ∙ ap (λ ps. with_operation ps (operation_of f r x)) through_is

    record IsBegun : Type 0 where
      first : machine_stop begun x ≡ 0
      second : machine_stop begun y ≡ f r y
      leader : job_stop begun r ≤ f r y
      others : (k : ℕ) → r ≢ k → job_stop begun k ≡ 0

    is_begun : IsBegun
    is_begun =
        let s = start_after [] (operation_of f r y) in
        let none : s ≡ 0 = omega arith in
        let own = line_stop-own machine_of [] r y s (f r y) y refl (omega arith) in
        let own_job = line_stop-own job_of [] r y s (f r y) r refl (omega arith) in
        record {
          first = line_stop-other machine_of [] r y s (f r y) x (λ e. two (sym e));
          second = omega (arith, own.0, own.1);
          leader = omega (arith, own_job.1);
          others = λ k differ. line_stop-other job_of [] r y s (f r y) k differ;
        }

    early_half : IsEarlyRun (f r x) begun halfway early
    early_half = early_run (f r x) early begun
        (record {
          free = λ n d h. is_begun.others (get_or early n d)
              (All-left (λ j. r ≢ j) early late not_leader n d h);
          apart =
              AllPairs-left (λ i j. i ≢ j) early late others_apart;
        })
        is_early (omega (arith, is_begun.first, is_begun.second))

    late_half : IsLateRun (f r x) halfway through late
    late_half = late_run (f r x) late halfway
        (record {
          free = λ n d h.
              early_half.others (get_or late n d)
              (λ m e lt. AllPairs-across (λ i j. i ≢ j) early late others_apart m e lt n d h)
              ∙ is_begun.others (get_or late n d)
              (All-right (λ j. r ≢ j) early late not_leader n d h);
          apart = AllPairs-right (λ i j. i ≢ j) early late others_apart;
        })
        is_late

    -- machine x waits for job r at most, and machine y for the late jobs at most
    pub record IsEnclosed (ps : List Piece) : Type 0 where
      pub first : machine_stop ps x ≤ max (f r y) (sum_by on_first early + sum_by on_first late) + f
          r x
      pub second : machine_stop ps y ≤ max (f r y + sum_by on_second early + sum_by on_second late)
          (sum_by on_first early + sum_by on_first late + f r x)

    is_enclosed : IsEnclosed (with_operation through (operation_of f r x))
    is_enclosed =
        let s = start_after through (operation_of f r x) in
        let own = line_stop-own machine_of through r x s (f r x) x refl (omega arith) in
        let other : machine_stop (with_operation through (operation_of f r x)) y
        ≡ machine_stop through y = line_stop-other machine_of through r x s (f r x) y two in
        let late_leader : job_stop through r ≡ job_stop halfway r =
        late_half.others r
        (λ n d h e. All-right (λ j. r ≢ j) early late not_leader n d h (sym e)) in
        let early_leader : job_stop halfway r ≡ job_stop begun r =
        early_half.others r
        (λ n d h e. All-left (λ j. r ≢ j) early late not_leader n d h (sym e)) in
        record {
          first = omega (
            arith,
            own.1,
            late_leader,
            early_leader,
            is_begun.leader,
            is_begun.first,
            early_half.first,
            late_half.first,
          );
          second = omega (
            arith,
            other,
            late_half.second,
            late_half.first,
            early_half.first,
            early_half.second,
            is_begun.first,
            is_begun.second,
          );
        }

    pub enclosed_fronts : IsEnclosed (laid (enclosed f x y r (early ++ late)))
    enclosed_fronts = subst IsEnclosed (sym laid-enclosed) is_enclosed
