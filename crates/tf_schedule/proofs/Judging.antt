-- The conditions on jobs, from the tables of extents to the timetable that the pieces draw and back,
-- and the misfits that they find.
use Rattle.std.proofs.Common.{◌≡◌, ℕ, nat_lt, cond, eqb, [], ◌∷◌, ◌||◌, inl, inr, ◌+◌, ◌-◌, ◌<◌, ◌≤◌, min, ℤ, pos, ◌≤ℤ◌, Bool, true, false, not, List, length, get_or, slice_index, Option, None, Some, Result, Ok, Err, IfOk, MatchOption, refl, sym, ap, subst, ◌∙◌, arith, IsTrue}
use mir.Val.{SFits, to_z, of_z}
use mir.Syntax.{w64}
use Rattle.std.specs.Bool.{IsFalse}
use Rattle.std.specs.List.{All, AllPairs}
use Rattle.std.proofs.lemmas.Bool.{false≢true, cases_lt}
use Rattle.std.proofs.lemmas.Bool.Decides.{nat_tests}
use Rattle.std.proofs.lemmas.Int.{to_z-of_z}
use Rattle.std.proofs.lemmas.List.{get_or_default}
use Rattle.std.proofs.lemmas.List.Elements.{All-tail}
use Rattle.tf_model.specs.Limit.{limit}
use Rattle.tf_model.specs.ClassTable.{is_shop_env, is_flow_env}
use Rattle.tf_model.specs.declared.problem.Problem.{Problem}
use Rattle.tf_model.specs.declared.problem.Env.{Env}
use Rattle.tf_model.specs.declared.problem.Env.TheVariants.{Flow, JobShop}
use Rattle.tf_model.specs.Timetable.{Timetable}
use Rattle.tf_model.specs.Feasible.{EachJob, IsKept}
use Rattle.tf_posed.specs.ProblemData.{ProblemData, IsProblemJob, problem_job, is_job_shop, route_by, route_of}
use Rattle.tf_posed.specs.FitsProblem.{FitsProblem, HasProblemTime, IsProblemUnbroken, IsOnRoute, VisitsFirst, IsInOneOrder}
use Rattle.tf_schedule.specs.Asks.{IsLimited}
use Rattle.tf_schedule.specs.declared.piece.Piece.{Piece}
use Rattle.tf_schedule.specs.declared.extent.Extent.{Extent}
use Rattle.tf_schedule.specs.declared.fit.Misfit.TheVariants.{JobTwice, WrongAmount, Broken, TooEarly, OutOfOrder}
use Rattle.tf_schedule.specs.Piece.{as_time, job_of, machine_of}
use Rattle.tf_schedule.specs.Amounts.{work, pieces_on, greatest_by, least_by, start_of}
use Rattle.tf_schedule.specs.Claims.{JobsOnce}
use Rattle.tf_schedule.specs.Drawing.{Draws, drawing, stop_of}
use Rattle.tf_schedule.specs.Extent.{most_work, extent_at, extent_of, IsGapless}
use Rattle.tf_schedule.specs.Lanes.{LanesData, IsOnOne, HasLanes}
use Rattle.tf_schedule.specs.MachineRange.{most_machine}
use Rattle.tf_schedule.specs.Misfit.{IsSmallestNot, IsFirstNot, IsFirstTwice}
use Rattle.tf_schedule.specs.Schedule.{IsSchedule, IsFirstClashBy}
use Rattle.tf_schedule.proofs.Busy.{busy_piece, greatest_le}
use Rattle.tf_schedule.proofs.Drawing.{cells_of-drawing, once-drawing, width-drawing, jobs-drawing, single_place-drawing}
use Rattle.tf_schedule.proofs.Extents.{work_exact}
use Rattle.tf_schedule.proofs.OnLanes.{one_to, one_from}
use Rattle.tf_schedule.proofs.Transport.{smallest_by, all_by, first_by}
use Rattle.tf_schedule.specs.declared.condition.Condition.{Condition}
use Rattle.tf_schedule.specs.declared.condition.Condition.TheVariants.{Amount, Unbroken, Released, OnRoute, WithoutWait}
use Rattle.tf_schedule.specs.declared.misfit.ProblemMisfit.{ProblemMisfit}
use Rattle.tf_schedule.specs.declared.misfit.ProblemMisfit.TheVariants.{OffRoute, NoOneOrder, Waits}
use Rattle.tf_schedule.specs.Condition.{is_asked, is_movable, KeepsMachines, IsMet, IsPlainMet, Holds, StartsAfter}
use Rattle.tf_schedule.specs.Operation.{first_operation, extent_behind, IsWithin}
use Rattle.tf_schedule.specs.ProblemJudged.{IsJudgedBy}
use Rattle.tf_schedule.specs.Tables.{HasOperations, AreTabled}
use Rattle.tf_schedule.specs.ProblemMisfit.{IsKnownTo, AllOnce, AllFull, AllUnbroken, AllReleased, AllKept, HasFirstPlain, HasFirstMisfit}
use Rattle.tf_schedule.proofs.Drawn.{on_machines, sound_on, once_on}
use Rattle.tf_schedule.proofs.Alone.{units, released_to, released_from, waitless_to, waitless_from, one_machine_to, one_machine_from, no_gap_to, gapless_from, kept_to, kept_from}
use Rattle.tf_schedule.proofs.OnMachines.{units_on, GaplessOn, no_gap_on_to, no_gap_on_from, visits_to, visits_from}

-- on one machine the highest is the lowest
least_ge : (f : Piece → ℕ) (ps : List Piece) (j v : ℕ) → v ≤ limit → All (λ p. v ≤ f p) ps
    → v ≤ least_by f ps j
least_ge f [] j v small h = small
least_ge f (p ∷ ps) j v small h =
    step (eqb p.job j) (h 0 p (omega arith))
    (least_ge f ps j v small (All-tail (λ q. v ≤ f q) p ps h))
  where
    step : (b : Bool) → v ≤ f p → v ≤ least_by f ps j
        → v ≤ cond b (min (f p) (least_by f ps j)) (least_by f ps j)
    step true here rest = omega arith
    step false here rest = rest

one_machine : (ps : List Piece) (j : ℕ) → All (λ p. p.machine ≡ 1) ps
    → greatest_by machine_of ps j ≤ least_by machine_of ps j
one_machine ps j on =
    omega (
      arith,
      least_ge machine_of ps j 1 (omega arith) (λ n d h. omega (arith, on n d h)),
      greatest_le machine_of ps j 1 (λ n d h. omega (arith, on n d h)),
    )

-- flow shops and job shops are shops
shop_of_route : (e : Env) → IsTrue (is_flow_env e || is_job_shop e) → IsTrue (is_shop_env e)
shop_of_route Flow h = refl
shop_of_route JobShop h = refl
shop_of_route _ h = absurd (false≢true h)

-- elsewhere a job has no route
pub without_route : (k : ProblemData)
    → IsFalse (is_flow_env k.problem.env || is_job_shop k.problem.env) → (j : ℕ)
    → route_of k j ≡ []
without_route k none j = by k.problem.env none
  where
    by : (e : Env) → IsFalse (is_flow_env e || is_job_shop e) → route_by e k j ≡ []
    by Flow h = absurd (false≢true (sym h))
    by JobShop h = absurd (false≢true (sym h))
    by _ h = refl

movable : (k : ProblemData) → IsTrue (is_asked Unbroken k.problem)
    → IsFalse (is_shop_env k.problem.env) → 1 < k.machines → IsTrue (is_movable k)
movable k asked plain more = rw (asked, plain, more') refl
  where
    more' : nat_lt 1 k.machines ≡ true
    more' = grind (arith, nat_tests)

not_true : (b : Bool) → not b ≡ true → b ≡ false
not_true true e = cc
not_true false e = refl

module _ (k : ProblemData) (limited : IsLimited k) (ps : List Piece) (schedule : IsSchedule ps)
    (known : All (IsKnownTo k) ps) (once : JobsOnce ps) where
  abbrev n : ℕ
  n = length k.jobs

  abbrev m : ℕ
  m = k.machines

  abbrev rows : Timetable
  rows = drawing k.machines ps

  within : All (IsWithin n m) ps
  within = known

  small : m ≤ limit
  small = omega (arith, limited.few_machines)

  few : All (λ p. p.machine ≤ most_machine) ps
  few i d h = omega (arith, limited.few_machines, (known i d h).1.1)

  pub all_once : AllOnce k rows
  all_once j low high =
      single_place-drawing m ps schedule.none_twice (on_machines n m ps schedule within) once j low

  -- where there are no routes, all are kept
  no_route : IsFalse (is_asked OnRoute k.problem) → (j : ℕ) → IsOnRoute k rows j
  no_route none j =
      subst (AllPairs (VisitsFirst rows j)) (sym (without_route k none j))
      (λ a b d lt in'. absurd (omega arith))

  module _ (jobs operations : LanesData) (has : HasLanes (length k.jobs) ps jobs)
      (keeps : KeepsMachines k jobs) (has_each : IsTrue (is_shop_env k.problem.env)
      → HasOperations (length k.jobs) k.machines ps operations) where
    module _ (j : ℕ) (low : 1 ≤ j) (high : j ≤ length k.jobs) where
      only : extent_at jobs.extents j ≡ extent_of ps j
      only = has.extents j low high

      exact : min (work ps j) most_work ≡ work ps j
      exact = work_exact ps j schedule.sound once

      exact_on : (i : ℕ) → min (work (pieces_on i ps) j) most_work ≡ work (pieces_on i ps) j
      exact_on i = work_exact (pieces_on i ps) j (sound_on n m ps schedule within i)
          (once_on n m ps schedule within once i)

      work_is : (extent_at jobs.extents j).work ≡ work ps j
      work_is = ap (λ (e : Extent). e.work) only ∙ exact

      gap_is : IsGapless (extent_at jobs.extents j)
          → greatest_by stop_of ps j - least_by start_of ps j ≡ work ps j
      gap_is gapless = subst IsGapless only gapless ∙ exact

      is_gap : greatest_by stop_of ps j - least_by start_of ps j ≡ work ps j
          → IsGapless (extent_at jobs.extents j)
      is_gap whole = subst IsGapless (sym only) (whole ∙ sym exact)

      module _ (shop : IsTrue (is_shop_env k.problem.env)) where
        abbrev behind : ℕ → Extent
        behind = extent_behind operations (first_operation k.machines j)

        work_on_is : (i : ℕ) → i < k.machines → (behind i).work ≡ work (pieces_on (i + 1) ps) j
        work_on_is i on = (has_each shop j i low high on).work ∙ exact_on (i + 1)

        gap_on_is : (i : ℕ) → i < k.machines → IsGapless (behind i)
            → GaplessOn n m ps schedule within once j low i
        gap_on_is i on gapless =
            let is = has_each shop j i low high on in
            omega (arith, gapless, is.start, is.stop, work_on_is i on)

        is_gap_on : (i : ℕ) → i < k.machines → GaplessOn n m ps schedule within once j low i
            → IsGapless (behind i)
        is_gap_on i on gapless =
            let is = has_each shop j i low high on in
            omega (arith, gapless, is.start, is.stop, work_on_is i on)

      -- ---- amounts

      amount_to : IsMet Amount k jobs operations j → HasProblemTime k rows j
      amount_to met = record {
        in_all = λ plain. units n m small ps schedule within once j low ∙ sym work_is ∙ met.plain plain;
        on_each = λ shop i on. units_on n m ps schedule within once j low i on
            ∙ sym (work_on_is shop i on) ∙ met.in_shop shop i on;
      }

      amount_from : HasProblemTime k rows j → IsMet Amount k jobs operations j
      amount_from amount = record {
        plain = λ plain. work_is ∙ sym (units n m small ps schedule within once j low)
            ∙ amount.in_all plain;
        in_shop = λ shop i on.
            work_on_is shop i on ∙ sym (units_on n m ps schedule within once j low i on)
            ∙ amount.on_each shop i on;
      }

      -- ---- gaps

      -- where there is more than one machine, the table has those of the job
      stays : IsTrue (is_asked Unbroken k.problem) → IsFalse (is_shop_env k.problem.env)
          → IsOnOne jobs j → greatest_by machine_of ps j ≤ least_by machine_of ps j
      stays asked plain one = elim (cases_lt 1 k.machines) [
        | inl more ↦ one_to n ps jobs has j low
            (omega (arith, high, keeps (movable k asked plain more))) one
        | inr single ↦
            one_machine ps j (λ i d h. let on = (known i d h).1 in omega (arith, on.0, on.1, single))
      ]

      unbroken_to : IsTrue (is_asked Unbroken k.problem) → (s : Bool) → is_shop_env k.problem.env ≡ s
          → IsMet Unbroken k jobs operations j → IsProblemUnbroken k rows j
      unbroken_to asked true shop met = record {
        no_gap = no_gap_on_to n m ps schedule within once j low
            (λ i on. gap_on_is shop i on (met.in_shop shop i on));
        one_machine = λ plain. absurd (false≢true (sym plain ∙ shop));
      }
      unbroken_to asked false plain met =
          let whole = met.plain plain in
          let one = stays asked plain whole.1 in
          record {
            no_gap = no_gap_to n m small ps schedule within once j low (gap_is whole.0) one;
            one_machine = λ _. one_machine_to n m small ps schedule within once j low one;
          }

      unbroken_from : IsProblemUnbroken k rows j → IsMet Unbroken k jobs operations j
      unbroken_from unbroken = record {
        plain = λ plain.
            let one = unbroken.one_machine plain in (
              is_gap (gapless_from n m small ps schedule within once j low unbroken.no_gap one),
              one_from n ps jobs has j low few
                  (one_machine_from n m small ps schedule within once j low one),
            );
        in_shop = λ shop i on. is_gap_on shop i on
            (no_gap_on_from n m ps schedule within once j low i on (unbroken.no_gap i));
      }

      -- ---- routes

      route_to : IsTrue (is_asked OnRoute k.problem) → IsMet OnRoute k jobs operations j
          → IsOnRoute k rows j
      route_to asked met a b d lt in' =
          subst (λ x. VisitsFirst rows j x (get_or (route_of k j) b d))
          (get_or_default (route_of k j) a 0 d (omega (arith, lt, in')))
          (subst (λ y. VisitsFirst rows j (slice_index (route_of k j) a) y)
          (get_or_default (route_of k j) b 0 d in') visits)
        where
          shop : IsTrue (is_shop_env k.problem.env)
          shop = shop_of_route k.problem.env asked

          visits : VisitsFirst rows j (slice_index (route_of k j) a) (slice_index (route_of k j) b)
          visits =
              let first = has_each shop j (slice_index (route_of k j) a) low high
              (limited.routes j (low, high) a 0 (omega (arith, lt, in'))) in
              let second = has_each shop j (slice_index (route_of k j) b) low high
              (limited.routes j (low, high) b 0 in') in
              visits_to n m ps schedule within once j low (slice_index (route_of k j) a)
              (slice_index (route_of k j) b)
              (omega (arith, met a b lt in', first.stop, second.start))

      route_from : IsTrue (is_asked OnRoute k.problem) → IsOnRoute k rows j
          → IsMet OnRoute k jobs operations j
      route_from asked on_route a b lt in' =
          let shop = shop_of_route k.problem.env asked in
          let on_a = limited.routes j (low, high) a 0 (omega (arith, lt, in')) in
          let on_b = limited.routes j (low, high) b 0 in' in
          let first = has_each shop j (slice_index (route_of k j) a) low high on_a in
          let second = has_each shop j (slice_index (route_of k j) b) low high on_b in
          omega (
            arith,
            first.stop,
            second.start,
            visits_from n m ps schedule within once j low (slice_index (route_of k j) a)
                (slice_index (route_of k j) b) on_a on_b (on_route a b 0 lt in'),
          )

      -- ---- every condition

      to : (c : Condition) → IsTrue (is_asked c k.problem) → IsMet c k jobs operations j
          → Holds c k rows j
      to Amount asked met = amount_to met
      to Unbroken asked met = unbroken_to asked (is_shop_env k.problem.env) refl met
      to Released asked met =
          released_to n m small ps schedule within once j low (problem_job k j).release
          (subst (λ (e : Extent). (problem_job k j).release ≤ e.start) only met)
      to OnRoute asked met = route_to asked met
      to WithoutWait asked met = waitless_to n m small ps schedule within once j low (gap_is met)

      from : (c : Condition) → IsTrue (is_asked c k.problem) → Holds c k rows j
          → IsMet c k jobs operations j
      from Amount asked amount = amount_from amount
      from Unbroken asked unbroken = unbroken_from unbroken
      from Released asked released =
          subst (λ (e : Extent). (problem_job k j).release ≤ e.start) (sym only)
          (released_from n m small ps schedule within once j low (problem_job k j).release
          (limited.releases j (low, high)) released)
      from OnRoute asked on_route = route_from asked on_route
      from WithoutWait asked waitless =
          is_gap (waitless_from n m small ps schedule within once j low waitless)

    abbrev pub AllMet : Condition → Type 0
    AllMet c = IsTrue (is_asked c k.problem) → EachJob (length k.jobs) (IsMet c k jobs operations)

    abbrev pub FirstUnmet : Condition → ℕ → Type 0
    FirstUnmet c j = IsTrue (is_asked c k.problem)
        × IsSmallestNot (length k.jobs) (IsMet c k jobs operations) j

    each : (c : Condition) → AllMet c → IsTrue (is_asked c k.problem)
        → EachJob (length k.jobs) (Holds c k rows)
    each c all asked j low high = to j low high c asked (all asked j low high)

    smallest : (c : Condition) (j : ℕ) → FirstUnmet c j
        → IsSmallestNot (length k.jobs) (Holds c k rows) j
    smallest c j (asked, first) =
        smallest_by (length k.jobs) (IsMet c k jobs operations) (Holds c k rows)
        (λ i low high. to i low high c asked) (λ i low high. from i low high c asked) j first

    -- ---- arcs

    abbrev IsArc : ℕ × ℕ → Type 0
    IsArc arc = IsProblemJob k arc.0 × IsProblemJob k arc.1

    after_to : (arc : ℕ × ℕ) → IsArc arc → StartsAfter jobs arc → IsKept rows arc
    after_to (a, b) arc after =
        kept_to n m ps schedule within a b arc.0.0 arc.1.0
        (subst (λ (e : Extent). greatest_by stop_of ps a ≤ e.start) (only b arc.1.0 arc.1.1)
        (subst (λ (e : Extent). e.stop ≤ (extent_at jobs.extents b).start) (only a arc.0.0 arc.0.1)
        after))

    after_from : (arc : ℕ × ℕ) → IsArc arc → IsKept rows arc → StartsAfter jobs arc
    after_from (a, b) arc kept =
        subst (λ (e : Extent). e.stop ≤ (extent_at jobs.extents b).start) (sym (only a arc.0.0 arc.0.1))
        (subst (λ (e : Extent). greatest_by stop_of ps a ≤ e.start) (sym (only b arc.1.0 arc.1.1))
        (kept_from n m ps schedule within a b kept))

    pub all_kept : All (StartsAfter jobs) k.arcs → All (IsKept rows) k.arcs
    all_kept = all_by IsArc (StartsAfter jobs) (IsKept rows) k.arcs limited.arcs_in after_to

    pub first_not_kept : (arc : ℕ × ℕ) → IsFirstNot (StartsAfter jobs) k.arcs arc
        → IsFirstNot (IsKept rows) k.arcs arc
    first_not_kept = first_by IsArc (StartsAfter jobs) (IsKept rows) k.arcs limited.arcs_in after_to
        after_from

    -- ---- the misfits of every class

    pub wrong_amount : (j : ℕ) → FirstUnmet Amount j → HasFirstPlain k ps (WrongAmount j)
    wrong_amount j first = (known, all_once, smallest Amount j first)

    module _ (done : AllMet Amount) where
      all_full : AllFull k rows
      all_full = (all_once, each Amount done refl)

      pub broken : (j : ℕ) → FirstUnmet Unbroken j → HasFirstPlain k ps (Broken j)
      broken j first =
          (known, all_full, not_true k.problem.prmp first.0, smallest Unbroken j first)

      module _ (unbroken : AllMet Unbroken) where
        all_unbroken : AllUnbroken k rows
        all_unbroken = (all_full, λ may. each Unbroken unbroken (ap not may))

        pub too_early : (j : ℕ) → FirstUnmet Released j → HasFirstPlain k ps (TooEarly j)
        too_early j first = (known, all_unbroken, first.0, smallest Released j first)

        pub all_released : AllMet Released → AllReleased k rows
        all_released released = (all_unbroken, each Released released)

    pub released_plain : EachJob (length k.jobs) (IsPlainMet k jobs operations) → AllReleased k rows
    released_plain plain =
        all_released (λ asked j low high. plain j low high Amount refl asked)
        (λ asked j low high. plain j low high Unbroken refl asked)
        (λ asked j low high. plain j low high Released refl asked)

    module _ (released : AllReleased k rows) where
      pub out_of_order : (a b : ℕ) → IsTrue k.problem.prec
          → IsFirstNot (StartsAfter jobs) k.arcs (a, b) → HasFirstPlain k ps (OutOfOrder a b)
      out_of_order a b asked first = (known, released, asked, first_not_kept (a, b) first)

      pub kept_in_order : (IsTrue k.problem.prec → All (StartsAfter jobs) k.arcs) → AllKept k rows
      kept_in_order kept = (released, λ asked. all_kept (kept asked))

    -- ---- and of problems

    module _ (kept : AllKept k rows) where
      pub off_route : (j : ℕ) → FirstUnmet OnRoute j → HasFirstMisfit k ps (OffRoute j)
      off_route j first = (known, kept, smallest OnRoute j first)

      module _ (routes : AllMet OnRoute) where
        all_routes : EachJob (length k.jobs) (IsOnRoute k rows)
        all_routes j low high = by (is_asked OnRoute k.problem) refl
          where
            by : (b : Bool) → is_asked OnRoute k.problem ≡ b → IsOnRoute k rows j
            by true asked = each OnRoute routes asked j low high
            by false other = no_route other j

        pub no_one_order : IsTrue k.problem.prmu → (¬ (IsInOneOrder k rows))
            → HasFirstMisfit k ps NoOneOrder
        no_one_order asked never = (known, (kept, all_routes), asked, never)

        module _ (ordered : IsTrue k.problem.prmu → IsInOneOrder k rows) where
          pub waits : (j : ℕ) → FirstUnmet WithoutWait j → HasFirstMisfit k ps (Waits j)
          waits j first =
              (known, ((kept, all_routes), ordered), first.0, smallest WithoutWait j first)

          pub fits_problem : AllMet WithoutWait → FitsProblem k rows
          fits_problem waitless = record {
            width = width-drawing m ps;
            jobs_only = jobs-drawing m ps n (λ i d h. (known i d h).0.1);
            single_place = kept.0.0.0.0;
            amount = kept.0.0.0.1;
            unbroken = kept.0.0.1;
            released = kept.0.1;
            in_order = kept.1;
            on_route = all_routes;
            one_order = ordered;
            without_wait = each WithoutWait waitless;
          }

-- ---- a job in two places, at a time that was stored in 64 bits

module _ (k : ProblemData) (ps : List Piece) (schedule : IsSchedule ps)
    (known : All (IsKnownTo k) ps) where
  twice_in_drawing : (j t : ℕ) → IsFirstClashBy job_of ps j t
      → IsFirstTwice (drawing k.machines ps) j t
  twice_in_drawing j t first =
      let on = λ (i : ℕ) (d : Piece) (h : i < length ps). (known i d h).1 in
      let (i, p, h, read, works) = busy_piece ps j t (omega (arith, first.here)) in
      let job : 1 ≤ p.job = subst (λ (q : Piece). 1 ≤ q.job) read (known i p h).0.0 in
      let some : 0 < j = omega (arith, works.job, job) in
      record {
        job = some;
        here = omega
            (arith, first.here, cells_of-drawing k.machines ps j t schedule.none_twice on some);
        smaller_job =
            λ n low less. once-drawing k.machines ps schedule.none_twice on n low
            (λ u. first.smaller n u less);
        earlier = λ u lt. omega (
          arith,
          first.earlier u lt,
          cells_of-drawing k.machines ps j u schedule.none_twice on some,
        );
      }

  pub twice_stored : (j : ℕ) (z : ℤ) → (pos 0 ≤ℤ z) × IsFirstClashBy job_of ps j (as_time z)
      → SFits w64 z → HasFirstPlain k ps (JobTwice j (to_z w64 (of_z w64 z)))
  twice_stored j z first fits =
      subst (λ (y : ℤ). HasFirstPlain k ps (JobTwice j y)) (sym (to_z-of_z w64 z fits))
      (known, first.0, twice_in_drawing j (as_time z) first.1)

-- ---- tests

pub no_prec : (p q : Problem) → not p.prec ≡ true → p ≡ q → q.prec ≡ true → ⊥
no_prec p q none same asked =
    false≢true (sym (ap (λ (x : Problem). not x.prec) same ∙ ap not asked) ∙ none)

pub is_prec : (p q : Problem) → not p.prec ≡ false → p ≡ q → q.prec ≡ true
is_prec p q some same = sym (ap (λ (x : Problem). x.prec) same) ∙ not_false p.prec some
  where
    not_false : (b : Bool) → not b ≡ false → b ≡ true
    not_false true e = refl
    not_false false e = cc

pub tabled : (k : ProblemData) (ps : List Piece) (jobs operations : LanesData) → IsSchedule ps
    → All (IsKnownTo k) ps → JobsOnce ps → HasLanes (length k.jobs) ps jobs
    → KeepsMachines k jobs → (IsTrue (is_shop_env k.problem.env) → HasOperations (length k.jobs) k.machines ps operations)
    → AreTabled k ps jobs operations
tabled k ps jobs operations schedule known once has keeps has_each = record {
  schedule = schedule;
  known = known;
  once = once;
  of_jobs = has;
  machines = keeps;
  of_operations = has_each;
}

-- where the pieces draw rows, a judgement of the rows is one of the pieces
pub judged : {E : Type 0} (k : ProblemData) (ps : List Piece)
    → All (IsKnownTo k) ps → Draws k.machines ps (drawing k.machines ps) → (r : Result (Option ProblemMisfit) E)
    → IfOk r (λ found. MatchOption found (FitsProblem k (drawing k.machines ps))
    (HasFirstMisfit k ps))
    → IfOk r (IsJudgedBy k ps)
judged k ps known draws (Ok None) fits = record { known = known; draws = draws; fits = fits }
judged k ps known draws (Ok (Some misfit)) first = first
judged k ps known draws (Err e) none = none
