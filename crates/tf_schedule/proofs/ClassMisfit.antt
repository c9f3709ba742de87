-- What is found of the task of a class as the task of a problem: the first misfit is that of the
-- class, and where there is none, the schedule fits.
use Rattle.std.proofs.Common.{◌≡◌, ◌≢◌, Bool, true, false, ℕ, ◌≤◌, List, take, refl, sym, ◌∙◌, arith, All, inl, inr, slice_index_or, Option, ℤ}
use Rattle.std.proofs.lemmas.Bool.{false≢true}
use Rattle.tf_model.specs.SchedulingTask.{SchedulingTask}
use Rattle.tf_model.specs.ClassTable.{is_flow, notation_of}
use Rattle.tf_model.specs.Cost.{cost}
use Rattle.tf_model.specs.Feasible.{EachJob, IsOnce, IsInFlow, HasAmount, IsWhole, IsReleased}
use Rattle.tf_model.specs.Sound.{IsSound}
use Rattle.tf_model.specs.Timetable.{Timetable}
use Rattle.tf_posed.specs.FitsProblem.{HasProblemTime, IsProblemUnbroken, IsProblemReleased, IsOnRoute}
use Rattle.tf_posed.specs.Agreement.{posed}
use Rattle.tf_schedule.specs.declared.piece.Piece.{Piece}
use Rattle.tf_schedule.specs.declared.fit.Misfit.{Misfit}
use Rattle.tf_schedule.specs.declared.fit.Misfit.TheVariants.{Stranger, JobTwice, WrongAmount, Broken, TooEarly, OutOfOrder, OutOfMemory}
use Rattle.tf_schedule.specs.Drawing.{drawing}
use Rattle.tf_schedule.specs.Misfit as classes
use Rattle.tf_schedule.specs.Misfit.{IsFirstNot, IsSmallestNot}
use Rattle.tf_schedule.specs.declared.misfit.ProblemMisfit.{ProblemMisfit}
use Rattle.tf_schedule.specs.declared.misfit.ProblemMisfit.TheVariants.{Plain, OffRoute, NoOneOrder, Waits}
use Rattle.tf_schedule.specs.ProblemMisfit as problems
use Rattle.tf_schedule.specs.ClassMisfit.{of_class}
use Rattle.tf_schedule.specs.Judged.{FitsAt}
use Rattle.tf_schedule.specs.ProblemJudged.{FitsBy}
use Rattle.tf_posed.proofs.Agreement.{closed}
use Rattle.tf_posed.proofs.Conditions.{no_prmu, no_nwt, size, amount_to, amount_from, whole_to, whole_from, released_to, released_from, route_to, route_from}

-- ---- of all jobs, and of the smallest

each : (n m : ℕ) (P Q : ℕ → Type 0) → n ≡ m → ((j : ℕ) → 1 ≤ j → j ≤ m → P j → Q j)
    → EachJob n P → EachJob m Q
each n m P Q same more all j low high = more j low high (all j low (omega (arith, same, high)))

smallest : (n m : ℕ) (P Q : ℕ → Type 0) (j : ℕ) → n ≡ m
    → ((j : ℕ) → 1 ≤ j → j ≤ m → P j → Q j) → ((j : ℕ) → 1 ≤ j → j ≤ m → Q j → P j)
    → IsSmallestNot n P j → IsSmallestNot m Q j
smallest n m P Q j same more less had = record {
  job = (had.job.0, omega (arith, same, had.job.1));
  fails = λ q. had.fails (less j had.job.0 (omega (arith, same, had.job.1)) q);
  smaller = λ h low lt. more h low (omega (arith, same, had.job.1, lt)) (had.smaller h low lt);
}

-- ---- pieces

module _ (k : SchedulingTask) where
  pub known : (p : Piece) → problems.IsKnownTo (posed k) p → classes.IsKnown k p
  known p h = ((h.0.0, omega (arith, size k, h.0.1)), h.1)

  pub known_from : (p : Piece) → classes.IsKnown k p → problems.IsKnownTo (posed k) p
  known_from p h = ((h.0.0, omega (arith, size k, h.0.1)), h.1)

  pub all_known : (ps : List Piece) → All (problems.IsKnownTo (posed k)) ps
      → All (classes.IsKnown k) ps
  all_known ps all i d h = known (slice_index_or ps i d) (all i d h)

-- ---- misfits

module _ (k : SchedulingTask) (sound : IsSound k) (ps : List Piece) where
  abbrev count : Option ℕ
  count = (notation_of k.class).count

  abbrev rows : Timetable
  rows = drawing k.machines ps

  first_stranger : (p : Piece) → IsFirstNot (problems.IsKnownTo (posed k)) ps p
      → IsFirstNot (classes.IsKnown k) ps p
  first_stranger p had = record {
    place = had.place;
    before = all_known k (take had.place ps) had.before;
    here = had.here;
    fails = λ is. had.fails (known_from k p is);
  }

  once : problems.AllOnce (posed k) rows → classes.AllOnce k rows
  once = each _ _ (IsOnce rows) (IsOnce rows) (size k) (λ j low high h. h)

  full : problems.AllFull (posed k) rows → classes.AllFull k rows
  full (a, b) = (
    once a,
    each _ _ (HasProblemTime (posed k) rows) (HasAmount k rows) (size k)
        (λ j low high. amount_from k sound count rows j (low, high)) b,
  )

  unbroken : problems.AllUnbroken (posed k) rows → classes.AllWhole k rows
  unbroken (a, b) = (
    full a,
    λ no. each _ _ (IsProblemUnbroken (posed k) rows) (IsWhole k rows) (size k)
        (λ j low high. whole_from k sound count rows j (low, high)) (b no),
  )

  released : problems.AllReleased (posed k) rows → classes.AllReleased k rows
  released (a, b) = (
    unbroken a,
    λ j low high. released_from k sound count rows j (low, high)
        (λ has. b has j low (omega (arith, size k, high))),
  )

  plain : (misfit : Misfit) → problems.HasFirstPlain (posed k) ps misfit
      → classes.HasFirstMisfit k ps misfit × (misfit ≢ OutOfMemory)
  plain (Stranger j i) (p, a, b, had) = ((p, a, b, first_stranger p had), λ e. cc)
  plain (JobTwice j t) (a, b, had) = ((all_known k ps a, b, had), λ e. cc)
  plain (WrongAmount j) (a, b, had) = (
    (
      all_known k ps a,
      once b,
      smallest _ _ (HasProblemTime (posed k) rows) (HasAmount k rows) j (size k)
          (λ j low high. amount_from k sound count rows j (low, high))
          (λ j low high. amount_to k sound count rows j (low, high)) had,
    ),
    λ e. cc,
  )
  plain (Broken j) (a, b, whole, had) = (
    (
      all_known k ps a,
      full b,
      whole,
      smallest _ _ (IsProblemUnbroken (posed k) rows) (IsWhole k rows) j (size k)
          (λ j low high. whole_from k sound count rows j (low, high))
          (λ j low high. whole_to k sound count rows j (low, high)) had,
    ),
    λ e. cc,
  )
  plain (TooEarly j) (a, b, has, had) = (
    (
      all_known k ps a,
      unbroken b,
      smallest _ _ (IsProblemReleased (posed k) rows) (IsReleased k rows) j (size k)
          (λ j low high h. released_from k sound count rows j (low, high) (λ has. h))
          (λ j low high. released_to k sound count rows j (low, high)) had,
    ),
    λ e. cc,
  )
  plain (OutOfOrder a b) (c, d, has, had) = ((all_known k ps c, released d, inl had), λ e. cc)
  plain OutOfMemory had = absurd had

  -- a job is off its route in a flow shop alone
  off_route : (b : Bool) → is_flow k.class ≡ b → (j : ℕ)
      → problems.HasFirstMisfit (posed k) ps (OffRoute j)
      → classes.HasFirstMisfit k ps (OutOfOrder j j)
  off_route true flows j (a, b, had) = (
    all_known k ps a,
    released b.0,
    inr (
      refl,
      flows,
      smallest _ _ (IsOnRoute (posed k) rows) (IsInFlow rows) j (size k)
          (λ j low high h. route_from k sound count rows j (low, high) h flows)
          (λ j low high h. route_to k sound count rows j (low, high) (λ _. h)) had,
    ),
  )
  off_route false flows j (a, b, had) =
      absurd (had.fails (route_to k sound count rows j
      (had.job.0, omega (arith, size k, had.job.1))
      (λ is. absurd (false≢true (sym flows ∙ is)))))

  pub first_of_class : (misfit : ProblemMisfit) → problems.HasFirstMisfit (posed k) ps misfit
      → classes.HasFirstMisfit k ps (of_class misfit) × (of_class misfit ≢ OutOfMemory)
  first_of_class (Plain misfit) had = plain misfit had
  first_of_class (OffRoute j) had = (off_route (is_flow k.class) refl j had, λ e. cc)
  first_of_class NoOneOrder (a, b, has, had) = absurd (false≢true (sym (no_prmu k.class) ∙ has))
  first_of_class (Waits j) (a, b, has, had) = absurd (false≢true (sym (no_nwt k.class) ∙ has))

  -- and pieces without one fit
  pub fits_class : FitsBy (posed k) ps → (value : ℤ) → value ≡ cost k rows → FitsAt k ps value
  fits_class by value costs =
      record { draws = by.draws; fits = closed k sound count rows by.fits; costs = sym costs }
