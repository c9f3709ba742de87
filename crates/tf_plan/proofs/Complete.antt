-- The judge refuses no pieces that fit.
use Rattle.std.proofs.Common.{◌≡◌, ℕ, ◌≤◌, true, List, Option, None, Some, [], eqb, ℤ, ◌≤ℤ◌, inl, inr, length, get_or, sym, ap, subst, arith}
use Rattle.std.specs.Prelude.{is_some}
use Rattle.std.proofs.lemmas.Bool.{cases_lt}
use Rattle.std.proofs.lemmas.Bool.Decides.{nat_tests}
use Rattle.std.proofs.lemmas.List.{get_or_past}
use Rattle.tf_model.specs.Whole.{as_time}
use Rattle.tf_model.specs.declared.problem.Goal.{Goal}
use Rattle.tf_posed.specs.ProblemCost.{problem_cost, problem_cost_by}
use Rattle.tf_schedule.proofs.Busy.{some_counted}
use Rattle.tf_schedule.proofs.Transport.{element}
use Rattle.tf_schedule.specs.ProblemJudged.{IsJudgedBy}
use Rattle.std.specs.List.{All}
use Rattle.std.specs.List.Sorted.{IsPermutation}
use Rattle.std.proofs.lemmas.List.Sorted.{All-permutation}
use Rattle.tf_model.specs.Timetable.{cells_of}
use Rattle.tf_posed.specs.ProblemData.{ProblemData}
use Rattle.tf_posed.specs.FitsProblem.{FitsProblem}
use Rattle.tf_schedule.specs.declared.piece.Piece.{Piece}
use Rattle.tf_schedule.specs.declared.fit.Misfit.{Misfit}
use Rattle.tf_schedule.specs.declared.fit.Misfit.TheVariants.{Stranger, JobTwice, WrongAmount, Broken, TooEarly, OutOfOrder, OutOfMemory}
use Rattle.tf_schedule.specs.Drawing.{drawing}
use Rattle.tf_schedule.specs.Misfit.{IsFirstNot, IsFirstTwice}
use Rattle.tf_schedule.proofs.Permuted.{drawing_permutation}
use Rattle.tf_schedule.specs.declared.misfit.ProblemMisfit.{ProblemMisfit}
use Rattle.tf_schedule.specs.declared.misfit.ProblemMisfit.TheVariants.{Plain, OffRoute, NoOneOrder, Waits}
use Rattle.tf_schedule.specs.ProblemMisfit.{IsKnownTo, HasFirstPlain, HasFirstMisfit}
use Rattle.tf_plan.specs.Plan.{FitsAsLaid}

-- what fails somewhere does not hold everywhere
not_all : {X : Type 0} (P : X → Type 0) (xs : List X) (x : X) → All P xs → IsFirstNot P xs x → ⊥
not_all P xs x all first = first.fails (element P xs first.place x all first.here)

module _ (k : ProblemData) (ps : List Piece) (known : All (IsKnownTo k) ps)
    (fits : FitsProblem k (drawing k.machines ps)) where
  no_two : (j t : ℕ) → IsFirstTwice (drawing k.machines ps) j t → ⊥
  no_two j t first = elim (cases_lt t (length (drawing k.machines ps))) [
    | inl lt ↦
        let (i, c, h, read, test) =
        some_counted (λ c. eqb c j) (get_or (drawing k.machines ps) t []) (omega (arith, first.here)) in
        let le : c ≤ length k.jobs =
        subst (λ z. z ≤ length k.jobs) read (fits.jobs_only t [] lt i c h) in
        let same : c ≡ j = grind (arith, nat_tests) in
        let one : cells_of j (get_or (drawing k.machines ps) t []) ≤ 1 =
        fits.single_place j first.job (omega (arith, le, same)) t [] lt in
        omega (arith, one, first.here)
    | inr ge ↦
        omega (
          arith,
          first.here,
          ap (cells_of j) (get_or_past (drawing k.machines ps) t [] ge),
        )
  ]

  no_plain : (misfit : Misfit) → HasFirstPlain k ps misfit → ⊥
  no_plain (Stranger j i) (p, _, _, first) = not_all (IsKnownTo k) ps p known first
  no_plain (JobTwice j t) (_, _, first) = no_two j (as_time t) first
  no_plain (WrongAmount j) (_, _, first) = first.fails (fits.amount j first.job.0 first.job.1)
  no_plain (Broken j) (_, _, asked, first) =
      first.fails (fits.unbroken asked j first.job.0 first.job.1)
  no_plain (TooEarly j) (_, _, asked, first) =
      first.fails (fits.released asked j first.job.0 first.job.1)
  no_plain (OutOfOrder a b) (_, _, asked, first) = not_all _ k.arcs (a, b) (fits.in_order asked) first
  no_plain OutOfMemory never = never

  pub no_misfit : (misfit : ProblemMisfit) → HasFirstMisfit k ps misfit → ⊥
  no_misfit (Plain misfit) has = no_plain misfit has
  no_misfit (OffRoute j) (_, _, first) = first.fails (fits.on_route j first.job.0 first.job.1)
  no_misfit NoOneOrder (_, _, asked, never) = never (fits.one_order asked)
  no_misfit (Waits j) (_, _, asked, first) =
      first.fails (fits.without_wait asked j first.job.0 first.job.1)

-- what is laid, in the order of a schedule
module _ (k : ProblemData) (ps qs : List Piece) (laid : FitsAsLaid k ps) (same : IsPermutation ps qs)
  where
    pub drawn : drawing k.machines qs ≡ drawing k.machines ps
    drawn = drawing_permutation k.machines ps qs laid.none_twice same

    none_of : (found : Option ProblemMisfit) → IsJudgedBy k qs found → is_some found ≡ true → ⊥
    none_of None fits some = absurd (cc)
    none_of (Some misfit) has some =
        no_misfit k qs (All-permutation (IsKnownTo k) ps qs same laid.known)
        (subst (FitsProblem k) (sym drawn) laid.fits) misfit has

    pub no_judged : (found : Option ProblemMisfit) → IsJudgedBy k qs found → is_some found ≡ true → ⊥
    no_judged = none_of

    pub beyond : (goal : Goal) (bound : ℤ) → goal ≡ k.problem.goal
        → bound ≤ℤ problem_cost_by goal k (drawing k.machines qs)
        → bound ≤ℤ problem_cost k (drawing k.machines ps)
    beyond goal bound by le =
        subst (λ rows. bound ≤ℤ problem_cost k rows) drawn
        (subst (λ g. bound ≤ℤ problem_cost_by g k (drawing k.machines qs)) by le)
