-- A job in a flow shop: what its head on a machine and its tail behind a later one say.
use Rattle.std.proofs.Common.{◌≡◌, ℕ, ◌+◌, ◌-◌, ◌≤◌, ◌<◌, slice_index_or, refl, ap, ◌∙◌, subst, arith, sum_by, All, IsTrue}
use Rattle.std.specs.List.{AllPairs, range_with_len}
use Rattle.std.proofs.lemmas.Bool.{false≢true, or_right}
use Rattle.std.proofs.lemmas.List.FromFn.{length-range_with_len, get_or-range_with_len}
use Rattle.tf_model.specs.declared.problem.Env.{Env}
use Rattle.tf_model.specs.declared.problem.Env.TheVariants.{Flow}
use Rattle.tf_model.specs.Timetable.{Timetable, cell, completion}
use Rattle.tf_model.specs.ClassTable.{is_single_env, is_shop_env, is_flow_env}
use Rattle.tf_model.proofs.Units.{completion-le-row}
use Rattle.tf_posed.specs.ProblemData.{ProblemData, IsProblemSound, IsProblemJob, route_by, route_of, problem_time_on, problem_release}
use Rattle.tf_posed.specs.FitsProblem.{FitsProblem, VisitsFirst}
use Rattle.tf_problem.specs.ProblemBounds.{before, behind, head, tail, is_by_machine}
use Rattle.tf_problem.proofs.ProblemLists.{range-append}
use Rattle.tf_problem.proofs.Relaxing.{problem_release-le-row}
use Rattle.tf_problem.proofs.RouteLists.{range-apart, before-range, behind-range}
use Rattle.tf_problem.proofs.Routes.{flow_shop, over-le-rows, total-le-completion}

is_flow : (e : Env) → IsTrue (is_flow_env e) → e ≡ Flow
is_flow Flow h = refl
is_flow _ h = absurd (false≢true h)

module _ (k : ProblemData) (sound : IsProblemSound k) (flow : IsTrue (is_flow_env k.problem.env))
    (rows : Timetable) (fits : FitsProblem k rows) (j : ℕ) (job : IsProblemJob k j) where
  by : IsTrue (is_by_machine k.problem.env)
  by = or_right (is_single_env k.problem.env) (is_shop_env k.problem.env)
      (flow_shop k.problem.env flow)

  route_is : route_of k j ≡ range_with_len 0 k.machines
  route_is = ap (λ e. route_by e k j) (is_flow k.problem.env flow)

  -- a machine comes before each later one
  pub on-flow : (a b s t : ℕ) → a < b → b < k.machines → cell rows s a ≡ j → cell rows t b ≡ j → s < t
  on-flow a b s t lt in' p q =
      let pairs : AllPairs (VisitsFirst rows j) (range_with_len 0 k.machines) =
      subst (AllPairs (VisitsFirst rows j)) route_is (fits.on_route j job.0 job.1) in
      let first : slice_index_or (range_with_len 0 k.machines) a 0 ≡ a =
      get_or-range_with_len 0 k.machines a 0 (omega arith) ∙ omega arith in
      let second : slice_index_or (range_with_len 0 k.machines) b 0 ≡ b =
      get_or-range_with_len 0 k.machines b 0 in' ∙ omega arith in
      pairs a b 0 lt (omega (arith, length-range_with_len 0 k.machines)) s t
      (ap (cell rows s) first ∙ p) (ap (cell rows t) second ∙ q)

  head_is : (a : ℕ) → a < k.machines
      → head k a j ≡ problem_release k j + sum_by (problem_time_on k j) (range_with_len 0 a)
  head_is a lt =
      ap (λ route. problem_release k j + sum_by (problem_time_on k j) (before a route)) route_is
      ∙ ap (λ route. problem_release k j + sum_by (problem_time_on k j) route)
      (before-range a 0 k.machines (omega arith) (omega arith))
      ∙ ap (λ n. problem_release k j + sum_by (problem_time_on k j) (range_with_len 0 n)) (whole a)
    where
      whole : (a : ℕ) → a - 0 ≡ a
      whole a = omega arith

  tail_is : (b : ℕ) → b < k.machines
      → tail k b j
      ≡ sum_by (problem_time_on k j) (range_with_len (b + 1) (0 + k.machines - (b + 1)))
  tail_is b lt =
      ap (λ route. sum_by (problem_time_on k j) (behind b route)) route_is
      ∙ ap (sum_by (problem_time_on k j)) (behind-range b 0 k.machines (omega arith) (omega arith))

  -- a job on machine a or on a later one has its head behind it
  pub head-before-row : (a b t : ℕ) → a ≤ b → b < k.machines → cell rows t b ≡ j → head k a j ≤ t
  head-before-row a b t le in' e =
      omega (
        arith,
        head_is a (omega arith),
        problem_release-le-row k rows fits j job t b e,
        over-le-rows k sound rows fits by j job (range_with_len 0 a) (range-apart 0 a) (below a le in')
            (problem_release k j) t
            (λ p d h s c.
            let at : slice_index_or (range_with_len 0 a) p d ≡ 0 + p =
            get_or-range_with_len 0 a p d (omega (arith, h, length-range_with_len 0 a)) in (
              problem_release-le-row k rows fits j job s (slice_index_or (range_with_len 0 a) p d) c,
              on-flow (slice_index_or (range_with_len 0 a) p d) b s t
                  (omega (arith, at, h, length-range_with_len 0 a)) in' c e,
            )),
      )
    where
      below : (a : ℕ) → a ≤ b → b < k.machines → All (λ i. i < k.machines) (range_with_len 0 a)
      below a le in' p d h =
          omega (
            arith,
            h,
            length-range_with_len 0 a,
            get_or-range_with_len 0 a p d (omega (arith, h, length-range_with_len 0 a)),
          )

  -- a job on machine b or on an earlier one has its tail before it
  pub tail-behind-row : (a b t : ℕ) → a ≤ b → b < k.machines → cell rows t a ≡ j
      → t + 1 + tail k b j ≤ completion rows j
  tail-behind-row a b t le in' e =
      let n : ℕ = 0 + k.machines - (b + 1) in
      let at : (p d : ℕ) → p < n → slice_index_or (range_with_len (b + 1) n) p d ≡ b + 1 + p =
      λ p d h. get_or-range_with_len (b + 1) n p d h in
      omega (
        arith,
        tail_is b in',
        completion-le-row j job.0 rows t a e,
        over-le-rows k sound rows fits by j job (range_with_len (b + 1) n) (range-apart (b + 1) n)
            (λ p d h. omega (arith, h, length-range_with_len (b + 1) n, at p d (omega (arith, h, length-range_with_len (b + 1) n))))
            (t + 1) (completion rows j)
            (λ p d h s c.
            let i : ℕ = slice_index_or (range_with_len (b + 1) n) p d in
            let is : i ≡ b + 1 + p = at p d (omega (arith, h, length-range_with_len (b + 1) n)) in
            let after : t < s =
            on-flow a i t s (omega (arith, is))
            (omega (arith, is, h, length-range_with_len (b + 1) n)) e c in (
              omega arith,
              completion-le-row j job.0 rows s i c,
            )),
      )

  -- the head on a machine and the tail behind a later one are within the job's time in all
  pub heads-and-tails : (a b : ℕ) → a ≤ b → b < k.machines
      → head k a j + tail k b j ≤ completion rows j
  heads-and-tails a b le in' =
      omega (
        arith,
        head_is a (omega arith),
        tail_is b in',
        total-le-completion k sound rows fits by j job,
        range-append (problem_time_on k j) 0 a (b + 1 - a),
        range-append (problem_time_on k j) 0 (a + (b + 1 - a)) (0 + k.machines - (b + 1)),
        starts (problem_time_on k j) (0 + (a + (b + 1 - a))) (b + 1) (0 + k.machines - (b + 1))
            (omega arith),
        lengths (problem_time_on k j) (a + (b + 1 - a) + (0 + k.machines - (b + 1))) k.machines
            (omega arith),
      )
    where
      starts : (f : ℕ → ℕ) (a b n : ℕ) → a ≡ b
          → sum_by f (range_with_len a n) ≡ sum_by f (range_with_len b n)
      starts f a b n e = ap (λ x. sum_by f (range_with_len x n)) e

      lengths : (f : ℕ → ℕ) (n m : ℕ) → n ≡ m
          → sum_by f (range_with_len 0 n) ≡ sum_by f (range_with_len 0 m)
      lengths f n m e = ap (λ x. sum_by f (range_with_len 0 x)) e
