-- The bound by multipliers of jobs and arcs in every environment.
use Rattle.std.proofs.Common.{◌≡◌, Bool, true, false, ℕ, ◌≤◌, ◌<◌, ◌||◌, ◌&&◌, not, List, cond, refl, ◌≤ℤ◌, IsTrue}
use Rattle.std.proofs.lemmas.Bool.{false≢true, true≢false, and_parts, or_right}
use Rattle.tf_model.specs.declared.problem.Env.{Env}
use Rattle.tf_model.specs.declared.problem.Env.TheVariants.{Single, Parallel, Uniform, Unrelated, Flow, OpenShop, JobShop}
use Rattle.tf_model.specs.ClassTable.{is_single_env, is_parallel_env}
use Rattle.tf_posed.specs.ProblemData.{ProblemData, IsProblemSound, is_covered_env, is_covered_goal}
use Rattle.tf_posed.specs.ProblemCost.{problem_cost, IsLowerBound}
use Rattle.tf_problem.specs.ProblemBounds.{is_by_machine, is_tardy_goal, AreMultipliers, arc_multiplier_value, shared_multiplier_value, any_multiplier_value}
use Rattle.tf_problem.proofs.Multipliers.{arc_multipliers-bound}
use Rattle.tf_problem.proofs.SharedMultipliers.{shared_multipliers-bound}

by_machine : (e : Env) → IsTrue (is_covered_env e) → is_parallel_env e ≡ false → IsTrue (is_by_machine e)
by_machine Single h other = refl
by_machine Parallel h other = absurd (true≢false other)
by_machine Uniform h other = absurd (false≢true h)
by_machine Unrelated h other = absurd (false≢true h)
by_machine Flow h other = refl
by_machine OpenShop h other = refl
by_machine JobShop h other = refl

pub any_multipliers-bound : (k : ProblemData) → IsProblemSound k
    → IsTrue (is_tardy_goal k.problem.goal) → (a : ℕ) → a < k.machines → (v l : List ℕ) (q : ℕ)
    → 1 ≤ q → AreMultipliers k v l q → IsLowerBound k (any_multiplier_value k a v l q)
any_multipliers-bound k sound sums a in' v l q some are rows fits = by (is_parallel_env k.problem.env) refl
  where
    by : (b : Bool) → is_parallel_env k.problem.env ≡ b
        → cond b (shared_multiplier_value k v l q) (arc_multiplier_value k a v l q) ≤ℤ problem_cost k rows
    by true is_so =
        shared_multipliers-bound k sound
        (or_right (is_single_env k.problem.env) (is_parallel_env k.problem.env) is_so) sums v l q some are
        rows fits
    by false other =
        arc_multipliers-bound k sound
        (by_machine k.problem.env
        (and_parts (is_covered_env k.problem.env) (is_covered_goal k.problem.goal)
        (and_parts (is_covered_env k.problem.env && is_covered_goal k.problem.goal)
        (not (k.problem.block || k.problem.rcrc)) sound.covered).0).0 other)
        sums a in' v l q some are rows fits
