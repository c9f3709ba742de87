use Rattle.std.proofs.Common.{◌≡◌, ◌+◌, ◌<◌, false, ℕ, length, slice_index, List, ap, sym, ◌∙◌, arith}
use Rattle.std.specs.List.{range_with_len}
use Rattle.std.proofs.lemmas.List.FromFn.{length-range_with_len, get_or-range_with_len}
use Rattle.tf_model.specs.declared.problem.Problem.{Problem}
use Rattle.tf_posed.specs.ProblemData.{problem_job, is_job_shop}
use Rattle.tf_bound.specs.Steps.{steps_of}
use Rattle.tf_bound.proofs.StepsOf.{steps_elsewhere, steps_timed, steps_below}
use Rattle.tf_bound.proofs.task.ProblemTask.step.Goals as goal

pub returns-else-is_job_shop-clause-value : goal.returns-else-is_job_shop-clause-value
returns-else-is_job_shop-clause-value g c =
    let k = c.args.self.now in
    let x = problem_job k c.args.job in
    let other : is_job_shop k.problem.env ≡ false =
    ap (λ (p : Problem). is_job_shop p.env) (sym c.problem.ensures.value)
    ∙ sym c.is_job_shop.ensures ∙ c.if-is_job_shop.false in
    let is : steps_of k c.args.job ≡ range_with_len 0 (length x.times) =
    steps_elsewhere k.problem.env other x in
    let lt : c.args.place < length x.times =
    omega (
      arith,
      c.requires.place,
      ap (λ (xs : List ℕ). length xs) is,
      length-range_with_len 0 (length x.times),
    ) in
    sym (ap (λ (xs : List ℕ). slice_index xs c.args.place) is
    ∙ get_or-range_with_len 0 (length x.times) c.args.place 0 lt ∙ from_none c.args.place)
  where
    from_none : (n : ℕ) → 0 + n ≡ n
    from_none n = omega arith

pub returns-else-is_job_shop-clause-timed : goal.returns-else-is_job_shop-clause-timed
returns-else-is_job_shop-clause-timed g c =
    omega (
      arith,
      returns-else-is_job_shop-clause-value g c,
      steps_timed c.args.self.now c.problem.ensures.sized c.args.job c.requires.job c.args.place 0
          c.requires.place,
    )

pub returns-else-is_job_shop-clause-within : goal.returns-else-is_job_shop-clause-within
returns-else-is_job_shop-clause-within g c =
    omega (
      arith,
      returns-else-is_job_shop-clause-value g c,
      steps_below c.args.self.now c.problem.ensures.sized c.args.job c.requires.job c.args.place 0
          c.requires.place,
    )
