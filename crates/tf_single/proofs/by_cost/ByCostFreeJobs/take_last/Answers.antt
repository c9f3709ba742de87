use Rattle.std.proofs.Common.{◌≡◌, ℕ, ◌≤ℤ◌, ◌<◌, ◌++◌, ◌∷◌, List, length, slice_index, slice_index_or, take, drop, refl, sym, ap, ◌∙◌, subst, arith, rules}
use Rattle.std.proofs.lemmas.Int.{to_z-of_z}
use mir.Syntax.{w64}
use Rattle.std.specs.List.{swap_remove, Contains}
use Rattle.std.specs.List.Sorted.{IsPermutation}
use Rattle.std.proofs.Math.Seq.{take-append_seam}
use Rattle.std.proofs.lemmas.List.{get_or_default, length-map}
use Rattle.std.proofs.lemmas.List.Elements.{All-tail}
use Rattle.std.proofs.lemmas.List.Sorted.{All-permutation, IsPermutation-map, IsPermutation-swap_remove}
use Rattle.tf_model.specs.Cost.{price}
use Rattle.tf_single.specs.declared.costed_job.CostedJob.{CostedJob}
use Rattle.tf_single.specs.CostedJob.{HasLevel, jobs_of}
use Rattle.tf_single.proofs.Cheapest.{job_read}
use Rattle.tf_single.proofs.by_cost.ByCostFreeJobs.take_last.Goals as goal

pub returns : goal.returns
returns g c =
    let k = c.args.task.now in
    let work : ℕ = c.args.work in
    let place : ℕ = c.cheapest-place.result.0 in
    let found : CostedJob = c.swap_remove.result in
    let before : List CostedJob = c.args.self.now.free.items in
    let free : List CostedJob = c.cheapest-place.new.free in
    let others : List CostedJob = drop (length free) before in
    let lent : ◌≡◌ {A = List CostedJob} c.as_mut_slice.result.now before =
    c.as_mut_slice.ensures.value in
    let jobs : jobs_of free ≡ jobs_of before =
    c.cheapest-place.ensures.jobs ∙ ap jobs_of lent in
    let whole : take c.args.self.now.free.len (free ++ others) ≡ free =
    ap (λ n. take n (free ++ others))
    (omega (
      arith,
      ap length jobs,
      length-map free (λ x. x.job),
      length-map before (λ x. x.job),
      c.args.self.now.free.ok.0,
    ))
    ∙ take-append_seam free others in
    let within : place < length free = c.cheapest-place.ensures.within in
    let value =
    subst (λ xs. found ≡ slice_index_or xs place found) whole c.swap_remove.ensures.value in
    let rest : List CostedJob = c.swap_remove.new.self.items in
    let removed =
    subst (λ xs. rest ≡ swap_remove xs place found) whole c.swap_remove.ensures.items in
    let moved : IsPermutation free (found ∷ rest) =
    subst (λ xs. IsPermutation free (found ∷ xs)) (sym removed)
    (IsPermutation-swap_remove free place found within value) in
    let at_place : found.job ≡ slice_index (jobs_of free) place =
    ap (λ x. x.job) value ∙ job_read free (jobs_of free) place found refl within in
    let found_at : (j : ℕ) (at : Contains (jobs_of before) j)
    → slice_index (jobs_of free) at.0 ≡ j = λ j at.
    ap (λ js. slice_index js at.0) jobs ∙ get_or_default (jobs_of before) at.0 0 j at.1
    ∙ at.2 in
    let found_in : (j : ℕ) (at : Contains (jobs_of before) j) → at.0 < length free = λ j at.
    omega (arith, at.1, ap length jobs, length-map free (λ x. x.job)) in
    rw (to_z-of_z w64 c.cheapest-place.result.1 (search rules))
    (record {
      jobs = subst (λ js. IsPermutation js (found.job ∷ jobs_of rest)) jobs
          (IsPermutation-map (λ x. x.job) free (found ∷ rest) moved);
      cost = c.cheapest-place.ensures.cost ∙ ap (λ j. price k j work) (sym at_place);
      cheapest = λ j at.
          let here = found_at j at in
          let inside = found_in j at in
          subst (λ z. c.cheapest-place.result.1 ≤ℤ price k z work) here
          (c.cheapest-place.ensures.cheapest at.0 inside);
      ties = λ j at same.
          let here = found_at j at in
          let least : price k (slice_index (jobs_of free) at.0) work
          ≡ c.cheapest-place.result.1 = ap (λ z. price k z work) here ∙ same in
          omega (arith, here, at_place, c.cheapest-place.ensures.ties at.0 (found_in j at) least);
      kept = λ end le. (
        c.requires.kept.0,
        λ n d h e from to small.
            All-tail (HasLevel k work) found rest
            (All-permutation (HasLevel k work) free (found ∷ rest) moved
            c.cheapest-place.ensures.levels) n d h e from (omega (arith, to, le)) small,
      );
    })
