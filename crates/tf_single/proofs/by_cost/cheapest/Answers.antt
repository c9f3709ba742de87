use Rattle.std.proofs.Common.{◌≡◌, ℕ, ◌<◌, List, length, get_or, set, slice_index, refl, sym, ap, subst, ◌∙◌, arith, rules}
use Rattle.std.proofs.lemmas.Int.{ints, to_z-of_z}
use Rattle.std.proofs.lemmas.List.{length-map}
use Rattle.std.proofs.lemmas.List.Elements.{All-set}
use mir.Syntax.{w64}
use mir.Val.{SFits, to_z, of_z}
use Rattle.tf_model.specs.Cost.{price}
use Rattle.tf_model.specs.SchedulingTask.{IsJob}
use Rattle.tf_single.specs.declared.costed_job.CostedJob.{CostedJob}
use Rattle.tf_single.specs.CostedJob.{HasLevel, jobs_of}
use Rattle.tf_single.proofs.Cheapest.{cheapest_first, cheapest_kept, cheapest_taken, job_at, job_read, jobs_kept, number_less, number_no_less}
use Rattle.tf_single.proofs.by_cost.cheapest.Goals.{then-cost-least-2, then-cost-least-2-via-then-cost-least-2, then-cost-least-2-via-else-cost-least-2+then-lt, else-cost-least-2+else-lt}
use Rattle.tf_single.proofs.by_cost.cheapest.Goals as goal

pub cost_at-least-requires-clause-job : goal.cost_at-least-requires-clause-job
cost_at-least-requires-clause-job g c =
    let all = c.args.free.now in
    subst (IsJob c.args.task.now)
    (sym (job_read all (jobs_of all) 0 c.index-free-0-2.result refl c.requires.some))
    (c.requires.known 0 0 (omega (arith, c.requires.some, length-map all (λ x. x.job))))

pub cost_at-least-requires-clause-level : goal.cost_at-least-requires-clause-level
cost_at-least-requires-clause-level g c =
    c.requires.levels 0 c.index-free-0-2.result c.requires.some

pub cost_at-cost-requires-clause-level : goal.cost_at-cost-requires-clause-level
cost_at-cost-requires-clause-level g c =
    c.loop-k.invariant.levels c.loop-k.k c.index-free-k.result
    (omega (arith, c.loop-k-test.true, c.loop-k.auto.free))

pub loop-k-init : goal.loop-k-init
loop-k-init g c =
    let all = c.args.free.now in
    let task = c.args.task.now in
    let new = c.cost_at-least.new.self in
    let same : jobs_of (set all 0 new) ≡ jobs_of all =
    jobs_kept all (jobs_of all) 0 new c.index-free-0-2.result refl c.cost_at-least.ensures.job in
    let at : (d : CostedJob) → (get_or all 0 d).job ≡ slice_index (jobs_of (set all 0 new)) 0 = λ d.
    job_read all (jobs_of all) 0 d refl c.requires.some ∙ ap (λ xs. slice_index xs 0) (sym same) in
    record {
      jobs = refl;
      levels = All-set (HasLevel task c.args.end) all 0 new c.cost_at-least.ensures.level
          c.requires.levels;
      last = at c.index-free-0.result;
      cheapest = cheapest_first task _ c.args.end _
          (omega (arith, c.requires.some, length-map all (λ x. x.job), ap length same))
          (to_z-of_z w64 c.cost_at-least.result (search rules) ∙ c.cost_at-least.ensures.value
          ∙ ap (λ j. price task j c.args.end) (at c.index-free-0-2.result));
    }

pub cost_at-cost-requires-clause-job : goal.cost_at-cost-requires-clause-job
cost_at-cost-requires-clause-job g c =
    let free = c.loop-k.free in
    let k = c.loop-k.k in
    let all = c.args.free.now in
    let inside : k < length free = omega (arith, c.loop-k-test.true, c.loop-k.auto.free) in
    let jobs : jobs_of free ≡ jobs_of all =
    c.loop-k.invariant.jobs
    ∙ jobs_kept all (jobs_of all) 0 c.cost_at-least.new.self c.index-free-0-2.result refl
    c.cost_at-least.ensures.job in
    let len : length free ≡ length (jobs_of all) =
    sym (length-map free (λ x. x.job)) ∙ ap length jobs in
    subst (IsJob c.args.task.now)
    (sym (job_read free (jobs_of all) k c.index-free-k.result jobs inside))
    (c.requires.known k 0 (omega (arith, inside, len)))

pub loop-k-preserved-then-cost-least : goal.loop-k-preserved-then-cost-least
loop-k-preserved-then-cost-least g c =
    let free = c.loop-k.free in
    let k = c.loop-k.k in
    let task = c.args.task.now in
    let inside : k < length free = omega (arith, c.loop-k-test.true, c.loop-k.auto.free) in
    let small : SFits w64 c.cost_at-cost.result = search rules in
    let cost : to_z w64 (of_z w64 c.cost_at-cost.result) ≡ c.cost_at-cost.result =
    to_z-of_z w64 c.cost_at-cost.result small in
    let is =
    c.cost_at-cost.ensures.value
    ∙ ap (λ j. price task j c.args.end)
    (job_read free _ k c.index-free-k.result c.loop-k.invariant.jobs inside) in
    record {
      jobs = jobs_kept free _ k c.cost_at-cost.new.self c.index-free-k.result
          c.loop-k.invariant.jobs c.cost_at-cost.ensures.job;
      levels = All-set (HasLevel task c.args.end) free k c.cost_at-cost.new.self
          c.cost_at-cost.ensures.level c.loop-k.invariant.levels;
      cheapest = cheapest_kept task _ c.args.end k c.loop-k.place _ c.cost_at-cost.result
          c.loop-k.invariant.cheapest is (omega (arith, ints, cost, c.if-cost-least.true))
          (λ same. absurd (omega (arith, ints, cost, c.if-cost-least.true, same)));
      last = c.loop-k.invariant.last;
    }

pub loop-k-preserved : goal.loop-k-preserved
loop-k-preserved g c =
    let free = c.loop-k.free in
    let k = c.loop-k.k in
    let task = c.args.task.now in
    let inside : k < length free = omega (arith, c.loop-k-test.true, c.loop-k.auto.free) in
    let small : SFits w64 c.cost_at-cost.result = search rules in
    let cost : to_z w64 (of_z w64 c.cost_at-cost.result) ≡ c.cost_at-cost.result =
    to_z-of_z w64 c.cost_at-cost.result small in
    let is =
    c.cost_at-cost.ensures.value
    ∙ ap (λ j. price task j c.args.end)
    (job_read free _ k c.index-free-k.result c.loop-k.invariant.jobs inside) in
    let js : List ℕ = jobs_of (set c.args.free.now 0 c.cost_at-least.new.self) in
    let own = job_at free js k c.cost_at-cost.new.self c.index-free-k.result
    c.index-free-k-in-loop-k.result c.loop-k.invariant.jobs inside c.cost_at-cost.ensures.job in
    record {
      jobs = jobs_kept free _ k c.cost_at-cost.new.self c.index-free-k.result
          c.loop-k.invariant.jobs c.cost_at-cost.ensures.job;
      levels = All-set (HasLevel task c.args.end) free k c.cost_at-cost.new.self
          c.cost_at-cost.ensures.level c.loop-k.invariant.levels;
      cheapest = elim c.if-cost-least-2.branch [
        | then-cost-least-2 w ↦ rw (w.place-is, w.least-is, cost)
            (cheapest_taken task _ c.args.end k c.loop-k.place _ c.cost_at-cost.result
            c.loop-k.invariant.cheapest
            (omega (
              arith,
              inside,
              length-map free (λ x. x.job),
              ap length c.loop-k.invariant.jobs,
            )) is (omega (arith, ints, cost, c.if-cost-least.false))
            (λ same. elim w.then-cost-least-2.branch [
              | then-cost-least-2-via-then-cost-least-2 v ↦
                  absurd (omega (arith, ints, cost, v.if-cost-least-2.true, same))
              | then-cost-least-2-via-else-cost-least-2+then-lt v ↦
                  let less = number_less c.loop-k.last
                  (get_or (set free k c.cost_at-cost.new.self) k c.index-free-k-in-loop-k.result).job
                  v.lt.result v.lt.ensures v.if-lt.true in
                  omega (arith, own, c.loop-k.invariant.last, less)
            ]))
        | else-cost-least-2+else-lt w ↦ rw (w.place-is, w.least-is)
            (cheapest_kept task _ c.args.end k c.loop-k.place _ c.cost_at-cost.result
            c.loop-k.invariant.cheapest is (omega (arith, ints, cost, w.if-cost-least-2.false))
            (λ same.
            let least = number_no_less c.loop-k.last
            (get_or (set free k c.cost_at-cost.new.self) k c.index-free-k-in-loop-k.result).job
            w.lt.result w.lt.ensures w.if-lt.false in
            omega (arith, own, c.loop-k.invariant.last, least)))
      ];
      last = elim c.if-cost-least-2.branch [
        | then-cost-least-2 w ↦ rw (w.place-is, w.last-is) own
        | else-cost-least-2+else-lt w ↦ rw (w.place-is, w.last-is) c.loop-k.invariant.last
      ];
    }

pub returns-clause-within : goal.returns-clause-within
returns-clause-within g c =
    omega (
      arith,
      c.loop-k.invariant.cheapest.within,
      ap length c.loop-k.invariant.jobs,
      length-map c.loop-k.free (λ x. x.job),
    )

pub returns-clause-cost : goal.returns-clause-cost
returns-clause-cost g c = rw c.loop-k.invariant.jobs c.loop-k.invariant.cheapest.cost

pub returns-clause-cheapest : goal.returns-clause-cheapest
returns-clause-cheapest g c = λ i lt.
    rw c.loop-k.invariant.jobs
    (c.loop-k.invariant.cheapest.below i (omega (arith, lt, c.loop-k-test.false, c.loop-k.auto.free)))

pub returns-clause-ties : goal.returns-clause-ties
returns-clause-ties g c = λ i lt.
    rw c.loop-k.invariant.jobs
    (c.loop-k.invariant.cheapest.ties i (omega (arith, lt, c.loop-k-test.false, c.loop-k.auto.free)))

pub returns-clause-jobs : goal.returns-clause-jobs
returns-clause-jobs g c =
    c.loop-k.invariant.jobs
    ∙ jobs_kept c.args.free.now _ 0 c.cost_at-least.new.self c.index-free-0-2.result refl
    c.cost_at-least.ensures.job

pub returns-clause-levels : goal.returns-clause-levels
returns-clause-levels g c = c.loop-k.invariant.levels
