use Rattle.std.proofs.Common.{◌≡◌, ℕ, ◌+◌, ◌-◌, ◌<◌, ap, inr, sym, ◌∙◌, subst, get_or, set, take, length, replicate, [], true, false, List, Bool, refl, arith, count_by, ◌==◌}
use Rattle.tf_model.specs.Distinct.{IsDistinct}
use Rattle.tf_posed.specs.ProblemData.{ProblemData, IsProblemJob}
use Rattle.tf_bound.proofs.Faults.{judged_bad, judged_twice, judged_more, judged_whole, stands_if}
use Rattle.tf_bound.proofs.Marks.{AreMarks, as_one, marks_more, distinct}
use Rattle.tf_bound.proofs.Steps.{all_whole}
use Rattle.std.proofs.lemmas.List.{take_all, get_or_default, get_or-replicate, length-replicate}
use Rattle.tf_bound.proofs.jobs.judged_marks.Goals as goal

pub returns-then-place-len-clause-fault : goal.returns-then-place-len-clause-fault
returns-then-place-len-clause-fault g c =
    inr (judged_bad c.args.task.now c.args.jobs.now c.loop-job.job-index c.job-item.result
    c.loop-job-test.true c.job-item.is c.loop-job.invariant.judged
    (omega (
      arith,
      c.place-place.ensures.value,
      c.place-place.ensures.from_one,
      c.if-place-len.true,
      c.len-in-loop-job.ensures,
      c.loop-job.invariant.marks.len,
    )))

pub returns-then-index-clause-fault : goal.returns-then-index-clause-fault
returns-then-index-clause-fault g c =
    let k = c.args.task.now in
    let x : ℕ = c.job-item.result in
    let seen : List Bool = c.loop-job.seen.items in
    let is : c.place-place.result ≡ x - 1 = c.place-place.ensures.value in
    let job : IsProblemJob k x = (
      omega (arith, c.place-place.ensures.from_one),
      omega (arith, is, c.if-place-len.false, c.len-in-loop-job.ensures, c.loop-job.invariant.marks.len),
    ) in
    let lt : c.place-place.result < length seen =
    omega (arith, c.if-place-len.false, c.len-in-loop-job.ensures) in
    let mark : get_or seen (x - 1) false ≡ true =
    ap (λ n. get_or seen n false) (sym is)
    ∙ get_or_default seen c.place-place.result false c.index.result.now lt
    ∙ sym c.index.ensures ∙ c.if-index.true in
    inr (judged_twice k c.args.jobs.now c.loop-job.job-index x c.loop-job-test.true c.job-item.is
    c.loop-job.invariant.judged job seen c.loop-job.invariant.marks mark)

pub loop-job-preserved : goal.loop-job-preserved
loop-job-preserved g c =
    let k = c.args.task.now in
    let x : ℕ = c.job-item.result in
    let i : ℕ = c.loop-job.job-index in
    let seen : List Bool = c.loop-job.seen.items in
    let is : c.place-place.result ≡ x - 1 = c.place-place.ensures.value in
    let job : IsProblemJob k x = (
      omega (arith, c.place-place.ensures.from_one),
      omega (arith, is, c.if-place-len.false, c.len-in-loop-job.ensures, c.loop-job.invariant.marks.len),
    ) in
    let lt : c.place-place.result < length seen =
    omega (arith, c.if-place-len.false, c.len-in-loop-job.ensures) in
    let mark : get_or seen (x - 1) false ≡ false =
    ap (λ n. get_or seen n false) (sym is)
    ∙ get_or_default seen c.place-place.result false c.index.result.now lt
    ∙ sym c.index.ensures ∙ c.if-index.false in
    record {
      judged = judged_more k c.args.jobs.now i x c.loop-job-test.true c.job-item.is
          c.loop-job.invariant.judged job seen c.loop-job.invariant.marks mark;
      marks = subst (λ (n : ℕ). AreMarks k (set seen n true) (take (i + 1) c.args.jobs.now)) (sym is)
          (marks_more k seen c.args.jobs.now i x c.loop-job-test.true c.job-item.is
          c.loop-job.invariant.marks job mark);
    }

pub returns-clause-fault : goal.returns-clause-fault
returns-clause-fault g c =
    judged_whole c.args.task.now c.args.jobs.now c.loop-job.job-index c.loop-job-test.false
    c.loop-job.invariant.judged

pub returns-clause-distinct : goal.returns-clause-distinct
returns-clause-distinct g c =
    let jobs = c.args.jobs.now in
    subst IsDistinct (take_all c.loop-job.job-index jobs c.loop-job-test.false)
    (distinct c.args.task.now c.loop-job.seen.items (take c.loop-job.job-index jobs)
    c.loop-job.invariant.marks)

pub returns-clause-known : goal.returns-clause-known
returns-clause-known g c =
    all_whole (IsProblemJob c.args.task.now) c.args.jobs.now c.loop-job.job-index
    c.loop-job-test.false c.loop-job.invariant.marks.known

-- no job is marked at first
none_marked : (k : ProblemData) (seen : List Bool) (n : ℕ) → n ≡ length k.jobs
    → seen ≡ replicate n false → AreMarks k seen []
none_marked k seen n size is = record {
  len = ap length is ∙ length-replicate n false ∙ size;
  known = λ i d lt. absurd (omega (arith, lt));
  marked = λ j job. sym (ap (λ xs. as_one (get_or xs (j - 1) false)) is
      ∙ ap as_one (get_or-replicate n (j - 1) false false (omega (arith, size, job.0, job.1))));
}

pub loop-job-init : goal.loop-job-init
loop-job-init g c = record {
  judged = refl;
  marks = none_marked c.args.task.now c.in-Ok.seen.items c.len.result c.len.ensures.value
      (c.in-Ok.ensures.items_if_clones_equal (λ y e. e));
}

pub returns-clause-marks : goal.returns-clause-marks
returns-clause-marks g c =
    let jobs = c.args.jobs.now in
    let marks = c.loop-job.invariant.marks in
    record {
      len = marks.len;
      sides = λ j job. sym (stands_if j jobs (get_or c.loop-job.seen.items (j - 1) false)
          (ap (count_by (λ i. j == i)) (sym (take_all c.loop-job.job-index jobs c.loop-job-test.false))
          ∙ marks.marked j job));
    }
