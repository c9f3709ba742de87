use Rattle.std.proofs.Common.{◌≡◌, ℕ, ◌+◌, ◌-◌, ◌<◌, ◌==◌, cond, List, [], ◌∷◌, ◌++◌, length, get_or, set, drop, count_by, refl, sym, ap, ◌∙◌, subst, arith, All}
use Rattle.std.proofs.lemmas.List.{drop_all}
use Rattle.std.proofs.lemmas.List.Elements.{All-take, All-drop}
use Rattle.std.proofs.lemmas.List.Sums.{sum_by-drop_more}
use Rattle.std.proofs.lemmas.List.Sorted.{IsPermutation-trans, IsPermutation-to_front}
use Rattle.tf_model.specs.SchedulingTask.{SchedulingTask, IsJob}
use Rattle.tf_single.specs.ArcsInto.{arcs_between}
use Rattle.tf_single.specs.Progress.{of_job}
use Rattle.tf_single.proofs.ArcCounts.{read}
use Rattle.tf_single.proofs.Open.{open_freed, open_held, open_moved, open_pending, some_left}
use Rattle.tf_single.proofs.backward.Open.release.Goals as goal
use Rattle.tf_single.proofs.backward.Open.release.Goals.{then-left-eq0+in_ok-add, else-left-eq0}

-- how often each job stands in the rest of the list
abbrev pending : List ℕ → ℕ → ℕ → ℕ
pending list n i = count_by (λ b. b == i) (drop n list)

-- the next job stands in the rest once more than in what is left behind it
pending_less : (list : List ℕ) (n b : ℕ) → n < length list → b ≡ get_or list n b → (i : ℕ)
    → pending list n i ≡ cond (b == i) 1 0 + pending list (n + 1) i
pending_less list n b lt at i =
    sum_by-drop_more (λ a. cond (a == i) 1 0) list n b lt
    ∙ ap (λ a. cond (a == i) 1 0 + pending list (n + 1) i) (sym at)

pub loop-before-init : goal.loop-before-init
loop-before-init g c =
    let k : SchedulingTask = c.args.task.now in
    let list : List ℕ = c.predecessors-before-items.result.now in
    record {
      taken = refl;
      work = refl;
      known = subst (All (IsJob k)) (sym c.predecessors-before-items.ensures)
          (All-take (IsJob k) _ _ (All-drop (IsJob k) _ c.args.arcs.now.froms.items
          c.requires.arcs.known));
      now = open_pending k c.args.self.now.taken.items
          (arcs_between k.arcs (length k.arcs) c.args.job) (pending list 0)
          c.args.self.now.counts.items (g.F.FreeJobs.jobs_of c.args.self.now.free) c.requires.now
          (λ i. sym (c.requires.arcs.each c.args.job i c.requires.job)
          ∙ ap (count_by (λ b. b == i)) (sym c.predecessors-before-items.ensures));
      kept = c.requires.kept;
    }

pub overflow_sub-left : goal.overflow_sub-left
overflow_sub-left g c =
    let k : SchedulingTask = c.args.task.now in
    let list : List ℕ = c.predecessors-before-items.result.now in
    let n : ℕ = c.loop-before.before-index in
    let b : ℕ = c.before-item.result in
    let now = c.loop-before.invariant.now in
    let job : IsJob k b = subst (IsJob k) (sym c.before-item.is)
    (c.loop-before.invariant.known n b c.loop-before-test.true) in
    let counts : List ℕ = c.loop-before.self.counts.items in
    omega (
      arith,
      some_left k c.loop-before.self.taken.items (pending list n) (pending list (n + 1)) counts
          (g.F.FreeJobs.jobs_of c.loop-before.self.free) b job
          (pending_less list n b c.loop-before-test.true c.before-item.is) now,
      read k counts b c.place-place.result c.index.result.now now.len job c.place-place.ensures.value
          c.index.ensures,
    )

pub loop-before-preserved : goal.loop-before-preserved
loop-before-preserved g c =
    let k : SchedulingTask = c.args.task.now in
    let list : List ℕ = c.predecessors-before-items.result.now in
    let n : ℕ = c.loop-before.before-index in
    let b : ℕ = c.before-item.result in
    let now = c.loop-before.invariant in
    let job : IsJob k b = subst (IsJob k) (sym c.before-item.is)
    (now.known n b c.loop-before-test.true) in
    let taken : List ℕ = c.loop-before.self.taken.items in
    let counts : List ℕ = c.loop-before.self.counts.items in
    let free : List ℕ = g.F.FreeJobs.jobs_of c.loop-before.self.free in
    let left : ℕ = c.index.result.now - 1 in
    let less : left ≡ of_job counts b - 1 =
    ap (λ m. m - 1) (read k counts b c.place-place.result c.index.result.now now.now.len job
    c.place-place.ensures.value c.index.ensures) in
    let behind : (i : ℕ) → pending list n i ≡ cond (b == i) 1 0 + pending list (n + 1) i =
    pending_less list n b c.loop-before-test.true c.before-item.is in
    elim c.if-left-eq0.branch [
      | then-left-eq0+in_ok-add w ↦
          let others : List ℕ = g.F.FreeJobs.jobs_of w.add.new.self in
          rw (w.self-is, c.place-place.ensures.value)
          (record {
            taken = now.taken;
            work = now.work;
            known = now.known;
            now = open_moved k taken (pending list (n + 1)) (set counts (b - 1) left)
                (free ++ b ∷ []) others
                (open_freed k taken (pending list n) (pending list (n + 1)) counts free b job behind
                now.now left less w.if-left-eq0.true)
                (IsPermutation-trans (free ++ b ∷ []) (b ∷ free) others
                (IsPermutation-to_front free b) w.in_ok-add.ensures.jobs);
            kept = w.in_ok-add.ensures.kept c.loop-before.self.work now.kept;
          })
      | else-left-eq0 w ↦
          rw (w.self-is, c.place-place.ensures.value)
          (record {
            taken = now.taken;
            work = now.work;
            known = now.known;
            now = open_held k taken (pending list n) (pending list (n + 1)) counts free b job behind
                now.now left less w.if-left-eq0.false;
            kept = now.kept;
          })
    ]

pub returns-clause-now : goal.returns-clause-now
returns-clause-now g c =
    let k : SchedulingTask = c.args.task.now in
    let list : List ℕ = c.predecessors-before-items.result.now in
    open_pending k c.loop-before.self.taken.items (pending list c.loop-before.before-index)
    (λ _. 0) c.loop-before.self.counts.items (g.F.FreeJobs.jobs_of c.loop-before.self.free)
    c.loop-before.invariant.now
    (λ i. ap (count_by (λ b. b == i))
    (drop_all c.loop-before.before-index list (omega (arith, c.loop-before-test.false))))
