use Rattle.std.proofs.Common.{◌≡◌, ◌-◌, ◌<◌, ◌≤◌, ℕ, List, [], ◌∷◌, ◌++◌, cond, Option, None, Some, length, get_or, set, drop, sym, ap, ◌∙◌, subst, arith, Contains}
use Rattle.std.proofs.lemmas.List.{get_or_default, length-set, length-drop, take_all}
use Rattle.tf_model.specs.SchedulingTask.{SchedulingTask, IsJob}
use Rattle.tf_model.specs.Cycle.{IsForbiddingCycle}
use Rattle.tf_model.proofs.Cycles.{forbids}
use Rattle.tf_single.specs.FirstCycle.{IsWalkedCycle}
use Rattle.tf_single.specs.Successors.{IsListed}
use Rattle.std.proofs.lemmas.List.Sums.{sum_by-set}
use Rattle.tf_single.proofs.Walk.{is_unmet, AreMet, ArePlaced, steps_push, steps_close, met_push, walk_push, walk_close, placed_push, placed_once}
use Rattle.tf_single.proofs.cycle.walk.Goals as goal

-- what is read for a job
place_is : (places : List (Option ℕ)) (j n : ℕ) (found read : Option ℕ) → n ≡ j - 1
    → n < length places → found ≡ get_or places n found → found ≡ read
    → get_or places (j - 1) None ≡ read
place_is places j n found read same lt at is =
    ap (λ m. get_or places m None) (sym same)
    ∙ sym (get_or_default places n found None lt) ∙ sym at ∙ is

-- the place that is read for a job
place_read : (places : List (Option ℕ)) (j n : ℕ) (found : Option ℕ) (start : ℕ) → n ≡ j - 1
    → n < length places → found ≡ get_or places n found → found ≡ Some start
    → get_or places (j - 1) None ≡ Some start
place_read places j n found start same lt read is =
    place_is places j n found (Some start) same lt read is

pub walk-smaller : goal.walk-smaller
walk-smaller g c =
    let places : List (Option ℕ) = c.walk.places.items in
    let place : ℕ = c.place-place.result in
    let job = c.walk.invariant.job in
    let inside : place < length places =
    omega (arith, c.walk.invariant.len, c.place-place.ensures.value, job.0, job.1) in
    let before : get_or places place None ≡ None =
    sym (get_or_default places place c.index.result.now None inside) ∙ sym c.index.ensures
    ∙ c.in_default.is in
    let one : ◌≡◌ {A = ℕ} (cond (is_unmet (get_or places place None)) 1 0) 1 =
    ap (λ o. cond (is_unmet o) 1 0) before in
    omega (
      arith,
      one,
      sum_by-set (λ o. cond (is_unmet o) 1 0) places place (Some c.len-in-walk.result) None inside,
    )

pub offset_bounds-as_slice-start : goal.offset_bounds-as_slice-start
offset_bounds-as_slice-start g c =
    let job = c.walk.invariant.job in
    let at = place_read c.walk.places.items c.walk.job c.place-place.result c.index.result.now
    c.in-Some.start c.place-place.ensures.value
    (omega (arith, c.walk.invariant.len, c.place-place.ensures.value, job.0, job.1)) c.index.ensures
    c.in-Some.is in
    omega (
      arith,
      (c.walk.invariant.met c.walk.job c.in-Some.start job at).0,
      ap length c.as_slice.ensures.value,
      c.as_slice.type_inv,
    )

pub slice_bounds-to_vec-count : goal.slice_bounds-to_vec-count
slice_bounds-to_vec-count g c =
    let job = c.walk.invariant.job in
    let at = place_read c.walk.places.items c.walk.job c.place-place.result c.index.result.now
    c.in-Some.start c.place-place.ensures.value
    (omega (arith, c.walk.invariant.len, c.place-place.ensures.value, job.0, job.1)) c.index.ensures
    c.in-Some.is in
    omega (
      arith,
      (c.walk.invariant.met c.walk.job c.in-Some.start job at).0,
      ap length c.as_slice.ensures.value,
    )

pub slice_bounds-to_vec-start : goal.slice_bounds-to_vec-start
slice_bounds-to_vec-start g c =
    let job = c.walk.invariant.job in
    let at = place_read c.walk.places.items c.walk.job c.place-place.result c.index.result.now
    c.in-Some.start c.place-place.ensures.value
    (omega (arith, c.walk.invariant.len, c.place-place.ensures.value, job.0, job.1)) c.index.ensures
    c.in-Some.is in
    let within : c.in-Some.start ≤ length c.as_slice.result.now =
    omega (
      arith,
      (c.walk.invariant.met c.walk.job c.in-Some.start job at).0,
      ap length c.as_slice.ensures.value,
    ) in
    within

pub returns-in-Some-clause-forbids : goal.returns-in-Some-clause-forbids
returns-in-Some-clause-forbids g c =
    let k : SchedulingTask = c.args.task.now in
    let job = c.walk.invariant.job in
    let at = place_read c.walk.places.items c.walk.job c.place-place.result c.index.result.now
    c.in-Some.start c.place-place.ensures.value
    (omega (arith, c.walk.invariant.len, c.place-place.ensures.value, job.0, job.1)) c.index.ensures
    c.in-Some.is in
    let met = c.walk.invariant.met c.walk.job c.in-Some.start job at in
    let items : c.in_ok-to_vec.field-0.items ≡ drop c.in-Some.start c.walk.path.items =
    c.in_ok-to_vec.ensures.items_if_clones_equal (λ x y e. e)
    ∙ take_all (length c.as_slice.result.now - c.in-Some.start)
    (drop c.in-Some.start c.as_slice.result.now)
    (omega (arith, length-drop c.in-Some.start c.as_slice.result.now))
    ∙ ap (drop c.in-Some.start) c.as_slice.ensures.value in
    subst (IsForbiddingCycle k) (sym (c.new.ensures ∙ items))
    (forbids k c.len.ensures.sound (drop c.in-Some.start c.walk.path.items)
    (steps_close k c.walk.path.items c.walk.job c.in-Some.start c.walk.invariant.steps met.0
    met.1))

pub returns-in-Some-clause-walked : goal.returns-in-Some-clause-walked
returns-in-Some-clause-walked g c =
    let k : SchedulingTask = c.args.task.now in
    let job = c.walk.invariant.job in
    let at = place_read c.walk.places.items c.walk.job c.place-place.result c.index.result.now
    c.in-Some.start c.place-place.ensures.value
    (omega (arith, c.walk.invariant.len, c.place-place.ensures.value, job.0, job.1)) c.index.ensures
    c.in-Some.is in
    let met = c.walk.invariant.met c.walk.job c.in-Some.start job at in
    let items : c.in_ok-to_vec.field-0.items ≡ drop c.in-Some.start c.walk.path.items =
    c.in_ok-to_vec.ensures.items_if_clones_equal (λ x y e. e)
    ∙ take_all (length c.as_slice.result.now - c.in-Some.start)
    (drop c.in-Some.start c.as_slice.result.now)
    (omega (arith, length-drop c.in-Some.start c.as_slice.result.now))
    ∙ ap (drop c.in-Some.start) c.as_slice.ensures.value in
    let R : ℕ → ℕ → Type 0 = IsListed k c.args.next.now in
    subst (IsWalkedCycle c.args.first R) (sym (c.new.ensures ∙ items))
    (walk_close c.args.first R c.walk.path.items c.walk.job c.in-Some.start c.walk.invariant.walk
    met.0 met.1 (placed_once k c.walk.places.items c.walk.path.items c.walk.invariant.placed))

pub walk-preserved : goal.walk-preserved
walk-preserved g c =
    let k : SchedulingTask = c.args.task.now in
    let s : ℕ = c.walk.job in
    let x : ℕ = c.unwrap-job.result in
    let places : List (Option ℕ) = c.walk.places.items in
    let path : List ℕ = c.walk.path.items in
    let job : IsJob k s = c.walk.invariant.job in
    let next : get_or c.args.next.now (s - 1) None ≡ Some x =
    place_read c.args.next.now s c.place-place.result c.index-next-place.result x c.place-place.ensures.value
    (omega (arith, c.requires.successors.len, c.place-place.ensures.value, job.0, job.1))
    c.index-next-place.is c.unwrap-job.ensures in
    let step = c.requires.successors.each s x job next in
    let arc : Contains k.arcs (s, x) = step.0 in
    let known : IsJob k x =
    subst (λ (a : ℕ × ℕ). IsJob k a.1) arc.2
    (c.len.ensures.sound.arcs_in arc.0 (s, x) arc.1).1 in
    let size : length path ≡ c.len-in-walk.result =
    omega (arith, c.len-in-walk.ensures, c.walk.path.ok.0) in
    let met : AreMet k (set places c.place-place.result (Some c.len-in-walk.result))
    (path ++ s ∷ []) =
    subst (λ n. AreMet k (set places n (Some c.len-in-walk.result)) (path ++ s ∷ []))
    (sym c.place-place.ensures.value)
    (subst (λ n. AreMet k (set places (s - 1) (Some n)) (path ++ s ∷ [])) size
    (met_push k places path s c.walk.invariant.len job c.walk.invariant.met)) in
    let unmet : get_or places (s - 1) None ≡ None =
    place_is places s c.place-place.result c.index.result.now None c.place-place.ensures.value
    (omega (arith, c.walk.invariant.len, c.place-place.ensures.value, job.0, job.1)) c.index.ensures
    c.in_default.is in
    let placed : ArePlaced k (set places c.place-place.result (Some c.len-in-walk.result))
    (path ++ s ∷ []) =
    subst (λ n. ArePlaced k (set places n (Some c.len-in-walk.result)) (path ++ s ∷ []))
    (sym c.place-place.ensures.value)
    (subst (λ n. ArePlaced k (set places (s - 1) (Some n)) (path ++ s ∷ [])) size
    (placed_push k places path s c.walk.invariant.len job
    unmet c.walk.invariant.placed)) in
    rw c.in_ok-push.ensures.items (record {
      len = length-set places c.place-place.result (Some c.len-in-walk.result) ∙ c.walk.invariant.len;
      job = known;
      next = step.1;
      steps = steps_push k path s x c.walk.invariant.steps arc;
      met = met;
      walk = walk_push c.args.first (IsListed k c.args.next.now) path s x c.walk.invariant.walk
          (job, next);
      placed = placed;
    })
