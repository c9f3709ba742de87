use Rattle.std.proofs.Common.{◌≡◌, ℕ, suc, ◌+◌, ◌-◌, ◌<◌, length, Ok, ap, sym, subst, ◌∙◌, arith}
use Rattle.std.proofs.lemmas.List.{length-set}
use Rattle.std.proofs.lemmas.Result.{err_from_is_err_and}
use Rattle.tf_read.specs.Faults.{Fails}
use Rattle.tf_routes.specs.JobShop.{step_first}
use Rattle.tf_routes.specs.Marks.{AreMarks}
use Rattle.tf_routes.specs.TextLeft.{words_of}
use Rattle.tf_routes.proofs.Marked.{mark}
use Rattle.tf_routes.proofs.ShopSteps.{route_done, route_fails, route_next}
use Rattle.tf_routes.proofs.shop_steps.route_first.Goals as goal

pub returns-in_err-step : goal.returns-in_err-step
returns-in_err-step g c =
    let steps = c.loop.steps.items in
    let m = c.args.machines in
    let marked = subst (AreMarks steps) (sym c.deref.ensures.value) c.loop.invariant.marks in
    let count : length c.deref.result.now ≡ m =
    ap length c.deref.ensures.value ∙ c.loop.invariant.count in
    let left : m - c.loop.counter ≡ suc (m - (c.loop.counter + 1)) = omega arith in
    let p =
    err_from_is_err_and c.from_residual-in_err-step.result c.from_residual-in_err-step.ensures.1 in
    rw (p.1, p.2)
    (route_fails m _ _ steps _ _ _ left
    (subst (λ (n : ℕ). Fails c.in_err-step.field-0.0 (step_first n steps (words_of c.loop.rest)))
    count (c.in_err-step.ensures.step steps marked))
    c.loop.invariant.same)

pub loop-preserved : goal.loop-preserved
loop-preserved g c =
    let steps = c.loop.steps.items in
    let marks = c.loop.marks.items in
    let m = c.args.machines in
    let marked = subst (AreMarks steps) (sym c.deref.ensures.value) c.loop.invariant.marks in
    let count : length c.deref.result.now ≡ m =
    ap length c.deref.ensures.value ∙ c.loop.invariant.count in
    let left : m - c.loop.counter ≡ suc (m - (c.loop.counter + 1)) = omega arith in
    let within : c.in_ok-step.step.machine < length marks =
    omega (arith, c.in_ok-step.ensures.within, ap length c.deref.ensures.value) in
    record {
      marks = mark steps _ c.in_ok-step.step marks c.in_ok-push.ensures.items within
          c.loop.invariant.marks;
      count = length-set marks _ _ ∙ c.loop.invariant.count;
      same = route_next m _ _ steps _ _ _ _ _ left c.in_ok-push.ensures.items
          (ap (λ n. step_first n steps (words_of c.loop.rest)) (sym count)
          ∙ c.in_ok-step.ensures.step steps marked)
          c.loop.invariant.same;
    }

pub returns : goal.returns
returns g c =
    let over : c.args.machines - c.loop.counter ≡ 0 = omega arith in
    route_done c.args.machines _ c.loop.steps.items _ _ over c.loop.invariant.same
    ∙ ap (λ ss. Ok (ss, words_of c.loop.rest)) (sym c.new.ensures)
