use Rattle.std.proofs.Common.{◌≡◌, Bool, ℕ, ◌*◌, ◌^◌, pos, ◌-ℤ◌, ◌*ℤ◌, nat_le, SFits, to_z, of_z, ap, inr, sym, ◌∙◌, subst, rules}
use Rattle.std.specs.Int.{w128}
use Rattle.std.specs.List.{list_any}
use Rattle.std.proofs.lemmas.Int.{to_z-of_z}
use Rattle.std.proofs.lemmas.Result.{err_from_is_err_and}
use Rattle.tf_problem.specs.ProblemBounds.{moved, numerator, owed_dues, share_up}
use Rattle.tf_bound.specs.Faulted.{all_counted, are_multipliers_wide, too_large, IsFaultOrNoMemory, is_rest_wide, least_by}
use Rattle.tf_bound.specs.declared.fault.BoundFault.{BoundFault}
use Rattle.tf_bound.proofs.ArcValues.{least_same, listed, listed_len, value_is, wide_least}
use Rattle.tf_bound.proofs.Conditions.{is_large, is_small, not_large, or_first, or_none, or_second, wide_by}
use Rattle.tf_bound.proofs.multipliers.value_of.Goals as goal

pub least_of-requires-clause-len : goal.least_of-requires-clause-len
least_of-requires-clause-len g c =
    let k = c.args.task.now in
    listed_len k (moved k c.args.v.now c.args.arcs.now) c.deref.result.now
    (c.deref.ensures.value ∙ c.in_ok-weights.ensures.same ∙ c.requires.moved)

pub returns-in_err-weights-clause-fault : goal.returns-in_err-weights-clause-fault
returns-in_err-weights-clause-fault g c =
    let k = c.args.task.now in
    let wide : Bool = are_multipliers_wide k c.args.machine c.args.v.now c.args.arcs.now in
    let p = err_from_is_err_and c.from_residual.result c.from_residual.ensures.1 in
    rw p.1
    (subst (λ (e : BoundFault). IsFaultOrNoMemory (too_large wide) e) (sym p.2)
    (wide_by (list_any (nat_le (2 ^ 64)) c.args.weights.now) wide _
    (λ is. or_first _ _ (ap (list_any (nat_le (2 ^ 64))) (sym c.requires.moved) ∙ is))
    c.in_err-weights.ensures.fault))

pub returns-in_default-clause-fault : goal.returns-in_default-clause-fault
returns-in_default-clause-fault g c =
    inr (is_large _ (or_second _ _ (or_first _ _ (sym c.in_default.ensures.wide))))

pub returns-in_err-least-clause-fault : goal.returns-in_err-least-clause-fault
returns-in_err-least-clause-fault g c =
    let k = c.args.task.now in
    let a : ℕ = c.args.machine in
    let v = c.args.v.now in
    let l = c.args.arcs.now in
    let u = c.deref.result.now in
    let is = c.deref.ensures.value ∙ c.in_ok-weights.ensures.same ∙ c.requires.moved in
    let same : least_by k a (numerator u) l ≡ least_by k a (moved k v l) l =
    least_same k (numerator u) (moved k v l) (listed k (moved k v l) u is) a l in
    let wide : Bool = are_multipliers_wide k a v l in
    let p = err_from_is_err_and c.from_residual-in_err-least.result c.from_residual-in_err-least.ensures.1 in
    rw p.1
    (subst (λ (e : BoundFault). IsFaultOrNoMemory (too_large wide) e) (sym p.2)
    (wide_by (nat_le (2 ^ 128) (least_by k a (numerator u) l)) wide _
    (λ large. or_second _ _ (or_second _ _ (or_first _ _
    (wide_least (least_by k a (moved k v l) l) (ap (λ n. nat_le (2 ^ 128) n) (sym same) ∙ large)))))
    c.in_err-least.ensures.fault))

pub returns-in-Some-rest_of-clause-fault : goal.returns-in-Some-rest_of-clause-fault
returns-in-Some-rest_of-clause-fault g c =
    let k = c.args.task.now in
    let a : ℕ = c.args.machine in
    let v = c.args.v.now in
    let l = c.args.arcs.now in
    let u = c.deref.result.now in
    let is = c.deref.ensures.value ∙ c.in_ok-weights.ensures.same ∙ c.requires.moved in
    let same : c.in_ok-least.least ≡ least_by k a (moved k v l) l =
    c.in_ok-least.ensures.value
    ∙ least_same k (numerator u) (moved k v l) (listed k (moved k v l) u is) a l in
    let owed_fits : SFits w128 c.in-Some.owed = search rules in
    let owed : to_z w128 (of_z w128 c.in-Some.owed) ≡ owed_dues k v =
    to_z-of_z w128 c.in-Some.owed owed_fits ∙ c.in-Some.ensures.value in
    not_large _
    (or_none _ _
    (ap (list_any (nat_le (2 ^ 64))) (sym c.requires.moved) ∙ is_small _ c.in_ok-weights.ensures.fault)
    (or_none _ _ (sym c.in-Some.ensures.wide)
    (sym (c.in-Some-rest_of.ensures.wide
    ∙ ap (λ n. is_rest_wide n c.all_counted-times.result (to_z w128 (of_z w128 c.in-Some.owed))) same
    ∙ ap (λ n. is_rest_wide (least_by k a (moved k v l) l) n (to_z w128 (of_z w128 c.in-Some.owed)))
    c.all_counted-times.ensures.value
    ∙ ap (is_rest_wide (least_by k a (moved k v l) l) (all_counted k)) owed))))

pub returns-in-Some-rest_of-clause-value : goal.returns-in-Some-rest_of-clause-value
returns-in-Some-rest_of-clause-value g c =
    let k = c.args.task.now in
    let a : ℕ = c.args.machine in
    let v = c.args.v.now in
    let l = c.args.arcs.now in
    let q : ℕ = c.args.q in
    let u = c.deref.result.now in
    let is = c.deref.ensures.value ∙ c.in_ok-weights.ensures.same ∙ c.requires.moved in
    let same : c.in_ok-least.least ≡ least_by k a (moved k v l) l =
    c.in_ok-least.ensures.value
    ∙ least_same k (numerator u) (moved k v l) (listed k (moved k v l) u is) a l in
    let times : ℕ = c.all_counted-times.result in
    let fits : SFits w128 c.share_up.result = search rules in
    let rest_fits : SFits w128 c.in-Some-rest_of.rest = search rules in
    let owed_fits : SFits w128 c.in-Some.owed = search rules in
    let owed : to_z w128 (of_z w128 c.in-Some.owed) ≡ owed_dues k v =
    to_z-of_z w128 c.in-Some.owed owed_fits ∙ c.in-Some.ensures.value in
    let rest : to_z w128 (of_z w128 c.in-Some-rest_of.rest)
    ≡ pos (least_by k a (moved k v l) l) -ℤ (pos (all_counted k) *ℤ owed_dues k v) =
    to_z-of_z w128 c.in-Some-rest_of.rest rest_fits ∙ c.in-Some-rest_of.ensures.value
    ∙ ap (λ n. pos n -ℤ (pos times *ℤ to_z w128 (of_z w128 c.in-Some.owed))) same
    ∙ ap (λ n. pos (least_by k a (moved k v l) l) -ℤ (pos n *ℤ to_z w128 (of_z w128 c.in-Some.owed)))
    c.all_counted-times.ensures.value
    ∙ ap (λ z. pos (least_by k a (moved k v l) l) -ℤ (pos (all_counted k) *ℤ z)) owed in
    to_z-of_z w128 c.share_up.result fits ∙ c.share_up.ensures
    ∙ ap (λ z. share_up z (c.from.result * c.from-in-Some-rest_of.result)) rest
    ∙ ap (λ n. share_up (pos (least_by k a (moved k v l) l) -ℤ (pos (all_counted k) *ℤ owed_dues k v))
    (n * c.from-in-Some-rest_of.result))
    (c.from.ensures ∙ c.all_counted-times.ensures.value)
    ∙ ap (λ n. share_up (pos (least_by k a (moved k v l) l) -ℤ (pos (all_counted k) *ℤ owed_dues k v))
    (all_counted k * n)) c.from-in-Some-rest_of.ensures
    ∙ sym (value_is k a v l q)

pub returns-clause-fault : goal.returns-clause-fault
returns-clause-fault g c =
    let k = c.args.task.now in
    let a : ℕ = c.args.machine in
    let v = c.args.v.now in
    let l = c.args.arcs.now in
    let u = c.deref.result.now in
    let is = c.deref.ensures.value ∙ c.in_ok-weights.ensures.same ∙ c.requires.moved in
    let same : c.in_ok-least.least ≡ least_by k a (moved k v l) l =
    c.in_ok-least.ensures.value
    ∙ least_same k (numerator u) (moved k v l) (listed k (moved k v l) u is) a l in
    let owed_fits : SFits w128 c.in-Some.owed = search rules in
    let owed : to_z w128 (of_z w128 c.in-Some.owed) ≡ owed_dues k v =
    to_z-of_z w128 c.in-Some.owed owed_fits ∙ c.in-Some.ensures.value in
    inr (is_large _ (or_second _ _ (or_second _ _
    (sym (c.in-None.ensures.wide
    ∙ ap (λ n. is_rest_wide n c.all_counted-times.result (to_z w128 (of_z w128 c.in-Some.owed))) same
    ∙ ap (λ n. is_rest_wide (least_by k a (moved k v l) l) n (to_z w128 (of_z w128 c.in-Some.owed)))
    c.all_counted-times.ensures.value
    ∙ ap (is_rest_wide (least_by k a (moved k v l) l) (all_counted k)) owed)))))
