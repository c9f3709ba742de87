use Rattle.std.proofs.Common.{◌≡◌, MatchOption, ℕ, List, map, sym, ap, ◌∙◌, subst}
use Rattle.tf_bound.specs.Along.{AreAlong, AreWithin}
use Rattle.tf_bound.proofs.Dates.{deadlines_along, swap}
use Rattle.tf_bound.proofs.PushedDates.{along_deadlines, back_within, dated_tails, tails_of, tails_within}
use Rattle.tf_bound.proofs.pushed.deadlines.Goals as goal

pub dates_along-requires : goal.dates_along-requires
dates_along-requires g c =
    dated_tails c.args.task.now c.arcs.ensures.sized c.requires.prec c.args.work.now c.requires.work
    c.deref.result.now (c.deref.ensures.value ∙ c.in_ok-own.ensures) c.deref-2.result.now
    (c.deref-2.ensures.value ∙ c.in_ok-back.ensures ∙ ap (map swap) c.arcs.ensures.value)

pub returns-in-Some : goal.returns-in-Some
returns-in-Some g c =
    let k = c.args.task.now in
    let own : List ℕ = c.deref.result.now in
    let work : List ℕ = c.args.work.now in
    let tails : List ℕ = c.deref-in-Some.result.now in
    let arcs : c.deref-2.result.now ≡ map swap k.arcs =
    c.deref-2.ensures.value ∙ c.in_ok-back.ensures ∙ ap (map swap) c.arcs.ensures.value in
    let found = subst (λ found. MatchOption found
    ((r : List ℕ) → AreAlong own work c.deref-2.result.now r → AreWithin r → ⊥)
    (λ dates. AreAlong own work c.deref-2.result.now dates.items × AreWithin dates.items))
    c.in-Some.is c.in_ok-tails.ensures in
    let same : c.in-Some.tails.items ≡ tails = sym c.deref-in-Some.ensures.value in
    let along : AreAlong own work (map swap k.arcs) tails =
    subst (λ (dates : List ℕ). AreAlong own work (map swap k.arcs) dates) same
    (subst (λ (back : List (ℕ × ℕ)). AreAlong own work back c.in-Some.tails.items) arcs found.0) in
    let within : AreWithin tails = subst AreWithin same found.1 in (
      deadlines_along k c.arcs.ensures.sized work c.requires.work own tails
          (c.deref.ensures.value ∙ c.in_ok-own.ensures) along
          c.in_ok-before_limit-in-Some.field-0.items c.in_ok-before_limit-in-Some.ensures,
      back_within tails within c.in_ok-before_limit-in-Some.field-0.items
          c.in_ok-before_limit-in-Some.ensures,
    )

pub returns : goal.returns
returns g c d dues within =
    let k = c.args.task.now in
    let sized = c.arcs.ensures.sized in
    let own : List ℕ = c.deref.result.now in
    let owns = c.deref.ensures.value ∙ c.in_ok-own.ensures in
    let work : List ℕ = c.args.work.now in
    let arcs : c.deref-2.result.now ≡ map swap k.arcs =
    c.deref-2.ensures.value ∙ c.in_ok-back.ensures ∙ ap (map swap) c.arcs.ensures.value in
    let none = subst (λ found. MatchOption found
    ((r : List ℕ) → AreAlong own work c.deref-2.result.now r → AreWithin r → ⊥)
    (λ dates. AreAlong own work c.deref-2.result.now dates.items × AreWithin dates.items))
    c.in-None.is c.in_ok-tails.ensures in
    none (tails_of k sized work c.requires.work d)
    (subst (λ (back : List (ℕ × ℕ)). AreAlong own work back (tails_of k sized work c.requires.work d))
    (sym arcs) (along_deadlines k sized work c.requires.work own owns d dues within))
    (tails_within k sized work c.requires.work own owns d dues within)
