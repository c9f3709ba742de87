-- Dates that are raised along arcs: they stay below all that the arcs ask for, and after as many
-- passes as there are jobs they are those.
use Rattle.std.proofs.Common.{◌≡◌, Bool, true, false, ℕ, zero, suc, ◌⊎◌, ◌+◌, ◌-◌, ◌*◌, ◌≤◌, ◌<◌, List, length, get_or, set, take, slice_index, refl, sym, ap, ◌∙◌, subst, inl, inr, ⊎_elim, All, Contains, arith}
use Rattle.std.specs.List.Sorted.{IsPermutation}
use Rattle.std.proofs.lemmas.Bool.{cases_eq, cases_lt, false≢true}
use Rattle.std.proofs.lemmas.List.{get_or_past, get_or-set_same, get_or-set_other, length-set}
use Rattle.std.proofs.lemmas.List.Elements.{All-contains, All-contains_itself}
use Rattle.std.proofs.lemmas.List.Sorted.{All-permutation}
use Rattle.tf_model.specs.Limit.{limit}
use Rattle.tf_problem.specs.Pushed.{release_in}
use Rattle.tf_bound.specs.declared.along.Raise.{Raise}
use Rattle.tf_bound.specs.declared.along.Raise.TheVariants.{Unmoved, Raised, Beyond}
use Rattle.tf_bound.specs.Along.{AreAlong, FollowsByArc, AreWithin, AreTimes, IsAmong, AreAmong, IsRaised, IsRaising, IsPassed, KeepsRaised, end_before, before_in, IsEndless}
use Rattle.tf_bound.proofs.Steps.{all_next, all_whole}

-- ---- one date is raised

-- the date of the job behind an arc, which is before `e`, is raised to that
module _ (work dates new : List ℕ) (arc : ℕ × ℕ) (e : ℕ) (is : new ≡ set dates (arc.1 - 1) e)
    (later : release_in dates arc.1 < e) (among : IsAmong (length dates) arc.1) where
  at_it : release_in new arc.1 ≡ e
  at_it = ap (λ l. slice_index l (arc.1 - 1)) is
      ∙ get_or-set_same dates (arc.1 - 1) e 0 (omega (arith, among.0, among.1))

  elsewhere : (i : ℕ) → (i ≡ arc.1 - 1 → ⊥) → slice_index new i ≡ slice_index dates i
  elsewhere i other = ap (λ l. slice_index l i) is ∙ get_or-set_other dates (arc.1 - 1) i e 0 other

  pub raised_len : length new ≡ length dates
  raised_len = ap length is ∙ length-set dates (arc.1 - 1) e

  pub rises : (i : ℕ) → slice_index dates i ≤ slice_index new i
  rises i =
      ⊎_elim
      (λ same. let it : slice_index new i ≡ release_in new arc.1 = ap (slice_index new) same in
      let before : slice_index dates i ≡ release_in dates arc.1 = ap (slice_index dates) same in
      omega (arith, it, before, at_it, later))
      (λ other. omega (arith, elsewhere i other)) (cases_eq i (arc.1 - 1))

  pub raised_within : e ≤ 2 * limit → AreWithin dates → AreWithin new
  raised_within small within i =
      ⊎_elim
      (λ same. let it : slice_index new i ≡ release_in new arc.1 = ap (slice_index new) same in
      omega (arith, it, at_it, small))
      (λ other. omega (arith, elsewhere i other, within i)) (cases_eq i (arc.1 - 1))

  -- the arc asks for no earlier date
  module _ (asked : e ≤ end_before work dates arc) where
    follows : (own : List ℕ) (arcs : List (ℕ × ℕ)) → Contains arcs arc → (i : ℕ)
        → (slice_index dates i ≤ slice_index own i) ⊎ FollowsByArc work dates arcs (i + 1)
        → (slice_index new i ≤ slice_index own i) ⊎ FollowsByArc work new arcs (i + 1)
    follows own arcs has i before =
        let index : i + 1 - 1 ≡ i = omega arith in
        let here : release_in new (i + 1) ≡ slice_index new i = ap (slice_index new) index in
        let was : release_in dates (i + 1) ≡ slice_index dates i = ap (slice_index dates) index in
        ⊎_elim
        (λ same. let next : arc.1 ≡ i + 1 = omega (arith, same, among.0) in
        let it : slice_index new i ≡ release_in new arc.1 = ap (slice_index new) same in
        inr (
          arc.0,
          subst (λ (j : ℕ). Contains arcs (arc.0, j)) next has,
          omega (arith, here, it, at_it, asked, rises (arc.0 - 1)),
        ))
        (λ other. ⊎_elim (λ le. inl (omega (arith, le, elsewhere i other)))
        (λ by. inr (
          by.0,
          by.1,
          omega (arith, by.2, here, was, elsewhere i other, rises (by.0 - 1)),
        ))
        before) (cases_eq i (arc.1 - 1))

    below_still : (own : List ℕ) (arcs : List (ℕ × ℕ)) → Contains arcs arc → (r : List ℕ)
        → AreAlong own work arcs r → ((i : ℕ) → slice_index dates i ≤ slice_index r i)
        → (i : ℕ) → slice_index new i ≤ slice_index r i
    below_still own arcs has r along below i =
        let kept : release_in r arc.0 + release_in work arc.0 ≤ release_in r arc.1 =
        All-contains {X = ℕ × ℕ}
        (λ arc. release_in r arc.0 + release_in work arc.0 ≤ release_in r arc.1) arcs arc
        along.along has in
        ⊎_elim
        (λ same. let it : slice_index new i ≡ release_in new arc.1 = ap (slice_index new) same in
        let its : slice_index r i ≡ release_in r arc.1 = ap (slice_index r) same in
        omega (arith, it, its, at_it, asked, kept, below (arc.0 - 1)))
        (λ other. omega (arith, elsewhere i other, below i)) (cases_eq i (arc.1 - 1))

    pub stays_raised : (own : List ℕ) (arcs : List (ℕ × ℕ)) → Contains arcs arc
        → IsRaised own work arcs dates → IsRaised own work arcs new
    stays_raised own arcs has raised = record {
      len = raised_len ∙ raised.len;
      from_own = λ i lt. omega (arith, raised.from_own i lt, rises i);
      least = λ i lt. follows own arcs has i (raised.least i lt);
      below = λ r along. below_still own arcs has r along (raised.below r along);
    }

-- ---- the walk

pub keeps_none : (work : List ℕ) (some : List (ℕ × ℕ)) (dates : List ℕ) → AreWithin dates
    → KeepsRaised work some dates dates
keeps_none work some dates within = record {
  len = refl;
  within = within;
  keeps = λ own arcs known raised. raised;
}

pub keeps_more : (work : List ℕ) (some : List (ℕ × ℕ)) (dates mid new : List ℕ)
    → KeepsRaised work some dates mid → KeepsRaised work some mid new
    → KeepsRaised work some dates new
keeps_more work some dates mid new before after = record {
  len = after.len ∙ before.len;
  within = after.within;
  keeps = λ own arcs known raised. after.keeps own arcs known (before.keeps own arcs known raised);
}

-- a step along one of the arcs
pub keeps_step : (work : List ℕ) (some : List (ℕ × ℕ)) (dates mid new : List ℕ) (arc : ℕ × ℕ)
    (step : Raise) (place : ℕ) → place < length some → arc ≡ get_or some place arc
    → AreAmong (length dates) some → KeepsRaised work some dates mid
    → IsRaising work mid arc new step → KeepsRaised work some dates new
keeps_step work some dates mid new arc step place lt is all before raising =
    keeps_more work some dates mid new before (by step raising)
  where
    among : IsAmong (length mid) arc.1
    among =
        let its = subst (λ (x : ℕ × ℕ). IsAmong (length dates) x.1) (sym is) (all place arc lt).1 in
        (its.0, omega (arith, its.1, before.len))

    same : new ≡ mid → KeepsRaised work some mid new
    same e = subst (λ (l : List ℕ). KeepsRaised work some mid l) (sym e)
        (keeps_none work some mid before.within)

    by : (step : Raise) → IsRaising work mid arc new step → KeepsRaised work some mid new
    by Unmoved h = same h.0
    by Beyond h = same h.0
    by Raised h =
        let e : ℕ = end_before work mid arc in
        record {
          len = raised_len work mid new arc e h.0 h.1 among;
          within = raised_within work mid new arc e h.0 h.1 among h.2 before.within;
          keeps = λ own arcs known raised. stays_raised work mid new arc e h.0 h.1 among (omega arith)
              own arcs
              (All-contains (Contains arcs) some arc known (place, lt, sym is)) raised;
        }

-- the same arcs in another order
module _ (arcs before sorted : List (ℕ × ℕ)) (is : before ≡ arcs)
    (sort : IsPermutation before sorted) where
  moved : IsPermutation arcs sorted
  moved = subst (λ (xs : List (ℕ × ℕ)). IsPermutation xs sorted) is sort

  pub sorted_among : (n m : ℕ) → m ≡ n → (xs : List (ℕ × ℕ)) → xs ≡ sorted → AreAmong n arcs
      → AreAmong m xs
  sorted_among n m e xs same among =
      subst (AreAmong m) (sym same)
      (subst (λ (l : ℕ). AreAmong l sorted) (sym e)
      (All-permutation {X = ℕ × ℕ} (λ arc. IsAmong n arc.0 × IsAmong n arc.1) arcs sorted moved
      among))

  -- the jobs' own dates are raised, and stay so
  pub walked : (own work dates : List ℕ) → KeepsRaised work sorted own dates
      → IsRaised own work arcs dates
  walked own work dates kept =
      kept.keeps own arcs (All-permutation (Contains arcs) arcs sorted moved
      (All-contains_itself arcs)) (record {
        len = refl;
        from_own = λ i lt. omega arith;
        least = λ i lt. inl (omega arith);
        below = λ r along i. ⊎_elim (along.from_own i)
            (λ past. omega (arith, get_or_past own i 0 past)) (cases_lt i (length own));
      })

-- ---- a pass along all arcs

-- how far a pass has come
pub record IsPassing (work : List ℕ) (arcs : List (ℕ × ℕ)) (old : List ℕ) (n : ℕ) (dates : List ℕ)
    (is_raised : Bool) : Type 0 where
  pub len : length dates ≡ length old
  pub within : AreWithin dates
  pub keeps : (own : List ℕ) → IsRaised own work arcs old → IsRaised own work arcs dates
  pub later : (i : ℕ) → slice_index old i ≤ slice_index dates i
  pub kept : All (λ arc. end_before work old arc ≤ release_in dates arc.1) (take n arcs)
  pub raised : is_raised ≡ true → (i : ℕ) × (slice_index old i < slice_index dates i)
  pub unmoved : is_raised ≡ false → dates ≡ old

module _ (work : List ℕ) (arcs : List (ℕ × ℕ)) (old : List ℕ) where
  pub pass_begins : AreWithin old → IsPassing work arcs old 0 old false
  pass_begins within = record {
    len = refl;
    within = within;
    keeps = λ own raised. raised;
    later = λ i. omega arith;
    kept = λ i d lt. absurd (omega (arith, lt));
    raised = λ yes. absurd (false≢true yes);
    unmoved = λ no. refl;
  }

  module _ (n : ℕ) (arc : ℕ × ℕ) (lt : n < length arcs) (is : arc ≡ get_or arcs n arc)
      (dates new : List ℕ) (flag : Bool) (far : IsPassing work arcs old n dates flag) where
    has : Contains arcs arc
    has = (n, lt, sym is)

    pub pass_unmoved : IsRaising work dates arc new Unmoved
        → IsPassing work arcs old (n + 1) new flag
    pass_unmoved h =
        subst (λ (l : List ℕ). IsPassing work arcs old (n + 1) l flag) (sym h.0) (record {
          len = far.len;
          within = far.within;
          keeps = far.keeps;
          later = far.later;
          kept = all_next {X = ℕ × ℕ} (λ arc. end_before work old arc ≤ release_in dates arc.1) arcs n
              arc lt is far.kept (omega (arith, h.1, far.later (arc.0 - 1)));
          raised = far.raised;
          unmoved = far.unmoved;
        })

    pub pass_raised : AreAmong (length old) arcs → IsRaising work dates arc new Raised
        → IsPassing work arcs old (n + 1) new true
    pass_raised all h =
        let its = subst (λ (x : ℕ × ℕ). IsAmong (length old) x.1) (sym is) (all n arc lt).1 in
        let among : IsAmong (length dates) arc.1 = (its.0, omega (arith, its.1, far.len)) in
        let e : ℕ = end_before work dates arc in
        let more = rises work dates new arc e h.0 h.1 among in
        record {
          len = raised_len work dates new arc e h.0 h.1 among ∙ far.len;
          within = raised_within work dates new arc e h.0 h.1 among h.2 far.within;
          keeps = λ own raised. stays_raised work dates new arc e h.0 h.1 among (omega arith) own
              arcs has (far.keeps own raised);
          later = λ i. omega (arith, far.later i, more i);
          kept = all_next {X = ℕ × ℕ} (λ arc. end_before work old arc ≤ release_in new arc.1) arcs n
              arc lt is
              (λ i d le. let one = get_or (take n arcs) i d in
              omega (arith, far.kept i d le, more (one.1 - 1)))
              (omega (
                arith,
                far.later (arc.0 - 1),
                at_it work dates new arc e h.0 h.1 among,
              ));
          raised = λ _. (
            arc.1 - 1,
            omega (
              arith,
              far.later (arc.1 - 1),
              h.1,
              at_it work dates new arc e h.0 h.1 among,
            ),
          );
          unmoved = λ no. absurd (false≢true (sym no));
        }

    -- dates that the arcs ask for would be beyond too
    pub pass_beyond : IsRaising work dates arc new Beyond → IsPassed work arcs old new Beyond
    pass_beyond beyond own r raised along within =
        let below = (far.keeps own raised).below r along in
        let kept : release_in r arc.0 + release_in work arc.0 ≤ release_in r arc.1 =
        All-contains {X = ℕ × ℕ}
        (λ arc. release_in r arc.0 + release_in work arc.0 ≤ release_in r arc.1) arcs arc
        along.along has in
        absurd (omega (arith, beyond.1, below (arc.0 - 1), kept, within (arc.1 - 1)))

-- ---- how many dates are before the last ones

module _ (r old new : List ℕ) (later : (i : ℕ) → slice_index old i ≤ slice_index new i) where
  before_no_more : (n : ℕ) → before_in r new n ≤ before_in r old n
  before_no_more zero = omega arith
  before_no_more (suc n) = omega (arith, before_no_more n, later n)

  before_fewer : (j : ℕ) → slice_index old j < slice_index r j
      → slice_index r j ≤ slice_index new j → (n : ℕ) → j < n
      → before_in r new n < before_in r old n
  before_fewer j before last zero lt = absurd (omega (arith, lt))
  before_fewer j before last (suc n) lt =
      ⊎_elim
      (λ same. let at : slice_index old j ≡ slice_index old n = ap (slice_index old) same in
      let its : slice_index r j ≡ slice_index r n = ap (slice_index r) same in
      let it : slice_index new j ≡ slice_index new n = ap (slice_index new) same in
      omega (arith, at, its, it, before, last, before_no_more n))
      (λ other. let less : j < n = omega (arith, lt, other) in
      omega (arith, before_fewer j before last n less, later n)) (cases_eq j n)

pub before_most : (r dates : List ℕ) (n : ℕ) → before_in r dates n ≤ n
before_most r dates zero = omega arith
before_most r dates (suc n) = omega (arith, before_most r dates n)

-- ---- what a pass comes to

module _ (own work : List ℕ) (arcs : List (ℕ × ℕ)) (times : AreTimes (length own) work)
    (among : AreAmong (length own) arcs) (r : List ℕ) (along : AreAlong own work arcs r) where
  -- what an arc into a place asks for
  into : (i j : ℕ) → Contains {X = ℕ × ℕ} arcs (j, i + 1)
      → IsAmong (length own) j
      × (slice_index r (j - 1) + slice_index work (j - 1) ≤ slice_index r i)
      × (1 ≤ slice_index work (j - 1))
  into i j has =
      let index : i + 1 - 1 ≡ i = omega arith in
      let here : release_in r (i + 1) ≡ slice_index r i = ap (slice_index r) index in
      let kept : release_in r j + release_in work j ≤ release_in r (i + 1) =
      All-contains {X = ℕ × ℕ}
      (λ arc. release_in r arc.0 + release_in work arc.0 ≤ release_in r arc.1) arcs (j, i + 1)
      along.along has in
      let its : IsAmong (length own) j =
      (All-contains {X = ℕ × ℕ} (λ arc. IsAmong (length own) arc.0 × IsAmong (length own) arc.1)
      arcs (j, i + 1) among has).0 in
      (its, omega (arith, here, kept), times.some (j - 1) (omega (arith, its.0, its.1)))

  placed : (i : ℕ) → 0 < slice_index r i → i < length own
  placed i some =
      ⊎_elim (λ lt. lt) (λ past. absurd (omega (
        arith,
        some,
        get_or_past r i 0
            (omega (arith, past, along.len)),
      ))) (cases_lt i (length own))

  -- no date follows from later ones without end
  pub not_endless : (waits : List ℕ) → IsEndless waits arcs → ⊥
  not_endless waits endless =
      go (slice_index r endless.some.0 + 1) endless.some.0 (omega arith) endless.some.1
    where
      go : (fuel i : ℕ) → slice_index r i < fuel → 0 < slice_index waits i → ⊥
      go zero i small wait = absurd (omega (arith, small))
      go (suc f) i small wait =
          let by = endless.each i wait in
          let asks = into i by.0 by.1 in
          go f (by.0 - 1) (omega (arith, small, asks.1, asks.2)) by.2

  -- dates that the arcs keep are no earlier
  pub no_earlier : (s : List ℕ) → AreAlong own work arcs s
      → (i : ℕ) → slice_index r i ≤ slice_index s i
  no_earlier s other i = go (slice_index r i + 1) i (omega arith)
    where
      go : (fuel i : ℕ) → slice_index r i < fuel → slice_index r i ≤ slice_index s i
      go zero i small = absurd (omega (arith, small))
      go (suc f) i small =
          ⊎_elim
          (λ some. let lt = placed i some in
          ⊎_elim (λ le. omega (arith, le, other.from_own i lt))
          (λ by. let asks = into i by.0 by.1 in
          let index : i + 1 - 1 ≡ i = omega arith in
          let here : release_in r (i + 1) ≡ slice_index r i = ap (slice_index r) index in
          let there : release_in s (i + 1) ≡ slice_index s i = ap (slice_index s) index in
          let kept : release_in s by.0 + release_in work by.0 ≤ release_in s (i + 1) =
          All-contains {X = ℕ × ℕ}
          (λ arc. release_in s arc.0 + release_in work arc.0 ≤ release_in s arc.1) arcs
          (by.0, i + 1) other.along by.1 in
          omega (
            arith,
            by.2,
            here,
            there,
            kept,
            go f (by.0 - 1) (omega (arith, small, asks.1, asks.2)),
          ))
          (along.least i lt))
          (λ none. omega (arith, none)) (cases_lt 0 (slice_index r i))

  module _ (old new : List ℕ) (raised : IsRaised own work arcs old)
      (kept : All (λ arc. end_before work old arc ≤ release_in new arc.1) arcs) where
    -- a date before the last one follows from one that is the last, and becomes so itself
    becomes_last : (fuel i : ℕ) → slice_index r i < fuel → slice_index old i < slice_index r i
        → (j : ℕ) × (j < length own) × (slice_index old j < slice_index r j)
        × (slice_index r j ≤ slice_index new j)
    becomes_last zero i small before = absurd (omega (arith, small))
    becomes_last (suc f) i small before =
        let lt = placed i (omega (arith, before)) in
        ⊎_elim (λ le. absurd (omega (arith, le, before, raised.from_own i lt)))
        (λ by. let asks = into i by.0 by.1 in
        let index : i + 1 - 1 ≡ i = omega arith in
        let here : release_in r (i + 1) ≡ slice_index r i = ap (slice_index r) index in
        let there : release_in new (i + 1) ≡ slice_index new i = ap (slice_index new) index in
        let its : release_in old by.0 + release_in work by.0 ≤ release_in new (i + 1) =
        All-contains {X = ℕ × ℕ}
        (λ arc. end_before work old arc ≤ release_in new arc.1) arcs (by.0, i + 1) kept by.1 in
        ⊎_elim
        (λ less. becomes_last f (by.0 - 1) (omega (arith, small, asks.1, asks.2)) less)
        (λ last. (i, lt, before, omega (arith, by.2, here, there, its, last)))
        (cases_lt (slice_index old (by.0 - 1)) (slice_index r (by.0 - 1))))
        (along.least i lt)

    pub pass_counts : ((i : ℕ) → slice_index old i ≤ slice_index new i)
        → IsRaised own work arcs new → (i : ℕ) × (slice_index old i < slice_index new i)
        → before_in r new (length new) < before_in r old (length old)
    pass_counts later again moved =
        let last = becomes_last (slice_index r moved.0 + 1) moved.0 (omega arith)
        (omega (arith, moved.1, again.below r along moved.0)) in
        let fewer = before_fewer r old new later last.0 last.2 last.3 (length own) last.1 in
        let one : before_in r new (length new) ≡ before_in r new (length own) =
        ap (before_in r new) again.len in
        let two : before_in r old (length old) ≡ before_in r old (length own) =
        ap (before_in r old) raised.len in
        omega (arith, fewer, one, two)

module _ (work : List ℕ) (arcs : List (ℕ × ℕ)) (old : List ℕ)
    (times : AreTimes (length old) work) (among : AreAmong (length old) arcs) (n : ℕ)
    (all : length arcs ≤ n) (dates : List ℕ) where
  whole : (flag : Bool) → IsPassing work arcs old n dates flag
      → All (λ arc. end_before work old arc ≤ release_in dates arc.1) arcs
  whole flag far =
      all_whole {X = ℕ × ℕ} (λ arc. end_before work old arc ≤ release_in dates arc.1) arcs n all
      far.kept

  pub pass_ends_unmoved : (flag : Bool) → flag ≡ false → IsPassing work arcs old n dates flag
      → IsPassed work arcs old dates Unmoved
  pass_ends_unmoved flag is far own raised =
      let same : dates ≡ old = far.unmoved is in
      let again = far.keeps own raised in
      record {
        len = again.len;
        from_own = again.from_own;
        along = subst (λ (l : List ℕ). All {X = ℕ × ℕ} (λ arc. release_in l arc.0 + release_in work arc.0
            ≤ release_in dates arc.1) arcs) (sym same) (whole flag far);
        least = again.least;
      }

  pub pass_ends_raised : (flag : Bool) → flag ≡ true → IsPassing work arcs old n dates flag
      → IsPassed work arcs old dates Raised
  pass_ends_raised flag is far own raised = (
    far.keeps own raised,
    λ r along. pass_counts own work arcs
        (subst (λ (n : ℕ). AreTimes n work) raised.len times)
        (subst (λ (n : ℕ). AreAmong n arcs) raised.len among) r along old dates raised
        (whole flag far) far.later (far.keeps own raised) (far.raised is),
  )

-- ---- passes until none is raised

-- How far the passes have come: after each, one date more is the last one.
pub record IsSettling (work : List ℕ) (arcs : List (ℕ × ℕ)) (old : List ℕ) (n : ℕ)
    (dates : List ℕ) : Type 0 where
  pub len : length dates ≡ length old
  pub within : AreWithin dates
  pub keeps : (own : List ℕ) → IsRaised own work arcs old → IsRaised own work arcs dates
  pub left : (own r : List ℕ) → IsRaised own work arcs old → AreAlong own work arcs r
      → before_in r dates (length dates) + n ≤ length old

module _ (work : List ℕ) (arcs : List (ℕ × ℕ)) (old : List ℕ) where
  pub settle_begins : AreWithin old → IsSettling work arcs old 0 old
  settle_begins within = record {
    len = refl;
    within = within;
    keeps = λ own raised. raised;
    left = λ own r raised along. omega (arith, before_most r old (length old));
  }

  module _ (n : ℕ) (dates new : List ℕ) (far : IsSettling work arcs old n dates)
      (len : length new ≡ length dates) (within : AreWithin new) where
    pub settle_more : IsPassed work arcs dates new Raised → IsSettling work arcs old (n + 1) new
    settle_more passed = record {
      len = len ∙ far.len;
      within = within;
      keeps = λ own raised. (passed own (far.keeps own raised)).0;
      left = λ own r raised along.
          omega (
            arith,
            (passed own (far.keeps own raised)).1 r along,
            far.left own r raised along,
          );
    }

    pub settle_ends : IsPassed work arcs dates new Unmoved → (own : List ℕ)
        → IsRaised own work arcs old → AreAlong own work arcs new
    settle_ends passed own raised = passed own (far.keeps own raised)

    pub settle_beyond : IsPassed work arcs dates new Beyond → (own : List ℕ)
        → IsRaised own work arcs old → (r : List ℕ) → AreAlong own work arcs r → AreWithin r → ⊥
    settle_beyond passed own raised r along = passed own r (far.keeps own raised) along

  -- no more passes than there are dates raise one
  pub settled : (n : ℕ) (dates : List ℕ) → length old < n → IsSettling work arcs old n dates
      → (own : List ℕ) → IsRaised own work arcs old → (r : List ℕ) → AreAlong own work arcs r
      → AreWithin r → ⊥
  settled n dates many far own raised r along within =
      absurd (omega (arith, many, far.left own r raised along))

-- ---- marks of jobs that wait

-- a job that waits comes by an arc before the one of a place
abbrev pub HasWaiting : List ℕ → List (ℕ × ℕ) → ℕ → Type 0
HasWaiting waits arcs i = (j : ℕ) × Contains arcs (j, i + 1) × (0 < release_in waits j)
