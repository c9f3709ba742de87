-- What was judged number by number is an instance.
use Rattle.std.proofs.Common.{◌≡◌, ◌<◌, ◌≤◌, Bool, true, false, not, ltb, eqb, List, [], ◌∷◌, ◌++◌, length, None, refl, ◌∙◌, arith, position}
use Rattle.std.specs.List.{list_all, position_or_len}
use Rattle.std.proofs.lemmas.Bool.{le-ltb, ne_eqb, and_parts}
use Rattle.std.proofs.lemmas.List.Folds.{list_all-append}
use Rattle.tf_model.specs.InstanceData.{InstanceData, IsInstance, has_negative, has_beyond, is_bad_arc, count_fault}
use Rattle.tf_model.specs.JobFields.{JobFields}
use Rattle.tf_model.specs.Limit.{most_jobs, most_arcs}
use Rattle.tf_model.specs.TaskBuilder.{is_within_limits}

-- counts within the limits, no number that is negative or beyond the limit, and no arc of a job
-- that isn't there
pub record IsJudged (i : InstanceData) : Type 0 where
  pub some : 0 < length i.jobs
  pub few : length i.jobs ≤ most_jobs
  pub machines : count_fault i.machines ≡ None
  pub arcs : length i.arcs ≤ most_arcs
  pub negative : position has_negative i.jobs ≡ None
  pub beyond : position has_beyond i.jobs ≡ None
  pub bad_arc : position (is_bad_arc (length i.jobs)) i.arcs ≡ None

pub judged : (i : InstanceData) → IsJudged i → IsInstance i
judged i j =
    let some : eqb (length i.jobs) 0 ≡ false = ne_eqb _ _ (λ e. omega (arith, j.some, e)) in
    let few : ltb most_jobs (length i.jobs) ≡ false = le-ltb _ _ j.few in
    let arcs : ltb most_arcs (length i.arcs) ≡ false = le-ltb _ _ j.arcs in
    let machines : count_fault i.machines ≡ None = j.machines in
    let negative : position has_negative i.jobs ≡ None = j.negative in
    let beyond : position has_beyond i.jobs ≡ None = j.beyond in
    let bad_arc : position (is_bad_arc (length i.jobs)) i.arcs ≡ None = j.bad_arc in
    rw (some, few, arcs, machines, negative, beyond, bad_arc) refl

-- no element passes
pub past_end : {Y : Type 0} (test : Y → Bool) (y : Y) (ys : List Y) → test y ≡ false
    → position_or_len test ys ≡ length ys → position_or_len test (y ∷ ys) ≡ length (y ∷ ys)
past_end test y ys e h = rw (e, h) (omega arith)

pub none_found : {Y : Type 0} (test : Y → Bool) (ys : List Y)
    → position_or_len test ys ≡ length ys → position test ys ≡ None
none_found test ys e =
    let t : ltb (length ys) (length ys) ≡ false = le-ltb _ _ (omega arith) in rw (e, t) refl

-- of jobs within the limits none has such a number
is_not : (b : Bool) → not b ≡ true → b ≡ false
is_not true e = cc
is_not false e = refl

within_past : (jobs : List JobFields) → list_all is_within_limits jobs ≡ true
    → (position_or_len has_negative jobs ≡ length jobs)
    × (position_or_len has_beyond jobs ≡ length jobs)
within_past [] h = (refl, refl)
within_past (job ∷ jobs) h =
    let both = and_parts _ _ h in
    let one = and_parts _ _ both.0 in
    let more = within_past jobs both.1 in (
      past_end has_negative job jobs (is_not _ one.0) more.0,
      past_end has_beyond job jobs (is_not _ one.1) more.1,
    )

-- and some of them are an instance without arcs
pub within_instance : (jobs : List JobFields) → list_all is_within_limits jobs ≡ true
    → 0 < length jobs → length jobs ≤ most_jobs
    → IsInstance (record { jobs = jobs; arcs = []; machines = None })
within_instance jobs h some few =
    let past = within_past jobs h in
    judged (record { jobs = jobs; arcs = []; machines = None }) (record {
      some = some;
      few = few;
      machines = refl;
      arcs = omega arith;
      negative = none_found has_negative jobs past.0;
      beyond = none_found has_beyond jobs past.1;
      bad_arc = refl;
    })

-- one job more
pub within_more : (before : List JobFields) (job : JobFields)
    → list_all is_within_limits before ≡ true → has_negative job ≡ false → has_beyond job ≡ false
    → list_all is_within_limits (before ++ job ∷ []) ≡ true
within_more before job all negative beyond =
    list_all-append is_within_limits before (job ∷ []) ∙ rw (all, negative, beyond) refl
