-- The jobs of a table are those of an instance.
use Rattle.std.proofs.Common.{◌≡◌, ℕ, ◌+◌, ◌≤◌, ℤ, pos, negsuc, ◌≢◌, false, ltb, List, [], ◌∷◌, length, Option, Some, None, Ok, refl, subst, arith}
use Rattle.std.proofs.lemmas.Bool.{eqb-false, ltb-false, leb-true, and_parts, le-ltb}
use Rattle.tf_words.specs.Number.{number}
use Rattle.tf_words.specs.Words.{Line}
use Rattle.tf_model.specs.JobFields.{JobFields}
use Rattle.tf_model.specs.InstanceData.{IsInstance, any_time, any_given, is_negative, is_beyond, has_negative, has_beyond, is_no_job, is_bad_arc, count_fault}
use Rattle.tf_model.specs.declared.job.Times.{Times}
use Rattle.tf_model.specs.declared.job.Times.TheVariants.{One, Two}
use Rattle.tf_model.specs.Limit.{most_jobs, most_machines, most_arcs}
use Rattle.tf_words.specs.declared.number.Number.{Number}
use Rattle.tf_words.specs.declared.number.Number.TheVariants.{NotANumber, TooLarge, Value}
use Rattle.tf_model.specs.Outcome.{◌>>=◌}
use Rattle.tf_read.specs.Faults.{each_from, natural, integer}
use Rattle.tf_read.specs.JobLine.{SomeFields, no_fields, times_in, times_at, field_in, field_at, complete, fields_at}
use Rattle.tf_words.specs.WordParts.{divided}
use Rattle.tf_read.specs.CostField.{cost_at}
use Rattle.tf_read.specs.JobTable.{machines_named, machines_at, numbered_job, job_line, arc_job, arc_of, arc_line, arcs_of}
use Rattle.tf_model.proofs.Outcomes.{bind_ok}
use Rattle.tf_read.proofs.Judged.{same_ok, then_ok, else_ok, GivesOnly, on_fault, on_test, on_value, or_false, value_within, integer_within, natural_within, none_there, few}
use Rattle.tf_model.proofs.Judged.{judged}

natural_ok : (line : ℕ) (word : List ℕ) (z : ℤ) → natural line (number word) ≡ Ok z
    → (is_negative z ≡ false) × (is_beyond z ≡ false)
natural_ok line word z h = let n = natural_within line (number word) z h in
    (n.1, value_within word z n.0)

integer_ok : (line : ℕ) (word : List ℕ) (z : ℤ) → integer line (number word) ≡ Ok z
    → is_beyond z ≡ false
integer_ok line word z h = value_within word z (integer_within line (number word) z h)

-- times that were judged
abbrev AreTimes : Times → Type 0
AreTimes t = (any_time is_negative t ≡ false) × (any_time is_beyond t ≡ false)

times_in_ok : (line : ℕ) (value : List ℕ) (parts : Option (List ℕ × List ℕ)) (t : Times)
    → times_in line value parts ≡ Ok t → AreTimes t
times_in_ok line value None t h =
    let a = bind_ok _ _ _ h in
    let n = natural_ok line value a.0 a.1 in
    subst (λ (u : Times). AreTimes u) (same_ok (Ok (One a.0)) refl a.2) n
times_in_ok line value (Some parts) t h =
    let a = bind_ok _ _ _ (else_ok _ _ _ _ h).1 in
    let b = bind_ok _ _ _ a.2 in
    let m = natural_ok line parts.0 a.0 a.1 in
    let n = natural_ok line parts.1 b.0 b.1 in
    subst (λ (u : Times). AreTimes u) (same_ok (Ok (Two a.0 b.0)) refl b.2)
    (or_false _ _ m.0 n.0, or_false _ _ m.1 n.1)

times_ok : (line : ℕ) (value : List ℕ) (t : Times) → times_at line value ≡ Ok t → AreTimes t
unfolding times_at
times_ok line value t h = times_in_ok line value (divided 44 value) t h

-- fields that were judged
abbrev OnTimes : Option Times → Type 0
OnTimes None = Unit {0}
OnTimes (Some t) = AreTimes t

record AreFields (f : SomeFields) : Type 0 where
  times : OnTimes f.times
  weight_negative : any_given is_negative f.weight ≡ false
  weight_beyond : any_given is_beyond f.weight ≡ false
  due_beyond : any_given is_beyond f.due ≡ false
  release_negative : any_given is_negative f.release ≡ false
  release_beyond : any_given is_beyond f.release ≡ false

none_ok : AreFields no_fields
none_ok = record {
  times = tt;
  weight_negative = refl;
  weight_beyond = refl;
  due_beyond = refl;
  release_negative = refl;
  release_beyond = refl;
}

with_times : (line : ℕ) (value : List ℕ) (f : SomeFields) → AreFields f
    → GivesOnly AreFields (times_at line value >>= λ x. Ok (record f { times = Some x }))
with_times line value f j =
    on_value AreFields (times_at line value) (λ x. record f { times = Some x })
    (λ x e. record {
      times = times_ok line value x e;
      weight_negative = j.weight_negative;
      weight_beyond = j.weight_beyond;
      due_beyond = j.due_beyond;
      release_negative = j.release_negative;
      release_beyond = j.release_beyond;
    })

with_weight : (line : ℕ) (value : List ℕ) (f : SomeFields) → AreFields f
    → GivesOnly AreFields (natural line (number value) >>= λ x. Ok (record f { weight = Some x }))
with_weight line value f j =
    on_value AreFields (natural line (number value)) (λ x. record f { weight = Some x })
    (λ x e. let n = natural_ok line value x e in
    record {
      times = j.times;
      weight_negative = n.0;
      weight_beyond = n.1;
      due_beyond = j.due_beyond;
      release_negative = j.release_negative;
      release_beyond = j.release_beyond;
    })

with_due : (line : ℕ) (value : List ℕ) (f : SomeFields) → AreFields f
    → GivesOnly AreFields (integer line (number value) >>= λ x. Ok (record f { due = Some x }))
with_due line value f j =
    on_value AreFields (integer line (number value)) (λ x. record f { due = Some x })
    (λ x e. record {
      times = j.times;
      weight_negative = j.weight_negative;
      weight_beyond = j.weight_beyond;
      due_beyond = integer_ok line value x e;
      release_negative = j.release_negative;
      release_beyond = j.release_beyond;
    })

with_release : (line : ℕ) (value : List ℕ) (f : SomeFields) → AreFields f
    → GivesOnly AreFields (natural line (number value) >>= λ x. Ok (record f { release = Some x }))
with_release line value f j =
    on_value AreFields (natural line (number value)) (λ x. record f { release = Some x })
    (λ x e. let n = natural_ok line value x e in
    record {
      times = j.times;
      weight_negative = j.weight_negative;
      weight_beyond = j.weight_beyond;
      due_beyond = j.due_beyond;
      release_negative = n.0;
      release_beyond = n.1;
    })

with_cost : (line : ℕ) (value : List ℕ) (f : SomeFields) → AreFields f
    → GivesOnly AreFields (cost_at line value >>= λ x. Ok (record f { cost = Some x }))
with_cost line value f j =
    on_value AreFields (cost_at line value) (λ x. record f { cost = Some x })
    (λ x e. record {
      times = j.times;
      weight_negative = j.weight_negative;
      weight_beyond = j.weight_beyond;
      due_beyond = j.due_beyond;
      release_negative = j.release_negative;
      release_beyond = j.release_beyond;
    })

field_in_ok : (line : ℕ) (f : SomeFields) (parts : Option (List ℕ × List ℕ)) → AreFields f
    → GivesOnly AreFields (field_in line f parts)
field_in_ok line f None j = on_fault AreFields _
field_in_ok line f (Some parts) j =
    on_test AreFields _ _ _ (with_times line parts.1 f j)
    (on_test AreFields _ _ _ (with_weight line parts.1 f j)
    (on_test AreFields _ _ _ (with_due line parts.1 f j)
    (on_test AreFields _ _ _ (with_release line parts.1 f j)
    (on_test AreFields _ _ _ (with_cost line parts.1 f j) (on_fault AreFields _)))))

field_ok : (line : ℕ) (f next : SomeFields) (word : List ℕ) → AreFields f
    → field_at line f word ≡ Ok next → AreFields next
unfolding field_at
field_ok line f next word j h = (field_in_ok line f (divided 61 word) j).each next h

-- a job whose numbers were judged
abbrev IsJob : JobFields → Type 0
IsJob job = (has_negative job ≡ false) × (has_beyond job ≡ false)

complete_ok : (line : ℕ) (f : SomeFields) (times : Option Times) (job : JobFields) → OnTimes times
    → AreFields f → complete line f times ≡ Ok job → IsJob job
complete_ok line f None job t j h = cc
complete_ok line f (Some times) job t j h =
    subst (λ (x : JobFields). IsJob x)
    (same_ok
    (Ok (record {
      times = times;
      weight = f.weight;
      due = f.due;
      release = f.release;
      cost = f.cost;
    })) refl h) (
      or_false _ _ (or_false _ _ t.0 j.weight_negative) j.release_negative,
      or_false _ _ (or_false _ _ (or_false _ _ t.1 j.weight_beyond) j.due_beyond)
          j.release_beyond,
    )

fields_ok : (line : ℕ) (f : SomeFields) (words : List (List ℕ)) (job : JobFields) → AreFields f
    → fields_at line f words ≡ Ok job → IsJob job
unfolding fields_at
fields_ok line f [] job j h = complete_ok line f f.times job j.times j h
fields_ok line f (word ∷ more) job j h =
    let a = bind_ok (field_at line f word) _ _ h in
    fields_ok line a.0 more job (field_ok line f a.0 word j a.1) a.2

numbered_ok : (line k : ℕ) (words : List (List ℕ)) (job : JobFields)
    → numbered_job line k words ≡ Ok job → IsJob job
numbered_ok line k [] job h = cc
numbered_ok line k (word ∷ more) job h =
    fields_ok line no_fields more job none_ok (then_ok _ _ _ _ h).1

pub job_ok : (k : ℕ) (line : Line) (job : JobFields) → job_line k line ≡ Ok job
    → (k ≤ most_jobs) × IsJob job
unfolding job_line
job_ok k line job h =
    let e = else_ok _ _ _ _ (else_ok _ _ _ _ h).1 in
    let below : k ≤ most_jobs = ltb-false most_jobs k e.0 in
    (below, numbered_ok line.number k _ job e.1)

-- a number of machines that was judged, or none
count_ok : (line : ℕ) (n : Number) (m : ℕ) → machines_named line n ≡ Ok m
    → (1 ≤ m) × (m ≤ most_machines)
count_ok line NotANumber m h = cc
count_ok line TooLarge m h = cc
count_ok line (Value (negsuc k)) m h = cc
count_ok line (Value (pos k)) m h =
    let e = then_ok _ _ _ _ h in
    let both = and_parts _ _ e.0 in
    let same : k ≡ m = same_ok (Ok k) refl e.1 in
    let above : 1 ≤ k = leb-true 1 k both.0 in
    let below : k ≤ most_machines = leb-true k most_machines both.1 in
    (subst (λ (n : ℕ). 1 ≤ n) same above, subst (λ (n : ℕ). n ≤ most_machines) same below)

pub machines_ok : (line : ℕ) (words : List (List ℕ)) (m : ℕ) → machines_at line words ≡ Ok m
    → count_fault (Some m) ≡ None
unfolding machines_at
machines_ok line [] m h = cc
machines_ok line (word ∷ []) m h =
    let both = count_ok line (number word) m h in
    let low : ltb m 1 ≡ false = le-ltb m 1 both.0 in
    let high : ltb most_machines m ≡ false = le-ltb most_machines m both.1 in
    rw (low, high) refl
machines_ok line (word ∷ other ∷ more) m h = cc

-- a job of an arc is there
arc_job_ok : (jobs line : ℕ) (n : Number) (j : ℕ) → arc_job jobs line n ≡ Ok j
    → is_no_job jobs j ≡ false
arc_job_ok jobs line NotANumber j h = cc
arc_job_ok jobs line TooLarge j h = cc
arc_job_ok jobs line (Value (negsuc k)) j h = cc
arc_job_ok jobs line (Value (pos k)) j h =
    let e = else_ok _ _ _ _ h in
    subst (λ (i : ℕ). is_no_job jobs i ≡ false) (same_ok (Ok k) refl e.1) e.0

arc_of_ok : (jobs line : ℕ) (words : List (List ℕ)) (arc : ℕ × ℕ) → arc_of jobs line words ≡ Ok arc
    → is_bad_arc jobs arc ≡ false
unfolding arc_of
arc_of_ok jobs line [] arc h = cc
arc_of_ok jobs line (a ∷ []) arc h = cc
arc_of_ok jobs line (a ∷ b ∷ []) arc h =
    let x = bind_ok (arc_job jobs line (number a)) _ _ h in
    let y = bind_ok (arc_job jobs line (number b)) _ _ x.2 in
    subst (λ (p : ℕ × ℕ). is_bad_arc jobs p ≡ false) (same_ok (Ok (x.0, y.0)) refl y.2)
    (or_false _ _ (arc_job_ok jobs line (number a) x.0 x.1)
    (arc_job_ok jobs line (number b) y.0 y.1))
arc_of_ok jobs line (a ∷ b ∷ c ∷ more) arc h = cc

pub arc_ok : (jobs k : ℕ) (line : Line) (arc : ℕ × ℕ) → arc_line jobs k line ≡ Ok arc
    → (k ≤ most_arcs) × (is_bad_arc jobs arc ≡ false)
unfolding arc_line
arc_ok jobs k line arc h =
    let e = else_ok _ _ _ _ (else_ok _ _ _ _ h).1 in
    let below : k ≤ most_arcs = ltb-false most_arcs k e.0 in
    (below, arc_of_ok jobs line.number _ arc e.1)

-- the jobs of a table are few enough
pub jobs_few : (lines : List Line) (jobs : List JobFields) → each_from job_line 1 lines ≡ Ok jobs
    → length jobs ≤ most_jobs
jobs_few lines jobs h =
    let le : length jobs + 1 ≤ most_jobs + 1 =
    few job_line most_jobs (λ k line job r. (job_ok k line job r).0) 1 lines jobs (omega arith)
    h in
    omega arith

-- the jobs and the arcs of a table make an instance
pub table_judged : (lines later : List Line) (jobs : List JobFields) (n : ℕ) (arcs : List (ℕ × ℕ))
    (machines : Option ℕ)
    → each_from job_line 1 lines ≡ Ok jobs → n ≡ length jobs → arcs_of n later ≡ Ok arcs
    → count_fault machines ≡ None
    → IsInstance (record { jobs = jobs; arcs = arcs; machines = machines })
unfolding arcs_of
table_judged lines later jobs n arcs machines h count g m =
    let e = else_ok _ _ _ _ (subst (λ (k : ℕ). arcs_of k later ≡ Ok arcs) count g) in
    let d : length jobs ≢ 0 = eqb-false _ _ e.0 in
    let le : length arcs + 1 ≤ most_arcs + 1 =
    few (arc_line (length jobs)) most_arcs (λ k line arc r. (arc_ok (length jobs) k line arc r).0)
    1 later arcs (omega arith) e.1 in
    judged (record { jobs = jobs; arcs = arcs; machines = machines }) (record {
      some = omega arith;
      few = jobs_few lines jobs h;
      machines = m;
      arcs = omega arith;
      negative = none_there job_line has_negative
          (λ k line job r. (job_ok k line job r).1.0) 1 lines
          jobs h;
      beyond = none_there job_line has_beyond
          (λ k line job r. (job_ok k line job r).1.1) 1 lines jobs
          h;
      bad_arc = none_there (arc_line (length jobs)) (is_bad_arc (length jobs))
          (λ k line arc r. (arc_ok (length jobs) k line arc r).1) 1 later arcs e.1;
    })
