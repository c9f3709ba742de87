-- A table has as many lines of jobs as its instance has jobs.
use Rattle.std.proofs.Common.{◌≡◌, ℕ, suc, ◌+◌, Bool, true, false, not, eqb, List, [], ◌∷◌, length, map, take, drop, filter, codes, Option, None, Some, Ok, refl, sym, ap, subst, ◌∙◌, arith, inl, inr}
use Rattle.std.specs.List.{before_first, position_or_len}
use Rattle.std.specs.Str.{bytes_eq}
use Rattle.std.proofs.lemmas.Bool.{cases_Bool, eqb-true, and_parts}
use Rattle.std.proofs.lemmas.List.{length-append, take-append-drop}
use Rattle.std.proofs.lemmas.List.Elements.{filter-append}
use Rattle.std.proofs.lemmas.Slice.Eq.{bytes_eq-Decides}
use Rattle.tf_words.specs.Words.{Line, first_is}
use Rattle.tf_model.specs.InstanceData.{InstanceData}
use Rattle.tf_model.specs.JobFields.{JobFields}
use Rattle.tf_model.specs.Outcome.{◌>>=◌}
use Rattle.tf_model.proofs.Outcomes.{bind_ok}
use Rattle.tf_read.specs.Faults.{each_from}
use Rattle.tf_read.specs.JobTable.{arc_line, arcs_of, below_heading, body_of, is_arc, is_table_heading, job_line, machines_at, since_first, table_of}
use Rattle.tf_read.proofs.Judged.{each_cons, each_none, else_ok, same_ok, then_ok}
use Rattle.tf_routes.specs.RoutedTable.{is_job, unrouted_line, unrouted_word}
use Rattle.tf_routes.proofs.Cut.{word_key}

-- ---- a line without its routes is one of a job where the line is

job_word : (word : List ℕ)
    → bytes_eq (unrouted_word word) (codes "job") ≡ bytes_eq word (codes "job")
job_word [] = refl
job_word (b ∷ []) = elim (cases_Bool (eqb b 112)) [ inl e ↦ rw e refl | inr e ↦ rw e refl ]
job_word (b ∷ c ∷ cs) = elim (cases_Bool (eqb b 112)) [
  | inr e ↦ rw e refl
  | inl e ↦
      let other : eqb b 106 ≡ false =
      subst (λ (n : ℕ). eqb n 106 ≡ false) (sym (eqb-true b 112 e)) refl in
      elim (cases_Bool (eqb c 61)) [
        | inr d ↦ rw (e, d) refl
        | inl d ↦
            ap (λ w. bytes_eq w (codes "job")) (word_key b c cs e d) ∙ rw other refl
      ]
]

first_job : (ws : List (List ℕ))
    → first_is (codes "job") (map unrouted_word ws) ≡ first_is (codes "job") ws
first_job [] = refl
first_job (word ∷ ws) = job_word word

abbrev jobs_in : List Line → ℕ
jobs_in all = length (filter is_job all)

jobs_cut : (all : List Line) → jobs_in (map unrouted_line all) ≡ jobs_in all
jobs_cut [] = refl
jobs_cut (line ∷ all) =
    let same = first_job line.words in elim (cases_Bool (is_job line)) [
      | inl e ↦
          let f : is_job (unrouted_line line) ≡ true = same ∙ e in
          rw (f, e) (ap (λ (n : ℕ). suc n) (jobs_cut all))
      | inr e ↦
          let f : is_job (unrouted_line line) ≡ false = same ∙ e in
          rw (f, e) (jobs_cut all)
    ]

-- ---- the lines of a table

-- a line that begins with another word
other_first : (key : List ℕ) (ws : List (List ℕ)) → first_is key ws ≡ true
    → bytes_eq key (codes "job") ≡ false → first_is (codes "job") ws ≡ false
other_first key [] h other = refl
other_first key (word ∷ ws) h other =
    let same : word ≡ key = (bytes_eq-Decides word key).0 h in
    ap (λ w. bytes_eq w (codes "job")) same ∙ other

heading_other : (ws : List (List ℕ)) → is_table_heading ws ≡ true
    → first_is (codes "job") ws ≡ false
heading_other [] h = refl
heading_other (word ∷ ws) h = other_first (codes "table") (word ∷ ws) (and_parts _ _ h).0 refl

count_no : (line : Line) (all : List Line) → is_job line ≡ false
    → jobs_in (line ∷ all) ≡ jobs_in all
count_no line all e = rw e refl

count_yes : (line : Line) (all : List Line) → is_job line ≡ true
    → jobs_in (line ∷ all) ≡ jobs_in all + 1
count_yes line all e = rw e (omega arith)

-- a line that was read as a job begins with `job`
job_first : (k : ℕ) (line : Line) (job : JobFields) → job_line k line ≡ Ok job → is_job line ≡ true
unfolding job_line
job_first k line job h = not-false (is_job line) (else_ok _ _ _ _ h).0
  where
    not-false : (b : Bool) → not b ≡ false → b ≡ true
    not-false true e = refl
    not-false false e = cc

arc_first : (n k : ℕ) (line : Line) (arc : ℕ × ℕ) → arc_line n k line ≡ Ok arc
    → is_job line ≡ false
unfolding arc_line
arc_first n k line arc h =
    other_first (codes "prec") line.words (not-false (is_arc line) (else_ok _ _ _ _ h).0) refl
  where
    not-false : (b : Bool) → not b ≡ false → b ≡ true
    not-false true e = refl
    not-false false e = cc

jobs_all : (k : ℕ) (all : List Line) (jobs : List JobFields) → each_from job_line k all ≡ Ok jobs
    → jobs_in all ≡ length jobs
jobs_all k [] jobs h = ap length (each_none job_line k jobs h)
jobs_all k (line ∷ all) jobs h =
    let r = each_cons job_line k line all jobs h in
    count_yes line all (job_first k line r.0 r.2)
    ∙ omega (arith, jobs_all (k + 1) all r.1 r.3, ap length r.4)

arcs_none : (n k : ℕ) (all : List Line) (arcs : List (ℕ × ℕ))
    → each_from (arc_line n) k all ≡ Ok arcs → jobs_in all ≡ 0
arcs_none n k [] arcs h = refl
arcs_none n k (line ∷ all) arcs h =
    let r = each_cons (arc_line n) k line all arcs h in
    count_no line all (arc_first n k line r.0 r.2) ∙ arcs_none n (k + 1) all r.1 r.3

body_count : (machines : Option ℕ) (all : List Line) (i : InstanceData)
    → body_of machines all ≡ Ok i → jobs_in all ≡ length i.jobs
unfolding body_of arcs_of
body_count machines all i h =
    let a = bind_ok (each_from job_line 1 (before_first is_arc all))
    (λ jobs. arcs_of (length jobs) (since_first is_arc all)
    >>= λ arcs. Ok (record { jobs = jobs; arcs = arcs; machines = machines })) i h in
    let b = bind_ok (arcs_of (length a.0) (since_first is_arc all))
    (λ arcs. Ok (record { jobs = a.0; arcs = arcs; machines = machines })) i a.2 in
    let arcs : jobs_in (since_first is_arc all) ≡ 0 =
    arcs_none (length a.0) 1 (since_first is_arc all) b.0 (else_ok _ _ _ _ b.1).1 in
    let jobs : jobs_in (before_first is_arc all) ≡ length a.0 =
    jobs_all 1 (before_first is_arc all) a.0 a.1 in
    let same : length a.0 ≡ length i.jobs =
    ap (λ (x : InstanceData). length x.jobs)
    (same_ok (Ok (record { jobs = a.0; arcs = b.0; machines = machines })) refl b.2) in
    let place = position_or_len is_arc all in
    sym (ap jobs_in (take-append-drop place all))
    ∙ ap length (filter-append is_job (take place all) (drop place all))
    ∙ length-append (filter is_job (take place all)) (filter is_job (drop place all))
    ∙ omega (arith, arcs, jobs, same)

below_count : (all : List Line) (i : InstanceData) → below_heading all ≡ Ok i
    → jobs_in all ≡ length i.jobs
unfolding below_heading
below_count [] i h = body_count None [] i h
below_count (line ∷ all) i h = elim (cases_Bool (first_is (codes "machines") line.words)) [
  | inr e ↦ body_count None (line ∷ all) i (rw e at h)
  | inl e ↦
      let a = bind_ok (machines_at line.number (drop 1 line.words)) (λ m. body_of (Some m) all) i
      (rw e at h) in
      count_no line all (other_first (codes "machines") line.words e refl)
      ∙ body_count (Some a.0) all i a.2
]

table_count : (all : List Line) (i : InstanceData) → table_of all ≡ Ok i
    → jobs_in all ≡ length i.jobs
unfolding table_of
table_count [] i h = cc
table_count (heading ∷ all) i h =
    let both = then_ok _ _ _ _ h in
    count_no heading all (heading_other heading.words both.0) ∙ below_count all i both.1

-- there are as many routes as jobs
pub routes_count : (all : List Line) (i : InstanceData) → table_of (map unrouted_line all) ≡ Ok i
    → jobs_in all ≡ length i.jobs
routes_count all i h = sym (jobs_cut all) ∙ table_count (map unrouted_line all) i h
