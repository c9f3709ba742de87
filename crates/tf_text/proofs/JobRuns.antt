-- Lists of jobs as words, and back.
use Rattle.std.proofs.Common.{◌≡◌, ℕ, zero, suc, ◌+◌, ◌-◌, ◌^◌, ◌<◌, ◌≤◌, Bool, true, false, eqb, ltb, List, [], ◌∷◌, ◌++◌, length, map, take, drop, Some, None, is_some, Ok, not, refl, sym, ap, ◌∙◌, arith, lit<, inl, inr, append_assoc}
use Rattle.std.specs.List.{list_all, flat_map, range_with_len, position_or_len, AllByRecursion}
use Rattle.std.specs.Fmt.{decimal}
use Rattle.std.specs.Str.Parse.{AllDigits}
use Rattle.std.proofs.lemmas.Bool.{cases_Bool, and_from, ne_eqb, eq-eqb, eqb-true, ltb-true, lt-ltb, le-ltb}
use Rattle.std.proofs.lemmas.List.{append-nil, length-append}
use Rattle.std.proofs.Math.Bool.{or-true}
use Rattle.std.proofs.Math.Seq.{take-append_seam, drop-append-add}
use Rattle.std.proofs.lemmas.Str.Parse.{digit_from_value}
use Rattle.std.proofs.lemmas.Fmt.{decimal_is_IsNumeral}
use Rattle.tf_words.specs.Number.{is_numeral}
use Rattle.tf_words.specs.Words.{is_white}
use Rattle.tf_model.proofs.Ranges.{range_push}
use Rattle.tf_model.specs.Limit.{most_jobs}
use Rattle.tf_text.specs.declared.answer.layout.Layout.{Layout}
use Rattle.tf_text.specs.declared.answer.layout.Layout.TheVariants.{One, Two}
use Rattle.tf_text.specs.declared.answer.run.Run.{Run}
use Rattle.tf_words.specs.Ranged.{is_number}
use Rattle.tf_text.specs.JobWords.{alone, run_jobs, before, runs, range_word, run_words, job_words}
use Rattle.tf_text.specs.AnswerReading.{range_ends, is_item, count_in, run_in, jobs_from}
use Rattle.tf_text.specs.Readable.{IsCount, AreJobs}
use Rattle.tf_text.proofs.Numerals.{decimal_numeral, word-decimal, numeral-decimal, count-decimal}
use Rattle.tf_text.proofs.Reading.{with_jobs, no_jobs, word_read, with_twice}
use Rattle.tf_text.proofs.WordLines.{IsWord, AreWords, append_all}

-- ---- runs

-- a run of one job has that job
pub alone_jobs : (job : ℕ) → run_jobs (alone job) ≡ job ∷ []
alone_jobs job = let one : job + 1 - job ≡ 1 = omega arith in ap (range_with_len job) one

-- a run that ends one job later has that job more
pub longer_run : (first last job : ℕ) → first ≤ last → job ≡ last + 1
    → run_jobs (record { first = first; last = job })
    ≡ run_jobs (record { first = first; last = last }) ++ job ∷ []
longer_run first last job le next =
    let many : job + 1 - first ≡ suc (last + 1 - first) = omega arith in
    let top : first + (last + 1 - first) ≡ job = omega arith in
    ap (range_with_len first) many ∙ range_push first (last + 1 - first)
    ∙ ap (λ j. range_with_len first (last + 1 - first) ++ j ∷ []) top

-- a run that goes on with the next job, before others
join_before : (first last job : ℕ) (more : List Run) → job ≡ last + 1
    → before (record { first = first; last = last }) (before (alone job) more)
    ≡ before (record { first = first; last = job }) more
join_before first last job [] next =
    let same : eqb job (last + 1) ≡ true = eq-eqb job (last + 1) next in
    rw same refl
join_before first last job (run ∷ more) next =
    let same : eqb job (last + 1) ≡ true = eq-eqb job (last + 1) next in
    elim (cases_Bool (eqb run.first (job + 1))) [
      | inl e ↦ rw (e, same) refl
      | inr e ↦ rw (e, same) refl
    ]

-- a run that doesn't go on, before others
part_before : (run : Run) (job : ℕ) (more : List Run) → eqb job (run.last + 1) ≡ false
    → before run (before (alone job) more) ≡ run ∷ before (alone job) more
part_before run job [] other = rw other refl
part_before run job (next ∷ more) other = elim (cases_Bool (eqb next.first (job + 1))) [
  | inl e ↦ rw (e, other) refl
  | inr e ↦ rw (e, other) refl
]

-- its jobs are jobs that a text may name
range_are_jobs : (a n : ℕ) → 1 ≤ a → a + n ≤ most_jobs + 1 → AreJobs (range_with_len a n)
range_are_jobs a zero low high = tt
range_are_jobs a (suc n) low high =
    ((low, omega arith), range_are_jobs (a + 1) n (omega arith) (omega arith))

-- ---- the words of a run

abbrev is_dash : ℕ → Bool
is_dash b = eqb b 45

-- digits have no '-'
no_dash : (ds : List ℕ) → AllDigits 10 ds → position_or_len is_dash ds ≡ length ds
no_dash [] h = refl
no_dash (d ∷ ds) h =
    let r = digit_from_value d h.0 in
    let other : eqb d 45 ≡ false = ne_eqb d 45 (λ e. omega (arith, r.0, e)) in
    rw other (omega (arith, no_dash ds h.1))

-- the '-' behind digits
dash_place : (ds rest : List ℕ) → AllDigits 10 ds
    → position_or_len is_dash (ds ++ 45 ∷ rest) ≡ length ds
dash_place [] rest h = refl
dash_place (d ∷ ds) rest h =
    let r = digit_from_value d h.0 in
    let other : eqb d 45 ≡ false = ne_eqb d 45 (λ e. omega (arith, r.0, e)) in
    rw other (omega (arith, dash_place ds rest h.1))

-- what a range says
range_found : (a b : ℕ) → a < 2 ^ 64 → b < 2 ^ 64
    → range_ends (decimal a ++ 45 ∷ decimal b) ≡ Some (decimal a, decimal b)
unfolding range_ends
range_found a b small-a small-b =
    let place : position_or_len is_dash (decimal a ++ 45 ∷ decimal b) ≡ length (decimal a) =
    dash_place (decimal a) (decimal b) (decimal_is_IsNumeral a small-a).0.1 in
    let there : ltb (length (decimal a)) (length (decimal a ++ 45 ∷ decimal b)) ≡ true =
    lt-ltb _ _ (omega (arith, length-append (decimal a) (45 ∷ decimal b))) in
    let before : take (length (decimal a)) (decimal a ++ 45 ∷ decimal b) ≡ decimal a =
    take-append_seam (decimal a) (45 ∷ decimal b) in
    let after : drop (length (decimal a) + 1) (decimal a ++ 45 ∷ decimal b) ≡ decimal b =
    drop-append-add (decimal a) (45 ∷ decimal b) 1 in
    let first : is_numeral (decimal a) ≡ true = decimal_numeral a small-a in
    let last : is_numeral (decimal b) ≡ true = decimal_numeral b small-b in
    rw (place, there, before, after, first, last) refl

-- a number is no range
range_none : (a : ℕ) → a < 2 ^ 64 → range_ends (decimal a) ≡ None
unfolding range_ends
range_none a small =
    let place : position_or_len is_dash (decimal a) ≡ length (decimal a) =
    no_dash (decimal a) (decimal_is_IsNumeral a small).0.1 in
    let nowhere : ltb (length (decimal a)) (length (decimal a)) ≡ false =
    le-ltb _ _ (omega arith) in
    rw (place, nowhere) refl

-- a job alone is read as a run of one
alone_read : (line job : ℕ) → IsCount most_jobs job → run_in line (decimal job) ≡ Ok (alone job)
unfolding run_in
alone_read line job is =
    let none : range_ends (decimal job) ≡ None = range_none job (omega (arith, is.1)) in
    let number : count_in line most_jobs (decimal job) ≡ Ok job =
    count-decimal line most_jobs job (lit< tt) is in
    rw (none, number) refl

-- a range is read as its run
range_read : (line : ℕ) (run : Run) → IsCount most_jobs run.first → IsCount most_jobs run.last
    → run.first < run.last → run_in line (range_word run) ≡ Ok run
unfolding run_in
range_read line run is-first is-last above =
    let found : range_ends (decimal run.first ++ 45 ∷ decimal run.last)
    ≡ Some (decimal run.first, decimal run.last) =
    range_found run.first run.last (omega (arith, is-first.1)) (omega (arith, is-last.1)) in
    let first : count_in line most_jobs (decimal run.first) ≡ Ok run.first =
    count-decimal line most_jobs run.first (lit< tt) is-first in
    let last : count_in line most_jobs (decimal run.last) ≡ Ok run.last =
    count-decimal line most_jobs run.last (lit< tt) is-last in
    let order : ltb run.first run.last ≡ true = lt-ltb _ _ above in
    rw (found, first, last, order) refl

-- ---- lists

-- jobs alone are read as they are
numbers_read : (line : ℕ) (jobs : List ℕ) (more : List (List ℕ)) → AreJobs jobs
    → jobs_from line (map decimal jobs ++ more) ≡ with_jobs jobs (jobs_from line more)
numbers_read line [] more are = sym (no_jobs (jobs_from line more))
numbers_read line (job ∷ jobs) more are =
    word_read line (decimal job) (alone job) (map decimal jobs ++ more) (alone_read line job are.0)
    ∙ ap (λ js. with_jobs js (jobs_from line (map decimal jobs ++ more))) (alone_jobs job)
    ∙ ap (with_jobs (job ∷ [])) (numbers_read line jobs more are.1)
    ∙ with_twice (job ∷ []) jobs (jobs_from line more)

-- a run is read as its jobs
run_read : (line : ℕ) (run : Run) (more : List (List ℕ)) → 1 ≤ run.first → run.first ≤ run.last
    → run.last ≤ most_jobs
    → jobs_from line (run_words run ++ more) ≡ with_jobs (run_jobs run) (jobs_from line more)
run_read line run more low order high = elim (cases_Bool (ltb (run.first + 1) run.last)) [
  | inl e ↦ (
      let above : run.first + 1 < run.last = ltb-true _ _ e in
      rw e (word_read line (range_word run) run more
      (range_read line run (low, omega arith) (omega arith, high) (omega arith)))
      )
  | inr e ↦ rw e
      (numbers_read line (run_jobs run) more
      (range_are_jobs run.first (run.last + 1 - run.first) low (omega arith)))
]

-- the runs of a list are read as the list
runs_read : (line : ℕ) (run : Run) (jobs : List ℕ) → 1 ≤ run.first → run.first ≤ run.last
    → run.last ≤ most_jobs → AreJobs jobs
    → jobs_from line (flat_map run_words (before run (runs jobs))) ≡ Ok (run_jobs run ++ jobs)
unfolding runs jobs_from
runs_read line run [] low order high are = run_read line run [] low order high
runs_read line run (job ∷ jobs) low order high are = elim (cases_Bool (eqb job (run.last + 1))) [
  | inl e ↦ (
      let next : job ≡ run.last + 1 = eqb-true job (run.last + 1) e in
      rw (join_before run.first run.last job (runs jobs) next)
      (runs_read line (record { first = run.first; last = job }) jobs low (omega arith) are.0.1
      are.1
      ∙ ap (λ js. Ok (js ++ jobs)) (longer_run run.first run.last job order next)
      ∙ ap (λ js. Ok js) (append_assoc (run_jobs run) (job ∷ []) jobs))
      )
  | inr e ↦ rw (part_before run job (runs jobs) e)
      (run_read line run (flat_map run_words (before (alone job) (runs jobs))) low order high
      ∙ ap (with_jobs (run_jobs run))
      (runs_read line (alone job) jobs are.0.0 (omega arith) are.0.1 are.1
      ∙ ap (λ js. Ok (js ++ jobs)) (alone_jobs job)))
]

-- the words of a list are read as the list
pub list_read : (line : ℕ) (layout : Layout) (jobs : List ℕ) → AreJobs jobs
    → jobs_from line (job_words layout jobs) ≡ Ok jobs
unfolding runs jobs_from
list_read line One jobs are =
    ap (jobs_from line) (sym (append-nil (map decimal jobs))) ∙ numbers_read line jobs [] are
    ∙ ap (λ js. Ok js) (append-nil jobs)
list_read line Two [] are = refl
list_read line Two (job ∷ jobs) are =
    runs_read line (alone job) jobs are.0.0 (omega arith) are.0.1 are.1
    ∙ ap (λ js. Ok (js ++ jobs)) (alone_jobs job)

-- ---- the form of the words

-- a word of a list
pub record IsItem (layout : Layout) (word : List ℕ) : Type 0 where
  pub dark : IsWord word
  pub form : is_item layout word ≡ true

abbrev AreItems : Layout → List (List ℕ) → Type 0
AreItems layout = AllByRecursion (IsItem layout)

number_item : (layout : Layout) (job : ℕ) → IsCount most_jobs job → IsItem layout (decimal job)
number_item One job is =
    record {
      dark = word-decimal job (omega (arith, is.1));
      form = ap is_some (numeral-decimal job (omega (arith, is.1)));
    }
number_item Two job is =
    let number : is_number (decimal job) ≡ true =
    ap is_some (numeral-decimal job (omega (arith, is.1))) in
    record { dark = word-decimal job (omega (arith, is.1)); form = rw number refl }

range_item : (run : Run) → run.first ≤ most_jobs → run.last ≤ most_jobs → IsItem Two (range_word run)
range_item run first last =
    let found : range_ends (decimal run.first ++ 45 ∷ decimal run.last)
    ≡ Some (decimal run.first, decimal run.last) =
    range_found run.first run.last (omega arith) (omega arith) in
    let front = word-decimal run.first (omega arith) in
    let back = word-decimal run.last (omega arith) in
    record {
      dark = record {
        some = simp length-append (omega arith);
        dark =
            append_all (λ b. not (is_white b)) (decimal run.first) (45 ∷ decimal run.last) front.dark
            back.dark;
      };
      form = rw (found, or-true) refl;
    }

numbers_items : (layout : Layout) (jobs : List ℕ) → AreJobs jobs
    → AreItems layout (map decimal jobs)
numbers_items layout [] are = tt
numbers_items layout (job ∷ jobs) are =
    (number_item layout job are.0, numbers_items layout jobs are.1)

append_items : (layout : Layout) (xs ys : List (List ℕ)) → AreItems layout xs → AreItems layout ys
    → AreItems layout (xs ++ ys)
append_items layout [] ys h k = k
append_items layout (x ∷ xs) ys h k = (h.0, append_items layout xs ys h.1 k)

run_items : (run : Run) → 1 ≤ run.first → run.first ≤ run.last → run.last ≤ most_jobs
    → AreItems Two (run_words run)
run_items run low order high = elim (cases_Bool (ltb (run.first + 1) run.last)) [
  | inl e ↦ rw e (range_item run (omega arith) high, tt)
  | inr e ↦ rw e
      (numbers_items Two (run_jobs run)
      (range_are_jobs run.first (run.last + 1 - run.first) low (omega arith)))
]

runs_items : (run : Run) (jobs : List ℕ) → 1 ≤ run.first → run.first ≤ run.last
    → run.last ≤ most_jobs → AreJobs jobs
    → AreItems Two (flat_map run_words (before run (runs jobs)))
unfolding runs
runs_items run [] low order high are =
    append_items Two (run_words run) [] (run_items run low order high) tt
runs_items run (job ∷ jobs) low order high are = elim (cases_Bool (eqb job (run.last + 1))) [
  | inl e ↦ (
      let next : job ≡ run.last + 1 = eqb-true job (run.last + 1) e in
      rw (join_before run.first run.last job (runs jobs) next)
      (runs_items (record { first = run.first; last = job }) jobs low (omega arith) are.0.1 are.1)
      )
  | inr e ↦ rw (part_before run job (runs jobs) e)
      (append_items Two (run_words run) (flat_map run_words (before (alone job) (runs jobs)))
      (run_items run low order high)
      (runs_items (alone job) jobs are.0.0 (omega arith) are.0.1 are.1))
]

list_items : (layout : Layout) (jobs : List ℕ) → AreJobs jobs
    → AreItems layout (job_words layout jobs)
unfolding runs
list_items One jobs are = numbers_items One jobs are
list_items Two [] are = tt
list_items Two (job ∷ jobs) are = runs_items (alone job) jobs are.0.0 (omega arith) are.0.1 are.1

items_are_words : (layout : Layout) (ws : List (List ℕ)) → AreItems layout ws → AreWords ws
items_are_words layout [] are = tt
items_are_words layout (word ∷ ws) are = (are.0.dark, items_are_words layout ws are.1)

all_items : (layout : Layout) (ws : List (List ℕ)) → AreItems layout ws
    → list_all (is_item layout) ws ≡ true
all_items layout [] are = refl
all_items layout (word ∷ ws) are = and_from _ _ are.0.form (all_items layout ws are.1)

-- the words of a list are words
pub list_words : (layout : Layout) (jobs : List ℕ) → AreJobs jobs → AreWords (job_words layout jobs)
list_words layout jobs are =
    items_are_words layout (job_words layout jobs) (list_items layout jobs are)

-- and of the form of a list's words
pub list_form : (layout : Layout) (jobs : List ℕ) → AreJobs jobs
    → list_all (is_item layout) (job_words layout jobs) ≡ true
list_form layout jobs are = all_items layout (job_words layout jobs) (list_items layout jobs are)
