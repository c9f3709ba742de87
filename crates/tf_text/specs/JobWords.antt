-- Lists of jobs as words: in version 2, three jobs or more, each one more than the one before, are
-- one word.
use Rattle.std.specs.Prelude.{ℕ, ◌+◌, ◌-◌, List, [], ◌∷◌, ◌++◌, map, nat_lt, ◌==◌, if◌then◌else◌}
use Rattle.std.specs.List.{flat_map, range_with_len}
use Rattle.std.specs.Fmt.{decimal}
use Rattle.tf_text.specs.declared.answer.layout.Layout.{Layout}
use Rattle.tf_text.specs.declared.answer.layout.Layout.TheVariants.{One, Two}
use Rattle.tf_text.specs.declared.answer.run.Run.{Run}

-- a run of one job
abbrev pub alone : ℕ → Run
alone job = record { first = job; last = job }

-- the jobs of a run
abbrev pub run_jobs : Run → List ℕ
run_jobs run = range_with_len run.first (run.last + 1 - run.first)

-- a run before others, joined to the first of these where that begins with the next job
abbrev pub before : Run → List Run → List Run
before run [] = run ∷ []
before run (next ∷ more) =
    if next.first == run.last + 1 then record { first = run.first; last = next.last } ∷ more
    else run ∷ next ∷ more

-- the longest runs of a list, from left to right
unfoldable pub runs : List ℕ → List Run
runs [] = []
runs (job ∷ jobs) = before (alone job) (runs jobs)

-- a first job, one '-', and a last job
abbrev pub range_word : Run → List ℕ
range_word run = decimal run.first ++ 45 ∷ decimal run.last

-- three jobs or more are a range, and others stand alone
abbrev pub run_words : Run → List (List ℕ)
run_words run =
    if nat_lt (run.first + 1) run.last then range_word run ∷ [] else map decimal (run_jobs run)

-- the words of a job set
abbrev pub job_words : Layout → List ℕ → List (List ℕ)
job_words One jobs = map decimal jobs
job_words Two jobs = flat_map run_words (runs jobs)
