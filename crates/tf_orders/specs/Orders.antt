-- Orders of jobs. In each, the machines have their jobs in the order in which they process them; a
-- shop has one order, in which the jobs pass all machines.
use Rattle.std.specs.Prelude.{◌≡◌, ℕ, pos, ◌≢◌, ◌+◌, ◌≤◌, ◌==◌, Bool, false, List, [], ◌∷◌, ◌++◌, length, map, codes, Option, None, Some, if◌then◌else◌}
use Rattle.std.specs.List.{count_by}
use Rattle.std.specs.Option.{option_map}
use Rattle.std.specs.Str.{bytes_eq}
use Rattle.tf_words.specs.Words.{words}
use Rattle.tf_words.specs.Ranged.{number_in}
use Rattle.tf_words.specs.declared.ranged.Ranged.{Ranged}
use Rattle.tf_words.specs.declared.ranged.Ranged.TheVariants.{NotANumber, Below, Above, Within}
use Rattle.tf_model.specs.Distinct.{IsDistinct}
use Rattle.tf_model.specs.Whole.{as_time}
use Rattle.tf_orders.specs.declared.flaw.Flaw.{Flaw}
use Rattle.tf_orders.specs.declared.flaw.Flaw.TheVariants.{Word, Lists, Twice, Missing, Seldom, Often}
use Rattle.tf_orders.specs.declared.flaw.Named.{Named}
use Rattle.tf_orders.specs.declared.flaw.Named.TheVariants.{Slash, Job}
use Rattle.tf_orders.specs.declared.order.Turn.{Turn}

-- a number of the range as that of a job
abbrev pub job_by : Ranged → Option ℕ
job_by NotANumber = None
job_by Below = None
job_by Above = None
job_by (Within number) = Some (as_time number)

-- the job from 1 to n that a word names
abbrev pub job_in : ℕ → List ℕ → Option ℕ
job_in n word = job_by (number_in (pos 1) (pos n) word)

-- a job on the machine, and then others
abbrev pub with_turn : ℕ → Option ℕ → Option (List Turn) → Option (List Turn)
with_turn i None turns = None
with_turn i (Some j) turns = option_map (λ more. record { job = j; machine = i } ∷ more) turns

-- What words say from machine i on, of jobs 1 to n and g machines: each is the number of a job, or
-- `/`, behind which come the jobs of the next machine. The last machine has to be machine g.
unfoldable pub turns_from : ℕ → ℕ → ℕ → List (List ℕ) → Option (List Turn)
turns_from n g i [] = if i == g then Some [] else None
turns_from n g i (word ∷ more) =
    if bytes_eq word (codes "/") then turns_from n g (i + 1) more
    else with_turn i (job_in n word) (turns_from n g i more)

abbrev pub jobs_of : List Turn → List ℕ
jobs_of turns = map (λ t. t.job) turns

-- the text says these turns of g machines, and they are of all jobs 1 to n, each of them once
pub record IsOrder (n g : ℕ) (text : List ℕ) (turns : List Turn) : Type 0 where
  pub says : turns_from n g 1 (words text) ≡ Some turns
  pub all : length turns ≡ n
  pub once : IsDistinct (jobs_of turns)

-- it says no order
abbrev pub IsNoOrder : ℕ → ℕ → List ℕ → Type 0
IsNoOrder n g text = (turns : List Turn) → ¬ (IsOrder n g text turns)

-- the turn is of one of the jobs 1 to n, and begins on one of the machines 1 to g
pub record IsTurn (n g : ℕ) (t : Turn) : Type 0 where
  pub job : (1 ≤ t.job) × (t.job ≤ n)
  pub machine : (1 ≤ t.machine) × (t.machine ≤ g)

-- ---- what is wrong with a text that says no order of the jobs 1 to n on g machines

-- the number is that of job j
abbrev pub is_number_of : ℕ → Option ℕ → Bool
is_number_of j None = false
is_number_of j (Some i) = i == j

-- the word stands for this
abbrev pub is_named : ℕ → Named → List ℕ → Bool
is_named n Slash word = bytes_eq word (codes "/")
is_named n (Job j) word = is_number_of j (job_in n word)

-- how many words stand for this
abbrev pub times_named : ℕ → Named → List ℕ → ℕ
times_named n named text = count_by (is_named n named) (words text)

-- the word at place k, counted from 1, is neither a job nor `/`
pub record IsOtherWord (n : ℕ) (text : List ℕ) (k : ℕ) : Type 0 where
  pub front : List (List ℕ)
  pub word : List ℕ
  pub back : List (List ℕ)
  pub says : words text ≡ front ++ word ∷ back
  pub place : k ≡ length front + 1
  pub slash : bytes_eq word (codes "/") ≡ false
  pub job : job_in n word ≡ None

-- that is what is wrong
abbrev pub IsFlaw : ℕ → ℕ → List ℕ → Flaw → Type 0
IsFlaw n g text (Word k) = IsOtherWord n text k
IsFlaw n g text Lists = times_named n Slash text + 1 ≢ g
IsFlaw n g text (Twice j) = 2 ≤ times_named n (Job j) text
IsFlaw n g text (Missing j) = (1 ≤ j) × (j ≤ n) × (times_named n (Job j) text ≡ 0)
IsFlaw n g text (Seldom j) = ⊥
IsFlaw n g text (Often j) = ⊥
