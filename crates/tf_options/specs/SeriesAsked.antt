-- What is asked for of several instances of a file.
use Rattle.std.specs.Prelude.{◌≡◌, ◌⊎◌, ℕ, Bool, true, false, not, ◌&&◌, ◌||◌, ◌==◌, nat_lt, List, Option, None, Some, IsTrue, IsFalse, is_none, is_some, option_map, codes, if◌then◌else◌}
use Rattle.std.specs.List.{before_first, after_first}
use Rattle.std.specs.Option.{option_and_then}
use Rattle.std.specs.Str.{bytes_eq}
use Rattle.tf_model.specs.Limit.{most_jobs, most_machines}
use Rattle.tf_options.specs.OptionNumber.{numeral_in}
use Rattle.tf_options.specs.Matched.{Given, IsFlagBy, IsNumberBy, IsPairBy, first_fault, is_word, lacks, machines_fault, most_steps, number_by, pair_fault, unless_some}
use Rattle.tf_options.specs.Understood.{AreAidsBy, has_no_answer, is_rating, own_fault, rule_by}
use Rattle.tf_options.specs.declared.options.Asked.{Asked}
use Rattle.tf_options.specs.declared.options.Asked.TheVariants as asking
use Rattle.tf_asked.specs.declared.series.FileForm.{FileForm}
use Rattle.tf_asked.specs.declared.series.FileForm.TheVariants.{Wt, Flow}
use Rattle.tf_asked.specs.declared.series.Series.{Series}
use Rattle.tf_asked.specs.declared.series.Span.{Span}
use Rattle.tf_asked.specs.declared.series.Told.{Told}
use Rattle.tf_asked.specs.declared.series.Told.TheVariants.{Values, Bounds, Answers, Orders, Ruled}

-- ---- the instances

-- from the first to the last, if that does not come before it
abbrev pub span_between : ℕ → ℕ → Option Span
span_between first last =
    if nat_lt last first then None else Some (record { first = first; last = Some last })

-- the instances that `all`, or two numbers with a minus sign between them, name
abbrev pub span_in : List ℕ → Option Span
span_in word =
    if bytes_eq word (codes "all") then Some (record { first = 1; last = None })
    else (option_and_then
    (λ first. option_and_then (span_between first)
    (numeral_in 1 4294967295 (after_first (λ c. c == 45) word)))
    (numeral_in 1 4294967295 (before_first (λ c. c == 45) word)))

-- the file is one of several instances, of which none is named
abbrev pub is_of_several : Given → Bool
is_of_several given =
    is_word (given.value (codes "format")) (codes "wt")
    || ((is_word (given.value (codes "format")) (codes "flow")
    || is_word (given.value (codes "format")) (codes "jobshop"))
    && is_none (given.value (codes "name")))

-- the instances that are named of such a file, if they are several
abbrev pub span_of : Given → Option Span
span_of given =
    if is_of_several given then option_and_then span_in (given.value (codes "index")) else None

-- the command of this name tells of several instances
abbrev pub takes_span : List ℕ → Bool
takes_span name =
    bytes_eq name (codes "solve")
    || (bytes_eq name (codes "bound") || bytes_eq name (codes "evaluate"))

abbrev pub span_for : List ℕ → Given → Option Span
span_for name given = if takes_span name then span_of given else None

-- no more is evaluated of an instance than its line tells, and nothing that is of one instance alone
pub record IsLineEach (given : Given) : Type 0 where
  pub order : given.value (codes "order") ≡ None
  pub schedule : given.value (codes "schedule") ≡ None
  pub measures : IsFlagBy (given.flag (codes "measures")) false
  pub certificate : IsFlagBy (given.flag (codes "certificate")) false
  pub csv : IsFlagBy (given.flag (codes "csv")) false
  pub summary : IsFlagBy (given.flag (codes "summary")) false
  pub grade : IsFlagBy (given.flag (codes "grade")) false

-- more is asked for: an option that is of one instance has a value, or a flag of more than a line is on
abbrev pub AsksMore : Given → Type 0
AsksMore given =
    IsTrue (is_some (given.value (codes "order")))
    ⊎ IsTrue (is_some (given.value (codes "schedule")))
    ⊎ IsFlagBy (given.flag (codes "csv")) true
    ⊎ IsFlagBy (given.flag (codes "summary")) true
    ⊎ IsFlagBy (given.flag (codes "grade")) true
    ⊎ IsFlagBy (given.flag (codes "measures")) true
    ⊎ IsFlagBy (given.flag (codes "certificate")) true

-- ---- what is told of them

abbrev pub IsToldBy : List ℕ → Given → Told → Type 0
IsToldBy name given Values = name ≡ codes "solve"
IsToldBy name given (Bounds steps) =
    (name ≡ codes "bound") × IsNumberBy 1 most_steps (given.value (codes "steps")) steps
IsToldBy name given (Ruled rule aids) =
    (name ≡ codes "evaluate") × (option_map rule_by (given.value (codes "rule")) ≡ Some rule)
    × AreAidsBy given aids
IsToldBy name given (Orders orders aids) =
    (name ≡ codes "evaluate") × (given.value (codes "rule") ≡ None)
    × (given.value (codes "orders") ≡ Some orders.now) × AreAidsBy given aids
IsToldBy name given (Answers answer aids) =
    (name ≡ codes "evaluate") × (given.value (codes "rule") ≡ None)
    × (given.value (codes "orders") ≡ None) × (given.value (codes "ANSWER") ≡ Some answer.now)
    × AreAidsBy given aids

-- how the instances are written: of a flow shop file all machines, or the two of `--pair`
abbrev pub IsFileFormBy : Given → FileForm → Type 0
IsFileFormBy given (Wt jobs) =
    IsTrue (is_word (given.value (codes "format")) (codes "wt"))
    × (number_by given (codes "jobs") 1 most_jobs ≡ Some jobs)
IsFileFormBy given (Flow pair) =
    IsFalse (is_word (given.value (codes "format")) (codes "wt"))
    × IsPairBy
    (if is_word (given.value (codes "format")) (codes "flow") then given.value (codes "pair")
    else None) pair

pub record IsSeriesBy (name : List ℕ) (given : Given) (series : Series) : Type 0 where
  pub problem : given.value (codes "problem") ≡ Some series.problem.now
  pub input : given.value (codes "INPUT") ≡ Some series.input.now
  pub machines : IsNumberBy 1 most_machines (given.value (codes "machines")) series.machines
  pub form : IsFileFormBy given series.form
  pub span : span_for name given ≡ Some series.span
  pub told : IsToldBy name given series.told
  pub json : IsFlagBy (given.flag (codes "json")) series.json

-- ---- the first fault

abbrev pub jobs_fault : Given → Option (List ℕ)
jobs_fault given =
    unless_some (codes "--format wt needs --jobs, a number from 1 to 100000")
    (number_by given (codes "jobs") 1 most_jobs)

abbrev pub file_fault : Given → Option (List ℕ)
file_fault given =
    if is_word (given.value (codes "format")) (codes "wt") then jobs_fault given
    else (if is_word (given.value (codes "format")) (codes "flow") then pair_fault given else None)

-- of the machines, of the file, and then of what is told
abbrev pub series_fault : List ℕ → Given → Option (List ℕ)
series_fault name given =
    first_fault (machines_fault given) (first_fault (file_fault given) (own_fault name given))

-- a value is not there that clap always gives
abbrev pub lacks_names : Given → Bool
lacks_names given = lacks given (codes "problem") || lacks given (codes "INPUT")

-- an answer is evaluated, and clap gave none
abbrev pub lacks_answers : List ℕ → Given → Bool
lacks_answers name given =
    not (has_no_answer name || is_rating name given) && lacks given (codes "ANSWER")

-- the instances of which the command of this name tells a line each, the first fault of its values, or
-- want of memory where clap gave too little
abbrev pub IsSeriesAsked : List ℕ → Given → Asked → Type 0
IsSeriesAsked name given (asking.Series series) = IsSeriesBy name given series
IsSeriesAsked name given (asking.Unfit message) = series_fault name given ≡ Some message.now
IsSeriesAsked name given asking.NoMemory =
    IsTrue (lacks_names given || lacks_answers name given)
IsSeriesAsked name given _ = ⊥
