-- What the options of a command ask for, by what clap found of them.
use Rattle.std.specs.Prelude.{◌⊎◌, ◌≡◌, ℕ, Bool, true, false, not, ◌&&◌, ◌==◌, List, Option, None, Some, IsSome, IsTrue, is_some, option_map, codes, if◌then◌else◌}
use Rattle.std.specs.List.{before_first, after_first}
use Rattle.std.specs.Option.{option_and_then}
use Rattle.std.specs.Str.{bytes_eq}
use Rattle.clap.specs.Words.{first_value, found_of, matched_of, one_text}
use Rattle.clap.specs.declared.parser.matches.ArgMatches.{ArgMatches}
use Rattle.tf_model.specs.Limit.{most_jobs, most_machines}
use Rattle.tf_text.specs.Chart.{most_columns}
use Rattle.tf_text.specs.declared.answer.layout.Layout.{Layout}
use Rattle.tf_text.specs.declared.answer.layout.Layout.TheVariants.{One, Two}
use Rattle.tf_trace.specs.declared.board.Style.{Style}
use Rattle.tf_trace.specs.declared.board.Style.TheVariants.{Plain, Latex}
use Rattle.tf_evaluate.specs.declared.evaluation.Detail.{Detail}
use Rattle.tf_evaluate.specs.declared.evaluation.Detail.TheVariants.{Summary, WithArithmetic}
use Rattle.tf_listing.specs.declared.listing.Listed.{Listed}
use Rattle.tf_listing.specs.declared.listing.Listed.TheVariants.{Solved, Bounded}
use Rattle.tf_options.specs.OptionNumber.{numeral_in}
use Rattle.tf_asked.specs.declared.options.FormOption.{FormOption}
use Rattle.tf_asked.specs.declared.options.FormOption.TheVariants.{Table, Wt, Flow}
use Rattle.tf_asked.specs.declared.options.Idle.{Idle}
use Rattle.tf_asked.specs.declared.options.Options.{Options}
use Rattle.tf_options.specs.declared.wrong.Wrong.{Wrong}
use Rattle.tf_options.specs.declared.wrong.Wrong.TheVariants.{Unfit, Missing}

-- by the name of an option or an argument: its first value, its first value as it is read for a
-- flag, and whether it was given or has a default
pub record Given : Type 0 where
  pub value : List ℕ → Option (List ℕ)
  pub flag : List ℕ → Option (List ℕ)
  pub is_there : List ℕ → Bool

-- what clap found of a command
abbrev pub given_of : ArgMatches → Given
given_of matches = record {
  value = first_value (found_of matches);
  flag = one_text (found_of matches);
  is_there = λ name. is_some (matched_of (found_of matches) name);
}

-- the value is this word
abbrev pub is_word : Option (List ℕ) → List ℕ → Bool
is_word None word = false
is_word (Some value) word = bytes_eq value word

-- ---- values

-- the version of the answer text: 1 where that word is given, otherwise 2
abbrev pub layout_by : Option (List ℕ) → Layout
layout_by None = Two
layout_by (Some word) = if bytes_eq word (codes "1") then One else Two

-- faults are explained: always, never, or where standard error is a terminal
abbrev pub explains_by : Option (List ℕ) → Bool → Bool
explains_by value on_terminal =
    if is_word value (codes "always") then true
    else (if is_word value (codes "never") then false else on_terminal)

-- a flag is on where clap read "true", and off where it has no value or clap read "false"
abbrev pub IsFlagBy : Option (List ℕ) → Bool → Type 0
IsFlagBy None on = on ≡ false
IsFlagBy (Some word) on = (word ≡ codes "true" → on ≡ true) × (word ≡ codes "false" → on ≡ false)

abbrev pub is_latex : Style → Bool
is_latex Plain = false
is_latex Latex = true

abbrev pub lists_bounded : Listed → Bool
lists_bounded Solved = false
lists_bounded Bounded = true

abbrev pub has_arithmetic : Detail → Bool
has_arithmetic Summary = false
has_arithmetic WithArithmetic = true

-- the number that an option gives, where it gives one of this range
abbrev pub number_by : Given → List ℕ → ℕ → ℕ → Option ℕ
number_by given name least most = option_and_then (numeral_in least most) (given.value name)

-- an option that may be left out: nothing, or the number of this range that it gives
abbrev pub IsNumberBy : ℕ → ℕ → Option (List ℕ) → Option ℕ → Type 0
IsNumberBy least most None number = number ≡ None
IsNumberBy least most (Some word) number = IsSome number × (number ≡ numeral_in least most word)

-- the numbers of two machines, before and after the first comma
abbrev pub pair_in : List ℕ → Option (ℕ × ℕ)
pair_in word =
    option_and_then
    (λ first. option_map (λ second. (first, second))
    (numeral_in 0 most_machines (after_first (λ c. c == 44) word)))
    (numeral_in 0 most_machines (before_first (λ c. c == 44) word))

abbrev pub IsPairBy : Option (List ℕ) → Option (ℕ × ℕ) → Type 0
IsPairBy None pair = pair ≡ None
IsPairBy (Some word) pair = IsSome pair × (pair ≡ pair_in word)

-- the most steps of the search for prices
abbrev pub most_steps : ℕ
most_steps = 1000000

-- ---- the options of a command

-- what is wanted of each form: of a weighted tardiness file `--jobs` and `--index`, of a flow shop
-- file `--name` and `--pair`, of a job shop file, which has the layout of one, `--name`
abbrev pub IsFormBy : Given → FormOption → Type 0
IsFormBy given Table =
    (is_word (given.value (codes "format")) (codes "wt") ≡ false)
    × (is_word (given.value (codes "format")) (codes "flow") ≡ false)
    × (is_word (given.value (codes "format")) (codes "jobshop") ≡ false)
IsFormBy given (Wt jobs index) =
    (given.value (codes "format") ≡ Some (codes "wt"))
    × (number_by given (codes "jobs") 1 most_jobs ≡ Some jobs)
    × (number_by given (codes "index") 1 4294967295 ≡ Some index)
IsFormBy given (Flow name pair) =
    (given.value (codes "name") ≡ Some name.now)
    × (((given.value (codes "format") ≡ Some (codes "flow"))
    × IsPairBy (given.value (codes "pair")) pair)
    ⊎ ((given.value (codes "format") ≡ Some (codes "jobshop")) × (pair ≡ None)))

abbrev pub is_wt : FormOption → Bool
is_wt Table = false
is_wt (Wt jobs index) = true
is_wt (Flow name pair) = false

abbrev pub is_flow : FormOption → Bool
is_flow Table = false
is_flow (Wt jobs index) = false
is_flow (Flow name pair) = true

-- the options that were given, and that are of another form
pub record AreIdleBy (given : Given) (form : FormOption) (idle : Idle) : Type 0 where
  pub jobs : idle.jobs ≡ (given.is_there (codes "jobs") && not (is_wt form))
  pub name : idle.name ≡ (given.is_there (codes "name") && not (is_flow form))
  pub pair : idle.pair
      ≡ (given.is_there (codes "pair")
      && not (is_word (given.value (codes "format")) (codes "flow")))

pub record AreOptionsBy (given : Given) (on_terminal : Bool) (options : Options) : Type 0 where
  pub problem : given.value (codes "problem") ≡ Some options.problem.now
  pub input : given.value (codes "INPUT") ≡ Some options.input.now
  pub machines : IsNumberBy 1 most_machines (given.value (codes "machines")) options.machines
  pub form : IsFormBy given options.form
  pub explain : options.telling.explain ≡ explains_by (given.value (codes "explain")) on_terminal
  pub measures : IsFlagBy (given.flag (codes "measures")) options.telling.measures
  pub style : IsFlagBy (given.flag (codes "tex")) (is_latex options.telling.style)
  pub idle : AreIdleBy given options.form options.telling.idle

-- ---- the first fault of the options' values, as it is told

-- that message where there is nothing
abbrev pub unless_some : {X : Type 0} → List ℕ → Option X → Option (List ℕ)
unless_some message None = Some message
unless_some message (Some x) = None

abbrev pub first_fault : Option (List ℕ) → Option (List ℕ) → Option (List ℕ)
first_fault (Some message) later = Some message
first_fault None later = later

abbrev pub machines_fault : Given → Option (List ℕ)
machines_fault given =
    option_and_then
    (λ word. unless_some (codes "--machines takes a number from 1 to 1000")
    (numeral_in 1 most_machines word))
    (given.value (codes "machines"))

abbrev pub wt_fault : Given → Option (List ℕ)
wt_fault given = first_fault
    (unless_some (codes "--format wt needs --jobs, a number from 1 to 100000")
    (number_by given (codes "jobs") 1 most_jobs))
    (unless_some (codes "--index takes a number from 1 to 4294967295")
    (number_by given (codes "index") 1 4294967295))

abbrev pub pair_fault : Given → Option (List ℕ)
pair_fault given =
    option_and_then
    (λ word. unless_some
    (codes "--pair takes two numbers up to 1000 with a comma between them") (pair_in word))
    (given.value (codes "pair"))

abbrev pub flow_fault : Given → Option (List ℕ)
flow_fault given = first_fault
    (unless_some (codes "--format flow needs --name") (given.value (codes "name")))
    (pair_fault given)

abbrev pub job_shop_fault : Given → Option (List ℕ)
job_shop_fault given =
    unless_some (codes "--format jobshop needs --name") (given.value (codes "name"))

abbrev pub form_fault : Given → Option (List ℕ)
form_fault given =
    if is_word (given.value (codes "format")) (codes "wt") then wt_fault given
    else if is_word (given.value (codes "format")) (codes "flow") then flow_fault given
    else if is_word (given.value (codes "format")) (codes "jobshop") then job_shop_fault given
    else None

abbrev pub options_fault : Given → Option (List ℕ)
options_fault given = first_fault (machines_fault given) (form_fault given)

abbrev pub steps_fault : Given → Option (List ℕ)
steps_fault given =
    option_and_then
    (λ word. unless_some (codes "--steps takes a number from 1 to 1000000")
    (numeral_in 1 most_steps word))
    (given.value (codes "steps"))

abbrev pub columns_fault : Given → Option (List ℕ)
columns_fault given = unless_some (codes "--columns takes a number from 1 to 1000")
    (number_by given (codes "columns") 1 most_columns)

-- that fault is told; or one of the values is not there that clap always gives
abbrev pub IsToldInstead : Bool → Option (List ℕ) → Wrong → Type 0
IsToldInstead lacking fault (Unfit message) = fault ≡ Some message.now
IsToldInstead lacking fault Missing = IsTrue lacking

-- the command has no value of this name
abbrev pub lacks : Given → List ℕ → Bool
lacks given name = not (is_some (given.value name))
