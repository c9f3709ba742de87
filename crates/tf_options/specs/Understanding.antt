-- What a command line asks for, by its words as clap reads them.
use Rattle.std.specs.Prelude.{◌≡◌, ◌⊎◌, ◌++◌, ℕ, Bool, true, List, Option, None, Some, IsTrue, is_some, option_map, codes}
use Rattle.clap.specs.Words.{App, HasMatchesOf, rows_of, subcommand_rows}
use Rattle.clap.specs.Words.{found_of, subcommand_name_of}
use Rattle.clap.specs.declared.parser.matches.ArgMatches.{ArgMatches}
use Rattle.clap.specs.declared.parser.matches.ArgMatches.TheViews.{out-ArgMatches}
use Rattle.tf_options.specs.FormatAsked.{IsFormatBy, asked_in_format}
use Rattle.tf_options.specs.Matched.{Given, IsFlagBy, given_of}
use Rattle.tf_options.specs.SeriesAsked.{AsksMore, IsLineEach, IsSeriesAsked, span_for}
use Rattle.tf_options.specs.Understood.{IsAskedBy}
use Rattle.tf_asked.specs.declared.format.Format.{Format}
use Rattle.tf_options.specs.declared.options.Asked.{Asked}
use Rattle.tf_options.specs.declared.options.Asked.TheVariants as asking

-- several instances are named, and more of them than a line each is asked for
abbrev pub one_instance : List ℕ
one_instance =
    codes "--csv, --summary, --measures, --certificate, --order, --schedule and --grade "
    ++ codes "take one instance, and --index names several"

abbrev pub IsOneInstance : Asked → Type 0
IsOneInstance (asking.Unfit message) = message.now ≡ one_instance
IsOneInstance _ = ⊥

-- the values of a schedule are asked for in a table of jobs, which has no place for them
pub record IsMeasuredList (given : Given) : Type 0 where
  pub measures : IsFlagBy (given.flag (codes "measures")) true
  pub csv : IsFlagBy (given.flag (codes "csv")) true
  pub orders : given.value (codes "orders") ≡ None

abbrev pub IsOrdersAlone : Asked → Type 0
IsOrdersAlone (asking.Unfit message) =
    message.now ≡ codes "--csv goes with --measures for --orders alone"
IsOrdersAlone _ = ⊥

-- one thing, as text or in the format that is named
abbrev pub IsFormattedBy : List ℕ → Given → Bool → Asked → Type 0
IsFormattedBy name given on_terminal asked =
    (plain : Asked) × (format : Option Format) × IsAskedBy name given on_terminal plain
    × IsFormatBy given.flag name format × (asked ≡ asked_in_format plain format)

-- by the name of a command, and by what clap found of it: a line for each of several instances, or one
-- thing, as text or in a format
abbrev pub IsUnderstoodBy : List ℕ → Given → Bool → Asked → Type 0
IsUnderstoodBy name given on_terminal asked =
    (IsTrue (is_some (span_for name given))
    × ((IsLineEach given × IsSeriesAsked name given asked)
    ⊎ (AsksMore given × IsOneInstance asked)))
    ⊎ ((span_for name given ≡ None)
    × ((IsMeasuredList given × IsOrdersAlone asked)
    ⊎ IsFormattedBy name given on_terminal asked))

-- clap made the matches of the words, and its matches of the command that they name ask for this
pub record IsOfWords (app : App) (words : List (List ℕ)) (on_terminal : Bool) (asked : Asked) : Type 0
  where
    pub matches : ArgMatches
    pub is_made : HasMatchesOf app words matches
    pub name : List ℕ
    pub given : ArgMatches
    pub is_named : subcommand_name_of matches ≡ Some name
    pub is_given : option_map (λ p. p.1) (subcommand_rows (out-ArgMatches matches).subcommand)
        ≡ Some (rows_of (found_of given))
    pub understood : IsUnderstoodBy name (given_of given) on_terminal asked

-- clap made the matches of the words, and its matches of a command have this value of `output`
pub record IsOutputIn (app : App) (words : List (List ℕ)) (output : List ℕ) : Type 0
  where
    pub matches : ArgMatches
    pub is_made : HasMatchesOf app words matches
    pub given : ArgMatches
    pub is_given : option_map (λ p. p.1) (subcommand_rows (out-ArgMatches matches).subcommand)
        ≡ Some (rows_of (found_of given))
    pub is_output : (given_of given).value (codes "output") ≡ Some output

-- help, a command line that is none of the program's, and want of memory are told by clap
abbrev pub IsUnderstood : App → List (List ℕ) → Bool → Asked → Type 0
IsUnderstood app words on_terminal (asking.Help error) = Unit {0}
IsUnderstood app words on_terminal (asking.Misused error) = Unit {0}
IsUnderstood app words on_terminal asking.NoMemory = Unit {0}
IsUnderstood app words on_terminal asked = IsOfWords app words on_terminal asked
