-- The format of the output that a command line names.
use Rattle.std.specs.Prelude.{◌≡◌, ◌⊎◌, ℕ, Bool, ◌||◌, true, List, Option, None, Some, codes, if◌then◌else◌}
use Rattle.std.specs.Str.{bytes_eq}
use Rattle.tf_text.specs.declared.answer.layout.Layout.{Layout}
use Rattle.tf_text.specs.declared.answer.layout.Layout.TheVariants.{One}
use Rattle.tf_export.specs.declared.csv.Table.TheVariants.{Pieces, Outcomes}
use Rattle.tf_export.specs.declared.documents.Document.TheVariants.{Answer, Bound, Evaluation, Verdict, Problems, Plan, Border, Orders}
use Rattle.tf_options.specs.Matched.{layout_by}
use Rattle.tf_asked.specs.declared.format.Format.{Format}
use Rattle.tf_asked.specs.declared.format.Format.TheVariants.{Json, Csv, OrderRows, MeasuredRows, Summary}
use Rattle.tf_options.specs.declared.options.Asked.{Asked}
use Rattle.tf_options.specs.declared.options.Asked.TheVariants as asking
use Rattle.tf_options.specs.declared.options.Asked.TheVariants.{Formatted}
use Rattle.tf_asked.specs.declared.options.OrderSource.{OrderSource}
use Rattle.tf_asked.specs.declared.options.OrderSource.TheVariants.{Given, Ruled, Named, Drawn}
use Rattle.tf_asked.specs.declared.options.Options.{Options}
use Rattle.tf_asked.specs.declared.options.Work.{Work}
use Rattle.tf_asked.specs.declared.options.Work.TheVariants as works
use Rattle.tf_asked.specs.declared.aids.Aids.{Aids}
use Rattle.tf_asked.specs.declared.options.Work.TheVariants.{Solve, Trace, Check, Evaluate, Assess, Rate, Gantt, Picture, Random}

-- the value of each option that has one, by the option's name
abbrev pub Values : Type 0
Values = List ℕ → Option (List ℕ)

-- what each command prints as JSON, where it can
abbrev pub json_format : List ℕ → Option Format
json_format name =
    if bytes_eq name (codes "solve") then Some (Json Answer)
    else (if bytes_eq name (codes "bound") then Some (Json Bound)
    else (if bytes_eq name (codes "plan") then Some (Json Plan)
    else (if bytes_eq name (codes "check") then Some (Json Verdict)
    else (if bytes_eq name (codes "evaluate") then Some (Json Evaluation)
    else (if bytes_eq name (codes "problems") then Some (Json Problems) else None)))))

-- and as a table
abbrev pub csv_format : List ℕ → Option Format
csv_format name =
    if bytes_eq name (codes "solve") || bytes_eq name (codes "plan") then Some (Csv Pieces)
    else (if bytes_eq name (codes "evaluate") then Some (Csv Outcomes) else None)

-- a flag is given, or not
abbrev pub IsGiven : Values → List ℕ → Type 0
IsGiven given id = given id ≡ Some (codes "true")

abbrev pub IsMissing : Values → List ℕ → Type 0
IsMissing given id = (given id ≡ Some (codes "false")) ⊎ (given id ≡ None)

-- the format of a command's output: with `--json` its document, with `--csv` its table, and with
-- `--summary` a summary behind its lines
pub record IsFormatBy (given : Values) (name : List ℕ) (format : Option Format) : Type 0 where
  pub json : IsGiven given (codes "json") → format ≡ json_format name
  pub csv : IsMissing given (codes "json") → IsGiven given (codes "csv") → format ≡ csv_format name
  pub summary : IsMissing given (codes "json") → IsMissing given (codes "csv")
      → IsGiven given (codes "summary") → format ≡ Some Summary
  pub text : IsMissing given (codes "json") → IsMissing given (codes "csv")
      → IsMissing given (codes "summary") → format ≡ None

-- the version of the answer text: 1 with `--json`, which names each job of a certificate
pub record IsSolvedLayoutBy (given : Values) (version : Option (List ℕ)) (layout : Layout) : Type 0
  where
    pub json : IsGiven given (codes "json") → layout ≡ One
    pub text : IsMissing given (codes "json") → layout ≡ layout_by version

-- a row of each order, with its values by the other objectives or without
abbrev pub rows_format : Bool → Format
rows_format is_measured = if is_measured then MeasuredRows else OrderRows

-- the format of a list of orders
abbrev pub orders_format : Format → Bool → Format
orders_format (Json document) is_measured = Json Orders
orders_format (Csv table) is_measured = rows_format is_measured
orders_format OrderRows is_measured = rows_format is_measured
orders_format MeasuredRows is_measured = rows_format is_measured
orders_format Summary is_measured = Summary

-- and of the list of which problems are polynomial
abbrev pub border_format : Format → Format
border_format (Json document) = Json Border
border_format (Csv table) = Csv table
border_format OrderRows = OrderRows
border_format MeasuredRows = MeasuredRows
border_format Summary = Summary

-- orders with the numbers of their lines
abbrev pub source_in_format : Options → OrderSource → Aids → Format → Asked
source_in_format options (Named name goes_on is_numbered) aids format =
    Formatted (Rate options (Named name goes_on true) aids)
    (orders_format format options.telling.measures)
source_in_format options (Given order detail) aids format =
    Formatted (Rate options (Given order detail) aids) format
source_in_format options (Ruled rule detail) aids format =
    Formatted (Rate options (Ruled rule detail) aids) format
source_in_format options (Drawn name detail) aids format =
    Formatted (Rate options (Drawn name detail) aids) format

-- work is done with its output in this format
abbrev pub work_in_format : Work → Format → Asked
work_in_format (Rate options source aids) format = source_in_format options source aids format
work_in_format works.Border format = Formatted works.Border (border_format format)
work_in_format (Solve options layout) format = Formatted (Solve options layout) format
work_in_format (works.Bound options steps) format = Formatted (works.Bound options steps) format
work_in_format (works.Plan options layout steps) format =
    Formatted (works.Plan options layout steps) format
work_in_format (Trace options style) format = Formatted (Trace options style) format
work_in_format (Check options answer) format = Formatted (Check options answer) format
work_in_format (Evaluate evaluating) format = Formatted (Evaluate evaluating) format
work_in_format (Assess assessing) format = Formatted (Assess assessing) format
work_in_format (Gantt answer drawing explain) format = Formatted (Gantt answer drawing explain) format
work_in_format (Picture picturing) format = Formatted (Picture picturing) format
work_in_format (Random wanted) format = Formatted (Random wanted) format
work_in_format (works.Problems listed name) format = Formatted (works.Problems listed name) format

abbrev pub one_in_format : Asked → Format → Asked
one_in_format (asking.Work work) format = work_in_format work format
one_in_format (Formatted work other) format = Formatted work other
one_in_format (asking.Series series) format = asking.Series series
one_in_format (asking.Help error) format = asking.Help error
one_in_format (asking.Misused error) format = asking.Misused error
one_in_format (asking.Unfit text) format = asking.Unfit text
one_in_format asking.NoMemory format = asking.NoMemory

-- or as text, where no format is named
abbrev pub asked_in_format : Asked → Option Format → Asked
asked_in_format asked None = asked
asked_in_format asked (Some format) = one_in_format asked format
