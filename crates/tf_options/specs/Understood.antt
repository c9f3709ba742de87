-- What a command line asks for, by the name of its command and by what clap found of that.
use Rattle.std.specs.Prelude.{◌≡◌, ℕ, Bool, true, false, not, ◌&&◌, ◌||◌, List, Option, None, Some, IsTrue, is_some, option_map, codes, if◌then◌else◌}
use Rattle.std.specs.Str.{bytes_eq}
use Rattle.tf_model.specs.Limit.{most_jobs, most_machines}
use Rattle.tf_random.specs.declared.run_random.Wanted.{Wanted}
use Rattle.tf_sequencing.specs.declared.rule.Rule.{Rule}
use Rattle.tf_sequencing.specs.declared.rule.Rule.TheVariants.{Edd, Spt, Lpt, Wspt, Erd}
use Rattle.tf_options.specs.Matched.{Given, AreOptionsBy, IsFlagBy, IsNumberBy, explains_by, first_fault, has_arithmetic, is_latex, is_word, lacks, lists_bounded, machines_fault, most_steps, number_by, options_fault, steps_fault, unless_some}
use Rattle.tf_options.specs.Viewing.{IsDrawingBy, IsPicturingBy, gantt_fault}
use Rattle.tf_options.specs.FormatAsked.{IsSolvedLayoutBy}
use Rattle.tf_asked.specs.declared.aids.Aids.{Aids}
use Rattle.tf_options.specs.declared.options.Asked.{Asked}
use Rattle.tf_options.specs.declared.options.Asked.TheVariants.{Work, Unfit, NoMemory}
use Rattle.tf_asked.specs.declared.options.OrderSource.{OrderSource}
use Rattle.tf_asked.specs.declared.options.OrderSource.TheVariants.{Given as Written, Ruled, Named, Drawn}
use Rattle.tf_asked.specs.declared.options.Work.{Work as Asking}
use Rattle.tf_asked.specs.declared.options.Work.TheVariants.{Solve, Bound, Plan, Trace, Check, Evaluate, Assess, Rate, Gantt, Random, Problems, Border, Picture}

-- the rule of a name
abbrev pub rule_by : List ℕ → Rule
rule_by name =
    if bytes_eq name (codes "EDD") then Edd
    else (if bytes_eq name (codes "SPT") then Spt
    else (if bytes_eq name (codes "LPT") then Lpt
    else (if bytes_eq name (codes "WSPT") then Wspt else Erd)))

-- the orders that are evaluated: that of `--order` or of the rule that `--rule` names, or those of the text
-- that `--orders` names; or the pieces of the text that `--schedule` names; of one schedule also
-- whether the arithmetic of a certificate is reported
abbrev pub IsOrderBy : Given → OrderSource → Type 0
IsOrderBy given (Written order detail) =
    (given.value (codes "order") ≡ Some order.now)
    × IsFlagBy (given.flag (codes "certificate")) (has_arithmetic detail)
IsOrderBy given (Ruled rule detail) =
    (given.value (codes "order") ≡ None)
    × (option_map rule_by (given.value (codes "rule")) ≡ Some rule)
    × IsFlagBy (given.flag (codes "certificate")) (has_arithmetic detail)
IsOrderBy given (Named name goes_on is_numbered) =
    (given.value (codes "order") ≡ None) × (given.value (codes "rule") ≡ None)
    × (given.value (codes "orders") ≡ Some name.now)
    × IsFlagBy (given.flag (codes "grade")) goes_on × (is_numbered ≡ false)
IsOrderBy given (Drawn name detail) =
    (given.value (codes "order") ≡ None) × (given.value (codes "rule") ≡ None)
    × (given.value (codes "orders") ≡ None)
    × (given.value (codes "schedule") ≡ Some name.now)
    × IsFlagBy (given.flag (codes "certificate")) (has_arithmetic detail)

-- none of them is given
pub record HasNoOrder (given : Given) : Type 0 where
  pub order : given.value (codes "order") ≡ None
  pub rule : given.value (codes "rule") ≡ None
  pub orders : given.value (codes "orders") ≡ None
  pub schedule : given.value (codes "schedule") ≡ None

abbrev pub has_order : Given → Bool
has_order given =
    is_some (given.value (codes "order"))
    || (is_some (given.value (codes "rule"))
    || (is_some (given.value (codes "orders")) || is_some (given.value (codes "schedule"))))

-- the fault of a text that is standard input, where the instance is that too
abbrev pub fault_if : Bool → List ℕ → Option (List ℕ)
fault_if twice fault = if twice then Some fault else None

abbrev pub input_fault : OrderSource → Option (List ℕ)
input_fault (Written order detail) = None
input_fault (Ruled rule detail) = None
input_fault (Named name goes_on is_numbered) =
    fault_if (bytes_eq name.now (codes "-")) (codes "INPUT and --orders cannot both be standard input")
input_fault (Drawn name detail) =
    fault_if (bytes_eq name.now (codes "-"))
    (codes "INPUT and --schedule cannot both be standard input")

-- what a random table is to be like
pub record IsWantedBy (given : Given) (wanted : Wanted) : Type 0 where
  pub problem : given.value (codes "problem") ≡ Some wanted.problem.now
  pub jobs : number_by given (codes "jobs") 1 most_jobs ≡ Some wanted.jobs
  pub machines : IsNumberBy 1 most_machines (given.value (codes "machines")) wanted.machines
  pub seed : number_by given (codes "seed") 0 4294967295 ≡ Some wanted.seed
  pub most : number_by given (codes "max") 1 1000000 ≡ Some wanted.most

abbrev pub wanted_fault : Given → Option (List ℕ)
wanted_fault given = first_fault (machines_fault given)
    (first_fault
    (unless_some (codes "--jobs takes a number from 1 to 100000")
    (number_by given (codes "jobs") 1 most_jobs))
    (first_fault
    (unless_some (codes "--seed takes a number from 0 to 4294967295")
    (number_by given (codes "seed") 0 4294967295))
    (unless_some (codes "--max takes a number from 1 to 1000000")
    (number_by given (codes "max") 1 1000000))))

-- the text of a bound and the steps of the search for prices, where they are given
pub record AreAidsBy (given : Given) (aids : Aids) : Type 0 where
  pub bound : option_map (λ name. name.now) aids.bound ≡ given.value (codes "bound")
  pub steps : IsNumberBy 1 most_steps (given.value (codes "steps")) aids.steps

-- the work of a command, and each of its options
abbrev pub IsWorkBy : List ℕ → Given → Bool → Asking → Type 0
IsWorkBy name given on_terminal (Solve options layout) =
    (name ≡ codes "solve")
    × AreOptionsBy given on_terminal options
    × IsSolvedLayoutBy given.flag (given.value (codes "answer")) layout
IsWorkBy name given on_terminal (Bound options steps) =
    (name ≡ codes "bound")
    × AreOptionsBy given on_terminal options
    × IsNumberBy 1 most_steps (given.value (codes "steps")) steps
IsWorkBy name given on_terminal (Plan options layout steps) =
    (name ≡ codes "plan")
    × AreOptionsBy given on_terminal options
    × IsSolvedLayoutBy given.flag (given.value (codes "answer")) layout
    × IsNumberBy 1 most_steps (given.value (codes "steps")) steps
IsWorkBy name given on_terminal (Trace options style) =
    (name ≡ codes "trace")
    × AreOptionsBy given on_terminal options
    × IsFlagBy (given.flag (codes "tex")) (is_latex style)
IsWorkBy name given on_terminal (Check options answer) =
    (name ≡ codes "check")
    × AreOptionsBy given on_terminal options
    × (given.value (codes "ANSWER") ≡ Some answer.now)
IsWorkBy name given on_terminal (Evaluate evaluating) =
    (name ≡ codes "evaluate")
    × AreOptionsBy given on_terminal evaluating.options
    × HasNoOrder given
    × (given.value (codes "ANSWER") ≡ Some evaluating.answer.now)
    × (given.value (codes "bound") ≡ None)
    × IsFlagBy (given.flag (codes "certificate")) (has_arithmetic evaluating.detail)
    × IsNumberBy 1 most_steps (given.value (codes "steps")) evaluating.steps
IsWorkBy name given on_terminal (Assess assessing) =
    (name ≡ codes "evaluate")
    × AreOptionsBy given on_terminal assessing.options
    × HasNoOrder given
    × (given.value (codes "ANSWER") ≡ Some assessing.answer.now)
    × (given.value (codes "bound") ≡ Some assessing.bound.now)
    × IsNumberBy 1 most_steps (given.value (codes "steps")) assessing.steps
IsWorkBy name given on_terminal (Rate options orders aids) =
    (name ≡ codes "evaluate")
    × AreOptionsBy given on_terminal options
    × IsOrderBy given orders
    × AreAidsBy given aids
IsWorkBy name given on_terminal (Gantt answer drawing explain) =
    (name ≡ codes "gantt")
    × (given.value (codes "input") ≡ None)
    × (given.value (codes "ANSWER") ≡ Some answer.now)
    × IsDrawingBy given drawing
    × (explain ≡ explains_by (given.value (codes "explain")) on_terminal)
IsWorkBy name given on_terminal (Picture picturing) =
    (name ≡ codes "gantt") × IsPicturingBy given on_terminal picturing
IsWorkBy name given on_terminal (Random wanted) = (name ≡ codes "random") × IsWantedBy given wanted
IsWorkBy name given on_terminal (Problems listed table) =
    (name ≡ codes "problems")
    × IsFlagBy (given.flag (codes "border")) false
    × IsFlagBy (given.flag (codes "bounds")) (lists_bounded listed)
    × (option_map (λ file. file.now) table ≡ given.value (codes "FILE"))
IsWorkBy name given on_terminal Border =
    (name ≡ codes "problems") × IsFlagBy (given.flag (codes "border")) true

-- the commands that search for prices
abbrev pub has_steps : List ℕ → Bool
has_steps name = bytes_eq name (codes "bound") || bytes_eq name (codes "plan")

-- the commands that have options and no answer
abbrev pub has_no_answer : List ℕ → Bool
has_no_answer name =
    bytes_eq name (codes "solve") || (has_steps name || bytes_eq name (codes "trace"))

-- both the instance and the answer are standard input
abbrev pub answer_fault : Given → Option (List ℕ)
answer_fault given =
    if is_word (given.value (codes "ANSWER")) (codes "-")
    && is_word (given.value (codes "INPUT")) (codes "-")
    then Some (codes "INPUT and ANSWER cannot both be standard input")
    else None

-- the text that is named so is standard input
abbrev pub is_standard_input : Given → List ℕ → Bool
is_standard_input given name = is_word (given.value name) (codes "-")

-- both the text of a bound and another text are standard input
abbrev pub bound_fault : Given → Option (List ℕ)
bound_fault given =
    if is_standard_input given (codes "bound")
    && (is_standard_input given (codes "ANSWER") || is_standard_input given (codes "INPUT"))
    then Some (codes "--bound and INPUT or ANSWER cannot both be standard input")
    else None

-- the fault of what an answer is evaluated by: that, or the steps of the search for prices
abbrev pub aids_fault : Given → Option (List ℕ)
aids_fault given = first_fault (bound_fault given) (steps_fault given)

-- the same of a command of this name
abbrev pub evaluating_fault : List ℕ → Given → Option (List ℕ)
evaluating_fault name given =
    if bytes_eq name (codes "evaluate") then aids_fault given else None

-- orders or pieces are evaluated
abbrev pub is_rating : List ℕ → Given → Bool
is_rating name given = bytes_eq name (codes "evaluate") && has_order given

-- both the instance and the orders or the pieces are standard input
abbrev pub named_fault : Given → Option (List ℕ)
named_fault given =
    if is_some (given.value (codes "order")) || is_some (given.value (codes "rule")) then None
    else (if is_some (given.value (codes "orders"))
    then fault_if (is_word (given.value (codes "orders")) (codes "-"))
    (codes "INPUT and --orders cannot both be standard input")
    else fault_if (is_word (given.value (codes "schedule")) (codes "-"))
    (codes "INPUT and --schedule cannot both be standard input"))

abbrev pub orders_fault : Given → Option (List ℕ)
orders_fault given =
    if is_word (given.value (codes "INPUT")) (codes "-") then named_fault given else None

-- the text of a bound is standard input, and so is that of the instance, or of the orders or the pieces
abbrev pub beside_fault : Given → Option (List ℕ)
beside_fault given =
    if is_standard_input given (codes "bound")
    && (is_standard_input given (codes "INPUT") || is_some (named_fault given))
    then Some (codes "--bound and another text cannot both be standard input")
    else None

-- the fault of what orders or pieces are evaluated by: one of these, or the steps of the search for prices
abbrev pub rating_fault : Given → Option (List ℕ)
rating_fault given =
    first_fault (orders_fault given) (first_fault (beside_fault given) (steps_fault given))

-- the fault of a command's values that is told first
abbrev pub own_fault : List ℕ → Given → Option (List ℕ)
own_fault name given =
    if has_steps name then steps_fault given
    else (if has_no_answer name then None
    else (if is_rating name given then rating_fault given
    else first_fault (answer_fault given) (evaluating_fault name given)))

abbrev pub fault_by : List ℕ → Given → Option (List ℕ)
fault_by name given =
    if bytes_eq name (codes "gantt") then gantt_fault given
    else (if bytes_eq name (codes "problems") then None
    else (if bytes_eq name (codes "random") then wanted_fault given
    else first_fault (options_fault given) (own_fault name given)))

-- a value is not there that clap always gives, or the command is none of the program's
abbrev pub lacks_options : Given → Bool
lacks_options given =
    lacks given (codes "problem")
    || (lacks given (codes "INPUT") || lacks given (codes "format"))

abbrev pub lacks_answer : List ℕ → Given → Bool
lacks_answer name given =
    lacks given (codes "ANSWER")
    || not (bytes_eq name (codes "check") || bytes_eq name (codes "evaluate"))

abbrev pub lacks_own : List ℕ → Given → Bool
lacks_own name given =
    if has_no_answer name || is_rating name given then lacks_options given
    else lacks_options given || lacks_answer name given

abbrev pub lacks_drawing : Given → Bool
lacks_drawing given =
    if is_some (given.value (codes "input"))
    then lacks given (codes "ANSWER") || lacks given (codes "format")
    else lacks given (codes "ANSWER") || lacks given (codes "columns")

abbrev pub is_incomplete : List ℕ → Given → Bool
is_incomplete name given =
    if bytes_eq name (codes "gantt") then lacks_drawing given
    else (if bytes_eq name (codes "random") then lacks given (codes "problem")
    else lacks_own name given)

-- the command's work, the first fault of its values, or want of memory where clap gave too little
abbrev pub IsAskedBy : List ℕ → Given → Bool → Asked → Type 0
IsAskedBy name given on_terminal (Work work) = IsWorkBy name given on_terminal work
IsAskedBy name given on_terminal (Unfit message) = fault_by name given ≡ Some message.now
IsAskedBy name given on_terminal NoMemory = IsTrue (is_incomplete name given)
IsAskedBy name given on_terminal _ = ⊥
