-- What the commands print, as JSON.
use Rattle.std.specs.Prelude.{ℕ, List, [], ◌∷◌, ◌++◌, codes, drop, take, length, map, if◌then◌else◌, Option}
use Rattle.std.specs.List.{flat_map}
use Rattle.tf_words.specs.Words.{words, lines, first_is}
use Rattle.tf_export.specs.Json.{array, member, object, heading}
use Rattle.tf_export.specs.Lines.{first_of, has_line}
use Rattle.tf_export.specs.Orders.{order_in}
use Rattle.tf_export.specs.Tally.{summary_of}
use Rattle.tf_export.specs.Members.{phrase, record_of, row_in, line_members, named_value}
use Rattle.tf_export.specs.Plan.{open_in, solved_in}
use Rattle.tf_export.specs.Csv.{column_names, row_key}
use Rattle.tf_export.specs.declared.csv.Table.TheVariants.{Pieces, Outcomes}
use Rattle.tf_export.specs.declared.documents.Part.{Part}
use Rattle.tf_export.specs.declared.documents.Part.TheVariants.{Members, Step, Problem, Row, Open, Solved, Known, Order, Mark}
use Rattle.tf_export.specs.declared.documents.Document.{Document}
use Rattle.tf_export.specs.declared.documents.Document.TheVariants.{Answer, Bound, Evaluation, Verdict, Problems, Plan, Border, Orders}

-- a step of a certificate's arithmetic, as a string
abbrev pub step_in : List (List ℕ) → List (List ℕ)
step_in [] = []
step_in (key ∷ row) = if first_is (codes "step") (key ∷ row) then phrase row ∷ [] else []

-- A problem that is solved: its notation, the fields that it needs and what is minimized where. The
-- columns have 17 and 13 bytes.
abbrev pub problem_in : List ℕ → List ℕ
problem_in line = object (
    member (codes "problem") (phrase (words (take 17 line)))
    ∷ member (codes "needs") (phrase (words (take 13 (drop 17 line))))
    ∷ member (codes "objective") (phrase (words (drop 13 (drop 17 line)))) ∷ [])

-- the command that has schedules, if one does
abbrev pub command_member : List (List ℕ) → List ℕ
command_member command =
    if first_is (codes "-") command then member (codes "command") (codes "null")
    else member (codes "command") (phrase command)

-- A problem whose complexity is known, the command that has schedules, and who has shown it. The columns
-- have 20, 12 and 7 bytes.
abbrev pub known_in : List ℕ → List ℕ
known_in line = object (
    member (codes "problem") (phrase (words (take 20 line)))
    ∷ member (codes "complexity") (phrase (words (take 12 (drop 20 line))))
    ∷ command_member (words (take 7 (drop 12 (drop 20 line))))
    ∷ member (codes "source") (phrase (words (drop 7 (drop 12 (drop 20 line))))) ∷ [])

-- a count of a summary, in a comment of its own
abbrev pub mark_in : List (List ℕ) → List (List ℕ)
mark_in line = if first_is (codes "#") line then named_value (drop 1 line) else []

-- what is taken of a line and of the next one: members, a step, a problem or a row of a table as an
-- object
abbrev pub part_in : Part → List ℕ → List ℕ → List (List ℕ)
part_in Members line next = line_members (words line) (words next)
part_in Step line next = step_in (words line)
part_in Problem line next = problem_in line ∷ []
part_in (Row table) line next = map (record_of (column_names table))
    (row_in (row_key table) (length (words (column_names table))) (words line))
part_in Open line next = open_in (words line) (words next)
part_in Solved line next = solved_in (words line) (words next)
part_in Known line next = known_in line ∷ []
part_in Order line next = order_in line ∷ []
part_in Mark line next = mark_in (words line)

-- and of all lines
unfoldable pub parts : Part → List (List ℕ) → List (List ℕ)
parts part [] = []
parts part (line ∷ more) = part_in part line (first_of more) ++ parts part more

abbrev pub parts_array : List ℕ → Part → List (List ℕ) → List ℕ
parts_array name part lines = member name (array (parts part lines))

abbrev pub parts_object : List ℕ → Part → List (List ℕ) → List ℕ
parts_object name part lines = member name (object (parts part lines))

-- what stands behind the heading of a text, line by line
abbrev pub members_behind : List ℕ → List (List ℕ)
members_behind text = parts Members (drop 1 (lines text))

-- an answer: its lines, and its pieces
abbrev pub answer_members : List ℕ → List (List ℕ)
answer_members text =
    members_behind text ++ parts_array (codes "pieces") (Row Pieces) (lines text) ∷ []

-- null for each name that begins no line
abbrev pub unknown_member : List ℕ → List (List ℕ) → List (List ℕ)
unknown_member name lines =
    if has_line name lines then [] else member name (codes "null") ∷ []

unfoldable pub unknown : List (List ℕ) → List (List ℕ) → List (List ℕ)
unknown names lines = flat_map (λ name. unknown_member name lines) names

-- an evaluation: its lines, what is not known, the steps of the arithmetic, and the jobs
abbrev pub evaluation_members : List ℕ → List (List ℕ)
evaluation_members text =
    members_behind text
    ++ (unknown (words (codes "claimed value best gap bound")) (lines text)
    ++ (parts_array (codes "steps") Step (lines text)
    ∷ parts_array (codes "outcomes") (Row Outcomes) (lines text) ∷ []))

-- A plan: its lines and its pieces. What a solver has found has no comments.
abbrev pub part_of_plan : List (List ℕ) → Part
part_of_plan lines = if has_line (codes "##") lines then Open else Solved

abbrev pub plan_members : List ℕ → List (List ℕ)
plan_members text =
    parts (part_of_plan (lines text)) (drop 1 (lines text))
    ++ parts_array (codes "pieces") (Row Pieces) (lines text) ∷ []

-- orders: the optimum or the bound, the summary, and what each comes to
abbrev pub orders_members : List ℕ → List (List ℕ)
orders_members text =
    line_members (words (first_of (lines text))) (words [])
    ++ (unknown (words (codes "best bound")) (lines text)
    ++ (parts_object (codes "summary") Mark (lines (summary_of text))
    ∷ parts_array (codes "orders") Order (drop 1 (lines text)) ∷ []))

-- the members of each document, of which all but a verdict have a heading
unfoldable pub document_members : Document → List ℕ → List (List ℕ)
document_members Answer text = answer_members text
document_members Bound text = members_behind text
document_members Evaluation text = evaluation_members text
document_members Verdict text = parts Members (lines text)
document_members Problems text =
    parts_array (codes "problems") Problem (drop 1 (lines text)) ∷ []
document_members Plan text = plan_members text
document_members Border text =
    parts_array (codes "problems") Known (drop 1 (lines text)) ∷ []
document_members Orders text = orders_members text

-- one object, on a line of its own, whose first members are the version and, of one of several
-- instances, its number
unfoldable pub json_of : Document → Option ℕ → List ℕ → List ℕ
json_of document instance text =
    object (heading instance ++ document_members document text) ++ 10 ∷ []
