-- The text of a random table or flow shop file.
use Rattle.std.specs.Prelude.{ℕ, zero, suc, ◌+◌, ◌-◌, ◌/◌, Bool, ◌==◌, nat_le, ◌&&◌, List, [], ◌∷◌, ◌++◌, codes, if◌then◌else◌, not}
use Rattle.std.specs.Fmt.{decimal}
use Rattle.std.specs.List.{flat_map, range_with_len, swap}
use Rattle.tf_model.specs.declared.problem.Problem.{Problem}
use Rattle.tf_notation.specs.Canonical.{canonical}
use Rattle.tf_random.specs.Plan.{step_time, swapped, value}
use Rattle.tf_random.specs.declared.plan.Plan.{Plan}
use Rattle.tf_random.specs.declared.plan.Times.{Times}
use Rattle.tf_random.specs.declared.plan.Times.TheVariants.{One, Two, Route, Each}

-- a text and a number behind it
abbrev pub part : List ℕ → ℕ → List ℕ
part before number = before ++ decimal number

abbrev pub part_if : Bool → List ℕ → ℕ → List ℕ
part_if wanted before number = if wanted then part before number else []

-- the due date: from a fifth of the work to the whole
abbrev pub due : Plan → ℕ → ℕ
due plan k = plan.work / 5 + value plan k 4 (plan.work - plan.work / 5 + 1)

-- the release date: from 0 to half of the work
abbrev pub release : Plan → ℕ → ℕ
release plan k = value plan k 5 (plan.work / 2 + 1)

-- when the cost rises: from 0 to half of the work
abbrev pub rise : Plan → ℕ → ℕ
rise plan k = value plan k 7 (plan.work / 2 + 1)

-- a base below 10, and from a time up to half of the work on up to 100 more
abbrev pub cost : Plan → ℕ → List ℕ
cost plan k =
    part (codes " h=") (value plan k 6 10)
    ++ part (codes ",") (rise plan k)
    ++ part (codes ":") (value plan k 6 10 + 1 + value plan k 8 100)

abbrev pub cost_if : Plan → ℕ → List ℕ
cost_if plan k = if plan.cost then cost plan k else []

-- the first places of a route are drawn, each of the machines that are left, by exchanges
unfoldable pub route_after : Plan → ℕ → ℕ → List ℕ
route_after plan k zero = range_with_len 1 plan.machines
route_after plan k (suc place) =
    swap (route_after plan k place) place
    (place + swapped plan k (place + 1) (plan.machines - place))

-- the machines in the order in which job k visits them
abbrev pub route : Plan → ℕ → List ℕ
route plan k = route_after plan k plan.machines

-- what stands before a step
abbrev pub before : ℕ → List ℕ
before i = if i == 1 then codes " p=" else codes ","

-- a step of a route: its time and its machine
abbrev pub one_step : Plan → ℕ → ℕ → ℕ → List ℕ
one_step plan k i machine = part (before i) (step_time plan k i) ++ part (codes "@") machine

-- the steps of a route from step i on
unfoldable pub steps : Plan → ℕ → ℕ → List ℕ → List ℕ
steps plan k i [] = []
steps plan k i (machine ∷ machines) =
    one_step plan k i machine ++ steps plan k (i + 1) machines

-- the number of job k and its route
abbrev pub route_part : Plan → ℕ → List ℕ
route_part plan k = part (codes "job ") k ++ steps plan k 1 (route plan k)

-- machine i, counted from 0, and the time of job k on it
abbrev pub pair : Plan → ℕ → ℕ → List ℕ
pair plan k i = part (codes " ") (i - 1) ++ part (codes " ") (step_time plan k i)

abbrev pub one_time : Plan → ℕ → List ℕ
one_time plan k = part (codes "job ") k ++ part (codes " p=") (step_time plan k 1)

abbrev pub two_times : Plan → ℕ → List ℕ
two_times plan k = one_time plan k ++ part (codes ",") (step_time plan k 2)

-- the processing times of job k, in a table behind its number
abbrev pub times_in : Times → Plan → ℕ → List ℕ
times_in One plan k = one_time plan k
times_in Two plan k = two_times plan k
times_in Route plan k = route_part plan k
times_in Each plan k = flat_map (pair plan k) (range_with_len 1 plan.machines)

abbrev pub times : Plan → ℕ → List ℕ
times plan k = times_in plan.times plan k

-- the fields that are numbers
abbrev pub fields : Plan → ℕ → List ℕ
fields plan k =
    part_if plan.weight (codes " w=") (value plan k 3 10 + 1)
    ++ part_if plan.due (codes " d=") (due plan k)
    ++ part_if plan.release (codes " r=") (release plan k)

-- the line of job k
unfoldable pub job_line : Plan → ℕ → List ℕ
job_line plan k = times plan k ++ fields plan k ++ cost_if plan k ++ codes "\n"

-- an arc to job k from an earlier one
abbrev pub arc : Plan → ℕ → List ℕ
arc plan k = part (codes "prec ") (value plan k 10 (k - 1) + 1) ++ part (codes " ") k ++ codes "\n"

-- half of the jobs have one
unfoldable pub arc_line : Plan → ℕ → List ℕ
arc_line plan k = if nat_le 2 k && (value plan k 9 2 == 0) then arc plan k else []

abbrev pub arc_lines : Plan → List ℕ
arc_lines plan =
    if plan.arcs then flat_map (arc_line plan) (range_with_len 1 plan.jobs) else []

abbrev pub machines_line : ℕ → List ℕ
machines_line machines =
    if machines == 0 then [] else part (codes "machines ") machines ++ codes "\n"

-- the longest processing time, where it is not 100
abbrev pub most_part : ℕ → List ℕ
most_part most = part_if (not (most == 100)) (codes ", times up to ") most

-- the first lines of a flow shop file, with a name by the seed and the sizes
abbrev pub file_opening : Plan → List ℕ
file_opening plan =
    part (codes "\ninstance seed") plan.seed ++ part (codes "\n") plan.jobs
    ++ part (codes " ") plan.machines ++ codes "\n"

abbrev pub table_opening : Plan → List ℕ
table_opening plan = codes "\ntable 1\n" ++ machines_line plan.machines

-- the first lines of a text
abbrev pub opening_in : Times → Plan → List ℕ
opening_in One plan = table_opening plan
opening_in Two plan = table_opening plan
opening_in Route plan = table_opening plan
opening_in Each plan = file_opening plan

abbrev pub opening : Plan → List ℕ
opening plan = opening_in plan.times plan

-- a comment with the problem, the seed and the longest processing time, and the first lines
abbrev pub heading : List ℕ → Plan → List ℕ
heading notation plan =
    codes "# " ++ notation ++ part (codes ", seed ") plan.seed ++ most_part plan.most
    ++ opening plan

-- the whole
unfoldable pub random_table : Problem → Plan → List ℕ
random_table problem plan =
    heading (canonical problem) plan
    ++ flat_map (job_line plan) (range_with_len 1 plan.jobs)
    ++ arc_lines plan
