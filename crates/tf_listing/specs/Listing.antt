-- The lists of the problems that are solved or bounded.
use Rattle.std.specs.Prelude.{ℕ, ◌-◌, ◌==◌, Bool, List, [], ◌∷◌, ◌++◌, length, map, replicate, filter, codes, Option, None, Some, if◌then◌else◌}
use Rattle.std.specs.List.{flat_map}
use Rattle.tf_model.specs.ClassTable.{notation_of, is_shop_env}
use Rattle.tf_model.specs.InstanceData.{InstanceData}
use Rattle.tf_model.specs.declared.class.Class.{Class}
use Rattle.tf_model.specs.declared.class.Class.TheVariants as class
use Rattle.tf_model.specs.declared.problem.Env.{Env}
use Rattle.tf_model.specs.declared.problem.Env.TheVariants.{Single, Parallel, Uniform, Unrelated, Flow, OpenShop, JobShop}
use Rattle.tf_model.specs.declared.problem.Goal.{Goal}
use Rattle.tf_model.specs.declared.problem.Goal.TheVariants.{Cmax, Lmax, Hmax, SumC, SumWC, SumT, SumWT, SumU, SumWU}
use Rattle.tf_model.specs.declared.problem.Problem.{Problem}
use Rattle.tf_notation.specs.Canonical.{canonical}
use Rattle.tf_posed.specs.ProblemData.{is_job_shop}
use Rattle.tf_prepare.specs.Preparing.{uses_weight, uses_due}
use Rattle.tf_listing.specs.Fields.{is_listed, uses_cost}
use Rattle.tf_listing.specs.Unsolved.{unsolved_problems}
use Rattle.tf_listing.specs.declared.listing.Listed.{Listed}
use Rattle.tf_listing.specs.declared.listing.Listed.TheVariants.{Solved, Bounded}

-- all classes, in the order of the list
abbrev pub classes : List Class
classes =
    class.PlainSum ∷ class.PrmpPlainSum ∷ class.WeightedSum ∷ class.PrmpWeightedSum ∷ class.Lmax
    ∷ class.PrmpLmax ∷ class.PrecLmax ∷ class.PrmpPrecLmax ∷ class.ReleaseLmax ∷ class.Hmax
    ∷ class.PrmpHmax ∷ class.PrecHmax ∷ class.PrmpPrecHmax ∷ class.ParallelSum
    ∷ class.ParallelPrmp ∷ class.FlowTwo ∷ class.PrmpFlowTwo ∷ class.OpenTwo ∷ class.PrmpOpenTwo
    ∷ []

-- a text, or nothing
abbrev pub part : Bool → List ℕ → List ℕ
part is_there text = if is_there then text else []

-- the fields of a job that the problem uses, and whether precedence constraints count
abbrev pub needs : Problem → List ℕ
needs p =
    (if is_job_shop p.env then codes "p=A@I"
    else if is_shop_env p.env then codes "p=A,B" else codes "p=")
    ++ part (uses_weight p.goal) (codes " w=") ++ part p.release (codes " r=")
    ++ part (uses_due p.goal) (codes " d=") ++ part (uses_cost p.goal) (codes " h=")
    ++ part p.prec (codes ", arcs")

-- the objective
abbrev pub meaning : Goal → List ℕ
meaning Cmax = codes "makespan"
meaning Lmax = codes "maximum lateness"
meaning Hmax = codes "maximum cost"
meaning SumC = codes "sum of completion times"
meaning SumWC = codes "weighted completion times"
meaning SumT = codes "total tardiness"
meaning SumWT = codes "weighted tardiness"
meaning SumU = codes "number of late jobs"
meaning SumWU = codes "weighted number of late jobs"

abbrev pub environment : Env → List ℕ
environment Single = codes "1 machine"
environment Parallel = codes "M machines in parallel"
environment Uniform = codes "M machines of different speeds"
environment Unrelated = codes "M unrelated machines"
environment Flow = codes "flow shop"
environment OpenShop = codes "open shop"
environment JobShop = codes "job shop"

-- the number of machines, where the problem names two
abbrev pub machines : Option ℕ → List ℕ
machines None = []
machines (Some m) = part (m == 2) (codes " of 2 machines")

abbrev pub breaks : Problem → List ℕ
breaks p = part p.prmp (codes ", preemptive")

-- a word, with blanks behind it up to a width
abbrev pub column : ℕ → List ℕ → List ℕ
column width word = word ++ replicate (width - length word) 32

-- what is least, on what machines, and whether jobs may be preempted
abbrev pub meaning_line : Problem → List ℕ
meaning_line p =
    meaning p.goal ++ codes ", " ++ environment p.env ++ machines p.count ++ breaks p ++ codes "\n"

abbrev pub problem_line : Problem → List ℕ
problem_line p = column 17 (canonical p) ++ column 13 (needs p) ++ meaning_line p

-- a line for each of these problems, with an instance for those that it has the fields for
abbrev pub lines_of : Listed → Option InstanceData → List Problem → List ℕ
lines_of listed instance problems =
    flat_map problem_line (filter (λ p. is_listed listed p instance) problems)

-- the problems of each list
abbrev pub problems_of : Listed → List Problem
problems_of Solved = map notation_of classes
problems_of Bounded = unsolved_problems

-- a heading, and these lines
abbrev pub listing : Listed → Option InstanceData → List ℕ
listing listed instance =
    codes "PROBLEM          NEEDS        OBJECTIVE, MACHINES\n"
    ++ lines_of listed instance (problems_of listed)

-- ---- within the crate

-- the line of a problem, where it is listed
abbrev pub line_if : Listed → Option InstanceData → Problem → List ℕ
line_if listed instance p = part (is_listed listed p instance) (problem_line p)
