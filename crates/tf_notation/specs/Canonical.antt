-- The canonical text of a problem.
use Rattle.std.specs.Prelude.{ℕ, List, [], ◌∷◌, ◌++◌, length, map, filter, Option, Some, None, codes, ◌==◌, if◌then◌else◌}
use Rattle.std.specs.List.{join_with_byte}
use Rattle.std.specs.Fmt.{decimal}
use Rattle.tf_model.specs.declared.problem.Env.{Env}
use Rattle.tf_model.specs.declared.problem.Env.TheVariants.{Single, Parallel, Uniform, Unrelated, Flow, OpenShop, JobShop}
use Rattle.tf_model.specs.declared.problem.Goal.{Goal}
use Rattle.tf_model.specs.declared.problem.Goal.TheVariants.{Cmax, Lmax, Hmax, SumC, SumWC, SumT, SumWT, SumU, SumWU}
use Rattle.tf_notation.specs.declared.spelling.Condition.{Condition}
use Rattle.tf_notation.specs.declared.spelling.Condition.TheVariants.{Release, Prec, Prmp, Prmu, Nwt, Block, Rcrc}
use Rattle.tf_model.specs.declared.problem.Problem.{Problem}
use Rattle.tf_notation.specs.Spelling.{has}

-- an environment, without its count
abbrev pub environment_word : Env → List ℕ
environment_word Single = codes "1"
environment_word Parallel = codes "P"
environment_word Uniform = codes "Q"
environment_word Unrelated = codes "R"
environment_word Flow = codes "F"
environment_word OpenShop = codes "O"
environment_word JobShop = codes "J"

-- the count in decimal, where there is one; a single machine has none
abbrev pub count_text : Env → Option ℕ → List ℕ
count_text Single count = []
count_text env None = []
count_text env (Some n) = decimal n

-- a condition
abbrev pub condition_word : Condition → List ℕ
condition_word Release = codes "rj"
condition_word Prec = codes "prec"
condition_word Prmp = codes "prmp"
condition_word Prmu = codes "prmu"
condition_word Nwt = codes "nwt"
condition_word Block = codes "block"
condition_word Rcrc = codes "rcrc"

-- an objective
abbrev pub goal_word : Goal → List ℕ
goal_word Cmax = codes "Cmax"
goal_word Lmax = codes "Lmax"
goal_word Hmax = codes "hmax"
goal_word SumC = codes "sumC"
goal_word SumWC = codes "sumwC"
goal_word SumT = codes "sumT"
goal_word SumWT = codes "sumwT"
goal_word SumU = codes "sumU"
goal_word SumWU = codes "sumwU"

-- all conditions, in the order in which they are written
abbrev pub all_conditions : List Condition
all_conditions = Release ∷ Prec ∷ Prmp ∷ Prmu ∷ Nwt ∷ Block ∷ Rcrc ∷ []

-- the words of those that are named, with a ',' between each two
abbrev pub listed_text : Problem → List Condition → List ℕ
listed_text named conditions =
    join_with_byte 44 (map condition_word (filter (has named) conditions))

-- a list of words with a ',' between each two, and one word more
abbrev pub one_more : List ℕ → List ℕ → List ℕ
one_more list word = if length list == 0 then word else list ++ 44 ∷ word

-- The canonical text: the three fields without blanks. An environment without a count is its letter
-- alone.
unfoldable pub canonical : Problem → List ℕ
canonical p =
    environment_word p.env ++ count_text p.env p.count ++ codes "|"
    ++ listed_text p all_conditions ++ codes "|" ++ goal_word p.goal
