-- The words of three-field notation, each with its meaning. In a table the first spelling of each
-- meaning is the canonical one.
use Rattle.std.specs.Prelude.{ℕ, Bool, true, false, List, [], ◌∷◌, take, drop, Option, Some, None, codes, if◌then◌else◌}
use Rattle.std.specs.List.{find}
use Rattle.std.specs.Option.{option_map, option_and_then}
use Rattle.std.specs.Str.{bytes_eq}
use Rattle.tf_words.specs.Number.{plain}
use Rattle.tf_model.specs.Limit.{most_machines}
use Rattle.tf_model.specs.declared.problem.Env.{Env}
use Rattle.tf_model.specs.declared.problem.Env.TheVariants.{Single, Parallel, Uniform, Unrelated, Flow, OpenShop, JobShop}
use Rattle.tf_model.specs.declared.problem.Goal.{Goal}
use Rattle.tf_model.specs.declared.problem.Goal.TheVariants.{Cmax, Lmax, Hmax, SumC, SumWC, SumT, SumWT, SumU, SumWU}
use Rattle.tf_notation.specs.declared.spelling.Condition.{Condition}
use Rattle.tf_notation.specs.declared.spelling.Condition.TheVariants.{Release, Prec, Prmp, Prmu, Nwt, Block, Rcrc}
use Rattle.tf_model.specs.declared.problem.Problem.{Problem}
use Rattle.tf_model.specs.ClassTable.{plain_problem}

-- what a word means by a table
abbrev pub meaning : {A : Type 0} → List (List ℕ × A) → List ℕ → Option A
meaning table word = option_map (λ entry. entry.1) (find (λ entry. bytes_eq word entry.0) table)

-- the environments of several machines, by their letters
abbrev pub environments : List (List ℕ × Env)
environments =
    (codes "P", Parallel) ∷ (codes "Q", Uniform) ∷ (codes "R", Unrelated) ∷ (codes "F", Flow)
    ∷ (codes "O", OpenShop) ∷ (codes "J", JobShop) ∷ []

-- the conditions, all spellings
abbrev pub conditions : List (List ℕ × Condition)
conditions =
    (codes "rj", Release) ∷ (codes "r_j", Release) ∷ (codes "prec", Prec) ∷ (codes "prmp", Prmp)
    ∷ (codes "pmtn", Prmp)
    ∷ (codes "prmu", Prmu) ∷ (codes "nwt", Nwt) ∷ (codes "block", Block) ∷ (codes "rcrc", Rcrc) ∷ []

-- the objectives, all spellings
abbrev pub goals : List (List ℕ × Goal)
goals =
    (codes "Cmax", Cmax) ∷ (codes "C_max", Cmax) ∷ (codes "Lmax", Lmax) ∷ (codes "L_max", Lmax)
    ∷ (codes "hmax", Hmax) ∷ (codes "h_max", Hmax)
    ∷ (codes "sumC", SumC) ∷ (codes "sumCj", SumC) ∷ (codes "sumC_j", SumC)
    ∷ (codes "sumwC", SumWC) ∷ (codes "sumwjCj", SumWC) ∷ (codes "sumw_jC_j", SumWC)
    ∷ (codes "sumT", SumT) ∷ (codes "sumTj", SumT) ∷ (codes "sumT_j", SumT)
    ∷ (codes "sumwT", SumWT) ∷ (codes "sumwjTj", SumWT) ∷ (codes "sumw_jT_j", SumWT)
    ∷ (codes "sumU", SumU) ∷ (codes "sumUj", SumU) ∷ (codes "sumU_j", SumU)
    ∷ (codes "sumwU", SumWU) ∷ (codes "sumwjUj", SumWU) ∷ (codes "sumw_jU_j", SumWU) ∷ []

-- what may stand after a condition, and whether another condition follows it
abbrev pub dividers : List (List ℕ × Bool)
dividers = (codes ",", true) ∷ (codes "|", false) ∷ []

-- what may stand behind the letter of an environment: nothing, an 'm', or a count of machines in
-- digits without a leading zero
abbrev pub count_of : List ℕ → Option (Option ℕ)
count_of word =
    if bytes_eq word [] then Some None
    else if bytes_eq word (codes "m") then Some None
    else option_map (λ count. Some count) (plain most_machines word)

-- an environment and its count: '1', or a letter and what stands behind it
abbrev pub environment : List ℕ → Option (Env × Option ℕ)
environment word =
    if bytes_eq word (codes "1") then Some (Single, None)
    else option_and_then (λ env. option_map (λ count. (env, count)) (count_of (drop 1 word)))
    (meaning environments (take 1 word))

-- A problem that names no condition. What it is otherwise plays no part while conditions are read.
abbrev pub no_conditions : Problem
no_conditions = plain_problem Single Cmax

-- whether a problem names a condition
abbrev pub has : Problem → Condition → Bool
has named Release = named.release
has named Prec = named.prec
has named Prmp = named.prmp
has named Prmu = named.prmu
has named Nwt = named.nwt
has named Block = named.block
has named Rcrc = named.rcrc

-- a problem with one condition more
abbrev pub with_condition : Problem → Condition → Problem
with_condition named Release = record named { release = true }
with_condition named Prec = record named { prec = true }
with_condition named Prmp = record named { prmp = true }
with_condition named Prmu = record named { prmu = true }
with_condition named Nwt = record named { nwt = true }
with_condition named Block = record named { block = true }
with_condition named Rcrc = record named { rcrc = true }

-- the problem with the condition that the word names, if that is one which it does not name yet
abbrev pub adds : Problem → List ℕ → Option Problem
adds named word =
    option_and_then
    (λ condition. if has named condition then None else Some (with_condition named condition))
    (meaning conditions word)
