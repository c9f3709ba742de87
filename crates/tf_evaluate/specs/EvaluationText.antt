-- The text of an evaluation.
use Rattle.std.specs.Prelude.{ℕ, ℤ, List, [], ◌∷◌, ◌++◌, map, codes, Option, None, Some, Result, Ok, Err}
use Rattle.std.specs.List.{flat_map}
use Rattle.std.specs.Fmt.{decimal, signed_decimal}
use Rattle.tf_notation.specs.Canonical.{canonical}
use Rattle.tf_check.specs.declared.fault.BoundFault.{BoundFault}
use Rattle.tf_text.specs.AnswerText.{line_text}
use Rattle.tf_engine.specs.VerdictLine.{piece_fault_words, misfit_words, bound_fault_words}
use Rattle.tf_schedule.specs.declared.misfit.ProblemMisfit.{ProblemMisfit}
use Rattle.tf_schedule.specs.declared.misfit.ProblemMisfit.TheVariants.{Plain, OffRoute, NoOneOrder, Waits}
use Rattle.tf_evaluate.specs.declared.evaluation.ProblemFit.{ProblemFit}
use Rattle.tf_evaluate.specs.declared.evaluation.ProblemFit.TheVariants.{Fits, NoSchedule, Misfit}
use Rattle.tf_evaluate.specs.declared.evaluation.JobOutcome.{JobOutcome}
use Rattle.tf_evaluate.specs.declared.step.Terms.{Terms}
use Rattle.tf_evaluate.specs.declared.step.Terms.TheVariants.{Load, JobTime, ShopTimes, MachineWork, Smith, SetWork, LeastCost, Window, Split, GreatestFactor, Ranks}
use Rattle.tf_evaluate.specs.declared.step.Step.{Step}
use Rattle.tf_evaluate.specs.EvaluationData.{EvaluationData, OptimumData, gap, value_in}

-- a misfit by its name and its arguments
abbrev pub problem_misfit_words : ProblemMisfit → List (List ℕ)
problem_misfit_words (Plain misfit) = misfit_words misfit
problem_misfit_words (OffRoute job) = codes "OffRoute" ∷ decimal job ∷ []
problem_misfit_words NoOneOrder = codes "NoOneOrder" ∷ []
problem_misfit_words (Waits job) = codes "Waits" ∷ decimal job ∷ []

-- `fits`, or `misfit` and why
abbrev pub fit_words : Option ProblemFit → List (List ℕ)
fit_words None = codes "misfit" ∷ codes "OtherTask" ∷ []
fit_words (Some (Fits value)) = codes "fits" ∷ []
fit_words (Some (NoSchedule fault)) = codes "misfit" ∷ piece_fault_words fault
fit_words (Some (Misfit misfit)) = codes "misfit" ∷ problem_misfit_words misfit

-- a line of a number that may be missing
abbrev pub number_lines : List ℕ → Option ℤ → List (List (List ℕ))
number_lines name None = []
number_lines name (Some number) = (name ∷ signed_decimal number ∷ []) ∷ []

-- what is claimed, where something is
abbrev pub claimed_lines : Option ℤ → List (List (List ℕ))
claimed_lines = number_lines (codes "claimed")

-- by how much a cost is above the least one, or a lower bound of it
abbrev pub gap_lines : Option ℤ → ℤ → List (List (List ℕ))
gap_lines (Some value) least = (codes "gap" ∷ decimal (gap value least) ∷ []) ∷ []
gap_lines None least = []

-- what the certificate bounds, or its first fault
abbrev pub bound_words : Result ℤ BoundFault → List (List ℕ)
bound_words (Ok bound) = signed_decimal bound ∷ []
bound_words (Err fault) = bound_fault_words fault

abbrev pub bound_lines : Option (Result ℤ BoundFault) → List (List (List ℕ))
bound_lines None = []
bound_lines (Some bound) = (codes "bound" ∷ bound_words bound) ∷ []

-- what a step is made of: each number behind what it is
abbrev pub terms_words : Terms → List (List ℕ)
terms_words (Load work machines) =
    codes "total processing time" ∷ decimal work ∷ codes "/" ∷ decimal machines
    ∷ codes "machines, rounded up" ∷ []
terms_words (JobTime job time) = codes "processing time of job" ∷ decimal job ∷ []
terms_words (ShopTimes job first second) =
    codes "processing time of job" ∷ decimal job ∷ codes "on machine 1" ∷ decimal first
    ∷ codes "+ on machine 2" ∷ decimal second ∷ []
terms_words (MachineWork machine work) =
    codes "total processing time on machine" ∷ decimal machine ∷ []
terms_words (Smith own waiting) =
    codes "total weighted processing time" ∷ decimal own
    ∷ codes "+ total weighted waiting time in Smith's order" ∷ decimal waiting ∷ []
terms_words (SetWork work) = codes "total processing time of the set" ∷ []
terms_words (LeastCost completion cost) =
    codes "least cost at time" ∷ decimal completion
    ∷ codes "of a job of the set without a successor in it" ∷ []
terms_words (Window release work due) =
    codes "least release date" ∷ decimal release ∷ codes "+ total processing time" ∷ decimal work
    ∷ codes "- greatest due date" ∷ signed_decimal due ∷ []
terms_words (Split side others delta) =
    codes "total processing time of the side on machine 1" ∷ decimal side
    ∷ codes "+ of the others on machine 2" ∷ decimal others ∷ codes "+ delta" ∷ decimal delta ∷ []
terms_words (GreatestFactor jobs machines) =
    codes "greatest factor" ∷ decimal jobs ∷ codes "jobs /" ∷ decimal machines
    ∷ codes "machines, rounded up" ∷ []
terms_words (Ranks work waiting) =
    codes "total processing time" ∷ decimal work ∷ codes "+ least total waiting time"
    ∷ decimal waiting ∷ []

-- a step, and what it comes to
abbrev pub step_words : Step → List (List ℕ)
step_words step =
    codes "step" ∷ (terms_words step.terms ++ codes "=" ∷ signed_decimal step.result ∷ [])

-- a job: its number, its first start, its completion, and what the class counts of it
abbrev pub outcome_words : JobOutcome → List (List ℕ)
outcome_words o =
    codes "job" ∷ decimal o.job ∷ decimal o.start ∷ decimal o.completion ∷ signed_decimal o.price
    ∷ []

-- the least cost, by how much a cost is above it, what the certificate bounds, and its arithmetic
abbrev pub optimum_lines : OptimumData → Option ℤ → List (List (List ℕ))
optimum_lines o value =
    (codes "best" ∷ signed_decimal o.best ∷ [])
    ∷ (gap_lines value o.best ++ (bound_lines o.bound ++ map step_words o.steps))

-- the lines on what a cost is held against
abbrev pub ReferenceLines : Type 0 → Type 0
ReferenceLines R = R → Option ℤ → List (List (List ℕ))

-- how the pieces fit, what is claimed, the cost, and what it is held against
abbrev pub judgement_lines : {R : Type 0} → ReferenceLines R → EvaluationData R
    → List (List (List ℕ))
judgement_lines lines e =
    fit_words e.fit
    ∷ (claimed_lines e.claimed
    ++ (number_lines (codes "value") (value_in e.fit) ++ lines e.reference (value_in e.fit)))

-- all lines: a heading, what is asked, the judgement, and the jobs
abbrev pub evaluation_lines : {R : Type 0} → ReferenceLines R → EvaluationData R
    → List (List (List ℕ))
evaluation_lines lines e =
    (codes "evaluation" ∷ codes "1" ∷ [])
    ∷ (codes "problem" ∷ canonical e.problem ∷ [])
    ∷ (codes "jobs" ∷ decimal e.jobs ∷ [])
    ∷ (codes "machines" ∷ decimal e.machines ∷ [])
    ∷ (judgement_lines lines e ++ (map outcome_words e.outcomes ++ (codes "end" ∷ []) ∷ []))

-- the text of an evaluation
unfoldable pub evaluation_text : {R : Type 0} → ReferenceLines R → EvaluationData R → List ℕ
evaluation_text lines e = flat_map line_text (evaluation_lines lines e)
