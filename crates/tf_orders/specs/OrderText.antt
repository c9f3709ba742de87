-- What is written of orders: of one a whole evaluation, and of many a line each.
use Rattle.std.specs.Prelude.{◌≡◌, Bool, true, false, ℕ, ◌+◌, ◌==◌, ℤ, ◌⊎◌, List, [], ◌∷◌, ◌++◌, length, map, take, drop, codes, Option, None, Some, IfSome, Ok, Err, if◌then◌else◌}
use Rattle.std.specs.List.{position}
use Rattle.std.specs.Fmt.{decimal, signed_decimal}
use Rattle.tf_words.specs.Words.{KeptLine, lines, kept_lines}
use Rattle.tf_model.specs.declared.problem.Problem.{Problem}
use Rattle.tf_model.specs.SchedulingTask.{SchedulingTask}
use Rattle.tf_schedule.specs.declared.piece.Piece.{Piece}
use Rattle.tf_posed.specs.ProblemData.{ProblemData}
use Rattle.tf_text.specs.AnswerText.{line_text}
use Rattle.tf_text.specs.declared.answer.fault.AnswerFault.{AnswerFault}
use Rattle.tf_text.specs.declared.answer.fault.AnswerFault.TheVariants as answers
use Rattle.tf_evaluate.specs.declared.evaluation.Standing.{Standing}
use Rattle.tf_evaluate.specs.EvaluationData.{EvaluationData, OptimumData, gap, standing_of}
use Rattle.tf_evaluate.specs.Evaluating.{IsJudgedAs, outcomes_for}
use Rattle.tf_evaluate.specs.EvaluationText.{ReferenceLines, evaluation_text, fit_words, optimum_lines}
use Rattle.tf_evaluate.specs.declared.step.Step.{Step}
use Rattle.tf_evaluate.specs.declared.evaluation.JobOutcome.{JobOutcome}
use Rattle.tf_assess.specs.declared.offered.Weighed.{Weighed}
use Rattle.tf_evaluate.specs.declared.evaluation.ProblemFit.{ProblemFit}
use Rattle.tf_evaluate.specs.declared.evaluation.ProblemFit.TheVariants.{Fits}
use Rattle.tf_assess.specs.Assessing.{IsProblemJudged, assessed_of, problem_outcomes}
use Rattle.tf_assess.specs.AssessmentText.{weighed_lines}
use Rattle.tf_assess.specs.Measures.{AreMeasuredBy, PosedData, measured_text, measured_words, value_word}
use Rattle.tf_assess.specs.declared.measures.Measures.{Measures}
use Rattle.tf_orders.specs.declared.measure.Measure.{Measure}
use Rattle.tf_orders.specs.declared.measure.Measure.TheVariants.{Optimum, Bound}
use Rattle.tf_orders.specs.declared.run_orders.OrderForm.{OrderForm}
use Rattle.tf_orders.specs.declared.run_orders.OrderForm.TheVariants.{Single, Lines, Numbered, Ruled, Pieces}
use Rattle.tf_orders.specs.declared.run_orders.OrdersRated.{OrdersRated}
use Rattle.tf_orders.specs.declared.run_orders.OrdersRated.TheVariants as rateds
use Rattle.tf_orders.specs.declared.flaw.Flaw.{Flaw}
use Rattle.tf_orders.specs.declared.flaw.Flaw.TheVariants as flaws
use Rattle.tf_orders.specs.Measuring.{IsFlawOf, IsScheduled, IsUnordered}
use Rattle.tf_orders.specs.Pieces.{pieces_of}
use Rattle.tf_orders.specs.Ruled.{IsRuled}

-- ---- one order, evaluated

-- The pieces, of which nothing is claimed, are evaluated beside what their cost is held against:
-- they stand so to the task, and this happens to its jobs.
pub record IsScheduleEvaluation {R : Type 0} (problem : Problem) (jobs machines : ℕ) (reference : R)
    (IsJudged : ProblemFit → Type 0) (outcomes : ProblemFit → List JobOutcome)
    (e : EvaluationData R) : Type 0 where
  pub fit : ProblemFit
  pub judged : IsJudged fit
  pub is : e ≡ record {
    problem = problem;
    jobs = jobs;
    machines = machines;
    fit = Some fit;
    claimed = None;
    reference = reference;
    outcomes = outcomes fit;
  }

-- beside the optimum and the arithmetic of what shows it
abbrev pub IsBesideOptimum : Problem → SchedulingTask → ℤ → List Step → List Piece
    → EvaluationData OptimumData → Type 0
IsBesideOptimum problem k best steps ps e =
    IsScheduleEvaluation problem (length k.jobs) k.machines
    (record { best = best; bound = None; steps = steps }) (IsJudgedAs k ps)
    (λ fit. outcomes_for k ps (Some fit)) e

-- beside a lower bound, and beside what an offered bound comes to
abbrev pub IsBesideBound : {A : Type 0} → ProblemData → Weighed A → List Piece
    → EvaluationData (Weighed A) → Type 0
IsBesideBound k weighed ps e =
    IsScheduleEvaluation k.problem (length k.jobs) k.machines weighed (IsProblemJudged k ps)
    (λ fit. problem_outcomes k ps (Some fit)) e

-- the text is that of the evaluation, with the values by the other objectives where those are asked for
abbrev pub IsToldWith : {R : Type 0} → ReferenceLines R → Option PosedData → List Piece
    → EvaluationData R → List ℕ → Type 0
IsToldWith lines others ps e out =
    (m : Option Measures) × AreMeasuredBy others ps m
    × (out ≡ measured_text (evaluation_text lines e) m)

-- the text is the evaluation of the pieces, which come to this
abbrev pub IsEvaluated : {A : Type 0} → Measure A → List Piece → List ℕ → Standing → Type 0
IsEvaluated (Optimum problem task best steps others) ps out standing =
    (e : EvaluationData OptimumData) × IsBesideOptimum problem task best steps.items ps e
    × IsToldWith optimum_lines others ps e out × (standing ≡ standing_of e.fit e.reference.best)
IsEvaluated {A = A} (Bound task weighed others) ps out standing =
    (e : EvaluationData (Weighed A)) × IsBesideBound task weighed ps e
    × IsToldWith weighed_lines others ps e out
    × (standing ≡ assessed_of e.fit e.reference.bound.value)

-- the same of a standing that is kept as that of one order
abbrev pub IsEvaluatedAs : {A : Type 0} → Measure A → List Piece → List ℕ → OrdersRated → Type 0
IsEvaluatedAs m ps out (rateds.Single standing) = IsEvaluated m ps out standing
IsEvaluatedAs m ps out rateds.Lines = ⊥

-- ---- many orders, a line each

-- by how much a cost is above the least one or a bound, or `-` where it is missing
abbrev pub gap_or_dash : Option ℤ → ℤ → List ℕ
gap_or_dash None least = codes "-"
gap_or_dash (Some value) least = decimal (gap value least)

-- the cost of a schedule that fits, and its gap to the least cost or to a lower bound, with its values
-- by the other objectives where those are asked for; or the misfit
abbrev pub row_words : ProblemFit → ℤ → Option Measures → List (List ℕ)
row_words (Fits value) least m = value_word value ∷ gap_or_dash value least ∷ measured_words m
row_words fit least m = fit_words (Some fit)

-- the line of these pieces
abbrev pub IsRowOf : {A : Type 0} → Measure A → List Piece → List ℕ → Type 0
IsRowOf (Optimum problem task best steps others) ps row =
    (fit : ProblemFit) × IsJudgedAs task ps fit
    × ((m : Option Measures) × AreMeasuredBy others ps m
    × (row ≡ line_text (row_words fit best m)))
IsRowOf (Bound task weighed others) ps row =
    (fit : ProblemFit) × IsProblemJudged task ps fit
    × ((m : Option Measures) × AreMeasuredBy others ps m
    × (row ≡ line_text (row_words fit weighed.bound.value m)))

-- the line of the order that a text says
abbrev pub IsRow : {A : Type 0} → Measure A → List ℕ → List ℕ → Type 0
IsRow m text row = (ps : List Piece) × IsScheduled m text ps × IsRowOf m ps row

-- why a line says no order
abbrev pub flaw_words : Flaw → List (List ℕ)
flaw_words (flaws.Word k) = codes "wrong word" ∷ decimal k ∷ []
flaw_words flaws.Lists = codes "wrong lists" ∷ []
flaw_words (flaws.Twice j) = codes "wrong twice" ∷ decimal j ∷ []
flaw_words (flaws.Missing j) = codes "wrong missing" ∷ decimal j ∷ []
flaw_words (flaws.Seldom j) = codes "wrong seldom" ∷ decimal j ∷ []
flaw_words (flaws.Often j) = codes "wrong often" ∷ decimal j ∷ []

-- the same where it may not be found
abbrev pub wrong_words : Option Flaw → List (List ℕ)
wrong_words None = codes "wrong" ∷ []
wrong_words (Some flaw) = flaw_words flaw

-- the line of a text that says no order: what is wrong with it, if that is found
pub record IsWrongRow {A : Type 0} (m : Measure A) (text row : List ℕ) : Type 0 where
  pub unordered : IsUnordered m text
  pub found : Option Flaw
  pub flaw : IfSome found (IsFlawOf m text)
  pub says : row ≡ line_text (wrong_words found)

-- ---- a line of a hand-in

abbrev pub is_colon : ℕ → Bool
is_colon byte = byte == 58

-- with a blank in place of each comma
abbrev pub spaced : List ℕ → List ℕ
spaced text = map (λ byte. if byte == 44 then 32 else byte) text

-- what is written before the line of an order: the label, which ends with the first colon, and a blank
abbrev pub label_by : Option ℕ → List ℕ → List ℕ
label_by None text = []
label_by (Some place) text = take (place + 1) text ++ 32 ∷ []

-- and the order itself
abbrev pub order_by : Option ℕ → List ℕ → List ℕ
order_by None text = spaced text
order_by (Some place) text = spaced (drop (place + 1) text)

-- the line of an order, or what is wrong with it
abbrev pub IsGradedOrder : {A : Type 0} → Measure A → List ℕ → List ℕ → Type 0
IsGradedOrder m text row = IsRow m text row ⊎ IsWrongRow m text row

pub record IsGraded {A : Type 0} (m : Measure A) (text row : List ℕ) : Type 0 where
  pub order : List ℕ
  pub graded : IsGradedOrder m (order_by (position is_colon text) text) order
  pub labelled : row ≡ label_by (position is_colon text) text ++ order

-- the line of a text, which is that of a hand-in if the others are gone on with
abbrev pub IsLineOf : {A : Type 0} → Bool → Measure A → List ℕ → List ℕ → Type 0
IsLineOf goes_on m text row =
    ((goes_on ≡ false) × IsRow m text row) ⊎ ((goes_on ≡ true) × IsGraded m text row)

-- the lines of all lines
abbrev pub AreRows : {A : Type 0} → Bool → Measure A → List KeptLine → List ℕ → Type 0
AreRows goes_on m [] out = out ≡ []
AreRows goes_on m (line ∷ more) out =
    (row : List ℕ) × (rest : List ℕ) × IsLineOf goes_on m line.bytes row
    × AreRows goes_on m more rest × (out ≡ row ++ rest)

-- a line of what the orders are measured by: the optimum, or the lower bound
abbrev pub measure_line : {A : Type 0} → Measure A → List ℕ
measure_line (Optimum problem task best steps others) =
    line_text (codes "best" ∷ signed_decimal best ∷ [])
measure_line (Bound task weighed others) =
    line_text (codes "bound" ∷ signed_decimal weighed.bound.value ∷ [])

-- a row behind the number of its line
abbrev pub numbered_row : ℕ → List ℕ → List ℕ
numbered_row number row = decimal number ++ 32 ∷ (row ++ 10 ∷ [])

-- each row behind the number of its line
unfoldable pub numbered : List KeptLine → List (List ℕ) → List ℕ
numbered [] rows = []
numbered (line ∷ more) [] = []
numbered (line ∷ more) (row ∷ rows) = numbered_row line.number row ++ numbered more rows

-- the lines of all lines with their numbers, behind a line of what they are measured by
abbrev pub AreNumberedRows : {A : Type 0} → Bool → Measure A → List KeptLine → List ℕ → Type 0
AreNumberedRows goes_on m all out =
    (rows : List ℕ) × AreRows goes_on m all rows
    × (out ≡ measure_line m ++ numbered all (lines rows))

-- the line of this number says no order, and each before it says one
abbrev pub IsFirstBad : {A : Type 0} → Measure A → List KeptLine → ℕ → Type 0
IsFirstBad m [] k = ⊥
IsFirstBad m (line ∷ more) k =
    (IsUnordered m line.bytes × (k ≡ line.number))
    ⊎ (((ps : List Piece) × IsScheduled m line.bytes ps) × IsFirstBad m more k)

-- ---- in each form

-- what is written of the orders or the pieces of a text
abbrev pub AreRated : {A : Type 0} → OrderForm → Measure A → List ℕ → List ℕ → OrdersRated → Type 0
AreRated (Single detail) m text out (rateds.Single standing) =
    (ps : List Piece) × IsScheduled m text ps × IsEvaluated m ps out standing
AreRated (Ruled rule detail) m text out (rateds.Single standing) =
    (ps : List Piece) × IsRuled rule m ps × IsEvaluated m ps out standing
AreRated (Pieces detail) m text out (rateds.Single standing) =
    (ps : List Piece) × (pieces_of (kept_lines 1 (lines text)) ≡ Ok ps)
    × IsEvaluated m ps out standing
AreRated (Lines goes_on) m text out rateds.Lines = AreRows goes_on m (kept_lines 1 (lines text)) out
AreRated (Numbered goes_on) m text out rateds.Lines =
    AreNumberedRows goes_on m (kept_lines 1 (lines text)) out
AreRated (Single detail) m text out rateds.Lines = ⊥
AreRated (Ruled rule detail) m text out rateds.Lines = ⊥
AreRated (Pieces detail) m text out rateds.Lines = ⊥
AreRated (Lines goes_on) m text out (rateds.Single standing) = ⊥
AreRated (Numbered goes_on) m text out (rateds.Single standing) = ⊥

-- a line of the text says no order, and the first such is the fault
abbrev pub IsBadText : {A : Type 0} → Bool → Measure A → List ℕ → AnswerFault → Type 0
IsBadText goes_on m text fault =
    (goes_on ≡ false) × (k : ℕ) × IsFirstBad m (kept_lines 1 (lines text)) k × (fault ≡ answers.BadLine k)

-- this is the text's first fault
abbrev pub IsMalformed : {A : Type 0} → OrderForm → Measure A → List ℕ → AnswerFault → Type 0
IsMalformed (Single detail) m text fault = IsUnordered m text × (fault ≡ answers.BadLine 1)
IsMalformed (Lines goes_on) m text fault = IsBadText goes_on m text fault
IsMalformed (Numbered goes_on) m text fault = IsBadText goes_on m text fault
IsMalformed (Ruled rule detail) m text fault = ⊥
IsMalformed (Pieces detail) m text fault = pieces_of (kept_lines 1 (lines text)) ≡ Err fault
