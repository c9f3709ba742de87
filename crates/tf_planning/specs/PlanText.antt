-- The text of a plan: an answer text, and behind it in comments how good it is.
use Rattle.std.specs.Prelude.{ℕ, ℤ, ◌-ℤ◌, unsigned_abs, List, [], ◌∷◌, ◌++◌, codes, if◌then◌else◌}
use Rattle.std.specs.List.{flat_map}
use Rattle.std.specs.Fmt.{decimal}
use Rattle.std.specs.Ordering.{int_eq}
use Rattle.tf_words.specs.Words.{lines}
use Rattle.tf_posed.specs.ProblemData.{ProblemData}
use Rattle.tf_schedule.specs.declared.piece.Piece.{Piece}
use Rattle.tf_check.specs.Claim.{ByLoad, answer_of}
use Rattle.tf_text.specs.AnswerText.{SheetData, line_text, answer_text}
use Rattle.tf_text.specs.declared.answer.layout.Layout.TheVariants.{Two}
use Rattle.tf_search.specs.declared.strongest.Found.{Found}
use Rattle.tf_bounding.specs.BoundText.{bound_text}
use Rattle.tf_planning.specs.declared.writing.Planned.{Planned}
use Rattle.tf_planning.specs.declared.writing.Planned.TheVariants.{Optimal, Open}

-- proved to be best where the value is that of the bound
abbrev pub standing_of : {A : Type 0} → ℤ → Found A → Planned
standing_of value found = if int_eq value found.value then Optimal else Open

-- What the answer text says. Nobody looks at the certificate of an answer to a problem without a
-- solver: it is the one that has no numbers.
abbrev pub plan_sheet : ProblemData → ℕ → List Piece → ℤ → SheetData
plan_sheet k jobs pieces value = record {
  problem = k.problem;
  jobs = jobs;
  machines = k.machines;
  answer = answer_of pieces value ByLoad;
}

-- each line of a text as a comment
abbrev pub comment : List ℕ → List ℕ
comment line = codes "# " ++ (line ++ 10 ∷ [])

unfoldable pub comments : List (List ℕ) → List ℕ
comments lines = flat_map comment lines

-- how far the value is from the bound
abbrev pub distance : ℤ → ℤ → List ℕ
distance value bound = line_text (codes "## gap" ∷ decimal (unsigned_abs (value -ℤ bound)) ∷ [])

-- that, and the text of the bound
abbrev pub remarks : {A : Type 0} → ProblemData → ℕ → ℤ → Found A → List ℕ
remarks k jobs value found =
    distance value found.value
    ++ comments (lines (bound_text k jobs found.value found.certificate))

-- the text of a plan of a task
unfoldable pub plan_text : {A : Type 0} → ProblemData → ℕ → List Piece → ℤ → Found A → List ℕ
plan_text k jobs pieces value found =
    answer_text Two (plan_sheet k jobs pieces value) ++ remarks k jobs value found
