-- The text of a plan, from its parts.
use Rattle.std.proofs.Common.{◌≡◌, ℕ, ℤ, List, ◌++◌, refl}
use Rattle.tf_posed.specs.ProblemData.{ProblemData}
use Rattle.tf_schedule.specs.declared.piece.Piece.{Piece}
use Rattle.tf_text.specs.AnswerText.{SheetData, answer_text}
use Rattle.tf_text.specs.declared.answer.layout.Layout.TheVariants.{Two}
use Rattle.tf_search.specs.declared.strongest.Found.{Found}
use Rattle.tf_planning.specs.PlanText.{plan_sheet, plan_text, remarks}

pub plan_written : (A : Type 0) (k : ProblemData) (jobs : ℕ) (pieces : List Piece) (value v : ℤ)
    (found : Found A) (sheet : SheetData) (said out : List ℕ)
    → sheet ≡ plan_sheet k jobs pieces value → said ≡ remarks k jobs v found → v ≡ value
    → out ≡ answer_text Two sheet ++ said → out ≡ plan_text k jobs pieces value found
unfolding plan_text
plan_written A k jobs pieces value v found sheet said out is says same all =
    rw (all, is, says, same) refl
