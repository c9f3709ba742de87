-- Where the reading of an answer text stands, and what the lines that are left lead to.
use Rattle.std.specs.Prelude.{◌≡◌, ℕ, ℤ, List, [], ◌∷◌, ◌++◌, codes, Result, Ok}
use Rattle.tf_model.specs.Outcome.{◌>>=◌}
use Rattle.tf_model.specs.declared.problem.Problem.{Problem}
use Rattle.tf_words.specs.Words.{KeptLine}
use Rattle.tf_schedule.specs.declared.piece.Piece.{Piece}
use Rattle.tf_check.specs.Claim.{AnswerData}
use Rattle.tf_model.specs.Limit.{most_jobs, most_machines}
use Rattle.tf_text.specs.AnswerText.{SheetData}
use Rattle.tf_text.specs.AnswerReading.{Fails, exactly, finished, problem_at, count_at, value_at, pieces_at, certificate_at, sheet_of}
use Rattle.tf_text.specs.declared.answer.fault.AnswerFault.{AnswerFault}
use Rattle.tf_text.specs.declared.answer.layout.Layout.{Layout}
use Rattle.tf_text.specs.declared.answer.head.Head.{Head}
use Rattle.tf_text.specs.declared.answer.stage.Stage.{Stage}
use Rattle.tf_text.specs.declared.answer.stage.Stage.TheVariants as stages

abbrev Outcome : Type 0
Outcome = Result SheetData AnswerFault

-- what an answer is for, and its version
pub record HeadData : Type 0 where
  pub layout : Layout
  pub problem : Problem
  pub jobs : ℕ
  pub machines : ℕ

abbrev pub head_of : Head → HeadData
head_of h = record {
  layout = h.layout;
  problem = h.problem;
  jobs = h.jobs;
  machines = h.machines;
}

abbrev pub sheet_from : HeadData → AnswerData → SheetData
sheet_from h answer =
    record { problem = h.problem; jobs = h.jobs; machines = h.machines; answer = answer }

-- what the lines lead to that are left at each place

abbrev pub from_over : HeadData → AnswerData → List KeptLine → Outcome
from_over h answer all = finished all >>= λ u. Ok (sheet_from h answer)

abbrev pub from_end : HeadData → AnswerData → List KeptLine → Outcome
from_end h answer all = exactly (codes "end" ∷ []) all >>= from_over h answer

abbrev pub from_certificate : HeadData → ℤ → List Piece → List KeptLine → Outcome
from_certificate h value pieces all = certificate_at h.layout all >>= λ x.
    from_end h (record { pieces = pieces; value = value; certificate = x.0 }) x.1

abbrev pub from_pieces : HeadData → ℤ → List Piece → List KeptLine → Outcome
from_pieces h value pieces all =
    pieces_at all >>= λ x. from_certificate h value (pieces ++ x.0) x.1

abbrev pub from_value : HeadData → List KeptLine → Outcome
from_value h all = value_at all >>= λ x. from_pieces h x.0 [] x.1

abbrev pub from_machines : Layout → Problem → ℕ → List KeptLine → Outcome
from_machines layout problem jobs all = count_at (codes "machines") most_machines all >>= λ x.
    from_value
    (record { layout = layout; problem = problem; jobs = jobs; machines = x.0 }) x.1

abbrev pub from_jobs : Layout → Problem → List KeptLine → Outcome
from_jobs layout problem all =
    count_at (codes "jobs") most_jobs all >>= λ x. from_machines layout problem x.0 x.1

abbrev pub from_problem : Layout → List KeptLine → Outcome
from_problem layout all = problem_at all >>= λ x. from_jobs layout x.0 x.1

-- the lines that are left lead to this outcome
abbrev pub Leads : {A : Type 0} → Stage A → List KeptLine → Outcome → Type 0
Leads stages.Heading all total = sheet_of all ≡ total
Leads (stages.Problem layout) all total = from_problem layout all ≡ total
Leads (stages.Jobs layout problem) all total = from_jobs layout problem all ≡ total
Leads (stages.Machines layout problem jobs) all total = from_machines layout problem jobs all ≡ total
Leads (stages.Value h) all total = from_value (head_of h) all ≡ total
Leads (stages.Pieces h value pieces) all total = from_pieces (head_of h) value pieces.items all ≡ total
Leads (stages.End h answer) all total = from_end (head_of h) answer all ≡ total
Leads (stages.Over h answer) all total = from_over (head_of h) answer all ≡ total
Leads (stages.Failed fault) all total = Fails fault total
