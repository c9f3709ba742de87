-- The outcome of each command over a request and its texts. A is the allocator that it takes its
-- memory from.
use Rattle.std.specs.Prelude.{ℕ, List}
use Rattle.tf_text.specs.declared.answer.layout.Layout.TheVariants.{Two}
use Rattle.tf_picture.specs.Strips.{whole}
use Rattle.tf_asked.specs.declared.options.Drawing.TheVariants.{Chart, Picture}
use Rattle.tf_command.specs.Ending.{EndsSolving, EndsBounding, EndsChecking, EndsEvaluating, EndsDrawing}
use Rattle.tf_command.specs.Planning.{EndsPlanning}
use Rattle.tf_reply.specs.declared.asking.Asking.{Asking}
use Rattle.tf_reply.specs.Asked.{request_in, instance_part, answer_part, layout_said, detail_said}
use Rattle.tf_reply.specs.WellFormed.{IsWellFormed, HasAllowedSteps, HasAllowedColumns}
use Rattle.tf_reply.specs.Replies.{Outcome, EndsReport, IfWellFormed, IsOver, IsOverBoth}

abbrev pub Solves : Type 0 → Asking → List ℕ → Outcome
Solves A asking texts =
    IfWellFormed (IsWellFormed asking texts)
    (IsOver (EndsSolving A (request_in asking texts (layout_said asking.version)))
    (instance_part asking texts))

abbrev pub Plans : Type 0 → Asking → List ℕ → Outcome
Plans A asking texts =
    IfWellFormed (IsWellFormed asking texts × HasAllowedSteps asking)
    (IsOver (EndsPlanning A (request_in asking texts Two)) (instance_part asking texts))

abbrev pub Bounds : Type 0 → Asking → List ℕ → Outcome
Bounds A asking texts =
    IfWellFormed (IsWellFormed asking texts × HasAllowedSteps asking)
    (IsOver (EndsBounding A (request_in asking texts Two)) (instance_part asking texts))

abbrev pub Checks : Type 0 → Asking → List ℕ → Outcome
Checks A asking texts =
    IfWellFormed (IsWellFormed asking texts)
    (IsOverBoth (EndsChecking A (request_in asking texts Two)) (instance_part asking texts)
    (answer_part asking texts))

abbrev pub Evaluates : Type 0 → Asking → List ℕ → Outcome
Evaluates A asking texts =
    IfWellFormed (IsWellFormed asking texts)
    (IsOverBoth
    (EndsEvaluating A (detail_said asking.certificate) (request_in asking texts Two))
    (instance_part asking texts) (answer_part asking texts))

abbrev pub Reports : Type 0 → Asking → List ℕ → Outcome
Reports A asking texts =
    IfWellFormed (IsWellFormed asking texts)
    (EndsReport (EndsSolving A (request_in asking texts (layout_said asking.version)))
    (EndsEvaluating A (detail_said asking.certificate) (request_in asking texts Two))
    (instance_part asking texts))

-- of these two the answer is all of the texts
abbrev pub Draws : Type 0 → Asking → List ℕ → Outcome
Draws A asking answer =
    IfWellFormed (HasAllowedColumns asking)
    (IsOver (EndsDrawing A (Chart asking.columns)) answer)

-- no request for a picture is malformed
abbrev pub Pictures : Type 0 → List ℕ → Outcome
Pictures A answer = IsOver (EndsDrawing A (Picture whole)) answer
