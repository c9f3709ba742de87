-- What the numbers and the bytes of a caller ask for.
use Rattle.std.specs.Prelude.{◌≡◌, ℕ, zero, suc, List, take, drop, Option, Some, None}
use Rattle.tf_text.specs.declared.answer.layout.Layout.{Layout}
use Rattle.tf_text.specs.declared.answer.layout.Layout.TheVariants.{One, Two}
use Rattle.tf_evaluate.specs.declared.evaluation.Detail.{Detail}
use Rattle.tf_evaluate.specs.declared.evaluation.Detail.TheVariants.{Summary, WithArithmetic}
use Rattle.tf_engine.specs.FormData.{FormData, InTable, InWt, InFlow}
use Rattle.tf_engine.specs.RequestData.{RequestData}
use Rattle.tf_asked.specs.Asking.{requested}
use Rattle.tf_reply.specs.declared.asking.Asking.{Asking}
use Rattle.tf_reply.specs.declared.asking.Asked.{Asked}

-- the texts, which stand one behind the other in these bytes
abbrev pub problem_part : Asking → List ℕ → List ℕ
problem_part asking bytes = take asking.problem bytes

abbrev after_problem : Asking → List ℕ → List ℕ
after_problem asking bytes = drop asking.problem bytes

abbrev pub name_part : Asking → List ℕ → List ℕ
name_part asking bytes = take asking.name (after_problem asking bytes)

abbrev after_name : Asking → List ℕ → List ℕ
after_name asking bytes = drop asking.name (after_problem asking bytes)

abbrev pub instance_part : Asking → List ℕ → List ℕ
instance_part asking bytes = take asking.instance (after_name asking bytes)

abbrev pub answer_part : Asking → List ℕ → List ℕ
answer_part asking bytes = drop asking.instance (after_name asking bytes)

-- a number, if the flag before it says that it is given
abbrev pub flagged : ℕ → ℕ → Option ℕ
flagged zero number = None
flagged (suc _) number = Some number

-- two machines, if the flag says that they are named
abbrev pub pair_said : ℕ → ℕ → ℕ → Option (ℕ × ℕ)
pair_said zero first second = None
pair_said (suc _) first second = Some (first, second)

-- the form of the instance by its number, with what that form needs
abbrev pub form_by : ℕ → Asking → List ℕ → FormData
form_by zero asking name = InTable
form_by (suc zero) asking name = InWt asking.jobs asking.index
form_by (suc (suc _)) asking name =
    InFlow name (pair_said asking.has_pair asking.first asking.second)

abbrev pub form_said : Asking → List ℕ → FormData
form_said asking name = form_by asking.form asking name

-- the version of the answer text
abbrev pub layout_said : ℕ → Layout
layout_said (suc zero) = One
layout_said zero = Two
layout_said (suc (suc _)) = Two

-- how much is told of an answer
abbrev pub detail_said : ℕ → Detail
detail_said zero = Summary
detail_said (suc _) = WithArithmetic

-- the request of these numbers, this problem line and this name, with an answer in this version
abbrev pub request_said : Asking → List ℕ → List ℕ → Layout → RequestData
request_said asking problem name layout = record {
  problem = problem;
  form = form_said asking name;
  machines = flagged asking.has_machines asking.machines;
  layout = layout;
}

-- the same out of the bytes of all texts
abbrev pub request_in : Asking → List ℕ → Layout → RequestData
request_in asking bytes = request_said asking (problem_part asking bytes) (name_part asking bytes)

-- what is asked for is what the numbers and the bytes say
pub record IsAsked (asking : Asking) (bytes : List ℕ) (asked : Asked) : Type 0 where
  pub request : (layout : Layout) → requested asked.options layout ≡ request_in asking bytes layout
  pub instance : asked.instance.now ≡ instance_part asking bytes
  pub answer : asked.answer.now ≡ answer_part asking bytes
