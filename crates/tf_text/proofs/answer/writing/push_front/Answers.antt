use Rattle.std.proofs.Common.{◌≡◌, [], ◌∷◌, ◌++◌, codes, rules}
use Rattle.std.specs.Result.{OnOk}
use Rattle.std.proofs.lemmas.Result.{on_ok_weaker}
use Rattle.std.specs.Fmt.{decimal, signed_decimal}
use Rattle.tf_text.specs.AnswerText.{line_text}
use Rattle.tf_text.proofs.Written.{front_pushed}
use Rattle.tf_text.proofs.answer.writing.push_front.Goals as goal

pub returns : goal.returns
returns g c =
    let jobs : c.push_number_line.new.text.items
    ≡ c.push.new.self.items ++ line_text (codes "jobs" ∷ decimal c.args.sheet.now.jobs ∷ []) =
    search rules in
    let machines : c.push_number_line-2.new.text.items
    ≡ c.push_number_line.new.text.items ++ line_text (codes "machines" ∷ decimal c.args.sheet.now.machines ∷ []) =
    search rules in
    let value : OnOk c.push_number_line-3.result (c.push_number_line-3.new.text.items
    ≡ c.push_number_line-2.new.text.items ++ line_text (codes "value" ∷ signed_decimal c.args.sheet.now.answer.value ∷ [])) =
    search rules in
    on_ok_weaker _ (front_pushed _ _ _ _ _ _ _ _ _ _ c.in_ok-extend_from_slice.ensures.items
    c.in_ok-push.ensures.items jobs machines) value
