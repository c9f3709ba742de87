use Rattle.std.proofs.Common.{◌≡◌, ◌∷◌, ◌++◌, rules}
use Rattle.std.proofs.lemmas.Result.{on_ok_weaker}
use Rattle.std.specs.Fmt.{signed_decimal}
use Rattle.tf_text.specs.AnswerText.{side_word}
use Rattle.tf_text.proofs.Written.{split_written}
use Rattle.tf_text.proofs.answer.writing.push_split.Goals as goal

pub returns : goal.returns
returns g c =
    let first : c.extend_from_slice-2.new.self.items
    ≡ c.extend_from_slice.new.self.items ++ side_word c.args.split.now.first = search rules in
    let delta : c.push_number.new.text.items ≡ c.extend_from_slice-2.new.self.items ++ 32
    ∷ signed_decimal c.args.split.now.delta = search rules in
    on_ok_weaker _ (split_written c.args.layout _ _ _ _ _ _ _ _ _ c.as_slice.ensures
    c.in_ok-extend_from_slice.ensures.items first delta) c.push_jobs.ensures
