use Rattle.std.proofs.Common.{ℕ, List, ◌++◌, ap, sym, ◌∙◌}
use Rattle.std.specs.List.{join_with_byte}
use Rattle.tf_words.specs.Words.{words}
use Rattle.tf_export.proofs.Texts.{then, joined_by}
use Rattle.tf_export.proofs.value.push_joined.Goals as goal

pub returns : goal.returns
returns c =
    then c.args.text.now.items c.extend_from_slice.new.self.items _ c.in-Some.word.now _
    c.in_ok-extend_from_slice.ensures.items c.in_ok-push_behind.ensures
    ∙ ap (λ (text : List ℕ). c.args.text.now.items ++ text)
    (sym (joined_by c.args.separator c.in-Some.word.now (words c.in-Some.more.now))
    ∙ sym (ap (join_with_byte c.args.separator) c.in-Some.ensures.words))
