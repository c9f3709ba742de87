use Rattle.std.proofs.Common.{ℕ, List, ◌∷◌, ap}
use Rattle.std.specs.List.{flat_map}
use Rattle.tf_export.proofs.Texts.{more_left, none_left, then}
use Rattle.tf_export.proofs.value.push_behind.Goals as goal

pub loop-word-preserved : goal.loop-word-preserved
loop-word-preserved c =
    let behind = λ (word : List ℕ). c.args.separator ∷ word in
    more_left c.loop-word.text.items _ _ (behind c.in-Some.word.now) _ _
    (ap (flat_map behind) c.in-Some.ensures.words)
    (then c.loop-word.text.items c.push.new.self.items _ _ c.in-Some.word.now
    c.in_ok-push.ensures.items c.in_ok-extend_from_slice.ensures.items) c.loop-word.invariant

pub returns : goal.returns
returns c =
    let behind = λ (word : List ℕ). c.args.separator ∷ word in
    none_left _ _ _ (ap (flat_map behind) c.in_default.ensures.words) c.loop-word.invariant
