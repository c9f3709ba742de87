use Rattle.std.proofs.Common.{subst}
use Rattle.tf_held.specs.Cuts.{EndsWord}
use Rattle.tf_held.proofs.Cuts.{none_passed, one_passed}
use Rattle.tf_held.proofs.words_split.split_words.Goals as goal

pub loop-passed-init : goal.loop-passed-init
loop-passed-init c = none_passed c.args.text.now

pub loop-passed-preserved : goal.loop-passed-preserved
loop-passed-preserved c =
    one_passed c.args.text.now c.loop-passed._passed c.loop-passed.at c.loop-passed.invariant
    c.in-Some.len (subst (λ ys. EndsWord ys c.in-Some.len) c.split_at.ensures.back c.in-Some.ensures)
