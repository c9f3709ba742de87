use Rattle.tf_held.proofs.Cuts.{HasPassed}
use Rattle.tf_held.proofs.words_split.split_words.Given as goal

abbrev pub invariant-loop-passed : goal.invariant-loop-passed
invariant-loop-passed l = HasPassed l.text l._passed l.at
