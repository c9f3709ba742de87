use Rattle.std.proofs.Common.{[], ◌∷◌, map, ap}
use Rattle.tf_words.specs.Words.{words}
use Rattle.tf_export.specs.Json.{scalar}
use Rattle.tf_export.proofs.Adding.{next, done}
use Rattle.tf_export.proofs.json.Json.scalars.Goals as goal

pub loop-word-init : goal.loop-word-init
loop-word-init c = λ end rest. rest

pub loop-word-preserved : goal.loop-word-preserved
loop-word-preserved c =
    next c.args.self.now c.loop-word.self c.scalar.new.self (map scalar (words c.args.row.now))
    (map scalar (words c.loop-word.rest.now)) (scalar c.in-Some.word.now ∷ [])
    (map scalar (words c.in-Some.more.now)) (ap (map scalar) c.in-Some.ensures.words)
    c.in_ok-scalar.ensures c.loop-word.invariant

pub returns : goal.returns
returns c =
    done c.args.self.now c.loop-word.self (map scalar (words c.args.row.now))
    (map scalar (words c.loop-word.rest.now)) (ap (map scalar) c.in_default.ensures.words)
    c.loop-word.invariant
