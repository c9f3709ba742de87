use Rattle.tf_words.specs.Words.{words, lines}
use Rattle.tf_export.specs.Documents.{unknown, unknown_member}
use Rattle.tf_export.proofs.Adding.{next, done}
use Rattle.tf_export.proofs.Planning.{unknown_next, unknown_none}
use Rattle.tf_export.proofs.json.Json.unknown.Goals as goal

pub loop-name-init : goal.loop-name-init
loop-name-init c = λ end rest. rest

pub loop-name-preserved : goal.loop-name-preserved
loop-name-preserved c =
    let lines = lines c.args.text.now in
    next c.args.self.now c.loop-name.self c.unknown_member.new.self
    (unknown (words c.args.names.now) lines) (unknown (words c.loop-name.left.now) lines)
    (unknown_member c.in-Some.name.now lines) (unknown (words c.in-Some.more.now) lines)
    (unknown_next (words c.loop-name.left.now) (words c.in-Some.more.now) c.in-Some.name.now lines
    c.in-Some.ensures.words) c.in_ok-unknown_member.ensures c.loop-name.invariant

pub returns : goal.returns
returns c =
    done c.args.self.now c.loop-name.self (unknown (words c.args.names.now) (lines c.args.text.now))
    (unknown (words c.loop-name.left.now) (lines c.args.text.now))
    (unknown_none (words c.loop-name.left.now) (lines c.args.text.now) c.in_default.ensures.words)
    c.loop-name.invariant
