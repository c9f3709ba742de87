use Rattle.std.proofs.Common.{[], ◌∷◌, sym, subst}
use Rattle.tf_words.specs.Words.{words}
use Rattle.tf_export.specs.Adds.{Adds}
use Rattle.tf_export.specs.Json.{scalar, member}
use Rattle.tf_export.specs.Members.{fields}
use Rattle.tf_export.proofs.Adding.{next, done}
use Rattle.tf_export.proofs.Saying.{fields_next, fields_out, fields_rest}
use Rattle.tf_export.proofs.json.Json.fields.Goals as goal

pub loop-name-init : goal.loop-name-init
loop-name-init c = λ end rest. rest

pub loop-name-preserved : goal.loop-name-preserved
loop-name-preserved c =
    let rest = c.args.rest.now in
    next c.args.self.now c.loop-name.self c.scalar_member.new.self
    (fields (words c.args.names.now) rest (words c.args.row.now))
    (fields (words c.loop-name.names_left.now) rest (words c.loop-name.left.now))
    (member c.in-Some.name.now (scalar c.in-Some-first_word.word.now) ∷ [])
    (fields (words c.in-Some.more.now) rest (words c.in-Some-first_word.others.now))
    (fields_next (words c.loop-name.names_left.now) (words c.in-Some.more.now)
    (words c.loop-name.left.now) (words c.in-Some-first_word.others.now) rest c.in-Some.name.now
    c.in-Some-first_word.word.now c.in-Some.ensures.words c.in-Some-first_word.ensures.words)
    c.in_ok-scalar_member.ensures c.loop-name.invariant

pub returns-in_default-first_word : goal.returns-in_default-first_word
returns-in_default-first_word c =
    let rest = c.args.rest.now in
    done c.args.self.now c.loop-name.self
    (fields (words c.args.names.now) rest (words c.args.row.now))
    (fields (words c.loop-name.names_left.now) rest (words c.loop-name.left.now))
    (fields_out (words c.loop-name.names_left.now) (words c.in-Some.more.now)
    (words c.loop-name.left.now) rest c.in-Some.name.now c.in-Some.ensures.words
    c.in_default-first_word.ensures.words) c.loop-name.invariant

pub returns : goal.returns
returns c =
    c.loop-name.invariant c.rest_members.new.self
    (subst (Adds c.loop-name.self c.rest_members.new.self)
    (sym (fields_rest (words c.loop-name.names_left.now) (words c.loop-name.left.now)
    c.args.rest.now c.in_default.ensures.words)) c.in_ok-rest_members.ensures)
