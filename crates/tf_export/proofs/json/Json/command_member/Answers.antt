use Rattle.std.proofs.Common.{OnOk, subst}
use Rattle.tf_words.specs.Words.{words}
use Rattle.tf_export.specs.Adds.{Adds}
use Rattle.tf_export.proofs.Listing.{command_some, command_none}
use Rattle.tf_export.proofs.json.Json.command_member.Goals as goal

pub returns-in-None : goal.returns-in-None
returns-in-None c =
    subst (λ items. OnOk c.phrase_member.result (Adds c.args.self.now c.phrase_member.new.self items))
    (command_some (words c.args.command.now) c.in-None.ensures) c.phrase_member.ensures

pub returns-in-Some : goal.returns-in-Some
returns-in-Some c =
    subst (λ items. OnOk c.member.result (Adds c.args.self.now c.member.new.self items))
    (command_none (words c.args.command.now) c.in-Some.ensures.0) c.member.ensures
