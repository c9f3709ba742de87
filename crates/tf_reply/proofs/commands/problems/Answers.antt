use Rattle.std.proofs.Common.{◌≡◌, List, ℕ, Bor, subst, rules, true, ◌≢◌, []}
use Rattle.tf_text.specs.Counted.{has_failed}
use Rattle.tf_reply.proofs.Listed.{refused_list}
use Rattle.tf_reply.proofs.commands.problems.Goals as goal

pub returns-in-Err : goal.returns-in-Err
returns-in-Err g c =
    let read = c.in-Err.ensures.read in
    let given : c.args.table.now ≢ [] = search rules in
    let all : read.text ≡ c.args.table.now =
    subst (λ (slice : Bor (List ℕ)). read.text ≡ slice.now) c.new-table.ensures.inner read.is_all in
    refused_list (has_failed c.table_in.new.table ≡ true) c.args.table.now read.text given all c.in-Err.fault read.given
    c.new-console.result _ c.new-console.ensures.errors c.new-console.ensures.output
    c.report-status.ensures.line c.report-status.result c.report-status.ensures.status
    c.ended.result c.ended.ensures
