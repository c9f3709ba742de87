use Rattle.std.proofs.Common.{ap, sym, subst, ◌∙◌}
use Rattle.std.proofs.lemmas.Result.{err_from_is_err_and}
use Rattle.tf_words.specs.Words.{kept_from, lines}
use Rattle.tf_read.specs.Faults.{Fails}
use Rattle.tf_read.specs.JobTable.{job_table}
use Rattle.tf_routes.specs.RoutedTable.{routes_on}
use Rattle.tf_routes.proofs.TableRead.{all_lines, both_read, no_routes, no_table, table_is}
use Rattle.tf_routes.proofs.TableRouted.{table_routed_is}
use Rattle.tf_routes.proofs.routed_table.table_routed.Goals as goal

pub returns-in_err-instance-clause-gives : goal.returns-in_err-instance-clause-gives
returns-in_err-instance-clause-gives g c =
    let same = ap job_table c.deref.ensures.value
    ∙ table_is c.args.text.now c.in_ok-table.table.items c.in_ok-table.ensures c.requires in
    let p = err_from_is_err_and c.from_residual-in_err-instance.result
    c.from_residual-in_err-instance.ensures.1 in
    rw (p.1, p.2)
    (no_table (kept_from 1 (lines c.args.text.now)) _
    (subst (λ r. Fails c.in_err-instance.field-0.0 r) same c.in_err-instance.ensures))

pub returns-in_err-routes-clause-gives : goal.returns-in_err-routes-clause-gives
returns-in_err-routes-clause-gives g c =
    let same = ap job_table c.deref.ensures.value
    ∙ table_is c.args.text.now c.in_ok-table.table.items c.in_ok-table.ensures c.requires in
    let all = all_lines c.args.text.now _ c.new.ensures in
    let p = err_from_is_err_and c.from_residual-in_err-routes.result
    c.from_residual-in_err-routes.ensures.1 in
    rw (p.1, p.2)
    (no_routes (kept_from 1 (lines c.args.text.now)) _ _ (sym same ∙ c.in_ok-instance.ensures)
    (subst (λ ls. Fails c.in_err-routes.field-0.0 (routes_on ls)) all c.in_err-routes.ensures))

pub returns-clause-gives : goal.returns-clause-gives
returns-clause-gives g c =
    let same = ap job_table c.deref.ensures.value
    ∙ table_is c.args.text.now c.in_ok-table.table.items c.in_ok-table.ensures c.requires in
    let all = all_lines c.args.text.now _ c.new.ensures in
    both_read (kept_from 1 (lines c.args.text.now)) _ _ (sym same ∙ c.in_ok-instance.ensures)
    (ap routes_on (sym all) ∙ c.in_ok-routes.ensures)

pub returns-clause-routed : goal.returns-clause-routed
returns-clause-routed g c =
    let same = ap job_table c.deref.ensures.value
    ∙ table_is c.args.text.now c.in_ok-table.table.items c.in_ok-table.ensures c.requires in
    let all = all_lines c.args.text.now _ c.new.ensures in
    table_routed_is (kept_from 1 (lines c.args.text.now)) _ _ (sym same ∙ c.in_ok-instance.ensures)
    (ap routes_on (sym all) ∙ c.in_ok-routes.ensures)
