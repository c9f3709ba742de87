use Rattle.std.proofs.Common.{ap, sym, ◌∙◌}
use Rattle.std.specs.List.{flat_map}
use Rattle.std.proofs.lemmas.Bool.{eqb-true}
use Rattle.tf_export.specs.Csv.{csv_line}
use Rattle.tf_export.proofs.Saying.{csv_next, rows_none}
use Rattle.tf_export.proofs.Texts.{more_left, none_left}
use Rattle.tf_export.proofs.csv.push_rows.Goals as goal

pub loop-rest-preserved : goal.loop-rest-preserved
loop-rest-preserved c =
    more_left c.loop-rest.csv.items _ _ _ _ _
    (csv_next c.args.key.now c.args.names.now c.loop-rest.rest.now _ _ c.count_words-count.result
    c.count_words-count.ensures c.next_line.ensures.lines) c.in_ok-push_row.ensures
    c.loop-rest.invariant

pub returns : goal.returns
returns c =
    none_left _ _ _
    (ap (flat_map csv_line) (rows_none c.args.key.now c.args.names.now c.loop-rest.rest.now
    (eqb-true _ _ (sym c.is_empty.ensures ∙ c.loop-rest-test.false)))) c.loop-rest.invariant
