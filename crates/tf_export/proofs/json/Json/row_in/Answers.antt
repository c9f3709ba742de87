use Rattle.std.proofs.Common.{ℕ, List, [], ◌∷◌, OnOk, map, ap, sym, subst, ◌∙◌}
use Rattle.tf_words.specs.Words.{words}
use Rattle.tf_export.specs.Adds.{Adds}
use Rattle.tf_export.specs.Csv.{column_names}
use Rattle.tf_export.specs.Members.{record_of}
use Rattle.tf_export.proofs.Adding.{nothing}
use Rattle.tf_export.proofs.Saying.{same_row}
use Rattle.tf_export.proofs.json.Json.row_in.Goals as goal

pub returns-in-None : goal.returns-in-None
returns-in-None c =
    nothing c.args.self.now _
    (ap (map (record_of (column_names c.args.table)))
    (same_row c.args.table _ _ c.row_key.ensures _ c.column_names-names.ensures
    c.count_words.ensures (words c.args.line.now) ∙ c.in-None.ensures))

pub returns-in-Some : goal.returns-in-Some
returns-in-Some c =
    subst (λ items. OnOk c.record.result (Adds c.args.self.now c.record.new.self items))
    (ap (λ (names : List ℕ). record_of names (words c.in-Some.row.now) ∷ [])
    c.column_names-names.ensures
    ∙ sym (ap (map (record_of (column_names c.args.table)))
    (same_row c.args.table _ _ c.row_key.ensures _ c.column_names-names.ensures
    c.count_words.ensures (words c.args.line.now) ∙ c.in-Some.ensures))) c.record.ensures
