use Rattle.std.proofs.Common.{rules, to_z, of_z, w64, ◌<◌, ◌∙◌, sym, subst}
use Rattle.std.proofs.lemmas.List.{get_or_default}
use Rattle.tf_model.proofs.JobRows.{row_read, row_said, rows_length}
use Rattle.tf_model.proofs.job_rows.JobRows.row.Goals as goal

pub index-requires : goal.index-requires
index-requires g c =
    subst (λ n. c.args.place < n) (rows_length c.args.self.now ∙ (search rules)) c.requires

pub returns : goal.returns
returns g c = λ d.
    let within = subst (λ n. c.args.place < n) (rows_length c.args.self.now) c.requires in
    row_said c.args.self.now c.args.place d c.requires
    ∙ row_read c.args.self.now c.args.place c.index.result.now c.number_at.result
    c.number_at-2.result c.number_at-3.result (to_z w64 (of_z w64 c.number_at-4.result))
    (sym (c.index.ensures ∙ get_or_default c.args.self.now.firsts.items c.args.place _ 0 within))
    (search rules) (search rules) (search rules) (search rules)
