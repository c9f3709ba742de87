use Rattle.std.proofs.Common.{◌≡◌, Some, Option, ap, sym, subst}
use Rattle.tf_bound_text.specs.BoundSheetData.{BoundSheetData, basis_of}
use Rattle.tf_assess.specs.Assessing.{HasOffered}
use Rattle.tf_assess.proofs.Offering.{used_found}
use Rattle.tf_assess.proofs.offered.weigh.Goals as goal

pub returns : goal.returns
returns g c =
    let k = c.args.task.now in
    let sheet = c.in-Some.sheet in
    let same : basis_of c.sheet.inside.certificate ≡ sheet.basis =
    ap (λ (s : BoundSheetData). s.basis) c.sheet.view_is in
    record {
      offered = subst (λ (o : Option BoundSheetData). HasOffered k o (Some c.in_ok-offered.offered))
          (sym c.in-Some.is) c.in_ok-offered.ensures;
      bound = used_found k sheet c.args.found c.used-bound.result c.in_ok-offered.offered
          c.sheet.inside.certificate c.requires c.in_ok-offered.ensures same c.used-bound.ensures.either;
      counts = c.used-bound.ensures.counts;
    }
