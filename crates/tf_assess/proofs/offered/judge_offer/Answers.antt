use Rattle.std.proofs.Common.{◌≡◌, SFits, Some, ap, rules, ⊎_elim}
use Rattle.std.specs.Int.{w128}
use Rattle.tf_bound_text.specs.BoundSheetData.{BoundSheetData, basis_of}
use Rattle.tf_posed.specs.ProblemData.{ProblemData}
use Rattle.tf_bound.specs.declared.fault.BoundFault.{BoundFault}
use Rattle.tf_assess.proofs.Offering.{has_value, judged_fault}
use Rattle.tf_assess.proofs.offered.judge_offer.Goals as goal

pub returns-in-Ok : goal.returns-in-Ok
returns-in-Ok g c =
    let fits : SFits w128 c.in-Ok.value = search rules in
    let same : basis_of c.sheet.inside.certificate ≡ c.args.sheet.now.basis =
    ap (λ (s : BoundSheetData). s.basis) c.sheet.view_is in (
      has_value c.args.task.now c.args.sheet.now c.sheet.inside.certificate c.in-Ok.value fits same
          (search rules) c.in-Ok.ensures.fault c.in-Ok.ensures.value c.in-Ok.ensures.bound,
      search rules,
    )

pub returns-in-Ok-2 : goal.returns-in-Ok-2
returns-in-Ok-2 g c =
    let fits : SFits w128 c.in-Ok.value = search rules in
    let same : basis_of c.sheet.inside.certificate ≡ c.args.sheet.now.basis =
    ap (λ (s : BoundSheetData). s.basis) c.sheet.view_is in (
      has_value c.args.task.now c.args.sheet.now c.sheet.inside.certificate c.in-Ok.value fits same
          (search rules) c.in-Ok.ensures.fault c.in-Ok.ensures.value c.in-Ok.ensures.bound,
      search rules,
    )

pub returns-in-Err : goal.returns-in-Err
returns-in-Err g c =
    let k : ProblemData = c.args.task.now in
    let fault : BoundFault = c.in-Err.fault in
    let same : basis_of c.sheet.inside.certificate ≡ c.args.sheet.now.basis =
    ap (λ (s : BoundSheetData). s.basis) c.sheet.view_is in (
      search rules,
      ⊎_elim
          (λ none. absurd (search rules))
          (λ by. judged_fault k c.sheet.inside.certificate c.args.sheet.now.basis (Some fault) same by)
          c.in-Err.ensures.fault,
    )
