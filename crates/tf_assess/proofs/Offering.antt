-- What an offered certificate is worth.
use Rattle.std.proofs.Common.{◌≡◌, ℤ, Option, SFits, to_z, of_z, None, inl, inr, refl, sym, ap, subst, ◌∙◌}
use Rattle.std.specs.Int.{w128}
use Rattle.std.proofs.lemmas.Int.{to_z-of_z}
use Rattle.tf_posed.specs.ProblemData.{ProblemData}
use Rattle.tf_posed.specs.ProblemCost.{IsLowerBound}
use Rattle.tf_bound.specs.Certified.{IsBoundBy, IsFaultBy, IsValueOn}
use Rattle.tf_bound.specs.Faulted.{certificate_fault}
use Rattle.tf_bound.specs.declared.fault.BoundFault.{BoundFault}
use Rattle.tf_bound.specs.declared.certificate.BoundCertificate.{BoundCertificate}
use Rattle.tf_bound.specs.declared.certificate.BoundCertificate.TheVariants.{Machine, Window, Crowd, OneJob, Multipliers, Prices, MachinePrices, Alone, Kept, Shortest, Ranks, Parts, Split, Potentials}
use Rattle.tf_search.specs.declared.strongest.Found.{Found}
use Rattle.tf_search.specs.Strongest.{IsFound}
use Rattle.tf_bound_text.specs.BoundSheetData.{Basis, BoundSheetData, basis_of, fault_by, IsValueBy}
use Rattle.tf_assess.specs.declared.offered.Offered.{Offered}
use Rattle.tf_assess.specs.Assessing.{HasValue, IsJudgedFault, IsJudgedValue, IsOffer, IsOfferFor, IsUsed}

-- the value of a certificate is that of what it names
value_on : {A : Type 0} (k : ProblemData) (c : BoundCertificate A) (b : ℤ) → IsValueOn k c b
    → IsValueBy k (basis_of c) b
value_on k (Machine machine jobs) b h = h
value_on k (Window jobs) b h = h
value_on k (Crowd h0 jobs) b h = h
value_on k (OneJob job) b h = h
value_on k (Multipliers machine q numerators arcs) b h = h
value_on k (Prices q rows) b h = h
value_on k (MachinePrices machine q rows) b h = h
value_on k Alone b h = h
value_on k (Kept jobs) b h = h
value_on k (Shortest jobs) b h = h
value_on k (Ranks jobs) b h = h
value_on k (Split first second delta by_first side) b h = h
value_on k (Parts from until late jobs) b h = h
value_on k (Potentials numbers) b h = h

value_by : {A : Type 0} (k : ProblemData) (c : BoundCertificate A) (b : ℤ) → IsBoundBy k c b
    → IsJudgedValue k (basis_of c) b
value_by k c b (other, judged, h) = (other, judged, value_on other c b h)

-- and the other way round
on_value : {A : Type 0} (k : ProblemData) (c : BoundCertificate A) (b : ℤ)
    → IsValueBy k (basis_of c) b → IsValueOn k c b
on_value k (Machine machine jobs) b h = h
on_value k (Window jobs) b h = h
on_value k (Crowd h0 jobs) b h = h
on_value k (OneJob job) b h = h
on_value k (Multipliers machine q numerators arcs) b h = h
on_value k (Prices q rows) b h = h
on_value k (MachinePrices machine q rows) b h = h
on_value k Alone b h = h
on_value k (Kept jobs) b h = h
on_value k (Shortest jobs) b h = h
on_value k (Ranks jobs) b h = h
on_value k (Split first second delta by_first side) b h = h
on_value k (Parts from until late jobs) b h = h
on_value k (Potentials numbers) b h = h

pub bound_by : {A : Type 0} (k : ProblemData) (c : BoundCertificate A) (b : ℤ)
    → IsJudgedValue k (basis_of c) b → IsBoundBy k c b
bound_by k c b (other, judged, h) = (other, judged, on_value other c b h)

-- the fault of a certificate is that of what it names
fault_is : {A : Type 0} (k : ProblemData) (c : BoundCertificate A)
    → certificate_fault k c ≡ fault_by k (basis_of c)
fault_is k (Machine machine jobs) = refl
fault_is k (Window jobs) = refl
fault_is k (Crowd h0 jobs) = refl
fault_is k (OneJob job) = refl
fault_is k (Multipliers machine q numerators arcs) = refl
fault_is k (Prices q rows) = refl
fault_is k (MachinePrices machine q rows) = refl
fault_is k Alone = refl
fault_is k (Kept jobs) = refl
fault_is k (Shortest jobs) = refl
fault_is k (Ranks jobs) = refl
fault_is k (Split first second delta by_first side) = refl
fault_is k (Parts from until late jobs) = refl
fault_is k (Potentials numbers) = refl

-- and so on the task on which it is judged
pub judged_fault : {A : Type 0} (k : ProblemData) (c : BoundCertificate A) (basis : Basis)
    (fault : Option BoundFault) → basis_of c ≡ basis → IsFaultBy k c fault
    → IsJudgedFault k basis fault
judged_fault k c basis fault same (other, judged, is) =
    (other, judged, ap (fault_by other) (sym same) ∙ sym (fault_is other c) ∙ is)

-- a certificate without a fault has a value, as a number of 128 bits too
pub has_value : {A : Type 0} (k : ProblemData) (sheet : BoundSheetData) (c : BoundCertificate A)
    (b : ℤ) → SFits w128 b → basis_of c ≡ sheet.basis → IsOfferFor k sheet
    → IsFaultBy k c None → IsBoundBy k c b → IsLowerBound k b
    → HasValue k sheet (to_z w128 (of_z w128 b))
has_value k sheet c b fits same meant none by bound =
    subst (λ (z : ℤ). HasValue k sheet z) (sym (to_z-of_z w128 b fits)) (record {
      meant = meant;
      faultless = judged_fault k c sheet.basis None same none;
      value = subst (λ (basis : Basis). IsJudgedValue k basis b) same (value_by k c b by);
      bound = bound;
    })

-- the bound that is used is one
pub used_found : {A : Type 0} (k : ProblemData) (sheet : BoundSheetData)
    (found bound : Found A) (offered : Offered) (c : BoundCertificate A)
    → IsFound k found → IsOffer k sheet offered → basis_of c ≡ sheet.basis
    → IsUsed found offered c bound → IsFound k bound
used_found k sheet found bound offered c h offer same (inl is) =
    subst (λ (b : Found _). IsFound k b) (sym is) h
used_found k sheet found bound offered c h offer same (inr (value, meant, is)) =
    let has = (subst (IsOffer k sheet) meant offer).0 in
    subst (λ (b : Found _). IsFound k b) (sym is) (record {
      value = bound_by k c value
          (subst (λ (basis : Basis). IsJudgedValue k basis value) (sym same) has.value);
      bound = has.bound;
    })
