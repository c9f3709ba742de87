-- Runs over orders, from what was read on.
use Rattle.std.proofs.Common.{◌≡◌, ℕ, ◌≤◌, List, Option, None, is_some, Bool, Result, Ok, length, sym, subst, ap, ◌∙◌, inl, inr}
use Rattle.tf_model.specs.Limit.{most_bytes}
use Rattle.tf_text.specs.declared.counted.Counted.{Counted}
use Rattle.tf_engine.specs.declared.fault.RunFault.{RunFault}
use Rattle.tf_engine.specs.RequestData.{RequestData}
use Rattle.tf_engine.specs.Faults.{Refused, ByCycle}
use Rattle.tf_orders.specs.declared.case_read.OrderCase.{OrderCase}
use Rattle.tf_orders.specs.declared.case_read.Posed.{Posed}
use Rattle.tf_orders.specs.declared.case_read.Posed.TheVariants.{Solved, Unsolved}
use Rattle.tf_orders.specs.declared.measure.Measure.{Measure}
use Rattle.tf_orders.specs.declared.run_orders.OrderForm.{OrderForm}
use Rattle.tf_evaluate.specs.declared.evaluation.Detail.{Detail}
use Rattle.tf_evaluate.specs.Evaluating.{IsOptimum}
use Rattle.tf_assess.specs.Measures.{PosedData}
use Rattle.tf_bound_text.specs.BoundSheetData.{BoundSheetData}
use Rattle.tf_orders.specs.Measuring.{IsMeasure, others_of}
use Rattle.tf_orders.specs.OrderParts.{Means, Measures, IsCycleOf, IsRefusedCase, ReadsOrderCase, with_others}
use Rattle.tf_orders.specs.RunOrders.{IsRefusedOrders}

-- the measure of what is asked for
pub measure_is : {A : Type 0} (detail : Detail) (offer : Option BoundSheetData)
    (request : RequestData) (others : Option PosedData) (text : List ℕ) (posed : Posed A)
    (m : Measure A)
    → Means (is_some offer) request text posed → Measures detail offer others posed m
    → IsMeasure detail offer request text m
measure_is detail offer request others text (Solved asked) m (solved, is)
    (best, steps, same, optimum) =
    subst (IsMeasure detail offer request text) (sym same) (solved, is.problem, is.meant, optimum)
measure_is detail offer request others text (Unsolved task) m (unsolved, meant)
    (weighed, same, feasible, bound) =
    subst (IsMeasure detail offer request text) (sym same) (unsolved, meant, feasible, bound)

pub measures_with : {A : Type 0} (given detail : Detail) (offer : Option BoundSheetData)
    (others : Option PosedData) (posed : Posed A) (m n : Measure A) → given ≡ detail
    → Measures given offer None posed m → n ≡ with_others m others
    → Measures detail offer others posed n
measures_with given detail offer others (Solved asked) m n known (best, steps, same, optimum) is = (
  best,
  steps,
  is ∙ ap (λ m. with_others m others) same,
  subst (λ (d : Detail). IsOptimum d asked.task best steps.items) known optimum,
)
measures_with given detail offer others (Unsolved task) m n known
    (weighed, same, feasible, bound) is =
    (weighed, is ∙ ap (λ m. with_others m others) same, feasible, bound)

-- with the instance that was given for the other objectives
pub others_are : {A : Type 0} (detail : Detail) (offer : Option BoundSheetData)
    (others : Option PosedData) (posed : Posed A) (m : Measure A)
    → Measures detail offer others posed m → others_of m ≡ others
others_are detail offer others (Solved asked) m (best, steps, same, optimum) = ap others_of same
others_are detail offer others (Unsolved task) m (weighed, same, feasible, bound) =
    ap others_of same

-- a cycle of the arcs is refused
pub cyclic : {A : Type 0} (form : OrderForm) (offer : Option BoundSheetData) (request : RequestData)
    (text orders jobs : List ℕ) (refused : Refused) (posed : Posed A)
    → Means (is_some offer) request text posed → refused ≡ ByCycle jobs
    → IsCycleOf posed jobs → IsRefusedOrders A form offer request text orders refused
cyclic form offer request text orders jobs refused (Solved asked) (solved, meant) is cycle =
    inr (inr (inl (
      jobs,
      is,
      record { task = asked.task; meant = meant.meant; cycle = cycle },
    )))
cyclic form offer request text orders jobs refused (Unsolved task) (unsolved, meant) is cycle =
    inr (inr (inr (inl (task, meant, (jobs, is, cycle)))))

-- what is refused while both are read
pub case_refused : (A : Type 0) (form : OrderForm) (offer : Option BoundSheetData)
    {request : RequestData} (text orders : List ℕ) (refused : Refused)
    → IsRefusedCase (is_some offer) request text orders refused
    → IsRefusedOrders A form offer request text orders refused
case_refused A form offer text orders refused (inl instance) = inl instance
case_refused A form offer text orders refused (inr long) = inr (inl long)

-- the text of orders that were read is short
pub short_text : {A T U : Type 0} {bounded : Bool} {request : RequestData}
    {remaining : T → Option (List ℕ)} {old new : Counted T} {giving : U → Option (List ℕ)}
    {before after : Counted U} (case : OrderCase A) (bytes : List ℕ)
    → ReadsOrderCase bounded request remaining old new giving before after (Ok case)
    → bytes ≡ case.text.items → length bytes ≤ most_bytes
short_text case bytes had same =
    subst (λ (bs : List ℕ). length bs ≤ most_bytes) (sym (same ∙ had.given.text_is)) had.given.short

-- what was read, by whether a bound is offered
pub by_offer : {A T U : Type 0} {request : RequestData} {remaining : T → Option (List ℕ)}
    {old new : Counted T} {giving : U → Option (List ℕ)} {before after : Counted U}
    {result : Result (OrderCase A) (RunFault A)} (offer : Option BoundSheetData) (bounded : Bool)
    → bounded ≡ is_some offer
    → ReadsOrderCase bounded request remaining old new giving before after result
    → ReadsOrderCase (is_some offer) request remaining old new giving before after result
by_offer {request = request} {remaining = remaining} {old = old} {new = new} {giving = giving}
    {before = before} {after = after} {result = result} offer bounded same had =
    subst (λ (b : Bool). ReadsOrderCase b request remaining old new giving before after result) same
    had
