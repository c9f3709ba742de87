-- The body of a table of which the jobs and the arcs were read.
use Rattle.std.specs.Prelude.{IfSome}
use Rattle.std.proofs.Common.{◌≡◌, ℕ, List, length, Option, None, Some, Result, Ok, refl, sym, ap, ◌∙◌}
use Rattle.std.specs.List.{before_first}
use Rattle.tf_words.specs.Words.{Line}
use Rattle.tf_model.specs.JobFields.{JobFields}
use Rattle.tf_model.specs.InstanceData.{InstanceData}
use Rattle.tf_read.specs.declared.fault.ReadFault.{ReadFault}
use Rattle.tf_read.specs.Faults.{each_from}
use Rattle.tf_read.specs.JobTable.{arcs_of, body_of, is_arc, job_line, since_first}

-- it is their instance
pub body_read : (machines : Option ℕ) (all rest : List Line) (jobs : List JobFields) (n : ℕ)
    (arcs : List (ℕ × ℕ))
    → each_from job_line 1 (before_first is_arc all) ≡ Ok jobs → n ≡ length jobs
    → rest ≡ since_first is_arc all → arcs_of n rest ≡ Ok arcs
    → body_of machines all ≡ Ok (record { jobs = jobs; arcs = arcs; machines = machines })
unfolding body_of
body_read machines all rest jobs n arcs read count left behind =
    let found : arcs_of (length jobs) (since_first is_arc all) ≡ Ok arcs =
    ap (arcs_of (length jobs)) (sym left) ∙ ap (λ k. arcs_of k rest) (sym count) ∙ behind in
    rw (read, found) refl

-- what is prepared of an instance is prepared of the one that the text says
pub of_said : {T : Type 0} (result : Option T) (Is : InstanceData → T → Type 0) (said wanted : Result InstanceData ReadFault)
    (i : InstanceData)
    → said ≡ wanted → wanted ≡ Ok i → IfSome result (Is i)
    → IfSome result (λ task. (x : InstanceData) × (said ≡ Ok x) × Is x task)
of_said None Is said wanted i same read h = tt
of_said (Some task) Is said wanted i same read h = (i, same ∙ read, h)
