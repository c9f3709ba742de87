-- The text of a lower bound.
use Rattle.std.specs.Prelude.{ℕ, ℤ, ◌+◌, Bool, true, false, List, [], ◌∷◌, ◌++◌, map, codes}
use Rattle.std.specs.List.{flat_map}
use Rattle.std.specs.Fmt.{decimal, signed_decimal}
use Rattle.tf_notation.specs.Canonical.{canonical}
use Rattle.tf_text.specs.AnswerText.{line_text}
use Rattle.tf_posed.specs.ProblemData.{ProblemData}
use Rattle.tf_bound.specs.declared.certificate.BoundCertificate.{BoundCertificate}
use Rattle.tf_bound.specs.declared.certificate.BoundCertificate.TheVariants.{Machine, Window, Crowd, OneJob, Multipliers, Prices, MachinePrices, Alone, Kept, Shortest, Ranks, Parts, Split, Potentials}

-- the line of the arcs' multipliers, if there are any
abbrev pub arc_lines : List ℕ → List (List (List ℕ))
arc_lines [] = []
arc_lines (number ∷ numbers) = (codes "arcs" ∷ map decimal (number ∷ numbers)) ∷ []

-- on which of two machines delta is reached
abbrev pub which_word : Bool → List ℕ
which_word true = codes "first"
which_word false = codes "second"

-- The lines of a certificate: its kind, its numbers, and its jobs or numerators. Machines count
-- from 1. Prices are those of the rows from 0 on.
abbrev pub certificate_lines : {A : Type 0} → BoundCertificate A → List (List (List ℕ))
certificate_lines (Machine machine jobs) =
    (codes "machine" ∷ decimal (machine + 1) ∷ map decimal jobs.items) ∷ []
certificate_lines (Window jobs) = (codes "window" ∷ map decimal jobs.items) ∷ []
certificate_lines (Crowd h jobs) = (codes "crowd" ∷ decimal h ∷ map decimal jobs.items) ∷ []
certificate_lines (OneJob job) = (codes "job" ∷ decimal job ∷ []) ∷ []
certificate_lines (Multipliers machine q numerators arcs) =
    (codes "multipliers" ∷ decimal (machine + 1) ∷ decimal q ∷ map decimal numerators.items)
    ∷ arc_lines arcs.items
certificate_lines (Prices q rows) = (codes "prices" ∷ decimal q ∷ map decimal rows.items) ∷ []
certificate_lines (MachinePrices machine q rows) =
    (codes "prices_on" ∷ decimal (machine + 1) ∷ decimal q ∷ map decimal rows.items) ∷ []
certificate_lines Alone = (codes "alone" ∷ []) ∷ []
certificate_lines (Kept jobs) = (codes "kept" ∷ map decimal jobs.items) ∷ []
certificate_lines (Shortest jobs) = (codes "shortest" ∷ map decimal jobs.items) ∷ []
certificate_lines (Ranks jobs) = (codes "ranks" ∷ map decimal jobs.items) ∷ []
certificate_lines (Split first second delta by_first side) =
    (codes "pair" ∷ decimal (first + 1) ∷ decimal (second + 1) ∷ which_word by_first ∷ decimal delta
    ∷ map decimal side.items) ∷ []
certificate_lines (Parts from until late jobs) =
    (codes "parts" ∷ decimal from ∷ decimal until ∷ signed_decimal late ∷ map decimal jobs.items) ∷ []
certificate_lines (Potentials numbers) =
    (codes "potentials" ∷ map signed_decimal numbers.items) ∷ []

-- all lines: a heading, the problem, the sizes of the task, the value and the certificate
abbrev pub bound_lines : {A : Type 0} → ProblemData → ℕ → ℤ → BoundCertificate A
    → List (List (List ℕ))
bound_lines k jobs value certificate =
    (codes "bound" ∷ codes "1" ∷ [])
    ∷ (codes "problem" ∷ canonical k.problem ∷ [])
    ∷ (codes "jobs" ∷ decimal jobs ∷ [])
    ∷ (codes "machines" ∷ decimal k.machines ∷ [])
    ∷ (codes "value" ∷ signed_decimal value ∷ [])
    ∷ (certificate_lines certificate ++ (codes "end" ∷ []) ∷ [])

-- the text of a bound of a task
unfoldable pub bound_text : {A : Type 0} → ProblemData → ℕ → ℤ → BoundCertificate A → List ℕ
bound_text k jobs value certificate = flat_map line_text (bound_lines k jobs value certificate)
