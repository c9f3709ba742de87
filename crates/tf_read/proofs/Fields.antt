-- A loop's step over the fields of a line.
use Rattle.std.proofs.Common.{◌≡◌, ℕ, List, [], ◌∷◌, Result, Ok, sym, ap, subst, ◌∙◌}
use Rattle.tf_model.specs.JobFields.{JobFields}
use Rattle.tf_read.specs.declared.fault.ReadFault.{ReadFault}
use Rattle.tf_model.specs.Outcome.{◌>>=◌}
use Rattle.tf_read.specs.Faults.{Fails}
use Rattle.tf_read.specs.JobLine.{SomeFields, field_at, fields_at, complete}
use Rattle.tf_read.proofs.Each.{fails_then}

pub field_read : (line : ℕ) (so_far next : SomeFields) (word : List ℕ) (more all : List (List ℕ))
    → all ≡ word ∷ more → field_at line so_far word ≡ Ok next
    → fields_at line so_far all ≡ fields_at line next more
unfolding fields_at
field_read line so_far next word more all e h = ap (fields_at line so_far) e
    ∙ ap (λ r. r >>= λ x. fields_at line x more) h

pub field_fails : (line : ℕ) (so_far : SomeFields) (word : List ℕ) (more all : List (List ℕ))
    (e : ReadFault) (total : Result JobFields ReadFault)
    → fields_at line so_far all ≡ total → all ≡ word ∷ more → Fails e (field_at line so_far word)
    → Fails e total
unfolding fields_at
field_fails line so_far word more all e total same is h =
    subst (λ r. Fails e r) (sym (ap (fields_at line so_far) is) ∙ same)
    (fails_then e (field_at line so_far word) (λ x. fields_at line x more) h)

pub fields_end : (line : ℕ) (so_far : SomeFields) (all : List (List ℕ)) → all ≡ []
    → fields_at line so_far all ≡ complete line so_far so_far.times
unfolding fields_at
fields_end line so_far all e = ap (fields_at line so_far) e
