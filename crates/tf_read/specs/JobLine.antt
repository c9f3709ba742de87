-- The fields of a job line.
use Rattle.std.specs.Prelude.{ℕ, not, ◌&&◌, List, [], ◌∷◌, Option, Some, None, Result, Ok, Err, ℤ, codes, is_some, if◌then◌else◌}
use Rattle.std.specs.Str.{bytes_eq}
use Rattle.tf_words.specs.Number.{number}
use Rattle.tf_model.specs.Steps.{Steps}
use Rattle.tf_model.specs.JobFields.{JobFields}
use Rattle.tf_model.specs.declared.job.Times.{Times}
use Rattle.tf_model.specs.declared.job.Times.TheVariants.{One, Two}
use Rattle.tf_read.specs.declared.fault.ReadFault.{ReadFault}
use Rattle.tf_read.specs.declared.fault.ReadFault.TheVariants.{BadLine}
use Rattle.tf_model.specs.Outcome.{◌>>=◌}
use Rattle.tf_read.specs.Faults.{natural, integer}
use Rattle.tf_words.specs.WordParts.{divided}
use Rattle.tf_read.specs.CostField.{cost_at}

-- a number, or two divided by a ','. The form is judged before the numbers
abbrev pub times_in : ℕ → List ℕ → Option (List ℕ × List ℕ) → Result Times ReadFault
times_in line value None = natural line (number value) >>= λ n. Ok (One n)
times_in line value (Some parts) =
    if is_some (divided 44 parts.1) then Err (BadLine line)
    else (natural line (number parts.0) >>= λ a. natural line (number parts.1)
    >>= λ b. Ok (Two a b))

unfoldable pub times_at : ℕ → List ℕ → Result Times ReadFault
times_at line value = times_in line value (divided 44 value)

-- the fields of a line so far
pub record SomeFields : Type 0 where
  pub times : Option Times
  pub weight : Option ℤ
  pub due : Option ℤ
  pub release : Option ℤ
  pub cost : Option Steps

-- the value of a due date, a release date or a cost
abbrev pub later_in : ℕ → SomeFields → List ℕ → List ℕ → Result SomeFields ReadFault
later_in line so_far key value =
    if bytes_eq key (codes "d")
    && not (is_some so_far.due)
    then (integer line (number value) >>= λ x. Ok (record so_far { due = Some x }))
    else if bytes_eq key (codes "r")
    && not (is_some so_far.release)
    then (natural line (number value) >>= λ x. Ok (record so_far { release = Some x }))
    else if bytes_eq key (codes "h")
    && not (is_some so_far.cost)
    then (cost_at line value >>= λ x. Ok (record so_far { cost = Some x }))
    else Err (BadLine line)

-- a word `key=value`; each key stands once at most
abbrev pub field_in : ℕ → SomeFields → Option (List ℕ × List ℕ) → Result SomeFields ReadFault
field_in line so_far None = Err (BadLine line)
field_in line so_far (Some parts) =
    if bytes_eq parts.0 (codes "p")
    && not (is_some so_far.times)
    then (times_at line parts.1 >>= λ x. Ok (record so_far { times = Some x }))
    else if bytes_eq parts.0 (codes "w")
    && not (is_some so_far.weight)
    then (natural line (number parts.1) >>= λ x. Ok (record so_far { weight = Some x }))
    else later_in line so_far parts.0 parts.1

unfoldable pub field_at : ℕ → SomeFields → List ℕ → Result SomeFields ReadFault
field_at line so_far word = field_in line so_far (divided 61 word)

abbrev pub no_fields : SomeFields
no_fields = record { times = None; weight = None; due = None; release = None; cost = None }

abbrev pub complete : ℕ → SomeFields → Option Times → Result JobFields ReadFault
complete line so_far None = Err (BadLine line)
complete line so_far (Some times) =
    Ok (record {
      times = times;
      weight = so_far.weight;
      due = so_far.due;
      release = so_far.release;
      cost = so_far.cost;
    })

-- the fields from left to right, and then whether `p` was there
unfoldable pub fields_at : ℕ → SomeFields → List (List ℕ) → Result JobFields ReadFault
fields_at line so_far [] = complete line so_far so_far.times
fields_at line so_far (word ∷ more) = field_at line so_far word >>= λ next. fields_at line next more
