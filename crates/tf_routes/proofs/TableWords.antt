-- A step of a route in a table, read from a part of a word.
use Rattle.std.proofs.Common.{◌≡◌, ℕ, true, false, List, [], ◌∷◌, Some, None, Ok, Err, refl, sym, ap, ◌∙◌}
use Rattle.std.specs.Option.{is_some}
use Rattle.tf_words.specs.Number.{number}
use Rattle.tf_words.specs.WordParts.{divided, parts}
use Rattle.tf_words.specs.declared.number.Number.{Number}
use Rattle.tf_model.specs.Outcome.{◌>>=◌}
use Rattle.tf_read.specs.declared.fault.ReadFault.{ReadFault}
use Rattle.tf_read.specs.declared.fault.ReadFault.TheVariants.{BadLine}
use Rattle.tf_routes.specs.declared.route.Step.{Step}
use Rattle.tf_routes.specs.Routes.{time_in}
use Rattle.tf_routes.specs.RoutedTable.{machine_named, route_at, step_at, steps_at}

pub without_at : (before : List Step) (line : ℕ) (part : List ℕ) → divided 64 part ≡ None
    → step_at before line part ≡ Err (BadLine line)
unfolding step_at
without_at before line part h = rw h refl

pub second_at : (before : List Step) (line : ℕ) (part time machine : List ℕ)
    → divided 64 part ≡ Some (time, machine) → is_some (divided 64 machine) ≡ true
    → step_at before line part ≡ Err (BadLine line)
unfolding step_at
second_at before line part time machine h two = rw (h, two) refl

-- a part with one '@'
step_is : (before : List Step) (line : ℕ) (part time machine : List ℕ)
    → divided 64 part ≡ Some (time, machine) → is_some (divided 64 machine) ≡ false
    → step_at before line part
    ≡ (time_in line time >>= λ t. machine_named before line (number machine)
    >>= λ m. Ok (record { machine = m; time = t }))
unfolding step_at
step_is before line part time machine h one = rw (h, one) refl

pub time_fails : (before : List Step) (line : ℕ) (part time machine : List ℕ) (e : ReadFault)
    → divided 64 part ≡ Some (time, machine) → is_some (divided 64 machine) ≡ false
    → Err e ≡ time_in line time → step_at before line part ≡ Err e
time_fails before line part time machine e h one read =
    step_is before line part time machine h one
    ∙ ap (λ r. r >>= λ t. machine_named before line (number machine)
    >>= λ m. Ok (record { machine = m; time = t })) (sym read)

pub machine_fails : (before : List Step) (line : ℕ) (part time machine : List ℕ) (n : Number)
    (t : ℕ) (e : ReadFault)
    → divided 64 part ≡ Some (time, machine) → is_some (divided 64 machine) ≡ false
    → Ok t ≡ time_in line time → n ≡ number machine → Err e ≡ machine_named before line n
    → step_at before line part ≡ Err e
machine_fails before line part time machine n t e h one read num named =
    step_is before line part time machine h one
    ∙ ap (λ r. r >>= λ t. machine_named before line (number machine)
    >>= λ m. Ok (record { machine = m; time = t })) (sym read)
    ∙ ap (λ k. machine_named before line k >>= λ m. Ok (record { machine = m; time = t })) (sym num)
    ∙ ap (λ r. r >>= λ m. Ok (record { machine = m; time = t })) (sym named)

pub step_read : (before : List Step) (line : ℕ) (part time machine : List ℕ) (n : Number) (t m : ℕ)
    → divided 64 part ≡ Some (time, machine) → is_some (divided 64 machine) ≡ false
    → Ok t ≡ time_in line time → n ≡ number machine → Ok m ≡ machine_named before line n
    → step_at before line part ≡ Ok (record { machine = m; time = t })
step_read before line part time machine n t m h one read num named =
    step_is before line part time machine h one
    ∙ ap (λ r. r >>= λ t. machine_named before line (number machine)
    >>= λ m. Ok (record { machine = m; time = t })) (sym read)
    ∙ ap (λ k. machine_named before line k >>= λ m. Ok (record { machine = m; time = t })) (sym num)
    ∙ ap (λ r. r >>= λ m. Ok (record { machine = m; time = t })) (sym named)

-- a value without an '@'
pub no_route : (line : ℕ) (value : List ℕ) → is_some (divided 64 value) ≡ false
    → route_at line value ≡ Ok []
unfolding route_at
no_route line value h = rw h refl

-- and with one
pub a_route : (line : ℕ) (value part : List ℕ) (more : List (List ℕ))
    → is_some (divided 64 value) ≡ true → parts value ≡ part ∷ more
    → steps_at [] line (part ∷ more) ≡ route_at line value
unfolding route_at
a_route line value part more h is = ap (steps_at [] line) (sym is) ∙ sym (rw h refl)
