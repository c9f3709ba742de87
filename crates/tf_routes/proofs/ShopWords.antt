-- A step of a job shop, read from words.
use Rattle.std.proofs.Common.{◌≡◌, ℕ, List, [], ◌∷◌, Result, Ok, Err, sym, ap, subst, ◌∙◌}
use Rattle.tf_words.specs.Number.{number}
use Rattle.tf_words.specs.Words.{Word}
use Rattle.tf_words.specs.declared.number.Number.{Number}
use Rattle.tf_model.specs.Outcome.{◌>>=◌}
use Rattle.tf_read.specs.declared.fault.ReadFault.{ReadFault}
use Rattle.tf_read.specs.declared.fault.ReadFault.TheVariants.{EndsEarly}
use Rattle.tf_read.specs.Faults.{Fails}
use Rattle.tf_read.proofs.Each.{fails_then, fault_of}
use Rattle.tf_routes.specs.declared.route.Step.{Step}
use Rattle.tf_routes.specs.Routes.{time_in}
use Rattle.tf_routes.specs.JobShop.{machine_in, machine_first, time_first, step_first}

-- ---- a machine

pub machine_none : (machines : ℕ) (before : List Step) (words : List Word) → words ≡ []
    → machine_first machines before words ≡ Err EndsEarly
unfolding machine_first
machine_none machines before words is = ap (machine_first machines before) is

machine_at : (machines : ℕ) (before : List Step) (words more : List Word) (word : Word) (n : Number)
    (r : Result ℕ ReadFault)
    → words ≡ word ∷ more → n ≡ number word.bytes → r ≡ machine_in machines before word.line n
    → machine_first machines before words ≡ (r >>= λ machine. Ok (machine, more))
unfolding machine_first
machine_at machines before words more word n r is num read =
    ap (machine_first machines before) is
    ∙ ap (λ m. machine_in machines before word.line m >>= λ machine. Ok (machine, more)) (sym num)
    ∙ ap (λ x. x >>= λ machine. Ok (machine, more)) (sym read)

pub machine_fails : (machines : ℕ) (before : List Step) (words more : List Word) (word : Word)
    (n : Number) (e : ReadFault)
    → words ≡ word ∷ more → n ≡ number word.bytes → Err e ≡ machine_in machines before word.line n
    → Fails e (machine_first machines before words)
machine_fails machines before words more word n e is num read =
    fault_of e _ (machine_at machines before words more word n (Err e) is num read)

pub machine_read : (machines : ℕ) (before : List Step) (words more : List Word) (word : Word)
    (n : Number) (machine : ℕ)
    → words ≡ word ∷ more → n ≡ number word.bytes
    → Ok machine ≡ machine_in machines before word.line n
    → machine_first machines before words ≡ Ok (machine, more)
machine_read machines before words more word n machine is num read =
    machine_at machines before words more word n (Ok machine) is num read

-- ---- a time

pub time_none : (words : List Word) → words ≡ [] → time_first words ≡ Err EndsEarly
unfolding time_first
time_none words is = ap time_first is

time_at : (words more : List Word) (word : Word) (r : Result ℕ ReadFault) → words ≡ word ∷ more
    → r ≡ time_in word.line word.bytes → time_first words ≡ (r >>= λ time. Ok (time, more))
unfolding time_first
time_at words more word r is read =
    ap time_first is ∙ ap (λ x. x >>= λ time. Ok (time, more)) (sym read)

pub time_fails : (words more : List Word) (word : Word) (e : ReadFault) → words ≡ word ∷ more
    → Err e ≡ time_in word.line word.bytes → Fails e (time_first words)
time_fails words more word e is read = fault_of e _ (time_at words more word (Err e) is read)

pub time_read : (words more : List Word) (word : Word) (time : ℕ) → words ≡ word ∷ more
    → Ok time ≡ time_in word.line word.bytes → time_first words ≡ Ok (time, more)
time_read words more word time is read = time_at words more word (Ok time) is read

-- ---- a step

abbrev timed_step : ℕ × List Word → Result (Step × List Word) ReadFault
timed_step x = time_first x.1 >>= λ y. Ok (record { machine = x.0; time = y.0 }, y.1)

pub step_fails : (machines : ℕ) (before : List Step) (words : List Word) (e : ReadFault)
    → Fails e (machine_first machines before words) → Fails e (step_first machines before words)
unfolding step_first
step_fails machines before words e h =
    fails_then e (machine_first machines before words) timed_step h

pub untimed : (machines : ℕ) (before : List Step) (words timed : List Word) (machine : ℕ)
    (e : ReadFault)
    → machine_first machines before words ≡ Ok (machine, timed) → Fails e (time_first timed)
    → Fails e (step_first machines before words)
unfolding step_first
untimed machines before words timed machine e read h =
    subst (λ r. Fails e (r >>= timed_step)) (sym read)
    (fails_then e (time_first timed)
    (λ y. Ok (record { machine = machine; time = y.0 }, y.1)) h)

pub step_read : (machines : ℕ) (before : List Step) (words timed more : List Word)
    (machine time : ℕ)
    → machine_first machines before words ≡ Ok (machine, timed)
    → time_first timed ≡ Ok (time, more)
    → step_first machines before words ≡ Ok (record { machine = machine; time = time }, more)
unfolding step_first
step_read machines before words timed more machine time read next =
    ap (λ r. r >>= timed_step) read
    ∙ ap (λ r. r >>= λ y. Ok (record { machine = machine; time = y.0 }, y.1)) next
