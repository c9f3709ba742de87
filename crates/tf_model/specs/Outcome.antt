-- Steps that end at the first fault, and what a function returns that may run out of memory on the
-- way.
use Rattle.std.specs.Prelude.{◌≡◌, Option, None, Some, Result, Ok, Err}

-- one step after another, up to the first fault
infixl 10 ◌>>=◌
abbrev pub ◌>>=◌ : {A B E : Type 0} → Result A E → (A → Result B E) → Result B E
(Ok x) >>= f = f x
(Err e) >>= f = Err e

-- the fault where there is one, else what follows
abbrev pub unless : {A E : Type 0} → Option E → Result A E → Result A E
unless (Some fault) result = Err fault
unless None result = result

-- the wanted outcome is this fault; what is no fault, as want of memory, says nothing of it
abbrev pub IsFault : {Y F : Type 0} → Option F → Result Y F → Type 0
IsFault (Some fault) wanted = wanted ≡ Err fault
IsFault None wanted = Unit {0}

-- what a function returned, its value seen by `view` and its error by `fault_in`, is the wanted
-- outcome
abbrev pub Gives : {X Y E F : Type 0} → (E → Option F) → (X → Y) → Result X E → Result Y F → Type 0
Gives fault_in view (Ok x) wanted = wanted ≡ Ok (view x)
Gives fault_in view (Err e) wanted = IsFault (fault_in e) wanted
