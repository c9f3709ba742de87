-- The times and the machines of a route.
use Rattle.std.proofs.Common.{◌≡◌, ◌≢◌, ℕ, zero, suc, ◌+◌, ◌<◌, ◌≤◌, Bool, true, cond, eqb, List, [], ◌∷◌, length, get_or, set, replicate, refl, sym, ap, subst, ◌∙◌, ◌⊎◌, inl, inr, arith}
use Rattle.std.specs.List.{Contains, count_by, fold}
use Rattle.std.proofs.lemmas.Bool.{cases_Bool, cases_eq, eqb-false}
use Rattle.std.proofs.lemmas.List.{length-set, get_or-set_other, get_or-replicate, length-replicate}
use Rattle.std.proofs.lemmas.List.Elements.{All-map}
use Rattle.std.proofs.lemmas.List.Sums.{sum_by-cons}
use Rattle.tf_bound.specs.Route.{IsRouted}
use Rattle.tf_routes.specs.declared.route.Step.{Step}
use Rattle.tf_routes.specs.RoutedData.{AreSteps}
use Rattle.tf_prepare.specs.Preparing.{machines_of, times_by}

-- ---- times

abbrev put : List ℕ → Step → List ℕ
put times step = set times step.machine step.time

put_length : (times : List ℕ) (route : List Step) → length (fold put times route) ≡ length times
put_length times [] = refl
put_length times (step ∷ route) =
    put_length (put times step) route ∙ length-set times step.machine step.time

-- there is a time for each machine
pub times_length : (machines : ℕ) (route : List Step) → length (times_by machines route) ≡ machines
times_length machines route =
    put_length (replicate machines 0) route ∙ length-replicate machines 0

-- where there is time now, there was before, or a step put it there
put_time : (times : List ℕ) (route : List Step) (a : ℕ)
    → 1 ≤ get_or (fold put times route) a 0
    → (1 ≤ get_or times a 0) ⊎ Contains (machines_of route) a
put_time times [] a some = inl some
put_time times (step ∷ route) a some = elim (put_time (put times step) route a some) [
  | inr found ↦ inr (suc found.0, omega (arith, found.1), found.2)
  | inl here ↦ elim (cases_eq a step.machine) [
    | inl same ↦ inr (zero, omega arith, sym same)
    | inr other ↦ inl (subst (λ (n : ℕ). 1 ≤ n)
        (get_or-set_other times step.machine a step.time 0 other) here)
  ]
]

-- ---- machines

abbrev Once : List Step → Type 0
Once route = (machine : ℕ) → count_by (λ (step : Step). eqb step.machine machine) route ≤ 1

abbrev on : ℕ → Step → Bool
on machine step = eqb step.machine machine

-- a step more
count_next : (machine : ℕ) (step : Step) (route : List Step)
    → count_by (on machine) (step ∷ route)
    ≡ cond (on machine step) 1 0 + count_by (on machine) route
count_next machine step route = sum_by-cons (λ (s : Step). cond (on machine s) 1 0) step route

once_rest : (step : Step) (route : List Step) → Once (step ∷ route) → Once route
once_rest step route once = λ machine.
    omega (arith, once machine, count_next machine step route)

on_it : (a b : ℕ) → a ≡ b → eqb a b ≡ true
on_it a b e = elim (cases_Bool (eqb a b)) [
  | inl is ↦ is
  | inr not ↦ absurd (eqb-false a b not e)
]

-- a step on the machine counts
some_on : (machine : ℕ) (route : List Step) (j d : ℕ) → j < length (machines_of route)
    → get_or (machines_of route) j d ≡ machine
    → 1 ≤ count_by (λ (step : Step). eqb step.machine machine) route
some_on machine [] j d lt same = absurd (omega (arith, lt))
some_on machine (step ∷ route) zero d lt same =
    let e : on machine step ≡ true = on_it step.machine machine same in
    let one : cond {A = ℕ} (on machine step) 1 0 ≡ 1 = rw e refl in
    omega (arith, one, count_next machine step route)
some_on machine (step ∷ route) (suc j) d lt same =
    omega (arith, some_on machine route j d (omega (arith, lt)) same, count_next machine step route)

pub apart : (route : List Step) → Once route → (i j d : ℕ) → i < j
    → j < length (machines_of route)
    → get_or (machines_of route) i d ≢ get_or (machines_of route) j d
apart [] once i j d lt h = absurd (omega (arith, h))
apart (step ∷ route) once i zero d lt h = absurd (omega (arith, lt))
apart (step ∷ route) once zero (suc j) d lt h = λ same.
    let two = some_on step.machine route j d (omega (arith, h)) (sym same) in
    let e : on step.machine step ≡ true = on_it step.machine step.machine refl in
    let one : cond {A = ℕ} (on step.machine step) 1 0 ≡ 1 = rw e refl in
    omega (arith, two, one, once step.machine, count_next step.machine step route)
apart (step ∷ route) once (suc i) (suc j) d lt h =
    apart route (once_rest step route once) i j d (omega (arith, lt)) (omega (arith, h))

-- ---- both

pub is_routed : (machines : ℕ) (route : List Step) → AreSteps machines route
    → IsRouted machines (times_by machines route) (machines_of route)
is_routed machines route is = record {
  of_machines = All-map (λ (a : ℕ). a < machines) (λ (step : Step). step.machine) route is.within;
  no_twice = λ i j d lt h. apart route is.once i j d lt h;
  has_all = λ a lt some. elim (put_time (replicate machines 0) route a some) [
    | inl here ↦
        let none : get_or (replicate machines 0) a 0 ≡ 0 =
        get_or-replicate {A = ℕ} machines a 0 0 lt in
        absurd (omega (arith, here, none))
    | inr found ↦ found
  ];
}

-- the same of the times and the machines that were found
pub found_routed : (machines : ℕ) (route : List Step) (times visited : List ℕ)
    → AreSteps machines route → times ≡ times_by machines route → visited ≡ machines_of route
    → IsRouted (length times) times visited
found_routed machines route times visited is t v =
    let n : machines ≡ length times = sym (ap length t ∙ times_length machines route) in
    subst (λ (m : ℕ). IsRouted m times visited) n
    (subst (λ (ts : List ℕ). IsRouted machines ts visited) (sym t)
    (subst (λ (vs : List ℕ). IsRouted machines (times_by machines route) vs) (sym v)
    (is_routed machines route is)))
