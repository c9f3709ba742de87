-- Parts that are written one after the other.
use Rattle.std.proofs.Common.{◌≡◌, List, [], ◌∷◌, ◌++◌, ℕ, suc, ◌+◌, ◌-◌, sym, ap, ◌∙◌, append-nil, append_assoc, arith}
use Rattle.std.specs.List.{flat_map, range_with_len, swap}
use Rattle.std.proofs.lemmas.Grind.{flat_map-append}
use Rattle.std.proofs.lemmas.List.Concat.{flat_map-cons}
use Rattle.tf_model.proofs.Ranges.{range_push}
use Rattle.tf_random.specs.Plan.{swapped}
use Rattle.tf_random.specs.Table.{one_step, route_after, steps}
use Rattle.tf_random.specs.declared.plan.Plan.{Plan}

-- one more of a row of numbered parts
pub each_more : (f : ℕ → List ℕ) (a n : ℕ) (t0 t1 t2 : List ℕ)
    → t1 ≡ t0 ++ flat_map f (range_with_len a n) → t2 ≡ t1 ++ f (a + n)
    → t2 ≡ t0 ++ flat_map f (range_with_len a (n + 1))
each_more f a n t0 t1 t2 first next =
    let more : suc n ≡ n + 1 = omega arith in
    let whole : flat_map f (range_with_len a (n + 1))
    ≡ flat_map f (range_with_len a n) ++ f (a + n) =
    ap (λ m. flat_map f (range_with_len a m)) (sym more)
    ∙ ap (flat_map f) (range_push a n)
    ∙ flat_map-append f (range_with_len a n) ((a + n) ∷ [])
    ∙ ap (λ text. flat_map f (range_with_len a n) ++ text)
    (flat_map-cons f (a + n) [] ∙ append-nil (f (a + n))) in
    next ∙ ap (λ text. text ++ f (a + n)) first
    ∙ append_assoc t0 (flat_map f (range_with_len a n)) (f (a + n))
    ∙ sym (ap (λ text. t0 ++ text) whole)

-- one more of the numbers from 1 on
pub range_more : (n : ℕ) (xs ys : List ℕ) → xs ≡ range_with_len 1 n → ys ≡ xs ++ (n + 1) ∷ []
    → ys ≡ range_with_len 1 (n + 1)
range_more n xs ys are next =
    let more : suc n ≡ n + 1 = omega arith in
    let last : n + 1 ≡ 1 + n = omega arith in
    next ∙ ap (λ text. text ++ (n + 1) ∷ []) are
    ∙ ap (λ m. range_with_len 1 n ++ m ∷ []) last
    ∙ sym (range_push 1 n)
    ∙ ap (range_with_len 1) more

-- of a route a step is written, and more are left
pub more_steps : (plan : Plan) (k i machine : ℕ) (rest more t0 t1 all : List ℕ)
    → rest ≡ machine ∷ more → t1 ≡ t0 ++ one_step plan k i machine
    → t0 ++ steps plan k i rest ≡ all → t1 ++ steps plan k (i + 1) more ≡ all
unfolding steps
more_steps plan k i machine rest more t0 t1 all is written whole =
    ap (λ text. text ++ steps plan k (i + 1) more) written
    ∙ append_assoc t0 (one_step plan k i machine) (steps plan k (i + 1) more)
    ∙ ap (λ machines. t0 ++ steps plan k i machines) (sym is)
    ∙ whole

pub no_steps : (plan : Plan) (k i : ℕ) (rest t0 all : List ℕ) → rest ≡ []
    → t0 ++ steps plan k i rest ≡ all → t0 ≡ all
unfolding steps
no_steps plan k i rest t0 all is whole =
    sym (append-nil t0) ∙ ap (λ machines. t0 ++ steps plan k i machines) (sym is) ∙ whole

-- one place more of a route is drawn
pub route_more : (plan : Plan) (k place ahead : ℕ) (xs ys : List ℕ) → xs ≡ route_after plan k place
    → ahead ≡ swapped plan k (place + 1) (plan.machines - place)
    → ys ≡ swap xs place (place + ahead) → ys ≡ route_after plan k (place + 1)
unfolding route_after
route_more plan k place ahead xs ys are drawn next =
    let more : suc place ≡ place + 1 = omega arith in
    next ∙ ap (λ l. swap l place (place + ahead)) are
    ∙ ap (λ a. swap (route_after plan k place) place (place + a)) drawn
    ∙ ap (route_after plan k) more
