-- Pieces in another order draw the same timetable, and a timetable that has the drawing's cells is
-- the drawing.
use Rattle.std.proofs.Common.{◌≡◌, ℕ, zero, suc, ◌+◌, ◌<◌, ◌≤◌, Bool, true, false, cond, List, [], ◌∷◌, length, get_or, map, refl, sym, ap, ◌∙◌, arith, inl, inr}
use Rattle.std.specs.List.{All, range_with_len}
use Rattle.std.specs.List.Sorted.{IsPermutation}
use Rattle.std.proofs.lemmas.List.Sorted.{IsPermutation-sym, All-permutation}
use Rattle.std.proofs.lemmas.List.{get_or_default}
use Rattle.std.proofs.lemmas.List.Elements.{All-tail}
use Rattle.std.proofs.lemmas.Bool.{cases_lt}
use Rattle.tf_schedule.specs.declared.piece.Piece.{Piece}
use Rattle.tf_schedule.specs.Piece.{machine_of, as_time, covers}
use Rattle.tf_schedule.specs.Claims.{claims}
use Rattle.tf_schedule.specs.Schedule.{NoneTwice}
use Rattle.tf_model.specs.Timetable.{Timetable, cell}
use Rattle.tf_schedule.specs.Drawing.{job_at, greatest_stop, drawing, Draws, IsOnMachine}
use Rattle.tf_schedule.proofs.Scan.{claims_permutation}
use Rattle.tf_schedule.proofs.Lookup.{job_at_place}
use Rattle.tf_schedule.proofs.Cells.{cell_exactly}
use Rattle.tf_schedule.proofs.Drawing.{claims-cons, none_unclaimed, greatest_stop_le, length-drawing, width-drawing, cell-drawing}

same_job_step : (b : Bool) (j r job n more : ℕ) → more ≡ cond b 1 0 + n → 0 < more
    → (b ≡ true → j ≡ job) → (0 < n → r ≡ j) → cond b job r ≡ j
same_job_step true j r job n more e some here rest = sym (here refl)
same_job_step false j r job n more e some here rest = rest (omega arith)

-- each piece that claims the cell has job j, and one does
job_at_by : (ps : List Piece) (i t j : ℕ) → All (λ p. covers i t p ≡ true → j ≡ p.job) ps
    → 0 < claims ps i t → job_at ps i t ≡ j
job_at_by [] i t j all some = absurd (omega arith)
job_at_by (p ∷ ps) i t j all some =
    same_job_step (covers i t p) j (job_at ps i t) p.job (claims ps i t) (claims (p ∷ ps) i t)
    (claims-cons p ps i t) some (all 0 p (omega arith))
    (job_at_by ps i t j (All-tail (λ q. covers i t q ≡ true → j ≡ q.job) p ps all))

pub job_at_permutation : (ps qs : List Piece) (i t : ℕ) → NoneTwice ps → IsPermutation ps qs
    → job_at qs i t ≡ job_at ps i t
job_at_permutation ps qs i t once same = elim (cases_lt 0 (claims ps i t)) [
  | inl some ↦ job_at_by qs i t (job_at ps i t)
      (All-permutation (λ p. covers i t p ≡ true → job_at ps i t ≡ p.job) ps qs same
      (λ k d h c. job_at_place ps k d i t h c (once i t)))
      (omega (arith, claims_permutation machine_of ps qs i t same))
  | inr none ↦ none_unclaimed qs i t (omega (arith, claims_permutation machine_of ps qs i t same))
      ∙ sym (none_unclaimed ps i t (omega arith))
]

stop_within : (ps : List Piece) → All (λ p. as_time p.stop ≤ greatest_stop ps) ps
stop_within [] k d h = absurd (omega arith)
stop_within (p ∷ ps) zero d h = omega arith
stop_within (p ∷ ps) (suc k) d h = let le = stop_within ps k d (omega arith) in omega arith

greatest_stop_at_most : (ps qs : List Piece) → IsPermutation ps qs
    → greatest_stop qs ≤ greatest_stop ps
greatest_stop_at_most ps qs same =
    greatest_stop_le qs (greatest_stop ps)
    (All-permutation (λ p. as_time p.stop ≤ greatest_stop ps) ps qs same (stop_within ps))

pub greatest_stop_permutation : (ps qs : List Piece) → IsPermutation ps qs
    → greatest_stop qs ≡ greatest_stop ps
greatest_stop_permutation ps qs same = let a = greatest_stop_at_most ps qs same in let b =
    greatest_stop_at_most qs ps (IsPermutation-sym ps qs same) in omega arith

pub map_same : {X : Type 0} (f g : ℕ → X) → ((x : ℕ) → f x ≡ g x) → (xs : List ℕ)
    → map f xs ≡ map g xs
map_same f g h [] = refl
map_same f g h (x ∷ xs) = ap (λ y. y ∷ map f xs) (h x) ∙ ap (λ ys. g x ∷ ys) (map_same f g h xs)

-- the order of the pieces does not matter
pub drawing_permutation : (m : ℕ) (ps qs : List Piece) → NoneTwice ps → IsPermutation ps qs
    → drawing m qs ≡ drawing m ps
unfolding drawing
drawing_permutation m ps qs once same =
    map_same (λ t. map (λ i. job_at qs i t) (range_with_len 1 m))
    (λ t. map (λ i. job_at ps i t) (range_with_len 1 m))
    (λ t. map_same (λ i. job_at qs i t) (λ i. job_at ps i t)
    (λ i. job_at_permutation ps qs i t once same) (range_with_len 1 m))
    (range_with_len 0 (greatest_stop qs))
    ∙ ap (λ n. map (λ t. map (λ i. job_at ps i t) (range_with_len 1 m)) (range_with_len 0 n))
    (greatest_stop_permutation ps qs same)

-- the pieces draw their drawing, and no other timetable
pub draws_drawing : (m : ℕ) (ps : List Piece) → NoneTwice ps → All (λ p. 0 < p.job) ps
    → All (IsOnMachine m) ps → Draws m ps (drawing m ps)
draws_drawing m ps once numbered on =
    record {
      none_twice = once;
      numbered = numbered;
      on_machines = on;
      ends = length-drawing m ps;
      width = width-drawing m ps;
      cells = λ i t j h some. cell_exactly m ps i t j once h some;
    }

-- a list is made of a function, from any number on
made_of : {X : Type 0} (xs : List X) (f : ℕ → X) (a n : ℕ) → length xs ≡ n
    → ((k : ℕ) (d : X) → k < n → get_or xs k d ≡ f (a + k)) → xs ≡ map f (range_with_len a n)
made_of [] f a zero h at = refl
made_of [] f a (suc n) h at = absurd (omega arith)
made_of (x ∷ xs) f a zero h at = absurd (omega arith)
made_of {X} (x ∷ xs) f a (suc n) h at =
    let first : x ≡ f a = at 0 x (omega arith) ∙ ap f (omega arith) in
    let rest : xs ≡ map f (range_with_len (a + 1) n) =
    made_of xs f (a + 1) n (omega arith)
    (λ k d lt. at (suc k) d (omega arith) ∙ ap f (omega arith)) in
    ap (λ (y : X). y ∷ xs) first ∙ ap (λ (ys : List X). f a ∷ ys) rest

-- two numbers that are the same positive numbers
same_by_positive : (a b : ℕ) → ((j : ℕ) → 0 < j → a ≡ j → b ≡ j) → ((j : ℕ) → 0 < j → b ≡ j → a ≡ j)
    → a ≡ b
same_by_positive zero zero f g = refl
same_by_positive zero (suc b) f g = g (suc b) (omega arith) refl
same_by_positive (suc a) b f g = sym (f (suc a) (omega arith) refl)

drawn_cell : (m : ℕ) (ps : List Piece) (rows : Timetable) (i t : ℕ) → Draws m ps rows → i < m
    → cell rows t i ≡ job_at ps (i + 1) t
drawn_cell m ps rows i t draws on =
    same_by_positive (cell rows t i) (cell (drawing m ps) t i)
    (λ j some e. (cell_exactly m ps i t j draws.none_twice on some).1
    ((draws.cells i t j on some).0 e))
    (λ j some e. (draws.cells i t j on some).1
    ((cell_exactly m ps i t j draws.none_twice on some).0 e))
    ∙ cell-drawing m ps t i on

pub drawing_only : (m : ℕ) (ps : List Piece) (rows : Timetable) → Draws m ps rows
    → rows ≡ drawing m ps
unfolding drawing
drawing_only m ps rows draws =
    made_of rows (λ t. map (λ i. job_at ps i t) (range_with_len 1 m)) 0 (greatest_stop ps)
    draws.ends (λ t d lt.
    let default : get_or rows t d ≡ get_or rows t [] =
    get_or_default rows t d [] (omega (arith, draws.ends)) in
    let wide : length (get_or rows t []) ≡ m = draws.width t [] (omega (arith, draws.ends)) in
    let row : get_or rows t [] ≡ map (λ i. job_at ps i t) (range_with_len 1 m) =
    made_of (get_or rows t []) (λ i. job_at ps i t) 1 m wide
    (λ i e h. get_or_default (get_or rows t []) i e 0 (omega arith)
    ∙ drawn_cell m ps rows i t draws h ∙ ap (λ k. job_at ps k t) (omega arith)) in
    let same : 0 + t ≡ t = omega arith in
    default ∙ row ∙ ap (λ (u : ℕ). map (λ i. job_at ps i u) (range_with_len 1 m)) (sym same))
