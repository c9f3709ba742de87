-- The canonical text of a problem means that problem.
pub mod EachList
use Rattle.std.proofs.Common.{◌≡◌, ℕ, ◌+◌, ◌-◌, ◌<◌, ◌≤◌, ◌^◌, ◌&&◌, ◌||◌, Bool, true, false, not, cond, eqb, ltb, leb, List, [], ◌∷◌, ◌++◌, length, get_or, take, drop, Option, Some, None, Result, Ok, Err, refl, sym, ap, subst, ◌∙◌, append_assoc, arith, codes}
use Rattle.std.specs.List.{list_all}
use Rattle.std.specs.Option.{option_map}
use Rattle.std.specs.Char.{is_ascii_digit, digit_value}
use Rattle.std.specs.Fmt.{decimal}
use Rattle.std.specs.Str.{bytes_eq}
use Rattle.std.specs.Str.Parse.{AllDigits, digits_value}
use Rattle.std.proofs.lemmas.Bool.{lt-ltb, le-leb, ne_eqb, and_from, and_parts, and_left, or_left, or_right}
use Rattle.std.proofs.lemmas.Str.Parse.{digit_from_value}
use Rattle.std.proofs.lemmas.Fmt.{decimal_is_IsNumeral, first_decimal}
use Rattle.tf_words.specs.Number.{plain, is_numeral}
use Rattle.tf_words.proofs.DigitsRead.{digits_only}
use Rattle.tf_model.specs.declared.problem.Env.{Env}
use Rattle.tf_model.specs.declared.problem.Env.TheVariants.{Single, Parallel, Uniform, Unrelated, Flow, OpenShop, JobShop}
use Rattle.tf_model.specs.declared.problem.Goal.{Goal}
use Rattle.tf_model.specs.declared.problem.Goal.TheVariants.{Cmax, Lmax, Hmax, SumC, SumWC, SumT, SumWT, SumU, SumWU}
use Rattle.tf_model.specs.declared.problem.Problem.{Problem}
use Rattle.tf_notation.specs.Spelling.{meaning, goals, environment, count_of, no_conditions}
use Rattle.tf_notation.specs.Tokens.{Token, tokens_from, is_word_byte, lengthen}
use Rattle.tf_model.specs.Outcome.{◌>>=◌}
use Rattle.tf_notation.specs.Reading.{notation, expect, bar, conditions_at, ended, problem_of}
use Rattle.tf_notation.specs.Canonical.{environment_word, count_text, goal_word, listed_text, all_conditions, canonical}
use Rattle.tf_notation.proofs.Runs.{lengthened, other, word_byte_no_gap}
use Rattle.tf_notation.proofs.Again.EachList.{conditions_read}

-- a count that a text can give
abbrev pub IsCounted : Env → Option ℕ → Type 0
IsCounted env None = Unit {0}
IsCounted Single (Some n) = ⊥
IsCounted env (Some n) = (0 < n) × (n ≤ 1000)

-- ---- digits

digit_letter : (d : ℕ) → 48 ≤ d → d ≤ 57 → is_word_byte d ≡ true
digit_letter d low high =
    or_left _ _ (or_left _ _ (or_left _ _ (and_from _ _ (le-leb 48 d low) (le-leb d 57 high))))

letters_only : (ds : List ℕ) → AllDigits 10 ds → list_all is_word_byte ds ≡ true
letters_only [] h = refl
letters_only (d ∷ ds) h =
    let r = digit_from_value d h.0 in
    and_from _ _ (digit_letter d r.0 r.1) (letters_only ds h.1)

not_empty : (ds : List ℕ) → 0 < length ds → bytes_eq ds [] ≡ false
not_empty [] some = absurd (omega arith)
not_empty (d ∷ ds) some = refl

not_m : (ds : List ℕ) → 0 < length ds → AllDigits 10 ds → bytes_eq ds (codes "m") ≡ false
not_m [] some h = absurd (omega arith)
not_m (d ∷ ds) some h =
    let r = digit_from_value d h.0 in
    and_left _ _ (ne_eqb d 109 (λ e. omega (arith, r.1, e)))

plain-decimal : (n : ℕ) → 0 < n → n ≤ 1000 → plain 1000 (decimal n) ≡ Some n
unfolding plain
plain-decimal n some small =
    let d = decimal_is_IsNumeral n (omega arith) in
    let len : ltb 0 (length (decimal n)) ≡ true = lt-ltb _ _ d.0.0 in
    let all : list_all is_ascii_digit (decimal n) ≡ true = digits_only (decimal n) d.0.1 in
    let first : eqb (get_or (decimal n) 0 0) 48 ≡ false =
    ne_eqb _ _ (λ e. omega (arith, e, first_decimal n some (omega arith))) in
    let value : digits_value 10 (decimal n) ≡ n = d.1 in
    let few : leb n 1000 ≡ true = le-leb _ _ small in
    rw (len, all, first, value, few) refl

counts : (n : ℕ) → 0 < n → n ≤ 1000 → count_of (decimal n) ≡ Some (Some n)
counts n some small =
    let d = decimal_is_IsNumeral n (omega arith) in
    let a : bytes_eq (decimal n) [] ≡ false = not_empty (decimal n) d.0.0 in
    let b : bytes_eq (decimal n) (codes "m") ≡ false = not_m (decimal n) d.0.0 d.0.1 in
    let c : plain 1000 (decimal n) ≡ Some n = plain-decimal n some small in
    rw (a, b, c) refl

-- ---- the environment

word_then : (o c : ℕ) (ds tail : List ℕ) → is_word_byte c ≡ true → list_all is_word_byte ds ≡ true
    → (s : ℕ) × (tokens_from o (c ∷ (ds ++ (124 ∷ tail))) ≡ record { start = o; bytes = c ∷ ds }
    ∷ tokens_from s (124 ∷ tail))
word_then o c [] tail letter all =
    (o + 1, other o c (124 ∷ tail) (word_byte_no_gap c letter) (rw letter refl))
word_then o c (d ∷ ds) tail letter all =
    let both = and_parts _ _ all in
    let rest = word_then (o + 1) d ds tail both.0 both.1 in
    (rest.0, lengthened o c (d ∷ (ds ++ (124 ∷ tail))) letter both.0 ∙ ap (lengthen o c) rest.1)

abbrev EnvironmentRead : Env → Option ℕ → Type 0
EnvironmentRead env count = (end o : ℕ) (tail : List ℕ) → (s : ℕ)
    × (expect environment end
    (tokens_from o ((environment_word env ++ count_text env count) ++ (124 ∷ tail)))
    ≡ Ok ((env, count), record { start = s; bytes = 124 ∷ [] } ∷ tokens_from (s + 1) tail))

expected : (o end c : ℕ) (ds tail : List ℕ) (env : Env) (count : Option ℕ) → is_word_byte c ≡ true
    → list_all is_word_byte ds ≡ true → environment (c ∷ ds) ≡ Some (env, count)
    → (s : ℕ) × (expect environment end (tokens_from o (c ∷ (ds ++ (124 ∷ tail))))
    ≡ Ok ((env, count), record { start = s; bytes = 124 ∷ [] } ∷ tokens_from (s + 1) tail))
unfolding expect tokens_from
expected o end c ds tail env count letter all h =
    let w = word_then o c ds tail letter all in
    (w.0, ap (expect environment end) w.1 ∙ rw h refl)

all_letters : (n : ℕ) → n ≤ 1000 → list_all is_word_byte (decimal n) ≡ true
all_letters n small = letters_only (decimal n) (decimal_is_IsNumeral n (omega arith)).0.1

abbrev paired : Env → Option ℕ → Env × Option ℕ
paired env count = (env, count)

with_count : (env : Env) (n : ℕ) → 0 < n → n ≤ 1000
    → option_map (paired env) (count_of (decimal n)) ≡ Some (paired env (Some n))
with_count env n some small = ap (option_map (paired env)) (counts n some small)

environment_read : (env : Env) (count : Option ℕ) → IsCounted env count → EnvironmentRead env count
environment_read Single None h end o tail = expected o end 49 [] tail Single None refl refl refl
environment_read Single (Some n) h end o tail = absurd h
environment_read Parallel None h end o tail = expected o end 80 [] tail Parallel None refl refl refl
environment_read Uniform None h end o tail = expected o end 81 [] tail Uniform None refl refl refl
environment_read Unrelated None h end o tail =
    expected o end 82 [] tail Unrelated None refl refl refl
environment_read Flow None h end o tail = expected o end 70 [] tail Flow None refl refl refl
environment_read OpenShop None h end o tail = expected o end 79 [] tail OpenShop None refl refl refl
environment_read JobShop None h end o tail = expected o end 74 [] tail JobShop None refl refl refl
environment_read Parallel (Some n) h end o tail =
    expected o end 80 (decimal n) tail Parallel (Some n) refl (all_letters n h.1)
    (with_count Parallel n h.0 h.1)
environment_read Uniform (Some n) h end o tail =
    expected o end 81 (decimal n) tail Uniform (Some n) refl (all_letters n h.1)
    (with_count Uniform n h.0 h.1)
environment_read Unrelated (Some n) h end o tail =
    expected o end 82 (decimal n) tail Unrelated (Some n) refl (all_letters n h.1)
    (with_count Unrelated n h.0 h.1)
environment_read Flow (Some n) h end o tail =
    expected o end 70 (decimal n) tail Flow (Some n) refl (all_letters n h.1)
    (with_count Flow n h.0 h.1)
environment_read OpenShop (Some n) h end o tail =
    expected o end 79 (decimal n) tail OpenShop (Some n) refl (all_letters n h.1)
    (with_count OpenShop n h.0 h.1)
environment_read JobShop (Some n) h end o tail =
    expected o end 74 (decimal n) tail JobShop (Some n) refl (all_letters n h.1)
    (with_count JobShop n h.0 h.1)

-- ---- the objective, and the whole

goal_read : (goal : Goal) (end o : ℕ)
    → expect (meaning goals) end (tokens_from o (goal_word goal)) ≡ Ok (goal, [])
unfolding expect tokens_from
goal_read Cmax end o = refl
goal_read Lmax end o = refl
goal_read Hmax end o = refl
goal_read SumC end o = refl
goal_read SumWC end o = refl
goal_read SumT end o = refl
goal_read SumWT end o = refl
goal_read SumU end o = refl
goal_read SumWU end o = refl

abbrev body : ℕ → List Token → Result Problem ℕ
body end ts = do
  (env, rest) ← expect environment end ts
  (_, rest) ← expect (meaning bar) end rest
  (named, rest) ← conditions_at end rest
  (goal, rest) ← expect (meaning goals) end rest
  ended (problem_of env named goal) rest

parts : (end s : ℕ) (env : Env × Option ℕ) (named : Problem) (goal : Goal)
    (ts us vs : List Token)
    → expect environment end ts ≡ Ok (env, record { start = s; bytes = 124 ∷ [] } ∷ us)
    → conditions_at end us ≡ Ok (named, vs) → expect (meaning goals) end vs ≡ Ok (goal, [])
    → body end ts ≡ Ok (problem_of env named goal)
unfolding expect
parts end s env named goal ts us vs h k l = rw h (rw k (rw l refl))

regroup : (ac list goal : List ℕ)
    → (((ac ++ (124 ∷ [])) ++ list) ++ (124 ∷ [])) ++ goal ≡ ac ++ (124 ∷ (list ++ (124 ∷ goal)))
regroup ac list goal =
    append_assoc ((ac ++ (124 ∷ [])) ++ list) (124 ∷ []) goal
    ∙ append_assoc (ac ++ (124 ∷ [])) list (124 ∷ goal)
    ∙ append_assoc ac (124 ∷ []) (list ++ (124 ∷ goal))

pub again : (p : Problem) → IsCounted p.env p.count → notation (canonical p) ≡ Ok p
unfolding notation canonical
again p h =
    let ac : List ℕ = environment_word p.env ++ count_text p.env p.count in
    let list : List ℕ = listed_text p all_conditions in
    let end : ℕ = length (canonical p) in
    let grouped = regroup ac list (goal_word p.goal) in
    let e = environment_read p.env p.count h end 0 (list ++ (124 ∷ goal_word p.goal)) in
    let c = conditions_read p.release p.prec p.prmp p.prmu p.nwt p.block p.rcrc end (e.0 + 1)
    (goal_word p.goal) in
    let g = goal_read p.goal end c.0 in
    let named : Problem = record no_conditions {
      release = p.release;
      prec = p.prec;
      prmp = p.prmp;
      prmu = p.prmu;
      nwt = p.nwt;
      block = p.block;
      rcrc = p.rcrc;
    } in
    ap (λ (text : List ℕ). body end (tokens_from 0 text)) grouped
    ∙ parts end e.0 (p.env, p.count) named p.goal _ _ _ e.1 c.1 g
