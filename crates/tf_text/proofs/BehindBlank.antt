-- A notation behind a blank means what it means: reading sees the tokens' bytes, and their places
-- in faults alone.
use Rattle.std.proofs.Common.{◌≡◌, ℕ, ◌+◌, ◌&&◌, Bool, true, false, List, [], ◌∷◌, length, map, codes, Option, Some, None, Result, Ok, Err, cond, refl, sym, ap, ◌∙◌, inl, inr}
use Rattle.std.specs.Option.{option_map_or}
use Rattle.std.proofs.lemmas.Bool.{cases_Bool}
use Rattle.std.specs.Str.{bytes_eq}
use Rattle.tf_model.specs.declared.problem.Env.{Env}
use Rattle.tf_model.specs.declared.problem.Problem.{Problem}
use Rattle.tf_notation.specs.Spelling.{meaning, environment, goals, dividers, no_conditions, adds}
use Rattle.tf_notation.specs.Tokens.{Token, tokens_from, is_gap, is_word_byte, begins_word, lengthen}
use Rattle.tf_model.proofs.Outcomes.{bind_ok}
use Rattle.tf_model.specs.Outcome.{◌>>=◌}
use Rattle.tf_notation.specs.Reading.{notation, expect, listed, behind_condition, conditions_at, ended, problem_of, bar}

-- the same bytes, wherever they stand
abbrev Same : List Token → List Token → Type 0
Same ts us = map (λ t. t.bytes) ts ≡ map (λ t. t.bytes) us

same_lengthen : (m n b : ℕ) (ts us : List Token) → Same ts us
    → Same (lengthen m b ts) (lengthen n b us)
same_lengthen m n b [] [] h = refl
same_lengthen m n b [] (u ∷ us) h = cc
same_lengthen m n b (t ∷ ts) [] h = cc
same_lengthen m n b (t ∷ ts) (u ∷ us) h = cc

same_tokens : (m n : ℕ) (text : List ℕ) → Same (tokens_from m text) (tokens_from n text)
unfolding tokens_from
same_tokens m n [] = refl
same_tokens m n (b ∷ bs) = elim (cases_Bool (is_gap b)) [
  | inl gap ↦ rw gap (same_tokens (m + 1) (n + 1) bs)
  | inr dark ↦ elim (cases_Bool (is_word_byte b && begins_word bs)) [
    | inl longer ↦ rw (dark, longer) (same_lengthen m n b _ _ (same_tokens (m + 1) (n + 1) bs))
    | inr one ↦ rw (dark, one) (ap (λ more. (b ∷ []) ∷ more) (same_tokens (m + 1) (n + 1) bs))
  ]
]

-- the second reading gives what the first gave, and what is left has the same bytes
abbrev Agrees : {A : Type 0} → A → List Token → Result (A × List Token) ℕ → Type 0
Agrees x ts read = (us : List Token) × (read ≡ Ok (x, us)) × Same ts us

abbrev done : {A : Type 0} → A → List Token → Result (A × List Token) ℕ
done x ts = Ok (x, ts)

read_pair : {A : Type 0} (a c : A) (b d : List Token) → done a b ≡ done c d → (a ≡ c) × (b ≡ d)
read_pair {A} a c b d h =
    let left : A × List Token = (a, b) in
    let right : A × List Token = (c, d) in
    let pair : left ≡ right = cc in
    (ap (λ (q : A × List Token). q.0) pair, ap (λ (q : A × List Token). q.1) pair)

abbrev found : {A : Type 0} → Option A → List Token → ℕ → Result (A × List Token) ℕ
found o ts fault = option_map_or (λ y. Ok (y, ts)) o (Err fault)

agreed : {A : Type 0} (y x : A) (ts us rest : List Token) → Same ts us → done y ts ≡ done x rest
    → Agrees x rest (Ok (y, us))
agreed {A} y x ts us rest same h =
    let parts = read_pair y x ts rest h in
    (us, ap (λ (z : A). Ok (z, us)) parts.0, sym (ap (map (λ t. t.bytes)) parts.1) ∙ same)

expect_one : {A : Type 0} (o : Option A) (ts us rest : List Token) (m n : ℕ) (x : A) → Same ts us
    → found o ts m ≡ Ok (x, rest) → Agrees x rest (found o us n)
expect_one None ts us rest m n x same h = absurd cc
expect_one (Some y) ts us rest m n x same h = agreed y x ts us rest same h

expect_agrees : {A : Type 0} (means : List ℕ → Option A) (m n : ℕ) (ts us rest : List Token) (x : A)
    → Same ts us → expect means m ts ≡ Ok (x, rest) → Agrees x rest (expect means n us)
unfolding expect
expect_agrees means m n [] us rest x same h = absurd cc
expect_agrees means m n (t ∷ ts) [] rest x same h = absurd cc
expect_agrees means m n (t ∷ ts) (u ∷ us) rest x same h =
    let bytes : t.bytes ≡ u.bytes = cc in
    let tails : Same ts us = cc in
    expect_one (means u.bytes) ts us rest t.start u.start x tails
    (sym (ap (λ b. found (means b) ts t.start) bytes) ∙ h)

listed_named : (o : Option Problem) (ts us rest : List Token) (m n s e : ℕ) (x : Problem)
    → ((more : Problem) → behind_condition m more ts ≡ Ok (x, rest)
    → Agrees x rest (behind_condition n more us))
    → option_map_or (λ more. behind_condition m more ts) o (Err s) ≡ Ok (x, rest)
    → Agrees x rest (option_map_or (λ more. behind_condition n more us) o (Err e))
listed_named None ts us rest m n s e x step h = absurd cc
listed_named (Some more) ts us rest m n s e x step h = step more h

listed_divided : (o : Option Bool) (named : Problem) (ts us rest : List Token) (m n s e : ℕ)
    (x : Problem)
    → Same ts us → (listed m named ts ≡ Ok (x, rest) → Agrees x rest (listed n named us))
    → option_map_or (λ another. cond another (listed m named ts) (Ok (named, ts))) o (Err s)
    ≡ Ok (x, rest)
    → Agrees x rest
    (option_map_or (λ another. cond another (listed n named us) (Ok (named, us))) o (Err e))
listed_divided None named ts us rest m n s e x same step h = absurd cc
listed_divided (Some true) named ts us rest m n s e x same step h = step h
listed_divided (Some false) named ts us rest m n s e x same step h =
    agreed named x ts us rest same h

mutual
  unfolding listed

  listed_agrees : (m n : ℕ) (named : Problem) (ts us rest : List Token) (x : Problem)
      → Same ts us → listed m named ts ≡ Ok (x, rest) → Agrees x rest (listed n named us)
  listed_agrees m n named [] us rest x same h = absurd cc
  listed_agrees m n named (t ∷ ts) [] rest x same h = absurd cc
  listed_agrees m n named (t ∷ ts) (u ∷ us) rest x same h =
      let bytes : t.bytes ≡ u.bytes = cc in
      let tails : Same ts us = cc in
      listed_named (adds named u.bytes) ts us rest m n t.start u.start x
      (λ more g. behind_agrees m n more ts us rest x tails g)
      (sym (ap (λ b. option_map_or (λ more. behind_condition m more ts) (adds named b)
      (Err t.start)) bytes) ∙ h)

  behind_agrees : (m n : ℕ) (named : Problem) (ts us rest : List Token) (x : Problem)
      → Same ts us → behind_condition m named ts ≡ Ok (x, rest)
      → Agrees x rest (behind_condition n named us)
  behind_agrees m n named [] us rest x same h = absurd cc
  behind_agrees m n named (t ∷ ts) [] rest x same h = absurd cc
  behind_agrees m n named (t ∷ ts) (u ∷ us) rest x same h =
      let bytes : t.bytes ≡ u.bytes = cc in
      let tails : Same ts us = cc in
      listed_divided (meaning dividers u.bytes) named ts us rest m n t.start u.start x tails
      (λ g. listed_agrees m n named ts us rest x tails g)
      (sym (ap (λ b. option_map_or (λ another. cond another (listed m named ts) (Ok (named, ts)))
      (meaning dividers b) (Err t.start)) bytes) ∙ h)

conditions_agree : (m n : ℕ) (ts us rest : List Token) (x : Problem) → Same ts us
    → conditions_at m ts ≡ Ok (x, rest) → Agrees x rest (conditions_at n us)
unfolding conditions_at
conditions_agree m n [] us rest x same h = absurd cc
conditions_agree m n (t ∷ ts) [] rest x same h = absurd cc
conditions_agree m n (t ∷ ts) (u ∷ us) rest x same h =
    let bytes : t.bytes ≡ u.bytes = cc in
    let tails : Same ts us = cc in
    let here : cond (bytes_eq u.bytes (codes "|")) (Ok (no_conditions, ts))
    (listed m no_conditions (t ∷ ts)) ≡ Ok (x, rest) =
    sym (ap (λ b. cond (bytes_eq b (codes "|")) (Ok (no_conditions, ts))
    (listed m no_conditions (t ∷ ts))) bytes) ∙ h in
    conditions_by (bytes_eq u.bytes (codes "|")) t u ts us rest m n x same tails here
  where
    conditions_by : (b : Bool) (t u : Token) (ts us rest : List Token) (m n : ℕ) (x : Problem)
        → Same (t ∷ ts) (u ∷ us) → Same ts us
        → cond b (Ok (no_conditions, ts)) (listed m no_conditions (t ∷ ts)) ≡ Ok (x, rest)
        → Agrees x rest (cond b (Ok (no_conditions, us)) (listed n no_conditions (u ∷ us)))
    conditions_by true t u ts us rest m n x same tails h = agreed no_conditions x ts us rest tails h
    conditions_by false t u ts us rest m n x same tails h =
        listed_agrees m n no_conditions (t ∷ ts) (u ∷ us) rest x same h

ended_agrees : (x y : Problem) (ts us : List Token) → Same ts us → ended x ts ≡ Ok y
    → ended x us ≡ Ok y
ended_agrees x y [] [] same h = h
ended_agrees x y [] (u ∷ us) same h = cc
ended_agrees x y (t ∷ ts) us same h = cc

one_blank : (text : List ℕ) → tokens_from 0 (32 ∷ text) ≡ tokens_from 1 text
unfolding tokens_from
one_blank text = refl

abbrev after_bar : ℕ → Env × Option ℕ → List Token → Result Problem ℕ
after_bar end env ts = do
  (named, rest) ← conditions_at end ts
  (goal, rest) ← expect (meaning goals) end rest
  ended (problem_of env named goal) rest

abbrev body : ℕ → List Token → Result Problem ℕ
body end ts = do
  (env, rest) ← expect environment end ts
  (_, rest) ← expect (meaning bar) end rest
  after_bar end env rest

body_agrees : (m n : ℕ) (ts us : List Token) (p : Problem) → Same ts us → body m ts ≡ Ok p
    → body n us ≡ Ok p
body_agrees m n ts us p same h =
    let a = bind_ok (expect environment m ts) _ p h in
    let a' = expect_agrees environment m n ts us a.0.1 a.0.0 same a.1 in
    let b = bind_ok (expect (meaning bar) m a.0.1) _ p a.2 in
    let b' = expect_agrees (meaning bar) m n a.0.1 a'.0 b.0.1 b.0.0 a'.2 b.1 in
    let c = bind_ok (conditions_at m b.0.1) _ p b.2 in
    let c' = conditions_agree m n b.0.1 b'.0 c.0.1 c.0.0 b'.2 c.1 in
    let d = bind_ok (expect (meaning goals) m c.0.1) _ p c.2 in
    let d' = expect_agrees (meaning goals) m n c.0.1 c'.0 d.0.1 d.0.0 c'.2 d.1 in
    let e = ended_agrees (problem_of a.0.0 c.0.0 d.0.0) p d.0.1 d'.0 d'.2 d.2 in
    rw (a'.1, b'.1, c'.1, d'.1) e

pub behind_blank : (text : List ℕ) (p : Problem) → notation text ≡ Ok p
    → notation (32 ∷ text) ≡ Ok p
unfolding notation
behind_blank text p h =
    ap (body (length (32 ∷ text))) (one_blank text)
    ∙ body_agrees (length text) (length (32 ∷ text)) (tokens_from 0 text) (tokens_from 1 text) p
    (same_tokens 0 1 text) h
