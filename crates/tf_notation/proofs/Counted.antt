-- The count of a problem that is read is one that a text can give.
use Rattle.std.proofs.Common.{◌≡◌, ℕ, ◌+◌, ◌-◌, ◌<◌, ◌≤◌, ◌&&◌, not, eqb, leb, List, [], ◌∷◌, length, get_or, take, drop, Option, Some, None, Result, Ok, Err, refl, ap, subst, ◌∙◌, arith, codes, inl, inr}
use Rattle.std.specs.Prelude.{IfOk}
use Rattle.std.specs.Option.{option_map, option_map_or, option_and_then}
use Rattle.std.specs.Str.{bytes_eq}
use Rattle.std.specs.Str.Parse.{digits_value}
use Rattle.std.proofs.lemmas.Bool.{cases_Bool, and_parts, leb-true, ltb-true, eqb-false, not-true}
use Rattle.std.proofs.lemmas.Str.Parse.{digits_value-take-le}
use Rattle.tf_words.specs.Number.{plain, is_numeral}
use Rattle.tf_model.proofs.Outcomes.{bind_ok}
use Rattle.tf_words.proofs.DigitsRead.{one_more}
use Rattle.tf_model.specs.declared.problem.Env.{Env}
use Rattle.tf_model.specs.declared.problem.Env.TheVariants.{Single, Parallel, Uniform, Unrelated, Flow, OpenShop, JobShop}
use Rattle.tf_model.specs.declared.problem.Problem.{Problem}
use Rattle.tf_notation.specs.Spelling.{meaning, environments, goals, environment, count_of}
use Rattle.tf_notation.specs.Tokens.{Token, tokens_from}
use Rattle.tf_model.specs.Outcome.{◌>>=◌}
use Rattle.tf_notation.specs.Reading.{IsRead, notation, expect, bar, conditions_at, ended, problem_of}
use Rattle.tf_notation.specs.Canonical.{canonical}
use Rattle.tf_notation.proofs.Again.{IsCounted, again}

-- a plain number is above 0
plain_range : (most n : ℕ) (word : List ℕ) → plain most word ≡ Some n → (0 < n) × (n ≤ most)
unfolding plain
plain_range most n word h =
    elim (cases_Bool
    ((is_numeral word && not (eqb (get_or word 0 0) 48)) && leb (digits_value 10 word) most)) [
      | inr e ↦ absurd (let k = rw e at h in cc)
      | inl e ↦
          let k = rw e at h in
          let v : digits_value 10 word ≡ n = cc in
          let outer = and_parts _ _ e in
          let inner = and_parts _ _ outer.0 in
          let digits = and_parts _ _ inner.0 in
          let some : 0 < length word = ltb-true _ _ digits.0 in
          let first = one_more word 0 digits.1 some in
          let le = digits_value-take-le 10 word 1 (omega arith) in
          let high : get_or word 0 0 ≡ 48 → ⊥ = eqb-false _ _ (not-true _ inner.1) in
          let one : digits_value 10 (take 1 word) ≡ 0 + (get_or word 0 0 - 48) = first.2 in
          (omega (arith, first.0, one, le, v, high), omega (arith, leb-true _ _ outer.1, v))
    ]

not_single : (word : List ℕ) → meaning environments word ≡ Some Single → ⊥
not_single word h = elim (cases_Bool (bytes_eq word (codes "P"))) [
  | inl e ↦ let k = rw e at h in cc
  | inr e ↦ let k = rw e at h in elim (cases_Bool (bytes_eq word (codes "Q"))) [
    | inl e ↦ let m = rw e at k in cc
    | inr e ↦ let m = rw e at k in elim (cases_Bool (bytes_eq word (codes "R"))) [
      | inl e ↦ let n = rw e at m in cc
      | inr e ↦ let n = rw e at m in elim (cases_Bool (bytes_eq word (codes "F"))) [
        | inl e ↦ let o = rw e at n in cc
        | inr e ↦ let o = rw e at n in elim (cases_Bool (bytes_eq word (codes "O"))) [
          | inl e ↦ let q = rw e at o in cc
          | inr e ↦ let q = rw e at o in elim (cases_Bool (bytes_eq word (codes "J"))) [
            | inl e ↦ let r = rw e at q in cc
            | inr e ↦ let r = rw e at q in cc
          ]
        ]
      ]
    ]
  ]
]

counted_shop : (env : Env) (count : Option ℕ) (word : List ℕ) → meaning environments word ≡ Some env
    → ((n : ℕ) → count ≡ Some n → (0 < n) × (n ≤ 1000)) → IsCounted env count
counted_shop Single None word h range = tt
counted_shop Parallel None word h range = tt
counted_shop Uniform None word h range = tt
counted_shop Unrelated None word h range = tt
counted_shop Flow None word h range = tt
counted_shop OpenShop None word h range = tt
counted_shop JobShop None word h range = tt
counted_shop Single (Some n) word h range = not_single word h
counted_shop Parallel (Some n) word h range = range n refl
counted_shop Uniform (Some n) word h range = range n refl
counted_shop Unrelated (Some n) word h range = range n refl
counted_shop Flow (Some n) word h range = range n refl
counted_shop OpenShop (Some n) word h range = range n refl
counted_shop JobShop (Some n) word h range = range n refl

and_then_some : {A B : Type 0} (o : Option A) (f : A → Option B) (y : B)
    → option_and_then f o ≡ Some y → (x : A) × (o ≡ Some x) × (f x ≡ Some y)
and_then_some None f y e = absurd cc
and_then_some (Some x) f y e = (x, refl, e)

map_some : {A B : Type 0} (o : Option A) (f : A → B) (y : B) → option_map f o ≡ Some y
    → (x : A) × (o ≡ Some x) × (f x ≡ y)
map_some None f y e = absurd cc
map_some (Some x) f y e = (x, refl, cc)

count_range : (word : List ℕ) (count : Option ℕ) → count_of word ≡ Some count → (n : ℕ)
    → count ≡ Some n → (0 < n) × (n ≤ 1000)
count_range word count h n is = elim (cases_Bool (bytes_eq word [])) [
  | inl e ↦ absurd (let k = rw e at h in cc)
  | inr e ↦ let k = rw e at h in elim (cases_Bool (bytes_eq word (codes "m"))) [
    | inl e ↦ absurd (let m = rw e at k in cc)
    | inr e ↦ let m = rw e at k in
        let p = map_some (plain 1000 word) (λ (c : ℕ). Some c) count m in
        let same : p.0 ≡ n = (let t : Some p.0 ≡ Some n = p.2 ∙ is in cc) in
        subst (λ (c : ℕ). (0 < c) × (c ≤ 1000)) same (plain_range 1000 p.0 word p.1)
  ]
]

paired : Env → Option ℕ → Env × Option ℕ
paired env count = (env, count)

environment_counted : (word : List ℕ) (x : Env × Option ℕ) → environment word ≡ Some x
    → IsCounted x.0 x.1
unfolding paired
environment_counted word x h = elim (cases_Bool (bytes_eq word (codes "1"))) [
  | inl e ↦
      let k : Some (paired Single None) ≡ Some x = rw e at h in
      let same : paired Single None ≡ x = cc in
      subst (λ (y : Env × Option ℕ). IsCounted y.0 y.1) same tt
  | inr e ↦
      let k = rw e at h in
      let a = and_then_some (meaning environments (take 1 word))
      (λ (env : Env). option_map (paired env) (count_of (drop 1 word))) x k in
      let b = map_some (count_of (drop 1 word)) (paired a.0) x a.2 in
      subst (λ (y : Env × Option ℕ). IsCounted y.0 y.1) b.2
      (counted_shop a.0 b.0 (take 1 word) a.1 (count_range (drop 1 word) b.0 b.1))
]

abbrev pair_of : {A : Type 0} → A → List Token → A × List Token
pair_of y ts = (y, ts)

chosen : {A : Type 0} (o : Option A) (ts : List Token) (e : ℕ) (x : A × List Token)
    → option_map_or (λ y. Ok (y, ts)) o (Err e) ≡ Ok x → o ≡ Some x.0
chosen None ts e x h = absurd cc
chosen {A} (Some y) ts e x h = let same : pair_of y ts ≡ x = cc in
    ap (λ (z : A × List Token). Some z.0) same

expect_ok : {A : Type 0} (means : List ℕ → Option A) (end : ℕ) (ts : List Token)
    (x : A × List Token)
    → expect means end ts ≡ Ok x → (w : List ℕ) × (means w ≡ Some x.0)
unfolding expect
expect_ok means end [] x h = absurd cc
expect_ok {A} means end (t ∷ ts) x h = (t.bytes, chosen (means t.bytes) ts t.start x h)

ended_ok : {A : Type 0} (x y : A) (ts : List Token) → ended x ts ≡ Ok y → x ≡ y
ended_ok x y [] h = cc
ended_ok x y (t ∷ ts) h = absurd cc

pub is_counted : (text : List ℕ) (p : Problem) → notation text ≡ Ok p → IsCounted p.env p.count
unfolding notation
is_counted text p h =
    let end : ℕ = length text in
    let a = bind_ok (expect environment end (tokens_from 0 text))
    (λ env. expect (meaning bar) end env.1 >>= λ divided. conditions_at end divided.1
    >>= λ named. expect (meaning goals) end named.1
    >>= λ goal. ended (problem_of env.0 named.0 goal.0) goal.1) p h in
    let b = bind_ok (expect (meaning bar) end a.0.1)
    (λ divided. conditions_at end divided.1 >>= λ named. expect (meaning goals) end named.1
    >>= λ goal. ended (problem_of a.0.0 named.0 goal.0) goal.1) p a.2 in
    let c = bind_ok (conditions_at end b.0.1)
    (λ named. expect (meaning goals) end named.1
    >>= λ goal. ended (problem_of a.0.0 named.0 goal.0) goal.1) p b.2 in
    let d = bind_ok (expect (meaning goals) end c.0.1)
    (λ goal. ended (problem_of a.0.0 c.0.0 goal.0) goal.1) p c.2 in
    let same : problem_of a.0.0 c.0.0 d.0.0 ≡ p =
    ended_ok (problem_of a.0.0 c.0.0 d.0.0) p d.0.1 d.2 in
    let w = expect_ok environment end (tokens_from 0 text) a.0 a.1 in
    subst (λ (q : Problem). IsCounted q.env q.count) {x = problem_of a.0.0 c.0.0 d.0.0} same
    (environment_counted w.0 a.0.0 w.1)

pub means_again : {S E : Type 0} (bytes : S → List ℕ) (r : Result S E) (p : Problem)
    → IfOk r (λ s. bytes s ≡ canonical p) → IfOk r (λ s. IsRead p → notation (bytes s) ≡ Ok p)
means_again bytes (Ok s) p h = λ read. ap notation h ∙ again p (is_counted read.0 p read.1)
means_again bytes (Err e) p h = tt
