-- The canonical notation of a problem is one word, and is found behind the word `problem`.
use Rattle.std.proofs.Common.{◌≡◌, ℕ, suc, zero, ◌-◌, ◌<◌, ◌≤◌, true, false, not, eqb, ltb, List, [], ◌∷◌, ◌++◌, length, map, get_or, codes, Option, Some, None, refl, subst, inl, inr, arith, length-append}
use Rattle.std.specs.List.{list_all, filter, join_with_byte}
use Rattle.std.specs.Fmt.{decimal}
use Rattle.std.proofs.lemmas.Bool.{cases_Bool, and_parts, lt-ltb, eqb-true}
use Rattle.tf_words.specs.Words.{is_white}
use Rattle.tf_model.specs.declared.problem.Env.{Env}
use Rattle.tf_model.specs.declared.problem.Env.TheVariants.{Single, Parallel, Uniform, Unrelated, Flow, OpenShop, JobShop}
use Rattle.tf_model.specs.declared.problem.Goal.{Goal}
use Rattle.tf_model.specs.declared.problem.Goal.TheVariants.{Cmax, Lmax, Hmax, SumC, SumWC, SumT, SumWT, SumU, SumWU}
use Rattle.tf_model.specs.declared.problem.Problem.{Problem}
use Rattle.tf_notation.specs.declared.spelling.Condition.{Condition}
use Rattle.tf_notation.specs.declared.spelling.Condition.TheVariants.{Release, Prec, Prmp, Prmu, Nwt, Block, Rcrc}
use Rattle.tf_notation.specs.Spelling.{has}
use Rattle.tf_notation.specs.Canonical.{environment_word, count_text, condition_word, goal_word, listed_text, all_conditions, canonical}
use Rattle.tf_notation.proofs.Again.{IsCounted}
use Rattle.tf_words.specs.LineParts.{after_word, without_return}
use Rattle.tf_text.proofs.WordLines.{IsWord, append_all}
use Rattle.tf_text.proofs.Numerals.{word-decimal}

-- no byte is white
abbrev IsDark : List ℕ → Type 0
IsDark text = list_all (λ b. not (is_white b)) text ≡ true

dark-append : (xs ys : List ℕ) → IsDark xs → IsDark ys → IsDark (xs ++ ys)
dark-append = append_all (λ b. not (is_white b))

dark_environment : (env : Env) → IsDark (environment_word env)
dark_environment Single = refl
dark_environment Parallel = refl
dark_environment Uniform = refl
dark_environment Unrelated = refl
dark_environment Flow = refl
dark_environment OpenShop = refl
dark_environment JobShop = refl

dark_decimal : (n : ℕ) → n ≤ 1000 → IsDark (decimal n)
dark_decimal n small = (word-decimal n (omega arith)).dark

dark_count : (env : Env) (count : Option ℕ) → IsCounted env count → IsDark (count_text env count)
dark_count Single count h = refl
dark_count Parallel None h = refl
dark_count Uniform None h = refl
dark_count Unrelated None h = refl
dark_count Flow None h = refl
dark_count OpenShop None h = refl
dark_count JobShop None h = refl
dark_count Parallel (Some n) h = dark_decimal n h.1
dark_count Uniform (Some n) h = dark_decimal n h.1
dark_count Unrelated (Some n) h = dark_decimal n h.1
dark_count Flow (Some n) h = dark_decimal n h.1
dark_count OpenShop (Some n) h = dark_decimal n h.1
dark_count JobShop (Some n) h = dark_decimal n h.1

dark_condition : (condition : Condition) → IsDark (condition_word condition)
dark_condition Release = refl
dark_condition Prec = refl
dark_condition Prmp = refl
dark_condition Prmu = refl
dark_condition Nwt = refl
dark_condition Block = refl
dark_condition Rcrc = refl

dark_listed : (conditions : List Condition)
    → IsDark (join_with_byte 44 (map condition_word conditions))
dark_listed [] = refl
dark_listed (condition ∷ []) = dark_condition condition
dark_listed (condition ∷ other ∷ more) =
    dark-append (condition_word condition)
    (44 ∷ join_with_byte 44 (map condition_word (other ∷ more))) (dark_condition condition)
    (dark_listed (other ∷ more))

dark_goal : (goal : Goal) → IsDark (goal_word goal)
dark_goal Cmax = refl
dark_goal Lmax = refl
dark_goal Hmax = refl
dark_goal SumC = refl
dark_goal SumWC = refl
dark_goal SumT = refl
dark_goal SumWT = refl
dark_goal SumU = refl
dark_goal SumWU = refl

pub word-canonical : (p : Problem) → IsCounted p.env p.count → IsWord (canonical p)
unfolding canonical
word-canonical p is =
    let machines : List ℕ = environment_word p.env ++ count_text p.env p.count in
    let list : List ℕ = listed_text p all_conditions in
    let first : IsDark machines =
    dark-append (environment_word p.env) (count_text p.env p.count) (dark_environment p.env)
    (dark_count p.env p.count is) in
    let barred : IsDark (machines ++ codes "|") = dark-append machines (codes "|") first refl in
    let listed : IsDark (machines ++ codes "|" ++ list) =
    dark-append (machines ++ codes "|") list barred
    (dark_listed (filter (has p) all_conditions)) in
    let closed : IsDark (machines ++ codes "|" ++ list ++ codes "|") =
    dark-append (machines ++ codes "|" ++ list) (codes "|") listed refl in
    let long : 0 < length (canonical p) = simp length-append (omega arith) in
    record {
      some = long;
      dark =
          dark-append (machines ++ codes "|" ++ list ++ codes "|") (goal_word p.goal) closed
          (dark_goal p.goal);
    }

-- ---- behind the word

pub behind_problem : (text : List ℕ) → after_word (codes "problem" ++ 32 ∷ text) ≡ 32 ∷ text
behind_problem text =
    let first : ltb 0 (length (codes "problem" ++ 32 ∷ text)) ≡ true = lt-ltb _ _ (omega arith) in
    let blank : ltb 7 (length (codes "problem" ++ 32 ∷ text)) ≡ true = lt-ltb _ _ (omega arith) in
    rw (first, blank) refl

no_return_byte : (b : ℕ) → not (is_white b) ≡ true → eqb b 13 ≡ false
no_return_byte b h = elim (cases_Bool (eqb b 13)) [
  | inl e ↦ (let same : b ≡ 13 = eqb-true b 13 e in let dark : false ≡ true =
      subst (λ (c : ℕ). not (is_white c) ≡ true) same h in cc)
  | inr e ↦ e
]

no_return_at : (text : List ℕ) (i : ℕ) → IsDark text → eqb (get_or text i 0) 13 ≡ false
no_return_at [] i h = refl
no_return_at (b ∷ bs) zero h = no_return_byte b (and_parts _ _ h).0
no_return_at (b ∷ bs) (suc i) h = no_return_at bs i (and_parts _ _ h).1

no_return_behind : (text : List ℕ) (i : ℕ) → IsDark text → eqb (get_or (32 ∷ text) i 0) 13 ≡ false
no_return_behind text zero h = refl
no_return_behind text (suc i) h = no_return_at text i h

pub no_return : (text : List ℕ) → IsDark text → without_return (32 ∷ text) ≡ 32 ∷ text
no_return text h =
    let last : eqb (get_or (32 ∷ text) (length (32 ∷ text) - 1) 0) 13 ≡ false =
    no_return_behind text (length (32 ∷ text) - 1) h in
    rw last refl
