-- Orders, as the words of a text say them.
use Rattle.std.proofs.Common.{◌≡◌, ℕ, ◌+◌, ◌<◌, ◌≤◌, Bool, true, false, cond, List, [], ◌∷◌, ◌++◌, codes, length, get_or, subst, Option, None, Some, refl, sym, ap, ◌∙◌, append_assoc, arith}
use Rattle.std.proofs.lemmas.Bool.{eq-eqb, ne_eqb}
use Rattle.std.specs.Str.{bytes_eq}
use Rattle.tf_orders.specs.declared.order.Turn.{Turn}
use Rattle.std.specs.List.{All}
use Rattle.std.proofs.lemmas.List.{get_or-map, length-map}
use Rattle.tf_words.specs.Words.{words}
use Rattle.tf_model.specs.Distinct.{IsDistinct}
use Rattle.tf_orders.specs.Orders.{job_in, with_turn, turns_from, jobs_of, IsTurn, IsOrder, IsNoOrder}

-- turns, and then others
abbrev pub prefixed : List Turn → Option (List Turn) → Option (List Turn)
prefixed seen None = None
prefixed seen (Some more) = Some (seen ++ more)

with_none : (i : ℕ) (j : Option ℕ) → with_turn i j None ≡ None
with_none i None = refl
with_none i (Some j) = refl

past_step : (n g i : ℕ) (w : List ℕ) (ws : List (List ℕ)) (b : Bool)
    → turns_from n g (i + 1) ws ≡ None → turns_from n g i ws ≡ None
    → cond b (turns_from n g (i + 1) ws) (with_turn i (job_in n w) (turns_from n g i ws)) ≡ None
past_step n g i w ws true next here = next
past_step n g i w ws false next here =
    ap (with_turn i (job_in n w)) here ∙ with_none i (job_in n w)

-- behind the last machine nothing is said
past : (n g : ℕ) (ws : List (List ℕ)) (i : ℕ) → g < i → turns_from n g i ws ≡ None
unfolding turns_from
past n g [] i h =
    ap (λ (b : Bool). cond b (Some []) None) (ne_eqb i g (λ e. omega (arith, h, e)))
past n g (w ∷ ws) i h =
    past_step n g i w ws (bytes_eq w (codes "/")) (past n g ws (i + 1) (omega arith))
    (past n g ws i h)

module _ (n g i : ℕ) (rest : List (List ℕ)) (w : List ℕ) (ws : List (List ℕ))
    (first : rest ≡ w ∷ ws) where
  -- the next machine
  pub slash_read : bytes_eq w (codes "/") ≡ true
      → turns_from n g i rest ≡ turns_from n g (i + 1) ws
  unfolding turns_from
  slash_read slash =
      ap (turns_from n g i) first
      ∙ ap (λ (b : Bool). cond b (turns_from n g (i + 1) ws)
      (with_turn i (job_in n w) (turns_from n g i ws))) slash

  -- there is none
  pub too_many : bytes_eq w (codes "/") ≡ true → g ≤ i → turns_from n g i rest ≡ None
  too_many slash last = slash_read slash ∙ past n g ws (i + 1) (omega (arith, last))

  job_read : bytes_eq w (codes "/") ≡ false
      → turns_from n g i rest ≡ with_turn i (job_in n w) (turns_from n g i ws)
  unfolding turns_from
  job_read word =
      ap (turns_from n g i) first
      ∙ ap (λ (b : Bool). cond b (turns_from n g (i + 1) ws)
      (with_turn i (job_in n w) (turns_from n g i ws))) word

  -- a word that is no job
  pub bad_word : bytes_eq w (codes "/") ≡ false → job_in n w ≡ None → turns_from n g i rest ≡ None
  bad_word word none =
      job_read word ∙ ap (λ j. with_turn i j (turns_from n g i ws)) none

  -- a job
  pub turn_read : (seen : List Turn) (j : ℕ) → bytes_eq w (codes "/") ≡ false
      → job_in n w ≡ Some j
      → prefixed (seen ++ record { job = j; machine = i } ∷ []) (turns_from n g i ws)
      ≡ prefixed seen (turns_from n g i rest)
  turn_read seen j word some =
      joined (turns_from n g i ws)
      ∙ ap (prefixed seen)
      (sym (job_read word ∙ ap (λ j. with_turn i j (turns_from n g i ws)) some))
    where
      joined : (more : Option (List Turn))
          → prefixed (seen ++ record { job = j; machine = i } ∷ []) more
          ≡ prefixed seen (with_turn i (Some j) more)
      joined None = refl
      joined (Some ts) =
          ap (λ (all : List Turn). Some all) (append_assoc seen (record { job = j; machine = i } ∷ []) ts)

-- no word
module _ (n g i : ℕ) (rest : List (List ℕ)) (none : rest ≡ []) where
  pub ends : i ≡ g → turns_from n g i rest ≡ Some []
  unfolding turns_from
  ends last =
      ap (turns_from n g i) none
      ∙ ap (λ (b : Bool). cond b (Some []) None) (eq-eqb i g last)

  pub ends_early : (i ≡ g → ⊥) → turns_from n g i rest ≡ None
  unfolding turns_from
  ends_early more =
      ap (turns_from n g i) none
      ∙ ap (λ (b : Bool). cond b (Some []) None) (ne_eqb i g more)

-- what was said before nothing is said, is nothing
pub prefixed_none : (seen : List Turn) (r whole : Option (List Turn)) → prefixed seen r ≡ whole
    → r ≡ None → whole ≡ None
prefixed_none seen r whole is none = sym is ∙ ap (prefixed seen) none

-- ---- the order that is said

-- the jobs of turns
pub known_jobs : (n g : ℕ) (ts : List Turn) (js : List ℕ) → js ≡ jobs_of ts → All (IsTurn n g) ts
    → All (λ j. (1 ≤ j) × (j ≤ n)) js
known_jobs n g ts js is turns a d h =
    let t : Turn = record { job = d; machine = 0 } in
    let within : a < length ts =
    omega (arith, h, ap length is, length-map ts (λ (t : Turn). t.job)) in
    subst (λ (j : ℕ). (1 ≤ j) × (j ≤ n))
    (sym (ap (λ xs. get_or xs a d) is ∙ get_or-map (λ (t : Turn). t.job) ts a t d within))
    (turns a t within).job

same_turns : (ts us : List Turn) → Some ts ≡ Some us → us ≡ ts
same_turns ts us e = cc

-- a job stands twice
pub no_order : (n g : ℕ) (text : List ℕ) (ts : List Turn) (js : List ℕ)
    → turns_from n g 1 (words text) ≡ Some ts → js ≡ jobs_of ts → ¬ (IsDistinct js)
    → IsNoOrder n g text
no_order n g text ts js says is twice us order =
    twice (subst IsDistinct
    (ap jobs_of (same_turns ts us (sym says ∙ order.says)) ∙ sym is) order.once)

pub order_is : (n g : ℕ) (text : List ℕ) (ts : List Turn) (js : List ℕ)
    → turns_from n g 1 (words text) ≡ Some ts → length ts ≡ n → js ≡ jobs_of ts → IsDistinct js
    → IsOrder n g text ts
order_is n g text ts js says all is once =
    record { says = says; all = all; once = subst IsDistinct is once }
