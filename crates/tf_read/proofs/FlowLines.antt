-- The heading and the sizes of a flow shop.
use Rattle.std.proofs.Common.{◌≡◌, ℕ, ◌+◌, true, false, List, [], ◌∷◌, Option, Some, None, Result, Ok, Err, refl, ap, ◌∙◌}
use Rattle.std.specs.Option.{option_map_or}
use Rattle.tf_model.specs.InstanceData.{InstanceData}
use Rattle.tf_model.specs.Outcome.{◌>>=◌}
use Rattle.tf_words.specs.Words.{words, words_from}
use Rattle.tf_read.specs.declared.fault.ReadFault.{ReadFault}
use Rattle.tf_read.specs.declared.fault.ReadFault.TheVariants.{EndsEarly, NoInstance}
use Rattle.tf_read.specs.FlowShop.{first_line, sizes_in, sized, from_sizes, is_name_line, name_in, from_heading}

-- ---- the first line of a kind

abbrev Found : Type 0 → Type 0
Found A = Result (ℕ × A × List (List ℕ)) ReadFault

abbrev here : {A : Type 0} → ℕ → List (List ℕ) → A → Found A
here n more x = Ok (n, x, more)

line_at : {A : Type 0} (fault : ReadFault) (find : List (List ℕ) → Option A) (n : ℕ)
    (line : List ℕ) (more all : List (List ℕ)) (found : Option A)
    → all ≡ line ∷ more → find (words line) ≡ found
    → first_line fault find n all
    ≡ option_map_or (here n more) found (first_line fault find (n + 1) more)
unfolding first_line
line_at {A} fault find n line more all found e h = ap (first_line fault find n) e
    ∙ ap (λ (o : Option A). option_map_or (here n more) o (first_line fault find (n + 1) more)) h

no_line : {A : Type 0} (fault : ReadFault) (find : List (List ℕ) → Option A) (n : ℕ)
    (all : List (List ℕ)) → all ≡ [] → first_line fault find n all ≡ Err fault
unfolding first_line
no_line fault find n all e = ap (first_line fault find n) e

-- ---- the sizes

abbrev below_sizes : Option (ℕ × ℕ) → Found (ℕ × ℕ) → Result InstanceData ReadFault
below_sizes pair found =
    found >>= λ (line, sizes, below). sized pair line sizes.0 sizes.1 (words_from (line + 1) below)

pub sizes_found : (pair : Option (ℕ × ℕ)) (n : ℕ) (line : List ℕ) (more all : List (List ℕ))
    (sizes : ℕ × ℕ)
    → all ≡ line ∷ more → sizes_in (words line) ≡ Some sizes
    → from_sizes pair n all ≡ sized pair n sizes.0 sizes.1 (words_from (n + 1) more)
unfolding from_sizes
sizes_found pair n line more all sizes e h =
    ap (below_sizes pair) (line_at EndsEarly sizes_in n line more all (Some sizes) e h)

pub sizes_later : (pair : Option (ℕ × ℕ)) (n : ℕ) (line : List ℕ) (more all : List (List ℕ))
    → all ≡ line ∷ more → sizes_in (words line) ≡ None
    → from_sizes pair n all ≡ from_sizes pair (n + 1) more
unfolding from_sizes
sizes_later pair n line more all e h =
    ap (below_sizes pair) (line_at EndsEarly sizes_in n line more all None e h)

pub no_sizes : (pair : Option (ℕ × ℕ)) (n : ℕ) (all : List (List ℕ)) → all ≡ []
    → from_sizes pair n all ≡ Err EndsEarly
unfolding from_sizes
no_sizes pair n all e = ap (below_sizes pair) (no_line EndsEarly sizes_in n all e)

-- ---- the heading

abbrev below_heading : Option (ℕ × ℕ) → Found (List ℕ) → Result InstanceData ReadFault
below_heading pair found = found >>= λ (line, _, below). from_sizes pair (line + 1) below

pub heading_found : (name : List ℕ) (pair : Option (ℕ × ℕ)) (n : ℕ) (line : List ℕ)
    (more all : List (List ℕ))
    → all ≡ line ∷ more → is_name_line name (words line) ≡ true
    → from_heading name pair n all ≡ from_sizes pair (n + 1) more
unfolding from_heading
heading_found name pair n line more all e h =
    let found : name_in name (words line) ≡ Some name = rw h refl in
    ap (below_heading pair) (line_at NoInstance (name_in name) n line more all (Some name) e found)

pub heading_later : (name : List ℕ) (pair : Option (ℕ × ℕ)) (n : ℕ) (line : List ℕ)
    (more all : List (List ℕ))
    → all ≡ line ∷ more → is_name_line name (words line) ≡ false
    → from_heading name pair n all ≡ from_heading name pair (n + 1) more
unfolding from_heading
heading_later name pair n line more all e h =
    let other : name_in name (words line) ≡ None = rw h refl in
    ap (below_heading pair) (line_at NoInstance (name_in name) n line more all None e other)

pub no_heading : (name : List ℕ) (pair : Option (ℕ × ℕ)) (n : ℕ) (all : List (List ℕ)) → all ≡ []
    → from_heading name pair n all ≡ Err NoInstance
unfolding from_heading
no_heading name pair n all e =
    ap (below_heading pair) (no_line NoInstance (name_in name) n all e)
