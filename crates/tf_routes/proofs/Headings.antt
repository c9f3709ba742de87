-- The heading and the sizes of a job shop, found line by line.
use Rattle.std.proofs.Common.{◌≡◌, ℕ, ◌+◌, ◌≤◌, true, false, ltb, List, [], ◌∷◌, length, Some, None, Err, refl, arith}
use Rattle.std.proofs.lemmas.Bool.{le-ltb, lt-ltb}
use Rattle.tf_words.specs.Words.{lines, words, words_from}
use Rattle.tf_model.specs.Limit.{most_bytes}
use Rattle.tf_read.specs.declared.fault.ReadFault.TheVariants.{EndsEarly, NoInstance, TooLong}
use Rattle.tf_read.specs.FlowShop.{first_line, is_name_line, sizes_in}
use Rattle.tf_routes.specs.JobShop.{from_heading, from_sizes, job_shop, shop_sized}

-- a line that is no heading
pub no_heading : (name : List ℕ) (n : ℕ) (line : List ℕ) (below : List (List ℕ))
    → is_name_line name (words line) ≡ false
    → from_heading name n (line ∷ below) ≡ from_heading name (n + 1) below
unfolding from_heading first_line
no_heading name n line below h = rw h refl

-- the heading
pub heading : (name : List ℕ) (n : ℕ) (line : List ℕ) (below : List (List ℕ))
    → is_name_line name (words line) ≡ true
    → from_heading name n (line ∷ below) ≡ from_sizes (n + 1) below
unfolding from_heading first_line
heading name n line below h = rw h refl

-- no line is left
pub heading_missing : (name : List ℕ) (n : ℕ) → from_heading name n [] ≡ Err NoInstance
unfolding from_heading first_line
heading_missing name n = refl

-- a line that has no sizes
pub no_sizes : (n : ℕ) (line : List ℕ) (below : List (List ℕ)) → sizes_in (words line) ≡ None
    → from_sizes n (line ∷ below) ≡ from_sizes (n + 1) below
unfolding from_sizes first_line
no_sizes n line below h = rw h refl

-- the line of the sizes
pub sizes : (n jobs machines : ℕ) (line : List ℕ) (below : List (List ℕ))
    → sizes_in (words line) ≡ Some (jobs, machines)
    → from_sizes n (line ∷ below) ≡ shop_sized n jobs machines (words_from (n + 1) below)
unfolding from_sizes first_line
sizes n jobs machines line below h = rw h refl

-- no line is left
pub sizes_missing : (n : ℕ) → from_sizes n [] ≡ Err EndsEarly
unfolding from_sizes first_line
sizes_missing n = refl

-- ---- the whole text

pub too_long : (name text : List ℕ) (n : ℕ) → n ≡ length text → most_bytes + 1 ≤ n
    → job_shop name text ≡ Err TooLong
unfolding job_shop
too_long name text n is many =
    let e : ltb most_bytes (length text) ≡ true = lt-ltb _ _ (omega (arith, is, many)) in rw e refl

pub not_long : (name text : List ℕ) (n : ℕ) → n ≡ length text → n ≤ most_bytes
    → job_shop name text ≡ from_heading name 1 (lines text)
unfolding job_shop
not_long name text n is few =
    let e : ltb most_bytes (length text) ≡ false = le-ltb _ _ (omega (arith, is, few)) in rw e refl
