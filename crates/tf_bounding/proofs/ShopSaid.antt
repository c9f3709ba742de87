-- What a flow shop text says of all its machines, by the words behind its sizes.
use Rattle.std.proofs.Common.{◌≡◌, ℕ, ◌+◌, ◌*◌, ◌<◌, ◌==◌, ◌||◌, Bool, true, false, not, cond, nat_lt, is_some, List, [], ◌∷◌, length, take, Option, None, Some, Result, Ok, Err, IsOk, ℤ, refl, sym, ap, subst, ◌∙◌}
use Rattle.std.specs.Option.{option_map_or}
use Rattle.tf_words.specs.Words.{words, lines, words_from}
use Rattle.tf_model.specs.InstanceData.{InstanceData}
use Rattle.tf_model.specs.Limit.{most_bytes, most_jobs, most_machines}
use Rattle.tf_model.specs.Outcome.{◌>>=◌}
use Rattle.tf_read.specs.declared.fault.ReadFault.{ReadFault}
use Rattle.tf_read.specs.declared.fault.ReadFault.TheVariants.{TooLong, EndsEarly, NoInstance, NoJobs, TooManyJobs, BadLine, BadPair}
use Rattle.tf_read.specs.Faults.{each_from}
use Rattle.tf_read.specs.FlowShop.{are_machines, shop_jobs, shop_of, shop_number, first_kept, second_kept, machines_kept, pairs_of, sized, sizes_in, first_line, from_sizes, is_name_line, name_in, from_heading, flow_shop}
use Rattle.tf_bounding.specs.ShopWords.{behind, behind_sizes, is_sizes_line}

-- the instance on these machines
abbrev pub of_numbers : ℕ → ℕ → Option (ℕ × ℕ) → List ℤ → InstanceData
of_numbers jobs machines pair numbers = record {
  jobs = shop_jobs jobs machines (first_kept pair) (second_kept machines pair) numbers;
  arcs = [];
  machines = Some (machines_kept machines pair);
}

-- An instance on all machines, of which there are so many, by the lines behind the sizes: `said` says
-- one of each pair of them.
pub record OfShop (machines : ℕ) (below : List (List ℕ)) (said : ℕ × ℕ → Result InstanceData ReadFault)
    (instance : InstanceData) : Type 0 where
  pub jobs : ℕ
  pub line : ℕ
  pub numbers : List ℤ
  pub read : each_from (shop_number machines) 0 (take (2 * jobs * machines) (words_from line below))
      ≡ Ok numbers
  pub long : nat_lt (length numbers) (2 * jobs * machines) ≡ false
  pub is : of_numbers jobs machines None numbers ≡ instance
  pub of_pair : (pair : ℕ × ℕ) → are_machines machines (Some pair) ≡ true
      → said pair ≡ Ok (of_numbers jobs machines (Some pair) numbers)

abbrev SaysOn : ℕ → List (List ℕ) → Result InstanceData ReadFault
    → (ℕ × ℕ → Result InstanceData ReadFault) → Type 0
SaysOn machines below all said =
    (instance : InstanceData) → all ≡ Ok instance → OfShop machines below said instance

abbrev Says : List (List ℕ) → Result InstanceData ReadFault
    → (ℕ × ℕ → Result InstanceData ReadFault) → Type 0
Says below all said =
    (instance : InstanceData) → all ≡ Ok instance
    → (machines : ℕ) × OfShop machines below said instance

module _ (jobs machines line : ℕ) (below : List (List ℕ)) where
  abbrev read_all : Result (List ℤ) ReadFault
  read_all = each_from (shop_number machines) 0 (take (2 * jobs * machines) (words_from line below))

  by_length : (short : Bool) (numbers : List ℤ) → read_all ≡ Ok numbers
      → nat_lt (length numbers) (2 * jobs * machines) ≡ short
      → SaysOn machines below
      (cond short (Err EndsEarly) (Ok (of_numbers jobs machines None numbers)))
      (λ pair. cond short (Err EndsEarly) (Ok (of_numbers jobs machines (Some pair) numbers)))
  by_length true numbers read long instance e = cc
  by_length false numbers read long instance e = record {
    jobs = jobs;
    line = line;
    numbers = numbers;
    read = read;
    long = long;
    is = cc;
    of_pair = λ pair there. refl;
  }

  by_numbers : (r : Result (List ℤ) ReadFault) → read_all ≡ r
      → SaysOn machines below (r >>= λ numbers. shop_of jobs machines None numbers)
      (λ pair. r >>= λ numbers. shop_of jobs machines (Some pair) numbers)
  by_numbers (Ok numbers) read instance e =
      by_length (nat_lt (length numbers) (2 * jobs * machines)) numbers read refl instance e
  by_numbers (Err fault) read instance e = cc

-- two machines that are there
by_pair : (machines : ℕ) (below : List (List ℕ)) (said : ℕ × ℕ → Result InstanceData ReadFault)
    (instance : InstanceData) → OfShop machines below said instance
    → OfShop machines below
    (λ pair. cond (not (are_machines machines (Some pair))) (Err BadPair) (said pair)) instance
by_pair machines below said instance had = record {
  jobs = had.jobs;
  line = had.line;
  numbers = had.numbers;
  read = had.read;
  long = had.long;
  is = had.is;
  of_pair = λ pair there. rw there (had.of_pair pair there);
}

by_tests : (no_jobs many_jobs bad_machines : Bool) (line machines : ℕ) (below : List (List ℕ))
    (all : Result InstanceData ReadFault) (said : ℕ × ℕ → Result InstanceData ReadFault)
    → SaysOn machines below all said
    → SaysOn machines below
    (cond no_jobs (Err NoJobs) (cond many_jobs (Err TooManyJobs)
    (cond bad_machines (Err (BadLine line)) all)))
    (λ pair. cond no_jobs (Err NoJobs) (cond many_jobs (Err TooManyJobs)
    (cond bad_machines (Err (BadLine line))
    (cond (not (are_machines machines (Some pair))) (Err BadPair) (said pair)))))
by_tests true many bad line machines below all said had instance e = cc
by_tests false true bad line machines below all said had instance e = cc
by_tests false false true line machines below all said had instance e = cc
by_tests false false false line machines below all said had instance e =
    by_pair machines below said instance (had instance e)

by_found : {A : Type 0} (found : Result A ReadFault) (below : A → List (List ℕ))
    (whole : List (List ℕ)) (all : A → Result InstanceData ReadFault)
    (said : A → ℕ × ℕ → Result InstanceData ReadFault)
    → ((at : A) → found ≡ Ok at → below at ≡ whole)
    → ((at : A) → Says (below at) (all at) (said at))
    → Says whole (found >>= all) (λ pair. found >>= λ at. said at pair)
by_found (Ok at) below whole all said same had instance e =
    subst (λ ls. (machines : ℕ) × OfShop machines ls (said at) instance) (same at refl)
    (had at instance e)
by_found (Err fault) below whole all said same had instance e = cc

-- the lines behind the one in which something is found
module _ (A : Type 0) (fault : ReadFault) (find : List (List ℕ) → Option A)
    (test : List (List ℕ) → Bool) (same : (ws : List (List ℕ)) → is_some (find ws) ≡ test ws) where
  found_on : (n : ℕ) (below : List (List ℕ)) (at : ℕ × A × List (List ℕ))
      (rest : Result (ℕ × A × List (List ℕ)) ReadFault) → (rest ≡ Ok at → at.2 ≡ behind test below)
      → (o : Option A) (t : Bool) → is_some o ≡ t
      → option_map_or (λ found. Ok (n, found, below)) o rest ≡ Ok at
      → at.2 ≡ cond t below (behind test below)
  found_on n below at rest later (Some a) true is e =
      let here : (n, a, below) ≡ at = cc in ap (λ (x : ℕ × A × List (List ℕ)). x.2) (sym here)
  found_on n below at rest later None false is e = later e
  found_on n below at rest later (Some a) false is e = cc
  found_on n below at rest later None true is e = cc

  found_behind : (n : ℕ) (ls : List (List ℕ)) (at : ℕ × A × List (List ℕ))
      → first_line fault find n ls ≡ Ok at → at.2 ≡ behind test ls
  unfolding first_line
  found_behind n [] at e = cc
  found_behind n (line ∷ below) at e =
      found_on n below at (first_line fault find (n + 1) below) (found_behind (n + 1) below at)
      (find (words line)) (test (words line)) (same (words line)) e

is_name : (name : List ℕ) (ws : List (List ℕ)) → is_some (name_in name ws) ≡ is_name_line name ws
is_name name ws = by_test (is_name_line name ws)
  where
    by_test : (b : Bool) → is_some (cond b (Some name) None) ≡ b
    by_test true = refl
    by_test false = refl

below_heading : (n : ℕ) (all : List (List ℕ))
    → Says (behind is_sizes_line all) (from_sizes None n all) (λ pair. from_sizes (Some pair) n all)
unfolding from_sizes sized pairs_of
below_heading n all =
    by_found (first_line EndsEarly sizes_in n all) (λ at. at.2) (behind is_sizes_line all) _ _
    (found_behind (ℕ × ℕ) EndsEarly sizes_in is_sizes_line (λ ws. refl) n all)
    (λ at instance e. (
      at.1.1,
      by_tests (at.1.0 == 0) (nat_lt most_jobs at.1.0)
          (at.1.1 == 0 || nat_lt most_machines at.1.1) at.0 at.1.1 at.2 _ _
          (by_numbers at.1.0 at.1.1 (at.0 + 1) at.2 _ refl) instance e,
    ))

by_heading : (name : List ℕ) (n : ℕ) (all : List (List ℕ))
    → Says (behind_sizes name all) (from_heading name None n all)
    (λ pair. from_heading name (Some pair) n all)
unfolding from_heading
by_heading name n all =
    by_found (first_line NoInstance (name_in name) n all) (λ at. behind is_sizes_line at.2)
    (behind_sizes name all) _ _
    (λ at e. ap (behind is_sizes_line)
    (found_behind (List ℕ) NoInstance (name_in name) (is_name_line name) (is_name name) n all at e))
    (λ at. below_heading (at.0 + 1) at.2)

by_bytes : (long : Bool) (below : List (List ℕ)) (all : Result InstanceData ReadFault)
    (said : ℕ × ℕ → Result InstanceData ReadFault) → Says below all said
    → Says below (cond long (Err TooLong) all) (λ pair. cond long (Err TooLong) (said pair))
by_bytes true below all said had instance e = cc
by_bytes false below all said had instance e = had instance e

-- where a text says an instance, it says one of each pair of its machines
pub shop_said : (name text : List ℕ) → Says (behind_sizes name (lines text))
    (flow_shop name None text) (λ pair. flow_shop name (Some pair) text)
unfolding flow_shop
shop_said name text =
    by_bytes (nat_lt most_bytes (length text)) _ _ _ (by_heading name 1 _)
