-- The times of a shop on each machine, as the words of its text write them.
use Rattle.std.proofs.Common.{◌≡◌, ◌≢◌, ℕ, zero, suc, ◌+◌, ◌*◌, ◌%◌, ◌<◌, ◌≤◌, ◌==◌, Bool, true, false, cond, eqb, nat_lt, List, [], ◌∷◌, length, map, take, get_or, unwrap_or, ltb, Option, None, Some, Result, Ok, Err, ℤ, pos, negsuc, refl, sym, ap, subst, ◌∙◌, arith}
use Rattle.std.specs.List.{range_with_len}
use Rattle.std.proofs.lemmas.Bool.{ltb-false, lt-ltb, eqb-true, eqb-false}
use Rattle.std.proofs.lemmas.List.{get_or-map, get_or-take, length-take}
use Rattle.std.proofs.lemmas.List.FromFn.{get_or-map-range_with_len, length-map-range_with_len}
use Rattle.std.proofs.lemmas.Simd.{map-map}
use Rattle.tf_words.specs.Number.{number}
use Rattle.tf_words.specs.Words.{Word, words, lines, words_from}
use Rattle.tf_words.specs.declared.number.Number.{Number}
use Rattle.tf_words.specs.declared.number.Number.TheVariants.{NotANumber, TooLarge, Value}
use Rattle.tf_model.specs.InstanceData.{InstanceData}
use Rattle.tf_model.specs.Outcome.{◌>>=◌}
use Rattle.tf_model.specs.Whole.{as_time}
use Rattle.tf_read.specs.declared.fault.ReadFault.{ReadFault}
use Rattle.tf_read.specs.Faults.{each_from, natural, number_at}
use Rattle.tf_read.specs.FlowShop.{are_machines, first_kept, second_kept, flow_shop, is_time, machine_at, machine_is, machines_kept, job_with, shop_job, shop_jobs, shop_number, time_place}
use Rattle.tf_prepare.specs.Preparing.{first_of}
use Rattle.tf_bounding.specs.ShopTimes.{pair_for, first_times, times_on}
use Rattle.tf_bounding.specs.ShopWords.{HasSizes, behind_sizes, on_machine, paired_times, time_at, time_of}
use Rattle.tf_bounding.proofs.PlacedWords.{placed_from}
use Rattle.tf_bounding.proofs.ShopPlaces.{place_within}
use Rattle.tf_bounding.proofs.ShopSaid.{OfShop, of_numbers, shop_said}

-- ---- numbers that were read one by one

module _ (read : ℕ → Word → Result ℤ ReadFault) where
  record Parts (r : Result ℤ ReadFault) (rest : Result (List ℤ) ReadFault) (ys : List ℤ) : Type 0 where
    y : ℤ
    zs : List ℤ
    here : r ≡ Ok y
    later : rest ≡ Ok zs
    whole : y ∷ zs ≡ ys

  parts : (r : Result ℤ ReadFault) (rest : Result (List ℤ) ReadFault) (ys : List ℤ)
      → (r >>= λ first. rest >>= λ others. Ok (first ∷ others)) ≡ Ok ys → Parts r rest ys
  parts (Ok y) (Ok zs) ys e =
      record { y = y; zs = zs; here = refl; later = refl; whole = cc }
  parts (Ok y) (Err f) ys e = cc
  parts (Err f) rest ys e = cc

  -- each is what its word says, and there are as many
  each_at : (k : ℕ) (xs : List Word) (ys : List ℤ) → each_from read k xs ≡ Ok ys
      → (length ys ≡ length xs)
      × ((i : ℕ) (d : Word) → i < length xs → read (k + i) (get_or xs i d) ≡ Ok (get_or ys i (pos 0)))
  unfolding each_from
  each_at k [] ys e =
      let none : [] ≡ ys = cc in
      (ap length (sym none), λ i d lt. absurd (omega (arith, lt)))
  each_at k (x ∷ xs) ys e =
      let p = parts (read k x) (each_from read (k + 1) xs) ys e in
      let (as_many, at) = each_at (k + 1) xs p.zs p.later in
      (ap length (sym p.whole) ∙ ap suc as_many, at_place p at)
    where
      at_place : (p : Parts (read k x) (each_from read (k + 1) xs) ys)
          → ((i : ℕ) (d : Word) → i < length xs
          → read (k + 1 + i) (get_or xs i d) ≡ Ok (get_or p.zs i (pos 0)))
          → (i : ℕ) (d : Word) → i < length (x ∷ xs)
          → read (k + i) (get_or (x ∷ xs) i d) ≡ Ok (get_or ys i (pos 0))
      at_place p at zero d lt =
          let same : k + zero ≡ k = omega arith in
          ap (λ n. read n x) same ∙ p.here ∙ ap (λ (zs : List ℤ). Ok (get_or zs 0 (pos 0))) p.whole
      at_place p at (suc i) d lt =
          let same : k + suc i ≡ k + 1 + i = omega arith in
          ap (λ n. read n (get_or xs i d)) same ∙ at i d (omega (arith, lt))
          ∙ ap (λ (zs : List ℤ). Ok (get_or zs (suc i) (pos 0))) p.whole

-- a number that may not be negative is a time
natural_time : (line : ℕ) (r : Number) (z : ℤ) → natural line r ≡ Ok z → as_time z ≡ time_of r
natural_time line NotANumber z e = cc
natural_time line TooLarge z e = cc
natural_time line (Value (pos n)) z e = let is : pos n ≡ z = cc in ap as_time (sym is)
natural_time line (Value (negsuc n)) z e = cc

read_time : (machines i : ℕ) (word : Word) (z : ℤ) → is_time i ≡ true
    → shop_number machines i word ≡ Ok z → as_time z ≡ time_of (number word.bytes)
read_time machines i word z time e =
    natural_time word.line (number word.bytes) z
    (subst (λ b. cond b (natural word.line (number word.bytes))
    (machine_is (machine_at machines i) word.line (number word.bytes)) ≡ Ok z) time e)

-- ---- of an instance

-- two functions that are the same on some numbers
same_on : (f g : ℕ → ℕ) (count from : ℕ)
    → ((j : ℕ) → from ≤ j → j < from + count → f j ≡ g j)
    → map f (range_with_len from count) ≡ map g (range_with_len from count)
same_on f g zero from same = refl
same_on f g (suc count) from same =
    ap (λ y. y ∷ map f (range_with_len (from + 1) count)) (same from (omega arith) (omega arith))
    ∙ ap (λ ys. g from ∷ ys)
    (same_on f g count (from + 1) (λ j low high. same j (omega (arith, low)) (omega (arith, high))))

first_of_job : (machines : ℕ) (a b : ℤ) → first_of (job_with machines a b) ≡ as_time a
first_of_job machines a b = by_count (eqb machines 1) refl
  where
    by_count : (one : Bool) → eqb machines 1 ≡ one → first_of (job_with machines a b) ≡ as_time a
    by_count true e = rw e refl
    by_count false e = rw e refl

module _ (machines : ℕ) (said : ℕ × ℕ → Result InstanceData ReadFault)
    (instance : InstanceData) (below : List (List ℕ)) (shop : OfShop machines below said instance)
    (ws : List (List ℕ)) (is : map (λ (w : Word). w.bytes) (words_from shop.line below) ≡ ws) where
  abbrev all : List Word
  all = words_from shop.line below

  abbrev count : ℕ
  count = 2 * shop.jobs * machines

  no_word : Word
  no_word = record { line = 0; bytes = [] }

  -- the number at the place of a time is what the word there writes
  time_there : (c : ℕ) → c < shop.jobs * machines
      → as_time (number_at shop.numbers (2 * c + 1)) ≡ time_at ws (2 * c + 1)
  time_there c lt =
      let (as_many, at) = each_at (shop_number machines) 0 (take count all) shop.numbers shop.read in
      let enough : count ≤ length shop.numbers = ltb-false _ _ shop.long in
      let taken = length-take count all in
      let half : count ≡ 2 * (shop.jobs * machines) = omega arith in
      let place : 2 * c + 1 < count = omega (arith, lt, half) in
      let within : 2 * c + 1 < length all = omega (arith, place, enough, as_many, taken) in
      let odd : (0 + (2 * c + 1)) % 2 ≡ 1 = omega arith in
      let time : is_time (0 + (2 * c + 1)) ≡ true = rw odd refl in
      let word = get_or all (2 * c + 1) no_word in
      let here = get_or-take count all (2 * c + 1) no_word place in
      read_time machines (0 + (2 * c + 1)) word _ time
      (ap (λ w. shop_number machines (0 + (2 * c + 1)) w) (sym here)
      ∙ at (2 * c + 1) no_word (omega (arith, place, enough, as_many)))
      ∙ ap (λ bytes. time_of (number bytes))
      (sym (get_or-map (λ (w : Word). w.bytes) all (2 * c + 1) no_word [] within)
      ∙ ap (λ us. get_or us (2 * c + 1) []) is)

  on_place : (i j : ℕ) → i < machines → j < shop.jobs
      → as_time (number_at shop.numbers (time_place machines i j))
      ≡ get_or (paired_times ws (shop.jobs * machines)) (j * machines + i) 0
  on_place i j in_machines in_jobs =
      let there = place_within shop.jobs machines j i in_jobs in_machines in
      time_there (j * machines + i) there
      ∙ sym (get_or-map-range_with_len (λ c. time_at ws (2 * c + 1)) 0 (shop.jobs * machines)
      (j * machines + i) (j * machines + i) 0 there (omega arith))

  -- the first times of jobs with these numbers
  first_on : (i first second : ℕ) → i < machines → first ≡ i
      → map first_of (shop_jobs shop.jobs machines first second shop.numbers)
      ≡ on_machine (paired_times ws (shop.jobs * machines)) shop.jobs machines i
  first_on i first second less is_first =
      map-map first_of (shop_job machines first second shop.numbers) (range_with_len 0 shop.jobs)
      ∙ same_on _ _ shop.jobs 0 (λ j from in_jobs.
      first_of_job machines (number_at shop.numbers (time_place machines first j))
      (number_at shop.numbers (time_place machines second j))
      ∙ ap (λ a. as_time (number_at shop.numbers (time_place machines a j))) is_first
      ∙ on_place i j less (omega (arith, in_jobs)))

-- ---- on each machine

-- machine i and another one are there
other_there : (machines i : ℕ) (first : Bool) → i < machines → eqb machines 1 ≡ false
    → eqb i 0 ≡ first → are_machines machines (Some (i, cond first 1 0)) ≡ true
other_there machines i true less many e =
    let zero_is : i ≡ 0 = eqb-true i 0 e in
    let not_one : machines ≢ 1 = eqb-false machines 1 many in
    let more : 1 < machines = omega arith in
    let some : ltb i machines ≡ true = lt-ltb i machines less in
    let two : ltb 1 machines ≡ true = lt-ltb 1 machines more in
    rw (two, some) rw zero_is refl
other_there machines i false less many e =
    let not_zero : i ≢ 0 = eqb-false i 0 e in
    let more : 0 < machines = omega arith in
    let some : ltb i machines ≡ true = lt-ltb i machines less in
    let one : ltb 0 machines ≡ true = lt-ltb 0 machines more in
    rw (e, some, one) refl

module _ (name text : List ℕ) (jobs machines : ℕ) (has : HasSizes name text jobs machines)
    (rest : List ℕ) (behind : lines rest ≡ behind_sizes name (lines text)) where
  abbrev instance : InstanceData
  instance = has.0

  abbrev said : ℕ × ℕ → Result InstanceData ReadFault
  said pair = flow_shop name (Some pair) text

  on_all : (m : ℕ) (shop : OfShop m (behind_sizes name (lines text)) said instance)
      → (jobs ≡ shop.jobs) × (machines ≡ m)
  on_all m shop = (
    sym has.2 ∙ ap (λ (x : InstanceData). length x.jobs) (sym shop.is)
        ∙ length-map-range_with_len (shop_job m 0 (second_kept m None) shop.numbers) 0 shop.jobs,
    sym has.3 ∙ ap (λ (x : InstanceData). unwrap_or x.machines 0) (sym shop.is),
  )

  by_shop : (m : ℕ) (shop : OfShop m (behind_sizes name (lines text)) said instance)
      → (i : ℕ) → i < m
      → on_machine (paired_times (words rest) (shop.jobs * m)) shop.jobs m i ≡ times_on name m text i
  by_shop m shop i less = by_count (eqb m 1) refl
    where
      words_are : map (λ (w : Word). w.bytes)
          (words_from shop.line (behind_sizes name (lines text))) ≡ words rest
      words_are =
          ap (λ ls. map (λ (w : Word). w.bytes) (words_from shop.line ls)) (sym behind)
          ∙ placed_from shop.line rest

      by_count : (one : Bool) → eqb m 1 ≡ one
          → on_machine (paired_times (words rest) (shop.jobs * m)) shop.jobs m i
          ≡ first_times (flow_shop name (cond one None (Some (i, cond (eqb i 0) 1 0))) text)
      by_count true one =
          let single : m ≡ 1 = eqb-true m 1 one in
          sym (first_on m said instance _ shop (words rest) words_are i 0 (second_kept m None) less
          (omega (arith, less, single)))
          ∙ ap (λ (x : InstanceData). map first_of x.jobs) shop.is ∙ ap first_times (sym has.1)
      by_count false one =
          let pair : ℕ × ℕ = (i, cond (eqb i 0) 1 0) in
          sym (first_on m said instance _ shop (words rest) words_are i i (cond (eqb i 0) 1 0) less
          refl)
          ∙ ap first_times
          (sym (shop.of_pair pair (other_there m i (eqb i 0) less one refl)))

  -- the times of the words are those of the machine
  pub times_said : (i : ℕ) → i < machines
      → on_machine (paired_times (words rest) (jobs * machines)) jobs machines i
      ≡ times_on name machines text i
  times_said i less =
      let (m, shop) = shop_said name text instance has.1 in
      let (same_jobs, same_machines) = on_all m shop in
      subst (λ n. on_machine (paired_times (words rest) (jobs * n)) jobs n i ≡ times_on name n text i)
      (sym same_machines)
      (subst (λ n. on_machine (paired_times (words rest) (n * m)) n m i ≡ times_on name m text i)
      (sym same_jobs) (by_shop m shop i (omega (arith, less, same_machines))))
