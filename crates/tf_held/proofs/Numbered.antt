-- An instance of a weighted tardiness file, read from its own words alone.
use Rattle.std.proofs.Common.{◌≡◌, ℕ, ◌+◌, ◌-◌, ◌*◌, ◌%◌, ◌<◌, ◌≤◌, ℤ, pos, negsuc, Bool, true, false, cond, ltb, leb, eqb, List, [], ◌∷◌, ◌++◌, length, map, take, drop, Option, Some, None, Result, Ok, Err, refl, sym, ap, ◌∙◌, arith, length-take}
use Rattle.std.proofs.Math.Nat.{mul-add-mod_self_left}
use Rattle.std.proofs.lemmas.Bool.{true≢false}
use Rattle.std.proofs.lemmas.Bool.Decides.{nat_tests}
use Rattle.std.proofs.lemmas.List.{length-append, take_all}
use Rattle.std.proofs.Math.Seq.{drop-append_seam, take-add}
use Rattle.std.specs.List.{take-map, drop-map}
use Rattle.tf_model.specs.Limit.{most_bytes, most_jobs}
use Rattle.tf_model.specs.Outcome.{◌>>=◌, unless}
use Rattle.tf_model.specs.InstanceData.{InstanceData}
use Rattle.tf_model.proofs.Outcomes.{bind_ok}
use Rattle.tf_words.specs.Number.{number}
use Rattle.tf_words.specs.Words.{Word, words, placed_words}
use Rattle.tf_words.specs.declared.number.Number.{Number}
use Rattle.tf_words.specs.declared.number.Number.TheVariants.{NotANumber, TooLarge, Value}
use Rattle.tf_read.specs.declared.fault.ReadFault.{ReadFault}
use Rattle.tf_read.specs.declared.fault.ReadFault.TheVariants.{TooLong, EndsEarly, NoInstance, NoJobs, TooManyJobs}
use Rattle.tf_read.specs.Faults.{each_from, natural, integer}
use Rattle.tf_read.specs.WeightedTardiness.{tardiness_number, tardiness_number_read, tardiness_jobs, tardiness_of, instance_of, request_fault, weighted_tardiness}
use Rattle.tf_read.proofs.Judged.{each_cons, each_none, else_ok}
use Rattle.tf_held.proofs.Cuts.{placed_bytes}

-- ---- a word in another line, and at another place of the same kind

natural_in : (line other : ℕ) (read : Number) (z : ℤ) → natural line read ≡ Ok z
    → natural other read ≡ Ok z
natural_in line other NotANumber z h = cc
natural_in line other TooLarge z h = cc
natural_in line other (Value (negsuc n)) z h = cc
natural_in line other (Value (pos n)) z h = h

integer_in : (line other : ℕ) (read : Number) (z : ℤ) → integer line read ≡ Ok z
    → integer other read ≡ Ok z
integer_in line other NotANumber z h = cc
integer_in line other TooLarge z h = cc
integer_in line other (Value y) z h = h

read_by : (b : Bool) (line other : ℕ) (read : Number) (z : ℤ)
    → cond b (natural line read) (integer line read) ≡ Ok z
    → cond b (natural other read) (integer other read) ≡ Ok z
read_by true line other read z h = natural_in line other read z h
read_by false line other read z h = integer_in line other read z h

module _ (n : ℕ) where
  read_again : (i k : ℕ) (word other : Word) (z : ℤ) → k % (3 * n) ≡ i % (3 * n)
      → other.bytes ≡ word.bytes → tardiness_number n i word ≡ Ok z
      → tardiness_number n k other ≡ Ok z
  read_again i k word other z kind same h =
      ap (λ (bytes : List ℕ). tardiness_number_read n k other.line (number bytes)) same
      ∙ ap (λ (m : ℕ). cond (ltb m (2 * n)) (natural other.line (number word.bytes))
      (integer other.line (number word.bytes))) kind
      ∙ read_by (ltb (i % (3 * n)) (2 * n)) word.line other.line (number word.bytes) z h

  -- the words of an instance, at their places in the file
  each_again : (ahead i : ℕ) (ws others : List Word) (numbers : List ℤ)
      → map (λ (w : Word). w.bytes) others ≡ map (λ (w : Word). w.bytes) ws
      → each_from (tardiness_number n) i ws ≡ Ok numbers
      → each_from (tardiness_number n) (3 * n * ahead + i) others ≡ Ok numbers
  unfolding each_from
  each_again ahead i [] [] numbers same h = h
  each_again ahead i [] (o ∷ others) numbers same h = absurd (omega (arith, ap length same))
  each_again ahead i (w ∷ ws) [] numbers same h = absurd (omega (arith, ap length same))
  each_again ahead i (w ∷ ws) (o ∷ others) numbers same h =
      let parts = each_cons (tardiness_number n) i w ws numbers h in
      let first : tardiness_number n (3 * n * ahead + i) o ≡ Ok parts.0 =
      read_again i (3 * n * ahead + i) w o parts.0 (mul-add-mod_self_left (3 * n) ahead i)
      (ap (λ (ws : List (List ℕ)). head_or ws) same) parts.2 in
      let next : 3 * n * ahead + i + 1 ≡ 3 * n * ahead + (i + 1) = omega arith in
      let rest : each_from (tardiness_number n) (3 * n * ahead + i + 1) others ≡ Ok parts.1 =
      ap (λ (k : ℕ). each_from (tardiness_number n) k others) next
      ∙ each_again ahead (i + 1) ws others parts.1 (ap (drop 1) same) parts.3 in
      ap (λ r. r >>= λ x. each_from (tardiness_number n) (3 * n * ahead + i + 1) others
      >>= λ xs. Ok (x ∷ xs)) first
      ∙ ap (λ r. r >>= λ xs. Ok (parts.0 ∷ xs)) rest
      ∙ ap (λ (xs : List ℤ). Ok xs) parts.4
    where
      head_or : List (List ℕ) → List ℕ
      head_or [] = []
      head_or (x ∷ xs) = x

-- ---- numbers one after the other

module _ {X Y : Type 0} (read : ℕ → X → Result Y ReadFault) where
  each_append : (k m : ℕ) (xs ys : List X) (us vs : List Y) → m ≡ k + length xs
      → each_from read k xs ≡ Ok us → each_from read m ys ≡ Ok vs
      → each_from read k (xs ++ ys) ≡ Ok (us ++ vs)
  unfolding each_from
  each_append k m [] ys us vs at h g =
      let here : k ≡ m = omega (arith, at) in
      ap (λ (i : ℕ). each_from read i ys) here ∙ g
      ∙ ap (λ (zs : List Y). Ok (zs ++ vs)) (each_none read k us h)
  each_append k m (x ∷ xs) ys us vs at h g =
      let parts = each_cons read k x xs us h in
      let rest : each_from read (k + 1) (xs ++ ys) ≡ Ok (parts.1 ++ vs) =
      each_append (k + 1) m xs ys parts.1 vs (omega (arith, at)) parts.3 g in
      ap (λ r. r >>= λ z. each_from read (k + 1) (xs ++ ys) >>= λ zs. Ok (z ∷ zs)) parts.2
      ∙ ap (λ r. r >>= λ zs. Ok (parts.0 ∷ zs)) rest
      ∙ ap (λ (zs : List Y). Ok (zs ++ vs)) parts.4

  each_length : (k : ℕ) (xs : List X) (us : List Y) → each_from read k xs ≡ Ok us
      → length us ≡ length xs
  each_length k [] us h = sym (ap length (each_none read k us h))
  each_length k (x ∷ xs) us h =
      let parts = each_cons read k x xs us h in
      omega (arith, ap length parts.4, each_length (k + 1) xs parts.1 parts.3)

-- ---- the instance

unless_ok : {A : Type 0} (o : Option ReadFault) (r : Result A ReadFault) (z : A)
    → unless o r ≡ Ok z → (o ≡ None) × (r ≡ Ok z)
unless_ok None r z h = (refl, h)
unless_ok (Some e) r z h = cc

-- the instance of these numbers, where they are enough
abbrev instance_by : ℕ → List ℤ → InstanceData
instance_by n numbers = record { jobs = tardiness_jobs n numbers; arcs = []; machines = None }

-- what is in no fault of the numbers
module _ (n k : ℕ) (numbers : List ℤ) (i : InstanceData) (h : tardiness_of n k numbers ≡ Ok i) where
  abbrev given : Result InstanceData ReadFault
  given = Ok (instance_by n (drop (3 * n * (k - 1)) numbers))

  first_ok : (leb (length numbers) (3 * n * (k - 1)) ≡ false)
      × (cond (ltb (length numbers) (3 * n * k)) (Err EndsEarly) given ≡ Ok i)
  first_ok = else_ok (leb (length numbers) (3 * n * (k - 1))) NoInstance
      (cond (ltb (length numbers) (3 * n * k)) (Err EndsEarly) given) i h

  second_ok : (ltb (length numbers) (3 * n * k) ≡ false) × (given ≡ Ok i)
  second_ok = else_ok (ltb (length numbers) (3 * n * k)) EndsEarly given i first_ok.1

  enough : 3 * n * k ≤ length numbers
  enough = not_less (length numbers) (3 * n * k) second_ok.0
    where
      not_less : (a b : ℕ) → ltb a b ≡ false → b ≤ a
      not_less a b e = grind (arith, nat_tests)

  some : 3 * n * (k - 1) < length numbers
  some = not_within (length numbers) (3 * n * (k - 1)) first_ok.0
    where
      not_within : (a b : ℕ) → leb a b ≡ false → b < a
      not_within a b e = grind (arith, nat_tests)

-- the instance of numbers behind those of others
told_behind : (n k : ℕ) (before own : List ℤ) (i : InstanceData) → length before ≡ 3 * n * k
    → tardiness_of n 1 own ≡ Ok i → tardiness_of n (k + 1) (before ++ own) ≡ Ok i
told_behind n k before own i count h =
    let long : length (before ++ own) ≡ 3 * n * k + length own =
    omega (arith, length-append before own, count) in
    let back : 3 * n * (k + 1 - 1) ≡ length before =
    ap (λ m. 3 * n * m) (let same : k + 1 - 1 ≡ k = omega arith in same) ∙ sym count in
    let behind : drop (3 * n * (k + 1 - 1)) (before ++ own) ≡ own =
    ap (λ m. drop m (before ++ own)) back ∙ drop-append_seam before own in
    let alone : drop (3 * n * (1 - 1)) own ≡ own =
    ap (λ m. drop m own) (let none : 3 * n * (1 - 1) ≡ 0 = omega arith in none) in
    let one : leb (length (before ++ own)) (3 * n * (k + 1 - 1)) ≡ false =
    more (length (before ++ own)) (3 * n * (k + 1 - 1))
    (omega (arith, long, back, count, some n 1 own i h)) in
    let two : ltb (length (before ++ own)) (3 * n * (k + 1)) ≡ false =
    no_less (length (before ++ own)) (3 * n * (k + 1)) (omega (arith, long, enough n 1 own i h)) in
    let rest : Result InstanceData ReadFault =
    Ok (instance_by n (drop (3 * n * (k + 1 - 1)) (before ++ own))) in
    ap (λ b. cond b (Err NoInstance) (cond (ltb (length (before ++ own)) (3 * n * (k + 1))) (Err EndsEarly)
    rest)) one
    ∙ ap (λ b. cond b (Err EndsEarly) rest) two
    ∙ ap (λ (numbers : List ℤ). Ok (instance_by n numbers)) (behind ∙ sym alone)
    ∙ (second_ok n 1 own i h).1
  where
    more : (a b : ℕ) → b < a → leb a b ≡ false
    more a b lt = grind (arith, nat_tests)

    no_less : (a b : ℕ) → b ≤ a → ltb a b ≡ false
    no_less a b le = grind (arith, nat_tests)

-- the words of an instance by itself, and in the file
same_bytes : (n k : ℕ) (text own : List ℕ)
    → words own ≡ take (3 * n) (drop (3 * n * k) (words text))
    → map (λ (w : Word). w.bytes) (take (3 * n) (drop (3 * n * k) (placed_words text)))
    ≡ map (λ (w : Word). w.bytes) (take (3 * n * 1) (placed_words own))
same_bytes n k text own is =
    let one : 3 * n * 1 ≡ 3 * n = omega arith in
    let few : length (words own) ≤ 3 * n =
    omega (arith, ap length is, length-take (3 * n) (drop (3 * n * k) (words text))) in
    sym (take-map (λ (w : Word). w.bytes) (3 * n) (drop (3 * n * k) (placed_words text)))
    ∙ ap (take (3 * n)) (sym (drop-map (λ (w : Word). w.bytes) (3 * n * k) (placed_words text)))
    ∙ ap (λ ws. take (3 * n) (drop (3 * n * k) ws)) (placed_bytes text)
    ∙ sym is ∙ sym (take_all (3 * n) (words own) few)
    ∙ ap (take (3 * n)) (sym (placed_bytes own))
    ∙ ap (λ m. take m (map (λ (w : Word). w.bytes) (placed_words own))) (sym one)
    ∙ take-map (λ (w : Word). w.bytes) (3 * n * 1) (placed_words own)

-- the request for the next instance has no fault either
next_request : (n k : ℕ) → request_fault n k ≡ None → request_fault n (k + 1) ≡ None
next_request n k = by (eqb n 0) (ltb most_jobs n) (eqb k 0) (eqb (k + 1) 0) (not_none k)
  where
    not_none : (m : ℕ) → eqb (m + 1) 0 ≡ false
    not_none m = grind (arith, nat_tests)

    by : (a b c d : Bool) → d ≡ false
        → cond a (Some NoJobs) (cond b (Some TooManyJobs) (cond c (Some NoInstance) None)) ≡ None
        → cond a (Some NoJobs) (cond b (Some TooManyJobs) (cond d (Some NoInstance) None)) ≡ None
    by true b c d none h = h
    by false true c d none h = h
    by false false c true none h = absurd (true≢false none)
    by false false c false none h = refl

-- Where a file says an instance, and the words behind it say one by themselves, then that is the next
-- one of the file.
pub next_instance : (n k : ℕ) (text own : List ℕ) (before i : InstanceData)
    → weighted_tardiness n k text ≡ Ok before
    → words own ≡ take (3 * n) (drop (3 * n * k) (words text))
    → weighted_tardiness n 1 own ≡ Ok i → weighted_tardiness n (k + 1) text ≡ Ok i
unfolding weighted_tardiness instance_of
next_instance n k text own before i h is g =
    let file = else_ok (ltb most_bytes (length text)) TooLong
    (unless (request_fault n k) (instance_of n k (placed_words text))) before h in
    let asked = unless_ok (request_fault n k) (instance_of n k (placed_words text)) before file.1 in
    let read = bind_ok (each_from (tardiness_number n) 0 (take (3 * n * k) (placed_words text)))
    (tardiness_of n k) before asked.1 in
    let self = else_ok (ltb most_bytes (length own)) TooLong
    (unless (request_fault n 1) (instance_of n 1 (placed_words own))) i g in
    let alone = unless_ok (request_fault n 1) (instance_of n 1 (placed_words own)) i self.1 in
    let own_read = bind_ok (each_from (tardiness_number n) 0 (take (3 * n * 1) (placed_words own)))
    (tardiness_of n 1) i alone.1 in
    let count : length read.0 ≡ 3 * n * k = omega (
      arith,
      enough n k read.0 before read.2,
      each_length (tardiness_number n) 0 (take (3 * n * k) (placed_words text)) read.0 read.1,
      length-take (3 * n * k) (placed_words text),
    ) in
    let whole : length (take (3 * n * k) (placed_words text)) ≡ 3 * n * k =
    sym (each_length (tardiness_number n) 0 (take (3 * n * k) (placed_words text)) read.0 read.1)
    ∙ count in
    let same : map (λ (w : Word). w.bytes) (take (3 * n) (drop (3 * n * k) (placed_words text)))
    ≡ map (λ (w : Word). w.bytes) (take (3 * n * 1) (placed_words own)) =
    same_bytes n k text own is in
    let more : each_from (tardiness_number n) (3 * n * k)
    (take (3 * n) (drop (3 * n * k) (placed_words text))) ≡ Ok own_read.0 =
    ap (λ (m : ℕ). each_from (tardiness_number n) m
    (take (3 * n) (drop (3 * n * k) (placed_words text))))
    (let here : 3 * n * k ≡ 3 * n * k + 0 = omega arith in here)
    ∙ each_again n k 0 (take (3 * n * 1) (placed_words own))
    (take (3 * n) (drop (3 * n * k) (placed_words text))) own_read.0 same own_read.1 in
    let both : each_from (tardiness_number n) 0 (take (3 * n * (k + 1)) (placed_words text))
    ≡ Ok (read.0 ++ own_read.0) =
    ap (each_from (tardiness_number n) 0)
    (ap (λ m. take m (placed_words text)) (let far : 3 * n * (k + 1) ≡ 3 * n * k + 3 * n = omega arith in far)
    ∙ take-add (3 * n * k) (3 * n) (placed_words text))
    ∙ each_append (tardiness_number n) 0 (3 * n * k) (take (3 * n * k) (placed_words text))
    (take (3 * n) (drop (3 * n * k) (placed_words text))) read.0 own_read.0
    (omega (arith, whole)) read.1 more in
    ap (λ b. cond b (Err TooLong) (unless (request_fault n (k + 1))
    (instance_of n (k + 1) (placed_words text)))) file.0
    ∙ ap (λ o. unless o (instance_of n (k + 1) (placed_words text))) (next_request n k asked.0)
    ∙ ap (λ r. r >>= λ numbers. tardiness_of n (k + 1) numbers) both
    ∙ told_behind n k read.0 own_read.0 i count own_read.2

-- there is no instance 0
pub instance_index : (n k : ℕ) (text : List ℕ) (i : InstanceData) → weighted_tardiness n k text ≡ Ok i
    → 1 ≤ k
unfolding weighted_tardiness
instance_index n k text i h =
    let file = else_ok (ltb most_bytes (length text)) TooLong
    (unless (request_fault n k) (instance_of n k (placed_words text))) i h in
    let asked = unless_ok (request_fault n k) (instance_of n k (placed_words text)) i file.1 in
    not_zero k (by (eqb n 0) (ltb most_jobs n) (eqb k 0) asked.0)
  where
    not_zero : (m : ℕ) → eqb m 0 ≡ false → 1 ≤ m
    not_zero m e = grind (arith, nat_tests)

    by : (a b c : Bool) → cond a (Some NoJobs) (cond b (Some TooManyJobs) (cond c (Some NoInstance) None)) ≡ None
        → c ≡ false
    by true b c h = cc
    by false true c h = cc
    by false false true h = cc
    by false false false h = refl

-- nor are there more jobs than there may be
pub instance_jobs : (n k : ℕ) (text : List ℕ) (i : InstanceData) → weighted_tardiness n k text ≡ Ok i
    → n ≤ most_jobs
unfolding weighted_tardiness
instance_jobs n k text i h =
    let file = else_ok (ltb most_bytes (length text)) TooLong
    (unless (request_fault n k) (instance_of n k (placed_words text))) i h in
    let asked = unless_ok (request_fault n k) (instance_of n k (placed_words text)) i file.1 in
    few n (by (eqb n 0) (ltb most_jobs n) (eqb k 0) asked.0)
  where
    few : (m : ℕ) → ltb most_jobs m ≡ false → m ≤ most_jobs
    few m e = grind (arith, nat_tests)

    by : (a b c : Bool) → cond a (Some NoJobs) (cond b (Some TooManyJobs) (cond c (Some NoInstance) None)) ≡ None
        → b ≡ false
    by true b c h = cc
    by false true c h = cc
    by false false c h = refl
