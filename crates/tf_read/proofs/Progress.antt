-- One word more of an instance.
use Rattle.std.proofs.Common.{◌≡◌, ℕ, suc, ◌+◌, ◌*◌, ◌<◌, ◌≤◌, ◌||◌, true, false, cond, leb, min, List, [], ◌∷◌, ◌++◌, length, take, drop, ℤ, Option, Some, None, Result, Ok, Err, refl, sym, ap, ◌∙◌, arith, inl, inr, is_some, length-take, length-append}
use Rattle.std.proofs.lemmas.Bool.{cases_Bool, cases_lt, leb-true, leb-false}
use Rattle.std.proofs.lemmas.List.{append-nil, take-append-drop, take-append-le, drop-append-le}
use Rattle.std.proofs.Math.ListN.{drop_of_length-le}
use Rattle.tf_words.specs.Words.{Word}
use Rattle.tf_words.specs.Number.{number}
use Rattle.tf_words.specs.declared.number.Number.{Number}
use Rattle.tf_read.specs.declared.fault.ReadFault.{ReadFault}
use Rattle.tf_model.specs.Outcome.{◌>>=◌}
use Rattle.tf_read.specs.Faults.{each_from}
use Rattle.tf_words.specs.Scan.{IsOf}
use Rattle.tf_read.specs.WeightedTardiness.{tardiness_number_read, tardiness_number}
use Rattle.tf_read.specs.Numbers.{Progress, skipped, tardiness_wanted, HoldsTardiness, HasReadTardiness}
use Rattle.tf_read.proofs.Judged.{each_cons, each_none}

behind_first : {Y : Type 0} (first : Y) (r : Result (List Y) ReadFault) (s : Result Y ReadFault)
    → ((r >>= λ ys. s >>= λ y. Ok (ys ++ y ∷ [])) >>= λ others. Ok (first ∷ others))
    ≡ ((r >>= λ others. Ok (first ∷ others)) >>= λ ys. s >>= λ y. Ok (ys ++ y ∷ []))
behind_first first (Ok ys) (Ok y) = refl
behind_first first (Ok ys) (Err e) = refl
behind_first first (Err e) s = refl

behind_step : {Y : Type 0} (r : Result Y ReadFault) (rest more : Result (List Y) ReadFault)
    (s : Result Y ReadFault)
    → more ≡ (rest >>= λ ys. s >>= λ y. Ok (ys ++ y ∷ []))
    → (r >>= λ first. more >>= λ others. Ok (first ∷ others))
    ≡ ((r >>= λ first. rest >>= λ others. Ok (first ∷ others)) >>= λ ys. s
    >>= λ y. Ok (ys ++ y ∷ []))
behind_step (Ok first) rest more s e = ap (λ m. m >>= λ others. Ok (first ∷ others)) e
    ∙ behind_first first rest s
behind_step (Err d) rest more s e = refl

-- what is read of one element more
pub each_push : {X Y : Type 0} (read : ℕ → X → Result Y ReadFault) (k : ℕ) (xs : List X) (x : X)
    → each_from read k (xs ++ x ∷ [])
    ≡ (each_from read k xs >>= λ ys. read (k + length xs) x >>= λ y. Ok (ys ++ y ∷ []))
unfolding each_from
each_push read k [] x =
    ap (λ (n : ℕ). read n x >>= λ y. Ok (y ∷ [])) (let e : k ≡ k + 0 = omega arith in e)
each_push read k (z ∷ zs) x =
    let count : k + 1 + length zs ≡ k + suc (length zs) = omega arith in
    behind_step (read k z) (each_from read (k + 1) zs) (each_from read (k + 1) (zs ++ x ∷ []))
    (read (k + suc (length zs)) x)
    (each_push read (k + 1) zs x
    ∙ ap (λ (n : ℕ). each_from read (k + 1) zs >>= λ ys. read n x >>= λ y. Ok (ys ++ y ∷ []))
    count)

pub each_length : {X Y : Type 0} (read : ℕ → X → Result Y ReadFault) (k : ℕ) (xs : List X)
    (ys : List Y)
    → each_from read k xs ≡ Ok ys → length ys ≡ length xs
each_length read k [] ys h = sym (ap length (each_none read k ys h))
each_length read k (x ∷ xs) ys h =
    let r = each_cons read k x xs ys h in
    let more : length r.1 ≡ length xs = each_length read (k + 1) xs r.1 r.3 in
    omega (arith, ap length r.4, more)

-- a word behind those that are wanted changes nothing
full : {X : Type 0} (m : ℕ) (xs : List X) (x : X) → m ≤ length xs
    → take m (xs ++ x ∷ []) ≡ take m xs
full m xs x le = take-append-le m xs (x ∷ []) le

pub all_of : {X : Type 0} (m : ℕ) (xs : List X) → length xs ≤ m → take m xs ≡ xs
all_of m xs le = sym (append-nil (take m xs))
    ∙ ap (λ ys. take m xs ++ ys) (sym (drop_of_length-le xs le)) ∙ take-append-drop m xs

one_more : {X : Type 0} (m : ℕ) (xs : List X) (x : X) → length xs < m
    → take m (xs ++ x ∷ []) ≡ take m xs ++ x ∷ []
one_more m xs x lt = all_of m (xs ++ x ∷ []) (omega (arith, length-append xs (x ∷ [])))
    ∙ ap (λ ys. ys ++ x ∷ []) (sym (all_of m xs (omega arith)))

-- a fault stays the first
pub stays_fault : {X Y : Type 0} (read : ℕ → X → Result Y ReadFault) (m : ℕ) (xs : List X) (x : X)
    (e : ReadFault)
    → each_from read 0 (take m xs) ≡ Err e → each_from read 0 (take m (xs ++ x ∷ [])) ≡ Err e
stays_fault read m xs x e h = elim (cases_lt (length xs) m) [
  | inl lt ↦ ap (each_from read 0) (one_more m xs x lt) ∙ each_push read 0 (take m xs) x
      ∙ ap (λ r. r >>= λ ys. read (0 + length (take m xs)) x >>= λ y. Ok (ys ++ y ∷ [])) h
  | inr le ↦ ap (each_from read 0) (full m xs x le) ∙ h
]

-- the number of words that were tardiness_number
pub counted : {X Y : Type 0} (read : ℕ → X → Result Y ReadFault) (m : ℕ) (xs : List X) (ys : List Y)
    → each_from read 0 (take m xs) ≡ Ok ys → length ys ≡ min m (length xs)
counted read m xs ys h = each_length read 0 (take m xs) ys h ∙ length-take m xs

-- what is read with an element that is wanted
pub pushed_with : {X Y : Type 0} (read : ℕ → X → Result Y ReadFault) (m c : ℕ) (xs : List X) (x : X)
    (all : List Y)
    → c < m → c ≡ length all → each_from read 0 (take m xs) ≡ Ok all
    → each_from read 0 (take m (xs ++ x ∷ [])) ≡ (read c x >>= λ z. Ok (all ++ z ∷ []))
pushed_with read m c xs x all lt count h =
    let l : length all ≡ min m (length xs) = counted read m xs all h in
    let short : length xs < m = omega arith in
    let k : 0 + length (take m xs) ≡ c = omega (arith, each_length read 0 (take m xs) all h) in
    ap (each_from read 0) (one_more m xs x short) ∙ each_push read 0 (take m xs) x
    ∙ ap (λ r. r >>= λ ys. read (0 + length (take m xs)) x >>= λ z. Ok (ys ++ z ∷ [])) h
    ∙ ap (λ (n : ℕ). read n x >>= λ z. Ok (all ++ z ∷ [])) k

-- and with one that is not
pub stays_with : {X Y : Type 0} (read : ℕ → X → Result Y ReadFault) (m c : ℕ) (xs : List X) (x : X)
    (all : List Y)
    → m ≤ c → c ≡ length all → each_from read 0 (take m xs) ≡ Ok all
    → each_from read 0 (take m (xs ++ x ∷ [])) ≡ Ok all
stays_with read m c xs x all le count h =
    let l : length all ≡ min m (length xs) = counted read m xs all h in
    let long : m ≤ length xs = omega arith in
    ap (each_from read 0) (full m xs x long) ∙ h

stays : (fault : Option ReadFault) (p : Progress) (seen : List Word) (word : Word)
    → (is_some fault || leb (tardiness_wanted p) p.count) ≡ true
    → HoldsTardiness fault p (each_from (tardiness_number p.jobs) 0
    (take (tardiness_wanted p) seen))
    → HoldsTardiness fault p (each_from (tardiness_number p.jobs) 0
    (take (tardiness_wanted p) (seen ++ word ∷ [])))
stays (Some e) p seen word over h =
    stays_fault (tardiness_number p.jobs) (tardiness_wanted p) seen word e h
stays None p seen word over h = (
  h.0,
  stays_with (tardiness_number p.jobs) (tardiness_wanted p) p.count seen word h.0
      (leb-true (tardiness_wanted p) p.count over) h.2 h.1,
  h.2,
  h.3,
)

pub unchanged : (p : Progress) (seen : List Word) (word : Word)
    → (is_some p.fault || leb (tardiness_wanted p) p.count) ≡ true → HasReadTardiness p seen
    → HasReadTardiness p (seen ++ word ∷ [])
unchanged p seen word over h = stays p.fault p seen word over h

pushed : (p : Progress) (seen : List Word) (word : Word) (all : List ℤ)
    → p.count < tardiness_wanted p
    → p.count ≡ length all → each_from (tardiness_number p.jobs) 0 (take (tardiness_wanted p) seen)
    ≡ Ok all
    → each_from (tardiness_number p.jobs) 0 (take (tardiness_wanted p) (seen ++ word ∷ []))
    ≡ (tardiness_number p.jobs p.count word >>= λ z. Ok (all ++ z ∷ []))
pushed p seen word all lt count h =
    pushed_with (tardiness_number p.jobs) (tardiness_wanted p) p.count seen word all lt count h

-- the word's number by its line and its value
read_as : (n i line : ℕ) (read : Number) (word : Word) (r : Result ℤ ReadFault)
    → IsOf word line read → tardiness_number_read n i line read ≡ r → tardiness_number n i word ≡ r
read_as n i line read word r of h =
    ap (λ (l : ℕ). tardiness_number_read n i l (number word.bytes)) (sym of.line_is)
    ∙ ap (tardiness_number_read n i line) (sym of.number_is) ∙ h

fails_at : (fault : Option ReadFault) (p : Progress) (seen : List Word) (word : Word) (line : ℕ)
    (read : Number) (e : ReadFault)
    → (is_some fault || leb (tardiness_wanted p) p.count) ≡ false → IsOf word line read
    → tardiness_number_read p.jobs p.count line read ≡ Err e
    → HoldsTardiness fault p (each_from (tardiness_number p.jobs) 0
    (take (tardiness_wanted p) seen))
    → each_from (tardiness_number p.jobs) 0 (take (tardiness_wanted p) (seen ++ word ∷ [])) ≡ Err e
fails_at (Some d) p seen word line read e more of h g = cc
fails_at None p seen word line read e more of h g =
    pushed p seen word g.0 (leb-false (tardiness_wanted p) p.count more) g.2 g.1
    ∙ ap (λ r. r >>= λ z. Ok (g.0 ++ z ∷ []))
    (read_as p.jobs p.count line read word (Err e) of h)

pub fails : (p : Progress) (seen : List Word) (word : Word) (line : ℕ) (read : Number)
    (e : ReadFault)
    → (is_some p.fault || leb (tardiness_wanted p) p.count) ≡ false → IsOf word line read
    → tardiness_number_read p.jobs p.count line read ≡ Err e → HasReadTardiness p seen
    → HasReadTardiness (record p { fault = Some e }) (seen ++ word ∷ [])
fails p seen word line read e more of h g = fails_at p.fault p seen word line read e more of h g

-- the numbers of the instance with one more
kept : (skipped count : ℕ) (numbers all : List ℤ) (z : ℤ) → count ≡ length all
    → numbers ≡ drop skipped all
    → cond (leb skipped count) (numbers ++ z ∷ []) numbers ≡ drop skipped (all ++ z ∷ [])
kept skipped count numbers all z c n = elim (cases_Bool (leb skipped count)) [
  | inl e ↦ let le : skipped ≤ length all = let d : skipped ≤ count = leb-true skipped count e in
      omega arith in rw e (ap (λ ys. ys ++ z ∷ []) n ∙ sym (drop-append-le skipped all (z ∷ []) le))
  | inr e ↦ let lt : count < skipped = leb-false skipped count e in
      rw e (n ∙ drop_of_length-le all (omega arith)
      ∙ sym (drop_of_length-le (all ++ z ∷ []) (omega (arith, length-append all (z ∷ [])))))
]

keeps_at : (fault : Option ReadFault) (p : Progress) (seen : List Word) (word : Word) (line : ℕ)
    (read : Number) (z : ℤ)
    → (is_some fault || leb (tardiness_wanted p) p.count) ≡ false → IsOf word line read
    → tardiness_number_read p.jobs p.count line read ≡ Ok z
    → HoldsTardiness fault p (each_from (tardiness_number p.jobs) 0
    (take (tardiness_wanted p) seen))
    → HoldsTardiness fault
    (record p {
      count = p.count + 1;
      numbers = cond (leb (skipped p) p.count) (p.numbers ++ z ∷ []) p.numbers;
    })
    (each_from (tardiness_number p.jobs) 0 (take (tardiness_wanted p) (seen ++ word ∷ [])))
keeps_at (Some d) p seen word line read z more of h g = absurd (let f : ⊥ = cc in f)
keeps_at None p seen word line read z more of h g = (
  g.0 ++ z ∷ [],
  pushed p seen word g.0 (leb-false (tardiness_wanted p) p.count more) g.2 g.1
      ∙ ap (λ r. r >>= λ y. Ok (g.0 ++ y ∷ [])) (read_as p.jobs p.count line read word (Ok z) of h),
  omega (arith, g.2, length-append g.0 (z ∷ [])),
  kept (skipped p) p.count p.numbers g.0 z g.2 g.3,
)

pub keeps : (p : Progress) (seen : List Word) (word : Word) (line : ℕ) (read : Number) (z : ℤ)
    → (is_some p.fault || leb (tardiness_wanted p) p.count) ≡ false → IsOf word line read
    → tardiness_number_read p.jobs p.count line read ≡ Ok z → HasReadTardiness p seen
    → HasReadTardiness (record
    p {
      count = p.count + 1;
      numbers = cond (leb (skipped p) p.count) (p.numbers ++ z ∷ []) p.numbers;
    })
    (seen ++ word ∷ [])
keeps p seen word line read z more of h g = keeps_at p.fault p seen word line read z more of h g

-- before the first word
pub none_read : (jobs index : ℕ)
    → HasReadTardiness
    (record { jobs = jobs; index = index; count = 0; numbers = []; fault = None }) []
unfolding each_from
none_read jobs index = (
  [],
  ap (each_from (tardiness_number jobs) 0) (all_of (3 * jobs * index) [] (omega arith)),
  refl,
  sym (drop_of_length-le [] (omega arith)),
)
