-- One word more of a flow shop.
use Rattle.std.proofs.Common.{◌≡◌, ℕ, ◌+◌, ◌*◌, ◌/◌, ◌%◌, ◌<◌, ◌≤◌, ◌||◌, Bool, true, false, cond, eqb, leb, ltb, List, [], ◌∷◌, ◌++◌, length, take, ℤ, pos, Option, Some, None, Result, Ok, Err, refl, sym, ap, subst, ◌∙◌, arith, inl, inr, is_some, length-append}
use Rattle.std.proofs.lemmas.Bool.{cases_Bool, cases_lt, leb-true, leb-false, eqb-true, eqb-false, ltb-true, ltb-false, lt-ltb, le-ltb}
use Rattle.std.proofs.lemmas.List.{get_or_append_left}
use Rattle.std.proofs.lemmas.Nat.{mod-mul-add}
use Rattle.std.proofs.Math.Nat.{mul-le-mul_right}
use Rattle.std.proofs.Math.Seq.{get_or-append_seam}
use Rattle.tf_words.specs.Words.{Word}
use Rattle.tf_words.specs.Number.{number}
use Rattle.tf_words.specs.declared.number.Number.{Number}
use Rattle.tf_read.specs.declared.fault.ReadFault.{ReadFault}
use Rattle.tf_model.specs.Outcome.{◌>>=◌}
use Rattle.tf_read.specs.Faults.{each_from, natural, number_at}
use Rattle.tf_words.specs.Scan.{IsOf}
use Rattle.tf_read.specs.FlowShop.{is_time, machine_at, machine_is, shop_number_read, shop_number, time_place, first_kept, second_kept, pairs_of}
use Rattle.tf_read.specs.Pairs.{Pairs, first, second, count, shop_wanted, AreKept, HoldsShop, HasReadShop, after_name, with_time, after_time, is_last}
use Rattle.tf_read.specs.Said.{Says}
use Rattle.tf_read.proofs.Progress.{stays_fault, stays_with, pushed_with, all_of}

-- the place of the next word
halves : (x : ℕ)
    → ((2 * x + 0) % 2 ≡ 0) × ((2 * x + 0) / 2 ≡ x) × ((2 * x + 1) % 2 ≡ 1) × ((2 * x + 1) / 2 ≡ x)
halves x = (omega arith, omega arith, omega arith, omega arith)

place : (named : Bool) (j m k : ℕ) → k < m
    → (is_time (2 * (j * m + k) + cond named 1 0) ≡ named)
    × (machine_at m (2 * (j * m + k) + cond named 1 0) ≡ k)
place true j m k lt = let h = halves (j * m + k) in
    (ap (λ (r : ℕ). eqb r 1) h.2, ap (λ (q : ℕ). q % m) h.3 ∙ mod-mul-add j m k lt)
place false j m k lt = let h = halves (j * m + k) in
    (ap (λ (r : ℕ). eqb r 1) h.0, ap (λ (q : ℕ). q % m) h.1 ∙ mod-mul-add j m k lt)

judged_is : (p : Pairs) (line : ℕ) (read : Number) (word : Word) (named : Bool)
    (r : Result ℤ ReadFault)
    → p.is_named ≡ named → p.machine < p.machines → IsOf word line read
    → cond named (natural line read) (machine_is p.machine line read) ≡ r
    → shop_number p.machines (count p) word ≡ r
judged_is p line read word named r e within of h =
    let at = place p.is_named p.job p.machines p.machine within in
    let t : is_time (count p) ≡ named = at.0 ∙ e in
    ap (λ (l : ℕ). shop_number_read p.machines (count p) l (number word.bytes)) (sym of.line_is)
    ∙ ap (shop_number_read p.machines (count p) line) (sym of.number_is) ∙ rw (t, at.1) h

-- how many words were shop_number
below : (j n m k b : ℕ) → j < n → k < m → b ≤ 1 → 2 * (j * m + k) + b < 2 * n * m
below j n m k b lt within one =
    let le : (j + 1) * m ≤ n * m = mul-le-mul_right m (let d : j + 1 ≤ n = omega arith in d) in
    omega arith

one_at_most : (named : Bool) → cond named 1 0 ≤ 1
one_at_most true = omega arith
one_at_most false = omega arith

pub count_below : (p : Pairs) → p.job < p.jobs → p.machine < p.machines → count p < shop_wanted p
count_below p lt within =
    below p.job p.jobs p.machines p.machine (cond p.is_named 1 0) lt within (one_at_most p.is_named)

pub count_all : (p : Pairs) → p.job ≡ p.jobs → p.machine ≡ 0 → p.is_named ≡ false
    → count p ≡ shop_wanted p
count_all p jobs machine named = rw (jobs, machine, named) (omega arith)

-- nothing more is wanted
stays : (fault : Option ReadFault) (p : Pairs) (seen : List Word) (word : Word)
    → (is_some fault || leb p.jobs p.job) ≡ true → (p.jobs ≤ p.job → shop_wanted p ≤ count p)
    → HoldsShop fault p (each_from (shop_number p.machines) 0 (take (shop_wanted p) seen))
    → HoldsShop fault p (each_from (shop_number p.machines) 0
    (take (shop_wanted p) (seen ++ word ∷ [])))
stays (Some e) p seen word over all h =
    stays_fault (shop_number p.machines) (shop_wanted p) seen word e h
stays None p seen word over all h = (
  h.0,
  stays_with (shop_number p.machines) (shop_wanted p) (count p) seen word h.0
      (all (leb-true p.jobs p.job over)) h.2 h.1,
  h.2,
  h.3,
  h.4,
)

pub unchanged : (p : Pairs) (seen : List Word) (word : Word)
    → (is_some p.fault || leb p.jobs p.job) ≡ true → p.job ≤ p.jobs
    → (p.jobs ≤ p.job → p.machine ≡ 0) → (p.jobs ≤ p.job → p.is_named ≡ false) → HasReadShop p seen
    → HasReadShop p (seen ++ word ∷ [])
unchanged p seen word over few machine named h =
    stays p.fault p seen word over
    (λ le. let e : count p ≡ shop_wanted p = count_all p (omega arith) (machine le) (named le) in
    omega (arith, e)) h

-- numbers with one more
at_before : (xs : List ℤ) (z : ℤ) (k : ℕ) → k < length xs
    → number_at (xs ++ z ∷ []) k ≡ number_at xs k
at_before xs z k lt = get_or_append_left xs (z ∷ []) (pos 0) k lt

at_last : (xs : List ℤ) (z : ℤ) → number_at (xs ++ z ∷ []) (length xs) ≡ z
at_last xs z = get_or-append_seam xs z [] (pos 0)

-- the times that were kept stand where they stood, with a number more
abbrev Stand : ℕ → ℕ → List ℤ → List ℤ → Type 0
Stand machines machine times all = (j : ℕ) → j < length times
    → (time_place machines machine j < length all)
    × (number_at times j ≡ number_at all (time_place machines machine j))

stand_still : (m k : ℕ) (times all : List ℤ) (z : ℤ) → Stand m k times all
    → Stand m k times (all ++ z ∷ [])
stand_still m k times all z each = λ j lt.
    let e = each j lt in
    (omega (arith, e.0, length-append all (z ∷ [])), e.1 ∙ sym (at_before all z _ e.0))

stand_more : (m k : ℕ) (times all : List ℤ) (z : ℤ) → time_place m k (length times) ≡ length all
    → Stand m k times all → Stand m k (times ++ z ∷ []) (all ++ z ∷ [])
stand_more m k times all z here each = λ j lt. elim (cases_lt j (length times)) [
  | inl before ↦
      let e = each j before in (
        omega (arith, e.0, length-append all (z ∷ [])),
        at_before times z j before ∙ e.1 ∙ sym (at_before all z _ e.0),
      )
  | inr behind ↦
      let same : j ≡ length times = omega (arith, behind, lt, length-append times (z ∷ [])) in
      let place : time_place m k j ≡ length all = ap (time_place m k) same ∙ here in (
        omega (arith, place, length-append all (z ∷ [])),
        ap (number_at (times ++ z ∷ [])) same ∙ at_last times z ∙ sym (at_last all z)
            ∙ ap (number_at (all ++ z ∷ [])) (sym place),
      )
]

stand_with : (b : Bool) (m k : ℕ) (times all : List ℤ) (z : ℤ)
    → (b ≡ true → time_place m k (length times) ≡ length all) → Stand m k times all
    → Stand m k (cond b (times ++ z ∷ []) times) (all ++ z ∷ [])
stand_with true m k times all z here each = stand_more m k times all z (here refl) each
stand_with false m k times all z here each = stand_still m k times all z each

-- how many times of a machine were kept, one time further
length_with : (b : Bool) (times : List ℤ) (z : ℤ)
    → length (cond b (times ++ z ∷ []) times) ≡ length times + cond b 1 0
length_with true times z = length-append times (z ∷ [])
length_with false times z = omega arith

tally_next : (n job machine machines wanted : ℕ) → wanted < machines → machine < machines
    → n ≡ job + cond (ltb wanted machine) 1 0
    → n + cond (eqb machine wanted) 1 0
    ≡ cond (eqb (machine + 1) machines) (job + 1) job
    + cond (ltb wanted (cond (eqb (machine + 1) machines) 0 (machine + 1))) 1 0
tally_next n job machine machines wanted there within is =
    let first : ltb wanted 0 ≡ false = le-ltb _ _ (omega arith) in
    elim (cases_Bool (eqb machine wanted)) [
      | inl e ↦
          let same : machine ≡ wanted = eqb-true machine wanted e in
          let none : ltb wanted machine ≡ false = le-ltb _ _ (omega (arith, same)) in
          let so_far : n ≡ job + 0 = rw none at is in
          elim (cases_Bool (eqb (machine + 1) machines)) [
            | inl l ↦ rw (e, l, first) (omega (arith, so_far))
            | inr l ↦
                let next : ltb wanted (machine + 1) ≡ true = lt-ltb _ _ (omega (arith, same)) in
                rw (e, l, next) (omega (arith, so_far))
          ]
      | inr e ↦
          let differ : machine ≡ wanted → ⊥ = eqb-false machine wanted e in
          elim (cases_Bool (eqb (machine + 1) machines)) [
            | inl l ↦
                let last : machine + 1 ≡ machines = eqb-true _ _ l in
                let some : ltb wanted machine ≡ true =
                lt-ltb _ _ (omega (arith, last, there, differ)) in
                let so_far : n ≡ job + 1 = rw some at is in
                rw (e, l, first) (omega (arith, so_far))
            | inr l ↦ elim (cases_Bool (ltb wanted machine)) [
              | inl b ↦
                  let so_far : n ≡ job + 1 = rw b at is in
                  let next : ltb wanted (machine + 1) ≡ true =
                  lt-ltb _ _ (omega (arith, ltb-true _ _ b)) in
                  rw (e, l, next) (omega (arith, so_far))
              | inr b ↦
                  let so_far : n ≡ job + 0 = rw b at is in
                  let next : ltb wanted (machine + 1) ≡ false =
                  le-ltb _ _ (omega (arith, ltb-false _ _ b, differ)) in
                  rw (e, l, next) (omega (arith, so_far))
            ]
          ]
    ]

-- the times that were kept, behind the name of a machine
kept_named : (p : Pairs) (machine : ℕ) (times all : List ℤ) (z : ℤ) → AreKept p machine times all
    → AreKept (record p { is_named = true }) machine times (all ++ z ∷ [])
kept_named p machine times all z kept = record {
  there = kept.there;
  tally = kept.tally;
  each = stand_still p.machines machine times all z kept.each;
}

-- and behind a time
own_place : (p : Pairs) (machine : ℕ) (times all : List ℤ)
    → time_place p.machines p.machine p.job ≡ length all → AreKept p machine times all
    → eqb p.machine machine ≡ true → time_place p.machines machine (length times) ≡ length all
own_place p machine times all here kept e =
    let same : p.machine ≡ machine = eqb-true p.machine machine e in
    let none : ltb machine p.machine ≡ false = le-ltb _ _ (omega (arith, same)) in
    let so_far : length times ≡ p.job + 0 = rw none at kept.tally in
    let job : length times ≡ p.job = omega (arith, so_far) in
    ap (λ (n : ℕ). time_place p.machines machine n) job
    ∙ ap (λ (k : ℕ). time_place p.machines k p.job) (sym same) ∙ here

kept_timed : (p : Pairs) (machine : ℕ) (times all : List ℤ) (z : ℤ) → p.machine < p.machines
    → time_place p.machines p.machine p.job ≡ length all → AreKept p machine times all
    → AreKept (after_time p (Ok z)) machine (with_time machine p.machine times z) (all ++ z ∷ [])
kept_timed p machine times all z within here kept = record {
  there = kept.there;
  tally = length_with (eqb p.machine machine) times z
      ∙ tally_next (length times) p.job p.machine p.machines machine kept.there within kept.tally;
  each = stand_with (eqb p.machine machine) p.machines machine times all z
      (own_place p machine times all here kept) kept.each;
}

-- the words with one more
read_more : (p : Pairs) (seen : List Word) (word : Word) (all : List ℤ) (line : ℕ) (read : Number)
    (named : Bool) (r : Result ℤ ReadFault)
    → (false || leb p.jobs p.job) ≡ false → p.is_named ≡ named → p.machine < p.machines
    → IsOf word line read → cond named (natural line read) (machine_is p.machine line read) ≡ r
    → count p ≡ length all → each_from (shop_number p.machines) 0 (take (shop_wanted p) seen)
    ≡ Ok all
    → each_from (shop_number p.machines) 0 (take (shop_wanted p) (seen ++ word ∷ []))
    ≡ (r >>= λ z. Ok (all ++ z ∷ []))
read_more p seen word all line read named r more e within of h c g =
    pushed_with (shop_number p.machines) (shop_wanted p) (count p) seen word all
    (count_below p (leb-false p.jobs p.job more) within) c g
    ∙ ap (λ x. x >>= λ z. Ok (all ++ z ∷ [])) (judged_is p line read word named r e within of h)

counted_as : (p : Pairs) (named : Bool) (n : ℕ) → p.is_named ≡ named → count p ≡ n
    → 2 * (p.job * p.machines + p.machine) + cond named 1 0 ≡ n
counted_as p named n e c =
    subst (λ (b : Bool). 2 * (p.job * p.machines + p.machine) + cond b 1 0 ≡ n) e c

-- the name of a machine
named_at : (fault : Option ReadFault) (p : Pairs) (seen : List Word) (word : Word) (line : ℕ)
    (read : Number) (r : Result ℤ ReadFault)
    → p.fault ≡ fault → (is_some fault || leb p.jobs p.job) ≡ false → p.is_named ≡ false
    → p.machine < p.machines → IsOf word line read → machine_is p.machine line read ≡ r
    → HoldsShop fault p (each_from (shop_number p.machines) 0 (take (shop_wanted p) seen))
    → HasReadShop (after_name p r) (seen ++ word ∷ [])
named_at (Some d) p seen word line read r f more now within of h g = absurd (let e : ⊥ = cc in e)
named_at None p seen word line read (Err e) f more now within of h g =
    read_more p seen word g.0 line read false (Err e) more now within of h g.2 g.1
named_at None p seen word line read (Ok z) f more now within of h g =
    let c : 2 * (p.job * p.machines + p.machine) + 0 ≡ length g.0 =
    counted_as p false (length g.0) now g.2 in
    subst (λ (o : Option ReadFault). HoldsShop o (record p { is_named = true })
    (each_from (shop_number p.machines) 0 (take (shop_wanted p) (seen ++ word ∷ [])))) (sym f) (
      g.0 ++ z ∷ [],
      read_more p seen word g.0 line read false (Ok z) more now within of h g.2 g.1,
      omega (arith, c, length-append g.0 (z ∷ [])),
      kept_named p (first p) p.firsts g.0 z g.3,
      kept_named p (second p) p.seconds g.0 z g.4,
    )

pub named : (p : Pairs) (seen : List Word) (word : Word) (line : ℕ) (read : Number)
    → (is_some p.fault || leb p.jobs p.job) ≡ false → p.is_named ≡ false → p.machine < p.machines
    → IsOf word line read → HasReadShop p seen
    → HasReadShop (after_name p (machine_is p.machine line read)) (seen ++ word ∷ [])
named p seen word line read more now within of g =
    named_at p.fault p seen word line read (machine_is p.machine line read) refl more now within of
    refl g

-- a time
count_next : (p : Pairs) (n : ℕ) → 2 * (p.job * p.machines + p.machine) + 1 ≡ n
    → 2 * (cond (is_last p) (p.job + 1) p.job * p.machines + cond (is_last p) 0 (p.machine + 1)) + 0
    ≡ n + 1
count_next p n c = elim (cases_Bool (is_last p)) [
  | inl e ↦ let last : p.machine + 1 ≡ p.machines = eqb-true (p.machine + 1) p.machines e in
      let whole : (p.job + 1) * p.machines ≡ p.job * p.machines + p.machines = omega arith in
      rw e (omega (arith, c, last, whole))
  | inr e ↦ rw e (omega (arith, c))
]

timed_at : (fault : Option ReadFault) (p : Pairs) (seen : List Word) (word : Word) (line : ℕ)
    (read : Number) (r : Result ℤ ReadFault)
    → p.fault ≡ fault → (is_some fault || leb p.jobs p.job) ≡ false → p.is_named ≡ true
    → p.machine < p.machines → IsOf word line read → natural line read ≡ r
    → HoldsShop fault p (each_from (shop_number p.machines) 0 (take (shop_wanted p) seen))
    → HasReadShop (after_time p r) (seen ++ word ∷ [])
timed_at (Some d) p seen word line read r f more now within of h g = absurd (let e : ⊥ = cc in e)
timed_at None p seen word line read (Err e) f more now within of h g =
    read_more p seen word g.0 line read true (Err e) more now within of h g.2 g.1
timed_at None p seen word line read (Ok z) f more now within of h g =
    let c : 2 * (p.job * p.machines + p.machine) + 1 ≡ length g.0 =
    counted_as p true (length g.0) now g.2 in
    subst (λ (o : Option ReadFault). HoldsShop o (after_time p (Ok z))
    (each_from (shop_number p.machines) 0 (take (shop_wanted p) (seen ++ word ∷ [])))) (sym f) (
      g.0 ++ z ∷ [],
      read_more p seen word g.0 line read true (Ok z) more now within of h g.2 g.1,
      count_next p (length g.0) c ∙ sym (length-append g.0 (z ∷ [])),
      kept_timed p (first p) p.firsts g.0 z within c g.3,
      kept_timed p (second p) p.seconds g.0 z within c g.4,
    )

pub timed : (p : Pairs) (seen : List Word) (word : Word) (line : ℕ) (read : Number)
    → (is_some p.fault || leb p.jobs p.job) ≡ false → p.is_named ≡ true → p.machine < p.machines
    → IsOf word line read → HasReadShop p seen
    → HasReadShop (after_time p (natural line read)) (seen ++ word ∷ [])
timed p seen word line read more now within of g =
    timed_at p.fault p seen word line read (natural line read) refl more now within of refl g

-- what is wanted stays
abbrev IsWanted : Pairs → Says → Type 0
IsWanted p says = (words : List Word) → says words ≡ pairs_of p.jobs p.machines p.pair words

pub wanted_named : (p : Pairs) (says : Says) (r : Result ℤ ReadFault) → IsWanted p says
    → IsWanted (after_name p r) says
wanted_named p says (Ok z) h = h
wanted_named p says (Err e) h = h

pub wanted_timed : (p : Pairs) (says : Says) (r : Result ℤ ReadFault) → IsWanted p says
    → IsWanted (after_time p r) says
wanted_timed p says (Ok z) h = h
wanted_timed p says (Err e) h = h

-- before the first word
none_kept : (p : Pairs) (machine : ℕ) → machine < p.machines → p.job ≡ 0 → p.machine ≡ 0
    → AreKept p machine [] []
none_kept p machine there job none =
    let first : ltb machine p.machine ≡ false = le-ltb _ _ (omega (arith, none)) in
    record { there = there; tally = rw (first, job) refl; each = λ j lt. absurd (omega (arith, lt)) }

pub none_read : (jobs machines : ℕ) (pair : Option (ℕ × ℕ)) → first_kept pair < machines
    → second_kept machines pair < machines
    → HasReadShop (record {
      jobs = jobs;
      machines = machines;
      pair = pair;
      job = 0;
      machine = 0;
      is_named = false;
      firsts = [];
      seconds = [];
      fault = None;
    }) []
unfolding each_from
none_read jobs machines pair first second = (
  [],
  ap (each_from (shop_number machines) 0) (all_of (2 * jobs * machines) [] (omega arith)),
  omega arith,
  none_kept _ _ first refl refl,
  none_kept _ _ second refl refl,
)
