-- The instance of the numbers that were read.
use Rattle.std.proofs.Common.{◌≡◌, ℕ, zero, suc, ◌+◌, ◌-◌, ◌*◌, ◌%◌, ◌<◌, ◌≤◌, Bool, false, cond, leb, ltb, List, [], ◌∷◌, ◌++◌, length, map, take, drop, ℤ, pos, negsuc, ◌≤ℤ◌, Option, Some, None, Result, Ok, Err, refl, sym, ap, subst, ◌∙◌, arith, inl, inr, IfOk, position, mul-le-mul_left}
use Rattle.std.specs.List.{range_with_len, position_or_len}
use Rattle.std.specs.Option.{option_or}
use Rattle.std.proofs.lemmas.Bool.{cases_Bool, leb-true, leb-false, ltb-false, lt-leb, le-ltb}
use Rattle.std.proofs.lemmas.Int.{ints}
use Rattle.std.proofs.lemmas.List.{get_or-drop}
use Rattle.std.proofs.lemmas.List.FromFn.{length-map-range_with_len}
use Rattle.std.proofs.Math.Nat.{mul-suc, mul-add-mod_self_left, mod-eq_of_lt}
use Rattle.tf_words.specs.Words.{Word}
use Rattle.tf_words.specs.declared.number.Number.{Number}
use Rattle.tf_words.specs.declared.number.Number.TheVariants.{Value}
use Rattle.tf_model.specs.JobFields.{JobFields}
use Rattle.tf_model.specs.InstanceData.{IsInstance, is_negative, is_beyond, has_negative, has_beyond}
use Rattle.tf_model.specs.Limit.{most_jobs}
use Rattle.tf_read.specs.declared.fault.ReadFault.{ReadFault}
use Rattle.tf_read.specs.declared.fault.ReadFault.TheVariants.{NoInstance, EndsEarly}
use Rattle.tf_model.specs.Outcome.{◌>>=◌}
use Rattle.tf_read.specs.Faults.{each_from, integer, number_at}
use Rattle.tf_read.specs.WeightedTardiness.{tardiness_number_read, tardiness_number, tardiness_job, tardiness_jobs, tardiness_of, instance_of}
use Rattle.tf_read.specs.Numbers.{Progress, skipped, tardiness_wanted, tardiness_missing, with_number, HoldsTardiness, HasReadTardiness, AreInRange}
use Rattle.tf_words.specs.Scan.{IsInRange}
use Rattle.tf_read.proofs.Judged.{in_range, or_false, natural_within, integer_within}
use Rattle.tf_model.proofs.Judged.{past_end, judged as is_instance}

-- how a whole reading goes on
pub goes_on : (n k : ℕ) (seen : List Word) (r : Result (List ℤ) ReadFault)
    → each_from (tardiness_number n) 0 (take (3 * n * k) seen) ≡ r
    → instance_of n k seen ≡ (r >>= λ numbers. tardiness_of n k numbers)
unfolding instance_of
goes_on n k seen r h = ap (λ x. x >>= λ numbers. tardiness_of n k numbers) h

judge_end : (n k count : ℕ) (all : List ℤ) (e : ReadFault) → count ≡ length all
    → cond (leb count (3 * n * (k - 1))) (Some NoInstance)
    (cond (ltb count (3 * n * k)) (Some EndsEarly) None) ≡ Some e
    → tardiness_of n k all ≡ Err e
judge_end n k count all e c h = elim (cases_Bool (leb (length all) (3 * n * (k - 1)))) [
  | inl early ↦ let same : NoInstance ≡ e = let d : Some NoInstance ≡ Some e = rw (c, early) at h in
      cc in rw early (ap (λ x. Err x) same)
  | inr late ↦ elim (cases_Bool (ltb (length all) (3 * n * k))) [
    | inl cut ↦ let same : EndsEarly ≡ e = let d : Some EndsEarly ≡ Some e =
        rw (c, late, cut) at h in cc in rw (late, cut) (ap (λ x. Err x) same)
    | inr whole ↦ absurd (let d : None ≡ Some e = rw (c, late, whole) at h in let f : ⊥ = cc in f)
  ]
]

missing_at : (fault : Option ReadFault) (p : Progress) (seen : List Word) (e : ReadFault)
    → HoldsTardiness fault p (each_from (tardiness_number p.jobs) 0
    (take (tardiness_wanted p) seen))
    → option_or fault
    (cond (leb p.count (skipped p)) (Some NoInstance)
    (cond (ltb p.count (tardiness_wanted p)) (Some EndsEarly) None)) ≡ Some e
    → instance_of p.jobs p.index seen ≡ Err e
missing_at (Some d) p seen e h m = goes_on p.jobs p.index seen (Err d) h
    ∙ (let same : d ≡ e = cc in ap (λ x. Err x) same)
missing_at None p seen e h m = goes_on p.jobs p.index seen (Ok h.0) h.1
    ∙ judge_end p.jobs p.index p.count h.0 e h.2 m

pub missing_is : (p : Progress) (seen : List Word) (e : ReadFault) → HasReadTardiness p seen
    → tardiness_missing p ≡ Some e → instance_of p.jobs p.index seen ≡ Err e
missing_is p seen e h m = missing_at p.fault p seen e h m

-- the numbers of a text that are all there
record IsWhole (p : Progress) (seen : List Word) : Type 0 where
  all : List ℤ
  read : each_from (tardiness_number p.jobs) 0 (take (tardiness_wanted p) seen) ≡ Ok all
  count : p.count ≡ length all
  numbers : p.numbers ≡ drop (skipped p) all
  begun : skipped p < length all
  ended : tardiness_wanted p ≤ length all

whole_at : (fault : Option ReadFault) (p : Progress) (seen : List Word)
    → HoldsTardiness fault p (each_from (tardiness_number p.jobs) 0
    (take (tardiness_wanted p) seen))
    → option_or fault
    (cond (leb p.count (skipped p)) (Some NoInstance)
    (cond (ltb p.count (tardiness_wanted p)) (Some EndsEarly) None)) ≡ None
    → IsWhole p seen
whole_at (Some d) p seen h m = absurd (let f : ⊥ = cc in f)
whole_at None p seen h m = elim (cases_Bool (leb p.count (skipped p))) [
  | inl early ↦ absurd (let d : Some NoInstance ≡ None = rw early at m in let f : ⊥ = cc in f)
  | inr late ↦ elim (cases_Bool (ltb p.count (tardiness_wanted p))) [
    | inl cut ↦ absurd (let d : Some EndsEarly ≡ None = rw (late, cut) at m in let f : ⊥ = cc in f)
    | inr all ↦
        let begun : skipped p < p.count = leb-false p.count (skipped p) late in
        let ended : tardiness_wanted p ≤ p.count = ltb-false p.count (tardiness_wanted p) all in
        record {
          all = h.0;
          read = h.1;
          count = h.2;
          numbers = h.3;
          begun = omega (arith, h.2);
          ended = omega (arith, h.2);
        }
  ]
]

at_own : (numbers : List ℤ) (start i : ℕ)
    → number_at (drop start numbers) i ≡ number_at numbers (start + i)
at_own numbers start i = get_or-drop start numbers i (pos 0)

pub whole_is : (p : Progress) (seen : List Word) → HasReadTardiness p seen
    → tardiness_missing p ≡ None
    → instance_of p.jobs p.index seen
    ≡ Ok (record { jobs = tardiness_jobs p.jobs p.numbers; arcs = []; machines = None })
whole_is p seen h m =
    let w = whole_at p.fault p seen h m in
    let late : leb (length w.all) (3 * p.jobs * (p.index - 1)) ≡ false = lt-leb _ _ w.begun in
    let long : ltb (length w.all) (3 * p.jobs * p.index) ≡ false = le-ltb _ _ w.ended in
    let own : tardiness_jobs p.jobs (drop (skipped p) w.all) ≡ tardiness_jobs p.jobs p.numbers =
    ap (tardiness_jobs p.jobs) (sym w.numbers) in
    goes_on p.jobs p.index seen (Ok w.all) w.read
    ∙ rw (late, long) (ap (λ js. Ok (record { jobs = js; arcs = []; machines = None })) own)

-- a place within the instance is that among its own words
place : (n k j : ℕ) → j < 3 * n → (3 * n * (k - 1) + j) % (3 * n) ≡ j
place n k j lt = mul-add-mod_self_left (3 * n) (k - 1) j ∙ mod-eq_of_lt lt

-- a number that is not negative is read wherever it stands
pub natural_anywhere : (n i line : ℕ) (number : Number) (z : ℤ) → number ≡ Value z → pos 0 ≤ℤ z
    → tardiness_number_read n i line number ≡ Ok z
natural_anywhere n i line number (negsuc m) is some = absurd (omega (arith, ints, some))
natural_anywhere n i line number (pos m) is some =
    rw is (elim (cases_Bool (ltb (i % (3 * n)) (2 * n))) [
      | inl early ↦ rw early refl
      | inr late ↦ rw late refl
    ])

-- a number that is read is read as well where a due date stands
pub signed_late : (n i line : ℕ) (number : Number) (z : ℤ) → integer line number ≡ Ok z
    → 2 * n ≤ i % (3 * n) → tardiness_number_read n i line number ≡ Ok z
signed_late n i line number z is late =
    let here : ltb (i % (3 * n)) (2 * n) ≡ false = le-ltb _ _ late in rw here is

-- a number that is read is within the limit, and not negative where a time or a weight stands
read_number : (n i line : ℕ) (number : Number) (z : ℤ) → IsInRange number
    → tardiness_number_read n i line number ≡ Ok z
    → (is_beyond z ≡ false) × (i % (3 * n) < 2 * n → is_negative z ≡ false)
read_number n i line number z range h = elim (cases_Bool (ltb (i % (3 * n)) (2 * n))) [
  | inl early ↦
      let r = natural_within line number z (rw early at h) in
      (in_range z (subst IsInRange r.0 range), λ lt. r.1)
  | inr late ↦
      let e = integer_within line number z (rw late at h) in
      (in_range z (subst IsInRange e range), λ lt. absurd (omega (arith, ltb-false _ _ late, lt)))
]

-- numbers with one more
none_there : (n : ℕ) → AreInRange n []
none_there n = record { at_most = λ i. refl; natural = λ i lt. refl }

pub no_numbers : (n : ℕ) (numbers : List ℤ) → numbers ≡ [] → AreInRange n numbers
no_numbers n numbers none = subst (AreInRange n) (sym none) (none_there n)

at_end : (P : ℤ → Type 0) (numbers : List ℤ) (z : ℤ) (i : ℕ)
    → (i < length numbers → P (number_at numbers i)) → (i ≡ length numbers → P z) → P (pos 0)
    → P (number_at (numbers ++ z ∷ []) i)
at_end P [] z zero before here after = here refl
at_end P [] z (suc i) before here after = after
at_end P (y ∷ ys) z zero before here after = before (omega arith)
at_end P (y ∷ ys) z (suc i) before here after =
    at_end P ys z i (λ lt. before (omega arith)) (λ e. here (ap suc e)) after

numbers_more : (n : ℕ) (numbers : List ℤ) (z : ℤ) → AreInRange n numbers → is_beyond z ≡ false
    → (length numbers < 2 * n → is_negative z ≡ false) → AreInRange n (numbers ++ z ∷ [])
numbers_more n numbers z all beyond negative = record {
  at_most = λ i. at_end (λ y. is_beyond y ≡ false) numbers z i (λ lt. all.at_most i) (λ e. beyond)
      refl;
  natural = λ i lt. at_end (λ y. is_negative y ≡ false) numbers z i (λ in'. all.natural i lt)
      (λ e. negative (omega (arith, e))) refl;
}

kept_at : (p : Progress) (line : ℕ) (number : Number) (z : ℤ) → IsInRange number
    → p.count < tardiness_wanted p → tardiness_wanted p ≡ skipped p + 3 * p.jobs
    → length p.numbers ≡ p.count - skipped p
    → AreInRange p.jobs p.numbers → tardiness_number_read p.jobs p.count line number ≡ Ok z
    → AreInRange p.jobs (with_number p z).numbers
kept_at p line number z range more own tally all h = elim (cases_Bool (leb (skipped p) p.count)) [
  | inl own' ↦
      let le : skipped p ≤ p.count = leb-true _ _ own' in
      let r = read_number p.jobs p.count line number z range h in
      let there : (skipped p + length p.numbers) % (3 * p.jobs) ≡ length p.numbers =
      place p.jobs p.index (length p.numbers) (omega (arith, tally, more, own, le)) in
      let count : p.count ≡ skipped p + length p.numbers = omega (arith, tally, le) in
      rw own' (numbers_more p.jobs p.numbers z all r.0
      (λ lt. r.1 (omega (arith, ap (λ (c : ℕ). c % (3 * p.jobs)) count, there, lt))))
  | inr before ↦ rw before all
]

pub number_kept : (p : Progress) (line : ℕ) (number : Number) (r : Result ℤ ReadFault)
    → IsInRange number → p.count < tardiness_wanted p → tardiness_wanted p ≡ skipped p + 3 * p.jobs
    → length p.numbers ≡ p.count - skipped p
    → AreInRange p.jobs p.numbers → tardiness_number_read p.jobs p.count line number ≡ r
    → IfOk r (λ z. AreInRange p.jobs (with_number p z).numbers)
number_kept p line number (Ok z) range more own tally all h =
    kept_at p line number z range more own tally all h
number_kept p line number (Err e) range more own tally all h = tt

-- no job that is made from a range passes
none_made : (test : JobFields → Bool) (f : ℕ → JobFields) (a n : ℕ)
    → ((j : ℕ) → j < a + n → test (f j) ≡ false)
    → position_or_len test (map f (range_with_len a n)) ≡ length (map f (range_with_len a n))
none_made test f a zero h = refl
none_made test f a (suc n) h =
    past_end test (f a) (map f (range_with_len (a + 1) n)) (h a (omega arith))
    (none_made test f (a + 1) n (λ j lt. h j (omega arith)))

pub none_at : (test : JobFields → Bool) (f : ℕ → JobFields) (n : ℕ)
    → ((j : ℕ) → j < n → test (f j) ≡ false) → position test (map f (range_with_len 0 n)) ≡ None
none_at test f n h =
    let e = none_made test f 0 n (λ j lt. h j (omega arith)) in
    let t : ltb (length (map f (range_with_len 0 n))) (length (map f (range_with_len 0 n)))
    ≡ false = le-ltb _ _ (omega arith) in
    rw (e, t) refl

-- the words up to an instance's last
pub all_before : (n k : ℕ) → 0 < k → 3 * n * (k - 1) + 3 * n ≡ 3 * n * k
all_before n zero lt = absurd (omega arith)
all_before n (suc k) lt = let e : suc k - 1 ≡ k = omega arith in rw e (sym (mul-suc (3 * n) k))

pub all_near : (n k : ℕ) → n ≤ most_jobs → 0 < k → k < 4294967296
    → 3 * n * (k - 1) + 3 * n < 4611686018427387904
all_near n k few some near =
    let whole : 3 * n * k ≤ 3 * n * 4294967296 =
    mul-le-mul_left (3 * n) (let le : k ≤ 4294967296 = omega arith in le) in
    omega (arith, all_before n k some, whole)

block : (n k : ℕ) → 3 * n * (k - 1) < 3 * n * k → 3 * n * k ≡ 3 * n * (k - 1) + 3 * n
block n zero lt = absurd (omega arith)
block n (suc k) lt = let e : suc k - 1 ≡ k = omega arith in rw e (mul-suc (3 * n) k)

job_ok : (n : ℕ) (numbers : List ℤ) → AreInRange n numbers → (j : ℕ) → j < n
    → (has_negative (tardiness_job n numbers j) ≡ false)
    × (has_beyond (tardiness_job n numbers j) ≡ false)
job_ok n numbers all j lt = (
  or_false _ _ (or_false _ _ (all.natural j (omega arith)) (all.natural (n + j) (omega arith)))
      refl,
  or_false _ _
      (or_false _ _ (or_false _ _ (all.at_most j) (all.at_most (n + j))) (all.at_most (2 * n + j)))
      refl,
)

pub whole_judged : (n : ℕ) (numbers : List ℤ) → 0 < n → n ≤ most_jobs → AreInRange n numbers
    → IsInstance (record { jobs = tardiness_jobs n numbers; arcs = []; machines = None })
whole_judged n numbers some few all =
    let count : length (tardiness_jobs n numbers) ≡ n =
    length-map-range_with_len (tardiness_job n numbers) 0 n in
    is_instance (record { jobs = tardiness_jobs n numbers; arcs = []; machines = None }) (record {
      some = omega (arith, count);
      few = omega (arith, count);
      machines = refl;
      arcs = omega arith;
      negative = none_at has_negative (tardiness_job n numbers) n
          (λ j lt. (job_ok n numbers all j lt).0);
      beyond = none_at has_beyond (tardiness_job n numbers) n
          (λ j lt. (job_ok n numbers all j lt).1);
      bad_arc = refl;
    })

-- nothing is missing
none_missing : (fault : Option ReadFault) (p : Progress)
    → option_or fault
    (cond (leb p.count (skipped p)) (Some NoInstance)
    (cond (ltb p.count (tardiness_wanted p)) (Some EndsEarly) None)) ≡ None
    → tardiness_wanted p ≤ p.count
none_missing (Some d) p m = absurd (let f : ⊥ = cc in f)
none_missing None p m = elim (cases_Bool (leb p.count (skipped p))) [
  | inl early ↦ absurd (let d : Some NoInstance ≡ None = rw early at m in let f : ⊥ = cc in f)
  | inr late ↦ elim (cases_Bool (ltb p.count (tardiness_wanted p))) [
    | inl cut ↦ absurd (let d : Some EndsEarly ≡ None = rw (late, cut) at m in let f : ⊥ = cc in f)
    | inr whole ↦ ltb-false _ _ whole
  ]
]

pub all_read : (p : Progress) → tardiness_missing p ≡ None → tardiness_wanted p ≤ p.count
all_read p m = none_missing p.fault p m
