-- The instance of the times that were read.
use Rattle.std.proofs.Common.{◌≡◌, ℕ, zero, suc, ◌+◌, ◌*◌, ◌<◌, ◌≤◌, true, false, cond, eqb, ltb, List, [], ◌∷◌, ◌++◌, length, map, take, ℤ, Option, Some, None, Result, Ok, Err, refl, sym, ap, subst, ◌∙◌, arith, inl, inr}
use Rattle.std.specs.List.{range_with_len}
use Rattle.std.specs.Option.{option_or}
use Rattle.std.proofs.lemmas.Bool.{cases_Bool, ltb-false, ltb-true, le-ltb, lt-ltb}
use Rattle.std.proofs.lemmas.List.FromFn.{length-map-range_with_len}
use Rattle.tf_words.specs.Words.{Word}
use Rattle.tf_model.specs.InstanceData.{IsInstance, has_negative, has_beyond, count_fault}
use Rattle.tf_model.specs.Limit.{most_jobs, most_machines}
use Rattle.tf_read.specs.declared.fault.ReadFault.{ReadFault}
use Rattle.tf_read.specs.declared.fault.ReadFault.TheVariants.{EndsEarly}
use Rattle.tf_model.specs.Outcome.{◌>>=◌}
use Rattle.tf_read.specs.Faults.{each_from, number_at}
use Rattle.tf_read.specs.FlowShop.{shop_number, machines_kept, time_place, job_with, shop_job, shop_jobs, shop_of, pairs_of}
use Rattle.tf_read.specs.Pairs.{Pairs, first, second, count, shop_wanted, shop_missing, AreKept, kept_job, kept_jobs, HoldsShop, HasReadShop, IsTime, AreTimes}
use Rattle.tf_model.proofs.Judged.{judged as is_instance}
use Rattle.tf_read.proofs.OneInstance.{none_at}
use Rattle.tf_read.proofs.FlowWords.{count_below, count_all}

goes_on : (n m : ℕ) (pair : Option (ℕ × ℕ)) (seen : List Word) (r : Result (List ℤ) ReadFault)
    → each_from (shop_number m) 0 (take (2 * n * m) seen) ≡ r
    → pairs_of n m pair seen ≡ (r >>= λ numbers. shop_of n m pair numbers)
unfolding pairs_of
goes_on n m pair seen r h = ap (λ x. x >>= λ numbers. shop_of n m pair numbers) h

-- the fault
missing_at : (fault : Option ReadFault) (p : Pairs) (pair : Option (ℕ × ℕ)) (seen : List Word)
    (e : ReadFault)
    → p.machine < p.machines
    → HoldsShop fault p (each_from (shop_number p.machines) 0 (take (shop_wanted p) seen))
    → option_or fault (cond (ltb p.job p.jobs) (Some EndsEarly) None) ≡ Some e
    → pairs_of p.jobs p.machines pair seen ≡ Err e
missing_at (Some d) p pair seen e within h m = goes_on p.jobs p.machines pair seen (Err d) h
    ∙ (let same : d ≡ e = cc in ap (λ x. Err x) same)
missing_at None p pair seen e within h m = elim (cases_Bool (ltb p.job p.jobs)) [
  | inl early ↦
      let same : EndsEarly ≡ e = let d : Some EndsEarly ≡ Some e = rw early at m in cc in
      let lt : count p < shop_wanted p = count_below p (ltb-true p.job p.jobs early) within in
      let cut : ltb (length h.0) (2 * p.jobs * p.machines) ≡ true =
      lt-ltb _ _ (omega (arith, lt, h.2)) in
      goes_on p.jobs p.machines pair seen (Ok h.0) h.1 ∙ rw cut (ap (λ x. Err x) same)
  | inr over ↦ absurd (let d : None ≡ Some e = rw over at m in let f : ⊥ = cc in f)
]

pub missing_is : (p : Pairs) (seen : List Word) (e : ReadFault) → p.machine < p.machines
    → HasReadShop p seen → shop_missing p ≡ Some e → pairs_of p.jobs p.machines p.pair seen ≡ Err e
missing_is p seen e within h m = missing_at p.fault p p.pair seen e within h m

-- nothing is missing
none_missing : (fault : Option ReadFault) (p : Pairs)
    → option_or fault (cond (ltb p.job p.jobs) (Some EndsEarly) None) ≡ None
    → (fault ≡ None) × (p.jobs ≤ p.job)
none_missing (Some d) p m = absurd (let f : ⊥ = cc in f)
none_missing None p m = elim (cases_Bool (ltb p.job p.jobs)) [
  | inl early ↦ absurd (let d : Some EndsEarly ≡ None = rw early at m in let f : ⊥ = cc in f)
  | inr over ↦ (refl, ltb-false p.job p.jobs over)
]

pub all_over : (p : Pairs) → shop_missing p ≡ None → p.jobs ≤ p.job
all_over p m = (none_missing p.fault p m).1

holds : (p : Pairs) (seen : List Word) → shop_missing p ≡ None → HasReadShop p seen
    → HoldsShop None p (each_from (shop_number p.machines) 0 (take (shop_wanted p) seen))
holds p seen m h =
    subst (λ (o : Option ReadFault). HoldsShop o p
    (each_from (shop_number p.machines) 0 (take (shop_wanted p) seen)))
    (none_missing p.fault p m).0 h

-- behind the last job no time is left over
pub whole_length : (n jobs job machine first : ℕ) → n ≡ job + cond (ltb first machine) 1 0
    → machine ≡ 0 → jobs ≤ job → job ≤ jobs → n ≡ jobs
whole_length n jobs job machine first is none over few =
    let here : ltb first machine ≡ false = le-ltb _ _ (omega (arith, none)) in
    let same : n ≡ job + 0 = rw here at is in
    omega (arith, same)

-- the jobs of the times that were kept are those of the numbers
same_made : {X : Type 0} (f g : ℕ → X) (a n : ℕ)
    → ((j : ℕ) → a ≤ j → j < a + n → f j ≡ g j)
    → map f (range_with_len a n) ≡ map g (range_with_len a n)
same_made f g a zero same = refl
same_made {X} f g a (suc n) same =
    ap (λ (x : X). x ∷ map f (range_with_len (a + 1) n)) (same a (omega arith) (omega arith))
    ∙ ap (λ (xs : List X). g a ∷ xs)
    (same_made f g (a + 1) n (λ j le lt. same j (omega arith) (omega arith)))

same_jobs : (p : Pairs) (all : List ℤ) → AreKept p (first p) p.firsts all
    → AreKept p (second p) p.seconds all → length p.firsts ≡ p.jobs → length p.seconds ≡ p.jobs
    → shop_jobs p.jobs p.machines (first p) (second p) all
    ≡ kept_jobs p.jobs p.machines p.firsts p.seconds
same_jobs p all ones twos firsts seconds =
    same_made (shop_job p.machines (first p) (second p) all)
    (kept_job p.machines p.firsts p.seconds) 0
    p.jobs
    (λ j le lt.
    ap (λ (z : ℤ). job_with p.machines z (number_at all (time_place p.machines (second p) j)))
    (sym (ones.each j (omega (arith, lt, firsts))).1)
    ∙ ap (λ (z : ℤ). job_with p.machines (number_at p.firsts j) z)
    (sym (twos.each j (omega (arith, lt, seconds))).1))

pub whole_is : (p : Pairs) (seen : List Word) → p.job ≤ p.jobs → (p.jobs ≤ p.job → p.machine ≡ 0)
    → (p.jobs ≤ p.job → p.is_named ≡ false) → HasReadShop p seen → shop_missing p ≡ None
    → pairs_of p.jobs p.machines p.pair seen
    ≡ Ok (record {
      jobs = kept_jobs p.jobs p.machines p.firsts p.seconds;
      arcs = [];
      machines = Some (machines_kept p.machines p.pair);
    })
whole_is p seen few machine named h m =
    let le = all_over p m in
    let w = holds p seen m h in
    let all : count p ≡ shop_wanted p = count_all p (omega arith) (machine le) (named le) in
    let long : ltb (length w.0) (2 * p.jobs * p.machines) ≡ false =
    le-ltb _ _ (omega (arith, all, w.2)) in
    let firsts : length p.firsts ≡ p.jobs =
    whole_length _ p.jobs p.job p.machine (first p) w.3.tally (machine le) le few in
    let seconds : length p.seconds ≡ p.jobs =
    whole_length _ p.jobs p.job p.machine (second p) w.4.tally (machine le) le few in
    goes_on p.jobs p.machines p.pair seen (Ok w.0) w.1
    ∙ rw (long, same_jobs p w.0 w.3 w.4 firsts seconds) refl

-- times with one more
none_there : AreTimes []
none_there = record { each = λ j. (refl, refl) }

pub no_times : (times : List ℤ) → times ≡ [] → AreTimes times
no_times times none = subst AreTimes (sym none) none_there

each_time : (times : List ℤ) (z : ℤ) → ((j : ℕ) → IsTime (number_at times j)) → IsTime z → (j : ℕ)
    → IsTime (number_at (times ++ z ∷ []) j)
each_time [] z all here zero = here
each_time [] z all here (suc j) = (refl, refl)
each_time (y ∷ ys) z all here zero = all 0
each_time (y ∷ ys) z all here (suc j) = each_time ys z (λ i. all (suc i)) here j

more_there : (times : List ℤ) (z : ℤ) → AreTimes times → IsTime z → AreTimes (times ++ z ∷ [])
more_there times z all here = record { each = each_time times z all.each here }

pub times_more : (times new : List ℤ) (z : ℤ) → AreTimes times → IsTime z → new ≡ times ++ z ∷ []
    → AreTimes new
times_more times new z all here more = subst AreTimes (sym more) (more_there times z all here)

-- a job's times
job_ok : (m : ℕ) (firsts seconds : List ℤ) (j : ℕ) → IsTime (number_at firsts j)
    → IsTime (number_at seconds j)
    → (has_negative (kept_job m firsts seconds j) ≡ false)
    × (has_beyond (kept_job m firsts seconds j) ≡ false)
job_ok m firsts seconds j a b = elim (cases_Bool (eqb m 1)) [
  | inl e ↦ (rw (e, a.0) refl, rw (e, a.1) refl)
  | inr e ↦ (rw (e, a.0, b.0) refl, rw (e, a.1, b.1) refl)
]

machines_ok : (m : ℕ) (pair : Option (ℕ × ℕ)) → 0 < m → m ≤ most_machines
    → count_fault (Some (machines_kept m pair)) ≡ None
machines_ok m None some few =
    let low : ltb m 1 ≡ false = le-ltb _ _ (omega arith) in
    let high : ltb most_machines m ≡ false = le-ltb _ _ few in
    rw (low, high) refl
machines_ok m (Some pair) some few = refl

pub whole_judged : (jobs machines : ℕ) (pair : Option (ℕ × ℕ)) (firsts seconds : List ℤ) → 0 < jobs
    → jobs ≤ most_jobs → 0 < machines → machines ≤ most_machines → AreTimes firsts
    → AreTimes seconds
    → IsInstance
    (record {
      jobs = kept_jobs jobs machines firsts seconds;
      arcs = [];
      machines = Some (machines_kept machines pair);
    })
whole_judged jobs machines pair firsts seconds some few machines_some machines_few first_times
    second_times =
    let length_is : length (kept_jobs jobs machines firsts seconds) ≡ jobs =
    length-map-range_with_len (kept_job machines firsts seconds) 0 jobs in
    is_instance (record {
      jobs = kept_jobs jobs machines firsts seconds;
      arcs = [];
      machines =
          Some (machines_kept machines pair);
    }) (record {
      some = omega (arith, length_is);
      few = omega (arith, length_is);
      machines = machines_ok machines pair machines_some machines_few;
      arcs = omega arith;
      negative = none_at has_negative (kept_job machines firsts seconds) jobs
          (λ j lt. (job_ok machines firsts seconds j (first_times.each j) (second_times.each j)).0);
      beyond = none_at has_beyond (kept_job machines firsts seconds) jobs
          (λ j lt. (job_ok machines firsts seconds j (first_times.each j) (second_times.each j)).1);
      bad_arc = refl;
    })
