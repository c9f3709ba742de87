-- The bound by potentials of jobs that wait nowhere in a flow shop: along the jobs by their starts
-- the first begins at its release date or later, and each other one after the one before it.
use Rattle.std.proofs.Common.{◌≡◌, ◌≢◌, Bool, true, false, ℕ, ◌+◌, ◌≤◌, nat_lt, List, [], ◌∷◌, length, cond, refl, sym, ap, ◌∙◌, arith, All, ℤ, pos, ◌+ℤ◌, ◌-ℤ◌, ◌≤ℤ◌, IsTrue}
use Rattle.std.specs.List.{AllPairs}
use Rattle.std.proofs.lemmas.Int.{ints}
use Rattle.std.proofs.lemmas.Bool.{or_right, ltb-true, ltb-false}
use Rattle.std.proofs.lemmas.List.Kept.{AllPairs-cons}
use Rattle.std.proofs.lemmas.List.Elements.{All-cons, All-nil, All-head, All-tail}
use Rattle.std.proofs.lemmas.List.FromFn.{length-range_with_len}
use Rattle.tf_model.specs.Timetable.{completion}
use Rattle.tf_model.specs.ClassTable.{is_single_env, is_shop_env, is_flow_env}
use Rattle.tf_posed.specs.ProblemData.{ProblemData, IsProblemSound, IsProblemJob, problem_jobs, problem_time, time_over, problem_release, problem_due}
use Rattle.tf_posed.specs.ProblemCost.{problem_cost, IsLowerBound}
use Rattle.tf_problem.specs.ProblemBounds.{int_sum, is_by_machine, is_max_goal, problem_work}
use Rattle.tf_problem.specs.Potentials.{potential_of_end, potential_after, potential_before, start_delay, ArePotentials, potentials_value, HaveTimeOnAll}
use Rattle.tf_problem.proofs.RouteLists.{range-apart, AllPairs-first, AllPairs-rest}
use Rattle.tf_posed.proofs.Conditions.{All-problem_jobs}
use Rattle.tf_problem.proofs.Routes.{flow_shop, total-le-completion}
use Rattle.tf_problem.proofs.Least.{late-le-cost}
use Rattle.tf_problem.proofs.NoWait.{start, delayed}

-- ---- jobs by falling start

-- a job before those that begin no later
insert : (ℕ → ℕ) → ℕ → List ℕ → List ℕ
insert s x [] = x ∷ []
insert s x (y ∷ ys) = cond (nat_lt (s x) (s y)) (y ∷ insert s x ys) (x ∷ y ∷ ys)

sorted : (ℕ → ℕ) → List ℕ → List ℕ
sorted s [] = []
sorted s (x ∷ xs) = insert s x (sorted s xs)

insert-sum : (f : ℕ → ℤ) (s : ℕ → ℕ) (x : ℕ) (ys : List ℕ)
    → int_sum f (insert s x ys) ≡ f x +ℤ int_sum f ys
unfolding insert
insert-sum f s x [] = refl
insert-sum f s x (y ∷ ys) = by (nat_lt (s x) (s y)) (insert-sum f s x ys)
  where
    swapped : (a b c d : ℤ) → a ≡ b +ℤ c → (d +ℤ a) ≡ b +ℤ (d +ℤ c)
    swapped a b c d e = omega (arith, ints, e)

    by : (b : Bool) → int_sum f (insert s x ys) ≡ f x +ℤ int_sum f ys
        → int_sum f (cond b (y ∷ insert s x ys) (x ∷ y ∷ ys)) ≡ f x +ℤ int_sum f (y ∷ ys)
    by true e = swapped (int_sum f (insert s x ys)) (f x) (int_sum f ys) (f y) e
    by false e = refl

sorted-sum : (f : ℕ → ℤ) (s : ℕ → ℕ) (xs : List ℕ) → int_sum f (sorted s xs) ≡ int_sum f xs
unfolding sorted
sorted-sum f s [] = refl
sorted-sum f s (x ∷ xs) =
    insert-sum f s x (sorted s xs) ∙ ap (λ z. f x +ℤ z) (sorted-sum f s xs)

insert-all : (P : ℕ → Type 0) (s : ℕ → ℕ) (x : ℕ) (ys : List ℕ) → P x → All P ys
    → All P (insert s x ys)
unfolding insert
insert-all P s x [] here all = All-cons P x [] here all
insert-all P s x (y ∷ ys) here all =
    by (nat_lt (s x) (s y)) (insert-all P s x ys here (All-tail P y ys all))
  where
    by : (b : Bool) → All P (insert s x ys) → All P (cond b (y ∷ insert s x ys) (x ∷ y ∷ ys))
    by true rest = All-cons P y (insert s x ys) (All-head P y ys all) rest
    by false rest = All-cons P x (y ∷ ys) here all

sorted-all : (P : ℕ → Type 0) (s : ℕ → ℕ) (xs : List ℕ) → All P xs → All P (sorted s xs)
unfolding sorted
sorted-all P s [] all = all
sorted-all P s (x ∷ xs) all =
    insert-all P s x (sorted s xs) (All-head P x xs all) (sorted-all P s xs (All-tail P x xs all))

-- the first begins no earlier than the second, which is another
abbrev BeginsLater : (ℕ → ℕ) → ℕ → ℕ → Type 0
BeginsLater s x y = (s y ≤ s x) × (x ≢ y)

insert-pairs : (s : ℕ → ℕ) (x : ℕ) (ys : List ℕ) → All (λ y. x ≢ y) ys
    → AllPairs (BeginsLater s) ys → AllPairs (BeginsLater s) (insert s x ys)
unfolding insert
insert-pairs s x [] apart pairs =
    AllPairs-cons (BeginsLater s) x [] (All-nil (BeginsLater s x)) pairs
insert-pairs s x (y ∷ ys) apart pairs =
    by (nat_lt (s x) (s y)) refl
    (insert-pairs s x ys (All-tail (λ z. x ≢ z) y ys apart)
    (AllPairs-rest (BeginsLater s) y ys pairs))
  where
    other : x ≢ y
    other = All-head (λ z. x ≢ z) y ys apart

    by : (b : Bool) → nat_lt (s x) (s y) ≡ b → AllPairs (BeginsLater s) (insert s x ys)
        → AllPairs (BeginsLater s) (cond b (y ∷ insert s x ys) (x ∷ y ∷ ys))
    by true e rest =
        AllPairs-cons (BeginsLater s) y (insert s x ys)
        (insert-all (BeginsLater s y) s x ys
        (omega (arith, ltb-true (s x) (s y) e), λ same. other (sym same))
        (AllPairs-first (BeginsLater s) y ys pairs)) rest
    by false e rest =
        let le : s y ≤ s x = ltb-false (s x) (s y) e in
        let behind : All (BeginsLater s y) ys = AllPairs-first (BeginsLater s) y ys pairs in
        let apart_rest : All (λ z. x ≢ z) ys = All-tail (λ z. x ≢ z) y ys apart in
        AllPairs-cons (BeginsLater s) x (y ∷ ys)
        (All-cons (BeginsLater s x) y ys (le, other)
        (λ p d h. (omega (arith, le, (behind p d h).0), apart_rest p d h))) pairs

sorted-pairs : (s : ℕ → ℕ) (xs : List ℕ) → AllPairs (λ a b. a ≢ b) xs
    → AllPairs (BeginsLater s) (sorted s xs)
unfolding sorted
sorted-pairs s [] apart = λ i j d lt h. absurd (omega (arith, h))
sorted-pairs s (x ∷ xs) apart =
    insert-pairs s x (sorted s xs)
    (sorted-all (λ y. x ≢ y) s xs (AllPairs-first (λ a b. a ≢ b) x xs apart))
    (sorted-pairs s xs (AllPairs-rest (λ a b. a ≢ b) x xs apart))

insert-some : (s : ℕ → ℕ) (x : ℕ) (ys : List ℕ) → 1 ≤ length (insert s x ys)
unfolding insert
insert-some s x [] = omega arith
insert-some s x (y ∷ ys) = by (nat_lt (s x) (s y))
  where
    by : (b : Bool) → 1 ≤ length (cond b (y ∷ insert s x ys) (x ∷ y ∷ ys))
    by true = omega arith
    by false = omega arith

sorted-some : (s : ℕ → ℕ) (xs : List ℕ) → 1 ≤ length xs → 1 ≤ length (sorted s xs)
unfolding sorted
sorted-some s [] some = some
sorted-some s (x ∷ xs) some = insert-some s x (sorted s xs)

-- ---- potentials along the jobs

module _ (s : ℕ → ℕ) (u v : ℕ → ℤ) (J : ℕ → Type 0)
    (begins : (j : ℕ) → J j → v j ≤ℤ pos (s j))
    (next : (i j : ℕ) → J i → J j → i ≢ j → s i ≤ s j → (pos (s i) +ℤ (u i +ℤ v j)) ≤ℤ pos (s j))
  where
    -- those of the jobs up to one come to no more than its start and its own towards the next
    up_to : (j : ℕ) (jobs : List ℕ) → All J (j ∷ jobs) → AllPairs (BeginsLater s) (j ∷ jobs)
        → int_sum (λ i. u i +ℤ v i) (j ∷ jobs) ≤ℤ (pos (s j) +ℤ u j)
    up_to j [] all pairs = alone (s j) (u j) (v j) (begins j (All-head J j [] all))
      where
        alone : (t : ℕ) (x y : ℤ) → y ≤ℤ pos t → ((x +ℤ y) +ℤ pos 0) ≤ℤ (pos t +ℤ x)
        alone t x y h = omega (arith, ints, h)
    up_to j (i ∷ jobs) all pairs =
        let rest : All J (i ∷ jobs) = All-tail J j (i ∷ jobs) all in
        let later : BeginsLater s j i =
        All-head (BeginsLater s j) i jobs (AllPairs-first (BeginsLater s) j (i ∷ jobs) pairs) in
        longer (s i) (s j) (u i) (u j) (v j) (int_sum (λ i. u i +ℤ v i) (i ∷ jobs))
        (up_to i jobs rest (AllPairs-rest (BeginsLater s) j (i ∷ jobs) pairs))
        (next i j (All-head J i jobs rest) (All-head J j (i ∷ jobs) all) (λ same. later.1 (sym same))
        later.0)
      where
        longer : (t e : ℕ) (x y z r : ℤ) → r ≤ℤ (pos t +ℤ x) → (pos t +ℤ (x +ℤ z)) ≤ℤ pos e
            → ((y +ℤ z) +ℤ r) ≤ℤ (pos e +ℤ y)
        longer t e x y z r p q = omega (arith, ints, p, q)

    -- so some job has all of them before the end of its own
    some_last : (jobs : List ℕ) → 1 ≤ length jobs → All J jobs → AllPairs (BeginsLater s) jobs
        → (l : ℕ) × J l × (int_sum (λ i. u i +ℤ v i) jobs ≤ℤ (pos (s l) +ℤ u l))
    some_last [] some all pairs = absurd (omega (arith, some))
    some_last (l ∷ jobs) some all pairs = (l, All-head J l jobs all, up_to l jobs all pairs)

-- flow shops whose jobs wait nowhere: the makespan or the maximum lateness
pub potentials-bound : (k : ProblemData) → IsProblemSound k → IsTrue (is_flow_env k.problem.env)
    → IsTrue k.problem.nwt → IsTrue (is_max_goal k.problem.goal) → HaveTimeOnAll k → (p : List ℤ)
    → ArePotentials k p → IsLowerBound k (potentials_value k p)
potentials-bound k sound flow no_wait max timed p are rows fits =
    let s : ℕ → ℕ = start k rows in
    let u : ℕ → ℤ = potential_after p in
    let v : ℕ → ℤ = potential_before p in
    let jobs : List ℕ = sorted s (problem_jobs k) in
    let last = some_last s u v (IsProblemJob k) begins next jobs
    (sorted-some s (problem_jobs k)
    (omega (arith, sound.some_job, length-range_with_len 1 (length k.jobs))))
    (sorted-all (IsProblemJob k) s (problem_jobs k) (All-problem_jobs k (IsProblemJob k) (λ j h. h)))
    (sorted-pairs s (problem_jobs k) (range-apart 1 (length k.jobs))) in
    let l : ℕ = last.0 in
    chain (int_sum (λ j. u j +ℤ v j) (problem_jobs k)) (int_sum (λ j. u j +ℤ v j) jobs) (s l)
    (completion rows l) (problem_work k l) (u l) (potential_of_end p) (problem_due k l)
    (problem_cost k rows)
    (sorted-sum (λ j. u j +ℤ v j) s (problem_jobs k)) last.2 (are.by_end l last.1) (ends l last.1)
    (late-le-cost k rows max l last.1 (completion rows l) (omega arith))
  where
    by : IsTrue (is_by_machine k.problem.env)
    by = or_right (is_single_env k.problem.env) (is_shop_env k.problem.env)
        (flow_shop k.problem.env flow)

    work_is : (j : ℕ) → problem_work k j ≡ time_over k j 0 k.machines
    work_is j =
        ap (λ b. cond b (time_over k j 0 k.machines) (problem_time k j)) (flow_shop k.problem.env flow)

    ends : (j : ℕ) → IsProblemJob k j → start k rows j + problem_work k j ≤ completion rows j
    ends j h = omega (arith, work_is j, total-le-completion k sound rows fits by j h)

    begins : (j : ℕ) → IsProblemJob k j → potential_before p j ≤ℤ pos (start k rows j)
    begins j h =
        from (potential_before p j) (problem_release k j) (start k rows j) (are.by_release j h)
        (omega (arith, total-le-completion k sound rows fits by j h))
      where
        from : (z : ℤ) (r t : ℕ) → z ≤ℤ pos r → r ≤ t → z ≤ℤ pos t
        from z r t p q = omega (arith, ints, p, q)

    next : (i j : ℕ) → IsProblemJob k i → IsProblemJob k j → i ≢ j
        → start k rows i ≤ start k rows j
        → (pos (start k rows i) +ℤ (potential_after p i +ℤ potential_before p j))
        ≤ℤ pos (start k rows j)
    next i j job_i job_j apart le =
        after (start k rows i) (start k rows j) (start_delay k i j)
        (potential_after p i +ℤ potential_before p j) (are.between i j job_i job_j apart)
        (delayed k sound flow no_wait rows fits i j job_i job_j apart (timed j job_j) le)
      where
        after : (t e n : ℕ) (z : ℤ) → z ≤ℤ pos n → t + n ≤ e → (pos t +ℤ z) ≤ℤ pos e
        after t e n z p q = omega (arith, ints, p, q)

    chain : (all sum : ℤ) (t c w : ℕ) (x y d o : ℤ) → sum ≡ all → sum ≤ℤ (pos t +ℤ x)
        → (x +ℤ y) ≤ℤ (pos w -ℤ d) → t + w ≤ c → (pos c -ℤ d) ≤ℤ o → (y +ℤ all) ≤ℤ o
    chain all sum t c w x y d o e p q h r = omega (arith, ints, e, p, q, h, r)
